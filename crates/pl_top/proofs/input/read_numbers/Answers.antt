use Rattle.std.proofs.Common.{◌≡◌, ℤ, List, sym, ◌∙◌, subst, arith}
use Rattle.pl_top.specs.Input.{input_of}
use Rattle.pl_top.proofs.InputLines.{onto, onto_none, refused_line, all_read, nothing_left}
use Rattle.pl_top.proofs.input.read_numbers.Goals as goal

pub loop-rest-init : goal.loop-rest-init
loop-rest-init c = record {
  read = let P : List ℤ → Type 0 = λ zs. input_of c.args.bytes.now ≡ onto zs (input_of c.args.bytes.now) in subst P (sym c.new-numbers.ensures.items) (onto_none _);
  few = omega arith;
  short = c.requires;
}

pub returns-in_default : goal.returns-in_default
returns-in_default c = refused_line c.args.bytes.now c.loop-rest.rest.now c.first_line.result.0.now c.first_line.result.1.now c.loop-rest.numbers.items c.loop-rest.line c.loop-rest.invariant.read c.first_line.ensures.lines (sym c.number_of.ensures ∙ c.in_default.is)

pub returns : goal.returns
returns c = all_read c.args.bytes.now c.loop-rest.rest.now c.loop-rest.numbers.items c.loop-rest.line c.loop-rest.invariant.read (nothing_left _ _ c.is_empty.ensures c.loop-rest-test.false)
