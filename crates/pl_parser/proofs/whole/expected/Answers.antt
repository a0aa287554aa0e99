use Rattle.std.proofs.Common.{arith, inl}
use Rattle.pl_grammar.specs.Refusals.{GoesOnWith}
use Rattle.pl_parser.proofs.Least.{following-within, following-more, following-code, following-none}
use Rattle.pl_parser.proofs.whole.expected.Goals as goal

pub codes-init : goal.codes-init
codes-init c = record { within = omega arith; code = inl (omega arith); none = λ m less. absurd (omega arith) }

pub codes-preserved : goal.codes-preserved
codes-preserved c =
    let last = rw c.if-branch.false at c.in_ok-goes_on_with.ensures in
    rw c.following-code.ensures (record {
      within = following-within c.codes.code c.codes-test.true;
      code = following-code c.codes.code c.codes-test.true c.codes.invariant.code;
      none = following-none c.codes.code c.codes-test.true (GoesOnWith c.args.before.now) c.codes.invariant.none last;
    })

pub codes-smaller : goal.codes-smaller
codes-smaller c = omega (arith, c.following-code.ensures, following-more c.codes.code c.codes-test.true, following-within c.codes.code c.codes-test.true)

pub returns-then-branch : goal.returns-then-branch
returns-then-branch c =
    let last = rw c.if-branch.true at c.in_ok-goes_on_with.ensures in
    record { least = record { goes_on = λ h. last; least = c.codes.invariant.none }; code = (c.codes.invariant.code, c.codes.invariant.within) }

pub returns : goal.returns
returns c = record {
  least = record { goes_on = λ h. absurd (omega (arith, c.codes-test.false)); least = c.codes.invariant.none };
  code = (c.codes.invariant.code, c.codes.invariant.within);
}
