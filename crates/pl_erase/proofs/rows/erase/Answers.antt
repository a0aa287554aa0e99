use Rattle.std.proofs.Common.{arith, ◌≡◌, sym, subst}
use Rattle.std.proofs.lemmas.Grind.{common_steps}
use Rattle.c_syntax.specs.declared.program.CProgram.{CProgram}
use Rattle.c_syntax.specs.Plain as out
use Rattle.c_syntax.specs.Fragment.{IsFragment}
use Rattle.pl_syntax.specs.Plain as source
use Rattle.pl_erase.specs.Emitted.{emitted}
use Rattle.pl_erase.proofs.Fragments.{fragment}
use Rattle.pl_erase.proofs.rows.erase.Goals as goal

pub returns-clause-fragment : goal.returns-clause-fragment
returns-clause-fragment c =
    let made : CProgram = record { structs = c.of.result; funs = c.of-2.result } in
    let same : out.plain_program made ≡ emitted (source.plain_program c.args.straight.now) = grind (arith, common_steps) in
    subst IsFragment (sym same) (fragment (source.plain_program c.args.straight.now) c.program.ensures.straight)
