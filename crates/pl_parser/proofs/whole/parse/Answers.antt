use Rattle.std.proofs.Common.{ℕ, ◌≤◌, subst}
use Rattle.std.proofs.lemmas.List.{length-map}
use Rattle.pl_syntax.specs.Plain.{plain_decl}
use Rattle.pl_grammar.proofs.Within.{within_found}
use Rattle.pl_parser.proofs.Refusing.{none_of, one_of}
use Rattle.pl_parser.proofs.whole.parse.Goals as goal

pub returns-in-Ok-clause-program : goal.returns-in-Ok-clause-program
returns-in-Ok-clause-program c =
    let h = rw c.as_slice-all.ensures at c.in-Ok.ensures in
    let f = within_found c.args.tokens.now _ h in
    (f.0, subst (λ (n : ℕ). n ≤ 4096) (length-map c.in-Ok.program.decls plain_decl) f.1)

pub returns-in-Ok-clause-all_programs : goal.returns-in-Ok-clause-all_programs
returns-in-Ok-clause-all_programs c = let h = rw c.as_slice-all.ensures at c.in-Ok.ensures in λ p f le. one_of c.args.tokens.now p _ h f le

pub returns-in_ok-refusal-in-Err-Stop-clause-all_programs : goal.returns-in_ok-refusal-in-Err-Stop-clause-all_programs
returns-in_ok-refusal-in-Err-Stop-clause-all_programs c =
    let h = rw (c.as_slice-all.ensures, c.in-Err-Stop.field-0-is) at c.in-Err-Stop.ensures in
    λ p f le. absurd (none_of c.args.tokens.now _ p h f le)

pub refusal-requires : goal.refusal-requires
refusal-requires c = rw c.in-Err-Stop.field-0-is at c.in-Err-Stop.ensures

pub returns-in_ok-refusal-in-Err-Stop-clause-refusal : goal.returns-in_ok-refusal-in-Err-Stop-clause-refusal
returns-in_ok-refusal-in-Err-Stop-clause-refusal c = rw c.as_slice-all.ensures at c.in_ok-refusal-in-Err-Stop.ensures
