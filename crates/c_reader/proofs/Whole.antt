-- What a text without breaches has, group by group.
use Rattle.std.proofs.Common.{◌≡◌, refl, ℕ, ◌+◌, Some, [], ◌++◌, length, map, arith}
use Rattle.std.specs.Prelude.{flat_map, codes}
use Rattle.c_syntax.specs.PreludeText.{prelude}
use Rattle.c_forms.specs.declared.source.Head.{Head}
use Rattle.c_forms.specs.Text.{fun_text, prototype_text, starter_text, struct_text}
use Rattle.c_forms.specs.Tree as w
use Rattle.c_rules.specs.Groups.{Taken, breaches, funs_breaches, known_in, nothing, prototypes_breaches, put_all, started, starters_breaches, structs_breaches}
use Rattle.c_rules.specs.Sorts.{unless_some}
use Rattle.c_rules.proofs.ExprRules.{none_both}
use Rattle.c_reader.specs.Standing.{program_of}
use Rattle.c_reader.proofs.Breachless.{there}
use Rattle.c_reader.proofs.CellTypes.{Heads}
use Rattle.c_reader.proofs.Functions.{Funs, funs}
use Rattle.c_reader.proofs.Groups.{Structures, stands, structures}

-- the names of structures are taken where the prototypes begin
abbrev pub structs_taken : w.Source → Taken
structs_taken s = put_all (map (λ d. d.name) s.structs) nothing

-- what a head stands for in the program
pub heads_stand : (s : w.Source) → Heads (program_of s) (known_in s)
heads_stand s f g h = stands (known_in s).structs (program_of s) s.funs refl f g h

-- what is known of the groups, none of which has a breach
pub record Whole (s : w.Source) : Type 0 where
  pub structs : Structures (program_of s) nothing s.structs
  pub funs : Funs (program_of s) (structs_taken s) s.prototypes s.funs
  pub starters : (at : ℕ) × (starters_breaches at s.starters (started s.funs) ≡ [])
  pub lines : (at count : ℕ) × (funs_breaches (known_in s) count 0 at s.funs ≡ [])
  pub main : (g : Head) × ((known_in s).heads (codes "main") ≡ Some g)

pub whole : (s : w.Source) → breaches s ≡ [] → Whole s
unfolding breaches
whole s h =
    let known = known_in s in
    let first = length prelude in
    let second = first + length (flat_map struct_text s.structs) in
    let third = second + length (flat_map prototype_text s.prototypes) in
    let fourth = third + length (flat_map starter_text s.starters) in
    let last = fourth + length (flat_map fun_text s.funs) in
    let A = structs_breaches known.structs nothing first s.structs in
    let B = prototypes_breaches known.structs (structs_taken s) second s.prototypes s.funs in
    let C = starters_breaches third s.starters (started s.funs) in
    let D = funs_breaches known (length s.prototypes) 0 fourth s.funs in
    let E = unless_some (known.heads (codes "main")) (last + 19) in
    let e = none_both (A ++ B ++ C ++ D) E h in
    let d = none_both (A ++ B ++ C) D e.0 in
    let c = none_both (A ++ B) C d.0 in
    let b = none_both A B c.0 in
    record {
      structs = structures (program_of s) nothing first s.structs b.0;
      funs = funs (program_of s) known.heads known.missing (heads_stand s) (structs_taken s) (length s.prototypes) 0 second fourth s.prototypes s.funs (omega arith) b.1 d.1;
      starters = (third, c.1);
      lines = (fourth, length s.prototypes, d.1);
      main = there (known.heads (codes "main")) (last + 19) e.1;
    }
