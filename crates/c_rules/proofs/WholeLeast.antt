-- The first breach of a whole text, from those of its groups.
use Rattle.std.proofs.Common.{◌≡◌, ◌∙◌, sym, ap, refl, ℕ, ◌+◌, Bool, Option, Some, None, List, ◌++◌, length, map, flat_map}
use Rattle.std.specs.Prelude.{codes}
use Rattle.std.specs.Option.{is_some}
use Rattle.c_syntax.specs.PreludeText.{prelude}
use Rattle.c_forms.specs.Tree.{Source}
use Rattle.c_forms.specs.Text.{struct_text, prototype_text, starter_text, fun_text}
use Rattle.c_rules.specs.Groups.{breaches, funs_breaches, known_in, nothing, prototypes_breaches, put_all, started, starters_breaches, structs_breaches}
use Rattle.c_rules.specs.Least.{earlier, least}
use Rattle.c_rules.specs.Sorts.{unless, unless_some}
use Rattle.c_rules.proofs.Leasts.{least_append}

main_there : {X : Type 0} (o : Option X) (at : ℕ) → unless_some o at ≡ unless (is_some o) at
main_there None at = refl
main_there (Some x) at = refl

pub whole_least : (s : Source) →
    let known = known_in s in
    let first = length prelude in
    let second = first + length (flat_map struct_text s.structs) in
    let third = second + length (flat_map prototype_text s.prototypes) in
    let fourth = third + length (flat_map starter_text s.starters) in
    let last = fourth + length (flat_map fun_text s.funs) in
    least (breaches s) ≡ earlier (earlier (earlier (earlier
    (least (structs_breaches known.structs nothing first s.structs))
    (least (prototypes_breaches known.structs (put_all (map (λ d. d.name) s.structs) nothing) second s.prototypes s.funs)))
    (least (starters_breaches third s.starters (started s.funs))))
    (least (funs_breaches known (length s.prototypes) 0 fourth s.funs)))
    (least (unless (is_some (known.heads (codes "main"))) (last + 19)))
unfolding breaches
whole_least s =
    let known = known_in s in
    let first = length prelude in
    let second = first + length (flat_map struct_text s.structs) in
    let third = second + length (flat_map prototype_text s.prototypes) in
    let fourth = third + length (flat_map starter_text s.starters) in
    let last = fourth + length (flat_map fun_text s.funs) in
    let A = structs_breaches known.structs nothing first s.structs in
    let B = prototypes_breaches known.structs (put_all (map (λ d. d.name) s.structs) nothing) second s.prototypes s.funs in
    let C = starters_breaches third s.starters (started s.funs) in
    let D = funs_breaches known (length s.prototypes) 0 fourth s.funs in
    let E = unless_some (known.heads (codes "main")) (last + 19) in
    least_append (A ++ B ++ C ++ D) E
    ∙ ap (λ x. earlier x (least E))
    (least_append (A ++ B ++ C) D ∙ ap (λ x. earlier x (least D)) (least_append (A ++ B) C ∙ ap (λ x. earlier x (least C)) (least_append A B)))
    ∙ ap (λ x. earlier (earlier (earlier (earlier (least A) (least B)) (least C)) (least D)) (least x)) (main_there (known.heads (codes "main")) (last + 19))
