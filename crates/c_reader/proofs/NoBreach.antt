-- What is written of a program that keeps the rules has no breach.
use Rattle.std.proofs.Common.{◌≡◌, ◌∙◌, ap, refl, ℕ, ◌+◌, Bool, false, Option, List, [], ◌∷◌, ◌++◌, length, map, filter, flat_map, arith}
use Rattle.std.specs.Prelude.{codes, nat_lt}
use Rattle.std.specs.List.{AllByRecursion, IsDistinct}
use Rattle.std.specs.Str.{bytes_eq}
use Rattle.std.proofs.lemmas.Bool.{lt-ltb}
use Rattle.std.proofs.lemmas.List.{length-map}
use Rattle.c_syntax.specs.declared.program.CStruct.{CStruct}
use Rattle.c_syntax.specs.Forms.{IsFunForm, IsProgramForm}
use Rattle.c_syntax.specs.PreludeText.{prelude}
use Rattle.c_syntax.specs.Rules.{FunFits, KeepsRules, members_of}
use Rattle.c_syntax.specs.Text.{is_started, line, type_text}
use Rattle.c_syntax.specs.Tree as t
use Rattle.c_syntax.specs.Tree.{Name}
use Rattle.c_forms.specs.declared.source.Head.{Head}
use Rattle.c_forms.specs.Text.{fun_text, head_text, prototype_text, starter_text, struct_text}
use Rattle.c_forms.specs.Tree as w
use Rattle.c_rules.specs.Groups.{among, body_breaches, breaches, fun_breaches, funs_breaches, head_of, known_in, missing, nothing, prototypes_breaches, put_all, started, starters_breaches, structs_breaches}
use Rattle.c_rules.specs.Lines.{Known}
use Rattle.c_rules.specs.Sorts.{unless, unless_some}
use Rattle.c_reader.proofs.Breachless as less
use Rattle.c_reader.proofs.Breachless.{join_none, some_there}
use Rattle.c_reader.proofs.Names.{Fresh}
use Rattle.c_reader.proofs.NoBreachBodies.{function_found}
use Rattle.c_reader.proofs.NoBreachGroups.{fresh, fresh_parts, heads_found, main_is_plain, prototypes_found, structs_found}
use Rattle.c_reader.proofs.NoBreachThreads.{none_missing, started_heads, starters_found}
use Rattle.c_reader.proofs.NoBreachTypes.{HeadsOf, MembersFit, members_fit}
use Rattle.c_reader.proofs.ReadBack.{structs_back}
use Rattle.c_reader.proofs.Written as written

-- ---- functions

module _ (p : t.Program) (heads : Name → Option Head) (missing : Name → Bool) (of : HeadsOf p heads) (none : (f : Name) → missing f ≡ false) (fit : MembersFit p.structs) where
  abbrev known : Known
  known = record { structs = members_of p.structs; heads = heads; missing = missing }

  -- functions, the first of which is the k-th
  pub functions_found : (fs : List t.Fun) → AllByRecursion IsFunForm fs → AllByRecursion (FunFits p) fs → (count k at : ℕ) → k + length fs ≡ count → funs_breaches known count k at (map written.fun fs) ≡ []
  functions_found [] form fits count k at e = refl
  functions_found (f ∷ fs) form fits count k at e =
      let g = written.fun f in
      let name = at + 7 + length (type_text f.result) in
      let begin = at + length (line 0 (head_text g.head ∷ codes " {" ∷ [])) in
      let behind = at + length (fun_text g) in
      join_none (fun_breaches known count k at g) (funs_breaches known count (k + 1) behind (map written.fun fs))
      (join_none (unless (nat_lt k count) name) (body_breaches known begin g) (less.no_breach (nat_lt k count) name (lt-ltb k count (omega arith)))
      (function_found p heads missing of none fit f form.0.body fits.0 begin))
      (functions_found fs form.1 fits.1 count (k + 1) behind (omega arith))

-- ---- names

-- the names that were declared in front of the prototypes
names_of : (ss : List CStruct) → map (λ d. d.name) (map written.struct ss) ≡ map (λ s. s.name) ss
names_of [] = refl
names_of (s ∷ ss) = ap (λ xs. s.name ∷ xs) (names_of ss)

distinct_behind : (xs ys : List Name) → IsDistinct bytes_eq (xs ++ ys) → IsDistinct bytes_eq ys
unfolding IsDistinct
distinct_behind [] ys h = h
distinct_behind (x ∷ xs) ys h = distinct_behind xs ys h.1

-- ---- texts

-- what the text declares
known_is : (p : t.Program) → IsProgramForm p → known_in (written.source p) ≡ record { structs = members_of p.structs; heads = head_of (map (λ f. f.head) (map written.fun p.funs)); missing = nothing }
known_is p form =
    ap (λ (ss : List CStruct). record { structs = members_of ss; heads = head_of (map (λ f. f.head) (map written.fun p.funs)); missing = among (missing (written.source p)) }) (structs_back p.structs)
    ∙ ap (λ (names : List Name). record { structs = members_of p.structs; heads = head_of (map (λ f. f.head) (map written.fun p.funs)); missing = among names }) (none_missing p form.funs)

-- all breaches, where that is declared
abbrev all_of : Known → w.Source → List ℕ
all_of known s =
    let first = length prelude in
    let second = first + length (flat_map struct_text s.structs) in
    let third = second + length (flat_map prototype_text s.prototypes) in
    let fourth = third + length (flat_map starter_text s.starters) in
    let last = fourth + length (flat_map fun_text s.funs) in
    structs_breaches known.structs nothing first s.structs
    ++ prototypes_breaches known.structs (put_all (map (λ d. d.name) s.structs) nothing) second s.prototypes s.funs
    ++ starters_breaches third s.starters (started s.funs)
    ++ funs_breaches known (length s.prototypes) 0 fourth s.funs
    ++ unless_some (known.heads (codes "main")) (last + 19)

module _ (p : t.Program) (form : IsProgramForm p) (rules : KeepsRules p) where
  abbrev s : w.Source
  s = written.source p

  abbrev heads : Name → Option Head
  heads = head_of (map (λ f. f.head) (map written.fun p.funs))

  abbrev declared : Known
  declared = record { structs = members_of p.structs; heads = heads; missing = nothing }

  fresh_both : Fresh nothing (map (λ s. s.name) p.structs) × Fresh (put_all (map (λ s. s.name) p.structs) nothing) (map (λ f. f.name) p.funs)
  fresh_both = fresh_parts nothing (map (λ s. s.name) p.structs) (map (λ f. f.name) p.funs) (fresh (map (λ s. s.name) p.structs ++ map (λ f. f.name) p.funs) rules.names)

  protos : (at : ℕ) → prototypes_breaches (members_of p.structs) (put_all (map (λ d. d.name) s.structs) nothing) at s.prototypes s.funs ≡ []
  protos at =
      ap (λ names. prototypes_breaches (members_of p.structs) (put_all names nothing) at s.prototypes s.funs) (names_of p.structs)
      ∙ prototypes_found p (put_all (map (λ s. s.name) p.structs) nothing) at p.funs fresh_both.1 rules.funs
      (main_is_plain p.funs rules.main.0 (distinct_behind (map (λ s. s.name) p.structs) (map (λ f. f.name) p.funs) rules.names) rules.main.1 rules.main.2 rules.main.3)

  starts : (at : ℕ) → starters_breaches at s.starters (started s.funs) ≡ []
  starts at = ap (starters_breaches at s.starters) (started_heads p.funs form.funs) ∙ starters_found at (filter (is_started p.funs) p.funs)

  bodies : (at : ℕ) → funs_breaches declared (length s.prototypes) 0 at s.funs ≡ []
  bodies at =
      functions_found p heads nothing (λ f g h. heads_found p.funs f g h) (λ f. refl) (λ d ms h. members_fit p p.structs rules.structs d ms h) p.funs form.funs rules.funs (length s.prototypes) 0 at
      (let e = length-map p.funs written.head in omega arith)

  main_there : (at : ℕ) → unless_some (heads (codes "main")) at ≡ []
  main_there at = some_there (heads (codes "main")) (written.head rules.main.0) at (heads_found p.funs (codes "main") rules.main.0 rules.main.1)

  all_none : all_of declared s ≡ []
  all_none =
      let first = length prelude in
      let second = first + length (flat_map struct_text s.structs) in
      let third = second + length (flat_map prototype_text s.prototypes) in
      let fourth = third + length (flat_map starter_text s.starters) in
      let last = fourth + length (flat_map fun_text s.funs) in
      let A = structs_breaches (members_of p.structs) nothing first s.structs in
      let B = prototypes_breaches (members_of p.structs) (put_all (map (λ d. d.name) s.structs) nothing) second s.prototypes s.funs in
      let C = starters_breaches third s.starters (started s.funs) in
      let D = funs_breaches declared (length s.prototypes) 0 fourth s.funs in
      let E = unless_some (heads (codes "main")) (last + 19) in
      join_none (A ++ B ++ C ++ D) E
      (join_none (A ++ B ++ C) D (join_none (A ++ B) C (join_none A B (structs_found p nothing first p.structs fresh_both.0 rules.structs) (protos second)) (starts third)) (bodies fourth))
      (main_there (last + 19))

-- what is written of a program of the forms that keeps the rules has no breach
pub no_breach : (p : t.Program) → IsProgramForm p → KeepsRules p → breaches (written.source p) ≡ []
unfolding breaches
no_breach p form rules = ap (λ known. all_of known (written.source p)) (known_is p form) ∙ all_none p form rules
