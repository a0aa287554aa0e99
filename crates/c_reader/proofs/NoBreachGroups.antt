-- Structures and prototypes of a program that keeps the rules have no breaches where they are written.
use Rattle.std.proofs.Common.{◌≡◌, ◌∙◌, sym, ap, refl, subst, ℕ, suc, ◌+◌, ◌==◌, ◌&&◌, ◌||◌, not, Bool, true, false, cond, Some, List, [], ◌∷◌, ◌++◌, length, map, arith}
use Rattle.std.specs.Prelude.{codes}
use Rattle.std.specs.Cmp.{unsigned_Decides}
use Rattle.std.specs.List.{AllByRecursion, IsDistinct}
use Rattle.std.specs.Str.{bytes_eq}
use Rattle.std.proofs.lemmas.Bool.{and_from}
use Rattle.std.proofs.lemmas.Slice.Eq.{bytes_eq-Decides}
use Rattle.c_syntax.specs.declared.kind.CType.TheVariants as kind
use Rattle.c_syntax.specs.declared.program.CMember.{CMember}
use Rattle.c_syntax.specs.declared.program.CParam.{CParam}
use Rattle.c_syntax.specs.declared.program.CStruct.{CStruct}
use Rattle.c_syntax.specs.Rules.{AreNumbered, FunFits, IsValueType, StructFits, function_of, members_of}
use Rattle.c_syntax.specs.Text.{function_name, line, struct_name, type_text}
use Rattle.c_syntax.specs.Tree as t
use Rattle.c_syntax.specs.Tree.{Name}
use Rattle.c_forms.specs.declared.source.Head.{Head}
use Rattle.c_forms.specs.declared.source.Param.{Param}
use Rattle.c_forms.specs.declared.word.Number.{Number}
use Rattle.c_forms.specs.declared.word.Number.TheVariants.{Small, Long}
use Rattle.c_forms.specs.Text.{param_text, prototype_text, struct_text}
use Rattle.c_rules.specs.Groups.{Taken, begins_well, ends_well, head_of, is_plain, is_void, member_breaches, member_text, members_breaches, nothing, param_breaches, params_breaches, prototype_breaches, prototypes_breaches, put, put_all, same_head, same_number, same_params, struct_breaches, structs_breaches, twice_breaches}
use Rattle.c_rules.specs.Kinds.{same_type}
use Rattle.c_rules.specs.Lines.{binder_breaches, type_breaches, value_breaches}
use Rattle.c_rules.specs.Sorts.{unless}
use Rattle.c_reader.proofs.Breachless.{join_none, no_breach, same_self}
use Rattle.c_reader.proofs.Names.{Fresh}
use Rattle.c_reader.proofs.NoBreachBodies.{Ends, ends, ends_as_wanted}
use Rattle.c_reader.proofs.NoBreachBodies.Ends.{void, gives}
use Rattle.c_reader.proofs.NoBreachTypes.{binder_found, declared, valued}
use Rattle.c_reader.proofs.Written as written

-- ---- names

pub same_bytes : (a : Name) → bytes_eq a a ≡ true
same_bytes a = (bytes_eq-Decides a a).1 refl

same_tests : (b c : Bool) → (b ≡ true → c ≡ true) → (c ≡ true → b ≡ true) → b ≡ c
same_tests true c h k = sym (h refl)
same_tests false true h k = k refl
same_tests false false h k = refl

pub flip_bytes : (a b : Name) → bytes_eq a b ≡ bytes_eq b a
flip_bytes a b =
    same_tests (bytes_eq a b) (bytes_eq b a) (λ h. (bytes_eq-Decides b a).1 (sym ((bytes_eq-Decides a b).0 h))) (λ h. (bytes_eq-Decides a b).1 (sym ((bytes_eq-Decides b a).0 h)))

either_false : (b c : Bool) → b ≡ false → c ≡ false → cond b true c ≡ false
either_false true c h k = cc
either_false false c h k = k

put_others : (taken : Taken) (x : Name) (ys : List Name) → AllByRecursion (λ y. bytes_eq x y ≡ false) ys → AllByRecursion (λ y. taken y ≡ false) ys → AllByRecursion (λ y. put x taken y ≡ false) ys
put_others taken x [] h k = tt
put_others taken x (y ∷ ys) h k = (either_false (bytes_eq x y) (taken y) h.0 k.0, put_others taken x ys h.1 k.1)

-- names that are distinct are declared once
pub fresh_names : (taken : Taken) (xs : List Name) → IsDistinct bytes_eq xs → AllByRecursion (λ x. taken x ≡ false) xs → Fresh taken xs
unfolding IsDistinct
fresh_names taken [] h k = tt
fresh_names taken (x ∷ xs) h k = (k.0, fresh_names (put x taken) xs h.1 (put_others taken x xs h.0 k.1))

none_taken : (xs : List Name) → AllByRecursion (λ x. nothing x ≡ false) xs
none_taken [] = tt
none_taken (x ∷ xs) = (refl, none_taken xs)

pub fresh : (xs : List Name) → IsDistinct bytes_eq xs → Fresh nothing xs
fresh xs h = fresh_names nothing xs h (none_taken xs)

pub fresh_parts : (taken : Taken) (xs ys : List Name) → Fresh taken (xs ++ ys) → Fresh taken xs × Fresh (put_all xs taken) ys
fresh_parts taken [] ys h = (tt, h)
fresh_parts taken (x ∷ xs) ys h = let rest = fresh_parts (put x taken) xs ys h.1 in ((h.0, rest.0), rest.1)

pub once_found : (taken : Taken) (at : ℕ) (x : Name) → taken x ≡ false → twice_breaches taken at x ≡ []
once_found taken at x h = no_breach (not (taken x)) at (ap not h)

-- ---- structures

members_found : (structs : List CStruct) (taken : Taken) (at : ℕ) (ms : List CMember) → Fresh taken (map (λ m. m.name) ms) → AllByRecursion (λ m. IsValueType structs m.kind) ms →
    members_breaches (members_of structs) taken at (map written.member ms) ≡ []
members_found structs taken at [] h k = refl
members_found structs taken at (m ∷ ms) h k =
    let name = at + 2 + length (type_text m.kind) in
    let A = type_breaches (members_of structs) (at + 2) m.kind in
    let B = value_breaches name m.kind in
    let C = twice_breaches taken name m.name in
    let behind = at + length (member_text (written.member m)) in
    join_none (member_breaches (members_of structs) taken at (written.member m)) (members_breaches (members_of structs) (put m.name taken) behind (map written.member ms))
    (join_none (A ++ B) C (join_none A B (declared structs (at + 2) m.kind k.0) (valued structs name m.kind k.0)) (once_found taken name m.name h.0))
    (members_found structs (put m.name taken) behind ms h.1 k.1)

pub structs_found : (p : t.Program) (taken : Taken) (at : ℕ) (ss : List CStruct) → Fresh taken (map (λ s. s.name) ss) → AllByRecursion (StructFits p) ss →
    structs_breaches (members_of p.structs) taken at (map written.struct ss) ≡ []
structs_found p taken at [] h k = refl
structs_found p taken at (s ∷ ss) h k =
    let begin = at + length (line 0 (struct_name s.name ∷ codes " {" ∷ [])) in
    let behind = at + length (struct_text (written.struct s)) in
    join_none (struct_breaches (members_of p.structs) taken at (written.struct s)) (structs_breaches (members_of p.structs) (put s.name taken) behind (map written.struct ss))
    (join_none (twice_breaches taken (at + 7) s.name) (members_breaches (members_of p.structs) nothing begin (map written.member s.members)) (once_found taken (at + 7) s.name h.0)
    (members_found p.structs nothing begin s.members (fresh (map (λ m. m.name) s.members) k.0.0) k.0.1))
    (structs_found p (put s.name taken) behind ss h.1 k.1)

-- ---- heads

same_digits : (n : Number) → same_number n n ≡ true
same_digits (Small n) = (unsigned_Decides n n).1 refl
same_digits (Long ds) = same_bytes ds

params_same : (ps : List Param) → same_params ps ps ≡ true
params_same [] = refl
params_same (p ∷ ps) =
    let a = same_type p.kind p.kind in
    let b = bytes_eq p.local.name p.local.name in
    let c = same_number p.local.number p.local.number in
    and_from (a && b && c) (same_params ps ps) (and_from (a && b) c (and_from a b (same_self p.kind) (same_bytes p.local.name)) (same_digits p.local.number)) (params_same ps)

head_same : (h : Head) → same_head h h ≡ true
head_same h =
    let a = same_type h.result h.result in
    let b = bytes_eq h.name h.name in
    and_from (a && b) (same_params h.params h.params) (and_from a b (same_self h.result) (same_bytes h.name)) (params_same h.params)

params_found : (structs : List CStruct) (taken : Taken) (k at : ℕ) (ps : List CParam) → Fresh taken (map (λ q. q.local.name) ps) → AreNumbered k ps → AllByRecursion (λ q. IsValueType structs q.kind) ps →
    params_breaches (members_of structs) taken k at (map written.param ps) ≡ []
params_found structs taken k at [] h numbers values = refl
params_found structs taken k at (p ∷ ps) h numbers values =
    let q = written.param p in
    let place = at + length (type_text p.kind) in
    let behind = at + length (param_text q) + 2 in
    let next : suc k ≡ k + 1 = omega arith in
    join_none (param_breaches (members_of structs) taken k at q) (params_breaches (members_of structs) (put p.local.name taken) (k + 1) behind (map written.param ps))
    (join_none (binder_breaches (members_of structs) k at p.kind q.local) (twice_breaches taken place p.local.name) (binder_found structs k at p.kind p.local values.0 numbers.0)
    (once_found taken place p.local.name h.0))
    (params_found structs (put p.local.name taken) (k + 1) behind ps h.1 (subst (λ (n : ℕ). AreNumbered n ps) next numbers.1) values.1)

-- ---- prototypes

-- the function `main` of the program, where another name is none of it
abbrev pub BeginsWell : t.Fun → Type 0
BeginsWell f = begins_well (written.fun f) ≡ true

other_name : (f : t.Fun) → bytes_eq f.name (codes "main") ≡ false → BeginsWell f
other_name f h = ap (λ b. not b || is_plain (written.head f)) h

plain_main : (f : t.Fun) → f.params ≡ [] → f.result ≡ kind.Void → BeginsWell f
plain_main f h k =
    ap (λ (ps : List CParam). not (bytes_eq f.name (codes "main")) || (is_void f.result && (length (map written.param ps) == 0))) h
    ∙ ap (λ type. not (bytes_eq f.name (codes "main")) || (is_void type && true)) k
    ∙ (elim (bytes_eq f.name (codes "main")) as (λ b. (not b || true) ≡ true) [ true ↦ refl | false ↦ refl ])

-- the first of these has that name, and so no other
others_named : (main d : Name) (fs : List t.Fun) → main ≡ d → AllByRecursion (λ y. bytes_eq d y ≡ false) (map (λ f. f.name) fs) → AllByRecursion (λ f. bytes_eq f.name main ≡ false) fs
others_named main d [] h k = tt
others_named main d (f ∷ fs) h k = (flip_bytes f.name main ∙ ap (λ x. bytes_eq x f.name) h ∙ k.0, others_named main d fs h k.1)

other_names : (fs : List t.Fun) → AllByRecursion (λ f. bytes_eq f.name (codes "main") ≡ false) fs → AllByRecursion BeginsWell fs
other_names [] h = tt
other_names (f ∷ fs) h = (other_name f h.0, other_names fs h.1)

pub main_is_plain : (fs : List t.Fun) (g : t.Fun) → IsDistinct bytes_eq (map (λ f. f.name) fs) → function_of fs (codes "main") ≡ Some g → g.params ≡ [] → g.result ≡ kind.Void → AllByRecursion BeginsWell fs
unfolding IsDistinct
main_is_plain [] g h k params result = tt
main_is_plain (d ∷ ds) g h k params result = at (bytes_eq (codes "main") d.name) refl k (λ l. main_is_plain ds g h.1 l params result)
  where
    at : (b : Bool) → bytes_eq (codes "main") d.name ≡ b → cond b (Some d) (function_of ds (codes "main")) ≡ Some g → (function_of ds (codes "main") ≡ Some g → AllByRecursion BeginsWell ds) →
        AllByRecursion BeginsWell (d ∷ ds)
    at true e l rest =
        let same : d ≡ g = cc in (
          plain_main d (ap (λ (f : t.Fun). f.params) same ∙ params) (ap (λ (f : t.Fun). f.result) same ∙ result),
          other_names ds (others_named (codes "main") d.name ds ((bytes_eq-Decides (codes "main") d.name).0 e) h.0),
        )
    at false e l rest = (other_name d (flip_bytes d.name (codes "main") ∙ e), rest l)

module _ (p : t.Program) where
  -- the type of a result is declared
  result_found : (at : ℕ) (f : t.Fun) → FunFits p f → type_breaches (members_of p.structs) at f.result ≡ []
  result_found at f fits = of (ends p f.result (record { bound = f.params; next = 1 + length f.params }) f.body fits.body)
    where
      of : Ends p f.result (written.stmts f.body) → type_breaches (members_of p.structs) at f.result ≡ []
      of (void h) = ap (type_breaches (members_of p.structs) at) h
      of (gives value h) = declared p.structs at f.result value

  prototype_found : (taken : Taken) (at : ℕ) (f : t.Fun) → taken f.name ≡ false → FunFits p f → BeginsWell f →
      prototype_breaches (members_of p.structs) taken at (written.head f) (Some (written.fun f)) ≡ []
  prototype_found taken at f new fits begins =
      let h = written.head f in
      let name = at + 7 + length (type_text f.result) in
      let begin = name + length (function_name f.name) + 1 in
      let same = same_head h h in
      let last = ends_well (written.fun f) in
      let main = begins_well (written.fun f) in
      let A = unless (same && last && main) at in
      let B = type_breaches (members_of p.structs) (at + 7) f.result in
      let C = twice_breaches taken name f.name in
      let D = params_breaches (members_of p.structs) nothing 1 begin (map written.param f.params) in
      let ending = ends_as_wanted p f (ends p f.result (record { bound = f.params; next = 1 + length f.params }) f.body fits.body) in
      join_none (A ++ B ++ C) D
      (join_none (A ++ B) C (join_none A B (no_breach (same && last && main) at (and_from (same && last) main (and_from same last (head_same h) ending) begins)) (result_found (at + 7) f fits))
      (once_found taken name f.name new))
      (params_found p.structs nothing 1 begin f.params (fresh (map (λ q. q.local.name) f.params) fits.names) fits.numbers fits.types)

  pub prototypes_found : (taken : Taken) (at : ℕ) (fs : List t.Fun) → Fresh taken (map (λ f. f.name) fs) → AllByRecursion (FunFits p) fs → AllByRecursion BeginsWell fs →
      prototypes_breaches (members_of p.structs) taken at (map written.head fs) (map written.fun fs) ≡ []
  prototypes_found taken at [] h fits begin = refl
  prototypes_found taken at (f ∷ fs) h fits begin =
      let behind = at + length (prototype_text (written.head f)) in
      join_none (prototype_breaches (members_of p.structs) taken at (written.head f) (Some (written.fun f))) (prototypes_breaches (members_of p.structs) (put f.name taken) behind (map written.head fs) (map written.fun fs))
      (prototype_found taken at f h.0 fits.0 begin.0) (prototypes_found (put f.name taken) behind fs h.1 fits.1 begin.1)

-- ---- heads by name

pub heads_found : (fs : List t.Fun) (f : Name) (g : t.Fun) → function_of fs f ≡ Some g → head_of (map (λ d. d.head) (map written.fun fs)) f ≡ Some (written.head g)
heads_found [] f g h = cc
heads_found (d ∷ fs) f g h = at (bytes_eq f d.name) h (λ k. heads_found fs f g k)
  where
    at : (b : Bool) → cond b (Some d) (function_of fs f) ≡ Some g → (function_of fs f ≡ Some g → head_of (map (λ d. d.head) (map written.fun fs)) f ≡ Some (written.head g)) →
        cond b (Some (written.head d)) (head_of (map (λ d. d.head) (map written.fun fs)) f) ≡ Some (written.head g)
    at true k rest = let same : d ≡ g = cc in ap (λ (q : t.Fun). Some (written.head q)) same
    at false k rest = rest k
