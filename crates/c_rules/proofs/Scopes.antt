-- Laws of the locals that are bound.
use Rattle.std.proofs.Common.{◌≡◌, ◌≢◌, ◌∙◌, sym, ap, refl, ℕ, zero, suc, ◌+◌, ◌-◌, ◌<◌, ◌≤◌, ◌==◌, true, false, cond, Option, Some, None, List, [], ◌∷◌, ◌++◌, length, take, replicate, arith, min}
use Rattle.std.proofs.lemmas.List.{length-append, length-take, length-take-le, length-replicate, take-take}
use Rattle.std.proofs.Math.Seq.{take-append_seam, take-length}
use Rattle.std.specs.List.{slice_get}
use Rattle.c_syntax.specs.declared.kind.Local.{Local}
use Rattle.c_syntax.specs.declared.program.CParam.{CParam}
use Rattle.c_syntax.specs.Rules.{type_of, is_same}
use Rattle.c_rules.specs.Locals.{numbered, bound_from, named, look, closed, scope_of, Grows}
use Rattle.c_rules.specs.declared.locals.Binder.{Binder}

-- a binder of another number, behind others
other_last : (bs : List CParam) (b : CParam) (x : Local) → (x.number == b.local.number) ≡ false → type_of (bs ++ (b ∷ [])) x ≡ type_of bs x
other_last [] b x h = grind (arith, h)
other_last (c ∷ bs) b x h = ap (λ t. cond (is_same x c.local) (Some c.kind) t) (other_last bs b x h)

-- no binder has a number below the first
below : (n : ℕ) (slots : List (Option Binder)) (x : Local) → x.number < n → type_of (bound_from n slots) x ≡ None
below n [] x h = refl
below n (None ∷ slots) x h = below (n + 1) slots x (omega arith)
below n (Some b ∷ slots) x h = other_last (bound_from (n + 1) slots) (numbered n b) x (grind (arith, h)) ∙ below (n + 1) slots x (omega arith)

-- what a slot with that name and number binds
in_slot : (n : ℕ) (bs : List CParam) (b : Binder) (x : Local) → x.number ≡ n → type_of bs x ≡ None → type_of (bs ++ (numbered n b ∷ [])) x ≡ named x.name (Some (Some b))
in_slot n [] b x e h = grind (arith, e)
in_slot n (c ∷ bs) b x e h =
    (elim (is_same x c.local) as (λ t. cond t (Some c.kind) (type_of bs x) ≡ None → cond t (Some c.kind) (type_of (bs ++ (numbered n b ∷ [])) x) ≡ named x.name (Some (Some b)))
    [ true ↦ λ k. cc | false ↦ λ k. in_slot n bs b x e k ]) h

at_slot : (n : ℕ) (slots : List (Option Binder)) (k : ℕ) (x : Local) → x.number ≡ n + k → type_of (bound_from n slots) x ≡ named x.name (slice_get slots k)
at_slot n [] k x e = refl
at_slot n (None ∷ slots) zero x e = below (n + 1) slots x (omega arith)
at_slot n (Some b ∷ slots) zero x e = in_slot n (bound_from (n + 1) slots) b x (omega arith) (below (n + 1) slots x (omega arith))
at_slot n (None ∷ slots) (suc k) x e = at_slot (n + 1) slots k x (omega arith)
at_slot n (Some b ∷ slots) (suc k) x e = other_last (bound_from (n + 1) slots) (numbered n b) x (grind (arith, e)) ∙ at_slot (n + 1) slots k x (omega arith)

-- a look-up by number finds the binder in scope
compute : (n : ℕ) → n ≢ 0 → (slots : List (Option Binder)) (name : List ℕ) → look slots name n ≡ named name (slice_get slots (n - 1))
compute n h slots name = grind (arith, h)

look_number : (slots : List (Option Binder)) (name : List ℕ) (n : ℕ) → look slots name n ≡ type_of (bound_from 1 slots) (record { name = name; number = n })
look_number slots name zero = sym (below 1 slots (record { name = name; number = 0 }) (omega arith))
look_number slots name (suc n) =
    let e : suc n - 1 ≡ n = omega arith in
    let x : Local = record { name = name; number = suc n } in
    compute (suc n) (omega arith) slots name ∙ ap (λ k. named name (slice_get slots k)) e ∙ sym (at_slot 1 slots n x (omega arith))

pub look_is : (slots : List (Option Binder)) (x : Local) → look slots x.name x.number ≡ type_of (scope_of slots).bound x
look_is slots x = look_number slots x.name x.number

-- one more binder is the newest
bound_push : (n : ℕ) (slots : List (Option Binder)) (b : Binder) → bound_from n (slots ++ (Some b ∷ [])) ≡ numbered (length slots + n) b ∷ bound_from n slots
bound_push n [] b = let e : n ≡ 0 + n = omega arith in ap (λ k. numbered k b ∷ []) e
bound_push n (None ∷ slots) b =
    let e : length slots + (n + 1) ≡ suc (length slots) + n = omega arith in
    bound_push (n + 1) slots b ∙ ap (λ k. numbered k b ∷ bound_from (n + 1) slots) e
bound_push n (Some a ∷ slots) b =
    let e : length slots + (n + 1) ≡ suc (length slots) + n = omega arith in
    ap (λ bs. bs ++ (numbered n a ∷ [])) (bound_push (n + 1) slots b ∙ ap (λ k. numbered k b ∷ bound_from (n + 1) slots) e)

length_push : (slots : List (Option Binder)) (b : Binder) → length (slots ++ (Some b ∷ [])) ≡ length slots + 1
length_push slots b = length-append slots (Some b ∷ [])

-- what is bound behind one more binder
pub push_is : (slots : List (Option Binder)) (b : Binder) → scope_of (slots ++ (Some b ∷ [])) ≡ record { bound = numbered (length slots + 1) b ∷ bound_from 1 slots; next = length slots + 1 + 1 }
push_is slots b = cc (bound_push 1 slots b, length_push slots b)

none_bound : (n k : ℕ) (slots : List (Option Binder)) → bound_from n (slots ++ replicate k None) ≡ bound_from n slots
none_bound n zero [] = refl
none_bound n (suc k) [] = none_bound (n + 1) k []
none_bound n k (None ∷ slots) = none_bound (n + 1) k slots
none_bound n k (Some b ∷ slots) = ap (λ bs. bs ++ (numbered n b ∷ [])) (none_bound (n + 1) k slots)

-- slots that grew are no fewer
pub grows_length : (old new : List (Option Binder)) → Grows old new → length old ≤ length new
grows_length old new h = let e : min (length old) (length new) ≡ length old = sym (length-take (length old) new) ∙ ap length h in omega arith

length_closed : (k : ℕ) (slots : List (Option Binder)) → k ≤ length slots → length (closed k slots) ≡ length slots
length_closed k slots h =
    let a = length-append (take k slots) (replicate (length slots - k) None) in
    let b = length-take-le k slots h in
    let d = length-replicate {A = Option Binder} (length slots - k) None in
    let e : k + (length slots - k) ≡ length slots = omega arith in
    a ∙ ap (λ n. n + length (replicate {A = Option Binder} (length slots - k) None)) b ∙ ap (λ n. k + n) d ∙ e

-- what is bound behind a block
pub close_is : (old new : List (Option Binder)) → Grows old new → scope_of (closed (length old) new) ≡ record { bound = bound_from 1 old; next = length new + 1 }
close_is old new h =
    let bound = none_bound 1 (length new - length old) (take (length old) new) ∙ ap (bound_from 1) h in
    cc (bound, length_closed (length old) new (grows_length old new h))

pub grows_on : (a b c : List (Option Binder)) → Grows a b → Grows b c → Grows a c
grows_on a b c h k = sym (take-take (length a) (length b) c (grows_length a b h)) ∙ ap (take (length a)) k ∙ h

pub grows_push : (a : List (Option Binder)) (b : Binder) → Grows a (a ++ (Some b ∷ []))
grows_push a b = take-append_seam a (Some b ∷ [])

pub grows_same : (a : List (Option Binder)) → Grows a a
grows_same a = take-length a

pub grows_close : (old new : List (Option Binder)) → Grows old new → Grows old (closed (length old) new)
grows_close old new h =
    ap (λ xs. take (length old) (xs ++ replicate (length new - length old) None)) h ∙ take-append_seam old (replicate (length new - length old) None)

pub close_scope : (old new after : List (Option Binder)) (k : ℕ) → k ≡ length old → after ≡ closed k new → Grows old new →
    scope_of after ≡ record { bound = (scope_of old).bound; next = (scope_of new).next }
close_scope old new after k e a g = ap scope_of (a ∙ ap (λ m. closed m new) e) ∙ close_is old new g
