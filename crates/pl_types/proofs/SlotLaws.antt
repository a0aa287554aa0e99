-- Laws of slots and of the numbers of names.
use Rattle.std.proofs.Common.{◌≡◌, ◌∙◌, sym, ap, refl, subst, ℕ, zero, suc, ◌-◌, ◌<◌, ◌≤◌, Bool, true, false, cond, Option, Some, None, List, [], ◌∷◌, ◌++◌, length, map, drop, reverse, inl, inr, arith}
use mathlib.Core.Path.{fun_ext}
use Rattle.std.specs.Prelude.{if◌then◌else◌}
use Rattle.std.specs.List.{slice_get}
use Rattle.std.specs.Str.{bytes_eq}
use Rattle.std.proofs.lemmas.Bool.{cases_Bool}
use Rattle.std.proofs.lemmas.Cmp.{nat_list_eq_equiv}
use Rattle.std.proofs.lemmas.List.{reverse-append, reverse-reverse, length-reverse}
use Rattle.std.proofs.lemmas.Slice.Eq.{bytes_eq-Decides}
use Rattle.pl_syntax.specs.Tree.{Name}
use Rattle.pl_syntax.specs.Scopes.{Bound, Scope, look}
use Rattle.pl_types.specs.declared.scopes.Slot.{Slot}
use Rattle.pl_types.specs.Slots.{Table, no_numbers, set, held, Tied}

-- a table that changed at one name alone
pub changed : (x : Name) (number : Option ℕ) (before after : Table) → ((q : Name) → after q ≡ cond (bytes_eq x q) number (before q)) → after ≡ set x number before
changed x number before after h = fun_ext h

-- the number of a name that was changed
set_here : (x q : Name) (number : Option ℕ) (table : Table) → bytes_eq x q ≡ true → set x number table q ≡ number
set_here x q number table h = ap (λ b. if b then number else table q) h

set_there : (x q : Name) (number : Option ℕ) (table : Table) → bytes_eq x q ≡ false → set x number table q ≡ table q
set_there x q number table h = ap (λ b. if b then number else table q) h

same_name : (x : Name) → bytes_eq x x ≡ true
same_name x = (bytes_eq-Decides x x).1 refl

-- a number that is put and then taken back
taken_back : (x : Name) (number : Option ℕ) (table : Table) → set x (table x) (set x number table) ≡ table
taken_back x number table = fun_ext at
  where
    at : (q : Name) → set x (table x) (set x number table) q ≡ table q
    at q = elim (cases_Bool (bytes_eq x q)) [
      | inl e ↦ set_here x q (table x) (set x number table) e ∙ ap table ((bytes_eq-Decides x q).0 e)
      | inr e ↦ set_there x q (table x) (set x number table) e ∙ set_there x q number table e
    ]

-- one slot more
pub tied_more : (s : Slot) (older : List Slot) (table : Table) → s.hides ≡ table s.binding.name.now → Tied older table → Tied (s ∷ older) (set s.binding.name.now (Some (length older)) table)
tied_more s older table e h =
    let x : Name = s.binding.name.now in
    let back : set x s.hides (set x (Some (length older)) table) ≡ table = ap (λ (number : Option ℕ). set x number (set x (Some (length older)) table)) e ∙ taken_back x (Some (length older)) table in
    (set_here x x (Some (length older)) table (same_name x), subst (Tied older) (sym back) h)

-- each number is that of a slot
pub tied_within : (list : List Slot) (table : Table) (q : Name) (n : ℕ) → Tied list table → table q ≡ Some n → n < length list
tied_within [] table q n h e = let k = h q in absurd cc
tied_within (s ∷ older) table q n h e = elim (cases_Bool (bytes_eq s.binding.name.now q)) [
  | inl same ↦ (
      let same_text : s.binding.name.now ≡ q = (bytes_eq-Decides s.binding.name.now q).0 same in
      let number : Some n ≡ Some (length older) = sym e ∙ ap table (sym same_text) ∙ h.0 in
      let k : n ≡ length older = cc in
      omega arith
      )
  | inr other ↦ (
      let k : n < length older = tied_within older (set s.binding.name.now s.hides table) q n h.1 (set_there s.binding.name.now q s.hides table other ∙ e) in
      omega arith
      )
]

-- the last of a list, and those before it
at_end : {A : Type 0} (xs : List A) (a : A) → slice_get (xs ++ a ∷ []) (length xs) ≡ Some a
at_end [] a = refl
at_end (x ∷ xs) a = at_end xs a

before_end : {A : Type 0} (xs : List A) (a : A) (n : ℕ) → n < length xs → slice_get (xs ++ a ∷ []) n ≡ slice_get xs n
before_end [] a n h = absurd (omega arith)
before_end (x ∷ xs) a zero h = refl
before_end (x ∷ xs) a (suc n) h = let k : n < length xs = omega arith in before_end xs a n k

abbrev pub binder_in : Option Slot → Option Bound
binder_in None = None
binder_in (Some s) = Some (held s)

-- the binder in the slot of that number; the oldest is first
abbrev pub binder_at : List Slot → Option ℕ → Option Bound
binder_at slots None = None
binder_at slots (Some n) = binder_in (slice_get slots n)

one_more : (slots : List Slot) (s : Slot) (number : Option ℕ) → ((n : ℕ) → number ≡ Some n → n < length slots) → binder_at (slots ++ s ∷ []) number ≡ binder_at slots number
one_more slots s None h = refl
one_more slots s (Some n) h = ap binder_in (before_end slots s n (h n refl))

-- a look-up by number finds the newest binder
pub tied_look : (x : Name) (list : List Slot) (table : Table) → Tied list table → look x (map held list) ≡ binder_at (reverse list) (table x)
tied_look x [] table h = ap (binder_at []) (sym (h x))
tied_look x (s ∷ older) table h =
    let y : Name = s.binding.name.now in
    let slots : List Slot = reverse older in
    let split : reverse (s ∷ older) ≡ slots ++ s ∷ [] = reverse-append (s ∷ []) older in
    elim (cases_Bool (bytes_eq x y)) [
      | inl same ↦ (
          let same_text : x ≡ y = (bytes_eq-Decides x y).0 same in
          let number : table x ≡ Some (length slots) = ap table same_text ∙ h.0 ∙ ap Some (sym (length-reverse older)) in
          ap (λ b. if b then Some (held s) else look x (map held older)) same
          ∙ sym (ap binder_in (at_end slots s))
          ∙ sym (ap (binder_at (slots ++ s ∷ [])) number)
          ∙ sym (ap (λ l. binder_at l (table x)) split)
          )
      | inr other ↦ (
          let apart : bytes_eq y x ≡ false = nat_list_eq_equiv.symm y x ∙ other in
          let rest : set y s.hides table x ≡ table x = set_there y x s.hides table apart in
          let within : (n : ℕ) → table x ≡ Some n → n < length slots = λ n e. subst (λ k. n < k) (sym (length-reverse older)) (tied_within older (set y s.hides table) x n h.1 (rest ∙ e)) in
          ap (λ b. if b then Some (held s) else look x (map held older)) other
          ∙ tied_look x older (set y s.hides table) h.1
          ∙ ap (binder_at slots) rest
          ∙ sym (one_more slots s (table x) within)
          ∙ sym (ap (λ l. binder_at l (table x)) split)
          )
    ]

-- the same of slots with the oldest first
pub found_within : (slots : List Slot) (table : Table) (x : Name) (n : ℕ) → Tied (reverse slots) table → table x ≡ Some n → n < length slots
found_within slots table x n h e = subst (λ k. n < k) (length-reverse slots) (tied_within (reverse slots) table x n h e)

pub found : (slots : List Slot) (table : Table) (x : Name) (number : Option ℕ) → Tied (reverse slots) table → number ≡ table x → look x (map held (reverse slots)) ≡ binder_at slots number
found slots table x number h e = tied_look x (reverse slots) table h ∙ ap (binder_at (reverse (reverse slots))) (sym e) ∙ ap (λ l. binder_at l number) (reverse-reverse slots)

-- no slots
pub tied_none : (table : Table) → table ≡ no_numbers → Tied [] table
tied_none table e = λ q. ap (λ (t : Table). t q) e

-- one slot more, or all as they were
pub tied_added : (added : Bool) (s : Slot) (slots : List Slot) (table : Table) → s.hides ≡ table s.binding.name.now → Tied (reverse slots) table → Tied (reverse (if added then slots ++ s ∷ [] else slots)) (if added then set s.binding.name.now (Some (length slots)) table else table)
tied_added false s slots table e h = h
tied_added true s slots table e h =
    let more = tied_more s (reverse slots) table e h in
    let counted = subst (λ (k : ℕ). Tied (s ∷ reverse slots) (set s.binding.name.now (Some k) table)) (length-reverse slots) more in
    subst (λ (list : List Slot). Tied list (set s.binding.name.now (Some (length slots)) table)) (sym (reverse-append slots (s ∷ []))) counted

-- one name fewer, on the way back to a mark
pub left_one : (old new : Scope) (mark : ℕ) → mark < length old → new ≡ drop 1 old → (mark ≤ length new) × (drop (length new - mark) new ≡ drop (length old - mark) old)
left_one [] new mark h e = absurd (omega arith)
left_one (b ∷ bs) new mark h e =
    let same : new ≡ bs = e in
    let size : length new ≡ length bs = ap length same in
    let more : length (b ∷ bs) - mark ≡ suc (length bs - mark) = omega arith in
    (omega arith, ap (λ (l : Scope). drop (length l - mark) l) same ∙ sym (ap (λ k. drop k (b ∷ bs)) more))
