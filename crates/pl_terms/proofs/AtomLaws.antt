-- The laws of terms and atoms.
use Rattle.std.proofs.Common.{◌≡◌, ℕ, ◌+◌, Option, Some, None, Bool, true, false, if◌then◌else◌, List, [], ◌∷◌, ◌++◌, length, length-append, refl, sym, ap, ◌∙◌, subst, arith}
use Rattle.pl_base.specs.Permission.{same_number}
use Rattle.pl_base.proofs.PermissionLaws.{number_sound, number_refl}
use Rattle.pl_syntax.specs.Values.{Value}
use Rattle.pl_syntax.specs.Resource.{Resource, Adds, nothing}
use Rattle.pl_syntax.proofs.ResourceLaws.{adds_comm, adds_assoc, adds_empty, adds_nothing', nothing_empty}
use Rattle.pl_terms.specs.declared.term.Term.{Term}
use Rattle.pl_terms.specs.declared.term.Term.TheVariants.{Literal, Variable}
use Rattle.pl_terms.specs.Terms.{Atom, Points, Block, Values, eval, AtomHolds, AllHold, Extends, Fresh, Taken}

-- values extend themselves
pub extends_refl : (vs : Values) → Extends vs vs
extends_refl vs = record { keeps = λ i w h. h }

-- two extensions in turn are one
pub extends_trans : {vs us ts : Values} → Extends vs us → Extends us ts → Extends vs ts
extends_trans h k = record { keeps = λ i w e. k.keeps i w (h.keeps i w e) }

-- one variable more has a value
abbrev pub give : ℕ → Value → Values → Values
give k w vs = λ i. if same_number k i then Some w else vs i

-- a value that stood before one is given
pub give_keeps : (b : Bool) (x : Value) (o : Option Value) (w : Value) → (b ≡ true → o ≡ None) → o ≡ Some w → (if b then Some x else o) ≡ Some w
give_keeps true x o w n e = let k = n refl in cc
give_keeps false x o w n e = e

-- a variable without a value may get one
pub extends_give : (k : ℕ) (x : Value) (vs : Values) → vs k ≡ None → Extends vs (give k x vs)
extends_give k x vs n = record { keeps = λ i w e. give_keeps (same_number k i) x (vs i) w (λ q. ap vs (sym (number_sound k i q)) ∙ n) e }

-- the variable has the value that it was given
pub give_same : (k : ℕ) (x : Value) (vs : Values) → give k x vs k ≡ Some x
give_same k x vs = ap (λ b. if b then Some x else vs k) (number_refl k)

-- a value that isn't given
pub give_none : (b : Bool) (x : Value) (o : Option Value) → (b ≡ true → ⊥) → o ≡ None → (if b then Some x else o) ≡ None
give_none true x o n e = absurd (n refl)
give_none false x o n e = e

-- after the next variable got a value, the one after it is the next
pub fresh_give : (k : ℕ) (x : Value) (vs : Values) → Fresh k vs → Fresh (k + 1) (give k x vs)
fresh_give k x vs h = record { none = λ i l. give_none (same_number k i) x (vs i) (λ q. let e : k ≡ i = number_sound k i q in omega arith) (h.none i (omega arith)) }

-- a list with one element more is longer by one
pub length_more : {A : Type 0} (xs : List A) (x : A) → length (xs ++ x ∷ []) ≡ length xs + 1
length_more xs x = length-append xs (x ∷ [])

-- a term that has a value keeps it
pub eval_keeps : {vs us : Values} → Extends vs us → (t : Term) (w : Value) → eval vs t ≡ Some w → eval us t ≡ Some w
eval_keeps h (Literal n) w k = k
eval_keeps h (Variable i) w k = h.keeps i w k

-- an atom that holds still holds where more variables have values
pub atom_keeps : {vs us : Values} → Extends vs us → (a : Atom) (x : Resource) → AtomHolds vs a x → AtomHolds us a x
atom_keeps h (Points base permission value) x k = record {
  block = k.block;
  permission = k.permission;
  word = k.word;
  base_is = eval_keeps h base _ k.base_is;
  part_is = k.part_is;
  word_is = eval_keeps h value _ k.word_is;
  sorted = k.sorted;
  owns = k.owns;
}
atom_keeps h (Block base count) x k = record { block = k.block; elements = k.elements; base_is = eval_keeps h base _ k.base_is; count_is = eval_keeps h count _ k.count_is; owns = k.owns }

-- so do all atoms of a list
pub all_keeps : {vs us : Values} → Extends vs us → (atoms : List Atom) (x : Resource) → AllHold vs atoms x → AllHold us atoms x
all_keeps h [] x k = k
all_keeps h (a ∷ rest) x k = (k.0, k.1, k.2, atom_keeps h a k.0 k.3, all_keeps h rest k.1 k.4)

-- one atom is a list
pub alone : (vs : Values) (a : Atom) (x : Resource) → AtomHolds vs a x → AllHold vs (a ∷ []) x
alone vs a x h = (x, nothing, adds_nothing' x, h, nothing_empty)

-- two lists hold of two parts
pub all_both : (vs : Values) (xs ys : List Atom) (y z x : Resource) → Adds y z x → AllHold vs xs y → AllHold vs ys z → AllHold vs (xs ++ ys) x
all_both vs [] ys y z x a h k = subst (λ r. AllHold vs ys r) (sym (adds_empty h a)) k
all_both vs (b ∷ xs) ys y z x a h k =
    let r = adds_assoc h.2 a in
    (h.0, r.0, r.2, h.3, all_both vs xs ys h.1 z r.0 r.1 h.4 k)

-- an atom may be taken out of a list
pub take_out : (vs : Values) (front back : List Atom) (a : Atom) (x : Resource) → AllHold vs (front ++ a ∷ back) x → Taken vs a (front ++ back) x
take_out vs [] back a x h = record { part = h.0; rest = h.1; adds = h.2; holds = h.3; others = h.4 }
take_out vs (b ∷ front) back a x h =
    let t = take_out vs front back a h.1 h.4 in
    let r = adds_assoc t.adds (adds_comm h.2) in
    record { part = t.part; rest = r.0; adds = r.2; holds = t.holds; others = (h.0, t.rest, adds_comm r.1, h.3, t.others) }
