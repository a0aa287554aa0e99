-- The file at the first place whose name fits, and what a write there does.
use Rattle.std.proofs.Common.{◌≡◌, ◌≢◌, ℕ, zero, suc, ◌+◌, ◌<◌, ◌≤◌, List, [], ◌∷◌, ◌++◌, Bool, true, false, not, length, get_or, set, take, drop, refl, sym, ◌∙◌, ap, arith, cond}
use Rattle.std.specs.Prelude.{Some, None, position}
use Rattle.std.specs.List.{prefix_len}
use Rattle.std.specs.Str.{bytes_eq}
use Rattle.std.proofs.lemmas.Slice.Eq.{bytes_eq-Decides}
use Rattle.std.proofs.lemmas.Bool.{cond-true, cond-false, ltb-false}
use Rattle.std.proofs.lemmas.List.{take-append-le, take-append-drop, drop-drop}
use Rattle.std.proofs.Math.Seq.{take-length}
use Rattle.std.proofs.lemmas.List.Quantifiers.{position-Some}
use Rattle.pl_base.specs.declared.store.HostFile.{HostFile}
use Rattle.pl_base.specs.Outside.{file_in, Puts}
use Rattle.pl_base.specs.Kept.{told}

abbrev is_named : List ℕ → HostFile → Bool
is_named name f = bytes_eq (f.name) name

absent_here : (name : List ℕ) (f : HostFile) (fs : List HostFile) (b : Bool) → is_named name f ≡ b → length (f ∷ fs) ≤ cond (not b) (1 + prefix_len (λ g. not (is_named name g)) fs) 0
    → (length fs ≤ prefix_len (λ g. not (is_named name g)) fs → file_in name (told fs) ≡ None) → file_in name (told (f ∷ fs)) ≡ None
absent_here name f fs true is long rest = absurd (omega arith)
absent_here name f fs false is long rest = cond-false _ _ _ is ∙ rest (omega arith)

absent_by : (name : List ℕ) (fs : List HostFile) → length fs ≤ prefix_len (λ f. not (is_named name f)) fs → file_in name (told fs) ≡ None
absent_by name [] long = refl
absent_by name (f ∷ fs) long = absent_here name f fs (is_named name f) refl long (absent_by name fs)

none_at : (b : Bool) (n : ℕ) → cond b (Some n) None ≡ None → b ≡ false
none_at true n e = cc
none_at false n e = refl

pub absent : (name : List ℕ) (fs : List HostFile) → position (λ f. bytes_eq (f.name) name) fs ≡ None → file_in name (told fs) ≡ None
absent name fs is = absent_by name fs (ltb-false _ _ (none_at _ _ is))

found_by : (name : List ℕ) (fs : List HostFile) (i : ℕ) (d : HostFile) → i < length fs → is_named name (get_or fs i d) ≡ true → ((k : ℕ) → k < i → is_named name (get_or fs k d) ≡ false)
    → file_in name (told fs) ≡ Some (get_or fs i d).bytes
found_by name [] i d within here before = absurd (omega arith)
found_by name (f ∷ fs) zero d within here before = cond-true _ _ _ here
found_by name (f ∷ fs) (suc i) d within here before =
    cond-false _ _ _ (before 0 (omega arith)) ∙ found_by name fs i d (omega arith) here (λ k less. before (suc k) (omega arith))

pub found : (name : List ℕ) (fs : List HostFile) (i : ℕ) (d : HostFile) → position (λ f. bytes_eq (f.name) name) fs ≡ Some i → file_in name (told fs) ≡ Some (get_or fs i d).bytes
found name fs i d is = let p = position-Some (λ f. bytes_eq (f.name) name) fs i d is in found_by name fs i d p.0 p.1 p.2

-- a file of the same name in the place of the first of that name
put_same : (name : List ℕ) (fs : List HostFile) (i : ℕ) (d g : HostFile) → i < length fs → is_named name g ≡ true → ((k : ℕ) → k < i → is_named name (get_or fs k d) ≡ false)
    → file_in name (told (set fs i g)) ≡ Some g.bytes
put_same name [] i d g within same before = absurd (omega arith)
put_same name (f ∷ fs) zero d g within same before = cond-true _ _ _ same
put_same name (f ∷ fs) (suc i) d g within same before =
    cond-false _ _ _ (before 0 (omega arith)) ∙ put_same name fs i d g (omega arith) same (λ k less. before (suc k) (omega arith))

apart : (name n : List ℕ) (f : HostFile) → n ≢ name → is_named name f ≡ true → (b : Bool) → is_named n f ≡ b → b ≡ false
apart name n f ne same true is = absurd (ne (sym ((bytes_eq-Decides (f.name) n).0 is) ∙ (bytes_eq-Decides (f.name) name).0 same))
apart name n f ne same false is = refl

not_named : (name n : List ℕ) (f : HostFile) → n ≢ name → is_named name f ≡ true → is_named n f ≡ false
not_named name n f ne same = apart name n f ne same (is_named n f) refl

put_other : (name n : List ℕ) (fs : List HostFile) (i : ℕ) (d g : HostFile) → n ≢ name → i < length fs → is_named name g ≡ true → is_named name (get_or fs i d) ≡ true
    → file_in n (told (set fs i g)) ≡ file_in n (told fs)
put_other name n [] i d g ne within same here = absurd (omega arith)
put_other name n (f ∷ fs) zero d g ne within same here = cond-false _ _ _ (not_named name n g ne same) ∙ sym (cond-false _ _ _ (not_named name n f ne here))
put_other name n (f ∷ fs) (suc i) d g ne within same here =
    ap (λ r. cond (is_named n f) (Some f.bytes) r) (put_other name n fs i d g ne (omega arith) same here)

pub put_at : (name : List ℕ) (fs : List HostFile) (i : ℕ) (d g : HostFile) → position (λ f. bytes_eq (f.name) name) fs ≡ Some i → g.name ≡ (get_or fs i d).name
    → Puts (Some (told fs)) (Some (told (set fs i g))) name g.bytes
put_at name fs i d g is same =
    let p = position-Some (λ f. bytes_eq (f.name) name) fs i d is in
    let named : is_named name g ≡ true = ap (λ t. bytes_eq t name) same ∙ p.1 in (
      put_same name fs i d g p.0 named p.2,
      (λ n ne. put_other name n fs i d g ne p.0 named p.1),
    )

-- a file behind all others
push_same : (name : List ℕ) (fs : List HostFile) (g : HostFile) → file_in name (told fs) ≡ None → is_named name g ≡ true → file_in name (told (fs ++ g ∷ [])) ≡ Some g.bytes
push_same name [] g none same = cond-true _ _ _ same
push_same name (f ∷ fs) g none same = push_same_at name f fs g (is_named name f) none (λ rest. push_same name fs g rest same)
  where
    push_same_at : (name : List ℕ) (f : HostFile) (fs : List HostFile) (g : HostFile) (b : Bool) → cond b (Some f.bytes) (file_in name (told fs)) ≡ None → (file_in name (told fs) ≡ None → file_in name (told (fs ++ g ∷ [])) ≡ Some g.bytes) → cond b (Some f.bytes) (file_in name (told (fs ++ g ∷ []))) ≡ Some g.bytes
    push_same_at name f fs g true none go = cc
    push_same_at name f fs g false none go = go none

push_other : (n : List ℕ) (fs : List HostFile) (g : HostFile) → is_named n g ≡ false → file_in n (told (fs ++ g ∷ [])) ≡ file_in n (told fs)
push_other n [] g other = cond-false _ _ _ other
push_other n (f ∷ fs) g other = ap (λ r. cond (is_named n f) (Some f.bytes) r) (push_other n fs g other)

pub put_behind : (name : List ℕ) (fs : List HostFile) (g : HostFile) → position (λ f. bytes_eq (f.name) name) fs ≡ None → g.name ≡ name
    → Puts (Some (told fs)) (Some (told (fs ++ g ∷ []))) name g.bytes
put_behind name fs g none same =
    let named : is_named name g ≡ true = (bytes_eq-Decides (g.name) name).1 same in (
      push_same name fs g (absent name fs none) named,
      (λ n ne. push_other n fs g (not_named name n g ne named)),
    )

-- some bytes of the input are moved to the front of a buffer
pub moved : (xs front back : List ℕ) (r n : ℕ) → front ≡ take n (drop r xs) → n ≡ length front → drop r xs ≡ take n (front ++ back) ++ drop (r + n) xs
moved xs front back r n is long =
    let low : n ≤ length front = omega arith in
    let e : take n (front ++ back) ≡ take n (drop r xs) = take-append-le n front back low ∙ rw long (take-length front) ∙ is in
    sym (take-append-drop n (drop r xs)) ∙ ap (λ t. t ++ drop n (drop r xs)) (sym e) ∙ ap (λ t. take n (front ++ back) ++ t) (drop-drop n r xs)
