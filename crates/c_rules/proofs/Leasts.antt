-- Laws of the first of places.
use Rattle.std.proofs.Common.{◌≡◌, ◌∙◌, sym, ap, refl, ℕ, min, Option, Some, None, List, [], ◌∷◌, ◌++◌, arith}
use Rattle.c_rules.specs.Least.{earlier, first, least}
use Rattle.c_rules.specs.Sorts.{or_else}

min_assoc : (a b c : ℕ) → min (min a b) c ≡ min a (min b c)
min_assoc a b c = omega arith

pub earlier_assoc : (a b c : Option ℕ) → earlier (earlier a b) c ≡ earlier a (earlier b c)
earlier_assoc None b c = refl
earlier_assoc (Some n) None c = refl
earlier_assoc (Some n) (Some k) None = refl
earlier_assoc (Some n) (Some k) (Some m) = ap Some (min_assoc n k m)

-- the first of these and those
pub least_append : (xs ys : List ℕ) → least (xs ++ ys) ≡ earlier (least xs) (least ys)
least_append [] ys = refl
least_append (x ∷ xs) ys = ap (earlier (Some x)) (least_append xs ys) ∙ sym (earlier_assoc (Some x) (least xs) (least ys))

first_some : (x : ℕ) (a b : Option ℕ) → earlier (Some x) a ≡ first (earlier (Some x) a) b
first_some x None b = refl
first_some x (Some k) b = refl

-- these, or where there are none those
pub least_or_else : (xs ys : List ℕ) → least (or_else xs ys) ≡ first (least xs) (least ys)
least_or_else [] ys = refl
least_or_else (x ∷ xs) ys = first_some x (least xs) (least ys)

-- one step of a loop that keeps the first of breaches
pub fold_least : (part next total : Option ℕ) (one rest whole left : List ℕ) → whole ≡ one ++ rest → next ≡ least one → left ≡ rest →
    earlier part (least whole) ≡ total → earlier (earlier part next) (least left) ≡ total
fold_least part next total one rest whole left w h l t =
    earlier_assoc part next (least left) ∙ ap (earlier part) (ap (earlier next) (ap least l) ∙ ap (λ r. earlier r (least rest)) h ∙ sym (least_append one rest) ∙ sym (ap least w)) ∙ t
