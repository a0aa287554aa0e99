-- Names that were not declared before are distinct.
use Rattle.std.proofs.Common.{◌≡◌, refl, Bool, true, false, cond, not, List, [], ◌∷◌, ◌++◌, ℕ}
use Rattle.std.specs.Prelude.{⊤}
use Rattle.std.specs.List.{AllByRecursion, IsDistinct}
use Rattle.std.specs.Str.{bytes_eq}
use Rattle.c_syntax.specs.Tree.{Name}
use Rattle.c_rules.specs.Groups.{Taken, put, put_all, twice_breaches}
use Rattle.c_reader.proofs.Breachless.{holds}

-- each is declared once, and none before
abbrev pub Fresh : Taken → List Name → Type 0
Fresh taken [] = ⊤
Fresh taken (x ∷ xs) = (taken x ≡ false) × Fresh (put x taken) xs

flip : (b : Bool) → not b ≡ true → b ≡ false
flip true h = cc
flip false h = refl

pub once : (taken : Taken) (at : ℕ) (x : Name) → twice_breaches taken at x ≡ [] → taken x ≡ false
once taken at x h = flip (taken x) (holds (not (taken x)) at h)

pub fresh_append : (taken : Taken) (xs ys : List Name) → Fresh taken xs → Fresh (put_all xs taken) ys → Fresh taken (xs ++ ys)
fresh_append taken [] ys h k = k
fresh_append taken (x ∷ xs) ys h k = (h.0, fresh_append (put x taken) xs ys h.1 k)

either : (b c : Bool) → cond b true c ≡ false → (b ≡ false) × (c ≡ false)
either true c h = cc
either false c h = (refl, h)

less : (b c d : Bool) → (c ≡ false → d ≡ false) → cond b true c ≡ false → cond b true d ≡ false
less true c d f h = cc
less false c d f h = f h

-- fewer that were declared
fewer : (a b : Taken) (xs : List Name) → ((x : Name) → a x ≡ false → b x ≡ false) → Fresh a xs → Fresh b xs
fewer a b [] f h = tt
fewer a b (x ∷ xs) f h = (f x h.0, fewer (put x a) (put x b) xs (λ y. less (bytes_eq x y) (a y) (b y) (f y)) h.1)

others : (x : Name) (taken : Taken) (xs : List Name) → Fresh (put x taken) xs → AllByRecursion (λ y. bytes_eq x y ≡ false) xs
others x taken [] h = tt
others x taken (y ∷ ys) h =
    ((either (bytes_eq x y) (taken y) h.0).0, others x taken ys (fewer (put y (put x taken)) (put x taken) ys (λ z k. (either (bytes_eq y z) (put x taken z) k).1) h.1))

pub distinct : (taken : Taken) (xs : List Name) → Fresh taken xs → IsDistinct bytes_eq xs
unfolding IsDistinct
distinct taken [] h = tt
distinct taken (x ∷ xs) h = (others x taken xs h.1, distinct (put x taken) xs h.1)
