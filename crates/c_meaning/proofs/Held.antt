-- A lock that is held stays as it is where it is acquired again.
use Rattle.std.proofs.Common.{◌≡◌, ℕ, zero, suc, List, [], ◌∷◌, true, false, Some, None, Option, Ok, refl, sym, ap, ◌∙◌, slice_get, slice_set}
use Rattle.pl_resource.specs.Faults.{chain}
use Rattle.pl_resource.specs.LockTable.{is_free, is_free_of, set_of, marked, unless_ended, if_usable}
use Rattle.pl_resource.specs.declared.lock_table.Lock.{Lock}
use Rattle.pl_resource.specs.declared.lock_table.Mark.{Mark}
use Rattle.pl_resource.specs.declared.lock_table.Mark.TheVariants.{Free, Held, Ended}

same_at : (xs : List Lock) (k : ℕ) (x : Lock) → slice_get xs k ≡ Some x → slice_set xs k x ≡ xs
same_at [] k x h = refl
same_at (y ∷ ys) zero x h = cc h
same_at (y ∷ ys) (suc k) x h = ap (λ z. y ∷ z) (same_at ys k x h)

by_mark : (xs : List Lock) (k : ℕ) (x : Lock) (m : Mark) → x.mark ≡ m → slice_get xs k ≡ Some x → chain (unless_ended x m) (λ lock. Ok (is_free m)) ≡ Ok false → chain (unless_ended x m) (λ lock. Ok (marked xs k x Held)) ≡ Ok xs
by_mark xs k x Held e h f = ap Ok (ap (λ z. slice_set xs k (record x { mark = z })) (sym e) ∙ same_at xs k x h)
by_mark xs k x Free e h f = cc
by_mark xs k x Ended e h f = cc

marks : (x : Lock) (m : Mark) → x.mark ≡ m → chain (unless_ended x m) (λ lock. Ok (is_free lock.mark)) ≡ chain (unless_ended x m) (λ lock. Ok (is_free m))
marks x Held e = ap (λ z. Ok (is_free z)) e
marks x Free e = ap (λ z. Ok (is_free z)) e
marks x Ended e = refl

same_lock : (xs : List Lock) (k : ℕ) (x : Lock) (m : Mark) → chain (unless_ended x m) (λ lock. Ok (marked xs k lock Held)) ≡ chain (unless_ended x m) (λ lock. Ok (marked xs k x Held))
same_lock xs k x Held = refl
same_lock xs k x Free = refl
same_lock xs k x Ended = refl

by_lock : (xs : List Lock) (k : ℕ) (o : Option Lock) → slice_get xs k ≡ o → chain (if_usable o) (λ lock. Ok (is_free lock.mark)) ≡ Ok false → chain (if_usable o) (λ lock. Ok (marked xs k lock Held)) ≡ Ok xs
by_lock xs k None h f = cc
by_lock xs k (Some x) h f = same_lock xs k x x.mark ∙ by_mark xs k x x.mark refl h (sym (marks x x.mark refl) ∙ f)

pub held_stays : (xs : List Lock) (k : ℕ) → is_free_of xs k ≡ Ok false → set_of xs k true ≡ Ok xs
held_stays xs k f = by_lock xs k (slice_get xs k) refl f
