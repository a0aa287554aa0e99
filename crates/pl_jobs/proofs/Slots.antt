-- A result goes to its place, and is taken from it.
use Rattle.std.proofs.Common.{◌≡◌, ◌≢◌, ◌⊎◌, ℕ, zero, suc, ◌+◌, ◌<◌, List, [], ◌∷◌, ◌++◌, set, get_or, length, refl, sym, ◌∙◌, ap, subst, inl, inr, ⊎_elim, arith, length-append}
use Rattle.std.specs.Prelude.{Option, Some, None, All}
use mathlib.Core.Option.{some, some-injective, some-ne-none}
use lib.ListN.{get_elem?}
use Rattle.std.proofs.Math.ListN.{get_or-append}
use Rattle.std.proofs.Math.Seq.{get_or-append_seam}
use Rattle.std.proofs.lemmas.Bool.{cases_eq}
use Rattle.std.proofs.lemmas.Bool.Decides.{nat_tests}
use Rattle.std.proofs.lemmas.List.{map-append}
use Rattle.atomic_table.proofs.Lists.{set_here, set_else}
use Rattle.pl_jobs.specs.declared.work.Done.{Done}
use Rattle.pl_jobs.specs.Numbers.{times}
use Rattle.pl_jobs.specs.Items.{numbers}
use Rattle.pl_jobs.specs.Slots.{RightAt, Reaches, RightFrom, InOrder}
use Rattle.pl_jobs.proofs.Totals.{times-append}

times_else : (k n : ℕ) → (n ≡ k → ⊥) → times k (n ∷ []) ≡ 0
times_else k n ne = grind (arith, nat_tests)

module _ {W T : Type 0} (gives : W → ℕ → T → Type 0) (work : W) where
  right_else : (slots : List (Option T)) (i k : ℕ) (o : Option T) → k ≢ i → RightAt gives work slots k → RightAt gives work (set slots i o) k
  right_else slots i k o ne (x, at, good) = (x, (set_else slots i k o ne ∙ at), good)

  pub placed : (items : ℕ) (slots : List (Option T)) (ds : List (Done T)) (d : Done T) → length slots ≡ items → gives work d.item d.out → Reaches gives work items slots (ds ++ d ∷ []) → Reaches gives work items (set slots d.item (Some d.out)) ds
  placed items slots ds d count good each k less =
      let here : (d.item ≡ k) → (0 < times k (numbers ds)) ⊎ RightAt gives work (set slots d.item (Some d.out)) k = λ e.
      let P : ℕ → Type 0 = λ j. (0 < times j (numbers ds)) ⊎ RightAt gives work (set slots d.item (Some d.out)) j in
      subst P e (inr (d.out, set_here slots d.item (Some d.out) (omega arith), good)) in
      let there : (d.item ≡ k → ⊥) → (0 < times k (numbers ds)) ⊎ RightAt gives work (set slots d.item (Some d.out)) k = λ ne.
      ⊎_elim
      (λ (some_left : 0 < times k (numbers (ds ++ d ∷ []))). inl (omega (arith, ap (times k) (map-append (λ (z : Done T). z.item) ds (d ∷ [])), times-append k (numbers ds) (d.item ∷ []), times_else k d.item ne)))
      (λ (right : RightAt gives work slots k). inr (right_else slots d.item k (Some d.out) (λ e. ne (sym e)) right))
      (each k less) in
      ⊎_elim here there (cases_eq d.item k)

  pub all_placed : (items : ℕ) (slots : List (Option T)) (ds : List (Done T)) → ds ≡ [] → Reaches gives work items slots ds → RightFrom gives work 0 items slots
  all_placed items slots ds none each k low less =
      ⊎_elim (λ (left : 0 < times k (numbers ds)). absurd (omega (arith, ap (λ z. times k (numbers z)) none))) (λ (right : RightAt gives work slots k). right) (each k less)

  pub taken : (from items : ℕ) (slots : List (Option T)) → RightFrom gives work from items slots → RightFrom gives work (from + 1) items (set slots from None)
  taken from items slots each k low less = right_else slots from k None (omega arith) (each k (omega arith) less)

get_at : {A : Type 0} (l : List A) (i : ℕ) (a d : A) → get_elem? l i ≡ some a → get_or l i d ≡ a
get_at [] i a d e = absurd (some-ne-none a (sym e))
get_at (x ∷ xs) zero a d e = some-injective x a e
get_at (x ∷ xs) (suc i) a d e = get_at xs i a d e

pub empty_is : {A : Type 0} (xs : List A) → length xs ≡ 0 → xs ≡ []
empty_is [] e = refl
empty_is (x ∷ xs) e = absurd (omega arith)

pub all_front : {A : Type 0} (P : A → Type 0) (xs ys : List A) → All P (xs ++ ys) → All P xs
all_front P xs ys all k d less = subst P (get_or-append xs ys d k less) (all k d (omega (arith, length-append xs ys)))

pub all_last : {A : Type 0} (P : A → Type 0) (xs : List A) (x : A) → All P (xs ++ x ∷ []) → P x
all_last P xs x all = subst P (get_or-append_seam xs x [] x) (all (length xs) x (omega (arith, length-append xs (x ∷ []))))

module _ {W T : Type 0} (gives : W → ℕ → T → Type 0) (work : W) where
  pub found : (slots : List (Option T)) (k : ℕ) (o : Option T) → RightAt gives work slots k → o ≡ get_or slots k o → (x : T) × (o ≡ Some x) × gives work k x
  found slots k o (x, at, good) e = (x, (e ∙ get_at slots k (Some x) o at), good)

  pub in_order_push : (xs : List T) (x : T) (k : ℕ) → length xs ≡ k → InOrder gives work xs → gives work k x → InOrder gives work (xs ++ x ∷ [])
  in_order_push xs x k count good new j d less =
      let last : (j ≡ length xs) → gives work j (get_or (xs ++ x ∷ []) j d) = λ e.
      let P : ℕ → Type 0 = λ n. gives work n (get_or (xs ++ x ∷ []) n d) in
      let Q : T → Type 0 = λ y. gives work (length xs) y in
      let R : ℕ → Type 0 = λ n. gives work n x in
      subst P (sym e) (subst Q (sym (get_or-append_seam xs x [] d)) (subst R (sym count) new)) in
      let front : (j ≡ length xs → ⊥) → gives work j (get_or (xs ++ x ∷ []) j d) = λ ne.
      let below : j < length xs = omega (arith, length-append xs (x ∷ [])) in
      subst (gives work j) (sym (get_or-append xs (x ∷ []) d j below)) (good j d below) in
      ⊎_elim last front (cases_eq j (length xs))
