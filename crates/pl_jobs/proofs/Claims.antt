-- What one worker claimed, and what two did together.
use Rattle.std.proofs.Common.{◌≡◌, ℕ, zero, suc, suc-mul, ◌*◌, ◌+◌, ◌-◌, ◌<◌, ◌≤◌, List, [], ◌∷◌, ◌++◌, length, sym, ap, subst, inl, inr, ⊎_elim, arith, length-append}
use Rattle.std.proofs.lemmas.Bool.Decides.{nat_tests}
use Rattle.std.proofs.lemmas.List.{map-append}
use Rattle.pl_jobs.specs.declared.hand.Hand.{Hand}
use Rattle.pl_jobs.specs.declared.work.Done.{Done}
use Rattle.pl_jobs.specs.Numbers.{times, drew, took, once_below, IsAll}
use Rattle.pl_jobs.specs.Items.{numbers, EndsPast, Claimed}
use Rattle.pl_jobs.proofs.Totals.{times-append}

times_other : (x n : ℕ) → x < n → times x (n ∷ []) ≡ 0
times_other x n less = grind (arith, nat_tests)

times_same : (n : ℕ) → times n (n ∷ []) ≡ 1
times_same n = grind (arith, nat_tests)

-- a worker drew a number past the items
pub claimed_past : {T : Type 0} (items all n k : ℕ) (v w : Hand) (done : List (Done T)) → w ≡ drew v n → v.drawn ≡ numbers done → items ≤ n → length v.drawn ≡ k → k + v.left ≡ items + 1 → k < items + 1 → v.all ≡ all
    → Claimed items (items + 1) all w done
claimed_past items all n k v w done is drawn past count left more same =
    let P : Hand → Type 0 = λ z. Claimed items (items + 1) all z done in
    subst P (sym is) record {
      claims = omega (arith, length-append v.drawn (n ∷ []));
      same_all = same;
      same = λ x less. let o = times_other x n (omega arith) in omega (arith, times-append x v.drawn (n ∷ []), o, ap (times x) drawn);
      past = inr (n, past, (omega (arith, times-append n v.drawn (n ∷ []), times_same n)));
    }

-- a worker drew as many numbers as it could
pub claimed_out : {T : Type 0} (items all k : ℕ) (v : Hand) (done : List (Done T)) → v.drawn ≡ numbers done → length v.drawn ≡ k → k + v.left ≡ items + 1 → items < k → v.all ≡ all → Claimed items (items + 1) all v done
claimed_out items all k v done drawn count left more same = record {
  claims = omega arith;
  same_all = same;
  same = λ x less. ap (times x) drawn;
  past = inl (omega arith);
}

past_left : (items : ℕ) (xs ys : List ℕ) → EndsPast items xs → EndsPast items (xs ++ ys)
past_left items xs ys (inl long) = inl (omega (arith, length-append xs ys))
past_left items xs ys (inr (x, above, there)) = inr (x, above, (omega (arith, times-append x xs ys)))

-- two groups of workers together
pub claimed_both : {T : Type 0} (items n m all : ℕ) (v w u : Hand) (ds es both : List (Done T)) → Claimed items n all v ds → Claimed items m all w es → u ≡ took v w → both ≡ ds ++ es → Claimed items (n + m) all u both
claimed_both {T} items n m all v w u ds es both a b is joined =
    let P : Hand → Type 0 = λ z. Claimed items (n + m) all z both in
    let Q : List (Done T) → Type 0 = λ z. Claimed items (n + m) all (took v w) z in
    subst P (sym is) (subst Q (sym joined) record {
      claims = omega (arith, a.claims, b.claims, length-append v.drawn w.drawn);
      same_all = a.same_all;
      same = λ x less. omega (arith, times-append x v.drawn w.drawn, a.same x less, b.same x less, times-append x (numbers ds) (numbers es), ap (times x) (map-append (λ (d : Done T). d.item) ds es));
      past = past_left items v.drawn w.drawn a.past;
    })

pub one_more : (workers items : ℕ) → 0 < workers → (items + 1) + (workers - 1) * (items + 1) ≡ workers * (items + 1)
one_more zero items some = absurd (omega arith)
one_more (suc n) items some = let e : suc n - 1 ≡ n = omega arith in rw e (omega (arith, suc-mul n (items + 1)))

below_here : (k n : ℕ) → k < n → once_below k n ≡ 1
below_here k n less = grind (arith, nat_tests)

below_there : (k n : ℕ) → 0 < once_below k n → k < n
below_there k n some = grind (arith, nat_tests)

-- each item was done, once all claims are back
pub covers : {T : Type 0} (items n count all : ℕ) (v : Hand) (done : List (Done T)) → Claimed items count all v done → n ≡ length v.drawn → IsAll n v.drawn → (k : ℕ) → k < items → 0 < times k (numbers done)
covers items n count all v done did len every k less =
    let more : items < n = ⊎_elim (λ (long : items < length v.drawn). omega (arith, len)) (λ (there : (x : ℕ) × (items ≤ x) × (0 < times x v.drawn)). let b = below_there there.0 n (omega (arith, every there.0, there.2)) in omega (arith, b, there.1)) did.past in
    omega (arith, did.same k less, every k, below_here k n (omega (arith, more)))
