-- What a form within its limits is.
use Rattle.std.proofs.Common.{◌≡◌, ◌<◌, ◌≤◌, ℕ, ◌^◌, ◌+◌, ◌-◌, min, ℤ, zero, suc, ◌+ℤ◌, true, false, cond, List, [], ◌∷◌, Option, Some, None, Result, Ok, Err, refl, sym, arith}
use Rattle.std.proofs.lemmas.Int.{ints}
use Rattle.std.proofs.lemmas.Bool.Decides.{nat_tests}
use Rattle.std.specs.Prelude.{nat_lt, IfOk, unsigned_abs}
use Rattle.pl_forms.specs.declared.form.Part.{Part}
use Rattle.pl_forms.specs.declared.form.Form.{Form}
use Rattle.pl_forms.specs.declared.form.TermError.{TermError}
use Rattle.pl_forms.specs.Forms.{merge, merge_into, put_part, is_zero, value, limited, limited_by, excess, Ascends, Small, IsForm}
use Rattle.pl_forms.specs.declared.form.TermError.TheVariants.{TooLarge}
use Rattle.pl_forms.proofs.FormSums.{value-merge}

pub weaken : (low high : ℕ) (ps : List Part) → low ≤ high → Ascends high ps → Ascends low ps
weaken low high [] h a = tt
weaken low high (p ∷ ps) h a = (omega arith, a.1, a.2)

ascends-put : (low n : ℕ) (c : ℤ) (rest : List Part) → low ≤ n → Ascends (n + 1) rest → Ascends low (put_part n c rest)
ascends-put low n c rest h a =
    (elim (is_zero c) as (λ z. is_zero c ≡ z → Ascends low (cond z rest (record { coeff = c; atom = n } ∷ rest))) [ true ↦ λ _. weaken low (n + 1) rest (omega arith) a | false ↦ λ e. (h, e, a) ]) refl

ascends_chosen : (low m n : ℕ) (less same more : List Part) → (m < n → Ascends low less) → (n < m → Ascends low more) → (m ≡ n → Ascends low same) → Ascends low (cond (nat_lt m n) less (cond (nat_lt n m) more same))
ascends_chosen low m n less same more p q e =
    (elim (nat_lt m n) as (λ s. nat_lt m n ≡ s → Ascends low (cond s less (cond (nat_lt n m) more same))) [
      | true ↦ λ lo. p (grind (arith, nat_tests))
      | false ↦ λ lo. (elim (nat_lt n m) as (λ t. nat_lt n m ≡ t → Ascends low (cond t more same)) [ true ↦ λ hi. q (grind (arith, nat_tests)) | false ↦ λ hi. e (grind (arith, nat_tests)) ]) refl
    ])
    refl

ascends-into : (low : ℕ) (a : Part) (more : List Part) → ((l : ℕ) (ys : List Part) → Ascends l more → Ascends l ys → Ascends l (merge more ys)) → (ys : List Part) → low ≤ a.atom → is_zero a.coeff ≡ false → Ascends (a.atom + 1) more → Ascends low ys → Ascends low (merge_into a (λ rest. merge more rest) ys)
ascends-into low a more ih [] h z s t = (h, z, ih (a.atom + 1) [] s tt)
ascends-into low a more ih (b ∷ bs) h z s t =
    ascends_chosen low a.atom b.atom (a ∷ merge more (b ∷ bs)) (put_part a.atom (a.coeff +ℤ b.coeff) (merge more bs)) (b ∷ merge_into a (λ rest. merge more rest) bs)
    (λ lt. (h, z, ih (a.atom + 1) (b ∷ bs) s (omega arith, t.1, t.2)))
    (λ lt. (t.0, t.1, ascends-into (b.atom + 1) a more ih bs (omega arith) z s t.2))
    (λ e. ascends-put low a.atom (a.coeff +ℤ b.coeff) (merge more bs) h (ih (a.atom + 1) bs s (weaken (a.atom + 1) (b.atom + 1) bs (omega arith) t.2)))

pub ascends-merge : (low : ℕ) (xs ys : List Part) → Ascends low xs → Ascends low ys → Ascends low (merge xs ys)
ascends-merge low [] ys s t = t
ascends-merge low (a ∷ more) ys s t = ascends-into low a more (λ l zs p q. ascends-merge l more zs p q) ys s.0 s.1 s.2 t

small_step : (p : Part) (ps : List Part) → excess (p ∷ ps) ≡ None → (unsigned_abs p.coeff ≤ 2 ^ 40) × (excess ps ≡ None)
small_step p ps h =
    (elim (nat_lt (2 ^ 40) (unsigned_abs p.coeff)) as (λ s. nat_lt (2 ^ 40) (unsigned_abs p.coeff) ≡ s → cond s (Some (unsigned_abs p.coeff)) (excess ps) ≡ None → (unsigned_abs p.coeff ≤ 2 ^ 40) × (excess ps ≡ None))
    [ true ↦ λ lo e. absurd cc | false ↦ λ lo e. (grind (arith, nat_tests), e) ])
    refl
    h

pub small_from : (ps : List Part) → excess ps ≡ None → Small ps
small_from [] h k d lt = absurd (omega arith)
small_from (p ∷ ps) h zero d lt = (small_step p ps h).0
small_from (p ∷ ps) h (suc k) d lt = small_from ps (small_step p ps h).1 k d (omega arith)

pub limited_ok : (o : Option ℕ) (ps : List Part) (c : ℤ) (f : Form) → limited_by o ps c ≡ Ok f → (o ≡ None) × (f.parts ≡ ps) × (f.constant ≡ c) × (unsigned_abs c ≤ 2 ^ 80)
limited_ok (Some n) ps c f h = absurd cc
limited_ok None ps c f h =
    (elim (nat_lt (2 ^ 80) (unsigned_abs c)) as (λ s. nat_lt (2 ^ 80) (unsigned_abs c) ≡ s → cond s (Err (TooLarge (min (unsigned_abs c) (2 ^ 127 - 1)))) (Ok (record { parts = ps; constant = c })) ≡ Ok f → (◌≡◌ {A = Option ℕ} None None) × (f.parts ≡ ps) × (f.constant ≡ c) × (unsigned_abs c ≤ 2 ^ 80))
    [ true ↦ λ lo e. absurd cc | false ↦ λ lo e. (refl, cc, cc, grind (arith, nat_tests)) ])
    refl
    h

pub sum_value : (one other : Form) (r : Result Form TermError) → r ≡ limited (merge one.parts other.parts) (one.constant +ℤ other.constant) → IfOk r (λ f. (v : ℕ → ℤ) → value v f ≡ value v one +ℤ value v other)
sum_value one other (Err e) h = tt
sum_value one other (Ok f) h = λ v.
    let k = limited_ok (excess (merge one.parts other.parts)) (merge one.parts other.parts) (one.constant +ℤ other.constant) f (sym h) in
    rw (k.1, k.2) (omega (arith, ints, value-merge v one.parts other.parts))

pub sum_form : (one other : Form) (r : Result Form TermError) → IsForm one → IsForm other → r ≡ limited (merge one.parts other.parts) (one.constant +ℤ other.constant) → IfOk r (λ f. IsForm f)
sum_form one other (Err e) p q h = tt
sum_form one other (Ok f) p q h =
    let k = limited_ok (excess (merge one.parts other.parts)) (merge one.parts other.parts) (one.constant +ℤ other.constant) f (sym h) in
    record {
      ascends = rw k.1 (ascends-merge 0 one.parts other.parts p.ascends q.ascends);
      small = rw k.1 (small_from _ k.0);
      bounded = rw k.2 k.3;
    }
