-- A multiple of a form: its value, and that it is a form.
use Rattle.std.proofs.Common.{◌≡◌, ℕ, zero, suc, ◌≤◌, ◌+◌, ◌*◌, ◌^◌, ◌-◌, min, ℤ, pos, negsuc, neg_ℤ, ◌*ℤ◌, unsigned_abs, nat_lt, true, false, cond, List, [], ◌∷◌, Result, Ok, Err, IfOk, refl, ap, sym, subst, ◌∙◌, arith}
use Rattle.std.proofs.lemmas.Int.{ints}
use Rattle.std.proofs.lemmas.Bool.Decides.{nat_tests}
use Rattle.std.proofs.lemmas.List.Elements.{All-cons, All-nil}
use lib.IntN.{*ℤ-zero, zero-*ℤ, pos-*ℤ-pos, pos-*ℤ-negsuc, negsuc-*ℤ-pos, negsuc-*ℤ-negsuc}
use Rattle.pl_forms.specs.declared.form.Form.{Form}
use Rattle.pl_forms.specs.declared.form.Part.{Part}
use Rattle.pl_forms.specs.declared.form.TermError.{TermError}
use Rattle.pl_forms.specs.declared.form.TermError.TheVariants.{TooLarge}
use Rattle.pl_forms.specs.Forms.{Answers, IsForm, Ascends, Small, is_zero, value, parts_value, scaled, limited_part, limited_constant, all_limited, after_part, with_constant}
use Rattle.pl_forms.proofs.Products.{mul-add, mul-assoc}

pub part_is : (k : ℤ) (p q : Part) → limited_part k p ≡ Ok q → (q.coeff ≡ k *ℤ p.coeff) × (q.atom ≡ p.atom) × (unsigned_abs q.coeff ≤ 2 ^ 40)
part_is k p q h =
    (elim (nat_lt (2 ^ 40) (unsigned_abs (k *ℤ p.coeff))) as (λ s. nat_lt (2 ^ 40) (unsigned_abs (k *ℤ p.coeff)) ≡ s → cond s (Err (TooLarge (min (unsigned_abs (k *ℤ p.coeff)) (2 ^ 127 - 1)))) (Ok (record { coeff = k *ℤ p.coeff; atom = p.atom })) ≡ Ok q → (q.coeff ≡ k *ℤ p.coeff) × (q.atom ≡ p.atom) × (unsigned_abs q.coeff ≤ 2 ^ 40))
    [ true ↦ λ lo e. absurd cc | false ↦ λ lo e. let a : k *ℤ p.coeff ≡ q.coeff = cc in (sym a, cc, rw (← a) (grind (arith, nat_tests))) ])
    refl
    h

constant_is : (z c : ℤ) → limited_constant z ≡ Ok c → (c ≡ z) × (unsigned_abs c ≤ 2 ^ 80)
constant_is z c h =
    (elim (nat_lt (2 ^ 80) (unsigned_abs z)) as (λ s. nat_lt (2 ^ 80) (unsigned_abs z) ≡ s → cond s (Err (TooLarge (min (unsigned_abs z) (2 ^ 127 - 1)))) (Ok z) ≡ Ok c → (c ≡ z) × (unsigned_abs c ≤ 2 ^ 80))
    [ true ↦ λ lo e. absurd cc | false ↦ λ lo e. let a : z ≡ c = cc in (sym a, rw (← a) (grind (arith, nat_tests))) ])
    refl
    h

pub after_is : (r : Result Part TermError) (rest : Result (List Part) TermError) (qs : List Part) → after_part r rest ≡ Ok qs → (q : Part) × (more : List Part) × (r ≡ Ok q) × (rest ≡ Ok more) × (qs ≡ q ∷ more)
after_is (Err e) rest qs h = absurd cc
after_is (Ok q) (Err e) qs h = absurd cc
after_is (Ok q) (Ok more) qs h = (q, more, refl, refl, cc)

nonzero_suc : (a b : ℕ) → (m : ℕ) × (suc a * suc b ≡ suc m)
nonzero_suc a b = (a * suc b + b, omega arith)

pub product_nonzero : (k c : ℤ) → is_zero k ≡ false → is_zero c ≡ false → is_zero (k *ℤ c) ≡ false
product_nonzero (pos zero) c h q = absurd cc
product_nonzero (pos (suc a)) (pos zero) h q = absurd cc
product_nonzero (negsuc a) (pos zero) h q = absurd cc
product_nonzero (pos (suc a)) (pos (suc b)) h q = let m = nonzero_suc a b in ap is_zero (pos-*ℤ-pos (suc a) (suc b) ∙ ap pos m.1)
product_nonzero (pos (suc a)) (negsuc b) h q = let m = nonzero_suc a b in ap is_zero (pos-*ℤ-negsuc (suc a) b ∙ ap (λ n. neg_ℤ (pos n)) m.1)
product_nonzero (negsuc a) (pos (suc b)) h q = let m = nonzero_suc a b in ap is_zero (negsuc-*ℤ-pos a (suc b) ∙ ap (λ n. neg_ℤ (pos n)) m.1)
product_nonzero (negsuc a) (negsuc b) h q = let m = nonzero_suc a b in ap is_zero (negsuc-*ℤ-negsuc a b ∙ ap pos m.1)

all_is : (v : ℕ → ℤ) (k : ℤ) (low : ℕ) (ps qs : List Part) → is_zero k ≡ false → Ascends low ps → all_limited k ps ≡ Ok qs → (parts_value v qs ≡ k *ℤ parts_value v ps) × Ascends low qs × Small qs
all_is v k low [] qs z a h = let e : [] ≡ qs = cc in subst (λ r. (parts_value v r ≡ k *ℤ pos 0) × Ascends low r × Small r) e (sym (*ℤ-zero k), tt, All-nil (λ p. unsigned_abs p.coeff ≤ 2 ^ 40))
all_is v k low (p ∷ ps) qs z a h =
    let m = after_is (limited_part k p) (all_limited k ps) qs h in
    let q = part_is k p m.0 m.2 in
    let r = all_is v k (p.atom + 1) ps m.1 z a.2 m.3 in
    let at_q : m.0.coeff *ℤ v m.0.atom ≡ (k *ℤ p.coeff) *ℤ v p.atom = rw (q.0, q.1) refl in
    rw m.4 (
      omega (arith, ints, at_q, r.0, mul-add k (p.coeff *ℤ v p.atom) (parts_value v ps), mul-assoc k p.coeff (v p.atom)),
      (rw q.1 a.0, ap is_zero q.0 ∙ product_nonzero k p.coeff z a.1, rw q.1 r.1),
      All-cons (λ p. unsigned_abs p.coeff ≤ 2 ^ 40) m.0 m.1 q.2 r.2,
    )

pub with_is : (r : Result (List Part) TermError) (c : Result ℤ TermError) (f : Form) → with_constant r c ≡ Ok f → (r ≡ Ok f.parts) × (c ≡ Ok f.constant)
with_is (Err e) c f h = absurd cc
with_is (Ok ps) (Err e) f h = absurd cc
with_is (Ok ps) (Ok c) f h = let e : (record { parts = ps; constant = c }) ≡ f = cc in (ap (λ g. Ok (g.parts)) e, ap (λ g. Ok (g.constant)) e)

zero_is : (z : ℤ) → is_zero z ≡ true → z ≡ pos 0
zero_is (pos zero) h = refl
zero_is (pos (suc n)) h = absurd cc
zero_is (negsuc n) h = absurd cc

pub scaled_is : (v : ℕ → ℤ) (k : ℤ) (f r : Form) → IsForm f → scaled k f ≡ Ok r → (value v r ≡ k *ℤ value v f) × IsForm r
scaled_is v k f r i h =
    (elim (is_zero k) as (λ s. is_zero k ≡ s → cond s (Ok (record { parts = []; constant = pos 0 })) (with_constant (all_limited k f.parts) (limited_constant (k *ℤ f.constant))) ≡ Ok r → (value v r ≡ k *ℤ value v f) × IsForm r) [
      | true ↦ λ z q.
          let e : (record { parts = []; constant = pos 0 }) ≡ r = cc in
          subst (λ g. (value v g ≡ k *ℤ value v f) × IsForm g) e (omega (arith, ints, ap (λ x. x *ℤ value v f) (zero_is k z), zero-*ℤ (value v f)), record { ascends = tt; small = All-nil (λ p. unsigned_abs p.coeff ≤ 2 ^ 40); bounded = omega arith })
      | false ↦ λ z q.
          let w = with_is (all_limited k f.parts) (limited_constant (k *ℤ f.constant)) r q in
          let a = all_is v k 0 f.parts r.parts z i.ascends w.0 in
          let c = constant_is (k *ℤ f.constant) r.constant w.1 in
          (omega (arith, ints, a.0, c.0, mul-add k (parts_value v f.parts) f.constant), record { ascends = a.1; small = a.2; bounded = c.1 })
    ]) refl h

pub multiple_value : (k : ℤ) (f : Form) (r : Result Form TermError) → IsForm f → Answers r (scaled k f) → IfOk r (λ g. (v : ℕ → ℤ) → value v g ≡ k *ℤ value v f)
multiple_value k f (Ok g) i h = λ v. (scaled_is v k f g i h).0
multiple_value k f (Err e) i h = tt

pub multiple_form : (k : ℤ) (f : Form) (r : Result Form TermError) → IsForm f → Answers r (scaled k f) → IfOk r (λ g. IsForm g)
multiple_form k f (Ok g) i h = (scaled_is (λ _. pos 0) k f g i h).1
multiple_form k f (Err e) i h = tt
