-- The items of a path of inequalities, in its order, add to its last node less its first; those of a negative cycle are a certificate.
use Rattle.std.proofs.Common.{◌≡◌, ℕ, zero, suc, ◌<◌, ◌≤◌, ◌+◌, ◌*◌, ◌^◌, ℤ, pos, ◌-ℤ◌, ◌+ℤ◌, ◌*ℤ◌, ◌≤ℤ◌, ◌<ℤ◌, unsigned_abs, nat_le, int_lt, int_le, int_eq, replicate, true, false, cond, List, [], ◌∷◌, set, map, length, Some, None, inl, inr, refl, ap, sym, subst, ◌∙◌, arith, le-leb, get_or-set_same, get_or-set_other, length-set}
use Rattle.std.proofs.lemmas.Int.{ints}
use Rattle.std.proofs.lemmas.Bool.{cond-true, cases_lt}
use Rattle.std.proofs.lemmas.List.{get_or_past, length-replicate}
use lib.IntN.{*ℤ_comm}
use Rattle.pl_forms.specs.declared.form.Form.{Form}
use Rattle.pl_forms.specs.declared.fact.Fact.{Fact}
use Rattle.pl_forms.specs.declared.fact.CertItem.{CertItem}
use Rattle.pl_forms.specs.declared.equation.Solution.{Solution}
use Rattle.pl_forms.specs.Rows.{at, made, then_row, then_more, put_times, add_rows}
use Rattle.pl_forms.proofs.RowValues.{one_times}
use Rattle.pl_linear.specs.Certificates.{item_row, start_row, add_one, add_items, all_zero, is_closed, closing, is_certificate}

-- an inequality of two nodes: the number of `to` less that of `from` is at most `most`
pub record Arc : Type 0 where
  pub from : ℕ
  pub to : ℕ
  pub most : ℤ

-- places of arcs of which each begins where the one before ends
abbrev pub Path : ℕ → (ℕ → Arc) → List ℕ → ℕ → ℕ → Type 0
Path count arc [] first last = first ≡ last
Path count arc (i ∷ p) first last = (i < count) × ((arc i).from ≡ first) × Path count arc p (arc i).to last

abbrev pub total : (ℕ → Arc) → List ℕ → ℤ
total arc [] = pos 0
total arc (i ∷ p) = (arc i).most +ℤ total arc p

made_small : (z : ℤ) → unsigned_abs z ≤ 2 ^ 126 → made z ≡ Some z
made_small z h = cond-true (nat_le (unsigned_abs z) (2 ^ 126)) (Some z) None (le-leb (unsigned_abs z) (2 ^ 126) h)

put_made : (c : ℤ) (i : ℕ) (d : List ℤ) → unsigned_abs c ≤ 2 ^ 126 → unsigned_abs (at d i +ℤ c) ≤ 2 ^ 126 → put_times (pos 1) c i d ≡ Some (set d i (at d i +ℤ c))
put_made c i d h k =
    let p : pos 1 *ℤ c ≡ c = *ℤ_comm (pos 1) c ∙ one_times c in
    ap (λ z. then_row (made z) (λ p. then_row (made (at d i +ℤ p)) (λ s. Some (set d i s)))) p ∙ ap (λ o. then_row o (λ p. then_row (made (at d i +ℤ p)) (λ s. Some (set d i s)))) (made_small c h) ∙ ap (λ o. then_row o (λ s. Some (set d i s))) (made_small (at d i +ℤ c) k)

pub record Summed (i : ℕ) (cs d : List ℤ) : Type 0 where
  pub row : List ℤ
  pub is : add_rows (pos 1) i cs d ≡ Some row
  pub long : length row ≡ length d
  pub before : (k : ℕ) → k < i → at row k ≡ at d k
  pub within : (k : ℕ) → k < length cs → at row (i + k) ≡ at d (i + k) +ℤ at cs k

summed_at : (i : ℕ) (c : ℤ) (cs d : List ℤ) → i < length d → (r : Summed (i + 1) cs (set d i (at d i +ℤ c))) → (k : ℕ) → k < length (c ∷ cs) → at r.row (i + k) ≡ at d (i + k) +ℤ at (c ∷ cs) k
summed_at i c cs d hi r zero lt =
    let e0 : i + 0 ≡ i = omega arith in
    rw e0 (r.before i (omega arith) ∙ get_or-set_same d i (at d i +ℤ c) (pos 0) hi)
summed_at i c cs d hi r (suc k) lt =
    let e : i + suc k ≡ i + 1 + k = omega arith in
    rw e (r.within k (omega arith) ∙ ap (λ z. z +ℤ at cs k) (get_or-set_other d i (i + 1 + k) (at d i +ℤ c) (pos 0) (λ e. absurd (omega arith))))

pub rows_sum : (i : ℕ) (cs d : List ℤ) → i + length cs ≤ length d → ((k : ℕ) → k < length cs → unsigned_abs (at cs k) ≤ 2 ^ 126) → ((k : ℕ) → k < length cs → unsigned_abs (at d (i + k) +ℤ at cs k) ≤ 2 ^ 126) → Summed i cs d
rows_sum i [] d b h q = record { row = d; is = refl; long = refl; before = λ k lt. refl; within = λ k lt. absurd (omega arith) }
rows_sum i (c ∷ cs) d b h q =
    let e0 : at d (i + 0) ≡ at d i = ap (at d) (omega arith) in
    let s0 : unsigned_abs (at d i +ℤ c) ≤ 2 ^ 126 = rw (← e0) (q 0 (omega arith)) in
    let later : (k : ℕ) → at (set d i (at d i +ℤ c)) (i + 1 + k) ≡ at d (i + suc k) = λ k. get_or-set_other d i (i + 1 + k) (at d i +ℤ c) (pos 0) (λ e. absurd (omega arith)) ∙ ap (at d) (omega arith) in
    let r = rows_sum (i + 1) cs (set d i (at d i +ℤ c)) (omega (arith, length-set d i (at d i +ℤ c))) (λ k lt. h (suc k) (omega arith)) (λ k lt. rw (later k) (q (suc k) (omega arith))) in
    record {
      row = r.row;
      is = ap (λ o. then_more o (λ e. add_rows (pos 1) (i + 1) cs e)) (put_made c i d (h 0 (omega arith)) s0) ∙ r.is;
      long = r.long ∙ length-set d i (at d i +ℤ c);
      before = λ k lt. r.before k (omega arith) ∙ get_or-set_other d i k (at d i +ℤ c) (pos 0) (λ e. absurd (omega arith));
      within = λ k lt. summed_at i c cs d (omega arith) r k lt;
    }

-- what each edge's item is: its row is the node `to` less the node `from`, and at place 0 less the weight
pub record Items (count : ℕ) (arc : ℕ → Arc) (eqs : List Solution) (facts : List Fact) (goal : Form) (n : ℕ) : Type 0 where
  pub item : ℕ → CertItem
  pub row : ℕ → List ℤ
  pub node : ℕ → ℕ → ℤ
  pub once : (i : ℕ) → i < count → (item i).times ≡ pos 1
  pub made_row : (i : ℕ) → i < count → item_row eqs facts goal (item i) (start_row (item i).fact n) ≡ Some (row i)
  pub long : (i : ℕ) → i < count → length (row i) ≡ n
  pub constant : (i : ℕ) → i < count → at (row i) 0 +ℤ (arc i).most ≡ pos 0
  pub weights : (i : ℕ) → i < count → unsigned_abs (arc i).most ≤ 2 ^ 81
  pub places : (i : ℕ) → i < count → (k : ℕ) → 0 < k → at (row i) k ≡ node (arc i).to k -ℤ node (arc i).from k
  pub sizes : (x k : ℕ) → unsigned_abs (node x k) ≤ 2 ^ 41

pub record Reached (count : ℕ) (arc : ℕ → Arc) (eqs : List Solution) (facts : List Fact) (goal : Form) (n : ℕ) (t : Items count arc eqs facts goal n) (p : List ℕ) (first last : ℕ) (d : List ℤ) : Type 0 where
  pub row : List ℤ
  pub is : add_items eqs facts goal (map t.item p) d ≡ Some row
  pub long : length row ≡ n
  pub places : (k : ℕ) → 0 < k → at row k ≡ t.node last k -ℤ t.node first k
  pub constant : at row 0 +ℤ total arc p ≡ at d 0

difference_small : (a b : ℤ) → unsigned_abs a ≤ 2 ^ 41 → unsigned_abs b ≤ 2 ^ 41 → unsigned_abs (a -ℤ b) ≤ 2 ^ 126
difference_small a b h k = grind (arith, ints)

opposite_small : (c m : ℤ) → c +ℤ m ≡ pos 0 → unsigned_abs m ≤ 2 ^ 81 → unsigned_abs c ≤ 2 ^ 81
opposite_small c m e h = grind (arith, ints)

sum_small : (a b : ℤ) (m : ℕ) → unsigned_abs a ≤ m * 2 ^ 81 → unsigned_abs b ≤ 2 ^ 81 → unsigned_abs (a +ℤ b) ≤ (m + 1) * 2 ^ 81
sum_small a b m h k = grind (arith, ints)

one_is : (eqs : List Solution) (facts : List Fact) (goal : Form) (it : CertItem) (d r e : List ℤ) (n : ℕ) → it.times ≡ pos 1 → length d ≡ n → item_row eqs facts goal it (start_row it.fact n) ≡ Some r → add_rows (pos 1) 0 r d ≡ Some e → add_one eqs facts goal it d ≡ Some e
one_is eqs facts goal it d r e n t l q s =
    ap (λ k. cond (int_lt it.times (pos 1)) None (then_more (item_row eqs facts goal it (start_row it.fact k)) (λ r. add_rows it.times 0 r d))) l
    ∙ ap (λ o. cond (int_lt it.times (pos 1)) None (then_more o (λ r. add_rows it.times 0 r d))) q
    ∙ ap (λ z. cond (int_lt z (pos 1)) None (add_rows z 0 r d)) t
    ∙ s

past : (xs : List ℤ) (k : ℕ) → length xs ≤ k → at xs k ≡ pos 0
past xs k h = get_or_past xs k (pos 0) h

-- one place of the sum, also past the end
at_sum : (n : ℕ) (r d : List ℤ) (s : Summed 0 r d) → length r ≡ n → length d ≡ n → (k : ℕ) → at s.row k ≡ at d k +ℤ at r k
at_sum n r d s lr ld k =
    let long = s.long in
    elim (cases_lt k n) [
      | inl lt ↦ let e : 0 + k ≡ k = omega arith in subst (λ j. at s.row j ≡ at d j +ℤ at r k) e (s.within k (omega arith))
      | inr ge ↦ omega (arith, ints, past s.row k (omega arith), past d k (omega arith), past r k (omega arith))
    ]

row_small : (count : ℕ) (arc : ℕ → Arc) (eqs : List Solution) (facts : List Fact) (goal : Form) (n : ℕ) (t : Items count arc eqs facts goal n) (i : ℕ) → i < count → (k : ℕ) → unsigned_abs (at (t.row i) k) ≤ 2 ^ 126
row_small count arc eqs facts goal n t i hi zero = let h = opposite_small (at (t.row i) 0) (arc i).most (t.constant i hi) (t.weights i hi) in omega arith
row_small count arc eqs facts goal n t i hi (suc k) = rw (t.places i hi (suc k) (omega arith)) (difference_small (t.node (arc i).to (suc k)) (t.node (arc i).from (suc k)) (t.sizes (arc i).to (suc k)) (t.sizes (arc i).from (suc k)))

sum_within : (count : ℕ) (arc : ℕ → Arc) (eqs : List Solution) (facts : List Fact) (goal : Form) (n : ℕ) (t : Items count arc eqs facts goal n) (i first m : ℕ) (d : List ℤ) → i < count → ((k : ℕ) → 0 < k → at d k ≡ t.node (arc i).from k -ℤ t.node first k) → unsigned_abs (at d 0) ≤ m * 2 ^ 81 → m < 2 ^ 13 → (k : ℕ) → unsigned_abs (at d (0 + k) +ℤ at (t.row i) k) ≤ 2 ^ 126
sum_within count arc eqs facts goal n t i first m d hi a b c zero = let h = sum_small (at d 0) (at (t.row i) 0) m b (opposite_small (at (t.row i) 0) (arc i).most (t.constant i hi) (t.weights i hi)) in omega arith
sum_within count arc eqs facts goal n t i first m d hi a b c (suc k) =
    let e : 0 + suc k ≡ suc k = omega arith in
    let s : at d (suc k) +ℤ at (t.row i) (suc k) ≡ t.node (arc i).to (suc k) -ℤ t.node first (suc k) = omega (arith, ints, a (suc k) (omega arith), t.places i hi (suc k) (omega arith)) in
    rw (e, s) (difference_small (t.node (arc i).to (suc k)) (t.node first (suc k)) (t.sizes (arc i).to (suc k)) (t.sizes first (suc k)))

-- no number on the way passes its limit, and the sum is the last node less the first
pub path_items : (count : ℕ) (arc : ℕ → Arc) (eqs : List Solution) (facts : List Fact) (goal : Form) (n : ℕ) (t : Items count arc eqs facts goal n) (p : List ℕ) (a b first m : ℕ) (d : List ℤ) → 0 < n → Path count arc p a b → length d ≡ n → ((k : ℕ) → 0 < k → at d k ≡ t.node a k -ℤ t.node first k) → unsigned_abs (at d 0) ≤ m * 2 ^ 81 → m + length p ≤ 2 ^ 12 → Reached count arc eqs facts goal n t p first b d
path_items count arc eqs facts goal n t [] a b first m d some h l q c few = record { row = d; is = refl; long = l; places = λ k lt. q k lt ∙ ap (λ x. t.node x k -ℤ t.node first k) h; constant = omega (arith, ints) }
path_items count arc eqs facts goal n t (i ∷ p) a b first m d some h l q c few =
    let hi = h.0 in
    let here : (k : ℕ) → 0 < k → at d k ≡ t.node (arc i).from k -ℤ t.node first k = λ k lt. q k lt ∙ ap (λ x. t.node x k -ℤ t.node first k) (sym h.1) in
    let s = rows_sum 0 (t.row i) d (omega (arith, t.long i hi)) (λ k lt. row_small count arc eqs facts goal n t i hi k) (λ k lt. sum_within count arc eqs facts goal n t i first m d hi here c (omega arith) k) in
    let sum = at_sum n (t.row i) d s (t.long i hi) l in
    let small : unsigned_abs (at s.row 0) ≤ (m + 1) * 2 ^ 81 = rw (sum 0) (sum_small (at d 0) (at (t.row i) 0) m c (opposite_small (at (t.row i) 0) (arc i).most (t.constant i hi) (t.weights i hi))) in
    let r = path_items count arc eqs facts goal n t p (arc i).to b first (m + 1) s.row some h.2 (s.long ∙ l) (λ k lt. omega (arith, ints, sum k, here k lt, t.places i hi k lt)) small (omega arith) in
    record {
      row = r.row;
      is = ap (λ o. then_more o (λ x. add_items eqs facts goal (map t.item p) x)) (one_is eqs facts goal (t.item i) d (t.row i) s.row n (t.once i hi) l (t.made_row i hi) s.is) ∙ r.is;
      long = r.long;
      places = r.places;
      constant = omega (arith, ints, r.constant, sum 0, t.constant i hi);
    }

nought : (c : ℤ) → c ≡ pos 0 → int_eq c (pos 0) ≡ true
nought c e = grind (arith, ints)

above : (k : ℤ) → pos 1 ≤ℤ k → int_le k (pos 0) ≡ false
above k h = grind (arith, ints)

zeros_all : (cs : List ℤ) → ((k : ℕ) → at cs k ≡ pos 0) → all_zero cs ≡ true
zeros_all [] h = refl
zeros_all (c ∷ cs) h = ap (λ b. cond b (all_zero cs) false) (nought c (h 0)) ∙ zeros_all cs (λ k. h (suc k))

closed_from : (d : List ℤ) → pos 1 ≤ℤ at d 0 → ((k : ℕ) → 0 < k → at d k ≡ pos 0) → is_closed d ≡ true
closed_from [] h q = absurd (omega (arith, ints))
closed_from (c ∷ cs) h q = ap (λ b. cond b false (all_zero cs)) (above c h) ∙ zeros_all cs (λ k. q (suc k) (omega arith))

at_zeros : (n k : ℕ) → at (replicate n (pos 0)) k ≡ pos 0
at_zeros zero k = refl
at_zeros (suc n) zero = refl
at_zeros (suc n) (suc k) = at_zeros n k

-- a negative cycle's items are a certificate
pub cycle_cert : (count : ℕ) (arc : ℕ → Arc) (eqs : List Solution) (facts : List Fact) (goal : Form) (atoms : ℕ) (t : Items count arc eqs facts goal (atoms + 1)) (p : List ℕ) (node : ℕ) → Path count arc p node node → total arc p <ℤ pos 0 → length p ≤ 2 ^ 12 → is_certificate eqs facts goal (map t.item p) atoms ≡ true
cycle_cert count arc eqs facts goal atoms t p node closed negative short =
    let zero_row : (k : ℕ) → at (replicate (atoms + 1) (pos 0)) k ≡ pos 0 = λ k. at_zeros (atoms + 1) k in
    let none_yet : unsigned_abs (at (replicate (atoms + 1) (pos 0)) 0) ≤ 0 * 2 ^ 81 = rw (zero_row 0) (omega arith) in
    let r = path_items count arc eqs facts goal (atoms + 1) t p node node node 0 (replicate (atoms + 1) (pos 0)) (omega arith) closed (length-replicate (atoms + 1) (pos 0)) (λ k lt. omega (arith, ints, zero_row k)) none_yet (omega arith) in
    ap closing r.is ∙ closed_from r.row (omega (arith, ints, r.constant, zero_row 0)) (λ k lt. omega (arith, ints, r.places k lt))
