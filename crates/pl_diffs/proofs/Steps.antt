-- One edge of a round.
use Rattle.std.proofs.Common.{◌≡◌, ℕ, suc, ◌<◌, ◌≤◌, ◌+◌, ◌*◌, ◌^◌, inl, inr, ℤ, pos, ◌+ℤ◌, ◌≤ℤ◌, ◌<ℤ◌, unsigned_abs, cond, eqb, List, ◌∷◌, length, set, Option, Some, None, refl, ap, sym, ◌∙◌, arith, length-set, get_or-set_same, get_or-set_other, eq-eqb, ne_eqb}
use Rattle.std.proofs.lemmas.Int.{ints}
use Rattle.std.proofs.lemmas.Bool.{cases_eq}
use Rattle.pl_diffs.specs.declared.Edge.{Edge}
use Rattle.pl_diffs.specs.Differences.{at}
use Rattle.pl_diffs.specs.Rounds.{edge, parent_of, IsParent, Parent, Ranked, Ends, Round}

above_abs : (b : ℤ) (n : ℕ) → unsigned_abs b ≤ n → pos 0 ≤ℤ (b +ℤ pos n)
above_abs b n h = grind (arith, ints)

-- a fact of each number after a write
at_set : (d : List ℤ) (t k : ℕ) (x : ℤ) (P : ℤ → Type 0) → t < length d → (k ≡ t → P x) → ((k ≡ t → ⊥) → P (at d k)) → P (at (set d t x) k)
at_set d t k x P h p q =
    elim (cases_eq k t) [
      | inl e ↦ rw (e, get_or-set_same d t x (pos 0) h) (p e)
      | inr ne ↦ rw (get_or-set_other d t k x (pos 0) ne) (q ne)
    ]

-- the ranks after a node got a distance
abbrev raised : (ℕ → ℕ) → ℕ → ℕ → ℕ → ℕ
raised rank t now k = cond (eqb k t) now (rank k)

raised_same : (rank : ℕ → ℕ) (t now k : ℕ) → k ≡ t → raised rank t now k ≡ now
raised_same rank t now k e = rw (eq-eqb k t e) refl

raised_other : (rank : ℕ → ℕ) (t now k : ℕ) → (k ≡ t → ⊥) → raised rank t now k ≡ rank k
raised_other rank t now k ne = rw (ne_eqb k t ne) refl

-- the parent of the node whose distance fell
parent_new : (es : List Edge) (d : List ℤ) (rank : ℕ → ℕ) (now i : ℕ) (x : ℤ) → i < length es → (edge es i).to < length d → rank (edge es i).from < now → x ≡ at d (edge es i).from +ℤ (edge es i).most → x <ℤ at d (edge es i).to → IsParent es (set d (edge es i).to x) (raised rank (edge es i).to now) (edge es i).to i
parent_new es d rank now i x hi ht hr e lt =
    let top : at (set d (edge es i).to x) (edge es i).to ≡ x = get_or-set_same d (edge es i).to x (pos 0) ht in
    let high : raised rank (edge es i).to now (edge es i).to ≡ now = raised_same rank (edge es i).to now (edge es i).to refl in
    elim (cases_eq (edge es i).from (edge es i).to) [
      | inl same ↦
          let e1 : at d (edge es i).from ≡ at d (edge es i).to = ap (at d) same in
          let e2 : at (set d (edge es i).to x) (edge es i).from ≡ x = ap (at (set d (edge es i).to x)) same ∙ top in
          record { inside = hi; leads = refl; reached = omega (arith, ints); later = λ q. absurd (omega (arith, ints)) }
      | inr ne ↦
          let e1 : at (set d (edge es i).to x) (edge es i).from ≡ at d (edge es i).from = get_or-set_other d (edge es i).to (edge es i).from x (pos 0) ne in
          let e2 : raised rank (edge es i).to now (edge es i).from ≡ rank (edge es i).from = raised_other rank (edge es i).to now (edge es i).from ne in
          record { inside = hi; leads = refl; reached = omega (arith, ints); later = λ q. omega arith }
    ]

-- the parent of another node
parent_old : (es : List Edge) (d : List ℤ) (rank : ℕ → ℕ) (now t k : ℕ) (o : Option ℕ) (x : ℤ) → t < length d → x <ℤ at d t → (k ≡ t → ⊥) → Parent es d rank k o → Parent es (set d t x) (raised rank t now) k o
parent_old es d rank now t k None x ht lt ne h = get_or-set_other d t k x (pos 0) ne ∙ h
parent_old es d rank now t k (Some j) x ht lt ne h =
    let e1 : at (set d t x) k ≡ at d k = get_or-set_other d t k x (pos 0) ne in
    let e2 : raised rank t now k ≡ rank k = raised_other rank t now k ne in
    let low = h.reached in
    elim (cases_eq (edge es j).from t) [
      | inl same ↦
          let e3 : at (set d t x) (edge es j).from ≡ x = ap (at (set d t x)) same ∙ get_or-set_same d t x (pos 0) ht in
          let e4 : at d (edge es j).from ≡ at d t = ap (at d) same in
          record { inside = h.inside; leads = h.leads; reached = omega (arith, ints); later = λ q. absurd (omega (arith, ints)) }
      | inr other ↦
          let e3 : at (set d t x) (edge es j).from ≡ at d (edge es j).from = get_or-set_other d t (edge es j).from x (pos 0) other in
          let e4 : raised rank t now (edge es j).from ≡ rank (edge es j).from = raised_other rank t now (edge es j).from other in
          record {
            inside = h.inside;
            leads = h.leads;
            reached = omega (arith, ints);
            later = λ q. let was : at d (edge es j).from +ℤ (edge es j).most ≡ at d k = omega (arith, ints) in omega (arith, h.later was);
          }
    ]

ranked_take : (es : List Edge) (n : ℕ) (d : List ℤ) (ps : List (Option ℕ)) (i : ℕ) (x : ℤ) → Ranked es n d ps → Ends es n → i < length es → x ≡ at d (edge es i).from +ℤ (edge es i).most → x <ℤ at d (edge es i).to → Ranked es n (set d (edge es i).to x) (set ps (edge es i).to (Some i))
ranked_take es n d ps i x r ends hi e lt =
    let ht : (edge es i).to < length d = rw r.count (ends.ends i hi).1 in
    let hp : (edge es i).to < length ps = rw r.parents (ends.ends i hi).1 in
    let hf : (edge es i).from < n = (ends.ends i hi).0 in
    let before = r.attained (edge es i).from hf in
    record {
      count = length-set d (edge es i).to x ∙ r.count;
      parents = length-set ps (edge es i).to (Some i) ∙ r.parents;
      highest = λ k. at_set d (edge es i).to k x (λ z. z ≤ℤ pos 0) ht (λ q. omega (arith, ints, r.highest (edge es i).to)) (λ q. r.highest k);
      attained = λ k hk. elim (cases_eq k (edge es i).to) [
        | inl same ↦ record {
          first = before.first;
          path = i ∷ before.path;
          within = before.within;
          leads = (hi, sym same, before.leads);
          sum = rw (same, get_or-set_same d (edge es i).to x (pos 0) ht, e) (omega (arith, ints, before.sum));
        }
        | inr ne ↦ record {
          first = (r.attained k hk).first;
          path = (r.attained k hk).path;
          within = (r.attained k hk).within;
          leads = (r.attained k hk).leads;
          sum = (r.attained k hk).sum ∙ sym (get_or-set_other d (edge es i).to k x (pos 0) ne);
        }
      ];
      rank = raised r.rank (edge es i).to r.now;
      now = suc r.now;
      earlier = λ k hk. elim (cases_eq k (edge es i).to) [
        | inl same ↦ rw (raised_same r.rank (edge es i).to r.now k same) (omega arith)
        | inr ne ↦ rw (raised_other r.rank (edge es i).to r.now k ne) (omega (arith, r.earlier k hk))
      ];
      parent = λ k hk. elim (cases_eq k (edge es i).to) [
        | inl same ↦ rw (same, get_or-set_same ps (edge es i).to (Some i) None hp) (parent_new es d r.rank r.now i x hi ht (r.earlier (edge es i).from hf) e lt)
        | inr ne ↦ rw (get_or-set_other ps (edge es i).to k (Some i) None ne) (parent_old es d r.rank r.now (edge es i).to k (parent_of ps k) x ht lt ne (r.parent k hk))
      ];
    }

pub round_start : (es : List Edge) (n : ℕ) (d : List ℤ) (ps : List (Option ℕ)) → Ranked es n d ps → Round es n d d ps 0 None
round_start es n d ps r = record {
  ranked = r;
  low = λ m h k. omega (arith, ints, h k);
  falls = λ k. omega (arith, ints);
  done = λ j h. absurd (omega arith);
  same = λ e. refl;
  fell = λ t e. absurd cc;
}

pub round_skip : (es : List Edge) (n : ℕ) (first d : List ℤ) (ps : List (Option ℕ)) (i : ℕ) (last : Option ℕ) → Round es n first d ps i last → at d (edge es i).to ≤ℤ (at d (edge es i).from +ℤ (edge es i).most) → Round es n first d ps (i + 1) last
round_skip es n first d ps i last r h = record {
  ranked = r.ranked;
  low = λ m l k. omega (arith, ints, r.low m l k);
  falls = r.falls;
  done = λ j hj. elim (cases_eq j i) [ inl e ↦ rw e (omega (arith, ints, r.falls (edge es i).from)) | inr ne ↦ r.done j (omega arith) ];
  same = r.same;
  fell = r.fell;
}

pub round_take : (es : List Edge) (n : ℕ) (first d : List ℤ) (ps : List (Option ℕ)) (i : ℕ) (last : Option ℕ) (x : ℤ) → Round es n first d ps i last → Ends es n → i < length es → unsigned_abs (edge es i).most ≤ 2 ^ 81 → x ≡ at d (edge es i).from +ℤ (edge es i).most → x <ℤ at d (edge es i).to → Round es n first (set d (edge es i).to x) (set ps (edge es i).to (Some i)) (i + 1) (Some (edge es i).to)
round_take es n first d ps i last x r ends hi s e lt =
    let ht : (edge es i).to < length d = rw r.ranked.count (ends.ends i hi).1 in
    let big : pos 0 ≤ℤ ((edge es i).most +ℤ pos (2 ^ 81)) = above_abs (edge es i).most (2 ^ 81) s in
    record {
      ranked = ranked_take es n d ps i x r.ranked ends hi e lt;
      low = λ m l k. at_set d (edge es i).to k x (λ z. pos 0 ≤ℤ (z +ℤ pos ((m + (i + 1)) * 2 ^ 81))) ht (λ q. omega (arith, ints, r.low m l (edge es i).from)) (λ q. omega (arith, ints, r.low m l k));
      falls = λ k. at_set d (edge es i).to k x (λ z. z ≤ℤ at first k) ht (λ q. omega (arith, ints, r.falls k, ap (at d) q)) (λ q. r.falls k);
      done = λ j hj. at_set d (edge es i).to (edge es j).to x (λ z. z ≤ℤ (at first (edge es j).from +ℤ (edge es j).most)) ht
          (λ q. elim (cases_eq j i) [ inl same ↦ rw same (omega (arith, ints, r.falls (edge es i).from)) | inr ne ↦ omega (arith, ints, r.done j (omega arith), ap (at d) q) ])
          (λ q. elim (cases_eq j i) [ inl same ↦ absurd (q (ap (λ a. (edge es a).to) same)) | inr ne ↦ r.done j (omega arith) ]);
      same = λ q. absurd cc;
      fell = λ t q. let e2 : (edge es i).to ≡ t = cc in rw (← e2) ((ends.ends i hi).1, rw (get_or-set_same d (edge es i).to x (pos 0) ht) (omega (arith, ints, r.falls (edge es i).to)));
    }
