-- Each kind of step keeps the rule.
use Rattle.std.proofs.Common.{◌≡◌, ◌≢◌, ◌⊎◌, ℕ, ◌+◌, ◌%◌, ◌^◌, ◌<◌, ◌≤◌, List, [], ◌∷◌, set, length, refl, sym, ◌∙◌, ap, subst, inl, ⊎_elim, arith, get_or-set_same, length-set, length-append}
use Rattle.std.specs.Prelude.{slice_index}
use mathlib.Core.Option.{Option, some}
use lib.ListN.{get_elem?}
use Rattle.atomic_table.specs.Table.{State, Me, Allows, Splits, Joins, keeps}
use Rattle.atomic_table.proofs.Lists.{at_set, at_snoc}
use Rattle.pl_jobs.specs.declared.hand.Hand.{Hand}
use Rattle.pl_jobs.specs.Numbers.{times, total, once_below, Numbered, drew, gave, fresh, took, spent, IsAll}
use Rattle.pl_jobs.proofs.Totals.{total_set, total_snoc, total_at, total_one, times-append, once_more, none_drawn}

abbrev IsOf : ℕ → Hand → Type 0
IsOf key u = (u.all ≡ 0) ⊎ (u.all ≡ key)

alls_set : (key : ℕ) (views : List Hand) (id : ℕ) (w : Hand) → ((j : ℕ) (u : Hand) → get_elem? views j ≡ some u → IsOf key u) → IsOf key w → (j : ℕ) (u : Hand) → get_elem? (set views id w) j ≡ some u → IsOf key u
alls_set key views id w each here j u e =
    ⊎_elim (λ (t : (j ≡ id) × (w ≡ u)). subst (IsOf key) t.1 here) (λ (t : (j ≢ id) × (get_elem? views j ≡ some u)). each j u t.1) (at_set views id j w u e)

module _ {S : Type 0} where
  -- a step that changes the word and one hand, and no sum
  moves : (key : ℕ) (s : State S Hand) (homes : List (Option S)) (id : ℕ) (v w : Hand) (m : ℕ) → Numbered {S = S} key s → get_elem? s.views id ≡ some v → w.all ≡ v.all
      → ((x : ℕ) → times x w.drawn + once_below x (slice_index s.words 0) ≡ times x v.drawn + once_below x m)
      → length w.drawn + slice_index s.words 0 ≡ length v.drawn + m
      → m + w.left ≡ slice_index s.words 0 + v.left
      → Numbered {S = S} key record { words = set s.words 0 m; homes = homes; views = set s.views id w }
  moves key s homes id v w m b at same once lengths counts =
      let one : 0 < length s.words = omega (arith, b.one_word) in
      let here : slice_index (set s.words 0 m) 0 ≡ m = get_or-set_same s.words 0 m 0 one in record {
        one_word = length-set s.words 0 m ∙ b.one_word;
        once = λ x. let t = total_set (λ u. times x u.drawn) s.views id v w at in omega (arith, t, once x, b.once x, ap (once_below x) here);
        lengths = let t = total_set (λ u. length u.drawn) s.views id v w at in omega (arith, t, lengths, b.lengths, here);
        counts = let t = total_set (λ u. u.left) s.views id v w at in omega (arith, t, counts, b.counts, here);
        fits = b.fits;
        alls = alls_set key s.views id w b.alls (let P : ℕ → Type 0 = λ a. (a ≡ 0) ⊎ (a ≡ key) in subst P (sym same) (b.alls id v at));
      }

  pub draws : (key slots id : ℕ) (me : Me S Hand) → 0 < me.0.left → Allows (Numbered {S = S} key) slots id me 0 (λ n. (n + 1) % 2 ^ 64) (λ n w. w ≡ (drew me.0 n, me.1))
  draws key slots id me left s b len at small =
      let v = me.0 in
      let n = slice_index s.words 0 in
      let low = total_at (λ u. u.left) s.views id v at in
      let next : (n + 1) % 2 ^ 64 ≡ n + 1 = omega (arith, b.counts, low, b.fits) in (
        drew v n,
        keeps,
        tt,
        moves key s s.homes id v (drew v n) ((n + 1) % 2 ^ 64) b at refl
            (λ x. omega (arith, times-append x v.drawn (n ∷ []), once_more x n, ap (once_below x) next))
            (omega (arith, length-append v.drawn (n ∷ []), next))
            (omega (arith, next)),
        refl,
      )

  pub learns : (key slots id : ℕ) (me : Me S Hand) → Allows (Numbered {S = S} key) slots id me 0 (λ n. n) (λ n w. (w ≡ me) × (0 < me.0.all → length me.0.drawn + me.0.left ≡ me.0.all → (n ≡ length me.0.drawn) × IsAll n me.0.drawn))
  learns key slots id me s b len at small =
      let v = me.0 in
      let n = slice_index s.words 0 in (
        v,
        keeps,
        tt,
        moves key s s.homes id v v n b at refl (λ x. refl) refl refl,
        (
          refl,
          (λ some_all whole.
              let key_is : v.all ≡ key = ⊎_elim (λ (z : v.all ≡ 0). absurd (omega arith)) (λ (e : v.all ≡ key). e) (b.alls id v at) in
              let low = total_at (λ u. length u.drawn) s.views id v at in
              let low_left = total_at (λ u. u.left) s.views id v at in
              let one : total (λ u. length u.drawn) s.views ≡ length v.drawn = omega (arith, b.lengths, b.counts, low, low_left, whole, key_is) in
              (omega (arith, one, b.lengths), (λ x. sym (total_one (λ u. times x u.drawn) (λ u. length u.drawn) (λ u none. none_drawn x u.drawn none) s.views id v at one) ∙ b.once x))),
        ),
      )

  pub splits : (key id : ℕ) (v : Hand) → v.each ≤ v.left → Splits (Numbered {S = S} key) id v (gave v) (fresh v)
  splits key id v enough s b at = record {
    one_word = b.one_word;
    once = λ x.
        let t = total_set (λ u. times x u.drawn) s.views id v (gave v) at in
        let p = total_snoc (λ u. times x u.drawn) (set s.views id (gave v)) (fresh v) in omega (arith, t, p, b.once x);
    lengths =
        let t = total_set (λ u. length u.drawn) s.views id v (gave v) at in
        let p = total_snoc (λ u. length u.drawn) (set s.views id (gave v)) (fresh v) in omega (arith, t, p, b.lengths);
    counts =
        let t = total_set (λ u. u.left) s.views id v (gave v) at in
        let p = total_snoc (λ u. u.left) (set s.views id (gave v)) (fresh v) in omega (arith, t, p, b.counts, enough);
    fits = b.fits;
    alls = λ j u e.
        ⊎_elim (λ (t : get_elem? (set s.views id (gave v)) j ≡ some u). alls_set key s.views id (gave v) b.alls (b.alls id v at) j u t)
        (λ (same : fresh v ≡ u). subst (IsOf key) same (b.alls id v at))
        (at_snoc (set s.views id (gave v)) (fresh v) u j e);
  }

  pub joins : (key id : ℕ) (v : Hand) (other : ℕ) (w : Hand) → Joins (Numbered {S = S} key) id v other w (took v w) spent
  joins key id v other w s b at apart there =
      let mid = set s.views id (took v w) in record {
        one_word = b.one_word;
        once = λ x.
            let t = total_set (λ u. times x u.drawn) s.views id v (took v w) at in
            let p = total_set (λ u. times x u.drawn) mid other w spent there in
            omega (arith, t, p, b.once x, times-append x v.drawn w.drawn);
        lengths =
            let t = total_set (λ u. length u.drawn) s.views id v (took v w) at in
            let p = total_set (λ u. length u.drawn) mid other w spent there in
            omega (arith, t, p, b.lengths, length-append v.drawn w.drawn);
        counts =
            let t = total_set (λ u. u.left) s.views id v (took v w) at in
            let p = total_set (λ u. u.left) mid other w spent there in omega (arith, t, p, b.counts);
        fits = b.fits;
        alls = alls_set key mid other spent (alls_set key s.views id (took v w) b.alls (b.alls id v at)) (inl refl);
      }
