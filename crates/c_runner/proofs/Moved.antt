-- A race after an event is one with a thread that has moved.
use Rattle.std.proofs.Common.{◌≡◌, ℕ, suc, ◌<◌, ◌≤◌, ◌==◌, ◌||◌, Bool, true, false, List, [], ◌∷◌, ◌++◌, None, cond, map, refl, sym, ap, ◌∙◌, arith, append_assoc}
use Rattle.std.specs.Prelude.{filter, nat_le, nat_lt, if◌then◌else◌}
use Rattle.std.proofs.lemmas.Bool.{eqb-false, leb-false, lt-ltb, ltb-true}
use Rattle.c_meaning.specs.declared.action.Next.{Next}
use Rattle.c_meaning.specs.Steps.{race_of}
use Rattle.c_runner.specs.declared.standing.Standing.{Standing}
use Rattle.c_runner.specs.Numbers.{Are}
use Rattle.c_runner.specs.Standings.{stands, raced, race_with, race_behind, either_race, race_among, has_moved, race_moved, AreQuiet}

abbrev AllBelow : ℕ → List Standing → Type 0
AllBelow k [] = Unit {0}
AllBelow k (f ∷ fs) = (f.tid < k) × AllBelow k fs

wider : (k m : ℕ) (fs : List Standing) → k ≤ m → AllBelow k fs → AllBelow m fs
wider k m [] le h = tt
wider k m (f ∷ fs) le h = (omega (arith, h.0, le), wider k m fs le h.1)

one_more : (k : ℕ) (fs : List Standing) (a : Standing) → a.tid < k → AllBelow k fs → AllBelow k (fs ++ a ∷ [])
one_more k [] a less h = (less, tt)
one_more k (f ∷ fs) a less h = (h.0, one_more k fs a less h.1)

not_above : (a b : ℕ) → b ≤ a → nat_lt a b ≡ false
not_above a b le = by (nat_lt a b) refl
  where
    by : (c : Bool) → nat_lt a b ≡ c → nat_lt a b ≡ false
    by true e = absurd (omega (arith, le, ltb-true a b e))
    by false e = e

skips : (a : Standing) (fs gs : List Standing) (k : ℕ) → k ≤ suc a.tid → AllBelow k fs → race_behind a (fs ++ gs) ≡ race_behind a gs
skips a [] gs k le h = refl
skips a (f ∷ fs) gs k le h = ap (λ c. if c then raced a.tid f.tid (race_of a.next f.next) (race_behind a (fs ++ gs)) else race_behind a (fs ++ gs)) (not_above a.tid f.tid (omega (arith, h.0, le))) ∙ skips a fs gs k le h.1

module _ (stand : ℕ → Next) (live : ℕ → Bool) (t n : ℕ) (quiet : AreQuiet stand t n) where
  unmoved : (x : ℕ) → has_moved t n (stands stand x) ≡ false → (x ≡ t → ⊥) × (x < n)
  unmoved x h = parts (x == t) (nat_le n x) refl refl h
    where
      parts : (a b : Bool) → (x == t) ≡ a → nat_le n x ≡ b → (a || b) ≡ false → (x ≡ t → ⊥) × (x < n)
      parts true b e g h = cc
      parts false true e g h = cc
      parts false false e g h = (eqb-false x t e, leb-false n x g)

  behind_one : (y z : ℕ) (c : Bool) (ms ws : List Standing) → has_moved t n (stands stand z) ≡ c → has_moved t n (stands stand y) ≡ false → y < z → race_behind (stands stand y) ms ≡ race_with (stands stand y) ws → race_behind (stands stand y) (cond c (stands stand z ∷ ms) ms) ≡ race_with (stands stand y) (stands stand z ∷ ws)
  behind_one y z true ms ws moved old less ih = ap (λ b. if b then raced y z (race_of (stand y) (stand z)) (race_behind (stands stand y) ms) else race_behind (stands stand y) ms) (lt-ltb y z less) ∙ ap (raced y z (race_of (stand y) (stand z))) ih
  behind_one y z false ms ws moved old less ih =
      let none : race_of (stand y) (stand z) ≡ None = quiet y z less (unmoved y old).0 (unmoved z moved).0 (unmoved z moved).1 in
      ih ∙ sym (ap (λ r. raced y z r (race_with (stands stand y) ws)) none)

  behind_all : (y k : ℕ) (zs : List ℕ) → suc y ≤ k → has_moved t n (stands stand y) ≡ false → Are live k zs → race_behind (stands stand y) (filter (has_moved t n) (map (stands stand) zs)) ≡ race_with (stands stand y) (map (stands stand) zs)
  behind_all y k [] low old h = refl
  behind_all y k (z ∷ zs) low old h = behind_one y z (has_moved t n (stands stand z)) (filter (has_moved t n) (map (stands stand) zs)) (map (stands stand) zs) refl old (omega (arith, low, h.0)) (behind_all y (suc z) zs (omega (arith, low, h.0)) old h.3)

  moved_one : (y : ℕ) (c : Bool) (fs ms ws : List Standing) → has_moved t n (stands stand y) ≡ c → AllBelow y fs
      → (has_moved t n (stands stand y) ≡ false → race_behind (stands stand y) ms ≡ race_with (stands stand y) ws)
      → ((gs : List Standing) → AllBelow (suc y) gs → race_moved t n (gs ++ ms) ws ≡ race_among ws)
      → race_moved t n (fs ++ cond c (stands stand y ∷ ms) ms) (stands stand y ∷ ws) ≡ race_among (stands stand y ∷ ws)
  moved_one y true fs ms ws moved below first rest =
      let joined : fs ++ stands stand y ∷ ms ≡ (fs ++ stands stand y ∷ []) ++ ms = sym (append_assoc fs (stands stand y ∷ []) ms) in
      ap (λ b. either_race (if b then race_with (stands stand y) ws else race_behind (stands stand y) (fs ++ stands stand y ∷ ms)) (race_moved t n (fs ++ stands stand y ∷ ms) ws)) moved
      ∙ ap (either_race (race_with (stands stand y) ws)) (ap (λ g. race_moved t n g ws) joined ∙ rest (fs ++ stands stand y ∷ []) (one_more (suc y) fs (stands stand y) (omega arith) (wider y (suc y) fs (omega arith) below)))
  moved_one y false fs ms ws moved below first rest =
      ap (λ b. either_race (if b then race_with (stands stand y) ws else race_behind (stands stand y) (fs ++ ms)) (race_moved t n (fs ++ ms) ws)) moved
      ∙ (ap (λ r. either_race r (race_moved t n (fs ++ ms) ws)) (skips (stands stand y) fs ms y (omega arith) below ∙ first moved)
      ∙ ap (either_race (race_with (stands stand y) ws)) (rest fs (wider y (suc y) fs (omega arith) below)))

  moved_from : (k : ℕ) (fs : List Standing) (ys : List ℕ) → AllBelow k fs → Are live k ys → race_moved t n (fs ++ filter (has_moved t n) (map (stands stand) ys)) (map (stands stand) ys) ≡ race_among (map (stands stand) ys)
  moved_from k fs [] below h = refl
  moved_from k fs (y ∷ ys) below h =
      moved_one y (has_moved t n (stands stand y)) fs (filter (has_moved t n) (map (stands stand) ys)) (map (stands stand) ys) refl (wider k y fs h.0 below)
      (λ old. behind_all y (suc y) ys (omega arith) old h.3)
      (λ gs under. moved_from (suc y) gs ys under h.3)

  pub moved_is : (xs : List ℕ) → Are live 0 xs → race_moved t n (filter (has_moved t n) (map (stands stand) xs)) (map (stands stand) xs) ≡ race_among (map (stands stand) xs)
  moved_is xs h = moved_from 0 [] xs tt h
