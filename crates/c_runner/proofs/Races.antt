-- The races, faults and forks of threads, by lists.
use Rattle.std.proofs.Common.{◌≡◌, ℕ, suc, ◌<◌, ◌≤◌, ◌||◌, Bool, true, false, List, [], ◌∷◌, Option, Some, None, map, refl, sym, ap, ◌∙◌, subst, arith}
use Rattle.std.specs.Prelude.{is_some}
use Rattle.pl_resource.specs.declared.value.Cell.{Cell}
use Rattle.pl_resource.specs.declared.value.Fault.{Fault}
use Rattle.c_meaning.specs.declared.action.Touch.{Touch}
use Rattle.c_meaning.specs.declared.action.Next.{Next}
use Rattle.c_meaning.specs.declared.action.Next.TheVariants as next
use Rattle.c_meaning.specs.Steps.{race_of, race_by}
use Rattle.c_runner.specs.declared.standing.Standing.{Standing}
use Rattle.c_runner.specs.Numbers.{Are}
use Rattle.c_runner.proofs.Lists.{Place, before, here, behind, place}
use Rattle.c_runner.specs.Standings.{touches, is_fork, stands, raced, race_with, either_race, race_among, faulting, fault_among, forks_among}

quiet_by : (s t : Touch) (a b : Option Cell) (j k : Option ℕ) → (is_some a || is_some j) ≡ false → race_by s t a b j k ≡ None
quiet_by s t None None None k h = refl
quiet_by s t None (Some b) None k h = refl
quiet_by s t (Some a) b j k h = cc
quiet_by s t None b (Some j) k h = cc

quiet : (a b : Next) → touches a ≡ false → race_of a b ≡ None
quiet (next.Act s) (next.Act t) h = quiet_by s t s.cell t.cell s.block t.block h
quiet (next.Act s) (next.Fault f) h = refl
quiet (next.Act s) next.Ended h = refl
quiet (next.Fault f) b h = refl
quiet next.Ended b h = refl

pub no_race_with : (a : Standing) (bs : List Standing) → touches a.next ≡ false → race_with a bs ≡ None
no_race_with a [] h = refl
no_race_with a (b ∷ bs) h = ap (λ r. raced a.tid b.tid r (race_with a bs)) (quiet a.next b.next h) ∙ no_race_with a bs h

-- ---- with the threads that haven't ended

ended_first : (a b : Next) → a ≡ next.Ended → race_of a b ≡ None
ended_first a b h = ap (λ z. race_of z b) h

ended_second : (a : Next) → race_of a next.Ended ≡ None
ended_second (next.Act s) = refl
ended_second (next.Fault f) = refl
ended_second next.Ended = refl

module _ (stand : ℕ → Next) (live : ℕ → Bool) (over : (t : ℕ) → live t ≡ false → stand t ≡ next.Ended) where
  -- the least thread from k on that races with x
  abbrev With : ℕ → ℕ → Option (ℕ × ℕ × Cell) → Type 0
  With x k (Some r) = (r.0 ≡ x) × (k ≤ r.1) × (race_of (stand x) (stand r.1) ≡ Some r.2) × ((j : ℕ) → k ≤ j → j < r.1 → race_of (stand x) (stand j) ≡ None)
  With x k None = (j : ℕ) → k ≤ j → race_of (stand x) (stand j) ≡ None

  none_at : (x j : ℕ) → live j ≡ false → race_of (stand x) (stand j) ≡ None
  none_at x j h = ap (race_of (stand x)) (over j h) ∙ ended_second (stand x)

  pub none_from : (i j : ℕ) → live i ≡ false → race_of (stand i) (stand j) ≡ None
  none_from i j h = ended_first (stand i) (stand j) (over i h)

  module _ (x : ℕ) where
    -- up to y there is none
    upto : (k y j : ℕ) → ((t : ℕ) → k ≤ t → t < y → live t ≡ false) → race_of (stand x) (stand y) ≡ None → k ≤ j → j < suc y → race_of (stand x) (stand j) ≡ None
    upto k y j gap at low high = by (place j y)
      where
        by : Place j y → race_of (stand x) (stand j) ≡ None
        by (before h) = none_at x j (gap j low h)
        by (here h) = ap (λ z. race_of (stand x) (stand z)) h ∙ at
        by (behind h) = absurd (omega (arith, h, high))

    wider : (k y : ℕ) (r : Option (ℕ × ℕ × Cell)) → k ≤ y → ((t : ℕ) → k ≤ t → t < y → live t ≡ false) → race_of (stand x) (stand y) ≡ None → With x (suc y) r → With x k r
    wider k y (Some r) low gap at h = (h.0, omega (arith, h.1, low), h.2, λ j from below. by j from below (place j y))
      where
        by : (j : ℕ) → k ≤ j → j < r.1 → Place j y → race_of (stand x) (stand j) ≡ None
        by j from below (before g) = none_at x j (gap j from g)
        by j from below (here g) = ap (λ z. race_of (stand x) (stand z)) g ∙ at
        by j from below (behind g) = h.3 j g below
    wider k y None low gap at h = λ j from. by j from (place j y)
      where
        by : (j : ℕ) → k ≤ j → Place j y → race_of (stand x) (stand j) ≡ None
        by j from (before g) = none_at x j (gap j from g)
        by j from (here g) = ap (λ z. race_of (stand x) (stand z)) g ∙ at
        by j from (behind g) = h j g

    with_one : (k y : ℕ) (rest : Option (ℕ × ℕ × Cell)) (r : Option Cell) → race_of (stand x) (stand y) ≡ r → k ≤ y → ((t : ℕ) → k ≤ t → t < y → live t ≡ false) → With x (suc y) rest → With x k (raced x y r rest)
    with_one k y rest (Some cell) is low gap later = (refl, low, is, λ j from below. none_at x j (gap j from below))
    with_one k y rest None is low gap later = wider k y rest low gap is later

    with_all : (k : ℕ) (ys : List ℕ) → Are live k ys → With x k (race_with (stands stand x) (map (stands stand) ys))
    with_all k [] h = λ j from. none_at x j (h j from)
    with_all k (y ∷ ys) h = with_one k y (race_with (stands stand x) (map (stands stand) ys)) (race_of (stand x) (stand y)) refl h.0 h.1 (with_all (suc y) ys h.3)

  -- the least pair of threads from k on that race
  abbrev pub Among : ℕ → Option (ℕ × ℕ × Cell) → Type 0
  Among k (Some r) = (k ≤ r.0) × (r.0 < r.1) × (race_of (stand r.0) (stand r.1) ≡ Some r.2) × ((i j : ℕ) → k ≤ i → i < j → i < r.0 → race_of (stand i) (stand j) ≡ None) × ((j : ℕ) → r.0 < j → j < r.1 → race_of (stand r.0) (stand j) ≡ None)
  Among k None = (i j : ℕ) → k ≤ i → i < j → race_of (stand i) (stand j) ≡ None

  found : (k x : ℕ) (r : ℕ × ℕ × Cell) → k ≤ x → ((t : ℕ) → k ≤ t → t < x → live t ≡ false) → With x (suc x) (Some r) → Among k (Some r)
  found k x r low gap h =
      let same : x ≡ r.0 = sym h.0 in
      let A : ℕ → Type 0 = λ z. (k ≤ z) × (z < r.1) × (race_of (stand z) (stand r.1) ≡ Some r.2) × ((i j : ℕ) → k ≤ i → i < j → i < z → race_of (stand i) (stand j) ≡ None) × ((j : ℕ) → z < j → j < r.1 → race_of (stand z) (stand j) ≡ None) in
      subst A same (low, omega (arith, h.1), h.2, λ i j from less below. none_from i j (gap i from below), λ j above below. h.3 j above below)

  later : (k x : ℕ) (r : Option (ℕ × ℕ × Cell)) → k ≤ x → ((t : ℕ) → k ≤ t → t < x → live t ≡ false) → ((j : ℕ) → suc x ≤ j → race_of (stand x) (stand j) ≡ None) → Among (suc x) r → Among k r
  later k x (Some r) low gap at h = (omega (arith, h.0, low), h.1, h.2, λ i j from less below. by i j from less below (place i x), h.4)
    where
      by : (i j : ℕ) → k ≤ i → i < j → i < r.0 → Place i x → race_of (stand i) (stand j) ≡ None
      by i j from less below (before g) = none_from i j (gap i from g)
      by i j from less below (here g) = ap (λ z. race_of (stand z) (stand j)) g ∙ at j (omega (arith, g, less))
      by i j from less below (behind g) = h.3 i j g less below
  later k x None low gap at h = λ i j from less. by i j from less (place i x)
    where
      by : (i j : ℕ) → k ≤ i → i < j → Place i x → race_of (stand i) (stand j) ≡ None
      by i j from less (before g) = none_from i j (gap i from g)
      by i j from less (here g) = ap (λ z. race_of (stand z) (stand j)) g ∙ at j (omega (arith, g, less))
      by i j from less (behind g) = h i j g less

  one_of : (k x : ℕ) (r rest : Option (ℕ × ℕ × Cell)) → k ≤ x → ((t : ℕ) → k ≤ t → t < x → live t ≡ false) → With x (suc x) r → Among (suc x) rest → Among k (either_race r rest)
  one_of k x (Some r) rest low gap h more = found k x r low gap h
  one_of k x None rest low gap h more = later k x rest low gap h more

  pub among : (k : ℕ) (xs : List ℕ) → Are live k xs → Among k (race_among (map (stands stand) xs))
  among k [] h = λ i j from less. none_from i j (h i from)
  among k (x ∷ xs) h = one_of k x (race_with (stands stand x) (map (stands stand) xs)) (race_among (map (stands stand) xs)) h.0 h.1 (with_all x (suc x) xs h.3) (among (suc x) xs h.3)

  -- ---- faults

  -- the least thread from k on that stands before a fault
  abbrev pub Faulty : ℕ → Option (ℕ × Fault) → Type 0
  Faulty k (Some r) = (k ≤ r.0) × (stand r.0 ≡ next.Fault r.1) × ((u : ℕ) (g : Fault) → k ≤ u → u < r.0 → stand u ≡ next.Fault g → ⊥)
  Faulty k None = (u : ℕ) (g : Fault) → k ≤ u → stand u ≡ next.Fault g → ⊥

  sound_at : (u : ℕ) (g : Fault) → live u ≡ false → stand u ≡ next.Fault g → ⊥
  sound_at u g dead h = let e : next.Ended ≡ next.Fault g = sym (over u dead) ∙ h in cc

  passed : (k x : ℕ) (r : Option (ℕ × Fault)) → k ≤ x → ((t : ℕ) → k ≤ t → t < x → live t ≡ false) → ((g : Fault) → stand x ≡ next.Fault g → ⊥) → Faulty (suc x) r → Faulty k r
  passed k x (Some r) low gap at h = (omega (arith, h.0, low), h.1, λ u g from below is. by u g from below is (place u x))
    where
      by : (u : ℕ) (g : Fault) → k ≤ u → u < r.0 → stand u ≡ next.Fault g → Place u x → ⊥
      by u g from below is (before b) = sound_at u g (gap u from b) is
      by u g from below is (here b) = at g (ap stand (sym b) ∙ is)
      by u g from below is (behind b) = h.2 u g b below is
  passed k x None low gap at h = λ u g from is. by u g from is (place u x)
    where
      by : (u : ℕ) (g : Fault) → k ≤ u → stand u ≡ next.Fault g → Place u x → ⊥
      by u g from is (before b) = sound_at u g (gap u from b) is
      by u g from is (here b) = at g (ap stand (sym b) ∙ is)
      by u g from is (behind b) = h u g b is

  first_fault : (k x : ℕ) (rest : Option (ℕ × Fault)) (n : Next) → stand x ≡ n → k ≤ x → ((t : ℕ) → k ≤ t → t < x → live t ≡ false) → Faulty (suc x) rest → Faulty k (faulting x n rest)
  first_fault k x rest (next.Fault f) is low gap more = (low, is, λ u g from below. sound_at u g (gap u from below))
  first_fault k x rest (next.Act s) is low gap more = passed k x rest low gap (λ g h. let e : next.Act s ≡ next.Fault g = sym is ∙ h in cc) more
  first_fault k x rest next.Ended is low gap more = passed k x rest low gap (λ g h. let e : next.Ended ≡ next.Fault g = sym is ∙ h in cc) more

  pub faults : (k : ℕ) (xs : List ℕ) → Are live k xs → Faulty k (fault_among (map (stands stand) xs))
  faults k [] h = λ u g from. sound_at u g (h u from)
  faults k (x ∷ xs) h = first_fault k x (fault_among (map (stands stand) xs)) (stand x) refl h.0 h.1 (faults (suc x) xs h.3)

  -- ---- forks

  abbrev pub Forking : ℕ → Bool → Type 0
  Forking k true = (t : ℕ) × ((touch : Touch) × (stand t ≡ next.Act touch) × (touch.forks ≡ true))
  Forking k false = (t : ℕ) (touch : Touch) → k ≤ t → stand t ≡ next.Act touch → touch.forks ≡ true → ⊥

  still : (t : ℕ) (touch : Touch) → live t ≡ false → stand t ≡ next.Act touch → ⊥
  still t touch dead h = let e : next.Ended ≡ next.Act touch = sym (over t dead) ∙ h in cc

  fork_wider : (k x : ℕ) (b : Bool) → k ≤ x → ((t : ℕ) → k ≤ t → t < x → live t ≡ false) → ((touch : Touch) → stand x ≡ next.Act touch → touch.forks ≡ true → ⊥) → Forking (suc x) b → Forking k b
  fork_wider k x true low gap at h = h
  fork_wider k x false low gap at h = λ t touch from is forks. by t touch from is forks (place t x)
    where
      by : (t : ℕ) (touch : Touch) → k ≤ t → stand t ≡ next.Act touch → touch.forks ≡ true → Place t x → ⊥
      by t touch from is forks (before b) = still t touch (gap t from b) is
      by t touch from is forks (here b) = at touch (ap stand (sym b) ∙ is) forks
      by t touch from is forks (behind b) = h t touch b is forks

  fork_act : (k x : ℕ) (touch : Touch) (b rest : Bool) → stand x ≡ next.Act touch → touch.forks ≡ b → k ≤ x → ((t : ℕ) → k ≤ t → t < x → live t ≡ false) → Forking (suc x) rest → Forking k (b || rest)
  fork_act k x touch true rest is forks low gap more = (x, (touch, is, forks))
  fork_act k x touch false rest is forks low gap more = fork_wider k x rest low gap none more
    where
      none : (other : Touch) → stand x ≡ next.Act other → other.forks ≡ true → ⊥
      none other same yes_forks = let e : next.Act touch ≡ next.Act other = sym is ∙ same in cc (e, forks, yes_forks)

  fork_one : (k x : ℕ) (n : Next) (rest : Bool) → stand x ≡ n → k ≤ x → ((t : ℕ) → k ≤ t → t < x → live t ≡ false) → Forking (suc x) rest → Forking k (is_fork n || rest)
  fork_one k x (next.Act touch) rest is low gap more = fork_act k x touch touch.forks rest is refl low gap more
  fork_one k x (next.Fault f) rest is low gap more = fork_wider k x rest low gap (λ other same g. let e : next.Fault f ≡ next.Act other = sym is ∙ same in cc) more
  fork_one k x next.Ended rest is low gap more = fork_wider k x rest low gap (λ other same g. let e : next.Ended ≡ next.Act other = sym is ∙ same in cc) more

  pub forks : (k : ℕ) (xs : List ℕ) → Are live k xs → Forking k (forks_among (map (stands stand) xs))
  forks k [] h = λ t touch from is g. still t touch (h t from) is
  forks k (x ∷ xs) h = fork_one k x (stand x) (forks_among (map (stands stand) xs)) refl h.0 h.1 (forks (suc x) xs h.3)
