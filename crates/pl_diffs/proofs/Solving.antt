-- What the rounds come to.
use Rattle.std.proofs.Common.{◌≡◌, ◌≢◌, ℕ, zero, suc, ◌<◌, ◌≤◌, ◌+◌, ◌*◌, ◌^◌, inl, inr, ℤ, pos, ◌+ℤ◌, ◌-ℤ◌, ◌≤ℤ◌, ◌<ℤ◌, List, [], ◌∷◌, reverse, length, map, replicate, unsigned_abs, Option, Some, None, Contains, refl, ap, sym, subst, ◌∙◌, arith, mul-le-mul}
use Rattle.std.proofs.lemmas.Int.{ints, by_lt_z}
use Rattle.std.proofs.lemmas.List.{length-reverse, get_or-replicate, length-replicate}
use Rattle.std.proofs.lemmas.List.Elements.{All-from_get_or}
use Rattle.std.proofs.lemmas.Bool.{cases_lt}
use Rattle.pl_diffs.specs.declared.Edge.{Edge}
use Rattle.pl_diffs.specs.Differences.{at, Meets}
use Rattle.pl_diffs.specs.Rounds.{edge, weight, parent_of, Back, Parent, Ranked, Ends, Low, Round, Rounds, IsLeast, IsFound}
use Rattle.pl_diffs.specs.Walk.{Closed, Rooted}
use Rattle.pl_diffs.proofs.Chains.{chain_falls, chain_back}
use Rattle.pl_diffs.proofs.Paths.{Along, along_reverse, along_path, along_named, weight-reverse, path_bound, meets_edge, cycle_law, distance}

at_zeros : (n k : ℕ) → at (replicate n (pos 0)) k ≡ pos 0
at_zeros zero k = refl
at_zeros (suc n) zero = refl
at_zeros (suc n) (suc k) = at_zeros n k

short_zero : (es : List Edge) (n : ℕ) (p : List ℕ) → length p ≤ 0 → (k s : ℕ) → Back es p k s → at (replicate n (pos 0)) k ≤ℤ weight es p
short_zero es n [] h k s b = omega (arith, ints, at_zeros n k)
short_zero es n (i ∷ p) h k s b = absurd (omega arith)

no_parents : (es : List Edge) (n k : ℕ) → k < n → Parent es (replicate n (pos 0)) (λ q. 0) k (parent_of (replicate n None) k)
no_parents es n k hk = let none : Option ℕ = None in rw (get_or-replicate n k none none hk) (at_zeros n k)

pub rounds_start : (es : List Edge) (n : ℕ) → Rounds es n (replicate n (pos 0)) (replicate n None) 0
rounds_start es n = record {
  ranked = record {
    count = length-replicate n (pos 0);
    parents = length-replicate n None;
    highest = λ k. omega (arith, ints, at_zeros n k);
    attained = λ k hk. record { first = k; path = []; within = hk; leads = refl; sum = sym (at_zeros n k) };
    rank = λ k. 0;
    now = 1;
    earlier = λ k hk. omega arith;
    parent = no_parents es n;
  };
  low = λ k. omega (arith, ints, at_zeros n k);
  short = λ p k s h hs b. short_zero es n p h k s b;
}

-- one round more settles the paths with one edge more
short_more : (es : List Edge) (n : ℕ) (d0 d : List ℤ) (ps : List (Option ℕ)) (last : Option ℕ) (m : ℕ) → ((p : List ℕ) (k s : ℕ) → length p ≤ m → s < n → Back es p k s → at d0 k ≤ℤ weight es p) → Round es n d0 d ps (length es) last → (p : List ℕ) (k s : ℕ) → length p ≤ m + 1 → s < n → Back es p k s → at d k ≤ℤ weight es p
short_more es n d0 d ps last m h r [] k s le hs b = r.ranked.highest k
short_more es n d0 d ps last m h r (i ∷ p) k s le hs b =
    let here = r.done i b.0 in
    let there = h p (edge es i).from s (omega arith) hs b.2 in
    omega (arith, ints, ap (at d) b.1)

-- the node at which a walk back ends has distance 0
rooted_zero : (es : List Edge) (n : ℕ) (d : List ℤ) (ps : List (Option ℕ)) (r : Ranked es n d ps) (k : ℕ) → k < n → parent_of ps k ≡ None → at d k ≡ pos 0
rooted_zero es n d ps r k hk e = rw e at (r.parent k hk)

-- a walk back to a node without a parent is longer than the count of rounds
pub rooted_long : (es : List Edge) (n : ℕ) (d0 d : List ℤ) (ps0 ps : List (Option ℕ)) (round t : ℕ) → Rounds es n d0 ps0 round → Ends es n → Round es n d0 d ps (length es) (Some t) → Rooted es ps t → round + 1 < n
rooted_long es n d0 d ps0 ps round t b ends r w =
    let fell = r.fell t refl in
    let lt = fell.1 in
    let hn = r.ranked.parents in
    let zero_ = rooted_zero es n d ps r.ranked w.root (omega (arith, w.within)) w.is in
    let sum = (chain_falls es n d ps r.ranked ends w.path t w.root fell.0 w.chain).0 in
    let back = chain_back es n d ps r.ranked ends w.path t w.root fell.0 w.chain in
    elim (cases_lt round (length w.path)) [
      | inl long ↦ omega (arith, w.short)
      | inr short ↦ absurd (omega (arith, ints, b.short w.path t w.root short (omega (arith, w.within)) back))
    ]

pub rounds_more : (es : List Edge) (n : ℕ) (d0 d : List ℤ) (ps0 ps : List (Option ℕ)) (round : ℕ) (last : Option ℕ) → Rounds es n d0 ps0 round → Round es n d0 d ps (length es) last → Rounds es n d ps (round + 1)
rounds_more es n d0 d ps0 ps round last b r = record {
  ranked = r.ranked;
  low = let P : ℕ → Type 0 = λ m. Low m d in let e : round * length es + length es ≡ (round + 1) * length es = omega arith in subst P e (r.low (round * length es) b.low);
  short = short_more es n d0 d ps last round b.short r;
}

pub low_now : (es : List Edge) (n : ℕ) (d : List ℤ) (ps : List (Option ℕ)) (round : ℕ) → Rounds es n d ps round → Ends es n → round ≤ 2 * n → Low (2 ^ 25) d
low_now es n d ps round b ends few_rounds = λ k.
    let few = ends.few in
    let small = ends.small in
    let r : round ≤ 8192 = omega arith in
    let m : round * length es ≤ 8192 * 4096 = mul-le-mul r few in
    omega (arith, ints, b.low k)

negative_sum : (a x : ℤ) (r m : ℕ) → (a +ℤ x) ≤ℤ a → (a +ℤ x ≡ a → r + m ≤ r) → 0 < m → x <ℤ pos 0
negative_sum a x r m le imp h = by_lt_z x (pos 0) (λ lt. lt) (λ ge. let e : a +ℤ x ≡ a = omega (arith, ints) in absurd (omega (arith, imp e)))

some_edges : (es : List Edge) (p : List ℕ) → 0 < length p → map (edge es) p ≢ []
some_edges es [] h e = absurd (omega arith)
some_edges es (i ∷ p) h e = absurd cc

pub closed_cycle : (es : List Edge) (n : ℕ) (d : List ℤ) (ps : List (Option ℕ)) (c : List ℕ) → Ranked es n d ps → Ends es n → Closed es ps c → IsFound es n c
closed_cycle es n d ps c r ends w =
    let hn = r.parents in
    let inside : w.node < n = omega (arith, w.within) in
    let f = chain_falls es n d ps r ends w.path w.node w.node inside w.chain in
    let le = f.0 in
    let below : weight es w.path <ℤ pos 0 = negative_sum (at d w.node) (weight es w.path) (r.rank w.node) (length w.path) le f.1 w.some in
    let along : Along es c w.node w.node = rw w.is (along_reverse es w.path w.node w.node (chain_back es n d ps r ends w.path w.node w.node inside w.chain)) in
    let negative : weight es c <ℤ pos 0 = rw (w.is, weight-reverse es w.path) below in
    let long : length c ≡ length w.path = ap length w.is ∙ length-reverse w.path in
    let leads = along_path es c w.node w.node along in
    record {
      cycle = record {
        path = map (edge es) c;
        named = along_named es c w.node w.node along;
        closed = record { node = w.node; leads = leads; some = some_edges es c (omega (arith, w.some)) };
        negative = negative;
      };
      short = omega (arith, w.short);
      none = cycle_law es (map (edge es) c) w.node leads negative;
    }

-- a number at most 0, and not below -m
size_below : (x : ℤ) (m : ℕ) → x ≤ℤ pos 0 → pos 0 ≤ℤ (x +ℤ pos m) → unsigned_abs x ≤ m
size_below x m h l = grind (arith, ints)

pub least : (es : List Edge) (n : ℕ) (d0 d : List ℤ) (ps : List (Option ℕ)) → Ends es n → Low (2 ^ 25) d0 → Round es n d0 d ps (length es) None → IsLeast es n d
least es n d0 d ps ends l r =
    let same : d ≡ d0 = r.same refl in
    let zero_edge : Edge = record { from = 0; to = 0; most = pos 0 } in
    let meets : Meets es (at d) = All-from_get_or (λ e. (at d e.to -ℤ at d e.from) ≤ℤ e.most) es zero_edge (λ i hi. omega (arith, ints, r.done i hi, ap (λ e. at e (edge es i).from) same)) in
    record {
      distances = record { count = r.ranked.count; each = λ k hk. distance es n d r.ranked.count meets r.ranked.highest k (r.ranked.attained k hk) };
      meets = meets;
      at_most_zero = All-from_get_or (λ x. x ≤ℤ pos 0) d (pos 0) (λ k hk. r.ranked.highest k);
      greatest = record {
        above = λ u m h k hk.
            let a = r.ranked.attained k hk in
            let along = along_path es (reverse a.path) a.first k (along_reverse es a.path k a.first a.leads) in
            omega (arith, ints, path_bound (Contains es) u (meets_edge es u m) (map (edge es) (reverse a.path)) a.first k along, h a.first a.within, weight-reverse es a.path, a.sum);
      };
      bounded = All-from_get_or (λ x. unsigned_abs x ≤ 2 ^ 106) d (pos 0) (λ k hk. size_below (at d k) (2 ^ 106) (r.ranked.highest k) (omega (arith, ints, l k, ap (λ e. at e k) same)));
    }
