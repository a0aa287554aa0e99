-- Chains of parents, and the paths that they make.
use Rattle.std.proofs.Common.{◌≡◌, ℕ, ◌<◌, ◌≤◌, ◌+◌, ℤ, ◌+ℤ◌, ◌≤ℤ◌, List, [], ◌∷◌, ◌++◌, length, Option, Some, refl, ap, ◌∙◌, arith}
use Rattle.std.proofs.lemmas.Int.{ints}
use Rattle.pl_diffs.specs.declared.Edge.{Edge}
use Rattle.pl_diffs.specs.Differences.{at}
use Rattle.pl_diffs.specs.Rounds.{edge, weight, parent_of, Back, IsParent, Ranked, Ends}
use Rattle.pl_diffs.specs.Walk.{Chain}

-- the parent at which a chain begins
chain_parent : (es : List Edge) (n : ℕ) (d : List ℤ) (ps : List (Option ℕ)) (r : Ranked es n d ps) (k i : ℕ) → k < n → parent_of ps k ≡ Some i → IsParent es d r.rank k i
chain_parent es n d ps r k i hk e = rw e at (r.parent k hk)

-- each parent's edge lets the distance fall, or leads from a node of lower rank
pub chain_falls : (es : List Edge) (n : ℕ) (d : List ℤ) (ps : List (Option ℕ)) (r : Ranked es n d ps) → Ends es n → (p : List ℕ) (k s : ℕ) → k < n → Chain es ps p k s → ((at d s +ℤ weight es p) ≤ℤ at d k) × (at d s +ℤ weight es p ≡ at d k → r.rank s + length p ≤ r.rank k)
chain_falls es n d ps r ends [] k s hk c = (omega (arith, ints, ap (at d) c), λ e. omega (arith, ap r.rank c))
chain_falls es n d ps r ends (i ∷ p) k s hk c =
    let here = chain_parent es n d ps r k i hk c.1 in
    let there = chain_falls es n d ps r ends p (edge es i).from s (ends.ends i c.0).0 c.2 in
    let low = here.reached in
    let low2 = there.0 in (
      omega (arith, ints),
      λ e.
          let a : at d (edge es i).from +ℤ (edge es i).most ≡ at d k = omega (arith, ints) in
          let b : at d s +ℤ weight es p ≡ at d (edge es i).from = omega (arith, ints) in
          omega (arith, here.later a, there.1 b),
    )

pub chain_back : (es : List Edge) (n : ℕ) (d : List ℤ) (ps : List (Option ℕ)) → Ranked es n d ps → Ends es n → (p : List ℕ) (k s : ℕ) → k < n → Chain es ps p k s → Back es p k s
chain_back es n d ps r ends [] k s hk c = c
chain_back es n d ps r ends (i ∷ p) k s hk c =
    (c.0, (chain_parent es n d ps r k i hk c.1).leads, chain_back es n d ps r ends p (edge es i).from s (ends.ends i c.0).0 c.2)

pub chain_more : (es : List Edge) (ps : List (Option ℕ)) (p : List ℕ) (k s i : ℕ) → Chain es ps p k s → i < length es → parent_of ps s ≡ Some i → Chain es ps (p ++ i ∷ []) k (edge es i).from
chain_more es ps [] k s i c hi e = (hi, ap (parent_of ps) c ∙ e, refl)
chain_more es ps (j ∷ p) k s i c hi e = (c.0, c.1, chain_more es ps p (edge es j).from s i c.2 hi e)
