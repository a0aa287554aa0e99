-- The walk back along the parents.
use Rattle.std.proofs.Common.{cond, ◌≡◌, ℕ, zero, suc, ◌<◌, ◌+◌, inl, inr, List, [], ◌∷◌, ◌++◌, reverse, length, get_or, drop, set, replicate, count_by, is_some, Option, Some, None, refl, ap, sym, ◌∙◌, arith, length-append, length-set, length-drop, get_or-set_same, get_or-set_other}
use Rattle.std.proofs.lemmas.Bool.{cases_eq}
use Rattle.std.proofs.lemmas.List.{drop-append-le, get_or-replicate, length-replicate, get_or_read}
use Rattle.std.proofs.Math.Seq.{drop-append_seam}
use Rattle.std.proofs.lemmas.List.Sums.{count_by-le-length, sum_by-set}
use Rattle.pl_diffs.specs.declared.Edge.{Edge}
use Rattle.pl_diffs.specs.Rounds.{edge, parent_of, Ends}
use Rattle.pl_diffs.specs.Walk.{Walk, Chain, Closed, Rooted}
use Rattle.pl_diffs.proofs.Chains.{chain_more}

-- one more node has a place
count_set : (xs : List (Option ℕ)) (i y : ℕ) → i < length xs → parent_of xs i ≡ None → count_by is_some (set xs i (Some y)) ≡ count_by is_some xs + 1
count_set xs i y hi e =
    let none : cond {A = ℕ} (is_some (get_or xs i None)) 1 0 ≡ 0 = ap (λ q. cond {A = ℕ} (is_some q) 1 0) e in
    omega (arith, sum_by-set (λ q. cond (is_some q) 1 0) xs i (Some y) None hi)

count-replicate : (n : ℕ) → count_by {X = Option ℕ} is_some (replicate n None) ≡ 0
count-replicate zero = refl
count-replicate (suc n) = count-replicate n

none_placed : (n k q : ℕ) → k < n → parent_of (replicate n None) k ≡ Some q → ⊥
none_placed n k q hk e =
    let none : Option ℕ = None in
    let z : parent_of (replicate n None) k ≡ none = get_or-replicate n k none none hk in
    absurd cc

pub walk_start : (es : List Edge) (ps : List (Option ℕ)) (t : ℕ) → t < length ps → Walk es ps (replicate (length ps) None) [] t t
walk_start es ps t h = record {
  inside = h;
  len = length-replicate (length ps) None;
  chain = refl;
  short = λ k q hk e. absurd (none_placed (length ps) k q hk e);
  placed = λ k q hk e. absurd (none_placed (length ps) k q hk e);
  counted = sym (count-replicate (length ps));
}

-- there is room for one more
pub walk_room : (es : List Edge) (ps place : List (Option ℕ)) (trail : List ℕ) (t node : ℕ) → Walk es ps place trail t node → parent_of place node ≡ None → length trail < length ps
walk_room es ps place trail t node w e =
    let inside : node < length place = rw w.len w.inside in
    let more = count_set place node 0 inside e in
    omega (arith, count_by-le-length is_some (set place node (Some 0)), length-set place node (Some 0), w.counted, w.len)

pub walk_step : (es : List Edge) (n : ℕ) (ps place : List (Option ℕ)) (trail : List ℕ) (t node i : ℕ) → Ends es n → length ps ≡ n → Walk es ps place trail t node → parent_of place node ≡ None → parent_of ps node ≡ Some i → i < length es → Walk es ps (set place node (Some (length trail))) (trail ++ i ∷ []) t (edge es i).from
walk_step es n ps place trail t node i ends hn w e pi hi =
    let inside : node < length place = rw w.len w.inside in
    let long : length (trail ++ i ∷ []) ≡ length trail + 1 = length-append trail (i ∷ []) ∙ refl in
    record {
      inside = rw hn (ends.ends i hi).0;
      len = length-set place node (Some (length trail)) ∙ w.len;
      chain = chain_more es ps trail t node i w.chain hi pi;
      short = λ k q hk is. elim (cases_eq k node) [
        | inl same ↦
            let z = rw (same, get_or-set_same place node (Some (length trail)) None inside) at is in
            let s : length trail ≡ q = cc in
            omega arith
        | inr other ↦ omega (arith, w.short k q hk (rw (get_or-set_other place node k (Some (length trail)) None other) at is))
      ];
      placed = λ k q hk is. elim (cases_eq k node) [
        | inl same ↦
            let z = rw (same, get_or-set_same place node (Some (length trail)) None inside) at is in
            let s : length trail ≡ q = cc in
            rw (← s, same, drop-append_seam trail (i ∷ [])) (hi, pi, refl)
        | inr other ↦
            let was = rw (get_or-set_other place node k (Some (length trail)) None other) at is in
            rw (drop-append-le q trail (i ∷ []) (omega (arith, w.short k q hk was)))
            (chain_more es ps (drop q trail) k node i (w.placed k q hk was) hi pi)
      ];
      counted = rw long (omega (arith, w.counted, count_set place node (length trail) inside e));
    }

pub walk_closed : (es : List Edge) (ps place : List (Option ℕ)) (trail cycle : List ℕ) (t node q : ℕ) → Walk es ps place trail t node → parent_of place node ≡ Some q → cycle ≡ reverse (drop q trail) → Closed es ps cycle
walk_closed es ps place trail cycle t node q w is e = record {
  node = node;
  path = drop q trail;
  within = w.inside;
  some = omega (arith, length-drop q trail, w.short node q w.inside is);
  short = omega (arith, length-drop q trail, w.counted, w.len, count_by-le-length is_some place);
  chain = w.placed node q w.inside is;
  is = e;
}

-- a node from which a chain leads has a parent
chain_first : (es : List Edge) (ps : List (Option ℕ)) (p : List ℕ) (k s : ℕ) → 0 < length p → Chain es ps p k s → parent_of ps k ≡ None → ⊥
chain_first es ps [] k s h c e = absurd (omega arith)
chain_first es ps (i ∷ p) k s h c e = let parent = c.1 in absurd cc

-- so a node without a parent was not passed
rooted_new : (es : List Edge) (ps place : List (Option ℕ)) (trail : List ℕ) (t node : ℕ) → Walk es ps place trail t node → parent_of ps node ≡ None → (o : Option ℕ) → parent_of place node ≡ o → parent_of place node ≡ None
rooted_new es ps place trail t node w is None e = e
rooted_new es ps place trail t node w is (Some q) e =
    absurd (chain_first es ps (drop q trail) node node (omega (arith, length-drop q trail, w.short node q w.inside e)) (w.placed node q w.inside e) is)

pub walk_rooted : (es : List Edge) (ps place : List (Option ℕ)) (trail : List ℕ) (t node : ℕ) → Walk es ps place trail t node → parent_of ps node ≡ None → Rooted es ps t
walk_rooted es ps place trail t node w is = record {
  root = node;
  path = trail;
  within = w.inside;
  short = walk_room es ps place trail t node w (rooted_new es ps place trail t node w is (parent_of place node) refl);
  chain = w.chain;
  is = is;
}

-- a read of the place of the node, as `place[node]` gives it
pub walk_read : (es : List Edge) (ps place : List (Option ℕ)) (trail : List ℕ) (t node : ℕ) (x : Option ℕ) → Walk es ps place trail t node → x ≡ get_or place node x → parent_of place node ≡ x
walk_read es ps place trail t node x w e = sym (get_or_read place node x (rw w.len w.inside) e None)
