-- The atoms of numbered blocks: where a variable's points-to stands, and what giving its block up leaves.
use Rattle.std.proofs.Common.{◌≡◌, ◌≢◌, ◌⊎◌, inl, inr, ℕ, zero, suc, ◌+◌, Option, Some, None, List, [], ◌∷◌, ◌++◌, length, map, set, slice_get, refl, sym, ap, ◌∙◌, subst, arith, append_assoc}
use Rattle.std.specs.Prelude.{pos, MatchOption}
use Rattle.std.proofs.lemmas.List.Elements.{All-nil, All-cons, All-append}
use Rattle.std.proofs.lemmas.Bool.{cases_eq}
use Rattle.std.proofs.lemmas.List.{length-map, map-append}
use Rattle.pl_base.specs.Permission.{whole}
use Rattle.pl_terms.specs.declared.term.Term.{Term}
use Rattle.pl_terms.specs.declared.term.Term.TheVariants.{Literal, Variable}
use Rattle.pl_walk.specs.declared.known.Block as block
use Rattle.pl_terms.specs.Terms.{Atom, Points, Block}
use Rattle.pl_walk.specs.Walk.{PointsTo, PointsWhole, BlockOf, NoneOf}
use Rattle.pl_walk.specs.Blocks.{IsFirst, IsFreed}
use Rattle.pl_terms.specs.Table.{Names, Known, put, allocated}
use Rattle.pl_walk.specs.Shown.{block_atoms, atoms_from}

same_variable : {k j : ℕ} → Variable k ≡ Variable j → k ≡ j
same_variable h = cc

pub none_two : (P : Atom → Type 0) (a b : Atom) → (P a → ⊥) → (P b → ⊥) → NoneOf P (a ∷ b ∷ [])
none_two P a b h k = All-cons (λ c. P c → ⊥) a (b ∷ []) h (All-cons (λ c. P c → ⊥) b [] k (All-nil (λ c. P c → ⊥)))

pub none_at_all : (P : Atom → Type 0) → NoneOf P []
none_at_all P = All-nil (λ c. P c → ⊥)

pub none_both : (P : Atom → Type 0) (xs ys : List Atom) → NoneOf P xs → NoneOf P ys → NoneOf P (xs ++ ys)
none_both P xs ys h k = All-append (λ c. P c → ⊥) xs ys h k

-- another block's atoms are no points-to and no block of the variable
pub other_cell : (v k : ℕ) (o : Option Term) → k ≢ v → NoneOf (PointsTo (Variable v)) (block_atoms k o)
other_cell v k None ne = none_at_all (PointsTo (Variable v))
other_cell v k (Some w) ne = none_two (PointsTo (Variable v)) _ _ (λ h. ne (same_variable h)) (λ h. h)

pub other_block : (v k : ℕ) (o : Option Term) → k ≢ v → NoneOf (BlockOf (Variable v)) (block_atoms k o)
other_block v k None ne = none_at_all (BlockOf (Variable v))
other_block v k (Some w) ne = none_two (BlockOf (Variable v)) _ _ (λ h. h) (λ h. ne (same_variable h))

-- blocks of other numbers have no points-to of the variable
pub none_from : (v k : ℕ) (bs : List block.Block) → ((j : ℕ) (b : block.Block) → slice_get bs j ≡ Some b → (k + j ≢ v) ⊎ (b.value ≡ None)) → NoneOf (PointsTo (Variable v)) (atoms_from k bs)
none_from v k [] h = none_at_all (PointsTo (Variable v))
none_from v k (b ∷ bs) h =
    none_both (PointsTo (Variable v)) (block_atoms k b.value) (atoms_from (k + 1) bs) (here (h 0 b refl))
    (none_from v (k + 1) bs (λ j c e. later j c (h (suc j) c e)))
  where
    here : ((k + 0 ≢ v) ⊎ (b.value ≡ None)) → NoneOf (PointsTo (Variable v)) (block_atoms k b.value)
    here (inl ne) = other_cell v k b.value (λ e. ne (omega (arith, e)))
    here (inr e) = subst (λ o. NoneOf (PointsTo (Variable v)) (block_atoms k o)) (sym e) (none_at_all (PointsTo (Variable v)))

    later : (j : ℕ) (c : block.Block) → ((k + suc j ≢ v) ⊎ (c.value ≡ None)) → ((k + 1) + j ≢ v) ⊎ (c.value ≡ None)
    later j c (inl ne) = inl (λ e. ne (omega (arith, e)))
    later j c (inr e) = inr e

-- a dead block has no points-to, and neither has one that isn't there
pub dead_at : (v : ℕ) (bs : List block.Block) → ((b : block.Block) → slice_get bs v ≡ Some b → b.value ≡ None) → NoneOf (PointsTo (Variable v)) (atoms_from 0 bs)
dead_at v bs h = none_from v 0 bs (λ j b e. by_number j b (cases_eq j v) e)
  where
    by_number : (j : ℕ) (b : block.Block) → (j ≡ v) ⊎ (j ≢ v) → slice_get bs j ≡ Some b → (0 + j ≢ v) ⊎ (b.value ≡ None)
    by_number j b (inl same) e = inr (h b (subst (λ n. slice_get bs n ≡ Some b) same e))
    by_number j b (inr ne) e = inl (λ k. ne (omega (arith, k)))

-- a live block's points-to is the first
pub live_from : (v k : ℕ) (bs : List block.Block) (b : block.Block) (w : Term) → slice_get bs v ≡ Some b → b.value ≡ Some w → IsFirst (Variable (k + v)) w (atoms_from k bs)
live_from v k [] b w e h = cc
live_from zero k (c ∷ bs) b w e h =
    let same : c ≡ b = cc in
    let value : c.value ≡ Some w = ap (λ (d : block.Block). d.value) same ∙ h in
    subst (λ o. IsFirst (Variable (k + 0)) w (block_atoms k o ++ atoms_from (k + 1) bs)) (sym value) here
  where
    here : IsFirst (Variable (k + 0)) w (block_atoms k (Some w) ++ atoms_from (k + 1) bs)
    here = let number : k ≡ k + 0 = omega arith in
        record {
          front = [];
          back = Block (Variable k) (Literal (pos 1)) ∷ atoms_from (k + 1) bs;
          at = ap (λ n. Points (Variable n) whole w ∷ Block (Variable k) (Literal (pos 1)) ∷ atoms_from (k + 1) bs) number;
          first = none_at_all (PointsTo (Variable (k + 0)));
        }
live_from (suc v) k (c ∷ bs) b w e h =
    let r = live_from v (k + 1) bs b w e h in
    let number : (k + 1) + v ≡ k + suc v = omega arith in
    subst (λ n. IsFirst (Variable n) w (block_atoms k c.value ++ atoms_from (k + 1) bs)) number record {
      front = block_atoms k c.value ++ r.front;
      back = r.back;
      at = ap (λ l. block_atoms k c.value ++ l) r.at ∙ sym (append_assoc (block_atoms k c.value) r.front _);
      first = none_both (PointsTo (Variable ((k + 1) + v))) (block_atoms k c.value) r.front (other_cell ((k + 1) + v) k c.value (λ q. absurd (omega (arith, q)))) r.first;
    }

-- a variable's points-to and block were taken out of a list of atoms
pub record TakenOut (base value : Term) (atoms rest : List Atom) : Type 0 where
  pub front : List Atom
  pub back : List Atom
  pub cell_at : atoms ≡ front ++ Points base whole value ∷ back
  pub first_cell : NoneOf (PointsTo base) front
  pub front' : List Atom
  pub back' : List Atom
  pub block_at : front ++ back ≡ front' ++ Block base (Literal (pos 1)) ∷ back'
  pub first_block : NoneOf (BlockOf base) front'
  pub left : rest ≡ front' ++ back'

-- where a block dies, its two atoms are taken out
pub dies_from : (v k : ℕ) (bs : List block.Block) (b c : block.Block) (w : Term) → slice_get bs v ≡ Some b → b.value ≡ Some w → c.value ≡ None
    → TakenOut (Variable (k + v)) w (atoms_from k bs) (atoms_from k (set bs v c))
dies_from v k [] b c w e h dead = cc
dies_from zero k (d ∷ bs) b c w e h dead =
    let same : d ≡ b = cc in
    let value : d.value ≡ Some w = ap (λ (x : block.Block). x.value) same ∙ h in
    subst (λ o. TakenOut (Variable (k + 0)) w (block_atoms k o ++ atoms_from (k + 1) bs) (block_atoms k c.value ++ atoms_from (k + 1) bs)) (sym value)
    (subst (λ o. TakenOut (Variable (k + 0)) w (block_atoms k (Some w) ++ atoms_from (k + 1) bs) (block_atoms k o ++ atoms_from (k + 1) bs)) (sym dead) here)
  where
    here : TakenOut (Variable (k + 0)) w (block_atoms k (Some w) ++ atoms_from (k + 1) bs) (atoms_from (k + 1) bs)
    here = let number : k ≡ k + 0 = omega arith in
        record {
          front = [];
          back = Block (Variable k) (Literal (pos 1)) ∷ atoms_from (k + 1) bs;
          cell_at = ap (λ n. Points (Variable n) whole w ∷ Block (Variable k) (Literal (pos 1)) ∷ atoms_from (k + 1) bs) number;
          first_cell = none_at_all (PointsTo (Variable (k + 0)));
          front' = [];
          back' = atoms_from (k + 1) bs;
          block_at = ap (λ n. Block (Variable n) (Literal (pos 1)) ∷ atoms_from (k + 1) bs) number;
          first_block = none_at_all (BlockOf (Variable (k + 0)));
          left = refl;
        }
dies_from (suc v) k (d ∷ bs) b c w e h dead =
    let r = dies_from v (k + 1) bs b c w e h dead in
    let number : (k + 1) + v ≡ k + suc v = omega arith in
    let mine = block_atoms k d.value in
    subst (λ n. TakenOut (Variable n) w (mine ++ atoms_from (k + 1) bs) (mine ++ atoms_from (k + 1) (set bs v c))) number record {
      front = mine ++ r.front;
      back = r.back;
      cell_at = ap (λ l. mine ++ l) r.cell_at ∙ sym (append_assoc mine r.front _);
      first_cell = none_both (PointsTo (Variable ((k + 1) + v))) mine r.front (other_cell ((k + 1) + v) k d.value (λ q. absurd (omega (arith, q)))) r.first_cell;
      front' = mine ++ r.front';
      back' = r.back';
      block_at = append_assoc mine r.front r.back ∙ ap (λ l. mine ++ l) r.block_at ∙ sym (append_assoc mine r.front' _);
      first_block = none_both (BlockOf (Variable ((k + 1) + v))) mine r.front' (other_block ((k + 1) + v) k d.value (λ q. absurd (omega (arith, q)))) r.first_block;
      left = ap (λ l. mine ++ l) r.left ∙ sym (append_assoc mine r.front' r.back');
    }

-- names stay where a value changes
pub names_stay : (v : ℕ) (bs : List block.Block) (b c : block.Block) → slice_get bs v ≡ Some b → c.name ≡ b.name → map (λ (x : block.Block). x.name.now) (set bs v c) ≡ map (λ (x : block.Block). x.name.now) bs
names_stay v [] b c e same = cc
names_stay zero (d ∷ bs) b c e same =
    let is : d ≡ b = cc in
    ap (λ n. n ∷ map (λ (x : block.Block). x.name.now) bs) (ap (λ n. n.now) same ∙ sym (ap (λ (x : block.Block). x.name.now) is))
names_stay (suc v) (d ∷ bs) b c e same = ap (λ l. d.name.now ∷ l) (names_stay v bs b c e same)

-- a block that is made last
pub made_last : (k : ℕ) (bs : List block.Block) (b : block.Block) (w : Term) → b.value ≡ Some w → atoms_from k (bs ++ b ∷ []) ≡ atoms_from k bs ++ (Points (Variable (k + length bs)) whole w ∷ Block (Variable (k + length bs)) (Literal (pos 1)) ∷ [])
made_last k [] b w e =
    let number : k ≡ k + 0 = omega arith in
    ap (λ o. block_atoms k o ++ []) e ∙ ap (λ n. Points (Variable n) whole w ∷ Block (Variable n) (Literal (pos 1)) ∷ []) number
made_last k (d ∷ bs) b w e =
    let number : (k + 1) + length bs ≡ k + suc (length bs) = omega arith in
    ap (λ l. block_atoms k d.value ++ l) (made_last (k + 1) bs b w e ∙ ap (λ n. atoms_from (k + 1) bs ++ (Points (Variable n) whole w ∷ Block (Variable n) (Literal (pos 1)) ∷ [])) number)
    ∙ sym (append_assoc (block_atoms k d.value) (atoms_from (k + 1) bs) _)

-- atoms stay where a block's value stays
pub atoms_stay : (v k : ℕ) (bs : List block.Block) (b c : block.Block) → slice_get bs v ≡ Some b → c.value ≡ b.value → atoms_from k (set bs v c) ≡ atoms_from k bs
atoms_stay v k [] b c e same = cc
atoms_stay zero k (d ∷ bs) b c e same =
    let is : d ≡ b = cc in
    ap (λ o. block_atoms k o ++ atoms_from (k + 1) bs) (same ∙ sym (ap (λ (x : block.Block). x.value) is))
atoms_stay (suc v) k (d ∷ bs) b c e same = ap (λ l. block_atoms k d.value ++ l) (atoms_stay v (k + 1) bs b c e same)

-- what is known by these names and blocks
abbrev pub state : Names → List block.Block → Known
state names bs = record { origins = map (λ (b : block.Block). b.name.now) bs; names = names; atoms = atoms_from 0 bs }

-- what is known, part by part
abbrev pub made : List (List ℕ) → Names → List Atom → Known
made origins names atoms = record { origins = origins; names = names; atoms = atoms }

known_same : (names : Names) (one other : List (List ℕ)) (xs ys : List Atom) → one ≡ other → xs ≡ ys → made one names xs ≡ made other names ys
known_same names one other xs ys h k = cc

-- a look at a block finds the first points-to of its variable
pub looked_at : (v : ℕ) (bs : List block.Block) (b : block.Block) → slice_get bs v ≡ Some b → MatchOption b.value (NoneOf (PointsTo (Variable v)) (atoms_from 0 bs)) (λ w. IsFirst (Variable v) w (atoms_from 0 bs))
looked_at v bs b e = by_value b.value refl
  where
    by_value : (o : Option Term) → b.value ≡ o → MatchOption o (NoneOf (PointsTo (Variable v)) (atoms_from 0 bs)) (λ w. IsFirst (Variable v) w (atoms_from 0 bs))
    by_value None h = dead_at v bs (λ c k. let same : c ≡ b = cc in ap (λ (x : block.Block). x.value) same ∙ h)
    by_value (Some w) h = let number : 0 + v ≡ v = omega arith in subst (λ n. IsFirst (Variable n) w (atoms_from 0 bs)) number (live_from v 0 bs b w e h)

pub not_there : (v : ℕ) (bs : List block.Block) → slice_get bs v ≡ None → NoneOf (PointsTo (Variable v)) (atoms_from 0 bs)
not_there v bs e = dead_at v bs (λ c k. cc)

-- a block dies: its two atoms are taken out where it lived, and nothing changes where it didn't
pub died_at : (names : Names) (v : ℕ) (bs : List block.Block) (b c : block.Block) → slice_get bs v ≡ Some b → c.name ≡ b.name → c.value ≡ None
    → MatchOption b.value ((state names (set bs v c) ≡ state names bs) × NoneOf (PointsTo (Variable v)) (atoms_from 0 bs)) (λ w. IsFreed (Variable v) w (state names bs) (state names (set bs v c)))
died_at names v bs b c e named dead = by_value b.value refl
  where
    by_value : (o : Option Term) → b.value ≡ o → MatchOption o ((state names (set bs v c) ≡ state names bs) × NoneOf (PointsTo (Variable v)) (atoms_from 0 bs)) (λ w. IsFreed (Variable v) w (state names bs) (state names (set bs v c)))
    by_value None h = (
      known_same names _ _ _ _ (names_stay v bs b c e named) (atoms_stay v 0 bs b c e (dead ∙ sym h)),
      dead_at v bs (λ d k. let same : d ≡ b = cc in ap (λ (x : block.Block). x.value) same ∙ h),
    )
    by_value (Some w) h =
        let number : 0 + v ≡ v = omega arith in
        let r = subst (λ n. TakenOut (Variable n) w (atoms_from 0 bs) (atoms_from 0 (set bs v c))) number (dies_from v 0 bs b c w e h dead) in
        record {
          front = r.front;
          back = r.back;
          cell_at = r.cell_at;
          first_cell = r.first_cell;
          front' = r.front';
          back' = r.back';
          block_at = r.block_at;
          first_block = r.first_block;
          is = known_same names _ _ _ _ (names_stay v bs b c e named) r.left;
        }

-- a block that is made last is an alloc of the next variable
pub made_is : (names : Names) (bs : List block.Block) (b : block.Block) (w : Term) → b.value ≡ Some w
    → state (put b.name.now (Variable (length bs)) names) (bs ++ b ∷ []) ≡ allocated (state names bs) b.name.now w
made_is names bs b w e =
    let long : length bs ≡ length (map (λ (x : block.Block). x.name.now) bs) = sym (length-map bs (λ (x : block.Block). x.name.now)) in
    let zeroed : 0 + length bs ≡ length bs = omega arith in
    let P : ℕ → Type 0 = λ n. made (map (λ (x : block.Block). x.name.now) (bs ++ b ∷ [])) (put b.name.now (Variable (length bs)) names) (atoms_from 0 (bs ++ b ∷ []))
    ≡ made (map (λ (x : block.Block). x.name.now) bs ++ b.name.now ∷ []) (put b.name.now (Variable n) names) (atoms_from 0 bs ++ (Points (Variable n) whole w ∷ Block (Variable n) (Literal (pos 1)) ∷ [])) in
    let atoms = made_last 0 bs b w e ∙ ap (λ n. atoms_from 0 bs ++ (Points (Variable n) whole w ∷ Block (Variable n) (Literal (pos 1)) ∷ [])) zeroed in
    subst P long (known_same (put b.name.now (Variable (length bs)) names) _ _ _ _ (map-append (λ (x : block.Block). x.name.now) bs (b ∷ [])) atoms)

-- where no atom is a points-to, none is a whole one
pub none_whole : (base : Term) (atoms : List Atom) → NoneOf (PointsTo base) atoms → NoneOf (PointsWhole base) atoms
none_whole base atoms h = λ k d within whole_one. h k d within (points_whole base _ whole_one)
  where
    points_whole : (base : Term) (a : Atom) → PointsWhole base a → PointsTo base a
    points_whole base (Points b q v) h = h.0
    points_whole base (Block b n) h = absurd h
