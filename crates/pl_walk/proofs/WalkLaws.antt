-- The walk is in the rules, and it is determined by the function.
use Rattle.std.proofs.Common.{◌≡◌, pos, Some, List, [], ◌∷◌, ◌++◌, refl, sym, ap, ap₂, ◌∙◌, subst, inl, inr}
use Rattle.std.proofs.lemmas.List.Elements.{All-head, All-tail}
use Rattle.pl_base.specs.declared.pos.Pos.{Pos}
use Rattle.pl_base.specs.Permission.{whole}
use Rattle.pl_syntax.specs.Places.{pos_of}
use Rattle.pl_syntax.specs.Tree.{Name, Expr, Whole, Stmt, Load, Alloc, Free, Print, FunDecl, list_of}
use Rattle.pl_terms.specs.declared.term.Term.{Term}
use Rattle.pl_terms.specs.declared.term.Term.TheVariants.{Literal}
use Rattle.pl_walk.specs.declared.walk.Duty.{Duty}
use Rattle.pl_walk.specs.declared.walk.Duty.TheVariants.{Leftover}
use Rattle.pl_terms.specs.Terms.{Atom, Points, Block}
use Rattle.pl_terms.specs.Table.{Known, start, put, term_of, allocated, AllocRule, Rule}
use Rattle.pl_deriv.specs.Derivations.{Rules, Derives}
use Rattle.pl_walk.specs.Walk.{PointsTo, PointsWhole, BlockOf, NoneOf, WalksLoad, WalksFree, WalksOver, Walks, atoms_text, LoadRefused, FreeRefused, BlockRefused, Refuses, Stops, Undone, AllDone}

-- a statement whose duties are done keeps its rule
pub over_rule : (s : Known) (st : Stmt) (t : Known) → WalksOver s st t → Rule s st t
over_rule s (Load place x (Whole c) is_ghost) t w = w.rule
over_rule s (Alloc place x e) t w = w
over_rule s (Free place x) t w = w.rule
over_rule s (Print place e) t w = w
over_rule s _ t w = absurd w

-- so do statements one after another
pub walks_rules : (s : Known) (list : List Stmt) (t : Known) → Walks s list t → Rules s list t
walks_rules s [] t w = w
walks_rules s (st ∷ rest) t w = (w.0, over_rule s st w.0 w.1, walks_rules w.0 rest t w.2)

-- a function of which no duty is left undone derives
pub all_done_derives : (f : FunDecl) → AllDone f → Derives f
all_done_derives f d = record { end = d.end; rules = walks_rules start (list_of f.body) d.end d.walks; none_left = d.none_left }

-- where no atom of a list does, none of it is one that does
pub none_here : (P : Atom → Type 0) (front back : List Atom) (a : Atom) → NoneOf P (front ++ a ∷ back) → P a → ⊥
none_here P [] back a n h = All-head (λ b. P b → ⊥) a back n h
none_here P (b ∷ front) back a n h = none_here P front back a (All-tail (λ c. P c → ⊥) b (front ++ a ∷ back) n) h

-- the first atom that does, and what stands before and behind it
pub first_same : (P : Atom → Type 0) (front front' back back' : List Atom) (a a' : Atom) → P a → P a' → NoneOf P front → NoneOf P front' → front ++ a ∷ back ≡ front' ++ a' ∷ back' →
    (front ≡ front') × (a ≡ a') × (back ≡ back')
first_same P [] [] back back' a a' h h' n n' e = (refl, cc, cc)
first_same P [] (b ∷ front') back back' a a' h h' n n' e = let k : a ≡ b = cc in absurd (All-head (λ c. P c → ⊥) b front' n' (subst P k h))
first_same P (b ∷ front) [] back back' a a' h h' n n' e = let k : a' ≡ b = cc in absurd (All-head (λ c. P c → ⊥) b front n (subst P k h'))
first_same P (b ∷ front) (c ∷ front') back back' a a' h h' n n' e =
    let k : b ≡ c = cc in
    let r = first_same P front front' back back' a a' h h' (All-tail (λ d. P d → ⊥) b front n) (All-tail (λ d. P d → ⊥) c front' n') (cc) in
    (ap₂ (λ x xs. x ∷ xs) k r.0, r.1, r.2)

-- a name stands for one term
pub term_same : (s : Known) (x : Name) (a b : Term) → s.names x ≡ Some a → s.names x ≡ Some b → a ≡ b
term_same s x a b h k = let e : Some a ≡ Some b = sym h ∙ k in cc

-- an expression has one term
pub value_same : (s : Known) (e : Expr) (a b : Term) → term_of s.names e ≡ Some a → term_of s.names e ≡ Some b → a ≡ b
value_same s e a b h k = let q : Some a ≡ Some b = sym h ∙ k in cc

-- an alloc leads to one
pub alloc_same : (s : Known) (x : Name) (e : Expr) (t u : Known) → AllocRule s x e t → AllocRule s x e u → t ≡ u
alloc_same s x e t u r q = r.is ∙ ap (allocated s x) (value_same s e r.value q.value r.value_is q.value_is) ∙ sym q.is

-- a load leads to one
pub load_same : (s : Known) (x c : Name) (t u : Known) → WalksLoad s x c t → WalksLoad s x c u → t ≡ u
load_same s x c t u v w =
    let r = v.rule in
    let q = w.rule in
    let base : q.base ≡ r.base = term_same s c q.base r.base q.base_is r.base_is in
    let first : NoneOf (PointsTo r.base) q.front = subst (λ b. NoneOf (PointsTo b) q.front) base w.first in
    let same = first_same (PointsTo r.base) r.front q.front r.back q.back (Points r.base r.permission r.value) (Points q.base q.permission q.value) refl base v.first first (sym r.at ∙ q.at) in
    let value : r.value ≡ q.value = let e = same.1 in cc in
    r.is ∙ ap (λ a. record s { names = put x a s.names }) value ∙ sym q.is

-- a free leads to one
pub free_same : (s : Known) (x : Name) (t u : Known) → WalksFree s x t → WalksFree s x u → t ≡ u
free_same s x t u v w =
    let r = v.rule in
    let q = w.rule in
    let base : q.base ≡ r.base = term_same s x q.base r.base q.base_is r.base_is in
    let first : NoneOf (PointsWhole r.base) q.front = subst (λ b. NoneOf (PointsWhole b) q.front) base w.first_cell in
    let cell = first_same (PointsWhole r.base) r.front q.front r.back q.back (Points r.base whole r.value) (Points q.base whole q.value) (refl, refl) (base, refl) v.first_cell first (sym r.cell_at ∙ q.cell_at) in
    let rests : r.front ++ r.back ≡ q.front ++ q.back = ap₂ (λ a b. a ++ b) cell.0 cell.2 in
    let first' : NoneOf (BlockOf r.base) q.front' = subst (λ b. NoneOf (BlockOf b) q.front') base w.first_block in
    let block = first_same (BlockOf r.base) r.front' q.front' r.back' q.back' (Block r.base (Literal (pos 1))) (Block q.base (Literal (pos 1))) refl base v.first_block first' (sym r.block_at ∙ rests ∙ q.block_at) in
    r.is ∙ ap₂ (λ a b. record s { atoms = a ++ b }) block.0 block.2 ∙ sym q.is

-- a statement whose duties are done leads to one
pub over_same : (s : Known) (st : Stmt) (t u : Known) → WalksOver s st t → WalksOver s st u → t ≡ u
over_same s (Load place x (Whole c) is_ghost) t u v w = load_same s x c t u v w
over_same s (Alloc place x e) t u v w = alloc_same s x e t u v w
over_same s (Free place x) t u v w = free_same s x t u v w
over_same s (Print place e) t u v w = v.is ∙ sym w.is
over_same s _ t u v w = absurd v

-- statements one after another lead to one
pub walks_same : (s : Known) (list : List Stmt) (t u : Known) → Walks s list t → Walks s list u → t ≡ u
walks_same s [] t u v w = v ∙ sym w
walks_same s (st ∷ rest) t u v w =
    let e : w.0 ≡ v.0 = over_same s st w.0 v.0 w.1 v.1 in
    walks_same v.0 rest t u v.2 (subst (λ k. Walks k rest u) e w.2)

-- a load that is refused doesn't go well
pub load_not_both : (s : Known) (x c : Name) (t : Known) (duty : Duty) → WalksLoad s x c t → LoadRefused s c duty → ⊥
load_not_both s x c t duty w q =
    let r = w.rule in
    let base : r.base ≡ q.base = term_same s c r.base q.base r.base_is q.base_is in
    none_here (PointsTo q.base) r.front r.back (Points r.base r.permission r.value) (subst (NoneOf (PointsTo q.base)) r.at q.none) base

-- a free that is refused for its cell doesn't go well
pub free_not_both : (s : Known) (x : Name) (t : Known) (duty : Duty) → WalksFree s x t → FreeRefused s x duty → ⊥
free_not_both s x t duty w q =
    let r = w.rule in
    let base : r.base ≡ q.base = term_same s x r.base q.base r.base_is q.base_is in
    none_here (PointsWhole q.base) r.front r.back (Points r.base whole r.value) (subst (NoneOf (PointsWhole q.base)) r.cell_at q.none) (base, refl)

-- a free that is refused for its block doesn't go well
pub block_not_both : (s : Known) (x : Name) (t : Known) (duty : Duty) → WalksFree s x t → BlockRefused s x duty → ⊥
block_not_both s x t duty w q =
    let r = w.rule in
    let base : r.base ≡ q.base = term_same s x r.base q.base r.base_is q.base_is in
    let first : NoneOf (PointsWhole q.base) r.front = subst (λ b. NoneOf (PointsWhole b) r.front) base w.first_cell in
    let cell = first_same (PointsWhole q.base) r.front q.front r.back q.back (Points r.base whole r.value) (Points q.base whole q.value) (base, refl) (refl, refl) first q.first (sym r.cell_at ∙ q.cell_at) in
    let rests : q.front ++ q.back ≡ r.front' ++ Block r.base (Literal (pos 1)) ∷ r.back' = sym (ap₂ (λ a b. a ++ b) cell.0 cell.2) ∙ r.block_at in
    none_here (BlockOf q.base) r.front' r.back' (Block r.base (Literal (pos 1))) (subst (NoneOf (BlockOf q.base)) rests q.none) base

-- a statement that is refused doesn't go well
pub over_not_both : (s : Known) (st : Stmt) (t : Known) (duty : Duty) → WalksOver s st t → Refuses s st duty → ⊥
over_not_both s (Load place x (Whole c) is_ghost) t duty w q = load_not_both s x c t duty w q
over_not_both s (Free place x) t duty w q = elim q [ inl k ↦ free_not_both s x t duty w k | inr k ↦ block_not_both s x t duty w k ]
over_not_both s _ t duty w q = q

-- a free isn't refused for its cell and for its block
pub free_not_block : (s : Known) (x : Name) (d e : Duty) → FreeRefused s x d → BlockRefused s x e → ⊥
free_not_block s x d e h q =
    let base : q.base ≡ h.base = term_same s x q.base h.base q.base_is h.base_is in
    none_here (PointsWhole h.base) q.front q.back (Points q.base whole q.value) (subst (NoneOf (PointsWhole h.base)) q.cell_at h.none) (base, refl)

-- a refused statement leaves one duty undone
pub refuses_same : (s : Known) (st : Stmt) (d e : Duty) → Refuses s st d → Refuses s st e → d ≡ e
refuses_same s (Load place x (Whole c) is_ghost) d e h k = h.text ∙ sym k.text
refuses_same s (Free place x) d e (inl h) (inl k) = h.text ∙ sym k.text
refuses_same s (Free place x) d e (inl h) (inr k) = absurd (free_not_block s x d e h k)
refuses_same s (Free place x) d e (inr h) (inl k) = absurd (free_not_block s x e d k h)
refuses_same s (Free place x) d e (inr h) (inr k) = h.text ∙ sym k.text
refuses_same s _ d e h k = absurd h

-- statements that stop don't go well to their end
pub stops_not_walks : (s : Known) (before : List Stmt) (st : Stmt) (after : List Stmt) (k t : Known) (duty : Duty) → Walks s before k → Refuses k st duty → Walks s (before ++ st ∷ after) t → ⊥
stops_not_walks s [] st after k t duty w r v = over_not_both s st v.0 duty v.1 (subst (λ u. Refuses u st duty) w r)
stops_not_walks s (b ∷ before) st after k t duty w r v =
    let e : v.0 ≡ w.0 = over_same s b v.0 w.0 v.1 w.1 in
    stops_not_walks w.0 before st after k t duty w.2 r (subst (λ u. Walks u (before ++ st ∷ after) t) e v.2)

-- statements stop at one, with one duty
pub stops_same : (s : Known) (before before' : List Stmt) (st st' : Stmt) (after after' : List Stmt) (k k' : Known) (d e : Duty) → Walks s before k → Walks s before' k' → Refuses k st d → Refuses k' st' e →
    before ++ st ∷ after ≡ before' ++ st' ∷ after' → (st ≡ st') × (d ≡ e)
stops_same s [] [] st st' after after' k k' d e w v r q h =
    let same : st ≡ st' = cc in
    let r' : Refuses s st' d = subst (λ a. Refuses s a d) same (subst (λ u. Refuses u st d) w r) in
    (same, refuses_same s st' d e r' (subst (λ u. Refuses u st' e) v q))
stops_same s [] (b ∷ before') st st' after after' k k' d e w v r q h =
    let same : st ≡ b = cc in
    absurd (over_not_both s b v.0 d v.1 (subst (λ a. Refuses s a d) same (subst (λ u. Refuses u st d) w r)))
stops_same s (b ∷ before) [] st st' after after' k k' d e w v r q h =
    let same : st' ≡ b = cc in
    absurd (over_not_both s b w.0 e w.1 (subst (λ a. Refuses s a e) same (subst (λ u. Refuses u st' e) v q)))
stops_same s (b ∷ before) (c ∷ before') st st' after after' k k' d e w v r q h =
    let same : c ≡ b = cc in
    let over : WalksOver s b v.0 = subst (λ a. WalksOver s a v.0) same v.1 in
    let next : v.0 ≡ w.0 = over_same s b v.0 w.0 over w.1 in
    stops_same w.0 before before' st st' after after' k k' d e w.2 (subst (λ u. Walks u before' k') next v.2) r q (cc)

-- a function that stops has no walk to its end
pub stops_no_end : (f : FunDecl) (place : Pos) (duty : Duty) (end : Known) → Stops (list_of f.body) place duty → Walks start (list_of f.body) end → ⊥
stops_no_end f place duty end h w = stops_not_walks start h.before h.stmt h.after h.known end duty h.walks h.refuses (subst (λ l. Walks start l end) h.split w)

-- a duty isn't left undone where none is
pub not_both : (f : FunDecl) (place : Pos) (duty : Duty) → AllDone f → Undone f place duty → ⊥
not_both f place duty d (inl h) = stops_no_end f place duty d.end h d.walks
not_both f place duty d (inr h) = h.some_left (ap (λ (k : Known). k.atoms) (walks_same start (list_of f.body) h.end d.end h.walks d.walks) ∙ d.none_left)

-- what is left over has one text
pub leftover_same : (s t : Known) (d e : Duty) → s ≡ t → d ≡ Leftover (atoms_text s.origins s.atoms) → e ≡ Leftover (atoms_text t.origins t.atoms) → d ≡ e
leftover_same s t d e h p q = p ∙ ap (λ (k : Known). Leftover (atoms_text k.origins k.atoms)) h ∙ sym q

-- the first duty that is left undone is one, at one place
pub undone_once : (f : FunDecl) (p q : Pos) (d e : Duty) → Undone f p d → Undone f q e → (p ≡ q) × (d ≡ e)
undone_once f p q d e (inl h) (inl k) =
    let r = stops_same start h.before k.before h.stmt k.stmt h.after k.after h.known k.known d e h.walks k.walks h.refuses k.refuses (sym h.split ∙ k.split) in
    (h.place ∙ ap pos_of r.0 ∙ sym k.place, r.1)
undone_once f p q d e (inl h) (inr k) = absurd (stops_no_end f p d k.end h k.walks)
undone_once f p q d e (inr h) (inl k) = absurd (stops_no_end f q e h.end k h.walks)
undone_once f p q d e (inr h) (inr k) = (h.place ∙ sym k.place, leftover_same h.end k.end d e (walks_same start (list_of f.body) h.end k.end h.walks k.walks) h.text k.text)
