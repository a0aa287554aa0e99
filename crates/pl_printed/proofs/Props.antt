-- Propositions as they are printed.
use Rattle.std.proofs.Common.{◌≡◌, ◌∙◌, ℕ, zero, suc, ◌+◌, ◌<◌, nat_lt, Bool, true, false, List, [], ◌∷◌, ◌++◌, Option, refl, sym, ap, subst, append_assoc, append-nil, arith}
use Rattle.std.specs.Prelude.{codes}
use Rattle.pl_base.specs.declared.pos.Pos.{Pos}
use Rattle.pl_lexer.specs.declared.tokens.Kind.{Kind}
use Rattle.pl_lexer.specs.declared.tokens.Kind.TheVariants as k
use Rattle.pl_lexer.specs.declared.tokens.Token.{Token}
use Rattle.pl_lexer.specs.Proper.{IsName}
use Rattle.pl_readers.specs.Language.{Language, Either}
use Rattle.pl_syntax.specs.declared.expr.Class.TheVariants as c
use Rattle.pl_syntax.specs.declared.expr.Binder.{Binder}
use Rattle.pl_syntax.specs.declared.expr.PermExpr.{PermExpr}
use Rattle.pl_syntax.specs.Tree as t
use Rattle.pl_syntax.specs.Tree.{Name, Expr, CellExpr, Instance, Prop}
use Rattle.pl_grammar.specs.Grammar.{Where}
use Rattle.pl_grammar.specs.PropGrammar.{PropPart, PermissionOrWhole, Atom, EnclosedOf, Prop as PropOf, WholeProp}
use Rattle.pl_print.specs.Lists.{in_brackets}
use Rattle.pl_print.specs.ExprText.{value_text, sum_text, cell_text, label_text, perm_text, is_all, arrow_text, instance_text, binders_text}
use Rattle.pl_print.specs.PropText.{pure_text, points_text, prop_text, whole_prop_text}
use Rattle.pl_printed.specs.Bare.{bare, bare_cell, bare_instance, bare_perm, bare_prop, nowhere}
use Rattle.pl_printed.specs.Levels.{Opened, Enclosed, closing, after_prop, FitsProp, FitsWhole}
use Rattle.pl_printed.specs.Printable.{HasOne, Each, IsExpr, IsCell, IsInstance, IsPerm, IsBinder, IsProp, IfSome}
use Rattle.pl_printed.proofs.Places.{room}
use Rattle.pl_printed.proofs.Takes.{Takes, next, sign, name, last_sign, mapped, left, right, nothing, alone, where_left}
use Rattle.pl_printed.proofs.Members.{gap, mark, named, part, clause, Printed, printed_by}
use Rattle.pl_printed.proofs.Exprs.{value, sum, instance, arguments, labelled, cell_place, base_of, base_name, place_text, cell_is, same_instance}
use Rattle.pl_printed.proofs.Binders.{perm, last_perm, all_same, BindersMean, binders}

-- ---- where a proposition may stand

-- what stands at the left of a `**`
abbrev Operand : ℕ → ℕ → Language Token PropPart
Operand zero used = Atom zero used
Operand (suc depth) used = Either (Where (nat_lt used (suc depth)) (EnclosedOf (PropOf depth) used)) (Atom (suc depth) used)

abbrev PropAt : Bool → ℕ → ℕ → Language Token PropPart
PropAt true depth used = Operand depth used
PropAt false depth used = PropOf depth used

operand_atom : {ks : List Kind} {Q : PropPart → Type 0} (depth used : ℕ) → Takes (Atom depth used) ks Q → Takes (Operand depth used) ks Q
operand_atom zero used a = a
operand_atom (suc depth) used a = right a

prop_operand : {ks : List Kind} {Q : PropPart → Type 0} (depth used : ℕ) → Takes (Operand depth used) ks Q → Takes (PropOf depth used) ks Q
unfolding PropOf
prop_operand zero used a = a
prop_operand {Q = Q} (suc depth) used a = right (alone a (λ y q. right (nothing q)))

atom_at : {ks : List Kind} {Q : PropPart → Type 0} (is_left : Bool) (depth used : ℕ) → Takes (Atom depth used) ks Q → Takes (PropAt is_left depth used) ks Q
atom_at true depth used a = operand_atom depth used a
atom_at false depth used a = prop_operand depth used (operand_atom depth used a)

-- a part for the tree, with so many levels open behind it
abbrev Part : Prop → ℕ → PropPart → Type 0
Part p used y = (bare_prop y.tree ≡ bare_prop p) × (y.used ≡ used)

abbrev pub PropMeans : Bool → Prop → List Kind → Type 0
PropMeans is_left p ks = (depth used : ℕ) → FitsProp depth used is_left p → Takes (PropAt is_left depth used) ks (Part p (after_prop is_left p used))

-- ---- atoms

emp : (b : Bool) (at : Pos) → Printed (prop_text b (t.Emp at)) (PropMeans b (t.Emp at))
emp b at = printed_by (mark 55 ∷ []) (codes "emp") refl refl (λ depth used fits. atom_at b depth used (left (last_sign 55 (λ p. (refl, refl)))))

pure_same : (label other : Option Name) (y e : Expr) → other ≡ label → bare y ≡ bare e → bare_prop (t.Pure nowhere other y) ≡ bare_prop (t.Pure nowhere label e)
pure_same label other y e same h = ap (λ (z : Option Name). t.Pure nowhere z (bare y)) same ∙ ap (λ (z : Expr). t.Pure nowhere label z) h

pure : (b : Bool) (at : Pos) (label : Option Name) (e : Expr) → IfSome IsName label → IsExpr e → Printed (pure_text label e) (PropMeans b (t.Pure at label e))
pure b at label e n h =
    let v = labelled label e n h in
    printed_by (mark 56 ∷ mark 0 ∷ part _ v.parts ∷ mark 1 ∷ []) (pure_text label e) refl (ap (λ (z : List ℕ). codes "pure(" ++ z) (append_assoc (label_text label) (value_text e) (codes ")")))
    (λ depth used fits. atom_at b depth used (right (left (sign 56 (λ p. sign 0 (λ q. next (v.means depth used fits) (λ y a. last_sign 1 (λ r. (pure_same label y.0 y.1 e a.0 a.1, refl)))))))))

block : (b : Bool) (at : Pos) (a n : Expr) → IsExpr a → IsExpr n → Printed (prop_text b (t.Block at a n)) (PropMeans b (t.Block at a n))
block b at a n ha hn =
    let v = value a ha in
    let w = value n hn in
    printed_by (mark 59 ∷ mark 0 ∷ part _ v.parts ∷ mark 6 ∷ gap ∷ part _ w.parts ∷ mark 1 ∷ []) (prop_text b (t.Block at a n)) refl refl
    (λ depth used fits. atom_at b depth used (right (right (left
    (sign 59 (λ p. sign 0 (λ q. next (v.means depth used fits.0) (λ x f. sign 6 (λ r. next (w.means depth used fits.1) (λ y g. last_sign 1 (λ s. (cc (f, g), refl))))))))))))

slice : (b : Bool) (at : Pos) (a lo hi : Expr) (q : PermExpr) → IsExpr a → IsExpr lo → IsExpr hi → IsPerm q → Printed (prop_text b (t.Slice at a lo hi q)) (PropMeans b (t.Slice at a lo hi q))
slice b at a lo hi q ha hl hh hq =
    let u = value a ha in
    let v = value lo hl in
    let w = value hi hh in
    let r = last_perm q hq in
    printed_by (mark 58 ∷ mark 0 ∷ part _ u.parts ∷ mark 6 ∷ gap ∷ part _ v.parts ∷ mark 6 ∷ gap ∷ part _ w.parts ∷ clause _ r.parts ∷ mark 1 ∷ []) (prop_text b (t.Slice at a lo hi q)) refl refl
    (λ depth used fits. atom_at b depth used (right (right (right (left
    (sign 58 (λ p. sign 0 (λ x. next (u.means depth used fits.0) (λ e1 f1. sign 6 (λ y. next (v.means depth used fits.1) (λ e2 f2. sign 6 (λ z. next (w.means depth used fits.2) (λ e3 f3. next (r.means p) (λ e4 f4.
    last_sign 1 (λ s. (cc (f1, f2, f3, f4), refl))))))))))))))))

alive : (b : Bool) (at : Pos) (l : Expr) (q : PermExpr) (i : Instance) → IsExpr l → IsPerm q → IsInstance i → Printed (prop_text b (t.Alive at l q i)) (PropMeans b (t.Alive at l q i))
alive b at l q i hl hq hi =
    let u = value l hl in
    let v = perm q hq in
    let w = instance i hi in
    printed_by (mark 60 ∷ mark 0 ∷ part _ u.parts ∷ mark 6 ∷ gap ∷ part _ v.parts ∷ mark 6 ∷ gap ∷ part _ w.parts ∷ mark 1 ∷ []) (prop_text b (t.Alive at l q i)) refl refl
    (λ depth used fits. atom_at b depth used (right (right (right (right (left
    (sign 60 (λ p. sign 0 (λ x. next (u.means depth used fits.0) (λ e1 f1. sign 6 (λ y. next v.means (λ e2 f2. sign 6 (λ z. next (w.means depth used fits.1) (λ e3 f3.
    last_sign 1 (λ s. (cc (f1, f2, f3), refl))))))))))))))))

held : (b : Bool) (at : Pos) (l : Expr) → IsExpr l → Printed (prop_text b (t.Held at l)) (PropMeans b (t.Held at l))
held b at l hl =
    let u = value l hl in
    printed_by (mark 61 ∷ mark 0 ∷ part _ u.parts ∷ mark 1 ∷ []) (prop_text b (t.Held at l)) refl refl
    (λ depth used fits. atom_at b depth used (right (right (right (right (right (left
    (sign 61 (λ p. sign 0 (λ x. next (u.means depth used fits) (λ e1 f1. last_sign 1 (λ s. (ap (λ (z : Expr). t.Held nowhere z) f1, refl)))))))))))))

inv : (b : Bool) (at : Pos) (e : Expr) (i : Instance) → IsExpr e → IsInstance i → Printed (prop_text b (t.Inv at e i)) (PropMeans b (t.Inv at e i))
inv b at e i he hi =
    let u = value e he in
    let w = instance i hi in
    printed_by (mark 62 ∷ mark 0 ∷ part _ u.parts ∷ mark 6 ∷ gap ∷ part _ w.parts ∷ mark 1 ∷ []) (prop_text b (t.Inv at e i)) refl refl
    (λ depth used fits. atom_at b depth used (right (right (right (right (right (right (left
    (sign 62 (λ p. sign 0 (λ x. next (u.means depth used fits.0) (λ e1 f1. sign 6 (λ y. next (w.means depth used fits.1) (λ e3 f3.
    last_sign 1 (λ s. (cc (f1, f3), refl))))))))))))))))

app : (b : Bool) (i : Instance) → IsInstance i → Printed (prop_text b (t.App i)) (PropMeans b (t.App i))
app b i h =
    let a = arguments i.args h.1 in
    printed_by (named i.pred h.0 ∷ mark 0 ∷ part _ a.parts ∷ []) (instance_text i) refl refl
    (λ depth used fits. atom_at b depth used (right (right (right (right (right (right (right
    (name i.pred (λ p. left (mapped {P = λ y. bare_instance y ≡ bare_instance i} (sign 0 (λ q. mapped (a.means depth used fits) (λ ys f. same_instance p i ys f))) (λ y f. (ap (λ (z : Instance). t.App z) f, refl)))))))))))))

arrow_group : (a b c : List ℕ) → a ++ (b ++ c) ≡ (a ++ b) ++ c
arrow_group a b c = sym (append_assoc a b c)

points_same : (a b : CellExpr) (p q : PermExpr) (x y : Expr) → bare_cell a ≡ bare_cell b → bare_perm p ≡ bare_perm q → bare x ≡ bare y → bare_prop (t.Points nowhere a p x) ≡ bare_prop (t.Points nowhere b q y)
points_same a b p q x y f g h = cc (f, g, h)

-- a permission in braces
braced : (q : PermExpr) → IsPerm q → Printed (codes "{" ++ (perm_text q ++ codes "}")) (λ ks. (p : Pos) → Takes (PermissionOrWhole p) ks (λ y. bare_perm y ≡ bare_perm q))
braced q h =
    let v = perm q h in
    printed_by (mark 2 ∷ part _ v.parts ∷ mark 3 ∷ []) (codes "{" ++ (perm_text q ++ codes "}")) refl refl (λ p. left (sign 2 (λ x. next v.means (λ y f. last_sign 3 (λ z. f)))))

points_by : (b : Bool) (at : Pos) (s : CellExpr) (q : PermExpr) (e : Expr) (all : Bool) → is_all q ≡ all → IsCell s → IsPerm q → IsExpr e → Printed (points_text s q e) (PropMeans b (t.Points at s q e))
points_by b at s q e true is hs hq he =
    let u = cell_place s hs in
    let w = sum e he in
    let text : base_of s ++ (place_text s ++ (codes " |-> " ++ sum_text e)) ≡ points_text s q e =
    arrow_group (base_of s) (place_text s) (codes " |-> " ++ sum_text e) ∙ ap (λ (z : List ℕ). z ++ (codes " |-> " ++ sum_text e)) (cell_is s) ∙ ap (λ (z : List ℕ). cell_text s ++ (z ++ sum_text e)) (arrow_all q is) in
    printed_by (named (base_of s) (base_name s hs) ∷ clause _ u.parts ∷ gap ∷ mark 13 ∷ gap ∷ part _ w.parts ∷ []) (points_text s q e) refl text
    (λ depth used fits. atom_at b depth used (right (right (right (right (right (right (right
    (name (base_of s) (λ p. right (next (u.means depth used fits.0 p) (λ c1 f1. sign 13 (λ x. next {P = λ y. bare_perm y ≡ bare_perm q} (right (nothing (all_same q hq is p))) (λ c2 f2. mapped (w.means depth used fits.1) (λ c3 f3. (points_same c1 s c2 q c3.tree e f1 f2 f3.0, f3.1))))))))))))))))
  where
    arrow_all : (q : PermExpr) → is_all q ≡ true → codes " |-> " ≡ arrow_text q
    arrow_all q is = rw is refl
points_by b at s q e false is hs hq he =
    let u = cell_place s hs in
    let v = braced q hq in
    let w = sum e he in
    printed_by (named (base_of s) (base_name s hs) ∷ clause _ u.parts ∷ gap ∷ mark 13 ∷ part _ v.parts ∷ gap ∷ part _ w.parts ∷ []) (points_text s q e) refl (part_text s q e is)
    (λ depth used fits. atom_at b depth used (right (right (right (right (right (right (right
    (name (base_of s) (λ p. right (next (u.means depth used fits.0 p) (λ c1 f1. sign 13 (λ x. next (v.means p) (λ c2 f2. mapped (w.means depth used fits.1) (λ c3 f3. (points_same c1 s c2 q c3.tree e f1 f2 f3.0, f3.1))))))))))))))))
  where
    arrow_part : (q : PermExpr) → is_all q ≡ false → codes " |->{" ++ (perm_text q ++ codes "} ") ≡ arrow_text q
    arrow_part q is = rw is refl

    part_text : (s : CellExpr) (q : PermExpr) (e : Expr) → is_all q ≡ false → base_of s ++ (place_text s ++ (codes " |->" ++ ((codes "{" ++ (perm_text q ++ codes "}")) ++ (codes " " ++ sum_text e)))) ≡ points_text s q e
    part_text s q e is =
        arrow_group (base_of s) (place_text s) (codes " |->{" ++ ((perm_text q ++ codes "}") ++ (codes " " ++ sum_text e))) ∙ ap (λ (z : List ℕ). z ++ (codes " |->{" ++ ((perm_text q ++ codes "}") ++ (codes " " ++ sum_text e)))) (cell_is s)
        ∙ ap (λ (z : List ℕ). cell_text s ++ (codes " |->{" ++ z)) (append_assoc (perm_text q) (codes "}") (codes " " ++ sum_text e) ∙ sym (append_assoc (perm_text q) (codes "} ") (sum_text e)))
        ∙ ap (λ (z : List ℕ). cell_text s ++ (z ++ sum_text e)) (arrow_part q is)

points : (b : Bool) (at : Pos) (s : CellExpr) (q : PermExpr) (e : Expr) → IsCell s → IsPerm q → IsExpr e → Printed (prop_text b (t.Points at s q e)) (PropMeans b (t.Points at s q e))
points b at s q e hs hq he = points_by b at s q e (is_all q) refl hs hq he

-- ---- stars and `exists`

-- what is printed, in brackets where it stands at the left
bracketed : (b : Bool) (text : List ℕ) (p : Prop) (Inner : ℕ → ℕ → Type 0) (behind : ℕ → ℕ)
    → Printed text (λ ks. (depth used : ℕ) → Inner depth used → Takes (PropOf depth used) ks (Part p (behind used)))
    → Printed (in_brackets b text) (λ ks. (depth used : ℕ) → Enclosed b depth used (λ d. Inner d used) → Takes (PropAt b depth used) ks (Part p (closing b used (behind used))))
bracketed true text p Inner behind r =
    printed_by (mark 0 ∷ part _ r.parts ∷ mark 1 ∷ []) (in_brackets true text) refl refl (λ depth used fits. enclosed depth used fits r.means)
  where
    enclosed : {ks : List Kind} (depth used : ℕ) → Opened depth used (λ d. Inner d used) → ((d u : ℕ) → Inner d u → Takes (PropOf d u) ks (Part p (behind u))) → Takes (Operand depth used) (k.Sign 0 ∷ (ks ++ k.Sign 1 ∷ [])) (Part p used)
    enclosed zero used fits m = absurd fits
    enclosed (suc d) used fits m = left (where_left (nat_lt used (suc d)) (EnclosedOf (PropOf d) used) (room used (suc d) (omega (arith, fits.0))) (sign 0 (λ x. next (m d used fits.1) (λ y h. last_sign 1 (λ z. (h.0, refl))))))
bracketed false text p Inner behind r = printed_by (part _ r.parts ∷ []) (in_brackets false text) refl (sym (append-nil text)) r.means

abbrev StarFits : Prop → Prop → ℕ → ℕ → Type 0
StarFits p q depth used = FitsProp depth used true p × Opened depth (after_prop true p used) (λ d. FitsProp d (after_prop true p used) false q)

star_takes : {kp kq : List Kind} (p q : Prop) → PropMeans true p kp → PropMeans false q kq → (depth used : ℕ) → StarFits p q depth used → Takes (PropOf depth used) (kp ++ k.Sign 14 ∷ kq) (Part (t.Star p q) (after_prop false q (after_prop true p used) + 1))
unfolding PropOf
star_takes p q mp mq zero used fits = absurd fits.1
star_takes p q mp mq (suc d) used fits =
    right (next (mp (suc d) used fits.0) (λ y f.
    let lt : y.used < suc d = omega (arith, f.1, fits.1.0) in
    let inner : FitsProp d y.used false q = subst (λ (n : ℕ). FitsProp d n false q) (sym f.1) fits.1.1 in
    left (where_left (nat_lt y.used (suc d)) _ (room y.used (suc d) lt) (sign 14 (λ x. mapped (mq d y.used inner) (λ z g.
    (cc (f.0, g.0), ap (λ (n : ℕ). n + 1) (g.1 ∙ ap (λ (n : ℕ). after_prop false q n) f.1))))))))

star : (b : Bool) (p q : Prop) → Printed (prop_text true p) (PropMeans true p) → Printed (prop_text false q) (PropMeans false q) → Printed (prop_text b (t.Star p q)) (PropMeans b (t.Star p q))
star b p q rp rq =
    bracketed b (prop_text true p ++ codes " ** " ++ prop_text false q) (t.Star p q) (StarFits p q) (λ u. after_prop false q (after_prop true p u) + 1)
    (printed_by (part _ rp.parts ∷ gap ∷ mark 14 ∷ gap ∷ part _ rq.parts ∷ []) (prop_text true p ++ codes " ** " ++ prop_text false q) refl (sym (append_assoc (prop_text true p) (codes " ** ") (prop_text false q)))
    (λ depth used fits. star_takes p q rp.means rq.means depth used fits))

abbrev ExistsFits : Prop → ℕ → ℕ → Type 0
ExistsFits p depth used = Opened depth used (λ d. FitsProp d used false p)

exists_takes : {kb kp : List Kind} (at : Pos) (bs : List Binder) (p : Prop) → BindersMean c.Logical bs kb → PropMeans false p kp → (depth used : ℕ) → ExistsFits p depth used
    → Takes (PropOf depth used) (k.Sign 57 ∷ (kb ++ k.Sign 9 ∷ kp)) (Part (t.Exists at bs p) (after_prop false p used + 1))
unfolding PropOf
exists_takes at bs p mb mp zero used fits = absurd fits
exists_takes at bs p mb mp (suc d) used fits =
    left (where_left (nat_lt used (suc d)) _ (room used (suc d) (omega (arith, fits.0))) (sign 57 (λ x. next mb (λ ys f. sign 9 (λ y. mapped (mp d used fits.1) (λ z g.
    (cc (f, g.0), ap (λ (n : ℕ). n + 1) g.1)))))))

exists : (b : Bool) (at : Pos) (bs : List Binder) (p : Prop) → HasOne bs → Each (IsBinder c.Logical) bs → Printed (prop_text false p) (PropMeans false p) → Printed (prop_text b (t.Exists at bs p)) (PropMeans b (t.Exists at bs p))
exists b at bs p some hb rp =
    let rb = binders c.Logical bs some hb in
    bracketed b (codes "exists " ++ binders_text bs ++ codes " . " ++ prop_text false p) (t.Exists at bs p) (ExistsFits p) (λ u. after_prop false p u + 1)
    (printed_by (mark 57 ∷ gap ∷ part _ rb.parts ∷ gap ∷ mark 9 ∷ gap ∷ part _ rp.parts ∷ []) (codes "exists " ++ binders_text bs ++ codes " . " ++ prop_text false p) refl
    (ap (λ (z : List ℕ). codes "exists " ++ z) (sym (append_assoc (binders_text bs) (codes " . ") (prop_text false p))))
    (λ depth used fits. exists_takes at bs p rb.means rp.means depth used fits))

-- ---- all propositions

pub prop : (p : Prop) → IsProp p → (b : Bool) → Printed (prop_text b p) (PropMeans b p)
prop (t.Emp at) h b = emp b at
prop (t.Pure at label e) h b = pure b at label e h.0 h.1
prop (t.Star p q) h b = star b p q (prop p h.0 true) (prop q h.1 false)
prop (t.Exists at bs p) h b = exists b at bs p h.0 h.1 (prop p h.2 false)
prop (t.Points at s q e) h b = points b at s q e h.0 h.1 h.2
prop (t.Slice at a lo hi q) h b = slice b at a lo hi q h.0 h.1 h.2 h.3
prop (t.Block at a n) h b = block b at a n h.0 h.1
prop (t.Alive at l q i) h b = alive b at l q i h.0 h.1 h.2
prop (t.Held at l) h b = held b at l h
prop (t.Inv at e i) h b = inv b at e i h.0 h.1
prop (t.App i) h b = app b i h

-- a proposition that stands alone
abbrev pub WholeMeans : Prop → List Kind → Type 0
WholeMeans p ks = (depth : ℕ) → FitsWhole depth p → Takes (WholeProp depth 0) ks (λ y. bare_prop y ≡ bare_prop p)

pub whole_prop : (p : Prop) → IsProp p → Printed (whole_prop_text p) (WholeMeans p)
whole_prop p h = let r = prop p h false in record { parts = r.parts; means = λ depth fits. mapped (r.means depth 0 fits) (λ y f. f.0) }
