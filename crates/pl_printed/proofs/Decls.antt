-- Declarations as they are printed, each without the end of its last line.
use Rattle.std.proofs.Common.{◌≡◌, ◌∙◌, ℕ, zero, suc, Bool, true, false, List, [], ◌∷◌, ◌++◌, map, Option, Some, None, refl, sym, ap, subst, append_assoc}
use Rattle.std.specs.Prelude.{codes}
use Rattle.std.specs.Option.{option_map}
use Rattle.pl_base.specs.declared.pos.Pos.{Pos}
use Rattle.pl_lexer.specs.declared.tokens.Kind.{Kind}
use Rattle.pl_lexer.specs.declared.tokens.Kind.TheVariants as k
use Rattle.pl_lexer.specs.Proper.{IsName}
use Rattle.pl_readers.specs.Language.{Then}
use Rattle.pl_syntax.specs.declared.expr.Class.{Class}
use Rattle.pl_syntax.specs.declared.expr.Class.TheVariants as c
use Rattle.pl_syntax.specs.declared.expr.Binder.{Binder}
use Rattle.pl_syntax.specs.declared.program.StructDecl.{StructDecl}
use Rattle.pl_syntax.specs.Tree as t
use Rattle.pl_syntax.specs.Tree.{Name, Expr, Prop, Body, Braced, PredDecl, FunDecl, Decl}
use Rattle.pl_grammar.specs.Grammar.{Sign}
use Rattle.pl_grammar.specs.PropGrammar.{BinderOf}
use Rattle.pl_grammar.specs.StatementGrammar.{Block}
use Rattle.pl_grammar.specs.FileGrammar.{PredParameters, BodyOf, Parameter, MoreParameters, Parameters, Opens, Requires, Ensures, Returns, Decreases, FunctionBehind, Arm, DeclarationOf}
use Rattle.pl_print.specs.Lists.{each_behind, commas, where_wanted}
use Rattle.pl_print.specs.ExprText.{value_text, binder_text, binders_text}
use Rattle.pl_print.specs.PropText.{whole_prop_text, body_text}
use Rattle.pl_print.specs.StmtText.{block_text}
use Rattle.pl_print.specs.ProgramText.{mark_text, param_text, is_emp, prop_clause, result_clause, measure_clause, has_clauses, gap_text, fun_text, decl_text}
use Rattle.pl_printed.specs.Bare.{nowhere, bare, bare_prop, bare_binder, bare_block, bare_body, bare_decl}
use Rattle.pl_printed.specs.Levels.{Below, FitsWhole, FitsBody, FitsMeasure, FitsDecl}
use Rattle.pl_printed.specs.Printable.{IfSome, Each, IsExpr, IsSort, IsBinder, IsProp, IsBlock, IsBody, MayHave, IsParam, IsDecl}
use Rattle.pl_printed.proofs.Laid.{kinds}
use Rattle.pl_printed.proofs.Takes.{Takes, next, sign, name, last_sign, mapped, left, right, nothing, no_texts, texts}
use Rattle.pl_printed.proofs.Members.{gap, line, mark, named, part, clause, Printed, Written, printed_by, written_by}
use Rattle.pl_printed.proofs.Exprs.{value}
use Rattle.pl_printed.proofs.Binders.{binder, binders}
use Rattle.pl_printed.proofs.Props.{PropMeans, prop, whole_prop}
use Rattle.pl_printed.proofs.Blocks.{BlockMeans, block}

abbrev pub DeclMeans : Decl → List Kind → Type 0
DeclMeans d ks = (depth : ℕ) → FitsDecl depth d → Takes (DeclarationOf depth) ks (λ y. bare_decl y ≡ bare_decl d)

-- a text that is a declaration's but for the end of its last line
pub record DeclPrinted (d : Decl) : Type 0 where
  pub text : List ℕ
  pub ended : text ++ codes "\n" ≡ decl_text d
  pub shown : Printed text (DeclMeans d)

-- ---- structures

struct_group : (a n b s l e : List ℕ) → (a ++ (n ++ (b ++ (s ++ l)))) ++ e ≡ a ++ (n ++ (b ++ (s ++ (l ++ e))))
struct_group a n b s l e = simp append_assoc refl

struct : (s : StructDecl) → IsDecl (t.Struct s) → DeclPrinted (t.Struct s)
struct s h =
    let v = binders c.Real s.fields h.1 h.2 in
    record {
      text = codes "struct " ++ (s.name ++ (codes " { " ++ (binders_text s.fields ++ codes " }")));
      ended = struct_group (codes "struct ") s.name (codes " { ") (binders_text s.fields) (codes " }") (codes "\n");
      shown = printed_by (mark 30 ∷ gap ∷ named s.name h.0 ∷ gap ∷ mark 2 ∷ gap ∷ part _ v.parts ∷ gap ∷ mark 3 ∷ []) (codes "struct " ++ (s.name ++ (codes " { " ++ (binders_text s.fields ++ codes " }")))) refl refl
          (λ depth fits. left (sign 30 (λ p0. name s.name (λ p1. sign 2 (λ p2. next v.means (λ ys f. last_sign 3 (λ p3. struct_same p1 ys s f)))))));
    }
  where
    struct_same : (p : Pos) (ys : List Binder) (s : StructDecl) → map bare_binder ys ≡ map bare_binder s.fields → bare_decl (t.Struct (record { pos = p; name = s.name; fields = ys })) ≡ bare_decl (t.Struct s)
    struct_same p ys s f = ap (λ (z : List Binder). t.Struct (record { pos = nowhere; name = s.name; fields = z })) f

-- ---- predicates

pred_parameters : (bs : List Binder) → Each (IsBinder c.Logical) bs → Printed (binders_text bs ++ codes ")") (λ ks. Takes PredParameters ks (λ ys. map bare_binder ys ≡ map bare_binder bs))
pred_parameters [] h = printed_by (mark 1 ∷ []) (codes ")") refl refl (left (last_sign 1 (λ p. refl)))
pred_parameters (b ∷ bs) h =
    let v = binders c.Logical (b ∷ bs) tt h in
    printed_by (part _ v.parts ∷ mark 1 ∷ []) (binders_text (b ∷ bs) ++ codes ")") refl refl (right (next v.means (λ ys f. last_sign 1 (λ p. f))))

abbrev ArmMeans : Prop → List Kind → Type 0
ArmMeans p ks = (depth : ℕ) → Below depth (λ d. FitsWhole d p) → Takes (Arm depth) ks (λ y. bare_prop y ≡ bare_prop p)

arm : (p : Prop) → IsProp p → Printed (codes "{ " ++ (whole_prop_text p ++ codes " }")) (ArmMeans p)
arm p h =
    let v = prop p h false in
    printed_by (mark 2 ∷ gap ∷ part _ v.parts ∷ gap ∷ mark 3 ∷ []) (codes "{ " ++ (whole_prop_text p ++ codes " }")) refl refl (λ depth fits. arm_takes depth fits v.means)
  where
    arm_takes : {ks : List Kind} (depth : ℕ) → Below depth (λ d. FitsWhole d p) → PropMeans false p ks → Takes (Arm depth) (k.Sign 2 ∷ (ks ++ k.Sign 3 ∷ [])) (λ y. bare_prop y ≡ bare_prop p)
    arm_takes zero fits m = absurd fits
    arm_takes (suc d) fits m = sign 2 (λ p0. next (m d 0 fits) (λ y f. last_sign 3 (λ p1. f.0)))

body_same : (y e : Expr) (a p b q : Prop) → bare y ≡ bare e → bare_prop a ≡ bare_prop p → bare_prop b ≡ bare_prop q → bare_body (t.Cond y a b) ≡ bare_body (t.Cond e p q)
body_same y e a p b q f g h = cc (f, g, h)

body : (b : Body) → IsBody b → Printed (body_text b) (λ ks. (depth : ℕ) → FitsBody depth b → Takes (BodyOf depth (Arm depth)) ks (λ y. bare_body y ≡ bare_body b))
body (t.Plain p) h =
    let v = whole_prop p h in
    record { parts = v.parts; means = λ depth fits. right (mapped (v.means depth fits) (λ y f. ap (λ (z : Prop). t.Plain z) f)) }
body (t.Cond e p q) h =
    let u = value e h.0 in
    let v = arm p h.1 in
    let w = arm q h.2 in
    printed_by (mark 41 ∷ gap ∷ mark 0 ∷ part _ u.parts ∷ mark 1 ∷ gap ∷ part _ v.parts ∷ gap ∷ mark 42 ∷ gap ∷ part _ w.parts ∷ []) (body_text (t.Cond e p q)) refl
    (ap (λ (z : List ℕ). codes "if (" ++ (value_text e ++ (codes ") { " ++ z))) (append_assoc (whole_prop_text p) (codes " }") (codes " else { " ++ (whole_prop_text q ++ codes " }"))))
    (λ depth fits. left (sign 41 (λ p0. sign 0 (λ p1. next (u.means depth 0 fits.0) (λ y f. sign 1 (λ p2. next (v.means depth fits.1) (λ a g. sign 42 (λ p3. mapped (w.means depth fits.2) (λ b i. body_same y e a p b q f g i)))))))))

pred_group : (a n b s l d m e : List ℕ) → a ++ (n ++ (b ++ ((s ++ l) ++ (d ++ (m ++ e))))) ≡ a ++ (n ++ (b ++ (s ++ ((l ++ d) ++ (m ++ e)))))
pred_group a n b s l d m e = simp append_assoc refl

pred_ended : (a n b s l m e f : List ℕ) → (a ++ (n ++ (b ++ (s ++ (l ++ (m ++ e)))))) ++ f ≡ a ++ (n ++ (b ++ (s ++ (l ++ (m ++ (e ++ f))))))
pred_ended a n b s l m e f = simp append_assoc refl

pred_same : (p : Pos) (d : PredDecl) (ys : List Binder) (b : Body) → map bare_binder ys ≡ map bare_binder d.params → bare_body b ≡ bare_body d.body
    → bare_decl (t.Pred (record { pos = p; name = d.name; params = ys; body = b })) ≡ bare_decl (t.Pred d)
pred_same p d ys b f g =
    ap (λ (z : List Binder). t.Pred (record { pos = nowhere; name = d.name; params = z; body = bare_body b })) f ∙ ap (λ (z : Body). t.Pred (record { pos = nowhere; name = d.name; params = map bare_binder d.params; body = z })) g

pred : (d : PredDecl) → IsDecl (t.Pred d) → DeclPrinted (t.Pred d)
pred d h =
    let v = pred_parameters d.params h.1 in
    let w = body d.body h.2 in
    record {
      text = codes "pred " ++ (d.name ++ (codes "(" ++ (binders_text d.params ++ (codes ") = " ++ (body_text d.body ++ codes ";")))));
      ended = pred_ended (codes "pred ") d.name (codes "(") (binders_text d.params) (codes ") = ") (body_text d.body) (codes ";") (codes "\n");
      shown = printed_by (mark 31 ∷ gap ∷ named d.name h.0 ∷ mark 0 ∷ part _ v.parts ∷ gap ∷ mark 11 ∷ gap ∷ part _ w.parts ∷ mark 7 ∷ [])
          (codes "pred " ++ (d.name ++ (codes "(" ++ (binders_text d.params ++ (codes ") = " ++ (body_text d.body ++ codes ";")))))) refl
          (pred_group (codes "pred ") d.name (codes "(") (binders_text d.params) (codes ")") (codes " = ") (body_text d.body) (codes ";"))
          (λ depth fits. right (left (sign 31 (λ p0. name d.name (λ p1. sign 0 (λ p2. next v.means (λ ys f. sign 11 (λ p3. next (w.means depth fits) (λ b g. last_sign 7 (λ p4. pred_same p1 d ys b f g))))))))));
    }

-- ---- parameters

param_by : (is_ghost : Bool) (class : Class) (b : Binder) → b.class ≡ class → MayHave is_ghost class → IsName b.name → IsSort b.sort
    → Printed (mark_text is_ghost class ++ binder_text b) (λ ks. Takes (Parameter is_ghost) ks (λ y. bare_binder y ≡ bare_binder b))
param_by true c.Real b is may n h = absurd may
param_by false c.Real b is may n h =
    let v = binder b n h in
    record { parts = v.parts; means = right (right (subst (λ (z : Class). Takes (BinderOf z) (kinds v.parts.pieces) (λ y. bare_binder y ≡ bare_binder b)) is v.means)) }
param_by true c.Ghost b is may n h =
    let v = binder b n h in
    record { parts = v.parts; means = right (right (subst (λ (z : Class). Takes (BinderOf z) (kinds v.parts.pieces) (λ y. bare_binder y ≡ bare_binder b)) is v.means)) }
param_by false c.Ghost b is may n h =
    let v = binder b n h in
    printed_by (mark 32 ∷ gap ∷ part _ v.parts ∷ []) (codes "ghost " ++ binder_text b) refl refl
    (left (sign 32 (λ p. subst (λ (z : Class). Takes (BinderOf z) (kinds v.parts.pieces) (λ y. bare_binder y ≡ bare_binder b)) is v.means)))
param_by is_ghost c.Logical b is may n h =
    let v = binder b n h in
    printed_by (mark 10 ∷ part _ v.parts ∷ []) (codes "#" ++ binder_text b) refl refl
    (right (left (sign 10 (λ p. subst (λ (z : Class). Takes (BinderOf z) (kinds v.parts.pieces) (λ y. bare_binder y ≡ bare_binder b)) is v.means))))

param : (is_ghost : Bool) (b : Binder) → IsParam is_ghost b → Printed (param_text is_ghost b) (λ ks. Takes (Parameter is_ghost) ks (λ y. bare_binder y ≡ bare_binder b))
param is_ghost b h = param_by is_ghost b.class b refl h.2 h.0 h.1

more_params : (is_ghost : Bool) (bs : List Binder) → Each (IsParam is_ghost) bs → Written (each_behind (codes ", ") (map (param_text is_ghost) bs)) (λ ks. Takes (MoreParameters is_ghost) ks (λ ys. map bare_binder ys ≡ map bare_binder bs))
more_params is_ghost [] h = written_by [] [] refl refl (no_texts refl)
more_params is_ghost (b ∷ bs) h =
    let v = param is_ghost b h.0 in
    let r = more_params is_ghost bs h.1 in
    written_by (mark 6 ∷ gap ∷ part _ v.parts ∷ clause _ r.parts ∷ []) (each_behind (codes ", ") (map (param_text is_ghost) (b ∷ bs))) refl refl
    (texts (sign 6 (λ p. v.means)) r.means (λ y ys a d. cc (a, d)))

params : (is_ghost : Bool) (bs : List Binder) → Each (IsParam is_ghost) bs → Printed (commas (map (param_text is_ghost) bs) ++ codes ")") (λ ks. Takes (Parameters is_ghost) ks (λ ys. map bare_binder ys ≡ map bare_binder bs))
params is_ghost [] h = printed_by (mark 1 ∷ []) (codes ")") refl refl (left (last_sign 1 (λ p. refl)))
params is_ghost (b ∷ bs) h =
    let v = param is_ghost b h.0 in
    let r = more_params is_ghost bs h.1 in
    printed_by (part _ v.parts ∷ clause _ r.parts ∷ mark 1 ∷ []) (commas (map (param_text is_ghost) (b ∷ bs)) ++ codes ")") refl
    (sym (append_assoc (param_text is_ghost b) (each_behind (codes ", ") (map (param_text is_ghost) bs)) (codes ")")))
    (right (next v.means (λ y a. next r.means (λ ys d. last_sign 1 (λ p. cc (a, d))))))

-- ---- clauses

opens : (b : Bool) → Written (where_wanted b (codes " opens")) (λ ks. Takes Opens ks (λ y. y ≡ b))
opens true = written_by (gap ∷ mark 34 ∷ []) (codes " opens") refl refl (left (last_sign 34 (λ p. refl)))
opens false = written_by [] [] refl refl (right (nothing refl))

emp_same : (p : Prop) → is_emp p ≡ true → (q : Pos) → bare_prop (t.Emp q) ≡ bare_prop p
emp_same (t.Emp at) e q = refl
emp_same (t.Pure at label e) h q = absurd cc
emp_same (t.Star a b) h q = absurd cc
emp_same (t.Exists at bs a) h q = absurd cc
emp_same (t.Points at s r e) h q = absurd cc
emp_same (t.Slice at a lo hi r) h q = absurd cc
emp_same (t.Block at a n) h q = absurd cc
emp_same (t.Alive at l r i) h q = absurd cc
emp_same (t.Held at l) h q = absurd cc
emp_same (t.Inv at e i) h q = absurd cc
emp_same (t.App i) h q = absurd cc

not_shown : (word : List ℕ) (p : Prop) → is_emp p ≡ true → [] ≡ prop_clause word p
not_shown word p e = rw e refl

is_shown : (word : List ℕ) (p : Prop) → is_emp p ≡ false → codes "\n  " ++ (word ++ whole_prop_text p) ≡ prop_clause word p
is_shown word p e = rw e refl

requires_by : (p : Prop) (b : Bool) → is_emp p ≡ b → IsProp p → Written (prop_clause (codes "requires ") p) (λ ks. (depth : ℕ) → FitsWhole depth p → (x : Pos) → Takes (Requires depth x) ks (λ y. bare_prop y ≡ bare_prop p))
requires_by p true e h = written_by [] (prop_clause (codes "requires ") p) refl (not_shown (codes "requires ") p e) (λ depth fits x. right (nothing (emp_same p e x)))
requires_by p false e h =
    let v = whole_prop p h in
    written_by (line ∷ gap ∷ gap ∷ mark 35 ∷ gap ∷ part _ v.parts ∷ []) (prop_clause (codes "requires ") p) refl (is_shown (codes "requires ") p e) (λ depth fits x. left (sign 35 (λ q. v.means depth fits)))

ensures_by : (p : Prop) (b : Bool) → is_emp p ≡ b → IsProp p → Written (prop_clause (codes "ensures ") p) (λ ks. (depth : ℕ) → FitsWhole depth p → (x : Pos) → Takes (Ensures depth x) ks (λ y. bare_prop y ≡ bare_prop p))
ensures_by p true e h = written_by [] (prop_clause (codes "ensures ") p) refl (not_shown (codes "ensures ") p e) (λ depth fits x. right (nothing (emp_same p e x)))
ensures_by p false e h =
    let v = whole_prop p h in
    written_by (line ∷ gap ∷ gap ∷ mark 37 ∷ gap ∷ part _ v.parts ∷ []) (prop_clause (codes "ensures ") p) refl (is_shown (codes "ensures ") p e) (λ depth fits x. left (sign 37 (λ q. v.means depth fits)))

result : (o : Option Binder) → IfSome (IsBinder c.Real) o → Written (result_clause o) (λ ks. Takes Returns ks (λ y. option_map bare_binder y ≡ option_map bare_binder o))
result None h = written_by [] [] refl refl (right (nothing refl))
result (Some b) h =
    let v = binder b h.0 h.1 in
    written_by (line ∷ gap ∷ gap ∷ mark 36 ∷ gap ∷ part _ v.parts ∷ []) (result_clause (Some b)) refl refl
    (left (sign 36 (λ p. mapped (subst (λ (z : Class). Takes (BinderOf z) (kinds v.parts.pieces) (λ y. bare_binder y ≡ bare_binder b)) h.2 v.means) (λ y f. ap (λ (z : Binder). let o : Option Binder = Some z in o) f))))

measure : (o : Option Expr) → IfSome IsExpr o → Written (measure_clause o) (λ ks. (depth : ℕ) → FitsMeasure depth o → Takes (Decreases depth) ks (λ y. option_map bare y ≡ option_map bare o))
measure None h = written_by [] [] refl refl (λ depth fits. right (nothing refl))
measure (Some e) h =
    let v = value e h in
    written_by (line ∷ gap ∷ gap ∷ mark 38 ∷ gap ∷ part _ v.parts ∷ []) (measure_clause (Some e)) refl refl
    (λ depth fits. left (sign 38 (λ p. mapped (v.means depth 0 fits) (λ y f. ap (λ (z : Expr). let o : Option Expr = Some z in o) f))))

block_behind : (b : Bool) (d : Braced) → IsBlock d → Written (gap_text b ++ block_text 0 d) (BlockMeans d)
block_behind true d h = let v = block d h 0 in written_by (line ∷ part _ v.parts ∷ []) (gap_text true ++ block_text 0 d) refl refl v.means
block_behind false d h = let v = block d h 0 in written_by (gap ∷ part _ v.parts ∷ []) (gap_text false ++ block_text 0 d) refl refl v.means

-- ---- functions

-- a function's text behind its mark, and without the end of its last line
abbrev fn_text : FunDecl → List ℕ
fn_text f =
    codes "fn " ++ (f.name ++ (codes "(" ++ ((commas (map (param_text f.is_ghost) f.params) ++ codes ")") ++ (where_wanted f.opens (codes " opens") ++ (prop_clause (codes "requires ") f.before ++ (result_clause f.result
    ++ (prop_clause (codes "ensures ") f.after ++ (measure_clause f.measure ++ (gap_text (has_clauses f) ++ block_text 0 f.body)))))))))

abbrev shape : Bool → Name → List Binder → Bool → Prop → Option Binder → Prop → Option Expr → Braced → Decl
shape g x ps o a r b m d = t.Fun (record { pos = nowhere; is_ghost = g; name = x; params = ps; opens = o; before = a; result = r; after = b; measure = m; body = d })

fun_same : (p : Pos) (f : FunDecl) (ps : List Binder) (o : Bool) (a : Prop) (r : Option Binder) (b : Prop) (m : Option Expr) (d : Braced)
    → map bare_binder ps ≡ map bare_binder f.params → o ≡ f.opens → bare_prop a ≡ bare_prop f.before → option_map bare_binder r ≡ option_map bare_binder f.result → bare_prop b ≡ bare_prop f.after
    → option_map bare m ≡ option_map bare f.measure → bare_block d ≡ bare_block f.body
    → bare_decl (t.Fun (record { pos = p; is_ghost = f.is_ghost; name = f.name; params = ps; opens = o; before = a; result = r; after = b; measure = m; body = d })) ≡ bare_decl (t.Fun f)
fun_same p f ps o a r b m d e1 e2 e3 e4 e5 e6 e7 =
    ap (λ (z : List Binder). shape f.is_ghost f.name z o (bare_prop a) (option_map bare_binder r) (bare_prop b) (option_map bare m) (bare_block d)) e1
    ∙ ap (λ (z : Bool). shape f.is_ghost f.name (map bare_binder f.params) z (bare_prop a) (option_map bare_binder r) (bare_prop b) (option_map bare m) (bare_block d)) e2
    ∙ ap (λ (z : Prop). shape f.is_ghost f.name (map bare_binder f.params) f.opens z (option_map bare_binder r) (bare_prop b) (option_map bare m) (bare_block d)) e3
    ∙ ap (λ (z : Option Binder). shape f.is_ghost f.name (map bare_binder f.params) f.opens (bare_prop f.before) z (bare_prop b) (option_map bare m) (bare_block d)) e4
    ∙ ap (λ (z : Prop). shape f.is_ghost f.name (map bare_binder f.params) f.opens (bare_prop f.before) (option_map bare_binder f.result) z (option_map bare m) (bare_block d)) e5
    ∙ ap (λ (z : Option Expr). shape f.is_ghost f.name (map bare_binder f.params) f.opens (bare_prop f.before) (option_map bare_binder f.result) (bare_prop f.after) z (bare_block d)) e6
    ∙ ap (λ (z : Braced). shape f.is_ghost f.name (map bare_binder f.params) f.opens (bare_prop f.before) (option_map bare_binder f.result) (bare_prop f.after) (option_map bare f.measure) z) e7

-- behind the mark of a ghost function
abbrev FnMeans : FunDecl → List Kind → Type 0
FnMeans f ks = (depth : ℕ) → FitsDecl depth (t.Fun f) → Takes (Then (Sign 33) (λ p. FunctionBehind depth (Block depth) f.is_ghost)) ks (λ y. bare_decl y ≡ bare_decl (t.Fun f))

fn : (f : FunDecl) → IsDecl (t.Fun f) → Printed (fn_text f) (FnMeans f)
fn f h =
    let ps = params f.is_ghost f.params h.1 in
    let o = opens f.opens in
    let a = requires_by f.before (is_emp f.before) refl h.2 in
    let r = result f.result h.3 in
    let b = ensures_by f.after (is_emp f.after) refl h.4 in
    let m = measure f.measure h.5 in
    let d = block_behind (has_clauses f) f.body h.6 in
    printed_by (mark 33 ∷ gap ∷ named f.name h.0 ∷ mark 0 ∷ part _ ps.parts ∷ clause _ o.parts ∷ clause _ a.parts ∷ clause _ r.parts ∷ clause _ b.parts ∷ clause _ m.parts ∷ clause _ d.parts ∷ []) (fn_text f) refl refl
    (λ depth fits. sign 33 (λ p0. name f.name (λ p. sign 0 (λ p1. next ps.means (λ y1 e1. next o.means (λ y2 e2. next (a.means depth fits.0 p) (λ y3 e3. next r.means (λ y4 e4. next (b.means depth fits.1 p) (λ y5 e5.
    next (m.means depth fits.2) (λ y6 e6. mapped (d.means depth fits.3) (λ y7 e7. fun_same p f y1 y2 y3 y4 y5 y6 y7 e1 e2 e3 e4 e5 e6 e7)))))))))))

fun_group : (w x n l p i o r s e m g b z : List ℕ) → (w ++ (x ++ (n ++ (l ++ ((p ++ i) ++ (o ++ (r ++ (s ++ (e ++ (m ++ (g ++ b))))))))))) ++ z
    ≡ (w ++ (x ++ (n ++ (l ++ (p ++ (i ++ o)))))) ++ ((r ++ (s ++ (e ++ m))) ++ (g ++ (b ++ z)))
fun_group w x n l p i o r s e m g b z = simp append_assoc refl

fun_ended : (f : FunDecl) → (where_wanted f.is_ghost (codes "ghost ") ++ fn_text f) ++ codes "\n" ≡ fun_text f
fun_ended f =
    fun_group (where_wanted f.is_ghost (codes "ghost ")) (codes "fn ") f.name (codes "(") (commas (map (param_text f.is_ghost) f.params)) (codes ")") (where_wanted f.opens (codes " opens")) (prop_clause (codes "requires ") f.before)
    (result_clause f.result) (prop_clause (codes "ensures ") f.after) (measure_clause f.measure) (gap_text (has_clauses f)) (block_text 0 f.body) (codes "\n")

ghost_or_not : (g : Bool) (f : FunDecl) → f.is_ghost ≡ g → Printed (fn_text f) (FnMeans f) → Printed (where_wanted g (codes "ghost ") ++ fn_text f) (DeclMeans (t.Fun f))
ghost_or_not true f is r =
    printed_by (mark 32 ∷ gap ∷ part _ r.parts ∷ []) (codes "ghost " ++ fn_text f) refl refl
    (λ depth fits. right (right (left (sign 32 (λ p. subst (λ (g : Bool). Takes (Then (Sign 33) (λ q. FunctionBehind depth (Block depth) g)) (kinds r.parts.pieces) (λ y. bare_decl y ≡ bare_decl (t.Fun f))) is (r.means depth fits))))))
ghost_or_not false f is r =
    record {
      parts = r.parts;
      means = λ depth fits. right (right (right (subst (λ (g : Bool). Takes (Then (Sign 33) (λ q. FunctionBehind depth (Block depth) g)) (kinds r.parts.pieces) (λ y. bare_decl y ≡ bare_decl (t.Fun f))) is (r.means depth fits))));
    }

function : (f : FunDecl) → IsDecl (t.Fun f) → DeclPrinted (t.Fun f)
function f h = record { text = where_wanted f.is_ghost (codes "ghost ") ++ fn_text f; ended = fun_ended f; shown = ghost_or_not f.is_ghost f refl (fn f h) }

pub decl : (d : Decl) → IsDecl d → DeclPrinted d
decl (t.Struct s) h = struct s h
decl (t.Pred d) h = pred d h
decl (t.Fun f) h = function f h
