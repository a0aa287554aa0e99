-- The C program of a straight program is one of the fragment.
use Rattle.std.proofs.Common.{◌≡◌, ℕ, suc, ◌==◌, ◌&&◌, max, pos, negsuc, Bool, true, false, if◌then◌else◌, Option, Some, None, List, [], ◌∷◌, refl, sym, ap, ◌∙◌, subst, codes, arith, rules}
use Rattle.std.specs.Prelude.{option_and_then}
use Rattle.std.specs.List.{IsDistinct}
use Rattle.std.specs.Str.{bytes_eq}
use Rattle.c_syntax.specs.declared.kind.CType.{CType}
use Rattle.c_syntax.specs.declared.kind.CType.TheVariants as kind
use Rattle.c_syntax.specs.declared.program.CParam.{CParam}
use Rattle.c_syntax.specs.Tree as c
use Rattle.c_syntax.specs.Plain.{chain}
use Rattle.c_syntax.specs.Forms.{IsExprForm, AreStmtForms, stmts_depth, IsFunForm}
use Rattle.c_syntax.specs.Rules as r
use Rattle.c_syntax.specs.Rules.{typed, is_same, type_of, HasType, BodyFits, FunFits, KeepsRules, element, function_of, HasMain}
use Rattle.c_syntax.specs.Fragment.{IsFragment}
use Rattle.pl_syntax.specs.declared.expr.Sort.{Sort}
use Rattle.pl_syntax.specs.declared.expr.Sort.TheVariants.{I64, RefI64}
use Rattle.pl_syntax.specs.Tree.{Name, Expr, Int, Var, Whole, At, Field, Stmt, Load, Alloc, Free, Print, FunDecl, Program, list_of}
use Rattle.pl_syntax.specs.Straight.{Scope, sort_of, IsInteger, AreSorted, IsMain, IsStraight}
use Rattle.pl_erase.specs.Emitted.{Numbers, no_numbers, number, local, local_of, emitted_expr, emitted_all, emitted_fun, emitted, emitted_decls}

-- ---- forms

pub expr_form : (scope : Scope) (numbers : Numbers) (e : Expr) → IsInteger scope e → IsExprForm (emitted_expr numbers e)
expr_form scope numbers (Int place (pos n)) h = record { literals = h; depth = omega arith }
expr_form scope numbers (Int place (negsuc n)) h = record { literals = h; depth = omega arith }
expr_form scope numbers (Var place x) h = record { literals = tt; depth = omega arith }
expr_form scope numbers _ h = absurd h

pub forms : (scope : Scope) (n : ℕ) (numbers : Numbers) (list : List Stmt) → AreSorted scope list → AreStmtForms (chain (emitted_all n numbers list))
forms scope n numbers [] h = tt
forms scope n numbers (Load place x (Whole base) is_ghost ∷ rest) h = (tt, forms _ (suc n) (number x n numbers) rest h.2)
forms scope n numbers (Load place x (At base index) is_ghost ∷ rest) h = absurd h.1
forms scope n numbers (Load place x (Field base field) is_ghost ∷ rest) h = absurd h.1
forms scope n numbers (Alloc place x e ∷ rest) h = ((tt, expr_form scope numbers e h.0), forms _ (suc n) (number x n numbers) rest h.1)
forms scope n numbers (Free place x ∷ rest) h = (tt, forms scope n numbers rest h.1)
forms scope n numbers (Print place e ∷ rest) h = (expr_form scope numbers e h.0, forms scope n numbers rest h.1)
forms scope n numbers (_ ∷ rest) h = absurd h

-- no row has a block
pub flat : (n : ℕ) (numbers : Numbers) (list : List Stmt) → stmts_depth (chain (emitted_all n numbers list)) ≡ 0
flat n numbers [] = refl
flat n numbers (Load place x (Whole base) is_ghost ∷ rest) = ap (max 0) (flat (suc n) (number x n numbers) rest)
flat n numbers (Alloc place x e ∷ rest) = ap (max 0) (flat (suc n) (number x n numbers) rest)
flat n numbers (Free place x ∷ rest) = ap (max 0) (flat n numbers rest)
flat n numbers (Print place e ∷ rest) = ap (max 0) (flat n numbers rest)
flat n numbers (_ ∷ rest) = flat n numbers rest

pub fun_form : (f : FunDecl) → IsMain f → IsFunForm (emitted_fun f)
fun_form f m =
    let none : stmts_depth (chain (emitted_all 1 no_numbers (list_of f.body))) ≡ 0 = flat 1 no_numbers (list_of f.body) in
    record { body = forms [] 1 no_numbers (list_of f.body) m.statements; depth = omega arith }

-- ---- rules

abbrev pub c_type : Sort → CType
c_type I64 = kind.I64
c_type RefI64 = kind.PtrI64
c_type _ = kind.Void

-- the names in scope are locals of their types
pub record Bound (scope : Scope) (numbers : Numbers) (bound : List CParam) : Type 0 where
  pub at : (y : Name) (k : Sort) → sort_of y scope ≡ Some k → type_of bound (local_of numbers y) ≡ Some (c_type k)

same_number : (n : ℕ) → (n == n) ≡ true
same_number n = search rules

-- the newest binder of one of two names
newest : (b : Bool) (y x : Name) (n m : ℕ) (k k' : Sort) (bound : List CParam) (o : Option Sort) → bytes_eq y x ≡ b
    → (o ≡ Some k' → type_of bound (local y m) ≡ Some (c_type k')) → (if b then Some k else o) ≡ Some k'
    → type_of (typed (c_type k) (local x n) ∷ bound) (local y (if b then n else m)) ≡ Some (c_type k')
newest true y x n m k k' bound o e old h =
    let same : is_same (local y n) (local x n) ≡ true = ap (λ t. t && (n == n)) e ∙ same_number n in
    let sort : k ≡ k' = cc in
    ap (λ t. if t then Some (c_type k) else type_of bound (local y n)) same ∙ ap (λ s. Some (c_type s)) sort
newest false y x n m k k' bound o e old h =
    let apart : is_same (local y m) (local x n) ≡ false = ap (λ t. t && (m == n)) e in
    ap (λ t. if t then Some (c_type k) else type_of bound (local y m)) apart ∙ old h

pub bound_more : (scope : Scope) (numbers : Numbers) (bound : List CParam) (x : Name) (n : ℕ) (k : Sort) → Bound scope numbers bound → Bound ((x, k) ∷ scope) (number x n numbers) (typed (c_type k) (local x n) ∷ bound)
bound_more scope numbers bound x n k b = record { at = λ y k' h. newest (bytes_eq y x) y x n (numbers y) k k' bound (sort_of y scope) refl (b.at y k') h }

pub has_type : (scope : Scope) (numbers : Numbers) (bound : List CParam) (e : Expr) → Bound scope numbers bound → IsInteger scope e → HasType bound (emitted_expr numbers e) kind.I64
has_type scope numbers bound (Int place n) b h = refl
has_type scope numbers bound (Var place x) b h = b.at x I64 h
has_type scope numbers bound _ b h = absurd h

pub fits : (p : c.Program) (scope : Scope) (n : ℕ) (numbers : Numbers) (list : List Stmt) (s : r.Scope) → s.next ≡ n → Bound scope numbers s.bound → AreSorted scope list → BodyFits p kind.Void s (chain (emitted_all n numbers list))
fits p scope n numbers [] s e b h = refl
fits p scope n numbers (Load place x (Whole base) is_ghost ∷ rest) s e b h = (
  (sym e, tt),
  ap (option_and_then element) (b.at base RefI64 h.1),
  fits p ((x, I64) ∷ scope) (suc n) (number x n numbers) rest (r.after s (c.Load kind.I64 (local x n) (c.Whole (local_of numbers base)))) (omega arith) (bound_more scope numbers s.bound x n I64 b) h.2,
)
fits p scope n numbers (Load place x (At base index) is_ghost ∷ rest) s e b h = absurd h.1
fits p scope n numbers (Load place x (Field base field) is_ghost ∷ rest) s e b h = absurd h.1
fits p scope n numbers (Alloc place x v ∷ rest) s e b h = (
  (sym e, tt),
  (kind.I64, refl, has_type scope numbers s.bound v b h.0),
  fits p ((x, RefI64) ∷ scope) (suc n) (number x n numbers) rest (r.after s (c.New kind.PtrI64 (local x n) (emitted_expr numbers v))) (omega arith) (bound_more scope numbers s.bound x n RefI64 b) h.1,
)
fits p scope n numbers (Free place x ∷ rest) s e b h =
    (tt, (kind.PtrI64, b.at x RefI64 h.0, tt), fits p scope n numbers rest (r.after s (c.Free (local_of numbers x))) (omega arith) b h.1)
fits p scope n numbers (Print place v ∷ rest) s e b h =
    (tt, has_type scope numbers s.bound v b h.0, fits p scope n numbers rest (r.after s (c.Print (emitted_expr numbers v))) (omega arith) b h.1)
fits p scope n numbers (_ ∷ rest) s e b h = absurd h

pub fun_fits : (p : c.Program) (f : FunDecl) → IsMain f → FunFits p (emitted_fun f)
unfolding IsDistinct
fun_fits p f m = record {
  names = tt;
  numbers = tt;
  types = tt;
  body = fits p [] 1 no_numbers (list_of f.body) (record { bound = []; next = 1 }) refl (record { at = λ y k h. cc }) m.statements;
}

-- ---- programs

abbrev alone : c.Fun → c.Program
alone g = record { structs = []; funs = g ∷ [] }

pub main_fragment : (f : FunDecl) → IsMain f → IsFragment (alone (emitted_fun f))
unfolding IsDistinct
main_fragment f m = record {
  forms = record { structs = tt; funs = (fun_form f m, tt) };
  rules = record {
    names = (tt, tt);
    structs = tt;
    funs = (fun_fits (alone (emitted_fun f)) f m, tt);
    main = (emitted_fun f, ap (λ name. if bytes_eq (codes "main") name then Some (emitted_fun f) else None) m.name, refl, refl);
  };
}

-- the C program of a straight program is one of the fragment
pub fragment : (p : Program) → IsStraight p → IsFragment (emitted p)
fragment p t = subst (λ funs. IsFragment (record { structs = []; funs = funs })) (sym (ap emitted_decls t.1)) (main_fragment t.0 t.2)
