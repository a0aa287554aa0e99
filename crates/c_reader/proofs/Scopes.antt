-- What is bound behind statements.
use Rattle.std.proofs.Common.{◌≡◌, ◌∙◌, sym, refl, subst, ℕ, suc, ◌+◌, ◌==◌, ◌&&◌, cond, Option, Some, None, List, [], ◌∷◌, ◌++◌, arith}
use Rattle.std.specs.Str.{bytes_eq}
use Rattle.c_syntax.specs.declared.kind.CType.{CType}
use Rattle.c_syntax.specs.declared.program.CParam.{CParam}
use Rattle.c_syntax.specs.Rules.{AreNumbered, Scope, after, after_all, binders, bound_by, moved, stmts_binders, type_of}
use Rattle.c_syntax.specs.Tree as t
use Rattle.c_syntax.specs.Tree.{Name}
use Rattle.c_reader.proofs.Rewritten.{Counted, no_zero}

-- the next local has a number from 1, and those that are bound have
pub record Good (scope : Scope) : Type 0 where
  pub before : ℕ
  pub positive : scope.next ≡ suc before
  pub counted : Counted scope.bound

apart : (name other : Name) (n : ℕ) (m : ℕ) (a b : Option CType) → n ≡ suc m → b ≡ None → cond (bytes_eq name other && (0 == n)) a b ≡ None
apart name other n m a b e h = subst (λ k. cond (bytes_eq name other && (0 == k)) a b ≡ None) (sym e) (no_zero name other m a b h)

pub counted_all : (bs bound : List CParam) (n m : ℕ) → n ≡ suc m → AreNumbered n bs → Counted bound → Counted (bs ++ bound)
counted_all [] bound n m e h c = c
counted_all (b ∷ bs) bound n m e h c = λ name.
    apart name b.local.name b.local.number m (Some b.kind) (type_of (bs ++ bound) (record { name = name; number = 0 })) (h.0 ∙ e)
    (counted_all bs bound (suc n) n refl h.1 c name)

pub good_after : (scope : Scope) (u : t.Stmt) → Good scope → AreNumbered scope.next (bound_by u) → Good (after scope u)
good_after scope u g h = record {
  before = g.before + binders u;
  positive = let e = g.positive in omega arith;
  counted = counted_all (bound_by u) scope.bound scope.next g.before g.positive h g.counted;
}

pub good_moved : (scope : Scope) (k : ℕ) → Good scope → Good (moved scope k)
good_moved scope k g = record { before = g.before + k; positive = let e = g.positive in omega arith; counted = g.counted }

pub after_all_next : (scope : Scope) (ts : t.Stmts) → (after_all scope ts).next ≡ scope.next + stmts_binders ts
after_all_next scope t.end = omega arith
after_all_next scope (t.more s rest) = let e = after_all_next (after scope s) rest in omega arith
