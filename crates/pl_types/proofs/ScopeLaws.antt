-- Laws of the names in scope.
use Rattle.std.proofs.Common.{◌≡◌, ◌∙◌, sym, ap, refl, ◌+◌, ◌-◌, ◌≤◌, Bool, true, false, Option, Some, None, List, [], ◌∷◌, ◌++◌, length, drop, arith}
use Rattle.std.proofs.Math.Seq.{drop-append_seam}
use Rattle.std.proofs.lemmas.List.{append_assoc, length-append}
use Rattle.pl_syntax.specs.declared.expr.Binder.{Binder}
use Rattle.pl_syntax.specs.declared.expr.Class.{Class}
use Rattle.pl_syntax.specs.declared.expr.Sort.{Sort}
use Rattle.pl_syntax.specs.Tree as t
use Rattle.pl_syntax.specs.Tree.{Name, CellExpr, Stmt, Stmts, Braced}
use Rattle.pl_syntax.specs.declared.rules.Role.{Role}
use Rattle.pl_syntax.specs.declared.rules.Role.TheVariants.{Bound}
use Rattle.pl_syntax.specs.Scopes.{Scope, bind, read_as}
use Rattle.pl_syntax.specs.Known.{Known}
use Rattle.pl_syntax.specs.PropRules.{bind_all, class_in}
use Rattle.pl_syntax.specs.StmtRules.{bind_result, bind_load, bound_by, behind, behind_all, behind_block}

-- the names that were in scope are so still, behind the new ones
abbrev pub Grows : Scope → Scope → Type 0
Grows old new = (extra : Scope) × (new ≡ extra ++ old)

grows_on : (a b c : Scope) → Grows a b → Grows b c → Grows a c
grows_on a b c g h = (h.0 ++ g.0, h.1 ∙ ap (λ s. h.0 ++ s) g.1 ∙ sym (append_assoc h.0 g.0 a))

grows_same : (a : Scope) → Grows a a
grows_same a = ([], refl)

pub bind_all_grows : (r : Role) (bs : List Binder) (scope : Scope) → Grows scope (bind_all r bs scope)
bind_all_grows r [] scope = grows_same scope
bind_all_grows r (b ∷ bs) scope =
    let next = bind b.name (class_in r b.class) (Some (read_as b.sort)) scope in
    grows_on scope next (bind_all r bs next) (record { name = b.name; class = class_in r b.class; sort = Some (read_as b.sort) } ∷ [], refl) (bind_all_grows r bs next)

one_more : (x : Name) (c : Class) (s : Option Sort) (scope : Scope) → Grows scope (bind x c s scope)
one_more x c s scope = (record { name = x; class = c; sort = s } ∷ [], refl)

result_grows : (x : Option Name) (s : Option Sort) (scope : Scope) → Grows scope (bind_result x s scope)
result_grows None s scope = grows_same scope
result_grows (Some x) s scope = one_more x _ s scope

load_grows : (known : Known) (g : Bool) (x : Name) (c : CellExpr) (scope : Scope) → Grows scope (bind_load known g x c scope)
load_grows known true x c scope = one_more x _ _ scope
load_grows known false x c scope = one_more x _ _ scope

bound_grows : (known : Known) (s : Stmt) (scope : Scope) → Grows scope (bound_by known s scope)
bound_grows known (t.Let p x e) scope = one_more x _ _ scope
bound_grows known (t.Load p x c g) scope = load_grows known g x c scope
bound_grows known (t.Alloc p x e) scope = one_more x _ _ scope
bound_grows known (t.AllocArray p x e n) scope = one_more x _ _ scope
bound_grows known (t.AllocAtomic p x e) scope = one_more x _ _ scope
bound_grows known (t.New p x s inits) scope = one_more x _ _ scope
bound_grows known (t.AtomicRead p x c) scope = one_more x _ _ scope
bound_grows known (t.Cas p x c old new) scope = one_more x _ _ scope
bound_grows known (t.NewLock p x i) scope = one_more x _ _ scope
bound_grows known (t.Read p x) scope = one_more x _ _ scope
bound_grows known (t.Call p x f args) scope = result_grows x _ scope
bound_grows known (t.LetMut p x e) scope = one_more x _ _ scope
bound_grows known (t.GLet p x e) scope = one_more x _ _ scope
bound_grows known (t.GAlloc p x e) scope = one_more x _ _ scope
bound_grows known (t.NewInv p x i) scope = one_more x _ _ scope
bound_grows known _ scope = grows_same scope

mutual
  pub behind_grows : (known : Known) (s : Stmt) (scope : Scope) → Grows scope (behind known s scope)
  behind_grows known (t.With p x body after) scope = block_grows known body scope
  behind_grows known (t.WithAssert p bs q) scope = bind_all_grows Bound bs scope
  behind_grows known s scope = bound_grows known s scope

  pub all_grows : (known : Known) (list : Stmts) (scope : Scope) → Grows scope (behind_all known list scope)
  all_grows known t.end scope = grows_same scope
  all_grows known (t.more s rest) scope =
      grows_on scope (behind known s scope) (behind_all known rest (behind known s scope)) (behind_grows known s scope) (all_grows known rest (behind known s scope))

  pub block_grows : (known : Known) (b : Braced) (scope : Scope) → Grows scope (behind_block known b scope)
  block_grows known (t.braces list close) scope = all_grows known list scope

-- the names that were in scope at a mark are no more than now
pub marked : (old new : Scope) → Grows old new → length old ≤ length new
marked old new g =
    let e : length new ≡ length g.0 + length old = ap length g.1 ∙ length-append g.0 old in
    omega arith

-- back to a mark
pub left : (old new : Scope) → Grows old new → drop (length new - length old) new ≡ old
left old new g =
    let e : length new ≡ length g.0 + length old = ap length g.1 ∙ length-append g.0 old in
    let n : length new - length old ≡ length g.0 = omega arith in
    ap (λ k. drop k new) n ∙ ap (drop (length g.0)) g.1 ∙ drop-append_seam g.0 old

-- back to a mark behind binders, behind statements, and behind a loop
pub marked_bound : (r : Role) (bs : List Binder) (scope : Scope) → length scope ≤ length (bind_all r bs scope)
marked_bound r bs scope = marked scope (bind_all r bs scope) (bind_all_grows r bs scope)

pub left_bound : (r : Role) (bs : List Binder) (scope : Scope) → drop (length (bind_all r bs scope) - length scope) (bind_all r bs scope) ≡ scope
left_bound r bs scope = left scope (bind_all r bs scope) (bind_all_grows r bs scope)

pub marked_all : (known : Known) (list : Stmts) (scope : Scope) → length scope ≤ length (behind_all known list scope)
marked_all known list scope = marked scope (behind_all known list scope) (all_grows known list scope)

pub left_all : (known : Known) (list : Stmts) (scope : Scope) → drop (length (behind_all known list scope) - length scope) (behind_all known list scope) ≡ scope
left_all known list scope = left scope (behind_all known list scope) (all_grows known list scope)

loop_grows : (known : Known) (loads : Stmts) (body : Braced) (scope : Scope) → Grows scope (behind_block known body (behind_all known loads scope))
loop_grows known loads body scope =
    grows_on scope (behind_all known loads scope) (behind_block known body (behind_all known loads scope)) (all_grows known loads scope)
    (block_grows known body (behind_all known loads scope))

pub marked_loop : (known : Known) (loads : Stmts) (body : Braced) (scope : Scope) → length scope ≤ length (behind_block known body (behind_all known loads scope))
marked_loop known loads body scope = marked scope (behind_block known body (behind_all known loads scope)) (loop_grows known loads body scope)

pub left_loop : (known : Known) (loads : Stmts) (body : Braced) (scope : Scope) →
    drop (length (behind_block known body (behind_all known loads scope)) - length scope) (behind_block known body (behind_all known loads scope)) ≡ scope
left_loop known loads body scope = left scope (behind_block known body (behind_all known loads scope)) (loop_grows known loads body scope)
