-- In a program that keeps the rules each local in scope has a number below the next binder's.
use Rattle.std.proofs.Common.{◌≡◌, ℕ, suc, ◌+◌, ◌<◌, ◌≤◌, ◌==◌, Bool, true, false, cond, Option, Some, None, List, [], ◌∷◌, ◌++◌, length, arith, le_refl, refl}
use Rattle.std.specs.Cmp.{unsigned_Decides}
use Rattle.std.specs.List.{AllByRecursion}
use Rattle.std.specs.Prelude.{option_and_then}
use Rattle.std.specs.Str.{bytes_eq}
use Rattle.std.proofs.lemmas.Bool.{and_parts}
use Rattle.c_syntax.specs.declared.kind.CType.{CType}
use Rattle.c_syntax.specs.declared.kind.Local.{Local}
use Rattle.c_syntax.specs.declared.program.CParam.{CParam}
use Rattle.c_syntax.specs.Rules.{AreNumbered, Scope, StmtsFit, after, after_all, binders, bound_by, element, is_same, moved, stmts_binders, type_of}
use Rattle.c_syntax.specs.Tree as t

-- ---- numbers below a limit

abbrev pub Below : ℕ → List CParam → Type 0
Below limit bound = AllByRecursion (λ b. b.local.number < limit) bound

pub below_append : (limit : ℕ) (bs cs : List CParam) → Below limit bs → Below limit cs → Below limit (bs ++ cs)
below_append limit [] cs h k = k
below_append limit (b ∷ bs) cs h k = (h.0, below_append limit bs cs h.1 k)

pub below_numbered : (limit n : ℕ) (bs : List CParam) → AreNumbered n bs → n + length bs ≤ limit → Below limit bs
below_numbered limit n [] h k = tt
below_numbered limit n (b ∷ bs) h k = (let e = h.0 in omega arith, below_numbered limit (suc n) bs h.1 (omega arith))

below_same : (limit : ℕ) (x y : Local) → is_same x y ≡ true → y.number < limit → x.number < limit
below_same limit x y e h =
    let same : x.number ≡ y.number = (unsigned_Decides x.number y.number).0 (and_parts (bytes_eq x.name y.name) (x.number == y.number) e).1 in
    omega arith

below_found : (limit : ℕ) (b : CParam) (bs : List CParam) (x : Local) (type : CType) (same : Bool) → is_same x b.local ≡ same →
    b.local.number < limit → (type_of bs x ≡ Some type → x.number < limit) → cond same (Some b.kind) (type_of bs x) ≡ Some type → x.number < limit
below_found limit b bs x type true e h f k = below_same limit x b.local e h
below_found limit b bs x type false e h f k = f k

-- a local that a use names
pub below_used : (limit : ℕ) (bound : List CParam) (x : Local) (type : CType) → Below limit bound → type_of bound x ≡ Some type → x.number < limit
below_used limit [] x type h e = cc
below_used limit (b ∷ bs) x type h e = below_found limit b bs x type (is_same x b.local) refl h.0 (below_used limit bs x type h.1) e

below_pointed : (limit : ℕ) (x : Local) (found : Option CType) (type : CType) → ((u : CType) → found ≡ Some u → x.number < limit) → option_and_then element found ≡ Some type → x.number < limit
below_pointed limit x None type f e = cc
below_pointed limit x (Some u) type f e = f u refl

-- a local whose cell a use names
pub below_based : (limit : ℕ) (bound : List CParam) (x : Local) (type : CType) → Below limit bound → option_and_then element (type_of bound x) ≡ Some type → x.number < limit
below_based limit bound x type h e = below_pointed limit x (type_of bound x) type (λ u k. below_used limit bound x u h k) e

-- ---- how many numbers are written

abbrev mutual
  -- how many numbers of binders, and of arguments of threads, are written in a statement
  pub counted : t.Stmt → ℕ
  counted (t.Par f args g others) = length args
  counted (t.If e first second) = all_counted first + all_counted second
  counted (t.While loads e body) = all_counted loads + all_counted body
  counted u = length (bound_by u)

  pub all_counted : t.Stmts → ℕ
  all_counted t.end = 0
  all_counted (t.more u rest) = counted u + all_counted rest

mutual
  pub binders_counted : (u : t.Stmt) → binders u ≤ counted u
  binders_counted (t.Par f args g others) = omega arith
  binders_counted (t.If e first second) = let a = stmts_counted first in let b = stmts_counted second in omega arith
  binders_counted (t.While loads e body) = let a = stmts_counted loads in let b = stmts_counted body in omega arith
  binders_counted _ = le_refl _

  pub stmts_counted : (ts : t.Stmts) → stmts_binders ts ≤ all_counted ts
  stmts_counted t.end = le_refl 0
  stmts_counted (t.more u rest) = let a = binders_counted u in let b = stmts_counted rest in omega arith

-- ---- behind statements

-- numbers begin with 1, those in scope are below the limit, and so are `more` that are still to come
pub record Room (limit : ℕ) (scope : Scope) (more : ℕ) : Type 0 where
  pub begun : 1 ≤ scope.next
  pub below : Below limit scope.bound
  pub room : scope.next + more ≤ limit

pub room_after : (limit : ℕ) (scope : Scope) (u : t.Stmt) (more : ℕ) → AreNumbered scope.next (bound_by u) → Room limit scope (counted u + more) → Room limit (after scope u) more
room_after limit scope u more h r =
    let a = binders_counted u in
    let b = bound_counted u in
    let fits = r.room in
    let one = r.begun in
    record {
      begun = omega arith;
      below = below_append limit (bound_by u) scope.bound (below_numbered limit scope.next (bound_by u) h (omega arith)) r.below;
      room = omega arith;
    }
  where
    bound_counted : (v : t.Stmt) → length (bound_by v) ≤ counted v
    bound_counted (t.Par f args g others) = omega arith
    bound_counted (t.If e first second) = omega arith
    bound_counted (t.While loads e body) = omega arith
    bound_counted _ = le_refl _

pub room_behind : (p : t.Program) (limit : ℕ) (scope : Scope) (ts : t.Stmts) (more : ℕ) → StmtsFit p scope ts → Room limit scope (all_counted ts + more) → Room limit (after_all scope ts) more
room_behind p limit scope t.end more h r = record { begun = r.begun; below = r.below; room = let fits = r.room in omega arith }
room_behind p limit scope (t.more u rest) more h r =
    room_behind p limit (after scope u) rest more h.2 (room_after limit scope u (all_counted rest + more) h.0 (record { begun = r.begun; below = r.below; room = let fits = r.room in omega arith }))

-- behind the binders of a block
pub room_moved : (limit : ℕ) (scope : Scope) (n more all : ℕ) → n + more ≤ all → Room limit scope all → Room limit (moved scope n) more
room_moved limit scope n more all h r = let fits = r.room in let one = r.begun in record { begun = omega arith; below = r.below; room = omega arith }

-- for fewer that are still to come
pub room_fewer : (limit : ℕ) (scope : Scope) (more all : ℕ) → more ≤ all → Room limit scope all → Room limit scope more
room_fewer limit scope more all h r = let fits = r.room in record { begun = r.begun; below = r.below; room = omega arith }
