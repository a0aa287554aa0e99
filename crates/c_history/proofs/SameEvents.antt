-- The test on events tells whether they are the same.
use Rattle.std.proofs.Common.{◌≡◌, ◌∙◌, ap, refl, ℕ, ℤ, ◌&&◌, ◌==◌, Bool, false, ◌↔◌, IsTrue, Some}
use Rattle.std.specs.Bool.{Decides}
use Rattle.std.specs.Ordering.{int_eq}
use Rattle.std.proofs.Math.Bool.{beq}
use Rattle.std.specs.Cmp.{unsigned_Decides, signed_Decides, booleans_Decides}
use Rattle.std.proofs.lemmas.Bool.{and_parts, and_from}
use Rattle.pl_resource.specs.declared.value.Cell.{Cell}
use Rattle.pl_resource.specs.declared.value.Value.{Value}
use Rattle.pl_resource.specs.declared.value.Value.TheVariants as v
use Rattle.pl_resource.specs.contracts.value.CellPartialEq.TheImpl as cells
use Rattle.pl_resource.specs.contracts.value.ValuePartialEq.TheImpl as values
use Rattle.c_meaning.specs.declared.action.Action.{Action}
use Rattle.c_meaning.specs.declared.action.Action.TheVariants as a
use Rattle.c_meaning.specs.declared.action.Event.{Event}
use Rattle.c_meaning.specs.contracts.action.ActionPartialEq.TheImpl as actions
use Rattle.c_meaning.specs.contracts.action.EventPartialEq.TheImpl as events

-- two tests decide a fact that has two parts
both : {P Q R : Type 0} (r s : Bool) → Decides r P → Decides s Q → (P → Q → R) → (R → P) → (R → Q) → Decides (r && s) R
both r s d e join one two = (
  λ h. let p = and_parts r s h in join (d.0 p.0) (e.0 p.1),
  λ h. and_from r s (d.1 (one h)) (e.1 (two h)),
)

like : {P R : Type 0} (r : Bool) → Decides r P → (P → R) → (R → P) → Decides r R
like r d to back = (λ h. to (d.0 h), λ h. d.1 (back h))

apart : {R : Type 0} → (R → ⊥) → Decides false R
apart no_way = (λ h. absurd cc, λ h. absurd (no_way h))

pub cell_decides : (c d : Cell) → Decides (cells.eq-value.it c d) (c ≡ d)
cell_decides c d =
    both (c.block == d.block) ((c.index == d.index) && (c.field == d.field)) (unsigned_Decides c.block d.block)
    (both {R = (c.index ≡ d.index) × (c.field ≡ d.field)} (c.index == d.index) (c.field == d.field) (unsigned_Decides c.index d.index) (unsigned_Decides c.field d.field) (λ h k. (h, k)) (λ h. h.0) (λ h. h.1))
    (λ h k. ap (λ (n : ℕ). record { block = n; index = c.index; field = c.field }) h
    ∙ ap (λ (n : ℕ). record { block = d.block; index = n; field = c.field }) k.0
    ∙ ap (λ (n : ℕ). record { block = d.block; index = d.index; field = n }) k.1)
    (λ h. ap (λ (z : Cell). z.block) h) (λ h. (ap (λ (z : Cell). z.index) h, ap (λ (z : Cell). z.field) h))

pub value_decides : (x y : Value) → Decides (values.eq-value.it x y) (x ≡ y)
value_decides (v.Int n) (v.Int m) = like (int_eq n m) (signed_Decides n m) (λ h. ap v.Int h) (λ h. cc)
value_decides (v.Truth n) (v.Truth m) = like (beq n m) (booleans_Decides n m) (λ h. ap v.Truth h) (λ h. cc)
value_decides v.Null v.Null = (λ h. refl, λ h. refl)
value_decides (v.Block n) (v.Block m) = like (n == m) (unsigned_Decides n m) (λ h. ap v.Block h) (λ h. cc)
value_decides (v.Lock n) (v.Lock m) = like (n == m) (unsigned_Decides n m) (λ h. ap v.Lock h) (λ h. cc)
value_decides x y = apart (λ h. cc)

pub action_decides : (x y : Action) → Decides (actions.eq-value.it x y) (x ≡ y)
action_decides (a.Load c x) (a.Load d y) =
    both (cells.eq-value.it c d) (values.eq-value.it x y) (cell_decides c d) (value_decides x y) (λ h k. ap (λ (z : Cell). a.Load z x) h ∙ ap (λ (z : Value). a.Load d z) k) (λ h. cc) (λ h. cc)
action_decides (a.Store c x) (a.Store d y) =
    both (cells.eq-value.it c d) (values.eq-value.it x y) (cell_decides c d) (value_decides x y) (λ h k. ap (λ (z : Cell). a.Store z x) h ∙ ap (λ (z : Value). a.Store d z) k) (λ h. cc) (λ h. cc)
action_decides (a.Cas c n s) (a.Cas d m t) =
    both (cells.eq-value.it c d) (int_eq n m && beq s t) (cell_decides c d)
    (both {R = (n ≡ m) × (s ≡ t)} (int_eq n m) (beq s t) (signed_Decides n m) (booleans_Decides s t) (λ h k. (h, k)) (λ h. h.0) (λ h. h.1))
    (λ h k. ap (λ (z : Cell). a.Cas z n s) h ∙ ap (λ (z : ℤ). a.Cas d z s) k.0 ∙ ap (λ (z : Bool). a.Cas d m z) k.1)
    (λ h. cc) (λ h. (cc, cc))
action_decides (a.Alloc n m) (a.Alloc i j) =
    both (n == i) (m == j) (unsigned_Decides n i) (unsigned_Decides m j) (λ h k. ap (λ (z : ℕ). a.Alloc z m) h ∙ ap (λ (z : ℕ). a.Alloc i z) k) (λ h. cc) (λ h. cc)
action_decides (a.Free n) (a.Free m) = like (n == m) (unsigned_Decides n m) (λ h. ap a.Free h) (λ h. cc)
action_decides (a.NewLock n) (a.NewLock m) = like (n == m) (unsigned_Decides n m) (λ h. ap a.NewLock h) (λ h. cc)
action_decides (a.Acquire n) (a.Acquire m) = like (n == m) (unsigned_Decides n m) (λ h. ap a.Acquire h) (λ h. cc)
action_decides (a.Release n) (a.Release m) = like (n == m) (unsigned_Decides n m) (λ h. ap a.Release h) (λ h. cc)
action_decides (a.FreeLock n) (a.FreeLock m) = like (n == m) (unsigned_Decides n m) (λ h. ap a.FreeLock h) (λ h. cc)
action_decides (a.Fork n) (a.Fork m) = like (n == m) (unsigned_Decides n m) (λ h. ap a.Fork h) (λ h. cc)
action_decides (a.Join n) (a.Join m) = like (n == m) (unsigned_Decides n m) (λ h. ap a.Join h) (λ h. cc)
action_decides (a.Call n) (a.Call m) = like (n == m) (unsigned_Decides n m) (λ h. ap a.Call h) (λ h. cc)
action_decides (a.Print n) (a.Print m) = like (int_eq n m) (signed_Decides n m) (λ h. ap a.Print h) (λ h. cc)
action_decides (a.Read n) (a.Read m) = like (int_eq n m) (signed_Decides n m) (λ h. ap a.Read h) (λ h. cc)
action_decides a.Turn a.Turn = (λ h. refl, λ h. refl)
action_decides a.Return a.Return = (λ h. refl, λ h. refl)
action_decides x y = apart (λ h. cc)

pub event_decides : (x y : Event) → Decides (events.eq-value.it x y) (x ≡ y)
event_decides x y =
    both (x.tid == y.tid) (actions.eq-value.it x.action y.action) (unsigned_Decides x.tid y.tid) (action_decides x.action y.action)
    (λ h k. ap (λ (n : ℕ). record { tid = n; action = x.action }) h ∙ ap (λ (z : Action). record { tid = y.tid; action = z }) k)
    (λ h. ap (λ (z : Event). z.tid) h) (λ h. ap (λ (z : Event). z.action) h)

some_is : {x y : Event} → Some x ≡ Some y → x ≡ y
some_is h = cc

pub some_decides : (x y : Event) → IsTrue (events.eq-value.it x y) ↔ (Some x ≡ Some y)
some_decides x y = let d = event_decides x y in (λ h. ap (λ (z : Event). Some z) (d.0 h), λ h. d.1 (some_is h))
