-- What a statement touches is what its effect touches.
use Rattle.std.proofs.Common.{◌≡◌, ℕ, Bool, true, false, List, [], ◌∷◌, ◌++◌, Option, Some, None, Result, Ok, Err, refl, sym, ap, ◌∙◌, if◌then◌else◌, length, slice_set, subst, ◌+◌, arith, suc, ◌&&◌, nat_lt}
use Rattle.pl_resource.specs.Faults.{chain}
use Rattle.pl_resource.specs.Heap.{load_of, store_of, cas_of, free_of, made}
use Rattle.pl_resource.specs.LockTable.{set_of, end_of}
use Rattle.pl_resource.specs.declared.value.Fault.{Fault}
use Rattle.pl_resource.specs.declared.value.Value.{Value}
use Rattle.pl_resource.specs.declared.value.Value.TheVariants as value
use Rattle.pl_resource.specs.declared.value.Fault.TheVariants as fault
use Rattle.c_meaning.specs.declared.action.Action.TheVariants as act
use Rattle.c_meaning.specs.declared.action.Next.{Next}
use Rattle.c_meaning.specs.declared.action.Next.TheVariants as next
use Rattle.c_meaning.specs.declared.action.Touch.{Touch}
use Rattle.c_meaning.specs.declared.code.Op.{Op}
use Rattle.c_meaning.specs.declared.code.Op.TheVariants as op
use Rattle.c_meaning.specs.declared.code.Block.{Block}
use Rattle.c_meaning.specs.declared.term.Term as rust
use Rattle.c_meaning.specs.declared.term.Basic as basic
use Rattle.c_meaning.specs.Plain.{plain_term, plain_basic}
use Rattle.c_meaning.specs.Tree.{Stmts, Let, If, Do, more}
use Rattle.c_meaning.specs.Blocks.{stmt_of, tree, testing}
use Rattle.c_meaning.specs.Events.{faulted, event_in, next_by, atomic_at}
use Rattle.c_meaning.specs.Machine.{AtOp}
use Rattle.c_meaning.proofs.Rooms.{length_snoc}
use Rattle.c_meaning.specs.Tree.{Term, Basic, Load, Store, Cas, Make, Free, NewLock, Acquire, Release, Read, Print, Call, Fork, Join, Return}
use Rattle.c_meaning.specs.Values.{Env, Outcome, local_of, eval, eval_onto, arguments}
use Rattle.c_meaning.specs.Effects.{World, Own, Effect, offset_of, base_of, cell_at, eval_number, count_of, has_fields, far, past, binding, with_blocks, made_block, lock_of_local, freed, joined, effect_of}
use Rattle.c_meaning.specs.Touches.{untouched, is_atomic, touched}
use Rattle.c_meaning.specs.Touching.{told, sound_all, freeing, joining, some_fields, touching}

-- the one touch is what the effect touches
record Same (a : Bool) (r : Result Touch Fault) (e : Result Effect Fault) : Type 0 where
  is : r ≡ touched a e

through : {A : Type 0} (a : Bool) (r : Result A Fault) (f : A → Result Touch Fault) (g : A → Result Effect Fault) → ((x : A) → Same a (f x) (g x)) → Same a (chain r f) (chain r g)
through a (Err e) f g k = record { is = refl }
through a (Ok x) f g k = k x

told_through : {A : Type 0} (a : Bool) (r : Result A Fault) (f : Unit {0} → Result Touch Fault) (g : A → Result Effect Fault) → ((u : Unit {0}) (x : A) → Same a (f u) (g x)) → Same a (chain (told r) f) (chain r g)
told_through a (Err e) f g k = record { is = refl }
told_through a (Ok x) f g k = k tt x

arguments_through : (a : Bool) (env : Env) (es : List Term) (x : ℕ) (locals : Env) (f : Unit {0} → Result Touch Fault) (g : Env → Result Effect Fault) → ((u : Unit {0}) (v : Env) → Same a (f u) (g v)) → Same a (chain (sound_all env es) f) (chain (arguments env es x locals) g)
arguments_through a env [] x locals f g k = k tt locals
arguments_through a env (e ∷ es) x locals f g k = by_value (λ v. arguments_through a env es (suc x) (slice_set locals x v) f g k) (eval env e)
  where
    by_value : ((v : Value) → Same a (chain (sound_all env es) f) (chain (arguments env es (suc x) (slice_set locals x v)) g)) → (r : Result Value Fault) → Same a (chain (chain r (λ v. sound_all env es)) f) (chain (chain r (λ v. arguments env es (suc x) (slice_set locals x v))) g)
    by_value ih (Err h) = record { is = refl }
    by_value ih (Ok v) = ih v

first_through : (a : Bool) (env : Env) (es : List Term) (vs : List Value) (f : Unit {0} → Result Touch Fault) (g : List Value → Result Effect Fault) → ((u : Unit {0}) (ws : List Value) → length ws ≡ length vs + length es → Same a (f u) (g ws)) → Same a (chain (sound_all env es) f) (chain (eval_onto vs env es) g)
first_through a env [] vs f g k = k tt vs (omega arith)
first_through a env (e ∷ es) vs f g k = by_value (λ v. first_through a env es (vs ++ v ∷ []) f g (λ u ws h. k u ws (omega (arith, h, length_snoc vs v)))) (eval env e)
  where
    by_value : ((v : Value) → Same a (chain (sound_all env es) f) (chain (eval_onto (vs ++ v ∷ []) env es) g)) → (r : Result Value Fault) → Same a (chain (chain r (λ v. sound_all env es)) f) (chain (chain r (λ v. eval_onto (vs ++ v ∷ []) env es)) g)
    by_value ih (Err h) = record { is = refl }
    by_value ih (Ok v) = ih v

made_same : (atomic : Bool) (x : ℕ) (own : Own) (world : World) (values : List Value) (first : List Term) (count : ℕ) → length values ≡ length first → Same false (some_fields first) (made_block atomic x own world values count)
made_same atomic x own world values first count h =
    subst (λ z. Same false (if z then Ok untouched else Err fault.Kind) (made_block atomic x own world values count)) (ap (λ n. nat_lt 0 n && nat_lt n far) h) (by_test (has_fields values))
  where
    by_test : (t : Bool) → Same false (if t then Ok untouched else Err fault.Kind) (if t then past (act.Alloc (length world.blocks) count) (binding own x (value.Block (length world.blocks))) (with_blocks world (world.blocks ++ Some (made atomic values count) ∷ [])) else Err fault.Kind)
    by_test true = record { is = refl }
    by_test false = record { is = refl }

free_same : (own : Own) (world : World) (v : Value) → Same false (freeing world v) (freed own world v)
free_same own world (value.Block b) = told_through false (free_of world.blocks b) _ _ (λ u blocks. record { is = refl })
free_same own world (value.Lock k) = told_through false (end_of world.locks k) _ _ (λ u locks. record { is = refl })
free_same own world value.Null = record { is = refl }
free_same own world (value.Int n) = record { is = refl }
free_same own world (value.Truth b) = record { is = refl }

join_same : (own : Own) (world : World) (child : Option ℕ) → Same false (joining child) (joined own world child)
join_same own world None = record { is = refl }
join_same own world (Some t) = record { is = refl }

same : (n : ℕ) (locals : Env) (b : Basic) (own : Own) (world : World) → Same (is_atomic b) (touching b own world) (effect_of n locals b own world)
same n locals (Load x place a) own world = through a (offset_of own.env place) _ _ (λ at. through a (cell_at own.env (base_of place) at) _ _ (λ cell. told_through a (load_of world.blocks cell a) _ _ (λ u v. record { is = refl })))
same n locals (Store place e a) own world = through a (offset_of own.env place) _ _ (λ at. through a (eval own.env e) _ _ (λ v. through a (cell_at own.env (base_of place) at) _ _ (λ cell. told_through a (store_of world.blocks cell a v) _ _ (λ u w. record { is = refl }))))
same n locals (Cas x base old new) own world = through true (eval_number own.env old) _ _ (λ a. through true (eval_number own.env new) _ _ (λ b. through true (cell_at own.env base (record { index = 0; field = 0 })) _ _ (λ cell. told_through true (cas_of world.blocks cell a b) _ _ (λ u w. record { is = refl }))))
same n locals (Make x a first count) own world = first_through false own.env first [] _ _ (λ u values h. through false (eval_number own.env count) _ _ (λ m. through false (count_of m) _ _ (λ c. made_same a x own world values first c (omega (arith, h)))))
same n locals (Free base) own world = through false (local_of own.env base) _ _ (free_same own world)
same n locals (NewLock x) own world = record { is = refl }
same n locals (Acquire l) own world = through false (lock_of_local own.env l) _ _ (λ k. told_through false (set_of world.locks k true) _ _ (λ u w. record { is = refl }))
same n locals (Release l) own world = through false (lock_of_local own.env l) _ _ (λ k. told_through false (set_of world.locks k false) _ _ (λ u w. record { is = refl }))
same n locals (Read x) own world = record { is = refl }
same n locals (Print e) own world = through false (eval_number own.env e) _ _ (λ m. record { is = refl })
same n locals (Call into f args) own world = arguments_through false own.env args 1 locals _ _ (λ u v. record { is = refl })
same n locals (Fork f args) own world = arguments_through false own.env args 1 locals _ _ (λ u v. record { is = refl })
same n locals Join own world = join_same own world own.child
same n locals (Return e) own world = through false (eval own.env e) _ _ (λ v. record { is = refl })

pub touching_is : (n : ℕ) (locals : Env) (b : Basic) (own : Own) (world : World) → touching b own world ≡ touched (is_atomic b) (effect_of n locals b own world)
touching_is n locals b own world = (same n locals b own world).is

-- what the event touches, or its fault, is what the thread stands before
abbrev pub next_told : Result Touch Fault → Next
next_told (Ok touch) = next.Act touch
next_told (Err f) = next.Fault f

do_next : (a : Bool) (r : Result Effect Fault) (rest : Stmts) → next_by a (chain r (λ e. Ok (record { effect = e; left = rest }))) ≡ next_told (touched a r)
do_next a (Err f) rest = refl
do_next a (Ok e) rest = refl

fault_next : (a : Bool) (f : Fault) (r : Outcome) → Err f ≡ faulted r → next_by a (faulted r) ≡ next.Fault f
fault_next a f (Err g) h = cc h
fault_next a f (Ok v) h = cc h

module _ (T : List Block) (n : ℕ) (locals : Env) (own : Own) (world : World) (l : Stmts) (checks : Bool) (o : Op) (at : AtOp T l checks o) where
  pub next_do : (b : basic.Basic) → o ≡ op.Do b → next_told (touching (plain_basic b) own world) ≡ next_by (atomic_at l) (event_in n locals l own world)
  next_do b h = ap next_told (touching_is n locals (plain_basic b) own world) ∙ (sym (do_next (is_atomic (plain_basic b)) (effect_of n locals (plain_basic b) own world) at.rest) ∙ sym (ap (λ z. next_by (atomic_at z) (event_in n locals z own world)) (at.is ∙ (ap (λ z. testing checks (more (stmt_of (tree T) z) at.rest)) h ∙ plain checks))))
    where
      plain : (c : Bool) → testing c (more (stmt_of (tree T) (op.Do b)) at.rest) ≡ more (Do (plain_basic b)) at.rest
      plain true = refl
      plain false = refl

  pub next_turn : (k : ℕ) (e : rust.Term) (b : ℕ) → o ≡ op.While k e b → checks ≡ false → next.Act untouched ≡ next_by (atomic_at l) (event_in n locals l own world)
  next_turn k e b h off = sym (ap (λ z. next_by (atomic_at z) (event_in n locals z own world)) (at.is ∙ (ap (λ z. testing checks (more (stmt_of (tree T) z) at.rest)) h ∙ ap (λ z. testing z (more (stmt_of (tree T) (op.While k e b)) at.rest)) off)))

  pub next_test : (k : ℕ) (e : rust.Term) (b : ℕ) (f : Fault) → o ≡ op.While k e b → checks ≡ true → Err f ≡ faulted (eval own.env (plain_term e)) → next.Fault f ≡ next_by (atomic_at l) (event_in n locals l own world)
  next_test k e b f h on g = sym (ap (λ z. next_by (atomic_at z) (event_in n locals z own world)) (at.is ∙ (ap (λ z. testing checks (more (stmt_of (tree T) z) at.rest)) h ∙ ap (λ z. testing z (more (stmt_of (tree T) (op.While k e b)) at.rest)) on)) ∙ fault_next false f (eval own.env (plain_term e)) g)

  pub next_let : (x : ℕ) (e : rust.Term) (f : Fault) → o ≡ op.Let x e → Err f ≡ faulted (eval own.env (plain_term e)) → next.Fault f ≡ next_by (atomic_at l) (event_in n locals l own world)
  next_let x e f h g = sym (ap (λ z. next_by (atomic_at z) (event_in n locals z own world)) (at.is ∙ (ap (λ z. testing checks (more (stmt_of (tree T) z) at.rest)) h ∙ plain checks)) ∙ fault_next false f (eval own.env (plain_term e)) g)
    where
      plain : (c : Bool) → testing c (more (stmt_of (tree T) (op.Let x e)) at.rest) ≡ more (Let x (plain_term e)) at.rest
      plain true = refl
      plain false = refl

  pub next_if : (e : rust.Term) (a b : ℕ) (f : Fault) → o ≡ op.If e a b → Err f ≡ faulted (eval own.env (plain_term e)) → next.Fault f ≡ next_by (atomic_at l) (event_in n locals l own world)
  next_if e a b f h g = sym (ap (λ z. next_by (atomic_at z) (event_in n locals z own world)) (at.is ∙ (ap (λ z. testing checks (more (stmt_of (tree T) z) at.rest)) h ∙ plain checks)) ∙ fault_next false f (eval own.env (plain_term e)) g)
    where
      plain : (c : Bool) → testing c (more (stmt_of (tree T) (op.If e a b)) at.rest) ≡ more (If (plain_term e) (tree T a) (tree T b)) at.rest
      plain true = refl
      plain false = refl
