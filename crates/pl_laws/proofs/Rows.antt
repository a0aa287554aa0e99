-- Each row of C does what its statement does.
use Rattle.std.proofs.Common.{◌≡◌, ℕ, suc, ◌<◌, ℤ, Bool, true, false, if◌then◌else◌, Option, Some, None, List, [], ◌∷◌, ◌++◌, length, Result, Ok, Err, refl, sym, ap, ◌∙◌, subst, slice_get, slice_set}
use Rattle.std.specs.Prelude.{option_map, ⊤}
use Rattle.std.proofs.lemmas.List.{append-nil, length-map, map-append}
use Rattle.pl_resource.specs.Faults.{chain}
use Rattle.pl_resource.specs.declared.value.Value as word
use Rattle.pl_resource.specs.declared.value.Value.TheVariants as value
use Rattle.pl_resource.specs.declared.value.Cell.{Cell}
use Rattle.pl_resource.specs.declared.value.Fault.{Fault}
use Rattle.pl_resource.specs.declared.value.Fault.TheVariants as fault
use Rattle.pl_resource.specs.Heap as heap
use Rattle.pl_resource.specs.Heap.{load_of, load_in, same_mark, free_of}
use Rattle.c_syntax.specs.Plain.{chain as in_a_row}
use Rattle.c_meaning.specs.declared.action.Action.TheVariants as act
use Rattle.c_meaning.specs.Tree as c
use Rattle.c_meaning.specs.Tree.{Stmts, If, While, Check, Do, end, more, greatest}
use Rattle.c_meaning.specs.Values.{Env, local_of, eval_onto}
use Rattle.c_meaning.specs.Local.{settle, rested}
use Rattle.c_meaning.specs.Resolve.{Names, term_of, once, resolved}
use Rattle.c_meaning.specs.Effects.{World, Own, Effect, Past, past, binding, with_blocks, block_at, number_of, eval_number, count_of, made_block, freed, effect_of}
use Rattle.c_meaning.specs.Events.{settled, atomic_at}
use Rattle.c_meaning.specs.Events as events
use Rattle.c_meaning.proofs.StateEvents.{length_set}
use Rattle.pl_syntax.specs.Tree.{Name, Expr, Whole, Stmt, Load, Alloc, Free, Print}
use Rattle.pl_syntax.specs.Values as values
use Rattle.pl_syntax.specs.Values.{Value, Number, Truth, Null, Vars, bind, value_of}
use Rattle.pl_source.specs.Machine as source
use Rattle.pl_source.specs.Machine.{HeapBlock, Heap, one_cell, Event, AllocEvent, LoadEvent, FreeEvent, PrintEvent, Goes, FaultsBy, HasNone, alloc_effect, load_at, load_block, load_cell, load_plain, free_at, free_block, print_effect, field_at, effect}
use Rattle.pl_erase.specs.Emitted.{Numbers, number, emitted_expr, emitted_all}
use Rattle.pl_laws.specs.SameRuns.{c_value, c_action, c_fault, c_block, c_blocks}
use Rattle.pl_laws.proofs.Locals.{map_set, Locals, locals_bind, local_value, expr_value, alive_as, block_is, there_as, cell_is}

-- ---- what is left

-- what is left in C, where the next binder has number n
abbrev pub left_of : Names → ℕ → Numbers → List Stmt → Stmts
left_of names n numbers list = resolved names (in_a_row (emitted_all n numbers list))

-- each statement is an event
abbrev AreEvents : Stmts → Type 0
AreEvents end = ⊤
AreEvents (more (Do b) rest) = AreEvents rest
AreEvents (more _ rest) = ⊥

rests : (l : Stmts) (env : Env) → AreEvents l → rested (settle l env) ≡ (env, l)
rests end env h = refl
rests (more (Do b) rest) env h = refl
rests (more _ rest) env h = absurd h

rows_events : (names : Names) (n : ℕ) (numbers : Numbers) (list : List Stmt) → AreEvents (left_of names n numbers list)
rows_events names n numbers [] = tt
rows_events names n numbers (Load place x (Whole base) is_ghost ∷ rest) = rows_events names (suc n) (number x n numbers) rest
rows_events names n numbers (Alloc place x e ∷ rest) = rows_events names (suc n) (number x n numbers) rest
rows_events names n numbers (Free place x ∷ rest) = rows_events names n numbers rest
rows_events names n numbers (Print place e ∷ rest) = rows_events names n numbers rest
rows_events names n numbers (_ ∷ rest) = rows_events names n numbers rest

-- nothing runs before the first event
pub settled_is : (names : Names) (n : ℕ) (numbers : Numbers) (list : List Stmt) (env : Env) (into child : Option ℕ) → settled (left_of names n numbers list) env into child ≡ record { left = left_of names n numbers list; env = env; into = into; child = child }
settled_is names n numbers list env into child = ap (λ (stands : Env × Stmts). make stands) (rests (left_of names n numbers list) env (rows_events names n numbers list))
  where
    make : Env × Stmts → events.Frame
    make stands = record { left = stands.1; env = stands.0; into = into; child = child }

-- no row is atomic
pub none_atomic : (names : Names) (n : ℕ) (numbers : Numbers) (list : List Stmt) → atomic_at (left_of names n numbers list) ≡ false
none_atomic names n numbers [] = refl
none_atomic names n numbers (Load place x (Whole base) is_ghost ∷ rest) = refl
none_atomic names n numbers (Alloc place x e ∷ rest) = refl
none_atomic names n numbers (Free place x ∷ rest) = refl
none_atomic names n numbers (Print place e ∷ rest) = refl
none_atomic names n numbers (_ ∷ rest) = none_atomic names n numbers rest

-- ---- effects

-- a row went as its statement did
pub record Went (own : Own) (world : World) (n : ℕ) (numbers : Numbers) (e : Event) (h : Heap) (vars : Vars) (out : List ℤ) (r : Result Effect Fault) : Type 0 where
  pub env : Env
  pub after : World
  pub is : r ≡ Ok (record { action = c_action e; env = env; child = own.child; world = after; turn = Past })
  pub locals : Locals n numbers vars env
  pub room : length env ≡ length own.env
  pub blocks : after.blocks ≡ c_blocks h
  pub locks : after.locks ≡ world.locks
  pub input : after.input ≡ world.input
  pub outputs : after.outputs ≡ world.outputs ++ out

-- a row does what its statement does, if that does anything
abbrev pub SameEffect : Own → World → ℕ → Numbers → source.Effect → Result Effect Fault → Type 0
SameEffect own world n numbers (Goes e h vars out) r = Went own world n numbers e h vars out r
SameEffect own world n numbers (FaultsBy kind) r = r ≡ Err (c_fault kind)
SameEffect own world n numbers HasNone r = ⊤

module _ (n : ℕ) (numbers : Numbers) (vars : Vars) (h : Heap) (own : Own) (world : World) (locals : Locals n numbers vars own.env) (blocks : world.blocks ≡ c_blocks h) (next : ℕ) (blank : Env) where
  -- a print
  print_by : (e : Expr) (o : Option Value) → value_of vars e ≡ o → SameEffect own world n numbers (print_effect o h vars) (effect_of next blank (c.Print (term_of (emitted_expr numbers e))) own world)
  print_by e None k = tt
  print_by e (Some (Truth b)) k = tt
  print_by e (Some Null) k = tt
  print_by e (Some (values.Block b)) k = tt
  print_by e (Some (Number z)) k = record {
    env = own.env;
    after = record world { outputs = world.outputs ++ z ∷ [] };
    is = ap (λ o. chain (chain o number_of) (λ m. past (act.Print m) own (record world { outputs = world.outputs ++ m ∷ [] }))) (expr_value n numbers vars own.env e (Number z) locals k);
    locals = locals;
    room = refl;
    blocks = blocks;
    locks = refl;
    input = refl;
    outputs = refl;
  }

  pub print_same : (e : Expr) → SameEffect own world n numbers (print_effect (value_of vars e) h vars) (effect_of next blank (c.Print (term_of (emitted_expr numbers e))) own world)
  print_same e = print_by e (value_of vars e) refl

  -- an alloc
  alloc_by : (x : Name) (e : Expr) (o : Option Value) → n < length own.env → value_of vars e ≡ o → SameEffect own world (suc n) (number x n numbers) (alloc_effect x o h vars) (effect_of next blank (c.Make n false (term_of (emitted_expr numbers e) ∷ []) once) own world)
  alloc_by x e None room k = tt
  alloc_by x e (Some w) room k =
      let count : length world.blocks ≡ length h = ap length blocks ∙ length-map h (option_map c_block) in
      let new = heap.made false (c_value w ∷ []) 1 in
      let after : World = with_blocks world (world.blocks ++ Some new ∷ []) in
      record {
        env = slice_set own.env n (value.Block (length h));
        after = after;
        is = ap (λ o. chain (chain o (λ v. eval_onto ([] ++ v ∷ []) own.env [])) (λ all. chain (eval_number own.env once) (λ z. chain (count_of z) (λ m. made_block false n own world all m)))) (expr_value n numbers vars own.env e w locals k)
            ∙ ap (λ (b : ℕ). Ok (record { action = act.Alloc b 1; env = slice_set own.env n (value.Block b); child = own.child; world = after; turn = Past })) count;
        locals = locals_bind n numbers vars own.env x (values.Block (length h)) room locals;
        room = length_set own.env n (value.Block (length h));
        blocks = ap (λ bs. bs ++ Some new ∷ []) blocks ∙ sym (map-append (option_map c_block) h (Some (one_cell w) ∷ []));
        locks = refl;
        input = refl;
        outputs = sym (append-nil world.outputs);
      }

  pub alloc_same : (x : Name) (e : Expr) → n < length own.env → SameEffect own world (suc n) (number x n numbers) (alloc_effect x (value_of vars e) h vars) (effect_of next blank (c.Make n false (term_of (emitted_expr numbers e) ∷ []) once) own world)
  alloc_same x e room = alloc_by x e (value_of vars e) room refl

  -- a load
  load_marked : (x : Name) (b : ℕ) (w : Value) (a : Bool) → n < length own.env → SameEffect own world (suc n) (number x n numbers) (load_plain x b a w h vars) (chain (if same_mark a false then Ok (c_value w) else Err fault.Kind) (λ v. past (act.Load (record { block = b; index = 0; field = 0 }) v) (binding own n v) world))
  load_marked x b w true room = refl
  load_marked x b w false room = record {
    env = slice_set own.env n (c_value w);
    after = world;
    is = refl;
    locals = locals_bind n numbers vars own.env x w room locals;
    room = length_set own.env n (c_value w);
    blocks = blocks;
    locks = refl;
    input = refl;
    outputs = sym (append-nil world.outputs);
  }

  load_there : (x : Name) (b : ℕ) (block : HeapBlock) (o : Option Value) → n < length own.env → SameEffect own world (suc n) (number x n numbers) (load_cell x b block o h vars) (chain (chain (there_as o) (λ held. if same_mark block.atomic false then Ok held else Err fault.Kind)) (λ v. past (act.Load (record { block = b; index = 0; field = 0 }) v) (binding own n v) world))
  load_there x b block None room = refl
  load_there x b block (Some w) room = load_marked x b w block.atomic room

  load_alive : (x : Name) (b : ℕ) (o : Option HeapBlock) → n < length own.env → SameEffect own world (suc n) (number x n numbers) (load_block x b o h vars) (chain (chain (alive_as o) (λ block. load_in block (record { block = b; index = 0; field = 0 }) false)) (λ v. past (act.Load (record { block = b; index = 0; field = 0 }) v) (binding own n v) world))
  load_alive x b None room = refl
  load_alive x b (Some block) room =
      subst (λ r. SameEffect own world (suc n) (number x n numbers) (load_block x b (Some block) h vars) (chain (chain r (λ held. if same_mark block.atomic false then Ok held else Err fault.Kind)) (λ v. past (act.Load (record { block = b; index = 0; field = 0 }) v) (binding own n v) world)))
      (sym (cell_is block.elements)) (load_there x b block (field_at (slice_get block.elements 0) 0) room)

  abbrev load_from : Result word.Value Fault → Result Effect Fault
  load_from r = chain (chain (chain r block_at) (λ b. Ok (record { block = b; index = 0; field = 0 }))) (λ cell. chain (load_of world.blocks cell false) (λ v. past (act.Load cell v) (binding own n v) world))

  load_by : (x y : Name) (o : Option Value) → n < length own.env → vars y ≡ o → SameEffect own world (suc n) (number x n numbers) (load_at x o h vars) (load_from (local_of own.env (numbers y)))
  load_by x y None room k = tt
  load_by x y (Some (Number z)) room k = tt
  load_by x y (Some (Truth b)) room k = tt
  load_by x y (Some Null) room k = ap load_from (local_value n numbers vars own.env y Null locals k)
  load_by x y (Some (values.Block b)) room k =
      let cell : Cell = record { block = b; index = 0; field = 0 } in
      let at : load_from (local_of own.env (numbers y)) ≡ chain (chain (alive_as (source.block_at h b)) (λ block. load_in block cell false)) (λ v. past (act.Load cell v) (binding own n v) world) =
      ap load_from (local_value n numbers vars own.env y (values.Block b) locals k)
      ∙ ap (λ r. chain (chain r (λ block. load_in block cell false)) (λ v. past (act.Load cell v) (binding own n v) world)) (block_is world.blocks h b blocks) in
      subst (λ r. SameEffect own world (suc n) (number x n numbers) (load_block x b (source.block_at h b) h vars) r) (sym at) (load_alive x b (source.block_at h b) room)

  pub load_same : (x y : Name) → n < length own.env → SameEffect own world (suc n) (number x n numbers) (load_at x (vars y) h vars) (effect_of next blank (c.Load n (c.Whole (numbers y)) false) own world)
  load_same x y room = load_by x y (vars y) room refl

  -- a free
  free_alive : (b : ℕ) (o : Option HeapBlock) → SameEffect own world n numbers (free_block b o h vars) (chain (chain (alive_as o) (λ block. Ok (slice_set world.blocks b None))) (λ bs. past (act.Free b) own (with_blocks world bs)))
  free_alive b None = refl
  free_alive b (Some block) = record {
    env = own.env;
    after = with_blocks world (slice_set world.blocks b None);
    is = refl;
    locals = locals;
    room = refl;
    blocks = ap (λ bs. slice_set bs b None) blocks ∙ sym (map_set (option_map c_block) h b None);
    locks = refl;
    input = refl;
    outputs = sym (append-nil world.outputs);
  }

  free_by : (y : Name) (o : Option Value) → vars y ≡ o → SameEffect own world n numbers (free_at o h vars) (chain (local_of own.env (numbers y)) (freed own world))
  free_by y None k = tt
  free_by y (Some (Number z)) k = tt
  free_by y (Some (Truth b)) k = tt
  free_by y (Some Null) k = ap (λ r. chain r (freed own world)) (local_value n numbers vars own.env y Null locals k)
  free_by y (Some (values.Block b)) k =
      let at : chain (local_of own.env (numbers y)) (freed own world) ≡ chain (chain (alive_as (source.block_at h b)) (λ block. Ok (slice_set world.blocks b None))) (λ bs. past (act.Free b) own (with_blocks world bs)) =
      ap (λ r. chain r (freed own world)) (local_value n numbers vars own.env y (values.Block b) locals k)
      ∙ ap (λ r. chain (chain r (λ block. Ok (slice_set world.blocks b None))) (λ bs. past (act.Free b) own (with_blocks world bs))) (block_is world.blocks h b blocks) in
      subst (λ r. SameEffect own world n numbers (free_block b (source.block_at h b) h vars) r) (sym at) (free_alive b (source.block_at h b))

  pub free_same : (y : Name) → SameEffect own world n numbers (free_at (vars y) h vars) (effect_of next blank (c.Free (numbers y)) own world)
  free_same y = free_by y (vars y) refl
