-- What a change of the heap does to what there is to own.
use Rattle.std.proofs.Common.{◌≡◌, ℕ, zero, suc, Option, Some, None, Bool, true, false, ◌&&◌, if◌then◌else◌, [], ◌∷◌, ◌++◌, length, refl, sym, ap, ◌∙◌, set}
use mathlib.Core.Path.{fun_ext}
use Rattle.pl_base.specs.declared.pos.Pos.{Pos}
use Rattle.pl_base.specs.Permission.{Permission, same_number}
use Rattle.pl_base.proofs.PermissionLaws.{number_sound}
use Rattle.pl_syntax.specs.Tree.{Name, Whole, Load, Free}
use Rattle.pl_syntax.specs.Values.{Value, Block, Vars}
use Rattle.pl_syntax.specs.Resource.{Mark, Place, Cell, FreeToken, Share, Resource, Adds, IsEmpty, put_at}
use Rattle.pl_syntax.specs.Holds.{Owns}
use Rattle.pl_syntax.proofs.ResourceLaws.{owned_within}
use Rattle.pl_source.specs.Machine.{HeapBlock, Heap, block_at, block_cell, block_token, resource_of, one_cell, load_at, load_block, free_at, free_block, effect, FaultsBy, DeadBlock}
use Rattle.pl_source.specs.Steps.{full, one_token, OneCells}

-- a new block
pub block_new : (h : Heap) (c : ℕ) (o : Option HeapBlock) → block_at (h ++ o ∷ []) c ≡ (if same_number (length h) c then o else block_at h c)
block_new [] zero o = refl
block_new [] (suc c) o = refl
block_new (x ∷ h) zero o = refl
block_new (x ∷ h) (suc c) o = block_new h c o

-- a changed block
pub block_set : (h : Heap) (b c : ℕ) (o : Option HeapBlock) (block : HeapBlock) → block_at h b ≡ Some block → block_at (set h b o) c ≡ (if same_number b c then o else block_at h c)
block_set [] b c o block e = cc
block_set (x ∷ h) zero zero o block e = refl
block_set (x ∷ h) zero (suc c) o block e = refl
block_set (x ∷ h) (suc b) zero o block e = refl
block_set (x ∷ h) (suc b) (suc c) o block e = block_set h b c o block e

-- no block has the next number
pub block_past : (h : Heap) → block_at h (length h) ≡ None
block_past [] = refl
block_past (x ∷ h) = block_past h

-- the cells of a block that may be another
pub cell_if : (t : Bool) (x y : Option HeapBlock) (i f : ℕ) → block_cell (if t then x else y) i f ≡ (if t then block_cell x i f else block_cell y i f)
cell_if true x y i f = refl
cell_if false x y i f = refl

-- the token of a block that may be another
pub token_if : (t : Bool) (x y : Option HeapBlock) → block_token (if t then x else y) ≡ (if t then block_token x else block_token y)
token_if true x y = refl
token_if false x y = refl

-- a new block of one cell has that cell alone
pub new_cell : (t : Bool) (w : Value) (o : Option HeapBlock) (i f : ℕ) → (t ≡ true → o ≡ None) →
    (if t then block_cell (Some (one_cell w)) i f else block_cell o i f) ≡ (if t && same_number 0 i && same_number 0 f then Some (full w) else block_cell o i f)
new_cell false w o i f h = refl
new_cell true w o zero zero h = refl
new_cell true w o zero (suc f) h = sym (ap (λ b. block_cell b 0 (suc f)) (h refl))
new_cell true w o (suc i) f h = sym (ap (λ b. block_cell b (suc i) f) (h refl))

-- an alloc adds a cell and a token
pub resource_alloc : (h : Heap) (w : Value) → resource_of (h ++ Some (one_cell w) ∷ []) ≡ put_at (Cell (length h) 0 0) (Some (full w)) (put_at (FreeToken (length h)) (Some one_token) (resource_of h))
resource_alloc h w = fun_ext (λ p. at p)
  where
    at : (p : Place) → resource_of (h ++ Some (one_cell w) ∷ []) p ≡ put_at (Cell (length h) 0 0) (Some (full w)) (put_at (FreeToken (length h)) (Some one_token) (resource_of h)) p
    at (Cell c i f) =
        ap (λ b. block_cell b i f) (block_new h c (Some (one_cell w))) ∙ cell_if (same_number (length h) c) (Some (one_cell w)) (block_at h c) i f
        ∙ new_cell (same_number (length h) c) w (block_at h c) i f (λ e. ap (block_at h) (sym (number_sound (length h) c e)) ∙ block_past h)
    at (FreeToken c) = ap block_token (block_new h c (Some (one_cell w))) ∙ token_if (same_number (length h) c) (Some (one_cell w)) (block_at h c)

-- a freed block of one cell had that cell alone
pub old_cell : (t : Bool) (w : Value) (o : Option HeapBlock) (i f : ℕ) → (t ≡ true → o ≡ Some (one_cell w)) →
    (if t then None else block_cell o i f) ≡ (if t && same_number 0 i && same_number 0 f then None else block_cell o i f)
old_cell false w o i f h = refl
old_cell true w o zero zero h = refl
old_cell true w o zero (suc f) h = sym (ap (λ b. block_cell b 0 (suc f)) (h refl))
old_cell true w o (suc i) f h = sym (ap (λ b. block_cell b (suc i) f) (h refl))

-- a free of a block of one cell takes that cell and its token
pub resource_free : (h : Heap) (b : ℕ) (w : Value) → block_at h b ≡ Some (one_cell w) → resource_of (set h b None) ≡ put_at (FreeToken b) None (put_at (Cell b 0 0) None (resource_of h))
resource_free h b w e = fun_ext (λ p. at p)
  where
    at : (p : Place) → resource_of (set h b None) p ≡ put_at (FreeToken b) None (put_at (Cell b 0 0) None (resource_of h)) p
    at (Cell c i f) =
        ap (λ o. block_cell o i f) (block_set h b c None (one_cell w) e) ∙ cell_if (same_number b c) None (block_at h c) i f
        ∙ old_cell (same_number b c) w (block_at h c) i f (λ k. ap (block_at h) (sym (number_sound b c k)) ∙ e)
    at (FreeToken c) = ap block_token (block_set h b c None (one_cell w) e) ∙ token_if (same_number b c) None (block_at h c)

-- an empty heap has nothing
pub resource_none : IsEmpty (resource_of [])
resource_none = record { none = at }
  where
    at : (p : Place) → resource_of [] p ≡ None
    at (Cell b i f) = refl
    at (FreeToken b) = refl

-- an empty heap has no block
pub one_cells_none : OneCells []
one_cells_none = record { each = λ b block e. cc }

-- one of two blocks
pub one_of : (t : Bool) (x y : Option HeapBlock) (P : HeapBlock → Type 0) → ((block : HeapBlock) → x ≡ Some block → P block) → ((block : HeapBlock) → y ≡ Some block → P block) → (block : HeapBlock) → (if t then x else y) ≡ Some block → P block
one_of true x y P h k = h
one_of false x y P h k = k

-- a new block has one cell too
pub one_cells_new : (h : Heap) (w : Value) → OneCells h → OneCells (h ++ Some (one_cell w) ∷ [])
one_cells_new h w k = record {
  each = λ b block e. one_of (same_number (length h) b) (Some (one_cell w)) (block_at h b) (λ o. (v : Value) × (o ≡ one_cell v)) (λ o q. (w, cc)) (k.each b) block (sym (block_new h b (Some (one_cell w))) ∙ e);
}

-- after a free each live block still has one cell
pub one_cells_free : (h : Heap) (b : ℕ) (old : HeapBlock) → block_at h b ≡ Some old → OneCells h → OneCells (set h b None)
one_cells_free h b old at k = record {
  each = λ c block e. one_of (same_number b c) None (block_at h c) (λ o. (v : Value) × (o ≡ one_cell v)) (λ o q. cc) (k.each c) block (sym (block_set h b c None old at) ∙ e);
}

-- a block with a share of a cell is live
pub live_cell : (o : Option HeapBlock) (w : Value) (s : Share) → ((block : HeapBlock) → o ≡ Some block → (v : Value) × (block ≡ one_cell v)) → block_cell o 0 0 ≡ Some s → s.value ≡ w → o ≡ Some (one_cell w)
live_cell None w s one e v = cc
live_cell (Some block) w s one e v =
    let r = one block refl in
    let k : Some (full r.0) ≡ Some s = sym (ap (λ b. block_cell (Some b) 0 0) r.1) ∙ e in
    let full_is : full r.0 ≡ s = cc in
    let same : r.0 ≡ w = ap (λ (t : Share). t.value) full_is ∙ v in
    ap Some (r.1 ∙ ap one_cell same)

-- where a part owns a cell, its block is live and has the value
pub owned_live : {x frame : Resource} {permission : Permission} {mark : Mark} (h : Heap) (b : ℕ) (w : Value) → OneCells h → Owns (Cell b 0 0) permission w mark x → Adds x frame (resource_of h) → block_at h b ≡ Some (one_cell w)
owned_live h b w k o a = let r = owned_within (Cell b 0 0) o a in live_cell (block_at h b) w r.0 (k.each b) r.1 r.2

-- a load of a freed block faults
pub dead_load : (place : Pos) (x c : Name) (is_ghost : Bool) (b : ℕ) (h : Heap) (vars : Vars) → vars c ≡ Some (Block b) → block_at h b ≡ None → effect (Load place x (Whole c) is_ghost) h vars ≡ FaultsBy DeadBlock
dead_load place x c is_ghost b h vars e d = ap (λ v. load_at x v h vars) e ∙ ap (λ o. load_block x b o h vars) d

-- so does a free of one
pub dead_free : (place : Pos) (x : Name) (b : ℕ) (h : Heap) (vars : Vars) → vars x ≡ Some (Block b) → block_at h b ≡ None → effect (Free place x) h vars ≡ FaultsBy DeadBlock
dead_free place x b h vars e d = ap (λ v. free_at v h vars) e ∙ ap (λ o. free_block b o h vars) d
