-- Laws of a heap, as its uses are defined: a cell keeps what was last stored in it until its block is freed.
use Rattle.std.proofs.Common.{◌≡◌, ◌≢◌, ℕ, zero, suc, ◌<◌, inl, inr, Bool, true, false, List, [], ◌∷◌, ◌++◌, Option, Some, None, Result, Ok, Err, length, get_or, set, replicate, arith, refl, ap, ◌∙◌, if◌then◌else◌}
use Rattle.std.specs.Prelude.{slice_get}
use Rattle.std.proofs.lemmas.List.{get_or-set_same, get_or-set_other}
use Rattle.std.proofs.lemmas.Bool.{cases_eq}
use Rattle.pl_resource.specs.Faults.{chain}
use Rattle.pl_resource.specs.Heap.{Block, Blocks, made, if_alive, block_of, if_there, element_of, value_of, put_in, same_mark, same_kind, load_in, store_in, load_of, store_of, free_of}
use Rattle.pl_resource.specs.declared.value.Value.{Value}
use Rattle.pl_resource.specs.declared.value.Cell.{Cell}
use Rattle.pl_resource.specs.declared.value.Fault.{Fault}
use Rattle.pl_resource.specs.declared.value.Fault.TheVariants.{Dead, Kind}

-- what comes before an `Ok`
chain_ok : {A B : Type 0} (first : Result A Fault) (next : A → Result B Fault) (b : B) → chain first next ≡ Ok b
    → (a : A) × (first ≡ Ok a) × (next a ≡ Ok b)
chain_ok (Ok a) next b is = (a, refl, is)
chain_ok (Err fault) next b is = absurd (cc)

test_ok : {A : Type 0} (test : Bool) (fault : Fault) (a b : A) → (if test then Ok a else Err fault) ≡ Ok b
    → (test ≡ true) × (a ≡ b)
test_ok true fault a b is = (refl, cc)
test_ok false fault a b is = absurd (cc)

same_mark_is : (mark : Bool) → same_mark mark mark ≡ true
same_mark_is true = refl
same_mark_is false = refl

alive_ok : (slot : Option (Option Block)) (block : Block) → if_alive slot ≡ Ok block → slot ≡ Some (Some block)
alive_ok None block is = absurd (cc)
alive_ok (Some None) block is = absurd (cc)
alive_ok (Some (Some found)) block is = cc

there_ok : (slot : Option Value) (held : Value) → if_there slot ≡ Ok held → slot ≡ Some held
there_ok None held is = absurd (cc)
there_ok (Some found) held is = cc

module _ {A : Type 0} where
  get_set_same : (xs : List A) (i : ℕ) (x y : A) → slice_get xs i ≡ Some x → slice_get (set xs i y) i ≡ Some y
  get_set_same [] i x y is = absurd (cc)
  get_set_same (z ∷ zs) zero x y is = refl
  get_set_same (z ∷ zs) (suc i) x y is = get_set_same zs i x y is

  get_set_other : (xs : List A) (i j : ℕ) (y : A) → j ≢ i → slice_get (set xs i y) j ≡ slice_get xs j
  get_set_other [] i j y other = refl
  get_set_other (z ∷ zs) zero zero y other = absurd (other refl)
  get_set_other (z ∷ zs) zero (suc j) y other = refl
  get_set_other (z ∷ zs) (suc i) zero y other = refl
  get_set_other (z ∷ zs) (suc i) (suc j) y other = get_set_other zs i j y (λ same. other (ap suc same))

  get_last : (xs : List A) (y : A) → slice_get (xs ++ y ∷ []) (length xs) ≡ Some y
  get_last [] y = refl
  get_last (z ∷ zs) y = get_last zs y

  get_before : (xs : List A) (y : A) (i : ℕ) → i < length xs → slice_get (xs ++ y ∷ []) i ≡ slice_get xs i
  get_before [] y i below = absurd (omega (arith, below))
  get_before (z ∷ zs) y zero below = refl
  get_before (z ∷ zs) y (suc i) below = get_before zs y i (omega (arith, below))

  get_replicate : (n : ℕ) (x d : A) (i : ℕ) → i < n → get_or (replicate n x) i d ≡ x
  get_replicate zero x d i below = absurd (omega (arith, below))
  get_replicate (suc n) x d zero below = refl
  get_replicate (suc n) x d (suc i) below = get_replicate n x d i (omega (arith, below))

  -- a list in a list of lists that has an item is one of them
  list_there : (xs : List (List A)) (i j : ℕ) (x : A) → slice_get (get_or xs i []) j ≡ Some x → i < length xs
  list_there [] i j x is = absurd (cc)
  list_there (y ∷ ys) zero j x is = omega arith
  list_there (y ∷ ys) (suc i) j x is = omega (arith, list_there ys i j x is)

block_set : (blocks : Blocks) (number : ℕ) (block after : Block) → block_of blocks number ≡ Ok block
    → block_of (set blocks number (Some after)) number ≡ Ok after
block_set blocks number block after is =
    ap if_alive (get_set_same blocks number (Some block) (Some after) (alive_ok (slice_get blocks number) block is))

-- a store into a block: the cell was there, and holds the new value
record IsStored (block : Block) (cell : Cell) (new : Value) (atomic : Bool) (after : Block) : Type 0 where
  held : Value
  was : value_of block cell ≡ Ok held
  mark : same_mark block.atomic atomic ≡ true
  is : put_in block cell new ≡ after

stored_in : (block : Block) (cell : Cell) (atomic : Bool) (new : Value) (after : Block)
    → store_in block cell atomic new ≡ Ok after → IsStored block cell new atomic after
stored_in block cell atomic new after is =
    let keep = λ (held : Value). if same_kind held new then Ok (put_in block cell new) else Err Kind in
    let look = λ (held : Value). if same_mark block.atomic atomic then Ok held else Err Kind in
    let stored = chain_ok (load_in block cell atomic) keep after is in
    let loaded = chain_ok (value_of block cell) look stored.0 stored.1 in
    record {
      held = loaded.0;
      was = loaded.1;
      mark = (test_ok (same_mark block.atomic atomic) Kind loaded.0 stored.0 loaded.2).0;
      is = (test_ok (same_kind stored.0 new) Kind (put_in block cell new) after stored.2).1;
    }

-- the element with the cell that was put
element_of-put_in : (block : Block) (cell : Cell) (held new : Value) → value_of block cell ≡ Ok held
    → element_of (put_in block cell new) cell.index ≡ set (element_of block cell.index) cell.field new
element_of-put_in block cell held new was =
    let there = there_ok (slice_get (element_of block cell.index) cell.field) held was in
    get_or-set_same block.elements cell.index _ [] (list_there block.elements cell.index cell.field held there)

value_of-put_in : (block : Block) (cell : Cell) (held new : Value) → value_of block cell ≡ Ok held
    → value_of (put_in block cell new) cell ≡ Ok new
value_of-put_in block cell held new was =
    let there = there_ok (slice_get (element_of block cell.index) cell.field) held was in
    ap (λ (xs : List Value). if_there (slice_get xs cell.field)) (element_of-put_in block cell held new was)
    ∙ ap if_there (get_set_same (element_of block cell.index) cell.field held new there)

-- a store: the block was alive, and has the new value
record StoresIn (blocks : Blocks) (cell : Cell) (new : Value) (atomic : Bool) (after : Blocks) : Type 0 where
  block : Block
  next : Block
  alive : block_of blocks cell.block ≡ Ok block
  stored : IsStored block cell new atomic next
  is : set blocks cell.block (Some next) ≡ after

stores_in : (blocks : Blocks) (cell : Cell) (atomic : Bool) (new : Value) (after : Blocks)
    → store_of blocks cell atomic new ≡ Ok after → StoresIn blocks cell new atomic after
stores_in blocks cell atomic new after is =
    let put = λ (next : Block). Ok (set blocks cell.block (Some next)) in
    let found = chain_ok (block_of blocks cell.block) (λ block. chain (store_in block cell atomic new) put) after is in
    let stored = chain_ok (store_in found.0 cell atomic new) put after found.2 in
    record {
      block = found.0;
      next = stored.0;
      alive = found.1;
      stored = stored_in found.0 cell atomic new stored.0 stored.1;
      is = (test_ok true Kind (set blocks cell.block (Some stored.0)) after stored.2).1;
    }

-- a load of the cell that was stored gives the stored value
pub load_of-store_of : (blocks after : Blocks) (cell : Cell) (atomic : Bool) (new : Value)
    → store_of blocks cell atomic new ≡ Ok after → load_of after cell atomic ≡ Ok new
load_of-store_of blocks after cell atomic new is =
    let s = stores_in blocks cell atomic new after is in
    let there : value_of (put_in s.block cell new) cell ≡ Ok new = value_of-put_in s.block cell s.stored.held new s.stored.was in
    rw (← s.is, block_set blocks cell.block s.block s.next s.alive, ← s.stored.is, there, s.stored.mark) refl

-- the values of other cells of the block stay
value_of-put_in_other : (block : Block) (cell other : Cell) (new : Value)
    → (other.index ≡ cell.index → other.field ≢ cell.field) → (held : Value) → value_of block cell ≡ Ok held
    → value_of (put_in block cell new) other ≡ value_of block other
value_of-put_in_other block cell other new differs held was =
    elim (cases_eq other.index cell.index) [
      | inl same ↦
          rw (same, element_of-put_in block cell held new was)
          (ap if_there (get_set_other (element_of block cell.index) cell.field other.field new (differs same)))
      | inr apart ↦
          ap (λ (xs : List Value). if_there (slice_get xs other.field))
          (get_or-set_other block.elements cell.index other.index _ [] apart)
    ]

-- two cells of the same numbers are one
cell_is : (one other : Cell) → one.block ≡ other.block → one.index ≡ other.index → one.field ≡ other.field → one ≡ other
cell_is one other block index field =
    let cell : ℕ → ℕ → ℕ → Cell = λ b i f. record { block = b; index = i; field = f } in
    let e : cell one.block one.index one.field ≡ cell other.block other.index other.field = rw (block, index, field) refl in
    e

-- a load of another cell gives what it gave before the store
pub load_of-store_of_other : (blocks after : Blocks) (cell other : Cell) (atomic mark : Bool) (new : Value)
    → store_of blocks cell atomic new ≡ Ok after → other ≢ cell → load_of after other mark ≡ load_of blocks other mark
load_of-store_of_other blocks after cell other atomic mark new is differs =
    let s = stores_in blocks cell atomic new after is in
    elim (cases_eq other.block cell.block) [
      | inl same ↦
          let apart = λ (i : other.index ≡ cell.index) (f : other.field ≡ cell.field). differs (cell_is other cell same i f) in
          let kept = value_of-put_in_other s.block cell other new apart s.stored.held s.stored.was in
          rw (← s.is, same, block_set blocks cell.block s.block s.next s.alive, s.alive, ← s.stored.is, kept) refl
      | inr apart ↦ rw (← s.is, get_set_other blocks cell.block other.block (Some s.next) apart) refl
    ]

-- no cell of a freed block can be loaded
pub load_of-free_of : (blocks after : Blocks) (number : ℕ) (cell : Cell) (mark : Bool)
    → free_of blocks number ≡ Ok after → cell.block ≡ number → load_of after cell mark ≡ Err Dead
load_of-free_of blocks after number cell mark is same =
    let found = chain_ok (block_of blocks number) (λ block. Ok (set blocks number None)) after is in
    let freed : set blocks number None ≡ after = (test_ok true Kind (set blocks number None) after found.2).1 in
    rw (← freed, same, get_set_same blocks number (Some found.0) None (alive_ok (slice_get blocks number) found.0 found.1)) refl

-- a load of a cell of another block gives what it gave before the free
pub load_of-free_of_other : (blocks after : Blocks) (number : ℕ) (cell : Cell) (mark : Bool)
    → free_of blocks number ≡ Ok after → cell.block ≢ number → load_of after cell mark ≡ load_of blocks cell mark
load_of-free_of_other blocks after number cell mark is apart =
    let found = chain_ok (block_of blocks number) (λ block. Ok (set blocks number None)) after is in
    let freed : set blocks number None ≡ after = (test_ok true Kind (set blocks number None) after found.2).1 in
    rw (← freed, get_set_other blocks number cell.block None apart) refl

-- a cell of a new block holds the first value of its field
pub load_of-made : (blocks : Blocks) (atomic : Bool) (first : List Value) (count : ℕ) (cell : Cell) (held : Value)
    → cell.block ≡ length blocks → cell.index < count → slice_get first cell.field ≡ Some held
    → load_of (blocks ++ Some (made atomic first count) ∷ []) cell atomic ≡ Ok held
load_of-made blocks atomic first count cell held last inside there =
    rw (last, get_last blocks (Some (made atomic first count)), get_replicate count first [] cell.index inside, there, same_mark_is atomic) refl

-- the other cells hold what they held before the block was made
pub load_of-made_other : (blocks : Blocks) (block : Block) (cell : Cell) (mark : Bool) → cell.block < length blocks
    → load_of (blocks ++ Some block ∷ []) cell mark ≡ load_of blocks cell mark
load_of-made_other blocks block cell mark below = rw (get_before blocks (Some block) cell.block below) refl
