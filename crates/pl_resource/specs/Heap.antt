-- The blocks of a heap, and what each use of them answers.
use Rattle.std.specs.Prelude.{◌≡◌, ℕ, ℤ, ◌-◌, ◌^◌, ◌<◌, ◌≤◌, Bool, true, false, not, if◌then◌else◌, List, [], Option, Some, None, Result, Ok, Err, replicate, slice_get, slice_index_or, slice_set}
use Rattle.std.specs.Ordering.{int_eq}
use Rattle.pl_resource.specs.Faults.{chain}
use Rattle.pl_resource.specs.declared.value.Value.{Value}
use Rattle.pl_resource.specs.declared.value.Value.TheVariants as value
use Rattle.pl_resource.specs.declared.value.Cell.{Cell}
use Rattle.pl_resource.specs.declared.value.Fault.{Fault}
use Rattle.pl_resource.specs.declared.value.Fault.TheVariants.{Dead, Outside, Kind}

-- a block that is alive: whether its cells are atomic, and its elements, each the list of its fields.
-- An array has elements of one field, and a struct is one element
pub record Block : Type 0 where
  pub atomic : Bool
  pub elements : List (List Value)

-- the blocks that were made, by their numbers; none where one was freed
abbrev pub Blocks : Type 0
Blocks = List (Option Block)

-- a heap: its blocks, and the fields and the count of elements of the next block where there is room for it
pub record Store : Type 0 where
  pub blocks : Blocks
  pub room : Option (ℕ × ℕ)

-- how many fields an element may have
abbrev pub IsFields : ℕ → Type 0
IsFields fields = (1 ≤ fields) × (fields < 2 ^ 32 - 1)

-- how many elements a block may have
abbrev pub IsCount : ℕ → Type 0
IsCount count = (1 ≤ count) × (count ≤ 1048576)

-- there is room for a block of so many fields and elements
abbrev pub HasRoom : Option (ℕ × ℕ) → ℕ → ℕ → Type 0
HasRoom room fields count = room ≡ Some (fields, count)

-- a new block: each element has these first values
abbrev pub made : Bool → List Value → ℕ → Block
made atomic first count = record { atomic = atomic; elements = replicate count first }

-- a block that is alive: else `Dead`, since it was never made or was freed
abbrev pub if_alive : Option (Option Block) → Result Block Fault
if_alive None = Err Dead
if_alive (Some None) = Err Dead
if_alive (Some (Some block)) = Ok block

-- the block of that number
abbrev pub block_of : Blocks → ℕ → Result Block Fault
block_of blocks number = if_alive (slice_get blocks number)

-- a value that is there: else `Outside`
abbrev pub if_there : Option Value → Result Value Fault
if_there None = Err Outside
if_there (Some held) = Ok held

-- the element of that index; one that isn't there has no field
abbrev pub element_of : Block → ℕ → List Value
element_of block index = slice_index_or block.elements index []

-- the value of a cell of the block: its index and then its field must be there
abbrev pub value_of : Block → Cell → Result Value Fault
value_of block cell = if_there (slice_get (element_of block cell.index) cell.field)

-- the block with another value in that cell
abbrev pub put_in : Block → Cell → Value → Block
put_in block cell new =
    record block { elements = slice_set block.elements cell.index (slice_set (element_of block cell.index) cell.field new) }

-- whether two marks are the same
abbrev pub same_mark : Bool → Bool → Bool
same_mark true other = other
same_mark false other = not other

-- whether a cell of the one value may hold the other: they are of one variant, and a pointer is null or a block
abbrev pub same_kind : Value → Value → Bool
same_kind (value.Int a) (value.Int b) = true
same_kind (value.Truth a) (value.Truth b) = true
same_kind value.Null value.Null = true
same_kind value.Null (value.Block b) = true
same_kind (value.Block a) value.Null = true
same_kind (value.Block a) (value.Block b) = true
same_kind (value.Lock a) (value.Lock b) = true
same_kind _ _ = false

-- a load from a block: after `Outside`, `Kind` where the block's mark is not that of the use
abbrev pub load_in : Block → Cell → Bool → Result Value Fault
load_in block cell atomic =
    chain (value_of block cell) (λ held.
    if same_mark block.atomic atomic then Ok held else Err Kind)

-- a store into a block: the block after it, and `Kind` too where the new value is of another kind
abbrev pub store_in : Block → Cell → Bool → Value → Result Block Fault
store_in block cell atomic new =
    chain (load_in block cell atomic) (λ held.
    if same_kind held new then Ok (put_in block cell new) else Err Kind)

-- a compare-and-swap of a cell that holds that value: the number seen, whether it was the old one, and the block after it
abbrev pub swap_in : Block → Cell → Value → ℤ → ℤ → Result (ℤ × Bool × Block) Fault
swap_in block cell (value.Int seen) old new =
    if int_eq seen old then Ok (seen, true, put_in block cell (value.Int new)) else Ok (seen, false, block)
swap_in block cell _ old new = Err Kind

-- a compare-and-swap in a block, which is atomic and of numbers
abbrev pub cas_in : Block → Cell → ℤ → ℤ → Result (ℤ × Bool × Block) Fault
cas_in block cell old new = chain (load_in block cell true) (λ held. swap_in block cell held old new)

-- a load: the value of the cell
abbrev pub load_of : Blocks → Cell → Bool → Result Value Fault
load_of blocks cell atomic = chain (block_of blocks cell.block) (λ block. load_in block cell atomic)

-- a store: the blocks after it
abbrev pub store_of : Blocks → Cell → Bool → Value → Result Blocks Fault
store_of blocks cell atomic new =
    chain (block_of blocks cell.block) (λ block.
    chain (store_in block cell atomic new) (λ after.
    Ok (slice_set blocks cell.block (Some after))))

-- a compare-and-swap: the number seen, whether it was the old one, and the blocks after it
abbrev pub cas_of : Blocks → Cell → ℤ → ℤ → Result (ℤ × Bool × Blocks) Fault
cas_of blocks cell old new =
    chain (block_of blocks cell.block) (λ block.
    chain (cas_in block cell old new) (λ swap.
    Ok (swap.0, swap.1, slice_set blocks cell.block (Some swap.2))))

-- a free: the blocks after it
abbrev pub free_of : Blocks → ℕ → Result Blocks Fault
free_of blocks number = chain (block_of blocks number) (λ block. Ok (slice_set blocks number None))

-- what a compare-and-swap leaves: its fault, or else its answer and what is there after it
abbrev pub swap_leaves : {A : Type 0} → Result (ℤ × Bool) Fault → A → Result (ℤ × Bool × A) Fault
swap_leaves (Ok answer) after = Ok (answer.0, answer.1, after)
swap_leaves (Err fault) after = Err fault
