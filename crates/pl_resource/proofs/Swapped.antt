-- A compare-and-swap in a block is one in the heap that has the block.
use Rattle.std.proofs.Common.{◌≡◌, ℕ, ◌<◌, ℤ, Bool, Option, Some, Result, Ok, Err, refl, length, get_or}
use Rattle.std.specs.Prelude.{slice_set}
use Rattle.std.proofs.lemmas.Option.{slice_get_read}
use Rattle.pl_resource.specs.Heap.{Block, Blocks, block_of, cas_in, cas_of, swap_leaves}
use Rattle.pl_resource.specs.declared.value.Cell.{Cell}
use Rattle.pl_resource.specs.declared.value.Fault.{Fault}

-- a block that was read
pub block_read : (blocks : Blocks) (number : ℕ) (slot : Option Block) (block : Block) → number < length blocks
    → slot ≡ get_or blocks number slot → slot ≡ Some block → block_of blocks number ≡ Ok block
block_read blocks number slot block below read is = rw (slice_get_read blocks (length blocks) number slot refl below read, is) refl

pub cas_of_block : (result : Result (ℤ × Bool) Fault) (blocks : Blocks) (block after : Block) (cell : Cell) (old new : ℤ)
    → block_of blocks cell.block ≡ Ok block → swap_leaves result after ≡ cas_in block cell old new
    → swap_leaves result (slice_set blocks cell.block (Some after)) ≡ cas_of blocks cell old new
cas_of_block (Ok seen) blocks block after cell old new is swaps = rw (is, ← swaps) refl
cas_of_block (Err fault) blocks block after cell old new is swaps = rw (is, ← swaps) refl
