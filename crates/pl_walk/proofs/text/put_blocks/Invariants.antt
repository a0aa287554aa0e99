use Rattle.std.proofs.Common.{◌≡◌, take}
use Rattle.std.specs.List.{flat_map}
use Rattle.pl_walk.specs.Texts.{names_of, block_text}
use Rattle.pl_walk.proofs.text.put_blocks.Given as goal

abbrev pub invariant-loop-block : goal.invariant-loop-block
invariant-loop-block l = l.out.items ≡ flat_map (block_text (names_of l.blocks)) (take l.block-index l.blocks)
