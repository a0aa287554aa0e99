use Rattle.std.proofs.Common.{◌≡◌, ◌++◌, map, drop}
use Rattle.pl_print.specs.Lists.{joined}
use Rattle.pl_print.specs.Pieces.{piece_text}
use Rattle.pl_print.proofs.pieces.put_pieces.Given as goal

abbrev pub invariant-loop-piece : goal.invariant-loop-piece
invariant-loop-piece l =
    l.out.items ++ joined (map piece_text (drop l.piece-index l.pieces)) l.last
    ≡ l.initial.out.items ++ joined (map piece_text l.pieces) l.last
