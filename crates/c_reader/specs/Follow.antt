-- Statements in a row, and others behind them.
use Rattle.std.specs.Prelude.{List, [], ◌∷◌}
use Rattle.c_syntax.specs.Tree as t

abbrev pub follow : List t.Stmt → t.Stmts → t.Stmts
follow [] rest = rest
follow (s ∷ list) rest = t.more s (follow list rest)
