-- The pieces of which lines are made, and their texts.
use Rattle.std.specs.Prelude.{ℕ, List, map}
use Rattle.c_syntax.specs.declared.kind.CType.TheVariants as kind
use Rattle.c_syntax.specs.Plain.{plain_expr, plain_cell}
use Rattle.c_syntax.specs.Text.{type_text, local_text, expr_text, cell_text, call_text, function_name, member_name, struct_name, arguments_name, starter_name, argument_name, maker}
use Rattle.c_syntax.specs.Tree as t
use Rattle.c_text.specs.declared.lines.Piece.{Piece}
use Rattle.c_text.specs.declared.lines.Piece.TheVariants as p

abbrev pub piece_text : Piece → List ℕ
piece_text (p.Text text) = text.now
piece_text (p.Type type) = type_text type.now
piece_text (p.Local x) = local_text x.now
piece_text (p.Expr e) = expr_text (plain_expr e.now)
piece_text (p.Cell cell) = cell_text (plain_cell cell.now)
piece_text (p.Call f args) = call_text f.now (map plain_expr args.now)
piece_text (p.Function f) = function_name f.now
piece_text (p.Member m) = member_name m.now
piece_text (p.Struct s) = struct_name s.now
piece_text (p.StructPointer s) = type_text (kind.PtrStruct s.now)
piece_text (p.Field x m) = cell_text (t.Field x.now m.now)
piece_text (p.Maker type) = maker type.now
piece_text (p.Arguments f) = arguments_name f.now
piece_text (p.Argument k) = argument_name k
piece_text (p.Starter f) = starter_name f.now
