-- The pieces of which texts are made, and their texts.
use Rattle.std.specs.Prelude.{ℕ, List, map}
use Rattle.pl_syntax.specs.Plain.{plain_expr, plain_cell, plain_instance}
use Rattle.pl_print.specs.ExprText.{value_text, sum_text, cell_text, call_text, instance_text, label_text, perm_text, last_perm_text, binders_text}
use Rattle.pl_print.specs.declared.pieces.Piece.{Piece}
use Rattle.pl_print.specs.declared.pieces.Piece.TheVariants as p

abbrev pub piece_text : Piece → List ℕ
piece_text (p.Text text) = text.now
piece_text (p.Name name) = name.now
piece_text (p.Expr e) = value_text (plain_expr e.now)
piece_text (p.Sum e) = sum_text (plain_expr e.now)
piece_text (p.Cell cell) = cell_text (plain_cell cell.now)
piece_text (p.Call f args) = call_text f.now (map plain_expr args.now)
piece_text (p.Instance i) = instance_text (plain_instance i.now)
piece_text (p.Label label) = label_text label.now
piece_text (p.Perm perm) = perm_text perm.now
piece_text (p.LastPerm perm) = last_perm_text perm.now
piece_text (p.Binders binders) = binders_text binders.now
