-- What the code finds of a function is what the definition says of it.
use Rattle.std.proofs.Common.{◌≡◌, true, Some, map, sym, ap, ◌∙◌}
use Rattle.std.specs.Prelude.{if◌then◌else◌, codes}
use Rattle.std.specs.Str.{bytes_eq}
use Rattle.pl_syntax.specs.declared.program.FunDecl as fun
use Rattle.pl_syntax.specs.Plain.{plain_stmt, plain_fun, plain_block}
use Rattle.pl_syntax.specs.Tree.{list_of}
use Rattle.pl_syntax.specs.Unbuilt.{first_other, is_bare, unbuilt_in_fun}
use Rattle.pl_syntax.proofs.TreeLaws.{block_list}
use Rattle.pl_syntax.proofs.StraightLaws.{all_true}

pub bare_main : (f : fun.FunDecl) → bytes_eq f.name (codes "main") ≡ true → is_bare (plain_fun f) ≡ true → first_other (map plain_stmt f.body.list) ≡ unbuilt_in_fun (plain_fun f)
bare_main f name bare = ap first_other (sym (block_list f.body)) ∙ sym (ap (λ b. if b then first_other (list_of (plain_block f.body)) else Some f.pos) (all_true (bytes_eq f.name (codes "main")) (is_bare (plain_fun f)) name bare))
