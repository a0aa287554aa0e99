use Rattle.std.proofs.Common.{◌≡◌, ◌++◌, map, flat_map, drop}
use Rattle.pl_syntax.specs.Plain.{plain_decl}
use Rattle.pl_print.specs.ProgramText.{decl_text}
use Rattle.pl_print.proofs.whole.put_decls.Given as goal

abbrev pub invariant-loop-decl : goal.invariant-loop-decl
invariant-loop-decl l =
    l.out.items ++ flat_map decl_text (map plain_decl (drop l.decl-index l.decls)) ≡ l.initial.out.items ++ flat_map decl_text (map plain_decl l.decls)
