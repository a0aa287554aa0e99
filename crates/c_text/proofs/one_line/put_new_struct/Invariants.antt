use Rattle.std.proofs.Common.{◌≡◌, ◌++◌, map, drop, flat_map}
use Rattle.c_syntax.specs.Plain.{plain_init}
use Rattle.c_syntax.specs.Text.{init_text}
use Rattle.c_text.proofs.one_line.put_new_struct.Given as goal

abbrev pub invariant-loop-init : goal.invariant-loop-init
invariant-loop-init l =
    l.out.items ++ flat_map (init_text l.level l.x) (map plain_init (drop l.init-index l.inits))
    ≡ l.initial.out.items ++ flat_map (init_text l.level l.x) (map plain_init l.inits)
