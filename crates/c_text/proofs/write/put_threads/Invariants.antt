use Rattle.std.proofs.Common.{◌≡◌, ◌++◌, drop, flat_map, filter, map}
use Rattle.c_syntax.specs.Plain.{plain_fun}
use Rattle.c_syntax.specs.Text.{is_started, starter_text}
use Rattle.c_text.proofs.write.put_threads.Given as goal

abbrev pub invariant-loop-function : goal.invariant-loop-function
invariant-loop-function l =
    l.out.items ++ flat_map starter_text (filter (is_started (map plain_fun l.funs)) (map plain_fun (drop l.function-index l.funs)))
    ≡ l.initial.out.items ++ flat_map starter_text (filter (is_started (map plain_fun l.funs)) (map plain_fun l.funs))
