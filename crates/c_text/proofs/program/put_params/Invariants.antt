use Rattle.std.proofs.Common.{◌≡◌, ◌++◌, map, drop}
use Rattle.c_syntax.specs.Text.{behind_commas, type_text, local_text}
use Rattle.c_text.proofs.program.put_params.Given as goal

abbrev pub invariant-loop-param : goal.invariant-loop-param
invariant-loop-param l =
    l.out.items ++ behind_commas (map (λ q. type_text q.kind ++ local_text q.local) (drop l.param-index l.others))
    ≡ l.initial.out.items ++ behind_commas (map (λ q. type_text q.kind ++ local_text q.local) l.others)
