use Rattle.std.proofs.Common.{◌++◌, ◌∙◌, [], ◌∷◌, ap, flat_map, filter, map}
use Rattle.c_syntax.specs.Plain.{plain_fun}
use Rattle.c_syntax.specs.PreludeText.{prelude}
use Rattle.c_syntax.specs.Text.{fun_text, is_started, main_text, program_text, prototype_text, starter_text, struct_text}
use Rattle.c_text.proofs.Texts.{pushed}
use Rattle.c_text.proofs.write.write_c.Goals as goal

pub returns : goal.returns
unfolding program_text
returns c =
    let funs = map plain_fun c.args.program.now.funs in
    let structs = flat_map struct_text c.args.program.now.structs in
    let prototypes = flat_map prototype_text funs in
    let threads = flat_map starter_text (filter (is_started funs) funs) in
    let bodies = flat_map fun_text funs in
    pushed [] (prelude ∷ structs ∷ prototypes ∷ threads ∷ []) bodies main_text c.put_funs.new.out.items c.put.new.out.items
    (pushed [] (prelude ∷ structs ∷ prototypes ∷ []) threads bodies c.put_threads.new.out.items c.put_funs.new.out.items
    (pushed [] (prelude ∷ structs ∷ []) prototypes threads c.put_prototypes.new.out.items c.put_threads.new.out.items
    (pushed [] (prelude ∷ []) structs prototypes c.put_structs.new.out.items c.put_prototypes.new.out.items
    (pushed [] [] prelude structs c.put_prelude.new.out.items c.put_structs.new.out.items
    (c.in_ok-put_prelude.ensures ∙ ap (λ z. z ++ prelude) c.new-out.ensures.items) (rw (← c.as_slice.ensures) c.in_ok-put_structs.ensures))
    (rw (← c.as_slice-funs.ensures) c.in_ok-put_prototypes.ensures)) (rw (← c.as_slice-funs.ensures) c.in_ok-put_threads.ensures))
    (rw (← c.as_slice-funs.ensures) c.in_ok-put_funs.ensures)) c.in_ok-put.ensures
