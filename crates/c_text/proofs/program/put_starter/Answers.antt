use Rattle.std.proofs.Common.{[], ◌∷◌}
use Rattle.std.specs.Prelude.{codes}
use Rattle.c_syntax.specs.Text.{line, statement, function_name, arguments_name, starter_name, commas, handed_arguments}
use Rattle.c_text.proofs.Texts.{pushed, pushed_last}
use Rattle.c_text.proofs.program.put_starter.Goals as goal

pub returns : goal.returns
returns c =
    let f = c.args.function.now in
    let out = c.args.out.now.items in
    let head = line 0 (codes "static int " ∷ starter_name f.name ∷ codes "(void *p) {" ∷ []) in
    let given = statement 1 (arguments_name f.name ∷ codes " *q = p" ∷ []) in
    let taken = statement 1 (arguments_name f.name ∷ codes " c = *q" ∷ []) in
    let freed = statement 1 (codes "free(q)" ∷ []) in
    let call = statement 1 (function_name f.name ∷ codes "(" ∷ commas (handed_arguments 1 f.params) ∷ codes ")" ∷ []) in
    pushed_last c.put.result out (head ∷ given ∷ taken ∷ freed ∷ []) call (codes "  return 0;\n}\n") c.put_first_call.new.out.items c.put.new.out.items
    (pushed out (head ∷ given ∷ taken ∷ []) freed call c.put_arguments_taken.new.out.items c.put_first_call.new.out.items
    c.in_ok-put_arguments_taken.ensures c.in_ok-put_first_call.ensures) c.put.ensures
