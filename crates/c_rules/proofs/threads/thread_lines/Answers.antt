use Rattle.std.proofs.Common.{◌≡◌, ◌∙◌, ◌+◌, ap, arith, length, map, flat_map}
use Rattle.c_syntax.specs.declared.kind.CType.TheVariants as kind
use Rattle.c_syntax.specs.Text.{indent, arguments_name}
use Rattle.c_forms.specs.Plain.{plain_expr, plain_par}
use Rattle.c_forms.specs.Text.{argument_text}
use Rattle.c_rules.specs.Least.{earlier, least}
use Rattle.c_rules.specs.Lines.{call_breaches, made_text, fork_text}
use Rattle.c_rules.specs.Locals.{bound_from}
use Rattle.c_rules.specs.Sorts.{unless}
use Rattle.c_rules.specs.Tables.{known_of}
use Rattle.c_rules.proofs.ThreadLaws.{par_is, made_length, fork_length}
use Rattle.c_rules.proofs.threads.thread_lines.Goals as goal

pub returns-clause-least : goal.returns-clause-least
returns-clause-least c =
    let p = plain_par c.args.p.now in
    let n = c.args.level in
    let at = c.args.at in
    let first = c.indented-first.result + 7 in
    let size = c.name_end-size.result + 26 in
    let handed = c.name_end-begin.result + 4 in
    let starter = c.indented-starter.result + 18 in
    let call = c.indented.result in
    let i = c.indented-first.ensures in
    let s = c.name_end-size.ensures in
    let b = c.name_end-begin.ensures in
    let j = c.indented-starter.ensures in
    let k = c.name_end-next.ensures in
    let m = c.indented.ensures in
    let t = c.thread-part.ensures.end in
    let l = made_length n p in
    let f = fork_length n p in
    let e1 : first ≡ at + length (indent n) + 7 = omega arith in
    let e2 : size ≡ at + length (indent n) + 7 + length (arguments_name p.structure) + 19 = omega arith in
    let e3 : handed ≡ at + length (made_text n p) = omega arith in
    let e4 : starter ≡ at + length (made_text n p) + length (flat_map (argument_text n) p.arguments) + length (indent n) + 18 = omega arith in
    let e5 : call ≡ at + length (made_text n p) + length (flat_map (argument_text n) p.arguments) + length (fork_text n p) + length (indent n) = omega arith in
    let sized = c.unless-sized.ensures ∙ ap (λ v. least (unless v size)) c.same.ensures.test in
    let started = c.unless-started.ensures ∙ ap (λ v. least (unless v starter)) c.same-2.ensures.test in
    let whole : c.earlier-3.result ≡ earlier (earlier (earlier c.thread-part.result.least c.unless-sized.result) c.unless-started.result) c.call-other.result.least =
    c.earlier-3.ensures ∙ ap (λ v. earlier v c.call-other.result.least) (c.earlier-2.ensures ∙ ap (λ v. earlier v c.unless-started.result) c.earlier.ensures) in
    let other = c.call-other.ensures.least ∙ ap (λ args. least (call_breaches (known_of c.args.tables.now).heads (bound_from 1 c.args.locals.now.slots.items) kind.Void call p.other (map plain_expr args))) c.as_slice.ensures in
    whole
    ∙ par_is (known_of c.args.tables.now) (bound_from 1 c.args.locals.now.slots.items) n at p first size handed starter call
    c.thread-part.result.least c.unless-sized.result c.unless-started.result c.call-other.result.least
    e1 e2 e3 e4 e5 c.thread-part.ensures.least sized started other
