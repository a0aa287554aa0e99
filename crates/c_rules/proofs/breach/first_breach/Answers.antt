use Rattle.std.proofs.Common.{◌≡◌, ◌∙◌, ap, map}
use Rattle.c_forms.specs.Plain.{plain_fun, plain_source}
use Rattle.c_rules.specs.Groups.{started}
use Rattle.c_rules.specs.Least.{earlier}
use Rattle.c_rules.specs.Seen.{taken_in}
use Rattle.c_rules.specs.Tables.{known_of}
use Rattle.c_rules.proofs.WholeFound.{whole_found}
use Rattle.c_rules.proofs.breach.first_breach.Goals as goal

pub returns : goal.returns
returns c =
    let structs = c.in_ok-structs.structs in
    let prototypes = c.in_ok-prototypes.prototypes in
    let starters = c.look_starters-starters.result in
    let funs = c.in_ok-funs.funs in
    let main = c.unless-main.result in
    c.earlier-3.ensures
    ∙ ap (λ x. earlier x main) (c.earlier-2.ensures ∙ ap (λ x. earlier x funs.least) (c.earlier.ensures ∙ ap (λ x. earlier x starters.least) c.earlier-declared.ensures))
    ∙ whole_found (plain_source c.args.source.now) (known_of c.in_ok-tables.tables) (taken_in c.new-seen.result) (taken_in c.look_structs.new.seen)
    c.as_slice-2.result.now c.as_slice-written.result.now c.as_slice-3.result.now (map plain_fun c.as_slice-list.result.now) (map (λ h. h.now) c.as_slice-4.result.now)
    c.prelude_len-begin.result structs.end prototypes.end starters.end funs.end
    structs.least prototypes.least starters.least funs.least main c.has_main.result
    c.in_ok-tables.ensures c.new-seen.ensures c.in_ok-structs.ensures.seen
    c.as_slice-2.ensures c.as_slice-written.ensures c.as_slice-3.ensures (ap (map plain_fun) c.as_slice-list.ensures)
    (ap (map (λ h. h.now)) c.as_slice-4.ensures.value ∙ c.in_ok-heads.ensures ∙ ap (λ xs. started (map plain_fun xs)) c.as_slice-list.ensures)
    c.prelude_len-begin.ensures c.in_ok-structs.ensures.end c.in_ok-prototypes.ensures.end c.look_starters-starters.ensures.end c.in_ok-funs.ensures.end
    c.in_ok-structs.ensures.least c.in_ok-prototypes.ensures.least c.look_starters-starters.ensures.least c.in_ok-funs.ensures.least c.unless-main.ensures
    c.has_main.ensures
