use Rattle.std.proofs.Common.{◌≡◌, ◌∙◌, ◌+◌, ◌∷◌, ◌++◌, sym, ap, not, map, drop}
use Rattle.pl_syntax.specs.Plain.{plain_decl}
use Rattle.pl_syntax.specs.declared.rules.Rule.TheVariants.{Twice}
use Rattle.pl_syntax.specs.Breaches.{earlier, least, unless}
use Rattle.pl_syntax.specs.DeclRules.{decl_breaches, decls_breaches, name_of, place_of}
use Rattle.pl_syntax.specs.Known.{put}
use Rattle.pl_types.specs.Tables.{known_of, taken_in}
use Rattle.pl_types.proofs.Drops.{dropped}
use Rattle.pl_types.proofs.Leasts.{fold_least, least_append}
use Rattle.pl_types.proofs.decls.look_decls.Goals as goal

pub loop-i-preserved : goal.loop-i-preserved
loop-i-preserved c =
    let list = c.args.list.now in
    let i = c.loop-i.i in
    let x = c.index-list-i.result in
    let d = plain_decl x in
    let known = known_of c.args.tables.now in
    let taken = taken_in c.loop-i.seen in
    let rest = map plain_decl (drop (i + 1) list) in
    let parts : map plain_decl (drop i list) ≡ d ∷ rest = ap (map plain_decl) (dropped list i x c.loop-i-test.true c.index-list-i.is) in
    let two = decl_breaches known i d in
    let one = unless (not (taken (name_of d))) Twice (place_of d) in
    let here : c.unless-twice.result ≡ least one =
    c.unless-twice.ensures ∙ ap (λ t. least (unless (not t) Twice c.place_of.result)) (c.has.ensures ∙ ap taken c.name_of-name.ensures)
    ∙ ap (λ p. least (unless (not (taken (name_of d))) Twice p)) c.place_of.ensures in
    let left = decls_breaches known (taken_in c.put.new.self) (i + 1) rest in
    ap (λ r. earlier r (least left)) (c.earlier-found.ensures ∙ ap (earlier c.loop-i.found) c.earlier.ensures)
    ∙ fold_least c.loop-i.found (earlier c.unless-twice.result c.in_ok-here.here) _ (one ++ two) (decls_breaches known (put (name_of d) taken) (i + 1) rest)
    (decls_breaches known taken i (map plain_decl (drop i list))) left
    (ap (decls_breaches known taken i) parts)
    (ap (λ a. earlier a c.in_ok-here.here) here ∙ ap (earlier (least one)) c.in_ok-here.ensures ∙ sym (least_append one two))
    (ap (λ t. decls_breaches known t (i + 1) rest) (c.in_ok-put.ensures ∙ ap (λ n. put n taken) c.name_of-name.ensures))
    c.loop-i.invariant
