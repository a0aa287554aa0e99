use Rattle.std.proofs.Common.{◌≡◌, ◌∙◌, sym, ap, length, map, drop}
use Rattle.c_forms.specs.Plain.{plain_fun, plain_source}
use Rattle.c_syntax.specs.Rules.{members_of}
use Rattle.c_rules.specs.Groups.{among, head_of, struct_of}
use Rattle.c_rules.proofs.KnownLaws.{known_same, dropped_names}
use Rattle.c_rules.proofs.declared_names.tables_of.Goals as goal

pub returns : goal.returns
returns c =
    let source = plain_source c.args.source.now in
    let heads = c.args.heads.now in
    known_same c.in_ok-structs.structs c.in_ok-table.table c.in_ok-missing.missing source
    (c.in_ok-structs.ensures ∙ ap (λ xs. members_of (map struct_of xs)) c.as_slice.ensures)
    (c.in_ok-table.ensures ∙ ap (λ xs. head_of (map (λ f. f.head) (map plain_fun xs))) c.as_slice-2.ensures)
    (c.in_ok-missing.ensures ∙ ap (λ xs. among (map (λ h. h.name) (map (λ h. h.now) xs))) c.heads_behind-left.ensures
    ∙ dropped_names heads (length c.as_slice-3.result.now) (length source.starters) source c.requires (ap length c.as_slice-3.ensures))
