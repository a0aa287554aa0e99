use Rattle.std.proofs.Common.{◌≡◌, ◌∙◌, ◌+◌, ◌∷◌, ap, length, map, drop}
use Rattle.c_forms.specs.Plain.{plain_load}
use Rattle.c_forms.specs.Text.{load_text}
use Rattle.c_rules.specs.Least.{earlier, least}
use Rattle.c_rules.specs.Lines.{bind, loads_breaches}
use Rattle.c_rules.specs.Locals.{scope_of}
use Rattle.c_rules.specs.Tables.{known_of}
use Rattle.c_rules.proofs.Drops.{dropped}
use Rattle.c_rules.proofs.LoadLaws.{load_end, loads_end, loads_least, loads_scope}
use Rattle.c_rules.proofs.Scopes.{grows_on}
use Rattle.c_rules.proofs.one_line.look_loads.Goals as goal

pub loop-l-preserved : goal.loop-l-preserved
loop-l-preserved c =
    let list = c.args.list.now in
    let i = c.loop-l.l-index in
    let x = plain_load c.l-item.result in
    let n = c.args.level in
    let known = known_of c.args.tables.now in
    let before = scope_of c.loop-l.locals.slots.items in
    let after = scope_of c.bind_local.new.locals.slots.items in
    let here = c.loop-l.part.end in
    let behind = c.look_load-next.result.end + 2 in
    let parts : map plain_load (drop i list) ≡ x ∷ map plain_load (drop (i + 1) list) = ap (map plain_load) (dropped list i c.l-item.result c.loop-l-test.true c.l-item.is) in
    let ends : behind ≡ here + length (load_text n x) = load_end n here c.indented.result c.look_load-next.result.end x c.indented.ensures c.look_load-next.ensures.end in
    let bound : after ≡ bind before x.local.name x.kind = c.in_ok-bind_local.ensures.scope ∙ ap (bind before x.local.name) c.kind_of.ensures in
    record {
      end = loads_end n x (map plain_load (drop (i + 1) list)) (map plain_load (drop i list)) here behind _ parts ends c.loop-l.invariant.end;
      least = ap (λ r. earlier r (least (loads_breaches known after n behind (map plain_load (drop (i + 1) list))))) c.earlier.ensures
          ∙ loads_least known before after n x (map plain_load (drop (i + 1) list)) (map plain_load (drop i list)) here behind c.indented.result
          c.loop-l.part.least c.look_load-next.result.least _ parts ends c.indented.ensures bound c.look_load-next.ensures.least c.loop-l.invariant.least;
      scope = loads_scope before after _ x (map plain_load (drop (i + 1) list)) (map plain_load (drop i list)) parts bound c.loop-l.invariant.scope;
      grows = grows_on _ _ _ c.loop-l.invariant.grows c.in_ok-bind_local.ensures.grows;
    }
