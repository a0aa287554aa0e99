use Rattle.std.proofs.Common.{◌≡◌, map, ap, ◌∙◌}
use Rattle.std.specs.Prelude.{filter}
use Rattle.c_meaning.specs.Events.{next_of}
use Rattle.c_meaning.specs.States.{shown, runs}
use Rattle.c_runner.specs.Kept.{is_live}
use Rattle.c_runner.specs.Standings.{stands, has_moved, race_moved, race_among, end_with}
use Rattle.c_runner.proofs.Moved.{moved_is}
use Rattle.c_runner.proofs.outlook.Outlook.renew_all.Goals as goal

pub returns-clause-end : goal.returns-clause-end
returns-clause-end c =
    let xs = c.args.self.now.unfinished.items in
    let t = c.args.stepped in
    let n = c.args.made in
    let stand = next_of (runs c.args.state.now) (shown c.args.state.now) in
    let all : c.look.new.standings.items ≡ map (stands stand) xs = c.look.ensures.standings ∙ ap (map (stands stand)) c.as_slice.ensures.value in
    let moved : c.deref-2.result.now ≡ filter (has_moved t n) (map (stands stand) xs) = c.deref-2.ensures.value ∙ (c.keep_moved.ensures ∙ ap (filter (has_moved t n)) (c.deref.ensures.value ∙ all)) in
    let race : c.race_moved-race.result ≡ race_among (map (stands stand) xs) = c.race_moved-race.ensures ∙ (ap (λ z. race_moved t n z c.deref-3.result.now) moved ∙ (ap (race_moved t n (filter (has_moved t n) (map (stands stand) xs))) (c.deref-3.ensures.value ∙ all) ∙ moved_is stand (is_live (shown c.args.state.now)) t n c.requires.quiet xs c.requires.live)) in
    c.end_with-self.ensures
    ∙ (ap (λ z. end_with z c.deref-4.result.now c.deref-5.result.now c.args.bound c.args.count) race
    ∙ (ap (λ z. end_with (race_among (map (stands stand) xs)) z c.deref-5.result.now c.args.bound c.args.count) (c.deref-4.ensures.value ∙ all)
    ∙ ap (λ z. end_with (race_among (map (stands stand) xs)) (map (stands stand) xs) z c.args.bound c.args.count) c.deref-5.ensures.value))
