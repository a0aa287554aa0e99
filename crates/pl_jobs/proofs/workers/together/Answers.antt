use Rattle.std.proofs.Common.{◌+◌, ◌-◌, ◌*◌, ℕ, List, ◌∙◌, ap, sym, subst}
use Rattle.std.specs.Prelude.{All}
use Rattle.std.proofs.lemmas.List.Elements.{All-append}
use Rattle.pl_jobs.specs.declared.work.Done.{Done}
use Rattle.pl_jobs.specs.Items.{Claimed}
use Rattle.pl_jobs.proofs.Claims.{claimed_both, one_more}
use Rattle.pl_jobs.proofs.workers.together.Goals as goal

pub take_in-requires-clause-table : goal.take_in-requires-clause-table
take_in-requires-clause-table g c = ((c.requires.here _ c.in_ok-seat.was).of_table, (c.requires.there _ c.in_ok-other.was).of_table, c.requires.table)

pub take_in-requires-clause-free : goal.take_in-requires-clause-free
take_in-requires-clause-free g c = (c.requires.there _ c.in_ok-other.was).free

pub returns : goal.returns
returns g c =
    let T = g.row.W-Out.Denot in
    let items = c.args._items in
    let a = c.requires.here (c.in_ok-seat.seat, c.in_ok-seat.done) c.in_ok-seat.was in
    let b = c.requires.there (c.in_ok-other.other, c.in_ok-other.rest) c.in_ok-other.was in
    let joined = c.in_ok-append.ensures.items in
    let u = c.take_in.new.seat.me.0 in
    let P : ℕ → Type 0 = λ n. Claimed {T = T} items n c.args._all u c.append.new.self.items in
    let Q : List (Done T) → Type 0 = λ ds. All (λ (d : Done T). g.W.Work.gives c.args._work.now d.item d.out) ds in record {
      claimed = record {
        of_table = c.take_in.ensures.table ∙ a.of_table;
        free = ap (λ m. m.1) c.take_in.ensures.both ∙ a.free;
        claimed = subst P (one_more c.args._workers items c.requires.some)
            (claimed_both {T = T} items (items + 1) ((c.args._workers - 1) * (items + 1)) c.args._all c.in_ok-seat.seat.me.0 c.in_ok-other.other.me.0 u c.in_ok-seat.done.items c.in_ok-other.rest.items c.append.new.self.items a.claimed b.claimed (ap (λ m. m.0) c.take_in.ensures.both) joined);
        each = subst Q (sym joined) (All-append (λ (d : Done T). g.W.Work.gives c.args._work.now d.item d.out) c.in_ok-seat.done.items c.in_ok-other.rest.items a.each b.each);
      };
    }
