use Rattle.std.proofs.Common.{◌+◌, ◌++◌, ◌∷◌, [], List, length, length-append, ◌∙◌, ap, sym, subst, arith}
use Rattle.std.specs.Prelude.{All}
use Rattle.std.proofs.lemmas.List.{map-append}
use Rattle.std.proofs.lemmas.List.Elements.{All-push}
use Rattle.pl_jobs.specs.declared.work.Done.{Done}
use Rattle.pl_jobs.specs.Items.{numbers}
use Rattle.pl_jobs.proofs.Claims.{claimed_past}
use Rattle.pl_jobs.proofs.workers.claim_all.Goals as goal

pub returns-then-number-from : goal.returns-then-number-from
returns-then-number-from g c =
    let i = c.claims.invariant in record {
      done = record {
        of_table = c.draw-number.ensures.table.0 ∙ i.table;
        free = ap (λ m. m.1) c.draw-number.ensures.drew ∙ i.free;
        claimed =
            claimed_past c.args.items c.args.all c.draw-number.result c.claims.recorded c.claims.seat.me.0 c.draw-number.new.seat.me.0 c.claims.done.items
            (ap (λ m. m.0) c.draw-number.ensures.drew) i.drawn (omega arith) i.count i.left (omega arith) i.all;
        each = i.gives;
      };
    }

pub claims-preserved : goal.claims-preserved
claims-preserved g c =
    let i = c.claims.invariant in
    let old = c.claims.seat.me.0 in
    let n = c.draw-number.result in
    let drew_is = c.draw-number.ensures.drew in
    let pushed = c.in_ok-push.ensures.items in
    let T = g.row.W-Out.Denot in
    let one : Done T = record { item = n; out = c.in_ok-out.out } in
    let P : List (Done T) → Type 0 = λ ds. All (λ (d : Done T). g.W.Work.gives c.args.work.now d.item d.out) ds in record {
      table = c.draw-number.ensures.table.0 ∙ i.table;
      free = ap (λ m. m.1) drew_is ∙ i.free;
      all = ap (λ m. m.0.all) drew_is ∙ i.all;
      drawn = ap (λ m. m.0.drawn) drew_is ∙ ap (λ ns. ns ++ n ∷ []) i.drawn ∙ sym (map-append (λ (d : Done T). d.item) c.claims.done.items (one ∷ [])) ∙ ap (numbers {T = T}) (sym pushed);
      count = ap (λ m. length m.0.drawn) drew_is ∙ length-append old.drawn (n ∷ []) ∙ ap (λ k. k + 1) i.count;
      left = omega (arith, ap (λ m. m.0.left) drew_is, i.left);
      gives = subst P (sym pushed) (All-push (λ (d : Done T). g.W.Work.gives c.args.work.now d.item d.out) c.claims.done.items one i.gives c.in_ok-out.ensures.gives);
    }
