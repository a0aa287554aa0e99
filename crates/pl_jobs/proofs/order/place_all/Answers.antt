use Rattle.std.proofs.Common.{List, [], ◌∷◌, ◌++◌, length, length-set, sym, ◌∙◌, ap, subst, arith}
use Rattle.std.specs.Prelude.{All, Option}
use Rattle.pl_jobs.specs.declared.work.Done.{Done}
use Rattle.pl_jobs.specs.Slots.{Reaches}
use Rattle.pl_jobs.proofs.Slots.{placed, all_placed, all_front, all_last, empty_is}
use Rattle.pl_jobs.proofs.order.place_all.Goals as goal

pub places-preserved : goal.places-preserved
places-preserved g c =
    let gives = g.W.Work.gives in
    let T = g.row.W-Out.Denot in
    let i = c.places.invariant in
    let d = c.in-Some.next in
    let rest = c.pop.new.self.items in
    let P : Done T → Type 0 = λ z. gives c.args.work.now z.item z.out in
    let all : All P (rest ++ d ∷ []) = subst (All P) c.in-Some.ensures.items i.gives in
    let Q : List (Done T) → Type 0 = λ ds. Reaches gives c.args.work.now c.args.items c.places.slots.items ds in
    let R : List (Option T) → Type 0 = λ slots. Reaches gives c.args.work.now c.args.items slots rest in record {
      count = ap (length {A = Option T}) c.place.ensures.placed ∙ length-set _ _ _ ∙ i.count;
      gives = all_front P rest (d ∷ []) all;
      each = subst R (sym c.place.ensures.placed) (placed gives c.args.work.now c.args.items c.places.slots.items rest d i.count (all_last P rest d all) (subst Q c.in-Some.ensures.items i.each));
    }

pub returns-clause-right : goal.returns-clause-right
returns-clause-right g c = all_placed g.W.Work.gives c.args.work.now c.args.items c.places.slots.items c.places.done.items (empty_is _ (omega (arith, c.in_default.ensures.cases.0))) c.places.invariant.each
