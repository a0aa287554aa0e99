use Rattle.std.proofs.Common.{◌≡◌, List, set, sym, ◌∙◌, subst, arith}
use Rattle.std.specs.Prelude.{Option, Some}
use Rattle.pl_jobs.specs.Slots.{RightAt, InOrder}
use Rattle.pl_jobs.proofs.Slots.{found, taken, in_order_push}
use Rattle.pl_jobs.proofs.order.in_order.Goals as goal

pub unreachable-requires : goal.unreachable-requires
unreachable-requires g c =
    let f = found g.W.Work.gives c.args.work.now c.loop-k.slots.items c.loop-k.k c.index_mut.result.now (c.loop-k.invariant.right c.loop-k.k (omega arith) (omega arith)) c.index_mut.ensures.value in
    let e = sym f.1 ∙ sym c.in-None.ensures.value in cc

pub loop-k-preserved : goal.loop-k-preserved
loop-k-preserved g c =
    let gives = g.W.Work.gives in
    let T = g.row.W-Out.Denot in
    let i = c.loop-k.invariant in
    let k = c.loop-k.k in
    let slots = c.loop-k.slots.items in
    let f = found gives c.args.work.now slots k c.index_mut.result.now (i.right k (omega arith) (omega arith)) c.index_mut.ensures.value in
    let e : Some f.0 ≡ Some c.in-Some.out = sym f.1 ∙ sym c.in-Some.ensures.value in
    let same : f.0 ≡ c.in-Some.out = cc in
    let P : List T → Type 0 = λ xs. InOrder gives c.args.work.now xs in record {
      count = i.count;
      made = omega (arith, i.made, c.in_ok-push-in-Some.ensures.len);
      right = λ j low less.
          let Q : Option T → Type 0 = λ o. RightAt gives c.args.work.now (set slots k o) j in
          subst Q (sym c.take.ensures.after) (taken gives c.args.work.now k c.args.items slots i.right j low less);
      order = subst P (sym c.in_ok-push-in-Some.ensures.items) (in_order_push gives c.args.work.now c.loop-k.results.items c.in-Some.out k (omega (arith, i.made)) i.order (subst (gives c.args.work.now k) same f.2));
    }
