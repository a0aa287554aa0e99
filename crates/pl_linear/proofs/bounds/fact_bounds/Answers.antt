use Rattle.std.proofs.Common.{◌≡◌, Some, length, slice_get, refl}
use Rattle.std.proofs.lemmas.Option.{slice_get_read}
use Rattle.pl_linear.specs.Bounds.{forms_of}
use Rattle.pl_linear.proofs.Listing.{look_more}
use Rattle.pl_linear.proofs.bounds.fact_bounds.Goals as goal

pub loop-i-preserved : goal.loop-i-preserved
loop-i-preserved c =
    let at : slice_get c.args.facts.now c.loop-i.i ≡ Some c.index-facts-i.result = slice_get_read c.args.facts.now (length c.args.facts.now) c.loop-i.i c.index-facts-i.result refl c.loop-i-test.true c.index-facts-i.is in
    record {
      so_far = look_more c.args.eqs.now c.args.facts.now c.loop-i.i c.index-facts-i.result (forms_of c.loop-i.out.items) (forms_of c.add_fact.new.out.items) at c.in_ok-add_fact.ensures.exact c.loop-i.invariant.so_far;
      given = c.in_ok-add_fact.ensures.given.keeps c.args.facts.now at c.loop-i.invariant.given;
    }
