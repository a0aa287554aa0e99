use Rattle.std.proofs.Common.{◌++◌, ◌∷◌, [], sym, ap, ◌∙◌, subst}
use Rattle.std.specs.Prelude.{vec_capacity}
use Rattle.c_meaning.specs.Blocks.{fits}
use Rattle.c_meaning.specs.Machine.{Places, shown_or_none}
use Rattle.c_meaning.proofs.Threads.{enters}
use Rattle.c_meaning.proofs.thread.enter.Goals as goal

pub returns-in-Some-clause-left : goal.returns-in-Some-clause-left
returns-in-Some-clause-left c =
    let places = subst (λ z. Places c.args.code.now z (vec_capacity c.args.spots)) c.in-Some.is c.requires.places in
    (enters c.args.code.now c.in-Some.f.body (vec_capacity c.args.spots) c.push_reserved.new.self.items c.args.spots.items c.requires.table c.requires.empty (c.push_reserved.ensures.items ∙ ap (λ z. c.args.spots.items ++ z ∷ []) c.first_of.ensures) places).1
    ∙ sym (ap (λ z. (shown_or_none c.args.code.now z).body) c.in-Some.is)

pub returns-in-Some-clause-fits : goal.returns-in-Some-clause-fits
returns-in-Some-clause-fits c =
    let places = subst (λ z. Places c.args.code.now z (vec_capacity c.args.spots)) c.in-Some.is c.requires.places in
    subst (λ z. fits c.args.code.now 0 z c.push_reserved.new.self.items) (sym c.push_reserved.ensures.capacity)
    (enters c.args.code.now c.in-Some.f.body (vec_capacity c.args.spots) c.push_reserved.new.self.items c.args.spots.items c.requires.table c.requires.empty (c.push_reserved.ensures.items ∙ ap (λ z. c.args.spots.items ++ z ∷ []) c.first_of.ensures) places).0
