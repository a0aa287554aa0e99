use Rattle.std.proofs.Common.{◌≡◌, ◌∙◌, sym, ap, refl, subst, ◌<◌, length, Some}
use Rattle.std.specs.List.{slice_get}
use Rattle.std.proofs.lemmas.Option.{slice_get_read}
use Rattle.pl_syntax.specs.Scopes.{look}
use Rattle.pl_types.specs.Slots.{numbers_in}
use Rattle.pl_types.proofs.SlotLaws.{found_within, found, binder_at, binder_in}
use Rattle.pl_types.proofs.scopes.Scope.look.Goals as goal

pub index-requires : goal.index-requires
index-requires c =
    let within = found_within c.self.inside.slots.items (numbers_in c.self.inside.newest) c.args.name.now c.in-Some.number c.self.invariant (sym c.get.ensures ∙ c.in-Some.is) in
    subst (λ k. c.in-Some.number < k) (sym c.self.inside.slots.ok.0) within

pub returns-in-Some : goal.returns-in-Some
returns-in-Some c =
    let items = c.self.inside.slots.items in
    let within = found_within items (numbers_in c.self.inside.newest) c.args.name.now c.in-Some.number c.self.invariant (sym c.get.ensures ∙ c.in-Some.is) in
    let at : slice_get items c.in-Some.number ≡ Some c.index.result.now = slice_get_read items (length items) c.in-Some.number c.index.result.now refl within c.index.ensures in
    let looked = found items (numbers_in c.self.inside.newest) c.args.name.now c.get.result c.self.invariant c.get.ensures in
    sym (ap (look c.args.name.now) (sym c.self.view_is) ∙ looked ∙ ap (binder_at items) c.in-Some.is ∙ ap binder_in at)

pub returns-in-None : goal.returns-in-None
returns-in-None c =
    let items = c.self.inside.slots.items in
    let looked = found items (numbers_in c.self.inside.newest) c.args.name.now c.get.result c.self.invariant c.get.ensures in
    sym (ap (look c.args.name.now) (sym c.self.view_is) ∙ looked ∙ ap (binder_at items) c.in-None.is)
