use Rattle.std.proofs.Common.{Some, ap, sym, ◌∙◌}
use Rattle.std.specs.Prelude.{position}
use Rattle.std.specs.Str.{bytes_eq}
use Rattle.pl_base.proofs.Places.{absent, found}
use Rattle.pl_base.proofs.store.Store.file.Goals as goal

pub returns-in-Some : goal.returns-in-Some
returns-in-Some c =
    found c.args.name.now c.args.self.now.files.items c.in-Some.i c.index.result.now (ap (position (λ f. bytes_eq f.name c.args.name.now)) (sym c.as_slice.ensures.value) ∙ sym c.place_of.ensures ∙ c.in-Some.is)
    ∙ sym (ap (λ f. Some f.bytes) c.index.ensures)
    ∙ ap Some (sym c.as_slice-in-Some.ensures)

pub returns-in-None : goal.returns-in-None
returns-in-None c = absent c.args.name.now c.args.self.now.files.items (ap (position (λ f. bytes_eq f.name c.args.name.now)) (sym c.as_slice.ensures.value) ∙ sym c.place_of.ensures ∙ c.in-None.is)
