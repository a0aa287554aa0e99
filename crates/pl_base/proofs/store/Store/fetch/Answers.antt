use Rattle.std.proofs.Common.{Some, ap, sym, ◌∙◌, arith, length}
use Rattle.std.specs.Prelude.{position}
use Rattle.std.specs.Str.{bytes_eq}
use Rattle.pl_base.proofs.Places.{absent, found}
use Rattle.pl_base.proofs.store.Store.fetch.Goals as goal

pub returns-in_default : goal.returns-in_default
returns-in_default c = absent c.args.name.now c.args.self.now.files.items (ap (position (λ f. bytes_eq f.name c.args.name.now)) (sym c.as_slice.ensures.value) ∙ sym c.place_of.ensures ∙ c.in_default.is)

pub returns-then-bytes-most : goal.returns-then-bytes-most
returns-then-bytes-most c =
    let at = found c.args.name.now c.args.self.now.files.items c.in-Some.i c.index.result.now (ap (position (λ f. bytes_eq f.name c.args.name.now)) (sym c.as_slice.ensures.value) ∙ sym c.place_of.ensures ∙ c.in-Some.is) in (
      c.index.result.now.bytes,
      at ∙ sym (ap (λ f. Some f.bytes) c.index.ensures),
      omega (arith, ap length c.as_slice-bytes.ensures),
    )

pub returns : goal.returns
returns c =
    let at = found c.args.name.now c.args.self.now.files.items c.in-Some.i c.index.result.now (ap (position (λ f. bytes_eq f.name c.args.name.now)) (sym c.as_slice.ensures.value) ∙ sym c.place_of.ensures ∙ c.in-Some.is) in (
      at ∙ sym (ap (λ f. Some f.bytes) c.index.ensures) ∙ ap Some (sym c.as_slice-bytes.ensures) ∙ ap Some (sym c.in_ok-from_slice.ensures.items),
      omega (arith, c.in_ok-from_slice.ensures.len),
    )
