use Rattle.std.proofs.Common.{◌≡◌, ◌+◌, ◌*◌, ◌-◌, ◌∷◌, suc, drop, get_or, sym, ap, ◌∙◌, arith, drop-cons}
use Rattle.pl_base.specs.Tokens.{digits_onto}
use Rattle.pl_top.proofs.InputLines.{value_grows}
use Rattle.pl_top.proofs.input.value_of.Goals as goal

pub returns-then-value-digit : goal.returns-then-value-digit
returns-then-value-digit c =
    let ds = c.args.digits.now in
    let i = c.loop-byte.byte-index in
    let parts : drop i ds ≡ get_or ds i 0 ∷ drop (suc i) ds = drop-cons ds i 0 c.loop-byte-test.true in
    let whole : digits_onto (c.loop-byte.value * 10 + (get_or ds i 0 - 48)) (drop (suc i) ds) ≡ digits_onto 0 ds = ap (digits_onto c.loop-byte.value) (sym parts) ∙ sym c.loop-byte.invariant.same in
    omega (arith, whole, value_grows (c.loop-byte.value * 10 + (get_or ds i 0 - 48)) (drop (suc i) ds), c.saturating_sub.ensures, c.from-digit.ensures)
