use Rattle.std.proofs.Common.{◌≡◌, ◌≤◌, ◌+◌, ◌*◌, ◌-◌, ◌∷◌, ◌^◌, suc, drop, get_or, sym, ap, ◌∙◌, arith, drop-cons}
use Rattle.pl_readers.specs.Bytes.{value_from}
use Rattle.pl_readers.proofs.Exact.{value_grows}
use Rattle.pl_lexer.proofs.kinds.value.Goals as goal

-- one digit more passes the limit, and so does the whole number
pub returns-in_err-value : goal.returns-in_err-value
returns-in_err-value c =
    let ds = c.args.digits.now in
    let i = c.loop-c.c-index in
    let x = c.c-item.result in
    let grown = c.loop-c.value * 10 + (get_or ds i x - 48) in
    let parts : drop i ds ≡ get_or ds i x ∷ drop (suc i) ds = drop-cons ds i x c.loop-c-test.true in
    let whole : value_from grown (drop (suc i) ds) ≡ value_from 0 ds = ap (value_from c.loop-c.value) (sym parts) ∙ c.loop-c.invariant.same in
    let here = c.c-item.is in
    let digit = c.saturating_sub.ensures in
    let past = c.in_err-value.ensures in
    let big : 2 ^ 127 ≤ value_from 0 ds = omega (arith, whole, value_grows grown (drop (suc i) ds)) in
    rw c.from_residual.ensures big
