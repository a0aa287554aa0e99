use Rattle.std.proofs.Common.{ℕ, ◌≡◌, ◌≤◌, ◌+◌, ◌*◌, ◌-◌, ◌∷◌, suc, drop, get_or, sym, ap, ◌∙◌, arith, drop-cons}
use Rattle.pl_readers.specs.Bytes.{value_from}
use Rattle.pl_readers.proofs.Exact.{value_grows}
use Rattle.c_forms.proofs.words.small.Goals as goal

-- one digit more passes the limit, and so does the whole number
pub returns-in_err-value : goal.returns-in_err-value
returns-in_err-value c =
    let ds = c.args.digits.now in
    let i = c.loop-digit.digit-index in
    let x : ℕ = 0 in
    let grown = c.loop-digit.value * 10 + (get_or ds i x - 48) in
    let parts : drop i ds ≡ get_or ds i x ∷ drop (suc i) ds = drop-cons ds i x c.loop-digit-test.true in
    let whole : value_from grown (drop (suc i) ds) ≡ value_from 0 ds = ap (value_from c.loop-digit.value) (sym parts) ∙ c.loop-digit.invariant.same in
    let past = c.in_err-value.ensures in
    let big : 4294967296 ≤ value_from 0 ds = omega (arith, whole, value_grows grown (drop (suc i) ds)) in
    rw c.from_residual.ensures (λ below. omega (arith, big, below))
