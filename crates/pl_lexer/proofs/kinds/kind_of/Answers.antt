use Rattle.std.proofs.Common.{◌≡◌, sym, ap, ◌∙◌, refl, Some}
use Rattle.pl_lexer.specs.Tokens as spec
use Rattle.pl_lexer.specs.declared.tokens.Kind.TheVariants as k
use Rattle.pl_lexer.proofs.kinds.kind_of.Goals as goal

pub returns-in_ok-of : goal.returns-in_ok-of
returns-in_ok-of c =
    let no_sign = ap spec.sign_number (sym c.requires) ∙ sym c.in_default.ensures in
    let named : spec.kind_of c.args.lexeme.now ≡ Some (k.Word c.in_ok-of.field-0) =
    rw (← c.if-is_gap.ensures, ← c.if-begins_number.ensures, no_sign, c.in_ok-of.ensures, c.requires) refl in
    (named, (λ h. h), λ long. let e = c.if-is_long_name.ensures.1 long in absurd cc)
