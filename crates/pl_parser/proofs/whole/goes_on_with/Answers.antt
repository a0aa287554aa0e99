use Rattle.std.proofs.Common.{◌≡◌, ◌++◌, ◌∷◌, []}
use Rattle.pl_grammar.specs.Refusals.{token_of_code}
use Rattle.pl_parser.proofs.Refusing.{taken_in}
use Rattle.pl_parser.proofs.whole.goes_on_with.Goals as goal

pub returns : goal.returns
returns c =
    let is : c.as_slice.result.now ≡ c.args.before.now ++ token_of_code c.args.code ∷ [] = cc (c.as_slice.ensures.value, c.in_ok-push.ensures.items, c.in_ok-text.ensures, c.in_ok-token_of.ensures) in
    rw c.takes_last.ensures (taken_in c.args.before.now _ c.args.code c.requires is c.in_ok-stop.stop c.in_ok-stop.ensures)
