use Rattle.std.proofs.Common.{◌≡◌, ◌++◌, ◌∷◌, []}
use Rattle.pl_grammar.specs.Refusals.{token_of_code}
use Rattle.pl_parser.proofs.Refusing.{wanted_in}
use Rattle.pl_parser.proofs.whole.name_wants_level.Goals as goal

pub returns : goal.returns
returns c =
    let is : c.as_slice.result.now ≡ c.args.before.now ++ token_of_code 255 ∷ [] = cc (c.as_slice.ensures.value, c.in_ok-push.ensures.items, c.in_ok-text.ensures, c.in_ok-token_of.ensures) in
    rw c.wants_level.ensures (wanted_in c.args.before.now _ (token_of_code 255) is c.in_ok-stop.stop c.in_ok-stop.ensures)
