use Rattle.pl_parser.proofs.Refusing.{refusal_many}
use Rattle.pl_parser.proofs.whole.refusal.Goals as goal

pub place_at-requires : goal.place_at-requires
place_at-requires c = let many = rw c.in-Some.is at c.in_ok-k.ensures in many.1

pub returns-in-Some : goal.returns-in-Some
returns-in-Some c =
    let many = rw c.in-Some.is at c.in_ok-k.ensures in
    refusal_many c.args.tokens.now c.in-Some.k many.0 _ c.place_at.ensures
