use Rattle.std.proofs.lemmas.Nat.Gcd.{IsGcd-from_mod}
use Rattle.pl_base.proofs.perm.+greatest_common.Goals as goal

pub returns-else-b-eq0 : goal.returns-else-b-eq0
returns-else-b-eq0 t c = IsGcd-from_mod c.args.a c.args.b c.greatest_common.result c.greatest_common.ensures
