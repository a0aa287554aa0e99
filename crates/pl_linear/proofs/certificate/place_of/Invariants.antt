use Rattle.std.proofs.Common.{◌≡◌, drop}
use Rattle.pl_forms.specs.Equations.{named}
use Rattle.pl_linear.proofs.certificate.place_of.Given as goal

abbrev pub invariant-loop-i : goal.invariant-loop-i
invariant-loop-i l = named l.fact l.eqs ≡ named l.fact (drop l.i l.eqs)
