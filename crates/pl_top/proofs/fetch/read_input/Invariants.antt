use Rattle.std.proofs.Common.{◌≡◌, ◌+◌, ◌-◌}
use Rattle.std.specs.Io.KnownBytes.{Consumes}
use Rattle.std.specs.Prelude.{vec_len}
use Rattle.pl_top.proofs.fetch.read_input.Given as goal

abbrev pub invariant-pieces : goal.invariant-pieces
invariant-pieces g l = record {
  consumed : Consumes (g.H.Host.input l.fn.host) (g.H.Host.input l.host) l.all.items;
  files : g.H.Host.files l.host ≡ g.H.Host.files l.fn.host;
  out : g.H.Host.out l.host ≡ g.H.Host.out l.fn.host;
  in_faults : g.H.Host.in_faults l.host ≡ g.H.Host.in_faults l.fn.host;
  out_faults : g.H.Host.out_faults l.host ≡ g.H.Host.out_faults l.fn.host;
}

abbrev pub decreases-pieces : goal.decreases-pieces
decreases-pieces g l = l.most + 1 - vec_len l.all
