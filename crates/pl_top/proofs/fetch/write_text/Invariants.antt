use Rattle.std.proofs.Common.{◌≡◌, ◌-◌, ◌≤◌, length, take}
use Rattle.std.specs.Io.KnownBytes.{Appends}
use Rattle.pl_top.proofs.fetch.write_text.Given as goal

abbrev pub invariant-pieces : goal.invariant-pieces
invariant-pieces g l = record {
  written : Appends (g.H.Host.out l.fn.host) (g.H.Host.out l.host) (take l.at l.text);
  within : l.at ≤ length l.text;
  files : g.H.Host.files l.host ≡ g.H.Host.files l.fn.host;
  input : g.H.Host.input l.host ≡ g.H.Host.input l.fn.host;
  in_faults : g.H.Host.in_faults l.host ≡ g.H.Host.in_faults l.fn.host;
  out_faults : g.H.Host.out_faults l.host ≡ g.H.Host.out_faults l.fn.host;
}

abbrev pub decreases-pieces : goal.decreases-pieces
decreases-pieces g l = length l.text - l.at
