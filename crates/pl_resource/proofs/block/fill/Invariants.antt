use Rattle.std.proofs.Common.{◌≡◌, ◌≤◌, ◌*◌, length, vec_len}
use Rattle.std.specs.Prelude.{vec_capacity}
use Rattle.std.specs.List.{repeat}
use Rattle.pl_resource.proofs.block.fill.Given as goal

abbrev pub invariant-loop-element : goal.invariant-loop-element
invariant-loop-element l = record {
  so_far : l.values.items ≡ repeat l._element l.first;
  len : vec_len l.values ≡ l._element * length l.first;
  room : length l.first * l.count ≤ vec_capacity l.values;
}
