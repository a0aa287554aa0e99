use Rattle.std.proofs.Common.{◌≡◌, ◌++◌, drop, take}
use Rattle.std.specs.Prelude.{flat_map}
use Rattle.std.specs.List.{AllByRecursion}
use Rattle.c_history.specs.Text.{event_line}
use Rattle.c_history.specs.Bounds.{IsEventWithin}
use Rattle.c_history.proofs.writing.put_events.Given as goal

-- what is written, and the lines of the events that are left
abbrev pub invariant-loop-event : goal.invariant-loop-event
invariant-loop-event l = record {
  text : l.out.items ++ flat_map event_line (drop l.event-index l.events) ≡ l.fn.out.items ++ flat_map event_line l.events;
  within : AllByRecursion IsEventWithin (take l.event-index l.events);
}
