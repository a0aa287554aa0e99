-- The one text of a history: a line for each event, between the first line and the last.
use Rattle.std.specs.Prelude.{ℕ, ◌++◌, Bool, true, false, List, codes, length, flat_map}
use Rattle.std.specs.Fmt.{decimal, signed_decimal}
use Rattle.pl_resource.specs.declared.value.Cell.{Cell}
use Rattle.pl_resource.specs.declared.value.Value.{Value}
use Rattle.pl_resource.specs.declared.value.Value.TheVariants as value
use Rattle.c_meaning.specs.declared.action.Action.{Action}
use Rattle.c_meaning.specs.declared.action.Action.TheVariants as act
use Rattle.c_meaning.specs.declared.action.Event.{Event}
use Rattle.c_meaning.specs.declared.action.History.{History}

abbrev pub truth_text : Bool → List ℕ
truth_text true = codes "true"
truth_text false = codes "false"

-- a cell, by its block, index and field
abbrev pub cell_text : Cell → List ℕ
cell_text c = codes "b" ++ decimal c.block ++ codes "." ++ decimal c.index ++ codes "." ++ decimal c.field

abbrev pub value_text : Value → List ℕ
value_text (value.Int n) = signed_decimal n
value_text (value.Truth b) = truth_text b
value_text value.Null = codes "null"
value_text (value.Block b) = codes "b" ++ decimal b
value_text (value.Lock l) = codes "k" ++ decimal l

abbrev pub action_text : Action → List ℕ
action_text (act.Load cell v) = codes "load " ++ cell_text cell ++ codes " " ++ value_text v
action_text (act.Store cell v) = codes "store " ++ cell_text cell ++ codes " " ++ value_text v
action_text (act.Cas cell seen stored) = codes "cas " ++ cell_text cell ++ codes " " ++ signed_decimal seen ++ codes " " ++ truth_text stored
action_text (act.Alloc block count) = codes "alloc b" ++ decimal block ++ codes " " ++ decimal count
action_text (act.Free block) = codes "free b" ++ decimal block
action_text (act.NewLock lock) = codes "newlock k" ++ decimal lock
action_text (act.Acquire lock) = codes "acquire k" ++ decimal lock
action_text (act.Release lock) = codes "release k" ++ decimal lock
action_text (act.FreeLock lock) = codes "freelock k" ++ decimal lock
action_text (act.Fork child) = codes "fork " ++ decimal child
action_text (act.Join child) = codes "join " ++ decimal child
action_text (act.Print n) = codes "print " ++ signed_decimal n
action_text (act.Read n) = codes "read " ++ signed_decimal n
action_text act.Turn = codes "turn"
action_text (act.Call f) = codes "call " ++ decimal f
action_text act.Return = codes "return"

-- the thread and what it did, without the end of the line
abbrev pub event_text : Event → List ℕ
event_text e = decimal e.tid ++ codes " " ++ action_text e.action

abbrev pub event_line : Event → List ℕ
event_line e = event_text e ++ codes "\n"

abbrev pub first_line : List ℕ
first_line = codes "pulse-history 1\n"

-- the last line, with the count of events
abbrev pub last_line : ℕ → List ℕ
last_line count = codes "end " ++ decimal count ++ codes "\n"

unfoldable pub history_text : History → List ℕ
history_text h = first_line ++ flat_map event_line h.events ++ last_line (length h.events)
