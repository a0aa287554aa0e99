-- What is bound and what waits, as the code holds it.
use Rattle.std.specs.Prelude.{Option, Some, None, List, map}
use Rattle.c_forms.specs.Plain.{plain_expr}
use Rattle.c_rules.specs.Kinds.{type}
use Rattle.c_rules.specs.Lines as lines
use Rattle.c_rules.specs.Locals.{scope_of}
use Rattle.c_rules.specs.Lines.{member_of}
use Rattle.c_rules.specs.declared.locals.Binder.{Binder}
use Rattle.c_rules.specs.declared.one_line.FirstValue.{FirstValue}
use Rattle.c_rules.specs.declared.one_line.Waiting.{Waiting}

-- a local that waits
abbrev pub waiting_of : Waiting → lines.Waiting
waiting_of wait = record { name = wait.name; local = wait.local.now; kind = type wait.kind; members = map member_of wait.members.now }

abbrev pub waits : Option Waiting → Option lines.Waiting
waits None = None
waits (Some wait) = Some (waiting_of wait)

-- what is bound and what waits
abbrev pub state_of : List (Option Binder) → Option Waiting → lines.State
state_of slots waiting = record { scope = scope_of slots; waiting = waits waiting }

-- a first value
abbrev pub value_of : Option FirstValue → Option lines.FirstValue
value_of None = None
value_of (Some v) = Some (record { base = v.base.now; member = v.member.now; value = plain_expr v.value.now })
