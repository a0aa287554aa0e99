-- What is gathered, as the code holds it.
use Rattle.std.specs.Prelude.{Option, Some, None, map}
use Rattle.c_forms.specs.Plain.{plain_expr}
use Rattle.c_rules.specs.Lines as lines
use Rattle.c_rules.specs.Lines.{member_of}
use Rattle.c_rules.specs.declared.one_line.FirstValue.{FirstValue}
use Rattle.c_syntax.specs.Plain.{plain_init}
use Rattle.c_reader.specs.Standing.{Gathered, Structured}
use Rattle.c_reader.specs.declared.blocks.Gathering.{Gathering}
use Rattle.c_reader.specs.declared.blocks.Bare.{Bare}

-- a block whose first values are gathered
abbrev pub gathered_of : Gathering → Gathered
gathered_of g = record { local = g.local; structure = g.structure; inits = map plain_init g.inits.items; members = map member_of g.members.now }

abbrev pub gathering : Option Gathering → Option Gathered
gathering None = None
gathering (Some g) = Some (gathered_of g)

-- a local that gets a structure's block
abbrev pub structured : Option Bare → Option Structured
structured None = None
structured (Some b) = Some (record { local = b.local.now; structure = b.structure.now })

-- a first value
abbrev pub first_value : FirstValue → lines.FirstValue
first_value v = record { base = v.base.now; member = v.member.now; value = plain_expr v.value.now }
