-- What the words ask for.
use Rattle.std.specs.Prelude.{ℕ, ◌||◌, Bool, List, [], ◌∷◌, Result, if◌then◌else◌}
use Rattle.std.specs.Str.{bytes_eq}
use lib.Chars.{codes}
use Rattle.pl_words.specs.declared.command.Command.{Command}
use Rattle.pl_words.specs.declared.command.Command.TheVariants as c
use Rattle.pl_words.specs.declared.command.UsageKind.TheVariants.{NoCommand, UnknownCommand}
use Rattle.pl_words.specs.declared.command.WordError.{WordError}
use Rattle.pl_words.specs.Words.{refused, command_of}

-- whether a command is built; the others are unknown
abbrev pub is_built : List ℕ → Bool
is_built w =
    bytes_eq w (codes "check") || bytes_eq w (codes "emit") || bytes_eq w (codes "run") || bytes_eq w (codes "replay")
    || bytes_eq w (codes "go") || bytes_eq w (codes "fmt")

-- the command that the words give, or the first wrong word
abbrev pub asked_of : List (List ℕ) → Result Command WordError
asked_of [] = refused NoCommand 0
asked_of (w ∷ rest) = if is_built w then command_of (w ∷ rest) else refused UnknownCommand 0

-- a command that always returns
abbrev pub Returns : Command → Type 0
Returns (c.Check file jobs) = Unit {0}
Returns (c.Emit file text) = Unit {0}
Returns (c.Fmt file) = Unit {0}
Returns (c.Replay text history) = Unit {0}
Returns _ = ⊥

-- a command that runs a program
abbrev pub Runs : Command → Type 0
Runs (c.Run text run) = Unit {0}
Runs (c.Go file text run) = Unit {0}
Runs _ = ⊥

-- a command that is built
abbrev pub IsBuilt : Command → Type 0
IsBuilt (c.Check file jobs) = Unit {0}
IsBuilt (c.Emit file text) = Unit {0}
IsBuilt (c.Fmt file) = Unit {0}
IsBuilt (c.Run text run) = Unit {0}
IsBuilt (c.Replay text history) = Unit {0}
IsBuilt (c.Go file text run) = Unit {0}
IsBuilt _ = ⊥
