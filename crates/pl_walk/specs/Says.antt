-- What an answer of the walk says, want of memory aside.
use Rattle.std.specs.Prelude.{◌≡◌, ◌≢◌, [], List, Result, Ok, Err}
use Rattle.pl_base.specs.declared.pos.Pos.{Pos}
use Rattle.pl_syntax.specs.Tree.{Stmt, FunDecl}
use Rattle.pl_walk.specs.declared.known.Known as known
use Rattle.pl_walk.specs.declared.walk.Duty.TheVariants.{Leftover}
use Rattle.pl_walk.specs.declared.walk.WalkError.{WalkError}
use Rattle.pl_walk.specs.declared.walk.WalkError.TheVariants as e
use Rattle.pl_terms.specs.Table.{Known, start}
use Rattle.pl_syntax.specs.Places.{pos_of}
use Rattle.pl_walk.specs.Walk.{WalksOver, Refuses, Walks, Stops, Undone, AllDone, atoms_text}
use Rattle.pl_walk.specs.Shown.{known_of}

-- of one statement
abbrev pub StatementSays : Result (Unit {0}) WalkError → Stmt → Known → Known → Type 0
StatementSays (Ok u) st s t = WalksOver s st t
StatementSays (Err (e.Undone place duty)) st s t = (place ≡ pos_of st) × Refuses s st duty
StatementSays (Err e.Memory) st s t = Unit {0}

-- of a list of statements
abbrev pub ListSays : Result known.Known WalkError → List Stmt → Type 0
ListSays (Ok s) list = Walks start list (known_of s)
ListSays (Err (e.Undone place duty)) list = Stops list place duty
ListSays (Err e.Memory) list = Unit {0}

-- of the end of a block
abbrev pub EndSays : Result (Unit {0}) WalkError → Pos → Known → Type 0
EndSays (Ok u) close s = s.atoms ≡ []
EndSays (Err (e.Undone place duty)) close s = (place ≡ close) × (s.atoms ≢ []) × (duty ≡ Leftover (atoms_text s.origins s.atoms))
EndSays (Err e.Memory) close s = Unit {0}

-- of a function: Ok exactly where no duty is left undone, else the first that is
abbrev pub FunctionSays : Result (Unit {0}) WalkError → FunDecl → Type 0
FunctionSays (Ok u) f = AllDone f
FunctionSays (Err (e.Undone place duty)) f = Undone f place duty
FunctionSays (Err e.Memory) f = Unit {0}
