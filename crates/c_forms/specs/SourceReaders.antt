-- Readers of structures, functions and the whole text.
use Rattle.std.specs.Prelude.{ℕ, ◌&&◌, ◌==◌, Bool, true, false, List, [], ◌∷◌, ◌++◌, codes}
use Rattle.c_syntax.specs.PreludeText.{prelude}
use Rattle.c_syntax.specs.Text.{main_text}
use Rattle.c_syntax.specs.declared.kind.CType.TheVariants as kind
use Rattle.pl_readers.specs.Bytes.{is}
use Rattle.pl_readers.specs.Reader.{Reader, next, either, mapped, repeat}
use Rattle.c_forms.specs.declared.word.Number.{Number}
use Rattle.c_forms.specs.declared.source.Member.{Member}
use Rattle.c_forms.specs.declared.source.Struct.{Struct}
use Rattle.c_forms.specs.declared.source.Param.{Param}
use Rattle.c_forms.specs.declared.source.Head.{Head}
use Rattle.c_forms.specs.declared.source.Slot.{Slot}
use Rattle.c_forms.specs.declared.source.Starter.{Starter}
use Rattle.c_forms.specs.Reading.{after, ended_by, both, just, Step, on, done, until}
use Rattle.c_forms.specs.Names.{name}
use Rattle.c_forms.specs.ExprReaders.{decimal_number, local, shown_type, any_type, listed, list_of}
use Rattle.c_forms.specs.StmtReaders.{rows, stmt}
use Rattle.c_forms.specs.Tree.{Name, Stmt, Fun, Source}
use Rattle.c_forms.specs.Plain.{chain}

-- ---- structures

-- a member
unfoldable pub member : Reader ℕ Member
member = mapped (λ p. record { kind = p.0; name = p.1 }) (after (codes "  ") (both any_type (after (codes "m_") (ended_by name (codes ";\n")))))

-- one member at least, and the end of the structure
unfoldable pub members : Reader ℕ (List Member)
members = ended_by (next member (λ m. mapped (λ more. m ∷ more) (repeat (is 32) member))) (codes "};\n")

-- a structure behind `struct s_`
unfoldable pub structure : Reader ℕ Struct
structure = mapped (λ p. record { name = p.0; members = p.1 }) (both name (after (codes " {\n") members))

-- ---- heads

-- a parameter but one of type `void`
unfoldable pub shown_param : Reader ℕ Param
shown_param = mapped (λ p. record { kind = p.0; local = p.1 }) (both shown_type local)

-- a parameter
unfoldable pub param : Reader ℕ Param
param = mapped (λ p. record { kind = p.0; local = p.1 }) (both any_type local)

-- a parameter of type `void`, behind that word
unfoldable pub void_param : Reader ℕ Param
void_param = mapped (λ x. record { kind = kind.Void; local = x }) (after (codes " ") local)

-- the parameters of a function, with the closing bracket
unfoldable pub params : Reader ℕ (List Param)
params =
    either (is 118) (after (codes "void") (either (is 41) (just [] (codes ")")) (ended_by (listed void_param param) (codes ")"))))
    (ended_by (listed shown_param param) (codes ")"))

-- a function's result, name and parameters behind `static `
unfoldable pub head : Reader ℕ Head
head = mapped (λ p. record { result = p.0; name = p.1.0; params = p.1.1 }) (both any_type (after (codes "f_") (both name (after (codes "(") params))))

-- the statements of a function behind its head
unfoldable pub fun_body : Reader ℕ (List Stmt)
fun_body = after (codes " {\n") (ended_by (rows 0 (stmt 127 1)) (codes "}\n"))

-- ---- threads

-- a member for an argument
unfoldable pub slot : Reader ℕ Slot
slot = mapped (λ p. record { kind = p.0; number = p.1 }) (after (codes "  ") (both any_type (after (codes "a_") (ended_by decimal_number (codes ";\n")))))

-- a structure of arguments behind `struct a_`, and the next words
unfoldable pub slots : Reader ℕ (Name × List Slot)
slots = both name (after (codes " {\n  char a_0;\n") (ended_by (repeat (is 32) slot) (codes "};\n")))

-- the two names of the structure in a starter
unfoldable pub copies : Reader ℕ (Name × Name)
copies = both name (after (codes " *q = p;\n  struct a_") (ended_by name (codes " c = *q;\n  free(q);\n")))

-- the call of a starter
unfoldable pub starter_call : Reader ℕ (Name × List Number)
starter_call = after (codes "  f_") (both name (after (codes "(") (ended_by (list_of (after (codes "c.a_") decimal_number)) (codes ";\n  return 0;\n}\n"))))

-- a structure of arguments and its starter behind `struct `
unfoldable pub starter_code : Reader ℕ (Name × ((Name × Name) × (Name × List Number)))
starter_code = after (codes "static int t_") (both name (after (codes "(void *p) {\n  struct a_") (both copies starter_call)))

unfoldable pub starter_pair : Reader ℕ Starter
starter_pair =
    mapped (λ p. record { structure = p.0.0; slots = p.0.1; name = p.1.0; pointer = p.1.1.0.0; copy = p.1.1.0.1; function = p.1.1.1.0; arguments = p.1.1.1.1 })
    (after (codes "a_") (both slots starter_code))

-- ---- the whole text

-- whether a list is empty
abbrev pub none_yet : {A : Type 0} → List A → Bool
none_yet [] = true
none_yet (a ∷ as') = false

-- whether structures, prototypes or starters may still come
abbrev pub may_struct : Source → Bool
may_struct s = none_yet s.prototypes && (none_yet s.starters && none_yet s.funs)

abbrev pub may_prototype : Source → Bool
may_prototype s = none_yet s.starters && none_yet s.funs

abbrev pub may_starter : Source → Bool
may_starter s = none_yet s.funs

-- with one more
abbrev pub with_struct : Source → Struct → Source
with_struct s x = record { structs = s.structs ++ x ∷ []; prototypes = s.prototypes; starters = s.starters; funs = s.funs }

abbrev pub with_prototype : Source → Head → Source
with_prototype s x = record { structs = s.structs; prototypes = s.prototypes ++ x ∷ []; starters = s.starters; funs = s.funs }

abbrev pub with_starter : Source → Starter → Source
with_starter s x = record { structs = s.structs; prototypes = s.prototypes; starters = s.starters ++ x ∷ []; funs = s.funs }

abbrev pub with_fun : Source → Fun → Source
with_fun s x = record { structs = s.structs; prototypes = s.prototypes; starters = s.starters; funs = s.funs ++ x ∷ [] }

-- a declaration that begins with `struct `, behind its `st`
unfoldable pub with_structure : Source → Reader ℕ Source
with_structure s =
    after (codes "ruct ")
    (either (λ c. may_struct s && (c == 115)) (mapped (with_struct s) (after (codes "s_") structure)) (mapped (with_starter s) starter_pair))

-- a prototype or a function behind its head
unfoldable pub behind_head : Source → Head → Reader ℕ Source
behind_head s h =
    either (λ c. may_prototype s && (c == 59)) (just (with_prototype s h) (codes ";\n"))
    (mapped (λ ss. with_fun s (record { head = h; body = chain ss })) fun_body)

-- a prototype or a function, behind its `st`
unfoldable pub with_static : Source → Reader ℕ Source
with_static s = after (codes "atic ") (next head (behind_head s))

-- one declaration more
unfoldable pub declaration : Source → Reader ℕ Source
declaration s = after (codes "st") (either (λ c. may_starter s && (c == 114)) (with_structure s) (with_static s))

-- one declaration more, or the end
unfoldable pub source_step : Source → Reader ℕ (Step Source Source)
source_step s = either (is 105) (just (done s) main_text) (mapped on (declaration s))

-- nothing yet
abbrev pub empty : Source
empty = record { structs = []; prototypes = []; starters = []; funs = [] }

-- the whole text
unfoldable pub source : Reader ℕ Source
source = after prelude (until source_step empty)
