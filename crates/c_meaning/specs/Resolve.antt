-- How the names of a C program are resolved.
use Rattle.std.specs.Prelude.{ℕ, pos, zero, suc, max, ◌==◌, true, false, List, [], ◌∷◌, ◌++◌, Option, Some, None, length, map, if◌then◌else◌, slice_get, codes}
use Rattle.std.specs.Str.{bytes_eq}
use Rattle.c_syntax.specs.declared.kind.CType.{CType}
use Rattle.c_syntax.specs.declared.kind.CType.TheVariants as kind
use Rattle.c_syntax.specs.declared.program.CMember.{CMember}
use Rattle.c_syntax.specs.declared.program.CParam.{CParam}
use Rattle.c_syntax.specs.declared.program.CStruct.{CStruct}
use Rattle.c_syntax.specs.Tree as c
use Rattle.c_meaning.specs.declared.resolve.Pointer.{Pointer}
use Rattle.c_meaning.specs.Tree.{Term, Int, Truth, Null, Var, Neg, Not, Bin, Place, Whole, At, Field, Load, Store, Cas, Make, Free, NewLock, Acquire, Release, Read, Print, Call, Fork, Join, Return, Stmt, Let, If, While, Do, Stmts, end, more, both, Function, greatest}

-- the place of a name among those, from 0; past the end where it isn't there
abbrev pub place_of : List c.Name → c.Name → ℕ
place_of [] name = zero
place_of (n ∷ ns) name = if bytes_eq name n then zero else suc (place_of ns name)

abbrev pub struct_place : List CStruct → c.Name → ℕ
struct_place structs name = place_of (map (λ s. s.name) structs) name

-- what is needed to resolve the names of a function: the structures and the functions of the program, and which locals
-- point to which structures
pub record Names : Type 0 where
  pub structs : List CStruct
  pub functions : List c.Name
  pub pointers : List Pointer

-- ---- locals that point to structures

abbrev pub pointer_of : List CStruct → ℕ → CType → List Pointer
pointer_of structs x (kind.PtrStruct s) = record { local = x; structure = struct_place structs s } ∷ []
pointer_of structs x _ = []

abbrev pub pointers_of : List CStruct → List CParam → List Pointer
pointers_of structs [] = []
pointers_of structs (p ∷ ps) = pointer_of structs p.local.number p.kind ++ pointers_of structs ps

abbrev mutual
  -- those that a statement binds, in its blocks too
  pub pointers_in_one : List CStruct → c.Stmt → List Pointer
  pointers_in_one structs (c.Let kind x e) = pointer_of structs x.number kind
  pointers_in_one structs (c.Load kind x cell) = pointer_of structs x.number kind
  pointers_in_one structs (c.NewStruct x s inits) = pointer_of structs x.number (kind.PtrStruct s)
  pointers_in_one structs (c.CallLet kind x f args) = pointer_of structs x.number kind
  pointers_in_one structs (c.If e a b) = pointers_in structs a ++ pointers_in structs b
  pointers_in_one structs (c.While l e b) = pointers_in structs l ++ pointers_in structs b
  pointers_in_one structs _ = []

  pub pointers_in : List CStruct → c.Stmts → List Pointer
  pointers_in structs c.end = []
  pointers_in structs (c.more s rest) = pointers_in_one structs s ++ pointers_in structs rest

-- the structure to which a local points
abbrev pub structure_of : List Pointer → ℕ → Option ℕ
structure_of [] x = None
structure_of (p ∷ ps) x = if p.local == x then Some p.structure else structure_of ps x

abbrev pub members_at : List CStruct → Option ℕ → List CMember
members_at structs None = []
members_at structs (Some k) = members_of (slice_get structs k)
  where
    members_of : Option CStruct → List CMember
    members_of None = []
    members_of (Some s) = s.members

-- the place of a member in the structure to which a local points
abbrev pub field_place : Names → ℕ → c.Name → ℕ
field_place names base member = place_of (map (λ m. m.name) (members_at names.structs (structure_of names.pointers base))) member

abbrev pub function_place : Names → c.Name → ℕ
function_place names f = place_of names.functions f

-- ---- expressions and statements

abbrev pub term_of : c.Expr → Term
term_of (c.Int n) = Int n
term_of (c.Truth b) = Truth b
term_of c.Null = Null
term_of (c.Var x) = Var x.number
term_of (c.Neg e) = Neg (term_of e)
term_of (c.Not e) = Not (term_of e)
term_of (c.Bin op a b) = Bin op (term_of a) (term_of b)

abbrev pub cell_of : Names → c.Cell → Place
cell_of names (c.Whole base) = Whole base.number
cell_of names (c.At base index) = At base.number (term_of index)
cell_of names (c.Field base member) = Field base.number (field_place names base.number member)

-- the count of elements of a block that is no array
abbrev pub once : Term
once = Int (pos 1)

-- a `par` forks a thread for its first call, makes the second one, and joins: these are the two statements before the last
abbrev pub before_last : Names → c.Stmt → Stmts
before_last names (c.Par f args g others) =
    more (Do (Fork (function_place names f) (map term_of args)))
    (more (Do (Call None (function_place names g) (map term_of others))) end)
before_last names _ = end

abbrev mutual
  -- the last statement that stands for a statement of C; it is the only one but for a `par`
  pub last_of : Names → c.Stmt → Stmt
  last_of names (c.Let kind x e) = Let x.number (term_of e)
  last_of names (c.Load kind x cell) = Do (Load x.number (cell_of names cell) false)
  last_of names (c.Store cell e) = Do (Store (cell_of names cell) (term_of e) false)
  last_of names (c.New kind x e) = Do (Make x.number false (term_of e ∷ []) once)
  last_of names (c.NewArray kind x e count) = Do (Make x.number false (term_of e ∷ []) (term_of count))
  last_of names (c.NewAtomic x e) = Do (Make x.number true (term_of e ∷ []) once)
  last_of names (c.NewStruct x s inits) = Do (Make x.number false (map (λ i. term_of i.value) inits) once)
  last_of names (c.Free base) = Do (Free base.number)
  last_of names (c.AtomicLoad x base) = Do (Load x.number (Whole base.number) true)
  last_of names (c.AtomicStore base e) = Do (Store (Whole base.number) (term_of e) true)
  last_of names (c.Cas x base old new) = Do (Cas x.number base.number (term_of old) (term_of new))
  last_of names (c.NewLock x) = Do (NewLock x.number)
  last_of names (c.Acquire lock) = Do (Acquire lock.number)
  last_of names (c.Release lock) = Do (Release lock.number)
  last_of names (c.Read x) = Do (Read x.number)
  last_of names (c.Print e) = Do (Print (term_of e))
  last_of names (c.Call f args) = Do (Call None (function_place names f) (map term_of args))
  last_of names (c.CallLet kind x f args) = Do (Call (Some x.number) (function_place names f) (map term_of args))
  last_of names (c.Par f args g others) = Do Join
  last_of names (c.If e first second) = If (term_of e) (resolved names first) (resolved names second)
  last_of names (c.While loads e body) = While (resolved names loads) (term_of e) (resolved names body)
  last_of names (c.Return e) = Do (Return (term_of e))

  pub resolved : Names → c.Stmts → Stmts
  resolved names c.end = end
  resolved names (c.more s rest) = both (before_last names s) (more (last_of names s) (resolved names rest))

-- ---- functions

abbrev pub names_in : c.Program → c.Fun → Names
names_in p f = record {
  structs = p.structs;
  functions = map (λ g. g.name) p.funs;
  pointers = pointers_of p.structs f.params ++ pointers_in p.structs f.body;
}

-- a function of so many parameters: place 0 is nobody's, and each local has the place of its number
abbrev pub function_with : ℕ → Stmts → Function
function_with params body = record { body = body; slots = suc (max params (greatest body)) }

abbrev pub function_of : c.Program → c.Fun → Function
function_of p f = function_with (length f.params) (resolved (names_in p f) f.body)

-- the functions of a program, in its order
abbrev pub functions_of : c.Program → List Function
functions_of p = map (function_of p) p.funs

-- the place of `main`
abbrev pub main_place : c.Program → ℕ
main_place p = place_of (map (λ g. g.name) p.funs) (codes "main")
