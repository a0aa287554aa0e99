-- The table of statements: what the checker knows before and after each of them, where each atom that is taken is given.
use Rattle.std.specs.Prelude.{◌≡◌, pos, Option, Some, None, List, [], ◌∷◌, ◌++◌, length, if◌then◌else◌}
use Rattle.std.specs.Str.{bytes_eq}
use Rattle.pl_base.specs.Permission.{Permission, whole}
use Rattle.pl_syntax.specs.Tree.{Name, Expr, Int, Var, Whole, Stmt, Load, Alloc, Free, Print}
use Rattle.pl_terms.specs.declared.term.Term.{Term}
use Rattle.pl_terms.specs.declared.term.Term.TheVariants.{Literal, Variable}
use Rattle.pl_terms.specs.Terms.{Atom, Points, Block}

-- what each name stands for
abbrev pub Names : Type 0
Names = Name → Option Term

-- one name more
abbrev pub put : Name → Term → Names → Names
put x t names = λ y. if bytes_eq y x then Some t else names y

-- what is known: the names of the variables by their numbers, what names stand for, and the atoms that are owned
pub record Known : Type 0 where
  pub origins : List Name
  pub names : Names
  pub atoms : List Atom

-- at the start of a function without parameters
abbrev pub start : Known
start = record { origins = []; names = λ y. None; atoms = [] }

-- the term of a literal or a name; none where the name isn't bound, and of the other forms, which aren't built yet
abbrev pub term_of : Names → Expr → Option Term
term_of names (Int place n) = Some (Literal n)
term_of names (Var place x) = names x
term_of names _ = None

-- the next variable
abbrev pub next_of : Known → Term
next_of s = Variable (length s.origins)

-- x is the next variable
abbrev pub with_variable : Known → Name → Known
with_variable s x = record { origins = s.origins ++ x ∷ []; names = put x (next_of s) s.names; atoms = s.atoms }

-- after an alloc: its variable points to the value, and its block may be freed
abbrev pub allocated : Known → Name → Term → Known
allocated s x value = record (with_variable s x) { atoms = s.atoms ++ (Points (next_of s) whole value ∷ Block (next_of s) (Literal (pos 1)) ∷ []) }

-- `let x = alloc(e);` gives `x |-> e ** block(x, 1)`
pub record AllocRule (s : Known) (x : Name) (e : Expr) (t : Known) : Type 0 where
  pub value : Term
  pub value_is : term_of s.names e ≡ Some value
  pub is : t ≡ allocated s x value

-- `let x = !c;` keeps `c |->{_} w`, and x stands for w
pub record LoadRule (s : Known) (x c : Name) (t : Known) : Type 0 where
  pub base : Term
  pub base_is : s.names c ≡ Some base
  pub front : List Atom
  pub permission : Permission
  pub value : Term
  pub back : List Atom
  pub at : s.atoms ≡ front ++ Points base permission value ∷ back
  pub is : t ≡ record s { names = put x value s.names }

-- `free(x);` takes `x |-> _ ** block(x, 1)`
pub record FreeRule (s : Known) (x : Name) (t : Known) : Type 0 where
  pub base : Term
  pub base_is : s.names x ≡ Some base
  pub front : List Atom
  pub value : Term
  pub back : List Atom
  pub cell_at : s.atoms ≡ front ++ Points base whole value ∷ back
  pub front' : List Atom
  pub back' : List Atom
  pub block_at : front ++ back ≡ front' ++ Block base (Literal (pos 1)) ∷ back'
  pub is : t ≡ record s { atoms = front' ++ back' }

-- `print(e);` changes nothing
pub record PrintRule (s : Known) (e : Expr) (t : Known) : Type 0 where
  pub value : Term
  pub value_is : term_of s.names e ≡ Some value
  pub is : t ≡ s

-- the rule of a statement; the other forms aren't built yet
abbrev pub Rule : Known → Stmt → Known → Type 0
Rule s (Load place x (Whole c) is_ghost) t = LoadRule s x c t
Rule s (Alloc place x e) t = AllocRule s x e t
Rule s (Free place x) t = FreeRule s x t
Rule s (Print place e) t = PrintRule s e t
Rule s _ t = ⊥
