-- The walk: each statement takes the first atom that fits, and the first duty that is left undone.
use Rattle.std.specs.Prelude.{◌≡◌, ◌≢◌, ◌⊎◌, ℕ, Option, Some, None, List, [], ◌∷◌, ◌++◌, slice_get, All}
use Rattle.std.specs.Fmt.{signed_decimal}
use lib.Chars.{codes}
use Rattle.pl_base.specs.declared.pos.Pos.{Pos}
use Rattle.pl_base.specs.Permission.{whole}
use Rattle.pl_syntax.specs.Places.{pos_of}
use Rattle.pl_syntax.specs.Tree.{Name, Whole, Stmt, Load, Alloc, Free, Print, FunDecl, list_of, close_of}
use Rattle.pl_terms.specs.declared.term.Term.{Term}
use Rattle.pl_terms.specs.declared.term.Term.TheVariants.{Literal, Variable}
use Rattle.pl_walk.specs.declared.walk.Duty.{Duty}
use Rattle.pl_walk.specs.declared.walk.Duty.TheVariants.{Missing, Leftover}
use Rattle.pl_terms.specs.Terms.{Atom, Points, Block}
use Rattle.pl_terms.specs.Table.{Known, start, AllocRule, LoadRule, FreeRule, PrintRule}

-- an atom is a points-to of that cell with any permission
abbrev pub PointsTo : Term → Atom → Type 0
PointsTo base (Points b q v) = b ≡ base
PointsTo base (Block b n) = ⊥

-- an atom is a points-to of that cell with the whole permission
abbrev pub PointsWhole : Term → Atom → Type 0
PointsWhole base (Points b q v) = (b ≡ base) × (q ≡ whole)
PointsWhole base (Block b n) = ⊥

-- an atom is the right to free that block
abbrev pub BlockOf : Term → Atom → Type 0
BlockOf base (Points b q v) = ⊥
BlockOf base (Block b n) = b ≡ base

-- no atom of the list does
abbrev pub NoneOf : (Atom → Type 0) → List Atom → Type 0
NoneOf P atoms = All (λ a. P a → ⊥) atoms

-- the rule of a load, with the first points-to that fits
pub record WalksLoad (s : Known) (x c : Name) (t : Known) : Type 0 where
  pub rule : LoadRule s x c t
  pub first : NoneOf (PointsTo rule.base) rule.front

-- the rule of a free, with the first points-to and then the first block that fit
pub record WalksFree (s : Known) (x : Name) (t : Known) : Type 0 where
  pub rule : FreeRule s x t
  pub first_cell : NoneOf (PointsWhole rule.base) rule.front
  pub first_block : NoneOf (BlockOf rule.base) rule.front'

-- a statement's duties are done, and this is known after it
abbrev pub WalksOver : Known → Stmt → Known → Type 0
WalksOver s (Load place x (Whole c) is_ghost) t = WalksLoad s x c t
WalksOver s (Alloc place x e) t = AllocRule s x e t
WalksOver s (Free place x) t = WalksFree s x t
WalksOver s (Print place e) t = PrintRule s e t
WalksOver s _ t = ⊥

-- one statement after another
abbrev pub Walks : Known → List Stmt → Known → Type 0
Walks s [] t = t ≡ s
Walks s (st ∷ rest) t = (u : Known) × WalksOver s st u × Walks u rest t

-- a name or a number, as it is printed
abbrev pub name_or_nothing : Option Name → List ℕ
name_or_nothing None = []
name_or_nothing (Some x) = x

abbrev pub term_text : List Name → Term → List ℕ
term_text origins (Literal n) = signed_decimal n
term_text origins (Variable k) = name_or_nothing (slice_get origins k)

-- an atom, as it is printed
abbrev pub atom_text : List Name → Atom → List ℕ
atom_text origins (Points base permission value) = term_text origins base ++ codes " |-> " ++ term_text origins value
atom_text origins (Block base count) = codes "block(" ++ term_text origins base ++ codes ", " ++ term_text origins count ++ codes ")"

-- atoms, joined by ` ** `
abbrev pub atoms_text : List Name → List Atom → List ℕ
atoms_text origins [] = []
atoms_text origins (a ∷ []) = atom_text origins a
atoms_text origins (a ∷ b ∷ rest) = atom_text origins a ++ codes " ** " ++ atoms_text origins (b ∷ rest)

-- no atom fits `c |->{_} w`
pub record LoadRefused (s : Known) (c : Name) (duty : Duty) : Type 0 where
  pub base : Term
  pub base_is : s.names c ≡ Some base
  pub none : NoneOf (PointsTo base) s.atoms
  pub text : duty ≡ Missing (c ++ codes " |->{_} w")

-- no atom fits `x |-> _`
pub record FreeRefused (s : Known) (x : Name) (duty : Duty) : Type 0 where
  pub base : Term
  pub base_is : s.names x ≡ Some base
  pub none : NoneOf (PointsWhole base) s.atoms
  pub text : duty ≡ Missing (x ++ codes " |-> _")

-- the first points-to fits `x |-> _`, and then no atom fits `block(x, 1)`
pub record BlockRefused (s : Known) (x : Name) (duty : Duty) : Type 0 where
  pub base : Term
  pub base_is : s.names x ≡ Some base
  pub front : List Atom
  pub value : Term
  pub back : List Atom
  pub cell_at : s.atoms ≡ front ++ Points base whole value ∷ back
  pub first : NoneOf (PointsWhole base) front
  pub none : NoneOf (BlockOf base) (front ++ back)
  pub text : duty ≡ Missing (codes "block(" ++ x ++ codes ", 1)")

-- a statement's first duty that is left undone
abbrev pub Refuses : Known → Stmt → Duty → Type 0
Refuses s (Load place x (Whole c) is_ghost) duty = LoadRefused s c duty
Refuses s (Free place x) duty = FreeRefused s x duty ⊎ BlockRefused s x duty
Refuses s _ duty = ⊥

-- the statements go well up to one that is refused
pub record Stops (list : List Stmt) (where_at : Pos) (duty : Duty) : Type 0 where
  pub before : List Stmt
  pub stmt : Stmt
  pub after : List Stmt
  pub split : list ≡ before ++ stmt ∷ after
  pub known : Known
  pub walks : Walks start before known
  pub refuses : Refuses known stmt duty
  pub place : where_at ≡ pos_of stmt

-- all statements go well, and at the closing brace atoms are left over
pub record LeavesOver (f : FunDecl) (where_at : Pos) (duty : Duty) : Type 0 where
  pub end : Known
  pub walks : Walks start (list_of f.body) end
  pub some_left : end.atoms ≢ []
  pub text : duty ≡ Leftover (atoms_text end.origins end.atoms)
  pub place : where_at ≡ close_of f.body

-- the first duty of a function that is left undone, with its place
abbrev pub Undone : FunDecl → Pos → Duty → Type 0
Undone f place duty = Stops (list_of f.body) place duty ⊎ LeavesOver f place duty

-- no duty of a function is left undone
pub record AllDone (f : FunDecl) : Type 0 where
  pub end : Known
  pub walks : Walks start (list_of f.body) end
  pub none_left : end.atoms ≡ []
