-- What is written by the forms: names, numbers, literals and nesting; no two places of a text are compared.
use Rattle.std.specs.Prelude.{◌≡◌, ◌≢◌, ⊤, ℕ, zero, suc, ◌≤◌, ◌<◌, ◌^◌, pos, negsuc, true, List, [], ◌∷◌}
use Rattle.std.specs.Char.{is_ascii_digit}
use Rattle.std.specs.List.{list_all, AllByRecursion}
use Rattle.c_syntax.specs.declared.kind.CType.{CType}
use Rattle.c_syntax.specs.declared.kind.CType.TheVariants as kind
use Rattle.c_syntax.specs.Names.{TypeNames}
use Rattle.pl_lexer.specs.Proper.{IsName}
use Rattle.pl_readers.specs.Bytes.{value_from}
use Rattle.c_forms.specs.declared.word.Number.{Number}
use Rattle.c_forms.specs.declared.word.Number.TheVariants as number
use Rattle.c_forms.specs.declared.word.Local.{Local}
use Rattle.c_forms.specs.declared.source.Member.{Member}
use Rattle.c_forms.specs.declared.source.Struct.{Struct}
use Rattle.c_forms.specs.declared.source.Param.{Param}
use Rattle.c_forms.specs.declared.source.Head.{Head}
use Rattle.c_forms.specs.declared.source.Slot.{Slot}
use Rattle.c_forms.specs.declared.source.Starter.{Starter}
use Rattle.c_forms.specs.Text.{source_text}
use Rattle.c_forms.specs.Tree as t
use Rattle.c_forms.specs.Tree.{Name, Expr, Cell, Right, LoadLine, Argument, ParLines, Stmt, Stmts, Fun, Source}

-- ---- words

-- decimal digits without a leading zero
abbrev pub IsDecimal : List ℕ → Type 0
IsDecimal text =
    (c : ℕ) × (cs : List ℕ) × (text ≡ c ∷ cs) × (is_ascii_digit c ≡ true) × (list_all is_ascii_digit cs ≡ true) × (c ≡ 48 → cs ≡ [])

-- a number: its digits are kept only where it is no `u32`
abbrev pub IsNumberForm : Number → Type 0
IsNumberForm (number.Small n) = n < 2 ^ 32
IsNumberForm (number.Long digits) = IsDecimal digits × (2 ^ 32 ≤ value_from 0 digits)

-- a local
abbrev pub IsLocalForm : Local → Type 0
IsLocalForm x = IsName x.name × IsNumberForm x.number

-- a type
abbrev pub IsTypeForm : CType → Type 0
IsTypeForm type = TypeNames IsName type

-- ---- expressions

-- a literal above 0, whose negation is spelled as another literal is
abbrev pub IsAboveZero : Expr → Type 0
IsAboveZero (t.Int (pos (suc n))) = ⊤
IsAboveZero _ = ⊥

-- an expression in which brackets nest to n
abbrev pub IsNestedForm : ℕ → Expr → Type 0
IsNestedForm n (t.Int (pos k)) = k < 2 ^ 63
IsNestedForm zero (t.Int (negsuc k)) = ⊥
IsNestedForm (suc n) (t.Int (negsuc k)) = k < 2 ^ 63
IsNestedForm n (t.Truth b) = ⊤
IsNestedForm n t.Null = ⊤
IsNestedForm n (t.Var x) = IsLocalForm x
IsNestedForm zero (t.Neg e) = ⊥
IsNestedForm (suc n) (t.Neg e) = (¬ IsAboveZero e) × IsNestedForm n e
IsNestedForm zero (t.Not e) = ⊥
IsNestedForm (suc n) (t.Not e) = IsNestedForm n e
IsNestedForm zero (t.Bin op a b) = ⊥
IsNestedForm (suc n) (t.Bin op a b) = IsNestedForm n a × IsNestedForm n b

-- brackets of expressions nest to 128
abbrev pub IsExprForm : Expr → Type 0
IsExprForm e = IsNestedForm 128 e

-- a cell
abbrev pub IsCellForm : Cell → Type 0
IsCellForm (t.Whole base) = IsLocalForm base
IsCellForm (t.At base index) = IsLocalForm base × IsExprForm index
IsCellForm (t.Field base member) = IsLocalForm base × IsName member

-- a call
abbrev pub IsCallForm : Name → List Expr → Type 0
IsCallForm f args = IsName f × AllByRecursion IsExprForm args

-- ---- statements

-- what may stand behind the `=` of a line that binds a local of this type; three forms have their type
abbrev pub IsRightForm : CType → Right → Type 0
IsRightForm type (t.Value e) = IsExprForm e
IsRightForm type (t.Load cell) = IsCellForm cell
IsRightForm type (t.New maker e) = IsExprForm e
IsRightForm type (t.Array e count) = IsExprForm e × IsExprForm count
IsRightForm type (t.Structure s) = IsName s
IsRightForm type t.Lock = ⊤
IsRightForm type (t.Call f args) = IsCallForm f args
IsRightForm type (t.AtomicLoad base) = (type ≡ kind.I64) × IsLocalForm base
IsRightForm type t.Read = type ≡ kind.I64
IsRightForm type (t.Cas base old new) = (type ≡ kind.Bool) × IsLocalForm base × IsExprForm old × IsExprForm new

-- a line of the head of a loop
abbrev pub IsLoadForm : LoadLine → Type 0
IsLoadForm l = IsTypeForm l.kind × IsLocalForm l.local × IsCellForm l.cell

-- a line that hands an argument over
abbrev pub IsArgumentForm : Argument → Type 0
IsArgumentForm a = IsNumberForm a.number × IsExprForm a.value

-- the bracketed lines of a `par`
pub record IsParForm (p : ParLines) : Type 0 where
  pub structure : IsName p.structure
  pub size : IsName p.size
  pub arguments : AllByRecursion IsArgumentForm p.arguments
  pub starter : IsName p.starter
  pub call : IsCallForm p.other p.others

abbrev mutual
  -- a statement in which blocks nest to n
  pub IsStmtForm : ℕ → Stmt → Type 0
  IsStmtForm n (t.Bind type x right) = IsTypeForm type × IsLocalForm x × IsRightForm type right
  IsStmtForm n (t.Store cell e) = IsCellForm cell × IsExprForm e
  IsStmtForm n (t.Free base) = IsLocalForm base
  IsStmtForm n (t.AtomicStore base e) = IsLocalForm base × IsExprForm e
  IsStmtForm n (t.Acquire lock) = IsLocalForm lock
  IsStmtForm n (t.Release lock) = IsLocalForm lock
  IsStmtForm n (t.Print e) = IsExprForm e
  IsStmtForm n (t.CallStmt f args) = IsCallForm f args
  IsStmtForm zero (t.Par lines) = ⊥
  IsStmtForm (suc n) (t.Par lines) = IsParForm lines
  IsStmtForm zero (t.If e first second) = ⊥
  IsStmtForm (suc n) (t.If e first second) = IsExprForm e × AreStmtForms n first × AreStmtForms n second
  IsStmtForm zero (t.While loads e body) = ⊥
  IsStmtForm (suc n) (t.While loads e body) = AllByRecursion IsLoadForm loads × IsExprForm e × AreStmtForms n body
  IsStmtForm n (t.Return e) = IsExprForm e

  -- statements in which blocks nest to n
  pub AreStmtForms : ℕ → Stmts → Type 0
  AreStmtForms n t.end = ⊤
  AreStmtForms n (t.more s rest) = IsStmtForm n s × AreStmtForms n rest

-- ---- structures and functions

-- a member
abbrev pub IsMemberForm : Member → Type 0
IsMemberForm m = IsTypeForm m.kind × IsName m.name

-- a structure: it has a member (C11 6.7.2.1)
abbrev pub IsStructForm : Struct → Type 0
IsStructForm s = IsName s.name × (s.members ≢ []) × AllByRecursion IsMemberForm s.members

-- a parameter
abbrev pub IsParamForm : Param → Type 0
IsParamForm p = IsTypeForm p.kind × IsLocalForm p.local

-- a function's result, name and parameters
abbrev pub IsHeadForm : Head → Type 0
IsHeadForm h = IsTypeForm h.result × IsName h.name × AllByRecursion IsParamForm h.params

-- a member for an argument
abbrev pub IsSlotForm : Slot → Type 0
IsSlotForm s = IsTypeForm s.kind × IsNumberForm s.number

-- a structure of arguments and its starter
pub record IsStarterForm (s : Starter) : Type 0 where
  pub structure : IsName s.structure
  pub slots : AllByRecursion IsSlotForm s.slots
  pub name : IsName s.name
  pub pointer : IsName s.pointer
  pub copy : IsName s.copy
  pub function : IsName s.function
  pub arguments : AllByRecursion IsNumberForm s.arguments

-- a function: blocks nest to 128, its body being the first
abbrev pub IsFunForm : Fun → Type 0
IsFunForm f = IsHeadForm f.head × AreStmtForms 127 f.body

-- what is written by the forms
pub record IsForm (s : Source) : Type 0 where
  pub structs : AllByRecursion IsStructForm s.structs
  pub prototypes : AllByRecursion IsHeadForm s.prototypes
  pub starters : AllByRecursion IsStarterForm s.starters
  pub funs : AllByRecursion IsFunForm s.funs

-- the bytes are the text of what is written, by the forms
pub record IsFormText (s : Source) (bytes : List ℕ) : Type 0 where
  pub forms : IsForm s
  pub text : bytes ≡ source_text s
