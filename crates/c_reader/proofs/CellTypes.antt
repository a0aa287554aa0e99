-- Cells, arguments and calls without breaches keep the rules.
use Rattle.std.proofs.Common.{◌≡◌, ◌∙◌, sym, ap, refl, subst, ℕ, ◌+◌, ◌==◌, ◌&&◌, true, Option, Some, None, List, [], ◌∷◌, ◌++◌, length, map}
use Rattle.std.specs.Prelude.{option_and_then}
use Rattle.std.proofs.lemmas.Bool.{and_parts}
use Rattle.std.specs.Cmp.{unsigned_Decides}
use Rattle.c_syntax.specs.declared.kind.CType.{CType}
use Rattle.c_syntax.specs.declared.kind.CType.TheVariants as kind
use Rattle.c_syntax.specs.declared.program.CMember.{CMember}
use Rattle.c_syntax.specs.declared.program.CParam.{CParam}
use Rattle.c_syntax.specs.declared.program.CStruct.{CStruct}
use Rattle.c_syntax.specs.Rules.{ArgumentsFit, CallFits, CellHasType, Fits, element, function_of, members_of, type_of, type_of_member}
use Rattle.c_syntax.specs.Tree as t
use Rattle.c_syntax.specs.Tree.{Name}
use Rattle.c_forms.specs.declared.word.Local.{Local}
use Rattle.c_forms.specs.declared.source.Head.{Head}
use Rattle.c_forms.specs.declared.source.Param.{Param}
use Rattle.c_forms.specs.Tree as w
use Rattle.c_forms.specs.Text.{cell_text, expr_text, local_text}
use Rattle.c_syntax.specs.Text.{function_name}
use Rattle.c_rules.specs.Kinds.{same_type}
use Rattle.c_rules.specs.Lines.{Known, agrees, argument_breaches, argument_found, call_of, call_breaches, load_breaches, store_breaches}
use Rattle.c_rules.specs.Sorts.{Structs, cell_breaches, field_breaches, fitting, held, is_type, kind_at, local_of, local_wanted, members_at, named_at, pointed, unless, unless_some, wanted}
use Rattle.c_rules.proofs.ExprRules.{same_is, none_both}
use Rattle.c_reader.specs.Standing.{cell_of, expr_of, param_of}
use Rattle.c_reader.proofs.Breachless.{holds, there, type_is}
use Rattle.c_reader.proofs.ExprTypes.{fits, has_type}

-- a local of that type
pub local_type : (bound : List CParam) (want : CType) (at : ℕ) (x : Local) → local_wanted bound want at x ≡ [] → type_of bound (local_of x) ≡ Some want
local_type bound want at x h = type_is want (kind_at bound x) (holds (is_type want (kind_at bound x)) at h)

-- ---- cells

-- a cell that has a type
pub record Held (structs : List CStruct) (bound : List CParam) (c : w.Cell) : Type 0 where
  pub type : CType
  pub is : held (members_of structs) bound c ≡ Some type
  pub has : CellHasType structs bound (cell_of c) type

-- the structure to which a local points
record Pointed (structs : Structs) (o : Option CType) (members : List CMember) : Type 0 where
  structure : Name
  points : o ≡ Some (kind.PtrStruct structure)
  known : structs structure ≡ Some members

pointed_at : (structs : Structs) (o : Option CType) (members : List CMember) → option_and_then structs (option_and_then pointed o) ≡ Some members → Pointed structs o members
pointed_at structs None members h = cc
pointed_at structs (Some kind.Void) members h = cc
pointed_at structs (Some kind.I64) members h = cc
pointed_at structs (Some kind.Bool) members h = cc
pointed_at structs (Some kind.PtrI64) members h = cc
pointed_at structs (Some kind.PtrBool) members h = cc
pointed_at structs (Some (kind.PtrStruct s)) members h = record { structure = s; points = refl; known = h }
pointed_at structs (Some kind.PtrAtomic) members h = cc
pointed_at structs (Some kind.PtrLock) members h = cc

field_held : (structs : List CStruct) (bound : List CParam) (base : Local) (member : Name) (o : Option (List CMember)) (at place : ℕ) → members_at (members_of structs) bound base ≡ o →
    field_breaches o member at place ≡ [] → Held structs bound (w.Field base member)
field_held structs bound base member None at place e h = cc
field_held structs bound base member (Some members) at place e h =
    let m = there (type_of_member members member) place h in
    let p = pointed_at (members_of structs) (kind_at bound base) members e in
    record { type = m.0; is = ap (option_and_then (λ ms. type_of_member ms member)) e ∙ m.1; has = (p.structure, members, p.points, p.known, m.1) }

pub cell_held : (structs : List CStruct) (bound : List CParam) (at : ℕ) (c : w.Cell) → cell_breaches (members_of structs) bound at c ≡ [] → Held structs bound c
cell_held structs bound at (w.Whole base) h =
    let m = there (option_and_then element (kind_at bound base)) (at + 1) h in
    record { type = m.0; is = m.1; has = m.1 }
cell_held structs bound at (w.At base index) h =
    let place = at + length (local_text base) + 1 in
    let parts = none_both (unless_some (option_and_then element (kind_at bound base)) at) (wanted bound kind.I64 place index) h in
    let m = there (option_and_then element (kind_at bound base)) at parts.0 in
    record { type = m.0; is = m.1; has = (m.1, has_type bound kind.I64 place index parts.1) }
cell_held structs bound at (w.Field base member) h =
    field_held structs bound base member (members_at (members_of structs) bound base) at (at + length (local_text base) + 2) refl h

agreed : (want : CType) (o : Option CType) (type : CType) → o ≡ Some type → agrees want o ≡ true → type ≡ want
agreed want None type e h = cc
agreed want (Some u) type e h = let k : type ≡ u = cc in k ∙ same_is u want h

-- a load
pub loads : (structs : List CStruct) (bound : List CParam) (type : CType) (at : ℕ) (c : w.Cell) → load_breaches (members_of structs) bound type at c ≡ [] →
    CellHasType structs bound (cell_of c) type
loads structs bound type at c h =
    let parts = none_both (cell_breaches (members_of structs) bound at c) (unless (agrees type (held (members_of structs) bound c)) (named_at at c)) h in
    let m = cell_held structs bound at c parts.0 in
    subst (CellHasType structs bound (cell_of c)) (agreed type (held (members_of structs) bound c) m.type m.is (holds (agrees type (held (members_of structs) bound c)) (named_at at c) parts.1)) m.has

value_fits : (bound : List CParam) (o : Option CType) (type : CType) (at : ℕ) (e : w.Expr) → o ≡ Some type → argument_found bound o at e ≡ [] → Fits bound (expr_of e) type
value_fits bound o type at e k h = fits bound type at e (sym (ap (λ x. argument_found bound x at e) k) ∙ h)

-- a store
pub stores : (known : Known) (structs : List CStruct) (bound : List CParam) (at : ℕ) (c : w.Cell) (e : w.Expr) → known.structs ≡ members_of structs → store_breaches known bound at c e ≡ [] →
    (type : CType) × CellHasType structs bound (cell_of c) type × Fits bound (expr_of e) type
stores known structs bound at c e k h =
    let place = at + length (cell_text c) + 3 in
    let h' : cell_breaches (members_of structs) bound at c ++ argument_found bound (held (members_of structs) bound c) place e ≡ [] =
    sym (ap (λ (s : Structs). cell_breaches s bound at c ++ argument_found bound (held s bound c) place e) k) ∙ h in
    let parts = none_both (cell_breaches (members_of structs) bound at c) (argument_found bound (held (members_of structs) bound c) place e) h' in
    let m = cell_held structs bound at c parts.0 in
    (m.type, m.has, value_fits bound (held (members_of structs) bound c) m.type place e m.is parts.1)

-- ---- calls

pub arguments_fit : (bound : List CParam) (at : ℕ) (es : List w.Expr) (ps : List Param) → length es ≡ length ps → argument_breaches bound at es (map (λ p. p.kind) ps) ≡ [] →
    ArgumentsFit bound (map expr_of es) (map param_of ps)
arguments_fit bound at [] [] l h = tt
arguments_fit bound at [] (p ∷ ps) l h = cc
arguments_fit bound at (e ∷ es) [] l h = cc
arguments_fit bound at (e ∷ es) (p ∷ ps) l h =
    let behind = at + length (expr_text e) + 2 in
    let parts = none_both (fitting bound p.kind at e) (argument_breaches bound behind es (map (λ p. p.kind) ps)) h in
    let l' : length es ≡ length ps = cc in
    (fits bound p.kind at e parts.0, arguments_fit bound behind es ps l' parts.1)

-- what a head stands for
pub record Stands (p : t.Program) (f : Name) (g : Head) : Type 0 where
  pub fun : t.Fun
  pub found : function_of p.funs f ≡ Some fun
  pub result : fun.result ≡ g.result
  pub params : fun.params ≡ map param_of g.params

abbrev pub Heads : t.Program → Known → Type 0
Heads p known = (f : Name) (g : Head) → known.heads f ≡ Some g → Stands p f g

call_found : (p : t.Program) (known : Known) → Heads p known → (bound : List CParam) (o : Option Head) (want : CType) (at : ℕ) (f : Name) (args : List w.Expr) → known.heads f ≡ o →
    call_of bound o want at f args ≡ [] → CallFits p bound f (map expr_of args) want
call_found p known k bound None want at f args e h = cc
call_found p known k bound (Some g) want at f args e h =
    let place = at + length (function_name f) + 1 in
    let parts = none_both (unless (same_type g.result want && (length args == length g.params)) at) (argument_breaches bound place args (map (λ q. q.kind) g.params)) h in
    let tests = and_parts (same_type g.result want) (length args == length g.params) (holds (same_type g.result want && (length args == length g.params)) at parts.0) in
    let s = k f g e in (
      s.fun,
      s.found,
      s.result ∙ same_is g.result want tests.0,
      subst (ArgumentsFit bound (map expr_of args)) (sym s.params) (arguments_fit bound place args g.params ((unsigned_Decides (length args) (length g.params)).0 tests.1) parts.1),
    )

pub calls : (p : t.Program) (known : Known) → Heads p known → (bound : List CParam) (want : CType) (at : ℕ) (f : Name) (args : List w.Expr) →
    call_breaches known.heads bound want at f args ≡ [] → CallFits p bound f (map expr_of args) want
calls p known k bound want at f args h = call_found p known k bound (known.heads f) want at f args refl h
