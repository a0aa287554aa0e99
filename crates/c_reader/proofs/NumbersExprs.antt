-- What is written of an expression that keeps the rules is of the forms.
use Rattle.std.proofs.Common.{ℕ, suc, zero, ◌+◌, ◌<◌, ◌≤◌, ◌^◌, pos, negsuc, Option, Some, None, List, [], ◌∷◌, length, map, arith, inl, inr, lt_of_lt_of_le}
use Rattle.std.specs.Prelude.{◌⊎◌, ⊤, MatchOption}
use Rattle.std.specs.List.{AllByRecursion}
use Rattle.pl_lexer.specs.Proper.{IsName}
use Rattle.c_syntax.specs.declared.kind.CType.{CType}
use Rattle.c_syntax.specs.declared.kind.CType.TheVariants as kind
use Rattle.c_syntax.specs.declared.kind.Local.{Local}
use Rattle.c_syntax.specs.declared.program.CParam.{CParam}
use Rattle.c_syntax.specs.declared.program.CStruct.{CStruct}
use Rattle.c_syntax.specs.Forms as plain
use Rattle.c_syntax.specs.Forms.{expr_depth}
use Rattle.c_syntax.specs.Names.{CellNames, ExprNames}
use Rattle.c_syntax.specs.Rules.{AreAlike, ArgumentsFit, CallFits, CellHasType, Fits, HasType, NullFits, operand}
use Rattle.c_syntax.specs.Tree as t
use Rattle.c_syntax.specs.Tree.{Name}
use Rattle.c_forms.specs.Forms.{IsAboveZero, IsArgumentForm, IsCallForm, IsCellForm, IsExprForm, IsLocalForm, IsNestedForm}
use Rattle.c_reader.proofs.NumbersScopes.{Below, below_based, below_used}
use Rattle.c_reader.proofs.Written as written

-- ---- numbers of locals in an expression

abbrev pub ExprNumbers : ℕ → t.Expr → Type 0
ExprNumbers limit (t.Var x) = x.number < limit
ExprNumbers limit (t.Neg e) = ExprNumbers limit e
ExprNumbers limit (t.Not e) = ExprNumbers limit e
ExprNumbers limit (t.Bin op a b) = ExprNumbers limit a × ExprNumbers limit b
ExprNumbers limit _ = ⊤

null_numbers : (limit : ℕ) (e : t.Expr) (type : CType) → NullFits e type → ExprNumbers limit e
null_numbers limit t.Null type h = tt
null_numbers limit _ type h = absurd h

sides_numbers : (limit : ℕ) (bound : List CParam) (a b : t.Expr) (o : Option CType) →
    ((type : CType) → HasType bound a type → ExprNumbers limit a) → ((type : CType) → HasType bound b type → ExprNumbers limit b) →
    MatchOption o (AreAlike (HasType bound a) (HasType bound b) a b) (λ both. HasType bound a both × HasType bound b both) → ExprNumbers limit a × ExprNumbers limit b
sides_numbers limit bound a b (Some both) f g h = (f both h.0, g both h.1)
sides_numbers limit bound a b None f g h = alike h.0 h.1
  where
    alike : (type : CType) → (HasType bound a type × HasType bound b type) ⊎ ((HasType bound a type × NullFits b type) ⊎ (NullFits a type × HasType bound b type)) →
        ExprNumbers limit a × ExprNumbers limit b
    alike type (inl k) = (f type k.0, g type k.1)
    alike type (inr (inl k)) = (f type k.0, null_numbers limit b type k.1)
    alike type (inr (inr k)) = (null_numbers limit a type k.0, g type k.1)

expr_numbers : (limit : ℕ) (bound : List CParam) (b : Below limit bound) (e : t.Expr) (type : CType) → HasType bound e type → ExprNumbers limit e
expr_numbers limit bound b (t.Int n) type h = tt
expr_numbers limit bound b (t.Truth v) type h = tt
expr_numbers limit bound b t.Null type h = tt
expr_numbers limit bound b (t.Var x) type h = below_used limit bound x type b h
expr_numbers limit bound b (t.Neg e) type h = expr_numbers limit bound b e kind.I64 h.1
expr_numbers limit bound b (t.Not e) type h = expr_numbers limit bound b e kind.Bool h.1
expr_numbers limit bound b (t.Bin op e f) type h =
    sides_numbers limit bound e f (operand op) (λ u k. expr_numbers limit bound b e u k) (λ u k. expr_numbers limit bound b f u k) h.1

fits_numbers : (limit : ℕ) (bound : List CParam) (b : Below limit bound) (e : t.Expr) (type : CType) → Fits bound e type → ExprNumbers limit e
fits_numbers limit bound b e type (inl h) = expr_numbers limit bound b e type h
fits_numbers limit bound b e type (inr h) = null_numbers limit e type h

-- ---- forms of an expression

above_zero : (e : t.Expr) → IsAboveZero (written.expr e) → plain.IsAboveZero e
above_zero (t.Int (pos (suc n))) h = tt
above_zero _ h = absurd h

module _ (limit : ℕ) (small : limit ≤ 2 ^ 32) where
  pub local_form : (x : Local) → IsName x.name → x.number < limit → IsLocalForm (written.local x)
  local_form x name h = (name, lt_of_lt_of_le h small)

  nested_form : (n : ℕ) (e : t.Expr) → plain.HasLiterals e → expr_depth e ≤ n → ExprNames IsName e → ExprNumbers limit e → IsNestedForm n (written.expr e)
  nested_form n (t.Int (pos k)) l d names h = l.sfits
  nested_form zero (t.Int (negsuc k)) l d names h = absurd (omega arith)
  nested_form (suc n) (t.Int (negsuc k)) l d names h = l.sfits
  nested_form n (t.Truth b) l d names h = tt
  nested_form n t.Null l d names h = tt
  nested_form n (t.Var x) l d names h = local_form x names h
  nested_form zero (t.Neg e) l d names h = absurd (omega arith)
  nested_form (suc n) (t.Neg e) l d names h = (λ k. l.0 (above_zero e k), nested_form n e l.1 (omega arith) names h)
  nested_form zero (t.Not e) l d names h = absurd (omega arith)
  nested_form (suc n) (t.Not e) l d names h = nested_form n e l (omega arith) names h
  nested_form zero (t.Bin op a b) l d names h = absurd (omega arith)
  nested_form (suc n) (t.Bin op a b) l d names h = (nested_form n a l.0 (omega arith) names.0 h.0, nested_form n b l.1 (omega arith) names.1 h.1)

  pub expr_form : (bound : List CParam) → Below limit bound → (e : t.Expr) (type : CType) → HasType bound e type → plain.IsExprForm e → ExprNames IsName e → IsExprForm (written.expr e)
  expr_form bound b e type h form names = nested_form 128 e form.literals form.depth names (expr_numbers limit bound b e type h)

  pub fitting_form : (bound : List CParam) → Below limit bound → (e : t.Expr) (type : CType) → Fits bound e type → plain.IsExprForm e → ExprNames IsName e → IsExprForm (written.expr e)
  fitting_form bound b e type h form names = nested_form 128 e form.literals form.depth names (fits_numbers limit bound b e type h)

  -- ---- cells and lists

  pub cell_form : (structs : List CStruct) (bound : List CParam) → Below limit bound → (c : t.Cell) (type : CType) → CellHasType structs bound c type → plain.IsCellForm c → CellNames IsName c →
      IsCellForm (written.cell c)
  cell_form structs bound b (t.Whole base) type h form names = local_form base names (below_based limit bound base type b h)
  cell_form structs bound b (t.At base index) type h form names =
      (local_form base names.0 (below_based limit bound base type b h.0), expr_form bound b index kind.I64 h.1 form names.1)
  cell_form structs bound b (t.Field base member) type h form names = (local_form base names.0 (below_used limit bound base (kind.PtrStruct h.0) b h.2), names.1)

  pub args_form : (bound : List CParam) → Below limit bound → (es : List t.Expr) (ps : List CParam) → ArgumentsFit bound es ps → AllByRecursion plain.IsExprForm es →
      AllByRecursion (ExprNames IsName) es → AllByRecursion IsExprForm (map written.expr es)
  args_form bound b [] ps h forms names = tt
  args_form bound b (e ∷ es) [] h forms names = absurd h
  args_form bound b (e ∷ es) (p ∷ ps) h forms names = (fitting_form bound b e p.kind h.0 forms.0 names.0, args_form bound b es ps h.1 forms.1 names.1)

  pub call_form : (p : t.Program) (bound : List CParam) → Below limit bound → (f : Name) (args : List t.Expr) (result : CType) → CallFits p bound f args result → IsName f →
      AllByRecursion plain.IsExprForm args → AllByRecursion (ExprNames IsName) args → IsCallForm f (map written.expr args)
  call_form p bound b f args result h name forms names = (name, args_form bound b args h.0.params h.3 forms names)

  -- the lines that hand arguments over, numbered from k
  pub arguments_form : (bound : List CParam) → Below limit bound → (k : ℕ) (es : List t.Expr) (ps : List CParam) → k + length es ≤ limit → ArgumentsFit bound es ps →
      AllByRecursion plain.IsExprForm es → AllByRecursion (ExprNames IsName) es → AllByRecursion IsArgumentForm (written.arguments k es)
  arguments_form bound b k [] ps r h forms names = tt
  arguments_form bound b k (e ∷ es) [] r h forms names = absurd h
  arguments_form bound b k (e ∷ es) (p ∷ ps) r h forms names =
      let here : k < limit = omega arith in
      ((lt_of_lt_of_le here small, fitting_form bound b e p.kind h.0 forms.0 names.0), arguments_form bound b (k + 1) es ps (omega arith) h.1 forms.1 names.1)
