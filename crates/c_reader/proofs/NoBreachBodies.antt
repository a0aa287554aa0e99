-- The statements of a function that keep the rules have no breaches where they are written.
use Rattle.std.proofs.Common.{◌≡◌, ◌∙◌, sym, ap, refl, subst, ℕ, ◌+◌, ◌||◌, Bool, true, false, cond, Option, Some, None, List, [], ◌∷◌, ◌++◌, length, map, append-nil}
use Rattle.std.proofs.lemmas.List.{length-map}
use Rattle.c_syntax.specs.declared.kind.CType.{CType}
use Rattle.c_syntax.specs.declared.kind.CType.TheVariants as kind
use Rattle.c_syntax.specs.declared.kind.Local as plain
use Rattle.c_syntax.specs.declared.program.CParam.{CParam}
use Rattle.c_syntax.specs.declared.program.CStruct.{CStruct}
use Rattle.c_syntax.specs.Forms.{AreStmtForms}
use Rattle.c_syntax.specs.Rules.{AreNumbered, BodyFits, Fits, FunFits, IsValueType, Scope, StmtFits, after, bound_by, members_of}
use Rattle.c_syntax.specs.Text.{indent}
use Rattle.c_syntax.specs.Tree as t
use Rattle.c_syntax.specs.Tree.{Name}
use Rattle.c_forms.specs.declared.source.Head.{Head}
use Rattle.c_forms.specs.Tree as w
use Rattle.c_rules.specs.Groups.{bind_params, body_breaches, ends_well, is_void, last_of, last_returns, returns}
use Rattle.c_rules.specs.Lines.{Found, Known, return_breaches, settled, stmts_found}
use Rattle.c_reader.specs.Standing.{param_of}
use Rattle.c_reader.proofs.Bodies.{body_more}
use Rattle.c_reader.proofs.Breachless.{join_none}
use Rattle.c_reader.proofs.Looks.{SameLooks, after_same, fits_same, stmt_same}
use Rattle.c_reader.proofs.NoBreachLines.{values_after}
use Rattle.c_reader.proofs.NoBreachRows.{stmt_passes}
use Rattle.c_reader.proofs.NoBreachTypes.{HeadsOf, MembersFit, Values, all_values}
use Rattle.c_reader.proofs.Params.{bound_params}
use Rattle.c_reader.proofs.ReadBack.{params_back}
use Rattle.c_reader.proofs.ReadBackBodies.{First, first}
use Rattle.c_reader.proofs.ReadBackBodies.First.{front, last}
use Rattle.c_reader.proofs.TypedExprs.{fit_found}
use Rattle.c_reader.proofs.Written as written

-- ---- the rules ask only what look-ups give

pub body_same : (p : t.Program) (result : CType) (s r : Scope) → SameLooks s r → (ts : t.Stmts) → BodyFits p result s ts → BodyFits p result r ts
body_same p result s r h t.end k = k
body_same p result s r h (t.more u rest) k = of u rest (λ j. body_same p result (after s u) (after r u) (after_same s r h u) rest j) (first p result s u rest k)
  where
    of : (u : t.Stmt) (rest : t.Stmts) → (BodyFits p result (after s u) rest → BodyFits p result (after r u) rest) → First p result s u rest → BodyFits p result r (t.more u rest)
    of u rest again (last e a b value fits) =
        subst (λ v. BodyFits p result r (t.more v rest)) (sym a) (subst (λ ts. BodyFits p result r (t.more (t.Return e) ts)) (sym b) (value, fits_same s.bound r.bound h.looks e result fits))
    of u rest again (front numbers fits others) = body_more p result r u rest (subst (λ (n : ℕ). AreNumbered n (bound_by u)) h.next numbers) (stmt_same p s r h u fits) (again others)

pub turned : (s r : Scope) → SameLooks s r → SameLooks r s
turned s r h = record { looks = λ x. sym (h.looks x); next = sym h.next }

-- ---- how a function ends

-- a `return` is last, also behind these lines
inits_return : (x : plain.Local) (is : List t.Init) (b : Bool) (rest : w.Stmts) → (c : Bool) × (last_returns b (written.inits x is rest) ≡ last_returns c rest)
inits_return x [] b rest = (b, refl)
inits_return x (i ∷ is) b rest = inits_return x is false rest

behind_lines : (u : t.Stmt) (b : Bool) (rest : w.Stmts) → (c : Bool) × (last_returns b (written.lines u rest) ≡ last_returns c rest)
behind_lines (t.Let type x e) b rest = (false, refl)
behind_lines (t.Load type x c) b rest = (false, refl)
behind_lines (t.Store c e) b rest = (false, refl)
behind_lines (t.New type x e) b rest = (false, refl)
behind_lines (t.NewArray type x e n) b rest = (false, refl)
behind_lines (t.NewAtomic x e) b rest = (false, refl)
behind_lines (t.NewStruct x s is) b rest = inits_return x is false rest
behind_lines (t.Free x) b rest = (false, refl)
behind_lines (t.AtomicLoad x y) b rest = (false, refl)
behind_lines (t.AtomicStore x e) b rest = (false, refl)
behind_lines (t.Cas x y o n) b rest = (false, refl)
behind_lines (t.NewLock x) b rest = (false, refl)
behind_lines (t.Acquire x) b rest = (false, refl)
behind_lines (t.Release x) b rest = (false, refl)
behind_lines (t.Read x) b rest = (false, refl)
behind_lines (t.Print e) b rest = (false, refl)
behind_lines (t.Call f args) b rest = (false, refl)
behind_lines (t.CallLet type x f args) b rest = (false, refl)
behind_lines (t.Par f args g others) b rest = (false, refl)
behind_lines (t.If e x y) b rest = (false, refl)
behind_lines (t.While ls e y) b rest = (false, refl)
behind_lines (t.Return e) b rest = (true, refl)

-- a function has no result, or ends in a `return`
pub data Ends (p : t.Program) (result : CType) (list : w.Stmts) : Type 0 where
  void : result ≡ kind.Void → Ends p result list
  gives : IsValueType p.structs result → ((b : Bool) → last_returns b list ≡ true) → Ends p result list

pub ends : (p : t.Program) (result : CType) (scope : Scope) (ts : t.Stmts) → BodyFits p result scope ts → Ends p result (written.stmts ts)
ends p result scope t.end h = void h
ends p result scope (t.more u rest) h = of u rest (λ k. ends p result (after scope u) rest k) (first p result scope u rest h)
  where
    more : (u : t.Stmt) (rest : w.Stmts) → Ends p result rest → Ends p result (written.lines u rest)
    more u rest (void h) = void h
    more u rest (gives value h) = gives value (λ b. let c = behind_lines u b rest in c.1 ∙ h c.0)

    of : (u : t.Stmt) (rest : t.Stmts) → (BodyFits p result (after scope u) rest → Ends p result (written.stmts rest)) → First p result scope u rest → Ends p result (written.lines u (written.stmts rest))
    of u rest again (last e a b value fits) =
        gives value (λ c. ap (λ v. last_returns c (written.lines v (written.stmts rest))) a ∙ ap (λ ts. last_returns c (written.lines (t.Return e) (written.stmts ts))) b)
    of u rest again (front numbers fits others) = more u (written.stmts rest) (again others)

-- a type of a value is not `void`
pub not_void : (structs : List CStruct) (type : CType) → IsValueType structs type → is_void type ≡ false
not_void structs kind.Void h = absurd h
not_void structs kind.I64 h = refl
not_void structs kind.Bool h = refl
not_void structs kind.PtrI64 h = refl
not_void structs kind.PtrBool h = refl
not_void structs (kind.PtrStruct s) h = refl
not_void structs kind.PtrAtomic h = refl
not_void structs kind.PtrLock h = refl

pub ends_as_wanted : (p : t.Program) (f : t.Fun) → Ends p f.result (written.stmts f.body) → ends_well (written.fun f) ≡ true
ends_as_wanted p f (void h) = ap (λ type. is_void type || returns (written.stmts f.body)) h
ends_as_wanted p f (gives value h) = ap (λ b. b || returns (written.stmts f.body)) (not_void p.structs f.result value) ∙ h false

-- ---- the statements of a function

module _ (p : t.Program) (heads : Name → Option Head) (missing : Name → Bool) (of : HeadsOf p heads) (none : (f : Name) → missing f ≡ false) (fit : MembersFit p.structs) where
  abbrev known : Known
  known = record { structs = members_of p.structs; heads = heads; missing = missing }

  -- the `return` at the end
  return_found : (result : CType) (scope : Scope) (e : t.Expr) → IsValueType p.structs result → Fits scope.bound e result → (n at : ℕ) →
      (stmts_found known (last_of result) n at (written.lines (t.Return e) w.end) (settled scope)).places ≡ []
  return_found result scope e value fits n at =
      let place = at + length (indent n) + 7 in
      let wants : last_of result ≡ Some result = ap (λ b. cond b None (Some result)) (not_void p.structs result value) in
      join_none (return_breaches scope.bound (last_of result) place (written.expr e)) []
      (ap (λ o. return_breaches scope.bound o place (written.expr e)) wants ∙ fit_found scope.bound result place e fits) refl

  body_found : (result : CType) (scope : Scope) → Values p.structs scope.bound → (ts : t.Stmts) → AreStmtForms ts → BodyFits p result scope ts → (n at : ℕ) →
      (stmts_found known (last_of result) n at (written.stmts ts) (settled scope)).places ≡ []
  body_found result scope values t.end f h n at = refl
  body_found result scope values (t.more u rest) f h n at =
      by u rest f (λ fits others at. body_found result (after scope u) (values_after p fit scope values u fits) rest f.1 others n at) (first p result scope u rest h)
    where
      by : (u : t.Stmt) (rest : t.Stmts) → AreStmtForms (t.more u rest) →
          (StmtFits p scope u → BodyFits p result (after scope u) rest → (at : ℕ) → (stmts_found known (last_of result) n at (written.stmts rest) (settled (after scope u))).places ≡ []) →
          First p result scope u rest → (stmts_found known (last_of result) n at (written.lines u (written.stmts rest)) (settled scope)).places ≡ []
      by u rest f again (last e a b value fits) =
          ap (λ v. (stmts_found known (last_of result) n at (written.lines v (written.stmts rest)) (settled scope)).places) a
          ∙ ap (λ ts. (stmts_found known (last_of result) n at (written.lines (t.Return e) (written.stmts ts)) (settled scope)).places) b
          ∙ return_found result scope e value fits n at
      by u rest f again (front numbers fits others) =
          let one = stmt_passes p heads missing of none fit scope values u f.0 numbers fits (last_of result) n at (written.stmts rest) in
          ap (λ (o : Found). o.places) one.1 ∙ again fits others one.0

  -- what is bound in front of a function's statements
  params_bound : (ps : List CParam) → AreNumbered 1 ps → SameLooks (bind_params (record { bound = []; next = 1 }) (map written.param ps)) (record { bound = ps; next = 1 + length ps })
  params_bound ps numbers =
      let qs = map written.param ps in
      let start : Scope = bind_params (record { bound = []; next = 1 }) qs in
      let same : map param_of qs ++ [] ≡ ps = append-nil (map param_of qs) ∙ params_back ps in
      subst (λ (bound : List CParam). SameLooks start (record { bound = bound; next = 1 + length ps })) same
      (subst (λ (n : ℕ). SameLooks start (record { bound = map param_of qs ++ []; next = 1 + n })) (length-map ps written.param)
      (bound_params qs (record { bound = []; next = 1 }) 1 refl (subst (AreNumbered 1) (sym (params_back ps)) numbers)))

  pub function_found : (f : t.Fun) → AreStmtForms f.body → FunFits p f → (at : ℕ) → body_breaches known at (written.fun f) ≡ []
  function_found f form fits at =
      let start : Scope = bind_params (record { bound = []; next = 1 }) (map written.param f.params) in
      let inside : Scope = record { bound = f.params; next = 1 + length f.params } in
      let looks : SameLooks start inside = params_bound f.params fits.numbers in
      let values : Values p.structs start.bound = λ x type h. all_values p.structs f.params fits.types x type (sym (looks.looks x) ∙ h) in
      body_found f.result start values f.body form (body_same p f.result inside start (turned start inside looks) f.body fits.body) 1 at
