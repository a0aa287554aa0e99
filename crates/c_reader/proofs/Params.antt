-- The parameters of a function without breaches keep the rules.
use Rattle.std.proofs.Common.{◌≡◌, ◌∙◌, sym, ap, refl, ℕ, suc, ◌+◌, ◌<◌, ◌==◌, Bool, true, false, cond, Option, Some, List, [], ◌∷◌, ◌++◌, length, map, arith}
use Rattle.std.specs.Cmp.{unsigned_Decides}
use Rattle.std.specs.List.{AllByRecursion}
use Rattle.std.specs.Str.{bytes_eq}
use Rattle.std.proofs.lemmas.Bool.{and_parts}
use Rattle.c_syntax.specs.declared.kind.Local.{Local}
use Rattle.c_syntax.specs.declared.program.CParam.{CParam}
use Rattle.c_syntax.specs.declared.program.CStruct.{CStruct}
use Rattle.c_syntax.specs.Rules.{AreNumbered, IsValueType, Scope, is_same, members_of, type_of, typed}
use Rattle.c_syntax.specs.Text.{type_text}
use Rattle.c_forms.specs.declared.source.Param.{Param}
use Rattle.c_forms.specs.Text.{param_text}
use Rattle.c_rules.specs.Groups.{Taken, bind_params, param_breaches, params_breaches, put, twice_breaches}
use Rattle.c_rules.specs.Lines.{bind, binder_breaches}
use Rattle.c_rules.proofs.ExprRules.{none_both}
use Rattle.c_reader.specs.Standing.{param_of}
use Rattle.c_reader.proofs.BindLines.{binder}
use Rattle.c_reader.proofs.Looks.{Alike, SameLooks}
use Rattle.c_reader.proofs.Rewritten.{numbered}
use Rattle.c_reader.proofs.Written as written

-- ---- look-ups don't depend on the order of locals with numbers of their own

one_number : (x a b : Local) (n m : ℕ) → a.number ≡ n → b.number ≡ m → n < m → is_same x a ≡ true → is_same x b ≡ true → ⊥
one_number x a b n m e k lt h l =
    let p = and_parts (bytes_eq x.name a.name) (x.number == a.number) h in
    let q = and_parts (bytes_eq x.name b.name) (x.number == b.number) l in
    let u : x.number ≡ a.number = (unsigned_Decides x.number a.number).0 p.1 in
    let v : x.number ≡ b.number = (unsigned_Decides x.number b.number).0 q.1 in
    absurd (omega arith)

swap_at : {T : Type 0} (s r : Bool) (a b o : Option T) → (s ≡ true → r ≡ true → ⊥) → cond s a (cond r b o) ≡ cond r b (cond s a o)
swap_at true true a b o h = absurd (h refl refl)
swap_at true false a b o h = refl
swap_at false true a b o h = refl
swap_at false false a b o h = refl

-- one that is older may stand in front
pub older : (c : CParam) (qs bs : List CParam) (n m : ℕ) → c.local.number ≡ n → n < m → AreNumbered m qs → Alike (qs ++ (c ∷ bs)) (c ∷ (qs ++ bs))
older c [] bs n m e lt h x = refl
older c (q ∷ qs) bs n m e lt h x =
    ap (cond (is_same x q.local) (Some q.kind)) (older c qs bs n (suc m) e (omega arith) h.1 x)
    ∙ swap_at (is_same x q.local) (is_same x c.local) (Some q.kind) (Some c.kind) (type_of (qs ++ bs) x) (λ k l. one_number x c.local q.local n m e h.0 lt l k)

-- ---- parameters

-- what is known of parameters, the first of which has the number k
pub record Params (structs : List CStruct) (k : ℕ) (taken : Taken) (ps : List Param) : Type 0 where
  pub numbers : AreNumbered k (map param_of ps)
  pub values : AllByRecursion (λ q. IsValueType structs q.kind) (map param_of ps)
  pub text : map written.param (map param_of ps) ≡ ps

pub params : (structs : List CStruct) (taken : Taken) (k at : ℕ) (ps : List Param) → params_breaches (members_of structs) taken (suc k) at ps ≡ [] → Params structs (suc k) taken ps
params structs taken k at [] h = record { numbers = tt; values = tt; text = refl }
params structs taken k at (p ∷ ps) h =
    let behind = at + length (param_text p) + 2 in
    let n : suc k + 1 ≡ suc (suc k) = omega arith in
    let parts = none_both (param_breaches (members_of structs) taken (suc k) at p) (params_breaches (members_of structs) (put p.local.name taken) (suc k + 1) behind ps) h in
    let two = none_both (binder_breaches (members_of structs) (suc k) at p.kind p.local) (twice_breaches taken (at + length (type_text p.kind)) p.local.name) parts.0 in
    let b = binder structs (suc k) at p.kind p.local two.0 in
    let rest = params structs (put p.local.name taken) (suc k) behind ps (sym (ap (λ m. params_breaches (members_of structs) (put p.local.name taken) m behind ps) n) ∙ parts.1) in
    record {
      numbers = (b.number, rest.numbers);
      values = (b.value, rest.values);
      text = ap (λ x. record { kind = p.kind; local = x } ∷ map written.param (map param_of ps)) (numbered p.local k b.number) ∙ ap (λ xs. p ∷ xs) rest.text;
    }

-- what is bound in a function's body
pub bound_params : (ps : List Param) (scope : Scope) (n : ℕ) → scope.next ≡ n → AreNumbered n (map param_of ps) →
    SameLooks (bind_params scope ps) (record { bound = map param_of ps ++ scope.bound; next = scope.next + length ps })
bound_params [] scope n e h = record { looks = λ x. refl; next = omega arith }
bound_params (p ∷ ps) scope n e h =
    let c = typed p.kind (record { name = p.local.name; number = scope.next }) in
    let m : scope.next + 1 ≡ suc n = omega arith in
    let rest = bound_params ps (bind scope p.local.name p.kind) (suc n) m h.1 in
    let same : c ≡ param_of p = ap (λ (i : ℕ). typed p.kind (record { name = p.local.name; number = i })) (e ∙ sym h.0) in
    record {
      looks = λ x. rest.looks x ∙ older c (map param_of ps) scope.bound n (suc n) e (omega arith) h.1 x
          ∙ ap (λ (q : CParam). type_of (q ∷ (map param_of ps ++ scope.bound)) x) same;
      next = rest.next ∙ omega arith;
    }
