-- Functions without breaches keep the rules, and are written again as they were.
use Rattle.std.proofs.Common.{◌≡◌, ◌∙◌, sym, ap, refl, subst, ℕ, ◌+◌, ◌&&◌, ◌||◌, not, nat_lt, Bool, true, false, cond, Option, Some, None, List, [], ◌∷◌, ◌++◌, length, map, append-nil, arith}
use Rattle.std.specs.Prelude.{codes}
use Rattle.std.specs.List.{AllByRecursion}
use Rattle.std.proofs.lemmas.Bool.{and_parts, ltb-true}
use Rattle.std.proofs.lemmas.List.{length-map}
use Rattle.c_syntax.specs.declared.kind.CType.{CType}
use Rattle.c_syntax.specs.declared.kind.CType.TheVariants as kind
use Rattle.c_syntax.specs.declared.program.CParam.{CParam}
use Rattle.c_syntax.specs.Rules.{AreNumbered, FunFits, Scope, members_of, type_of}
use Rattle.c_syntax.specs.Text.{function_name, line, type_text}
use Rattle.c_syntax.specs.Tree as t
use Rattle.c_syntax.specs.Tree.{Name}
use Rattle.c_forms.specs.declared.source.Head.{Head}
use Rattle.c_forms.specs.declared.source.Param.{Param}
use Rattle.c_forms.specs.Text.{fun_text, head_text, param_text, prototype_text}
use Rattle.c_forms.specs.Tree as w
use Rattle.c_rules.specs.Groups.{Taken, begins_well, bind_params, body_breaches, ends_well, fun_breaches, funs_breaches, is_void, nothing, param_breaches, params_breaches, prototype_breaches, prototypes_breaches, put, returns, same_head, twice_breaches}
use Rattle.c_rules.specs.Kinds.{same_type}
use Rattle.c_rules.specs.Lines.{Known, binder_breaches, settled, stmts_found, type_breaches}
use Rattle.c_rules.specs.Sorts.{Structs, unless}
use Rattle.c_rules.proofs.ExprRules.{same_is, none_both}
use Rattle.c_reader.specs.Standing.{fun_of, param_of, stmts_of}
use Rattle.c_reader.proofs.BindLines.{value_type}
use Rattle.c_reader.proofs.Bodies.{Body, body, body_void}
use Rattle.c_reader.proofs.Breachless.{holds, no_breach}
use Rattle.c_reader.proofs.CellTypes.{Heads}
use Rattle.c_reader.proofs.Groups.{head_is}
use Rattle.c_reader.proofs.Looks.{SameLooks, body_same}
use Rattle.c_reader.proofs.Names.{Fresh, distinct, once}
use Rattle.c_reader.proofs.Params.{bound_params, params}
use Rattle.c_reader.proofs.Rows.{row}
use Rattle.c_reader.proofs.Scopes.{Good, counted_all}
use Rattle.c_reader.proofs.Written as written

-- ---- parameters

-- the parameters have names of their own
pub param_names : (structs : Structs) (taken : Taken) (k at : ℕ) (ps : List Param) → params_breaches structs taken k at ps ≡ [] → Fresh taken (map (λ q. q.local.name) (map param_of ps))
param_names structs taken k at [] h = tt
param_names structs taken k at (p ∷ ps) h =
    let behind = at + length (param_text p) + 2 in
    let name = at + length (type_text p.kind) in
    let parts = none_both (param_breaches structs taken k at p) (params_breaches structs (put p.local.name taken) (k + 1) behind ps) h in
    let two = none_both (binder_breaches structs k at p.kind p.local) (twice_breaches taken name p.local.name) parts.0 in
    (once taken name p.local.name two.1, param_names structs (put p.local.name taken) (k + 1) behind ps parts.1)

-- what the parameters bind, as the look for breaches has it
abbrev pub bound_first : List Param → Scope
bound_first ps = bind_params (record { bound = []; next = 1 }) ps

module _ (ps : List Param) (numbers : AreNumbered 1 (map param_of ps)) where
  looks : SameLooks (bound_first ps) (record { bound = map param_of ps ++ []; next = 1 + length ps })
  looks = bound_params ps (record { bound = []; next = 1 }) 1 refl numbers

  -- the rules have the same look-ups
  pub same_first : SameLooks (bound_first ps) (record { bound = map param_of ps; next = 1 + length (map param_of ps) })
  same_first = record {
    looks = λ x. looks.looks x ∙ ap (λ (bs : List CParam). type_of bs x) (append-nil (map param_of ps));
    next = looks.next ∙ ap (λ (n : ℕ). 1 + n) (sym (length-map ps param_of));
  }

  pub good_first : Good (bound_first ps)
  good_first = record {
    before = length ps;
    positive = looks.next ∙ omega arith;
    counted = λ name. looks.looks (record { name = name; number = 0 }) ∙ counted_all (map param_of ps) [] 1 0 refl numbers (λ other. refl) name;
  }

-- ---- one function

-- a function that keeps the rules, and is written again as it was
pub record Kept (p : t.Program) (f : w.Fun) : Type 0 where
  pub fits : FunFits p (fun_of (members_of p.structs) f)
  pub text : written.fun (fun_of (members_of p.structs) f) ≡ f

-- what is known of functions and their prototypes
pub record Funs (p : t.Program) (taken : Taken) (ps : List Head) (fs : List w.Fun) : Type 0 where
  pub fits : AllByRecursion (FunFits p) (map (fun_of (members_of p.structs)) fs)
  pub begins : AllByRecursion (λ f. begins_well f ≡ true) fs
  pub fresh : Fresh taken (map (λ f. f.name) (map (fun_of (members_of p.structs)) fs))
  pub prototypes : map (λ f. f.head) fs ≡ ps
  pub text : map written.fun (map (fun_of (members_of p.structs)) fs) ≡ fs

module _ (p : t.Program) (heads : Name → Option Head) (missing : Name → Bool) (kh : Heads p (record { structs = members_of p.structs; heads = heads; missing = missing })) where
  abbrev known : Known
  known = record { structs = members_of p.structs; heads = heads; missing = missing }

  -- with a result
  with_result : (result : CType) (at place : ℕ) (list : w.Stmts) (scope : Scope) → Good scope → type_breaches known.structs place result ≡ [] → same_type result kind.Void ≡ false →
      returns list ≡ true → (stmts_found known (Some result) 1 at list (settled scope)).places ≡ [] → Body p result scope None list
  with_result result at place w.end scope good t v r h = cc
  with_result result at place (w.more s rest) scope good t v r h =
      let value = value_type p.structs place place result t (no_breach (not (same_type result kind.Void)) place (ap not v)) in
      body p heads missing kh result value false 1 at s rest scope None None good tt r h

  -- without one
  without : (at : ℕ) (list : w.Stmts) (scope : Scope) → Good scope → (stmts_found known None 1 at list (settled scope)).places ≡ [] → Body p kind.Void scope None list
  without at list scope good h =
      let r = row p heads missing kh 1 at list scope None None good tt h in
      record { rules = body_void p scope (stmts_of (members_of p.structs) list None) r.rules; text = r.text }

  whole : (result : CType) (b : Bool) (at place : ℕ) (list : w.Stmts) (scope : Scope) → Good scope → type_breaches known.structs place result ≡ [] → same_type result kind.Void ≡ b →
      (b || returns list) ≡ true → (stmts_found known (cond b None (Some result)) 1 at list (settled scope)).places ≡ [] → Body p result scope None list
  whole result true at place list scope good t v r h = subst (λ (u : CType). Body p u scope None list) (sym (same_is result kind.Void v)) (without at list scope good h)
  whole result false at place list scope good t v r h = with_result result at place list scope good t v r h

  pub kept : (f : w.Fun) (at place first : ℕ) → type_breaches known.structs place f.head.result ≡ [] → params_breaches known.structs nothing 1 first f.head.params ≡ [] → ends_well f ≡ true →
      body_breaches known at f ≡ [] → Kept p f
  kept f at place first t ps e h =
      let names = param_names known.structs nothing 1 first f.head.params ps in
      let q = params p.structs nothing 0 first f.head.params ps in
      let b = whole f.head.result (is_void f.head.result) at place f.body (bound_first f.head.params) (good_first f.head.params q.numbers) t refl e h in
      let made = stmts_of (members_of p.structs) f.body None in
      record {
        fits = record {
          names = distinct nothing (map (λ q. q.local.name) (map param_of f.head.params)) names;
          numbers = q.numbers;
          types = q.values;
          body = body_same p f.head.result (bound_first f.head.params) (record { bound = map param_of f.head.params; next = 1 + length (map param_of f.head.params) })
              (same_first f.head.params q.numbers) made b.rules;
        };
        text = ap (λ (xs : List Param). record { head = record { result = f.head.result; name = f.head.name; params = xs }; body = written.stmts made }) q.text
            ∙ ap (λ (xs : w.Stmts). record { head = f.head; body = xs }) b.text;
      }

  -- functions in a row; as many prototypes as there are from the k-th on
  pub funs : (taken : Taken) (count k at here : ℕ) (ps : List Head) (fs : List w.Fun) → k + length ps ≡ count → prototypes_breaches known.structs taken at ps fs ≡ [] →
      funs_breaches known count k here fs ≡ [] → Funs p taken ps fs
  funs taken count k at here [] [] c h g = record { fits = tt; begins = tt; fresh = tt; prototypes = refl; text = refl }
  funs taken count k at here (q ∷ ps) [] c h g = cc
  funs taken count k at here [] (f ∷ fs) c h g =
      let place = here + 7 + length (type_text f.head.result) in
      let parts = none_both (fun_breaches known count k here f) (funs_breaches known count (k + 1) (here + length (fun_text f)) fs) g in
      let two = none_both (unless (nat_lt k count) place) (body_breaches known (here + length (line 0 (head_text f.head ∷ codes " {" ∷ []))) f) parts.0 in
      let lt = ltb-true k count (holds (nat_lt k count) place two.0) in
      absurd (omega arith)
  funs taken count k at here (q ∷ ps) (f ∷ fs) c h g =
      let name = at + 7 + length (type_text q.result) in
      let first = name + length (function_name q.name) + 1 in
      let one = none_both (prototype_breaches known.structs taken at q (Some f)) (prototypes_breaches known.structs (put q.name taken) (at + length (prototype_text q)) ps fs) h in
      let test = same_head q f.head && ends_well f && begins_well f in
      let A = unless test at in
      let B = type_breaches known.structs (at + 7) q.result in
      let C = twice_breaches taken name q.name in
      let D = params_breaches known.structs nothing 1 first q.params in
      let d = none_both (A ++ B ++ C) D one.0 in
      let b = none_both (A ++ B) C d.0 in
      let a = none_both A B b.0 in
      let both = and_parts (same_head q f.head && ends_well f) (begins_well f) (holds test at a.0) in
      let tests = and_parts (same_head q f.head) (ends_well f) both.0 in
      let e : q ≡ f.head = head_is q f.head tests.0 in
      let begin = here + length (line 0 (head_text f.head ∷ codes " {" ∷ [])) in
      let two = none_both (fun_breaches known count k here f) (funs_breaches known count (k + 1) (here + length (fun_text f)) fs) g in
      let inner = none_both (unless (nat_lt k count) (here + 7 + length (type_text f.head.result))) (body_breaches known begin f) two.0 in
      let type = ap (λ (x : Head). type_breaches known.structs (at + 7) x.result) (sym e) ∙ a.1 in
      let binders = ap (λ (x : Head). params_breaches known.structs nothing 1 first x.params) (sym e) ∙ d.1 in
      let one_fun = kept f begin (at + 7) first type binders tests.1 inner.1 in
      let rest = funs (put q.name taken) count (k + 1) (at + length (prototype_text q)) (here + length (fun_text f)) ps fs (omega arith) one.1 two.1 in
      record {
        fits = (one_fun.fits, rest.fits);
        begins = (both.1, rest.begins);
        fresh = subst (λ (n : Name). Fresh taken (n ∷ map (λ f. f.name) (map (fun_of (members_of p.structs)) fs))) (ap (λ (x : Head). x.name) e) (once taken name q.name b.1, rest.fresh);
        prototypes = ap (λ (x : Head). x ∷ map (λ f. f.head) fs) (sym e) ∙ ap (λ xs. q ∷ xs) rest.prototypes;
        text = ap (λ (x : w.Fun). x ∷ map written.fun (map (fun_of (members_of p.structs)) fs)) one_fun.text ∙ ap (λ xs. f ∷ xs) rest.text;
      }
