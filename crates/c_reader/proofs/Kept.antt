-- A text without breaches stands for a program that keeps the rules.
use Rattle.std.proofs.Common.{◌≡◌, ◌∙◌, sym, ap, refl, subst, suc, ◌==◌, ◌||◌, not, Bool, true, false, cond, Some, List, [], ◌∷◌, ◌++◌, length, map, arith}
use Rattle.std.specs.Prelude.{codes}
use Rattle.std.specs.Cmp.{unsigned_Decides}
use Rattle.std.specs.List.{AllByRecursion, IsDistinct}
use Rattle.std.specs.Str.{bytes_eq}
use Rattle.std.proofs.lemmas.Bool.{and_parts}
use Rattle.std.proofs.lemmas.Slice.Eq.{bytes_eq-Decides}
use Rattle.c_syntax.specs.declared.kind.CType.TheVariants as kind
use Rattle.c_syntax.specs.Rules.{HasMain, KeepsRules, function_of}
use Rattle.c_syntax.specs.Tree.{Name}
use Rattle.c_forms.specs.declared.source.Head.{Head}
use Rattle.c_forms.specs.declared.source.Param.{Param}
use Rattle.c_forms.specs.declared.source.Struct.{Struct}
use Rattle.c_forms.specs.Forms.{IsForm}
use Rattle.c_forms.specs.Tree as w
use Rattle.c_rules.specs.Groups.{breaches, head_of, is_plain, is_void, known_in, nothing, put_all, struct_of}
use Rattle.c_rules.specs.Sorts.{Structs}
use Rattle.c_rules.proofs.ExprRules.{same_is}
use Rattle.c_reader.specs.Standing.{fun_of, param_of, program_of}
use Rattle.c_reader.proofs.Names.{Fresh, distinct, fresh_append}
use Rattle.c_reader.proofs.Whole.{Whole, whole}

-- ---- `main`

no_params : (ps : List Param) → (length ps == 0) ≡ true → map param_of ps ≡ []
no_params [] h = refl
no_params (p ∷ ps) h = let e : suc (length ps) ≡ 0 = (unsigned_Decides (suc (length ps)) 0).0 h in absurd (omega arith)

-- a function that has no parameters and no result
pub record Plain (structs : Structs) (funs : List w.Fun) (q : Name) : Type 0 where
  pub fun : w.Fun
  pub found : function_of (map (fun_of structs) funs) q ≡ Some (fun_of structs fun)
  pub params : map param_of fun.head.params ≡ []
  pub result : fun.head.result ≡ kind.Void

-- the function of that name, where each of that name has neither
begins : (structs : Structs) (q : Name) (g : Head) (funs : List w.Fun) → head_of (map (λ f. f.head) funs) q ≡ Some g → AllByRecursion (λ f. (not (bytes_eq f.head.name q) || is_plain f.head) ≡ true) funs →
    Plain structs funs q
begins structs q g [] h k = cc
begins structs q g (fun ∷ funs) h k = at (bytes_eq q fun.head.name) refl h (λ l. begins structs q g funs l k.1)
  where
    plain : (b : Bool) → bytes_eq fun.head.name q ≡ b → (not b || is_plain fun.head) ≡ true → bytes_eq q fun.head.name ≡ true → is_plain fun.head ≡ true
    plain true e h s = h
    plain false e h s = let u = (bytes_eq-Decides fun.head.name q).1 (sym ((bytes_eq-Decides q fun.head.name).0 s)) in cc

    at : (b : Bool) → bytes_eq q fun.head.name ≡ b → cond b (Some fun.head) (head_of (map (λ f. f.head) funs) q) ≡ Some g → (head_of (map (λ f. f.head) funs) q ≡ Some g → Plain structs funs q) →
        Plain structs (fun ∷ funs) q
    at true e l rest =
        let parts = and_parts (is_void fun.head.result) (length fun.head.params == 0) (plain (bytes_eq fun.head.name q) refl k.0 e) in
        record {
          fun = fun;
          found = ap (λ b. cond b (Some (fun_of structs fun)) (function_of (map (fun_of structs) funs) q)) e;
          params = no_params fun.head.params parts.1;
          result = same_is fun.head.result kind.Void parts.0;
        }
    at false e l rest =
        let r = rest l in
        record {
          fun = r.fun;
          found = ap (λ b. cond b (Some (fun_of structs fun)) (function_of (map (fun_of structs) funs) q)) e ∙ r.found;
          params = r.params;
          result = r.result;
        }

has_main : (s : w.Source) → Whole s → HasMain (program_of s)
has_main s c =
    let m = begins (known_in s).structs (codes "main") c.main.0 s.funs c.main.1 c.funs.begins in
    (fun_of (known_in s).structs m.fun, m.found, m.params, m.result)

-- ---- names

same_names : (ds : List Struct) → map (λ d. d.name) ds ≡ map (λ s. s.name) (map struct_of ds)
same_names [] = refl
same_names (d ∷ ds) = ap (λ xs. d.name ∷ xs) (same_names ds)

names : (s : w.Source) → Whole s → IsDistinct bytes_eq (map (λ x. x.name) (map struct_of s.structs) ++ map (λ f. f.name) (map (fun_of (known_in s).structs) s.funs))
names s c =
    let structs = map (λ x. x.name) (map struct_of s.structs) in
    let funs = map (λ f. f.name) (map (fun_of (known_in s).structs) s.funs) in
    let behind : Fresh (put_all structs nothing) funs = subst (λ (xs : List Name). Fresh (put_all xs nothing) funs) (same_names s.structs) c.funs.fresh in
    distinct nothing (structs ++ funs) (fresh_append nothing structs funs c.structs.fresh behind)

-- ---- the whole

pub keeps_rules : (s : w.Source) → IsForm s → breaches s ≡ [] → KeepsRules (program_of s)
keeps_rules s form h =
    let c = whole s h in
    record { names = names s c; structs = c.structs.fit; funs = c.funs.fits; main = has_main s c }
