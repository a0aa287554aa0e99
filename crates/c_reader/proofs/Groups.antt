-- A text without breaches stands for a program that keeps the rules.
use Rattle.std.proofs.Common.{◌≡◌, ◌∙◌, ap, refl, ℕ, ◌+◌, ◌&&◌, Bool, true, false, cond, Some, List, [], ◌∷◌, ◌++◌, length, map}
use Rattle.std.specs.Prelude.{codes}
use Rattle.std.specs.Cmp.{unsigned_Decides}
use Rattle.std.specs.List.{AllByRecursion}
use Rattle.std.specs.Str.{bytes_eq}
use Rattle.std.proofs.lemmas.Bool.{and_parts}
use Rattle.std.proofs.lemmas.Slice.Eq.{bytes_eq-Decides}
use Rattle.c_syntax.specs.declared.kind.CType.{CType}
use Rattle.c_syntax.specs.declared.program.CStruct.{CStruct}
use Rattle.c_syntax.specs.Rules.{IsValueType, StructFits, function_of, members_of}
use Rattle.c_syntax.specs.Text.{line, struct_name, type_text}
use Rattle.c_syntax.specs.Tree as t
use Rattle.c_syntax.specs.Tree.{Name}
use Rattle.c_forms.specs.declared.source.Head.{Head}
use Rattle.c_forms.specs.declared.source.Member.{Member}
use Rattle.c_forms.specs.declared.source.Param.{Param}
use Rattle.c_forms.specs.declared.source.Struct.{Struct}
use Rattle.c_forms.specs.declared.word.Number.{Number}
use Rattle.c_forms.specs.declared.word.Number.TheVariants.{Small, Long}
use Rattle.c_forms.specs.Text.{struct_text}
use Rattle.c_forms.specs.Tree as w
use Rattle.c_rules.specs.Groups.{Taken, head_of, member_breaches, member_text, members_breaches, nothing, put, same_head, same_number, same_param, same_params, struct_breaches, struct_of, structs_breaches, twice_breaches}
use Rattle.c_rules.specs.Kinds.{same_type}
use Rattle.c_rules.specs.Lines.{member_of, type_breaches, value_breaches}
use Rattle.c_rules.specs.Sorts.{Structs}
use Rattle.c_rules.proofs.ExprRules.{same_is, none_both}
use Rattle.c_reader.specs.Standing.{fun_of, param_of}
use Rattle.c_reader.proofs.BindLines.{value_type}
use Rattle.c_reader.proofs.CellTypes.{Stands}
use Rattle.c_reader.proofs.Names.{Fresh, distinct, once}

-- ---- structures

record Members (structs : List CStruct) (taken : Taken) (ms : List Member) : Type 0 where
  fresh : Fresh taken (map (λ m. m.name) (map member_of ms))
  values : AllByRecursion (λ m. IsValueType structs m.kind) (map member_of ms)

members : (structs : List CStruct) (taken : Taken) (at : ℕ) (ms : List Member) → members_breaches (members_of structs) taken at ms ≡ [] → Members structs taken ms
members structs taken at [] h = record { fresh = tt; values = tt }
members structs taken at (m ∷ ms) h =
    let name = at + 2 + length (type_text m.kind) in
    let A = type_breaches (members_of structs) (at + 2) m.kind in
    let B = value_breaches name m.kind in
    let C = twice_breaches taken name m.name in
    let parts = none_both (member_breaches (members_of structs) taken at m) (members_breaches (members_of structs) (put m.name taken) (at + length (member_text m)) ms) h in
    let one = none_both (A ++ B) C parts.0 in
    let two = none_both A B one.0 in
    let rest = members structs (put m.name taken) (at + length (member_text m)) ms parts.1 in
    record { fresh = (once taken name m.name one.1, rest.fresh); values = (value_type structs (at + 2) name m.kind two.0 two.1, rest.values) }

pub record Structures (p : t.Program) (taken : Taken) (ds : List Struct) : Type 0 where
  pub fresh : Fresh taken (map (λ s. s.name) (map struct_of ds))
  pub fit : AllByRecursion (StructFits p) (map struct_of ds)

pub structures : (p : t.Program) (taken : Taken) (at : ℕ) (ds : List Struct) → structs_breaches (members_of p.structs) taken at ds ≡ [] → Structures p taken ds
structures p taken at [] h = record { fresh = tt; fit = tt }
structures p taken at (d ∷ ds) h =
    let begin = at + length (line 0 (struct_name d.name ∷ codes " {" ∷ [])) in
    let parts = none_both (struct_breaches (members_of p.structs) taken at d) (structs_breaches (members_of p.structs) (put d.name taken) (at + length (struct_text d)) ds) h in
    let two = none_both (twice_breaches taken (at + 7) d.name) (members_breaches (members_of p.structs) nothing begin d.members) parts.0 in
    let m = members p.structs nothing begin d.members two.1 in
    let rest = structures p (put d.name taken) (at + length (struct_text d)) ds parts.1 in
    record { fresh = (once taken (at + 7) d.name two.0, rest.fresh); fit = ((distinct nothing (map (λ m. m.name) (map member_of d.members)) m.fresh, m.values), rest.fit) }

-- ---- heads

number_is : (a b : Number) → same_number a b ≡ true → a ≡ b
number_is (Small a) (Small b) h = ap Small ((unsigned_Decides a b).0 h)
number_is (Small a) (Long b) h = cc
number_is (Long a) (Small b) h = cc
number_is (Long a) (Long b) h = ap Long ((bytes_eq-Decides a b).0 h)

param_is : (a b : Param) → same_param a (Some b) ≡ true → a ≡ b
param_is a b h =
    let one = and_parts (same_type a.kind b.kind && bytes_eq a.local.name b.local.name) (same_number a.local.number b.local.number) h in
    let two = and_parts (same_type a.kind b.kind) (bytes_eq a.local.name b.local.name) one.0 in
    ap (λ (k : CType). record { kind = k; local = a.local }) (same_is a.kind b.kind two.0)
    ∙ ap (λ (n : Name). record { kind = b.kind; local = record { name = n; number = a.local.number } }) ((bytes_eq-Decides a.local.name b.local.name).0 two.1)
    ∙ ap (λ (n : Number). record { kind = b.kind; local = record { name = b.local.name; number = n } }) (number_is a.local.number b.local.number one.1)

params_are : (ps qs : List Param) → same_params ps qs ≡ true → ps ≡ qs
params_are [] [] h = refl
params_are [] (q ∷ qs) h = cc
params_are (p ∷ ps) [] h = cc
params_are (p ∷ ps) (q ∷ qs) h =
    let parts = and_parts (same_param p (Some q)) (same_params ps qs) h in
    ap (λ x. x ∷ ps) (param_is p q parts.0) ∙ ap (λ xs. q ∷ xs) (params_are ps qs parts.1)

pub head_is : (a b : Head) → same_head a b ≡ true → a ≡ b
head_is a b h =
    let one = and_parts (same_type a.result b.result && bytes_eq a.name b.name) (same_params a.params b.params) h in
    let two = and_parts (same_type a.result b.result) (bytes_eq a.name b.name) one.0 in
    ap (λ (r : CType). record { result = r; name = a.name; params = a.params }) (same_is a.result b.result two.0)
    ∙ ap (λ (n : Name). record { result = b.result; name = n; params = a.params }) ((bytes_eq-Decides a.name b.name).0 two.1)
    ∙ ap (λ (ps : List Param). record { result = b.result; name = b.name; params = ps }) (params_are a.params b.params one.1)

-- a head that is found, and the function of that name
pub record FoundHead (structs : Structs) (funs : List w.Fun) (f : Name) (g : Head) : Type 0 where
  pub fun : w.Fun
  pub head : fun.head ≡ g
  pub found : function_of (map (fun_of structs) funs) f ≡ Some (fun_of structs fun)

pub found_head : (structs : Structs) (funs : List w.Fun) (f : Name) (g : Head) → head_of (map (λ x. x.head) funs) f ≡ Some g → FoundHead structs funs f g
found_head structs [] f g h = cc
found_head structs (fun ∷ funs) f g h = at (bytes_eq f fun.head.name) refl h (λ k. found_head structs funs f g k)
  where
    at : (b : Bool) → bytes_eq f fun.head.name ≡ b → cond b (Some fun.head) (head_of (map (λ x. x.head) funs) f) ≡ Some g →
        (head_of (map (λ x. x.head) funs) f ≡ Some g → FoundHead structs funs f g) → FoundHead structs (fun ∷ funs) f g
    at true e k rest = record {
      fun = fun;
      head = cc;
      found = ap (λ b. cond b (Some (fun_of structs fun)) (function_of (map (fun_of structs) funs) f)) e;
    }
    at false e k rest =
        let r = rest k in
        record { fun = r.fun; head = r.head; found = ap (λ b. cond b (Some (fun_of structs fun)) (function_of (map (fun_of structs) funs) f)) e ∙ r.found }

pub stands : (structs : Structs) (p : t.Program) (funs : List w.Fun) → p.funs ≡ map (fun_of structs) funs → (f : Name) (g : Head) → head_of (map (λ x. x.head) funs) f ≡ Some g → Stands p f g
stands structs p funs e f g h =
    let r = found_head structs funs f g h in
    record {
      fun = fun_of structs r.fun;
      found = ap (λ fs. function_of fs f) e ∙ r.found;
      result = ap (λ (x : Head). x.result) r.head;
      params = ap (λ (x : Head). map param_of x.params) r.head;
    }
