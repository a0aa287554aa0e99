-- Laws of the tables of a text.
use Rattle.std.proofs.Common.{◌≡◌, ◌∙◌, ap, refl, Bool, true, false, cond, Option, Some, List, ◌∷◌, ℕ}
use mathlib.Core.Path.{fun_ext}
use Rattle.std.specs.Borrow.{Bor}
use Rattle.std.specs.Str.{bytes_eq}
use Rattle.std.proofs.lemmas.Cmp.{nat_list_eq_equiv}
use Rattle.c_syntax.specs.Rules.{members_of}
use Rattle.c_syntax.specs.declared.program.CMember.{CMember}
use Rattle.c_syntax.specs.declared.program.CStruct.{CStruct}
use Rattle.c_forms.specs.declared.source.Member.{Member}
use Rattle.c_forms.specs.declared.source.Head.{Head}
use Rattle.c_rules.specs.Groups.{head_of}
use Rattle.c_rules.specs.Tables.{members_lent, head_lent}

members_cond : (b : Bool) (v : Bor (List Member)) (o : Option (Bor (List Member))) → members_lent (cond b (Some v) o) ≡ cond b (members_lent (Some v)) (members_lent o)
members_cond true v o = refl
members_cond false v o = refl

head_cond : (b : Bool) (v : Bor Head) (o : Option (Bor Head)) → head_lent (cond b (Some v) o) ≡ cond b (head_lent (Some v)) (head_lent o)
head_cond true v o = refl
head_cond false v o = refl

-- one structure in front
pub struct_put : (d : CStruct) (rest : List CStruct) (v : Bor (List Member)) (before after : List ℕ → Option (Bor (List Member))) → members_lent (Some v) ≡ Some d.members →
    ((q : List ℕ) → after q ≡ cond (bytes_eq d.name q) (Some v) (before q)) → (λ q. members_lent (before q)) ≡ members_of rest → (λ q. members_lent (after q)) ≡ members_of (d ∷ rest)
struct_put d rest v before after m h e = fun_ext (λ q.
    ap members_lent (h q) ∙ members_cond (bytes_eq d.name q) v (before q)
    ∙ ap (λ b. cond b (members_lent (Some v)) (members_lent (before q))) (nat_list_eq_equiv.symm d.name q)
    ∙ ap (λ r. cond (bytes_eq q d.name) r (members_lent (before q))) m
    ∙ ap (λ f. cond (bytes_eq q d.name) (Some d.members) (f q)) e)

-- one head in front
pub head_put : (d : Head) (rest : List Head) (v : Bor Head) (before after : List ℕ → Option (Bor Head)) → v.now ≡ d →
    ((q : List ℕ) → after q ≡ cond (bytes_eq d.name q) (Some v) (before q)) → (λ q. head_lent (before q)) ≡ head_of rest → (λ q. head_lent (after q)) ≡ head_of (d ∷ rest)
head_put d rest v before after m h e = fun_ext (λ q.
    ap head_lent (h q) ∙ head_cond (bytes_eq d.name q) v (before q)
    ∙ ap (λ b. cond b (Some v.now) (head_lent (before q))) (nat_list_eq_equiv.symm d.name q)
    ∙ ap (λ r. cond (bytes_eq q d.name) (Some r) (head_lent (before q))) m
    ∙ ap (λ f. cond (bytes_eq q d.name) (Some d) (f q)) e)
