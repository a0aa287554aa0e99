-- What the tables of a text tell is what the text declares.
use Rattle.std.proofs.Common.{◌≡◌, ◌∙◌, sym, ap, refl, ℕ, List, [], ◌∷◌, length, map, drop}
use Rattle.std.specs.Borrow.{Bor}
use Rattle.std.specs.HashMap.{HashMap}
use Rattle.std.proofs.lemmas.List.{drop-map}
use Rattle.c_syntax.specs.Rules.{members_of}
use Rattle.c_forms.specs.declared.source.Head.{Head}
use Rattle.c_forms.specs.declared.source.Member.{Member}
use Rattle.c_forms.specs.Tree.{Name, Source}
use Rattle.c_rules.specs.ByName.{structs_in, heads_in}
use Rattle.c_rules.specs.Groups.{among, head_of, known_in, missing, started, struct_of}
use Rattle.c_rules.specs.Lines.{Known}
use Rattle.c_rules.specs.Seen.{taken_in}
use Rattle.c_rules.specs.Tables.{known_of}
use Rattle.c_rules.specs.declared.seen.Seen.{Seen}

-- three tables, each of which tells what is declared
pub known_same : {S : Type 0} (structs : HashMap (Bor (List ℕ)) (Bor (List Member)) S) (heads : HashMap (Bor (List ℕ)) (Bor Head) S) (absent : Seen) (s : Source) →
    structs_in structs ≡ members_of (map struct_of s.structs) → heads_in heads ≡ head_of (map (λ f. f.head) s.funs) → taken_in absent ≡ among (missing s) →
    (record { structs = structs_in structs; heads = heads_in heads; missing = taken_in absent }) ≡ known_in s
known_same structs heads absent s e k m =
    ap (λ t. record { structs = t; heads = heads_in heads; missing = taken_in absent }) e
    ∙ ap (λ t. record { structs = members_of (map struct_of s.structs); heads = t; missing = taken_in absent }) k
    ∙ ap (λ t. record { structs = members_of (map struct_of s.structs); heads = head_of (map (λ f. f.head) s.funs); missing = t }) m

-- the names of those that are left
pub dropped_names : (heads : List (Bor Head)) (n m : ℕ) (s : Source) → map (λ h. h.now) heads ≡ started s.funs → n ≡ m →
    among (map (λ h. h.name) (map (λ h. h.now) (drop n heads))) ≡ among (map (λ h. h.name) (drop m (started s.funs)))
dropped_names heads n m s e k =
    ap (λ hs. among (map (λ h. h.name) hs)) (sym (drop-map (λ h. h.now) n heads) ∙ ap (drop n) e ∙ ap (λ i. drop i (started s.funs)) k)
