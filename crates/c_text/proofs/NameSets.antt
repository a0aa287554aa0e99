-- Laws of sets of names.
use Rattle.std.proofs.Common.{◌≡◌, ◌∙◌, sym, ap, refl, Bool, true, false, cond, ◌||◌, List, [], ◌∷◌, ◌++◌}
use Rattle.std.specs.List.{list_any}
use Rattle.std.specs.Str.{bytes_eq}
use Rattle.std.specs.HashSet.{HashSet}
use Rattle.std.proofs.Math.Bool.{or_assoc}
use Rattle.std.proofs.lemmas.Cmp.{nat_list_eq_equiv}
use Rattle.std.proofs.lemmas.List.Folds.{list_any-append}
use Rattle.c_syntax.specs.Tree.{Name}
use Rattle.c_text.specs.Names.{has_name, AddsNames, HasNames}

-- an inserted name: the test of the set against the test of the list
put_test : (found before test : Bool) → found ≡ cond test true before → found ≡ (before || (test || false))
put_test found true true e = e
put_test found true false e = e
put_test found false true e = e
put_test found false false e = e

-- with the names that are left, the new set has what the old one has and all of these names
pub record Leads {K S : Type 0} (text : K → Name) (old new : HashSet K S) (all left : List Name) : Type 0 where
  pub each : (q : K) → (has_name text new (text q) || list_any (bytes_eq (text q)) left) ≡ (has_name text old (text q) || list_any (bytes_eq (text q)) all)

or-false : (b : Bool) → (b || false) ≡ b
or-false true = refl
or-false false = refl

module _ {K S : Type 0} (text : K → Name) where
  pub adds_one : (a b : HashSet K S) (key : K) → ((q : K) → has_name text b (text q) ≡ cond (bytes_eq (text key) (text q)) true (has_name text a (text q))) → AddsNames text a b (text key ∷ [])
  adds_one a b key h = record {
    each = λ q.
        put_test (has_name text b (text q)) (has_name text a (text q)) (bytes_eq (text q) (text key))
        (h q ∙ ap (λ t. cond t true (has_name text a (text q))) (nat_list_eq_equiv.symm (text key) (text q)));
  }

  pub adds_none : (a : HashSet K S) → AddsNames text a a []
  adds_none a = record { each = λ q. sym (or-false (has_name text a (text q))) }

  -- some names and then others
  pub adds_more : (a b c : HashSet K S) (xs ys : List Name) → AddsNames text a b xs → AddsNames text b c ys → AddsNames text a c (xs ++ ys)
  adds_more a b c xs ys h k = record {
    each = λ q. let t = bytes_eq (text q) in
        k.each q ∙ ap (λ v. v || list_any t ys) (h.each q) ∙ or_assoc (has_name text a (text q)) (list_any t xs) (list_any t ys)
        ∙ ap (λ v. has_name text a (text q) || v) (sym (list_any-append t xs ys));
  }

  -- before a loop over names, at a step of it, and behind it
  pub leads_first : (a : HashSet K S) (all : List Name) → Leads text a a all all
  leads_first a all = record { each = λ q. refl }

  pub leads_on : (old a b : HashSet K S) (all xs left : List Name) → Leads text old a all (xs ++ left) → AddsNames text a b xs → Leads text old b all left
  leads_on old a b all xs left h k = record {
    each = λ q. let t = bytes_eq (text q) in
        ap (λ v. v || list_any t left) (k.each q) ∙ or_assoc (has_name text a (text q)) (list_any t xs) (list_any t left)
        ∙ ap (λ v. has_name text a (text q) || v) (sym (list_any-append t xs left)) ∙ h.each q;
  }

  pub leads_last : (old a : HashSet K S) (all : List Name) → Leads text old a all [] → AddsNames text old a all
  leads_last old a all h = record { each = λ q. sym (or-false (has_name text a (text q))) ∙ h.each q }

  -- a set that was empty before
  pub has_all : (old a : HashSet K S) (all : List Name) → old.keys ≡ [] → AddsNames text old a all → HasNames text a all
  has_all old a all e h = record { each = λ q. h.each q ∙ ap (λ keys. list_any (λ k. bytes_eq (text q) (text k)) keys || list_any (bytes_eq (text q)) all) e }
