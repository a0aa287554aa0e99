-- The text of atoms, with a ` ** ` before each, is that of the blocks that live.
use Rattle.std.proofs.Common.{◌≡◌, ℕ, suc, ◌+◌, ◌<◌, ◌≤◌, Option, Some, None, List, [], ◌∷◌, ◌++◌, length, slice_get, drop, refl, sym, ap, ◌∙◌, subst, arith, append_assoc, length-append}
use Rattle.std.specs.Prelude.{option_map}
use Rattle.std.specs.List.{flat_map}
use Rattle.std.proofs.lemmas.List.{append-nil}
use Rattle.std.proofs.lemmas.Option.{slice_get-map}
use lib.Chars.{codes}
use Rattle.std.specs.Fmt.{decimal}
use Rattle.std.proofs.lemmas.Fmt.{decimal_digit}
use Rattle.pl_syntax.specs.Tree.{Name}
use Rattle.pl_terms.specs.declared.term.Term.{Term}
use Rattle.pl_walk.specs.declared.known.Block as block
use Rattle.pl_terms.specs.Terms.{Atom}
use Rattle.pl_walk.specs.Walk.{name_or_nothing, term_text, atom_text, atoms_text}
use Rattle.pl_walk.specs.Shown.{block_atoms, atoms_from}
use Rattle.pl_walk.specs.Texts.{names_of, value_text, block_text, blocks_text, IsAtomsText}

-- each atom's text with ` ** ` before it
abbrev pub leading : List Name → List Atom → List ℕ
leading names [] = []
leading names (a ∷ rest) = codes " ** " ++ (atom_text names a ++ leading names rest)

leading_both : (names : List Name) (xs ys : List Atom) → leading names (xs ++ ys) ≡ leading names xs ++ leading names ys
leading_both names [] ys = refl
leading_both names (a ∷ xs) ys =
    ap (λ l. codes " ** " ++ (atom_text names a ++ l)) (leading_both names xs ys)
    ∙ ap (λ l. codes " ** " ++ l) (sym (append_assoc (atom_text names a) (leading names xs) (leading names ys)))
    ∙ sym (append_assoc (codes " ** ") (atom_text names a ++ leading names xs) (leading names ys))

one_digit : decimal 1 ≡ 49 ∷ []
one_digit = decimal_digit 1 (omega arith)

two_atoms : (s x a t b c one d : List ℕ) → s ++ x ++ a ++ t ++ (s ++ b) ++ x ++ (c ++ (one ++ d)) ≡ s ++ ((x ++ a ++ t) ++ (s ++ ((b ++ x ++ c ++ one ++ d) ++ [])))
two_atoms s x a t b c one d = simp (append_assoc, append-nil) refl

value_leading : (names : List Name) (k : ℕ) (x : Name) (o : Option Term) → slice_get names k ≡ Some x → value_text names x o ≡ leading names (block_atoms k o)
value_leading names k x None e = refl
value_leading names k x (Some v) e = rw (ap name_or_nothing e, one_digit) (two_atoms (codes " ** ") x (codes " |-> ") (term_text names v) (codes "block(") (codes ", ") (49 ∷ []) (codes ")"))

names_rest : (names : List Name) (k : ℕ) (b : block.Block) (bs : List block.Block) → ((j : ℕ) (c : block.Block) → slice_get (b ∷ bs) j ≡ Some c → slice_get names (k + j) ≡ Some c.name.now)
    → (j : ℕ) (c : block.Block) → slice_get bs j ≡ Some c → slice_get names ((k + 1) + j) ≡ Some c.name.now
names_rest names k b bs h j c e = let number : k + suc j ≡ (k + 1) + j = omega arith in subst (λ n. slice_get names n ≡ Some c.name.now) number (h (suc j) c e)

blocks_leading : (names : List Name) (k : ℕ) (bs : List block.Block) → ((j : ℕ) (c : block.Block) → slice_get bs j ≡ Some c → slice_get names (k + j) ≡ Some c.name.now)
    → flat_map (block_text names) bs ≡ leading names (atoms_from k bs)
blocks_leading names k [] h = refl
blocks_leading names k (b ∷ bs) h =
    let number : k + 0 ≡ k = omega arith in
    let here = value_leading names k b.name.now b.value (subst (λ n. slice_get names n ≡ Some b.name.now) number (h 0 b refl)) in
    ap (λ l. l ++ flat_map (block_text names) bs) here
    ∙ ap (λ l. leading names (block_atoms k b.value) ++ l) (blocks_leading names (k + 1) bs (names_rest names k b bs h))
    ∙ sym (leading_both names (block_atoms k b.value) (atoms_from (k + 1) bs))

own_names : (bs : List block.Block) (j : ℕ) (c : block.Block) → slice_get bs j ≡ Some c → slice_get (names_of bs) (0 + j) ≡ Some c.name.now
own_names bs j c e =
    let number : j ≡ 0 + j = omega arith in
    subst (λ n. slice_get (names_of bs) n ≡ Some c.name.now) number (slice_get-map (λ (b : block.Block). b.name.now) bs j ∙ ap (option_map (λ (b : block.Block). b.name.now)) e)

blocks_are : (bs : List block.Block) → blocks_text bs ≡ leading (names_of bs) (atoms_from 0 bs)
blocks_are bs = blocks_leading (names_of bs) 0 bs (own_names bs)

leading_is : (names : List Name) (a : Atom) (rest : List Atom) → leading names (a ∷ rest) ≡ codes " ** " ++ atoms_text names (a ∷ rest)
leading_is names a [] = ap (λ l. codes " ** " ++ l) (append-nil (atom_text names a))
leading_is names a (b ∷ rest) =
    ap (λ l. codes " ** " ++ (atom_text names a ++ l)) (leading_is names b rest) ∙ ap (λ l. codes " ** " ++ l) (sym (append_assoc (atom_text names a) (codes " ** ") (atoms_text names (b ∷ rest))))

-- a text of at least the length of ` ** ` is that of some atoms
pub some_text : (bs : List block.Block) (text rest : List ℕ) → text ≡ blocks_text bs → rest ≡ drop 4 text → 4 ≤ length text → IsAtomsText (Some rest) bs
some_text bs text rest is dropped long = by_atoms (atoms_from 0 bs) refl
  where
    by_atoms : (atoms : List Atom) → atoms_from 0 bs ≡ atoms → IsAtomsText (Some rest) bs
    by_atoms [] e =
        let none : text ≡ [] = is ∙ blocks_are bs ∙ ap (leading (names_of bs)) e in
        let short : length text ≡ 0 = ap length none in
        absurd (omega (arith, short, long))
    by_atoms (a ∷ more) e =
        let whole : text ≡ codes " ** " ++ atoms_text (names_of bs) (a ∷ more) = is ∙ blocks_are bs ∙ ap (leading (names_of bs)) e ∙ leading_is (names_of bs) a more in
        ((λ h. let k : a ∷ more ≡ [] = sym e ∙ h in cc), dropped ∙ ap (drop 4) whole ∙ ap (atoms_text (names_of bs)) (sym e))

-- a shorter text is that of none
pub no_text : (bs : List block.Block) (text : List ℕ) → text ≡ blocks_text bs → length text < 4 → IsAtomsText None bs
no_text bs text is short = by_atoms (atoms_from 0 bs) refl
  where
    by_atoms : (atoms : List Atom) → atoms_from 0 bs ≡ atoms → atoms_from 0 bs ≡ []
    by_atoms [] e = e
    by_atoms (a ∷ more) e =
        let whole : text ≡ codes " ** " ++ atoms_text (names_of bs) (a ∷ more) = is ∙ blocks_are bs ∙ ap (leading (names_of bs)) e ∙ leading_is (names_of bs) a more in
        let long : length text ≡ 4 + length (atoms_text (names_of bs) (a ∷ more)) = ap length whole ∙ length-append (codes " ** ") (atoms_text (names_of bs) (a ∷ more)) in
        absurd (omega (arith, long, short))
