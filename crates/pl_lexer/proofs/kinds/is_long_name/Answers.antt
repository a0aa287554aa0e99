use Rattle.std.proofs.Common.{◌≡◌, ℕ, List, [], ◌∷◌, length, inl, inr, refl, ◌∙◌, arith}
use Rattle.std.specs.Prelude.{sum_by}
use Rattle.std.proofs.lemmas.Bool.{ltb-true, lt-ltb}
use Rattle.std.proofs.lemmas.List.{length-append}
use Rattle.std.proofs.lemmas.List.Sums.{sum_by-cons}
use Rattle.pl_base.specs.Mangling.{mangled_char, mangled}
use Rattle.pl_lexer.proofs.kinds.is_long_name.Goals as goal

-- the mangled text is as long as those of its characters together
length-mangled : (cs : List ℕ) → sum_by (λ c. length (mangled_char c)) cs ≡ length (mangled cs)
length-mangled [] = refl
length-mangled (c ∷ cs) =
    sum_by-cons (λ d. length (mangled_char d)) c cs ∙ omega (arith, length-mangled cs, length-append (mangled_char c) (mangled cs))

pub returns-else-name-gt-MOST_CHARACTERS : goal.returns-else-name-gt-MOST_CHARACTERS
returns-else-name-gt-MOST_CHARACTERS c =
    let len = c.mangled_len.ensures ∙ length-mangled c.args.name.now in (
      λ long. inr (let h = ltb-true 50 c.mangled_len.result long in omega arith),
      elim [ inl h ↦ absurd (omega arith) | inr h ↦ lt-ltb 50 c.mangled_len.result (omega arith) ],
    )
