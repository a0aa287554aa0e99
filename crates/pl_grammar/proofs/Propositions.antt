-- The readers of propositions by the next token and by whether a level is left.
use Rattle.std.proofs.Common.{◌≡◌, ℕ, zero, suc, ◌<◌, ◌≤◌, ◌-◌, true, false, cond, List, Ok, refl, ◌∙◌, arith}
use Rattle.std.proofs.lemmas.Bool.{lt-ltb, le-ltb}
use Rattle.pl_lexer.specs.declared.tokens.Token.{Token}
use Rattle.pl_readers.specs.Reader.{begins, deep}
use Rattle.pl_grammar.specs.Signs.{sign, token_in}
use Rattle.pl_grammar.specs.PropGrammar.{PropPart}
use Rattle.pl_grammar.specs.PropReaders.{prop, parts, first_part, more_parts, exists_part, exists_of, enclosed_of, star_of, star_behind, no_star, atom}

-- by whether it begins with `exists`
prop_is : (depth used : ℕ) (xs : List Token) → prop depth used xs ≡ cond (begins (token_in (sign 57)) xs) (exists_part depth used xs) (parts depth used xs)
unfolding prop parts first_part more_parts exists_part
prop_is zero used xs = refl
prop_is (suc depth) used xs = refl

pub prop_exists : (depth used : ℕ) (xs : List Token) → begins (token_in (sign 57)) xs ≡ true → prop depth used xs ≡ exists_part depth used xs
prop_exists depth used xs e = prop_is depth used xs ∙ rw e refl

pub prop_parts : (depth used : ℕ) (xs : List Token) → begins (token_in (sign 57)) xs ≡ false → prop depth used xs ≡ parts depth used xs
prop_parts depth used xs e = prop_is depth used xs ∙ rw e refl

pub exists_deep : (depth used : ℕ) (xs : List Token) → depth ≤ used → exists_part depth used xs ≡ deep xs
unfolding exists_part
exists_deep zero used xs h = refl
exists_deep (suc depth) used xs h = rw (le-ltb used (suc depth) h) refl

pub exists_left : (depth used : ℕ) (xs : List Token) → used < depth → exists_part depth used xs ≡ exists_of (prop (depth - 1)) used xs
unfolding exists_part
exists_left zero used xs h = absurd (omega arith)
exists_left (suc depth) used xs h =
    let less : suc depth - 1 ≡ depth = omega arith in
    rw (lt-ltb used (suc depth) h, less) refl

pub first_atom : (depth used : ℕ) (xs : List Token) → begins (token_in (sign 0)) xs ≡ false → first_part depth used xs ≡ atom depth used xs
unfolding first_part
first_atom zero used xs e = rw e refl
first_atom (suc depth) used xs e = rw e refl

pub first_deep : (depth used : ℕ) (xs : List Token) → begins (token_in (sign 0)) xs ≡ true → depth ≤ used → first_part depth used xs ≡ deep xs
unfolding first_part
first_deep zero used xs e h = rw e refl
first_deep (suc depth) used xs e h = rw (e, le-ltb used (suc depth) h) refl

pub first_enclosed : (depth used : ℕ) (xs : List Token) → begins (token_in (sign 0)) xs ≡ true → used < depth → first_part depth used xs ≡ enclosed_of (prop (depth - 1)) used xs
unfolding first_part
first_enclosed zero used xs e h = absurd (omega arith)
first_enclosed (suc depth) used xs e h =
    let less : suc depth - 1 ≡ depth = omega arith in
    rw (e, lt-ltb used (suc depth) h, less) refl

pub more_none : (depth : ℕ) (a : PropPart) (xs : List Token) → begins (token_in (sign 14)) xs ≡ false → more_parts depth a xs ≡ Ok (a, xs)
unfolding more_parts no_star star_behind
more_none zero a xs e = rw e refl
more_none (suc depth) a xs e = rw e refl

pub more_deep : (depth : ℕ) (a : PropPart) (xs : List Token) → begins (token_in (sign 14)) xs ≡ true → depth ≤ a.used → more_parts depth a xs ≡ deep xs
unfolding more_parts no_star star_behind
more_deep zero a xs e h = rw e refl
more_deep (suc depth) a xs e h = rw (e, le-ltb a.used (suc depth) h) refl

pub more_star : (depth : ℕ) (a : PropPart) (xs : List Token) → begins (token_in (sign 14)) xs ≡ true → a.used < depth → more_parts depth a xs ≡ star_of (prop (depth - 1)) a xs
unfolding more_parts star_behind star_of
more_star zero a xs e h = absurd (omega arith)
more_star (suc depth) a xs e h =
    let less : suc depth - 1 ≡ depth = omega arith in
    rw (e, lt-ltb a.used (suc depth) h, less) refl
