-- Arms by whether a level is left for their brace.
use Rattle.std.proofs.Common.{◌≡◌, ℕ, zero, suc, ◌<◌, ◌-◌, Bool, true, false, List, length, Err, refl, arith}
use Rattle.pl_lexer.specs.declared.tokens.Token.{Token}
use Rattle.pl_readers.specs.Reader.{begins}
use Rattle.pl_grammar.specs.Signs.{sign, token_in}
use Rattle.pl_grammar.specs.FileReaders.{arm, arm_of}

abbrev brace : List Token → Bool
brace xs = begins (token_in (sign 2)) xs

no_arm_by : (b : Bool) (xs : List Token) → brace xs ≡ b → arm 0 xs ≡ Err (record { is_deep = b; left = length xs })
unfolding arm
no_arm_by true xs e = rw e refl
no_arm_by false xs e = rw e refl

pub no_arm : (xs : List Token) → arm 0 xs ≡ Err (record { is_deep = begins (token_in (sign 2)) xs; left = length xs })
no_arm xs = no_arm_by (brace xs) xs refl

pub arm_left : (depth : ℕ) (xs : List Token) → 0 < depth → arm depth xs ≡ arm_of (depth - 1) xs
unfolding arm arm_of
arm_left zero xs h = absurd (omega arith)
arm_left (suc depth) xs h =
    let less : suc depth - 1 ≡ depth = omega arith in
    rw less refl
