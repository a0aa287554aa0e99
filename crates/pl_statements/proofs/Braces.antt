-- Blocks by whether a level is left for their brace.
use Rattle.std.proofs.Common.{◌≡◌, ℕ, zero, suc, ◌<◌, ◌-◌, Bool, true, false, List, length, Err, refl, arith}
use Rattle.pl_lexer.specs.declared.tokens.Token.{Token}
use Rattle.pl_readers.specs.Reader.{begins}
use Rattle.pl_grammar.specs.Signs.{sign, token_in}
use Rattle.pl_grammar.specs.StatementReaders.{block, block_of}

abbrev brace : List Token → Bool
brace xs = begins (token_in (sign 2)) xs

no_block_by : (b : Bool) (xs : List Token) → brace xs ≡ b → block 0 xs ≡ Err (record { is_deep = b; left = length xs })
unfolding block
no_block_by true xs e = rw e refl
no_block_by false xs e = rw e refl

pub no_block : (xs : List Token) → block 0 xs ≡ Err (record { is_deep = begins (token_in (sign 2)) xs; left = length xs })
no_block xs = no_block_by (brace xs) xs refl

pub block_left : (depth : ℕ) (xs : List Token) → 0 < depth → block depth xs ≡ block_of (depth - 1) (block (depth - 1)) xs
unfolding block
block_left zero xs h = absurd (omega arith)
block_left (suc depth) xs h =
    let less : suc depth - 1 ≡ depth = omega arith in
    rw less refl
