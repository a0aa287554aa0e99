-- The loop over declarations, which reads at most so many.
use Rattle.std.proofs.Common.{◌≡◌, ℕ, zero, suc, ◌-◌, ◌<◌, ◌&&◌, nat_lt, Bool, true, false, List, [], ◌∷◌, ◌++◌, Ok, Err, sym, ap, ◌∙◌, arith}
use Rattle.std.proofs.lemmas.Bool.{lt-ltb, and_parts}
use Rattle.pl_lexer.specs.declared.tokens.Token.{Token}
use Rattle.pl_readers.specs.declared.error.Stop.{Stop}
use Rattle.pl_readers.specs.Reader.{begins, many, onto}
use Rattle.pl_syntax.specs.Tree.{Decl}
use Rattle.pl_grammar.specs.Signs.{token_in}
use Rattle.pl_grammar.specs.FileReaders.{declaration, declaration_firsts}
use Rattle.pl_grammar.proofs.Counting.{count-goes, count-stops, count-full, count-ends}

abbrev test : Token → Bool
test = token_in declaration_firsts

pub declared-room : (room : ℕ) (b : Bool) → nat_lt 0 room && b ≡ true → 0 < room
declared-room zero b e = absurd cc
declared-room (suc n) b e = omega arith

pub declared-goes : (depth room : ℕ) (front : List Decl) (a : Decl) (rest after : List Token) → nat_lt 0 room && begins test rest ≡ true → declaration depth rest ≡ Ok (a, after) → onto (front ++ a ∷ []) (many (room - 1) test (declaration depth)) after ≡ onto front (many room test (declaration depth)) rest
declared-goes depth zero front a rest after b e = absurd cc
declared-goes depth (suc n) front a rest after b e =
    let less : suc n - 1 ≡ n = omega arith in
    let begun : begins test rest ≡ true = (and_parts (nat_lt 0 (suc n)) (begins test rest) b).1 in
    rw less (sym (count-goes test (declaration depth) n front a rest after begun e))

pub declared-stops : (depth room : ℕ) (front : List Decl) (rest : List Token) (s : Stop) → nat_lt 0 room && begins test rest ≡ true → declaration depth rest ≡ Err s → onto front (many room test (declaration depth)) rest ≡ Err s
declared-stops depth zero front rest s b e = absurd cc
declared-stops depth (suc n) front rest s b e =
    let begun : begins test rest ≡ true = (and_parts (nat_lt 0 (suc n)) (begins test rest) b).1 in
    count-stops test (declaration depth) n front rest s begun e

pub declared-ends : (depth room : ℕ) (front : List Decl) (rest : List Token) → nat_lt 0 room && begins test rest ≡ false → onto front (many room test (declaration depth)) rest ≡ Ok (front, rest)
declared-ends depth zero front rest b = count-full test (declaration depth) front rest
declared-ends depth (suc n) front rest b =
    let room : nat_lt 0 (suc n) ≡ true = lt-ltb 0 (suc n) (omega arith) in
    let ended : begins test rest ≡ false = ap (λ (r : Bool). r && begins test rest) (sym room) ∙ b in
    count-ends test (declaration depth) (suc n) front rest ended
