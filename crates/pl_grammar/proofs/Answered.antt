-- What reading a whole file answers, at 64 levels.
use Rattle.std.proofs.Common.{◌≡◌, ℕ, zero, suc, ◌+◌, ◌-◌, ◌≤◌, true, false, List, [], ◌++◌, length, take, Ok, Err, refl, sym, ap, subst, ◌∙◌, arith}
use Rattle.std.proofs.lemmas.List.{append-nil}
use Rattle.pl_readers.specs.declared.error.Stop.{Stop}
use Rattle.pl_readers.specs.Language.{Language, IsViable}
use Rattle.pl_readers.specs.Reader.{Reader, whole}
use Rattle.pl_readers.specs.Reads.{never, Reads, RefusedAt, Agrees}
use Rattle.pl_readers.proofs.Correct.{whole-found, whole-only, whole-refused}
use Rattle.pl_readers.proofs.Levels.{Agrees-trans, refused_at, left_of, whole-none}
use Rattle.pl_lexer.specs.declared.tokens.Token.{Token}
use Rattle.pl_syntax.specs.Tree.{Program}
use Rattle.pl_grammar.specs.FileGrammar.{File}
use Rattle.pl_grammar.specs.FileReaders.{file}
use Rattle.pl_grammar.specs.Refusals.{IsFirstRefused, NeedsMore}
use Rattle.pl_grammar.proofs.FileFormats.{reads_file}
use Rattle.pl_grammar.proofs.FileAgreeing.{file_agrees}

-- twice as many
abbrev pub double : ℕ → ℕ
double zero = zero
double (suc n) = suc (suc (double n))

abbrev pub Even : ℕ → Language Token Program
Even n = File (double n)

abbrev pub even : ℕ → Reader Token Program
even n = file (double n)

pub even_reads : (n : ℕ) → Reads (Even n) (Even (suc n)) never (even n)
even_reads n = reads_file (double n)

pub even_agrees : (n : ℕ) → Agrees (even n) (even (suc n))
even_agrees n = Agrees-trans (file (double n)) (file (suc (double n))) (file (suc (suc (double n)))) (file_agrees (double n)) (file_agrees (suc (double n)))

-- a file is one with one level more
one_more : (n : ℕ) (p : Program) (text : List Token) → File n p text → File (suc n) p text
one_more n p text t =
    let e : file n text ≡ Ok (p, []) = ap (file n) (sym (append-nil text)) ∙ (reads_file n).takes p text [] t refl in
    let w = (reads_file (suc n)).took text p [] ((file_agrees n).ok text (p, []) e) in
    subst (λ (r : List Token). File (suc n) p r) (sym (w.parts ∙ append-nil w.text)) w.is_text

higher : (k n : ℕ) (p : Program) (text : List Token) → File n p text → File (k + n) p text
higher zero n p text t = subst (λ (j : ℕ). File j p text) (omega arith) t
higher (suc k) n p text t = subst (λ (j : ℕ). File j p text) (omega arith) (one_more (k + n) p text (higher k n p text t))

double_is : (n : ℕ) → double n ≡ n + n
double_is zero = refl
double_is (suc n) = let h = double_is n in omega arith

pub to_even : (n : ℕ) (p : Program) (text : List Token) → File n p text → Even n p text
to_even n p text t = subst (λ (j : ℕ). File j p text) (sym (double_is n)) (higher n n p text t)

pub found : (xs : List Token) (p : Program) → whole (file 64) xs ≡ Ok p → File 64 p xs
found xs p e = whole-found (Even 32) (Even 33) never (even 32) (even_reads 32) xs p e

pub only : (xs : List Token) (p : Program) → File 64 p xs → whole (file 64) xs ≡ Ok p
only xs p t = whole-only (Even 32) (Even 33) never (even 32) (even_reads 32) xs p t

refused : (xs : List Token) (s : Stop) → whole (file 64) xs ≡ Err s → RefusedAt (File 64) (File 66) xs (length xs - s.left) s.is_deep
refused xs s e = refused_at (Even 32) (Even 33) xs s (whole-refused (Even 32) (Even 33) never (even 32) (even_reads 32) xs s e)

pub needs_more : (xs : List Token) (s : Stop) → whole (file 64) xs ≡ Err s → s.is_deep ≡ true → NeedsMore xs (length xs - s.left)
needs_more xs s e d =
    let r = refused xs s e in
    let w = r.deeper d in
    record { inside = w.0; more = (w.1.0, w.1.1, (66, w.1.2)); none = r.none w.0 }

pub first_refused : (xs : List Token) (s : Stop) → whole (file 64) xs ≡ Err s → s.is_deep ≡ false → IsFirstRefused xs (length xs - s.left)
first_refused xs s e d =
    let at = λ (m : ℕ). whole-none Even never even even_reads even_agrees 32 m xs s e d in
    let low = at 32 in
    record {
      inside = low.inside;
      viable = (low.viable.0, low.viable.1, (66, low.viable.2));
      none = λ lt v. (at v.2.0).none lt (v.0, v.1, to_even v.2.0 v.1 (take (length xs - s.left + 1) xs ++ v.0) v.2.1);
      short = λ e1 p t. (at t.0).short e1 p (to_even t.0 p xs t.1);
    }

pub left_inside : (xs : List Token) (s : Stop) → whole (file 64) xs ≡ Err s → s.left ≤ length xs
left_inside xs s e = left_of (Even 32) (Even 33) xs s (whole-refused (Even 32) (Even 33) never (even 32) (even_reads 32) xs s e)

pub viable_before : (xs : List Token) (s : Stop) → whole (file 64) xs ≡ Err s → IsViable (File 66) (take (length xs - s.left) xs)
viable_before xs s e = (refused xs s e).viable
