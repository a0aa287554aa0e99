-- Numbers, locals and types are read right.
use Rattle.std.proofs.Common.{◌≡◌, ◌⊎◌, inl, inr, ℕ, zero, suc, ◌+◌, ◌^◌, ◌<◌, Bool, true, false, List, [], ◌∷◌, ◌++◌, length, get_or, Ok, Err, refl, sym, ap, ◌∙◌, arith, rules}
use Rattle.std.specs.Prelude.{◌||◌, ◌==◌, nat_lt, codes, decimal}
use Rattle.std.specs.Char.{is_ascii_digit}
use Rattle.std.specs.List.{list_all, prefix_len}
use Rattle.std.proofs.lemmas.Bool.{and_parts, and_from, eqb-true, eq-eqb, ltb-true, lt-ltb, ltb-false, le-ltb, leb-true}
use Rattle.std.proofs.Math.Seq.{take-append_seam, drop-append_seam}
use Rattle.std.proofs.lemmas.Str.Parse.{IsNumeralModel, numerals_by_fold}
use Rattle.std.proofs.lemmas.Fmt.{decimal-digits_value, digits_value-decimal, decimal_is_IsNumeral, decimal_nonempty, first_decimal, decimal_digit}
use Rattle.c_syntax.specs.Text.{mangled_name}
use Rattle.pl_lexer.specs.Proper.{IsName}
use Rattle.pl_readers.specs.declared.error.Stop.{Stop}
use Rattle.pl_readers.specs.Language.{Language, Mapped}
use Rattle.pl_readers.specs.Reader.{begins, SameHead}
use Rattle.pl_readers.specs.Reads.{Ends, Took, Stopped, at_left}
use Rattle.pl_readers.specs.Bytes.{value_from}
use Rattle.pl_readers.proofs.Correct.{fine_is, err_left, same_begins}
use Rattle.c_forms.specs.declared.word.Number.{Number}
use Rattle.c_forms.specs.declared.word.Number.TheVariants as number
use Rattle.c_forms.specs.declared.word.Local.{Local}
use Rattle.c_forms.specs.Reading.{both}
use Rattle.c_forms.specs.Names.{name_line}
use Rattle.c_forms.specs.Text.{number_text, local_text}
use Rattle.c_forms.specs.Forms.{IsDecimal, IsNumberForm, IsLocalForm}
use Rattle.c_forms.specs.ExprReaders.{numeral, number_of, decimal_number, local_tail, local}
use Rattle.c_forms.proofs.WholeNames.{good_name_line}
use Rattle.c_forms.proofs.TailReads.{goes_line}
use Rattle.c_forms.proofs.Spelling.{Spells, Good, same, good_mapped, lit, pair}

-- ---- decimal digits

-- the digits at the front, and what stands behind them
record Run (xs : List ℕ) : Type 0 where
  digits : List ℕ
  rest : List ℕ
  parts : xs ≡ digits ++ rest
  each : list_all is_ascii_digit digits ≡ true
  ends : begins is_ascii_digit rest ≡ false
  counted : prefix_len is_ascii_digit xs ≡ length digits

run_more : (c : ℕ) (cs : List ℕ) (b : Bool) → is_ascii_digit c ≡ b → Run cs → Run (c ∷ cs)
run_more c cs true e r = record {
  digits = c ∷ r.digits;
  rest = r.rest;
  parts = ap (λ (l : List ℕ). c ∷ l) r.parts;
  each = and_from (is_ascii_digit c) (list_all is_ascii_digit r.digits) e r.each;
  ends = r.ends;
  counted = rw e (omega (arith, r.counted));
}
run_more c cs false e r = record { digits = []; rest = c ∷ cs; parts = refl; each = refl; ends = e; counted = rw e refl }

run : (xs : List ℕ) → Run xs
run [] = record { digits = []; rest = []; parts = refl; each = refl; ends = refl; counted = refl }
run (c ∷ cs) = run_more c cs (is_ascii_digit c) refl (run cs)

run_len : (ds rest : List ℕ) → list_all is_ascii_digit ds ≡ true → begins is_ascii_digit rest ≡ false → prefix_len is_ascii_digit (ds ++ rest) ≡ length ds
run_len [] [] e h = refl
run_len [] (x ∷ rest) e h = rw h refl
run_len (c ∷ ds) rest e h = let p = and_parts (is_ascii_digit c) (list_all is_ascii_digit ds) e in rw p.0 (omega (arith, run_len ds rest p.1 h))

numeral_gives : (c : ℕ) (ds rest : List ℕ) → is_ascii_digit c ≡ true → (c == 48) ≡ false → list_all is_ascii_digit ds ≡ true → begins is_ascii_digit rest ≡ false → numeral (c ∷ (ds ++ rest)) ≡ Ok (c ∷ ds, rest)
unfolding numeral
numeral_gives c ds rest d z e h =
    let n : 1 + prefix_len is_ascii_digit (ds ++ rest) ≡ length (c ∷ ds) = omega (arith, run_len ds rest e h) in
    rw (z, d, n, take-append_seam (c ∷ ds) rest, drop-append_seam (c ∷ ds) rest) refl

numeral_zero : (rest : List ℕ) → numeral (48 ∷ rest) ≡ Ok (48 ∷ [], rest)
unfolding numeral
numeral_zero rest = refl

abbrev Numeral : Language ℕ (List ℕ)
Numeral = Spells IsDecimal (λ ds. ds)

numeral_took : (c : ℕ) (cs : List ℕ) (z d : Bool) → (c == 48) ≡ z → is_ascii_digit c ≡ d → (a rest : List ℕ) → numeral (c ∷ cs) ≡ Ok (a, rest) → Took Numeral numeral (c ∷ cs) a rest
unfolding numeral
numeral_took c cs true d ez ed a rest e =
    let c_is = eqb-true c 48 ez in
    let y = fine_is (48 ∷ [], cs) (a, rest) (let e1 = (rw ez at e) in e1) in
    let a_is : a ≡ 48 ∷ [] = sym (ap (λ (p : List ℕ × List ℕ). p.0) y) in
    let rest_is : cs ≡ rest = ap (λ (p : List ℕ × List ℕ). p.1) y in
    record { text = 48 ∷ []; is_text = ((48, [], a_is, refl, refl, λ k. refl), sym a_is); parts = rw (c_is, rest_is) refl; again = λ other same. numeral_zero other ∙ rw a_is refl }
numeral_took c cs false true ez ed a rest e =
    let r = run cs in
    let e1 = numeral_gives c r.digits r.rest ed ez r.each r.ends in
    let e2 : numeral (c ∷ (r.digits ++ r.rest)) ≡ Ok (a, rest) = ap (λ (l : List ℕ). numeral (c ∷ l)) (sym r.parts) ∙ e in
    let y = fine_is (c ∷ r.digits, r.rest) (a, rest) (sym e1 ∙ e2) in
    let a_is : a ≡ c ∷ r.digits = sym (ap (λ (p : List ℕ × List ℕ). p.0) y) in
    let rest_is : r.rest ≡ rest = ap (λ (p : List ℕ × List ℕ). p.1) y in
    record {
      text = c ∷ r.digits;
      is_text = ((c, r.digits, a_is, ed, r.each, λ k. absurd (not_zero c k ez)), sym a_is);
      parts = ap (λ (l : List ℕ). c ∷ l) (r.parts ∙ ap (λ (l : List ℕ). r.digits ++ l) rest_is);
      again = λ other same.
          let h : begins is_ascii_digit other ≡ false = sym (same_begins is_ascii_digit rest other same) ∙ ap (begins is_ascii_digit) (sym rest_is) ∙ r.ends in
          numeral_gives c r.digits other ed ez r.each h ∙ rw a_is refl;
    }
  where
    not_zero : (c : ℕ) → c ≡ 48 → (c == 48) ≡ false → ⊥
    not_zero c k e = let t = eq-eqb c 48 k in absurd cc
numeral_took c cs false false ez ed a rest e = let e1 = (rw (ez, ed) at e) in absurd cc

numeral_none : (t : Stop) → record { is_deep = false; left = 0 } ≡ t → (other : List ℕ) → SameHead {S = ℕ} [] other → numeral other ≡ Err (at_left t (length other))
unfolding numeral
numeral_none t e [] same = rw (← e) refl
numeral_none t e (y ∷ ys) same = absurd same

numeral_bad : (x : ℕ) (t : Stop) (m : ℕ) → (x == 48) ≡ false → is_ascii_digit x ≡ false → record { is_deep = false; left = m } ≡ t → (other : List ℕ) → SameHead (x ∷ []) other → numeral other ≡ Err (at_left t (length other))
unfolding numeral
numeral_bad x t m z d e [] same = absurd same
numeral_bad x t m z d e (y ∷ ys) same = rw (← same, z, d, ← e) refl

head_only : (x : ℕ) (xs other : List ℕ) → SameHead (x ∷ xs) other → SameHead (x ∷ []) other
head_only x xs [] h = h
head_only x xs (y ∷ ys) h = h

some_numeral : Numeral (49 ∷ []) (49 ∷ [])
some_numeral = ((49, [], refl, refl, refl, λ k. refl), refl)

numeral_stopped : (c : ℕ) (cs : List ℕ) (z d : Bool) → (c == 48) ≡ z → is_ascii_digit c ≡ d → (s : Stop) → numeral (c ∷ cs) ≡ Err s → Stopped Numeral numeral (c ∷ cs) s
unfolding numeral
numeral_stopped c cs true d ez ed s e = let e1 = (rw ez at e) in absurd cc
numeral_stopped c cs false true ez ed s e = let e1 = (rw (ez, ed) at e) in absurd cc
numeral_stopped c cs false false ez ed s e =
    let e1 = (rw (ez, ed) at e) in
    let e2 = err_left _ (record { is_deep = false; left = suc (length cs) }) s e1 in
    record {
      before = [];
      bad = c ∷ cs;
      parts = refl;
      left = ap (λ (z : Stop). z.left) (sym e2);
      viable = (49 ∷ [], 49 ∷ [], some_numeral);
      deeper = λ d y ys h. let e3 = ap (λ (z : Stop). z.is_deep) e2 in absurd cc;
      some_bad = λ d h. let e3 = ap (λ (z : Stop). z.is_deep) e2 in absurd cc;
      again = λ other same. numeral_bad c s (suc (length cs)) ez ed e2 other (head_only c cs other same);
    }

numeral_stopped_at : (xs : List ℕ) (s : Stop) → numeral xs ≡ Err s → Stopped Numeral numeral xs s
unfolding numeral
numeral_stopped_at [] s e =
    let e2 = err_left _ (record { is_deep = false; left = 0 }) s e in
    record {
      before = [];
      bad = [];
      parts = refl;
      left = ap (λ (z : Stop). z.left) (sym e2);
      viable = (49 ∷ [], 49 ∷ [], some_numeral);
      deeper = λ d y ys h. let e3 = ap (λ (z : Stop). z.is_deep) e2 in absurd cc;
      some_bad = λ d h. let e3 = ap (λ (z : Stop). z.is_deep) e2 in absurd cc;
      again = λ other same. numeral_none s e2 other same;
    }
numeral_stopped_at (c ∷ cs) s e = numeral_stopped c cs (c == 48) (is_ascii_digit c) refl refl s e

numeral_took_at : (xs a rest : List ℕ) → numeral xs ≡ Ok (a, rest) → Took Numeral numeral xs a rest
unfolding numeral
numeral_took_at [] a rest e = absurd cc
numeral_took_at (c ∷ cs) a rest e = numeral_took c cs (c == 48) (is_ascii_digit c) refl refl a rest e

numeral_takes : (a text rest : List ℕ) → Numeral a text → begins is_ascii_digit rest ≡ false → numeral (text ++ rest) ≡ Ok (a, rest)
numeral_takes a text rest t e = by_zero (t.0.0 == 48) refl
  where
    by_zero : (b : Bool) → (t.0.0 == 48) ≡ b → numeral (text ++ rest) ≡ Ok (a, rest)
    by_zero true z =
        let c_is = eqb-true t.0.0 48 z in
        let a_is : a ≡ 48 ∷ [] = t.0.2 ∙ rw (c_is, t.0.5 c_is) refl in
        rw (t.1, a_is) (numeral_zero rest)
    by_zero false z = rw (t.1, t.0.2) (numeral_gives t.0.0 t.0.1 rest t.0.3 z t.0.4 e)

good_numeral : Good Numeral is_ascii_digit numeral
good_numeral = record {
  reads = record { within = λ a text t. t; took = numeral_took_at; stopped = numeral_stopped_at; takes = numeral_takes };
  some = (49 ∷ [], 49 ∷ [], some_numeral);
}

-- ---- numbers

own : IsNumeralModel (λ ds. list_all is_ascii_digit ds ≡ true) (value_from 0)
own = numerals_by_fold _ (search rules) value_from (search rules)

pub decimal_text : (ds : List ℕ) → IsDecimal ds → value_from 0 ds < 2 ^ 64 → decimal (value_from 0 ds) ≡ ds
decimal_text ds d lt = decimal-digits_value own ds each some no_zero lt
  where
    each : list_all is_ascii_digit ds ≡ true
    each = rw d.2 (and_from (is_ascii_digit d.0) (list_all is_ascii_digit d.1) d.3 d.4)

    some : 0 < length ds
    some = rw d.2 (omega arith)

    no_zero : get_or ds 0 0 ≡ 48 → length ds ≡ 1
    no_zero first = let c_is : d.0 ≡ 48 = (let f = first in let f1 = (rw d.2 at f) in f1) in rw (d.2, d.5 c_is) refl

pub is_decimal : (m : ℕ) → m < 2 ^ 64 → IsDecimal (decimal m) × (value_from 0 (decimal m) ≡ m)
is_decimal m lt = by_digits (decimal m) refl
  where
    by_digits : (ds : List ℕ) → decimal m ≡ ds → IsDecimal (decimal m) × (value_from 0 (decimal m) ≡ m)
    by_digits [] e = absurd (let k = decimal_nonempty m lt in let k1 = (rw e at k) in omega (arith, k1))
    by_digits (c ∷ cs) e =
        let all : list_all is_ascii_digit (decimal m) ≡ true = own.from (decimal m) (decimal_is_IsNumeral m lt).0.1 in
        let p = and_parts (is_ascii_digit c) (list_all is_ascii_digit cs) (let a = all in let a1 = (rw e at a) in a1) in
        ((c, cs, e, p.0, p.1, λ z. no_more c cs e z), digits_value-decimal own m lt)
      where
        zero_of : (c : ℕ) (cs : List ℕ) → decimal m ≡ c ∷ cs → c ≡ 48 → m ≡ 0
        zero_of c cs e z = by_size (same_or_pos m)
          where
            same_or_pos : (m : ℕ) → (m ≡ 0) ⊎ (0 < m)
            same_or_pos zero = inl refl
            same_or_pos (suc m) = inr (omega arith)

            by_size : (m ≡ 0) ⊎ (0 < m) → m ≡ 0
            by_size (inl h) = h
            by_size (inr h) = absurd (let k = first_decimal m h lt in let k1 = (rw e at k) in omega (arith, k1, z))

        no_more : (c : ℕ) (cs : List ℕ) → decimal m ≡ c ∷ cs → c ≡ 48 → cs ≡ []
        no_more c cs e z = let m_is = zero_of c cs e z in let t : c ∷ cs ≡ 48 ∷ [] = sym e ∙ ap decimal m_is ∙ decimal_digit 0 (omega arith) in tail_is c cs 48 [] t
          where
            tail_is : (a : ℕ) (xs : List ℕ) (b : ℕ) (ys : List ℕ) → a ∷ xs ≡ b ∷ ys → xs ≡ ys
            tail_is a xs b ys e = cc

number_there : (ds : List ℕ) → IsDecimal ds → (b : Bool) → nat_lt (value_from 0 ds) (2 ^ 32) ≡ b → Spells IsNumberForm number_text (number_of ds) ds
number_there ds d true e = let lt = ltb-true (value_from 0 ds) (2 ^ 32) e in rw e (lt, sym (decimal_text ds d (omega (arith, lt))))
number_there ds d false e = rw e ((d, ltb-false (value_from 0 ds) (2 ^ 32) e), refl)

number_back : (k : Number) (text : List ℕ) → Spells IsNumberForm number_text k text → Mapped number_of Numeral k text
number_back (number.Small m) text t =
    let d = is_decimal m (omega (arith, t.0)) in
    (decimal m, (d.0, t.1), sym (small m d.1 t.0))
  where
    small : (m : ℕ) → value_from 0 (decimal m) ≡ m → m < 2 ^ 32 → number_of (decimal m) ≡ number.Small m
    small m e lt = rw (e, lt-ltb m (2 ^ 32) lt) refl
number_back (number.Long ds) text t = (ds, (t.0.0, t.1), sym (rw (le-ltb (value_from 0 ds) (2 ^ 32) t.0.1) refl))

pub good_number : Good (Spells IsNumberForm number_text) is_ascii_digit decimal_number
unfolding decimal_number
good_number = same (Mapped number_of Numeral) (Spells IsNumberForm number_text) is_ascii_digit decimal_number
    (λ k text t. let h = number_there t.0 t.1.0 (nat_lt (value_from 0 t.0) (2 ^ 32)) refl in rw (t.2, t.1.1) h) number_back
    (good_mapped IsDecimal (λ ds. ds) is_ascii_digit numeral number_of good_numeral)

-- ---- locals

-- a local behind its `v_`
abbrev pub local_end : Local → List ℕ
local_end x = mangled_name x.name ++ codes "_" ++ number_text x.number

digit_first : (k : Number) (rest : List ℕ) → IsNumberForm k → Ends goes_line (number_text k ++ rest)
digit_first k rest form =
    let d = number_back k (number_text k) (form, refl) in
    let e : number_text k ≡ d.1.0.0 ∷ d.1.0.1 = d.1.1 ∙ d.1.0.2 in
    rw e (digit_apart d.1.0.0 d.1.0.3)
  where
    digit_apart : (c : ℕ) → is_ascii_digit c ≡ true → goes_line c ≡ false
    digit_apart c e = by_tests (c == 95) (c == 117) refl refl
      where
        low : c < 95
        low = grind (arith, leb-true, and_parts, e)

        by_tests : (a b : Bool) → (c == 95) ≡ a → (c == 117) ≡ b → (a || b) ≡ false
        by_tests true b k h = let t = eqb-true c 95 k in absurd (omega (arith, low, t))
        by_tests false true k h = let t = eqb-true c 117 h in absurd (omega (arith, low, t))
        by_tests false false k h = refl

pub good_local_tail : Good (Spells IsLocalForm local_end) is_ascii_digit local_tail
unfolding local_tail
good_local_tail = same (Mapped record_of (Spells (λ p. IsName p.0 × IsNumberForm p.1) (λ p. (mangled_name p.0 ++ codes "_") ++ number_text p.1))) (Spells IsLocalForm local_end) is_ascii_digit local_tail
    (λ x text t. rw t.2 (t.1.0, t.1.1))
    (λ x text t. ((x.name, x.number), t, refl))
    (good_mapped (λ p. IsName p.0 × IsNumberForm p.1) (λ p. (mangled_name p.0 ++ codes "_") ++ number_text p.1) is_ascii_digit (both name_line decimal_number) record_of
    (pair IsName (λ bs. mangled_name bs ++ codes "_") goes_line name_line IsNumberForm number_text is_ascii_digit decimal_number (λ k rest u e. digit_first k rest u) good_name_line good_number))
  where
    record_of : (List ℕ) × Number → Local
    record_of p = record { name = p.0; number = p.1 }

pub good_local : Good (Spells IsLocalForm local_text) is_ascii_digit local
unfolding local
good_local = lit IsLocalForm local_end is_ascii_digit local_tail (codes "v_") good_local_tail

-- ---- types
