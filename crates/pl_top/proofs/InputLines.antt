-- The first line of a text.
use Rattle.std.proofs.Common.{◌≡◌, ℕ, suc, ℤ, Option, Some, None, ◌+◌, ◌-◌, ◌*◌, ◌<◌, ◌≤◌, ◌==◌, Bool, true, false, List, [], ◌∷◌, ◌++◌, length, take, drop, refl, sym, ap, ap₂, ◌∙◌, arith, append_assoc, append-nil, length-append, length-drop}
use Rattle.std.specs.Prelude.{Result, Ok, Err}
use Rattle.std.specs.List.{prefix_len}
use Rattle.std.proofs.lemmas.List.{take_all}
use Rattle.std.proofs.lemmas.Bool.{eqb-true}
use Rattle.pl_base.specs.Tokens.{digits_onto}
use Rattle.pl_top.specs.Input.{lines_behind, lines_of, last_line, is_inside, number_of, before, numbers_from, input_of}

-- there is a line, of which these bytes are the beginning
last_is : (line : List ℕ) → 0 < length line → last_line line ≡ (line ++ []) ∷ []
last_is [] h = absurd (omega (arith, h))
last_is (b ∷ bs) h = ap (λ (l : List ℕ). l ∷ []) (sym (append-nil (b ∷ bs)))

pub first_behind : (bytes line : List ℕ) → 0 < length line + length bytes →
    lines_behind line bytes ≡ (line ++ take (prefix_len is_inside bytes) bytes) ∷ lines_of (drop 1 (drop (prefix_len is_inside bytes) bytes))
first_behind [] line h = last_is line (omega (arith, h))
first_behind (b ∷ bs) line h = go (first_behind bs (line ++ b ∷ []) longer) (b == 10) refl
  where
    longer : 0 < length (line ++ b ∷ []) + length bs
    longer = omega (arith, length-append line (b ∷ []))

    go : lines_behind (line ++ b ∷ []) bs ≡ ((line ++ b ∷ []) ++ take (prefix_len is_inside bs) bs) ∷ lines_of (drop 1 (drop (prefix_len is_inside bs) bs))
        → (t : Bool) → (b == 10) ≡ t → lines_behind line (b ∷ bs) ≡ (line ++ take (prefix_len is_inside (b ∷ bs)) (b ∷ bs)) ∷ lines_of (drop 1 (drop (prefix_len is_inside (b ∷ bs)) (b ∷ bs)))
    go ih true e = rw e (ap (λ (l : List ℕ). l ∷ lines_of bs) (sym (append-nil line)))
    go ih false e =
        let n = prefix_len is_inside bs in
        let one : 1 + n ≡ suc n = omega arith in
        rw e (rw one (ih ∙ ap (λ (l : List ℕ). l ∷ lines_of (drop 1 (drop n bs))) (append_assoc line (b ∷ []) (take n bs))))

-- the same of a text that was split behind its first line
pub first_split : (bytes front back : List ℕ) (n : ℕ) → 0 < length bytes → n ≡ prefix_len is_inside bytes → front ≡ take n bytes → back ≡ drop n bytes → lines_of bytes ≡ front ∷ lines_of (drop 1 back)
first_split bytes front back n h is f b =
    first_behind bytes [] (omega (arith, h)) ∙ sym (ap₂ (λ (x y : List ℕ). x ∷ lines_of (drop 1 y)) (f ∙ ap (λ (k : ℕ). take k bytes) is) (b ∙ ap (λ (k : ℕ). drop k bytes) is))

pub none_behind : (back : List ℕ) → length back < 1 → drop 1 back ≡ back
none_behind [] h = refl
none_behind (b ∷ bs) h = absurd (omega (arith, h))

pub all_behind : (back : List ℕ) → take (length back - 1) (drop 1 back) ≡ drop 1 back
all_behind back = take_all _ _ (omega (arith, length-drop 1 back))

-- ---- numbers line by line

-- numbers that were read, before those that are still to be read
abbrev pub onto : List ℤ → Result (List ℤ) ℕ → Result (List ℤ) ℕ
onto zs (Ok more) = Ok (zs ++ more)
onto zs (Err n) = Err n

onto_before : (zs : List ℤ) (n : ℕ) (z : ℤ) (r : Result (List ℤ) ℕ) → onto zs (before n (Some z) r) ≡ onto (zs ++ z ∷ []) r
onto_before zs n z (Ok more) = ap Ok (sym (append_assoc zs (z ∷ []) more))
onto_before zs n z (Err m) = refl

pub onto_none : (r : Result (List ℤ) ℕ) → r ≡ onto [] r
onto_none (Ok more) = refl
onto_none (Err n) = refl

-- one line more was read
pub read_one : (bytes rest first behind : List ℕ) (zs : List ℤ) (n : ℕ) (z : ℤ) → input_of bytes ≡ onto zs (numbers_from n (lines_of rest)) → lines_of rest ≡ first ∷ lines_of behind → number_of first ≡ Some z → input_of bytes ≡ onto (zs ++ z ∷ []) (numbers_from (n + 1) (lines_of behind))
read_one bytes rest first behind zs n z h is e =
    h ∙ ap (λ (ls : List (List ℕ)). onto zs (numbers_from n ls)) is
    ∙ ap (λ (o : Option ℤ). onto zs (before n o (numbers_from (n + 1) (lines_of behind)))) e
    ∙ onto_before zs n z (numbers_from (n + 1) (lines_of behind))

-- a line is refused
pub refused_line : (bytes rest first behind : List ℕ) (zs : List ℤ) (n : ℕ) → input_of bytes ≡ onto zs (numbers_from n (lines_of rest)) → lines_of rest ≡ first ∷ lines_of behind → number_of first ≡ None → input_of bytes ≡ Err n
refused_line bytes rest first behind zs n h is e =
    h ∙ ap (λ (ls : List (List ℕ)). onto zs (numbers_from n ls)) is
    ∙ ap (λ (o : Option ℤ). onto zs (before n o (numbers_from (n + 1) (lines_of behind)))) e

-- all lines were read
pub all_read : (bytes rest : List ℕ) (zs : List ℤ) (n : ℕ) → input_of bytes ≡ onto zs (numbers_from n (lines_of rest)) → rest ≡ [] → input_of bytes ≡ Ok zs
all_read bytes rest zs n h e = h ∙ ap (λ (t : List ℕ). onto zs (numbers_from n (lines_of t))) e ∙ ap Ok (append-nil zs)

-- nothing is left of an empty text
pub nothing_left : (rest : List ℕ) (b : Bool) → b ≡ (length rest == 0) → b ≡ true → rest ≡ []
nothing_left [] b e h = refl
nothing_left (x ∷ xs) b e h = absurd (omega (arith, eqb-true (length (x ∷ xs)) 0 (sym e ∙ h)))

-- digits behind others make no smaller number
pub value_grows : (v : ℕ) (bs : List ℕ) → v ≤ digits_onto v bs
value_grows v [] = omega arith
value_grows v (b ∷ bs) = omega (arith, value_grows (v * 10 + (b - 48)) bs)
