-- Laws of what is left of lists, and of texts with commas.
use Rattle.std.proofs.Common.{◌≡◌, ◌∙◌, sym, ap, refl, ℕ, zero, suc, ◌+◌, ◌*◌, ◌<◌, List, [], ◌∷◌, ◌++◌, length, map, drop, flat_map, get_or, add-one, arith}
use Rattle.std.specs.List.{slice_get}
use Rattle.std.specs.Option.{option_map}
use Rattle.std.proofs.lemmas.Option.{slice_get-map}
use Rattle.c_forms.specs.declared.source.Param.{Param}
use Rattle.std.specs.Prelude.{codes}
use Rattle.std.proofs.Math.Seq.{drop-cons}
use Rattle.std.proofs.lemmas.List.{length-append, drop-drop}
use Rattle.c_syntax.specs.Text.{behind_commas, indent}
use Rattle.c_rules.specs.Commas.{gap, commas_from}

-- the element at i and those behind it
pub dropped : {X : Type 0} (list : List X) (i : ℕ) (x : X) → i < length list → x ≡ get_or list i x → drop i list ≡ x ∷ drop (i + 1) list
dropped list i x h e = drop-cons list i x h ∙ ap (λ y. y ∷ drop (suc i) list) (sym e) ∙ ap (λ n. x ∷ drop n list) (sym (add-one i))

-- behind the first, each has a comma and a blank in front
pub gap_next : (i : ℕ) → gap (i + 1) ≡ 2
gap_next i = grind arith

pub commas_next : (i : ℕ) (xs : List (List ℕ)) → commas_from (i + 1) xs ≡ behind_commas xs
commas_next i xs = grind arith

commas_behind : (e : List ℕ) (es : List (List ℕ)) → length (behind_commas (e ∷ es)) ≡ 2 + length e + length (behind_commas es)
commas_behind e es = length-append (codes ", " ++ e) (behind_commas es) ∙ ap (λ k. k + length (behind_commas es)) (length-append (codes ", ") e)

pub commas_step : (i : ℕ) (e : List ℕ) (es : List (List ℕ)) → length (commas_from i (e ∷ es)) ≡ gap i + length e + length (commas_from (i + 1) es)
commas_step zero e es =
    let a : length (commas_from 0 (e ∷ es)) ≡ length e + length (behind_commas es) = length-append e (behind_commas es) in
    a ∙ ap (λ xs. length e + length xs) (sym (commas_next 0 es)) ∙ omega arith
commas_step (suc i) e es =
    let n : suc i ≡ i + 1 = omega arith in
    let a : commas_from (suc i) (e ∷ es) ≡ behind_commas (e ∷ es) = ap (λ k. commas_from k (e ∷ es)) n ∙ commas_next i (e ∷ es) in
    let g : gap (suc i) ≡ 2 = ap gap n ∙ gap_next i in
    ap length a ∙ commas_behind e es ∙ ap (λ k. k + length e + length (behind_commas es)) (sym g) ∙ ap (λ xs. gap (suc i) + length e + length xs) (sym (commas_next (suc i) es))

pub slice_get_drop : {X : Type 0} (xs : List X) (i : ℕ) → slice_get (drop i xs) 0 ≡ slice_get xs i
slice_get_drop [] zero = refl
slice_get_drop [] (suc i) = refl
slice_get_drop (x ∷ xs) zero = refl
slice_get_drop (x ∷ xs) (suc i) = slice_get_drop xs i

pub drop-drop_one : {X : Type 0} (xs : List X) (i : ℕ) → drop 1 (drop i xs) ≡ drop (i + 1) xs
drop-drop_one xs i = drop-drop 1 i xs

-- the type of a parameter that is there
pub kind_there : (ps : List Param) (i : ℕ) → slice_get (map (λ p. p.kind) ps) i ≡ option_map (λ p. p.kind) (slice_get ps i)
kind_there ps i = slice_get-map (λ p. p.kind) ps i

-- two blanks a level
pub indent_length : (n : ℕ) → length (indent n) ≡ 2 * n
indent_length zero = refl
indent_length (suc n) = ap (λ k. suc (suc k)) (indent_length n) ∙ omega arith

-- one step of a loop over texts
pub fold_end : {X : Type 0} (f : X → List ℕ) (x : X) (rest all : List X) (here behind total : ℕ) → all ≡ x ∷ rest → behind ≡ here + length (f x) →
    here + length (flat_map f all) ≡ total → behind + length (flat_map f rest) ≡ total
fold_end f x rest all here behind total p b t =
    let s : length (flat_map f all) ≡ length (f x) + length (flat_map f rest) = ap (λ xs. length (flat_map f xs)) p ∙ length-append (f x) (flat_map f rest) in
    omega arith
