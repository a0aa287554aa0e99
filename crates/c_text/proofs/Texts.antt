-- Laws of the text.
use Rattle.std.proofs.Common.{◌≡◌, ◌∙◌, ℕ, zero, suc, ◌+◌, Bool, true, false, List, [], ◌∷◌, ◌++◌, refl, ap, sym, add-one, ◌<◌, length, drop, get_or, map, append_assoc, append-nil, cond, flat_map, filter, Result, Ok, Err}
use Rattle.std.specs.Prelude.{codes, OnOk}
use Rattle.c_syntax.specs.declared.program.CFun.{CFun}
use Rattle.c_syntax.specs.Plain.{plain_fun}
use Rattle.c_syntax.specs.Tree.{Fun}
use Rattle.c_text.proofs.Starts.{dropped}
use Rattle.c_syntax.specs.Text.{indent, joined, starter_text}

indent-suc : (n : ℕ) → indent (suc n) ≡ indent n ++ codes "  "
indent-suc zero = refl
indent-suc (suc n) = ap (λ t. codes "  " ++ t) (indent-suc n)

-- one level more is two blanks more
pub indent-add_one : (n : ℕ) → indent (n + 1) ≡ indent n ++ codes "  "
indent-add_one n = ap indent (add-one n) ∙ indent-suc n

joined-append : (ts : List (List ℕ)) (a b : List ℕ) → joined ts a ++ b ≡ joined (ts ++ a ∷ []) b
joined-append [] a b = refl
joined-append (t ∷ ts) a b = append_assoc t (joined ts a) b ∙ ap (λ more. t ++ more) (joined-append ts a b)

-- one piece more is put behind pieces
pub pushed : (o : List ℕ) (ts : List (List ℕ)) (a b x y : List ℕ) → x ≡ o ++ joined ts a → y ≡ x ++ b → y ≡ o ++ joined (ts ++ a ∷ []) b
pushed o ts a b x y h k = k ∙ ap (λ z. z ++ b) h ∙ append_assoc o (joined ts a) b ∙ ap (λ z. o ++ z) (joined-append ts a b)

pub pushed_last : {X E : Type 0} (r : Result X E) (o : List ℕ) (ts : List (List ℕ)) (a b x y : List ℕ) → x ≡ o ++ joined ts a → OnOk r (y ≡ x ++ b) → OnOk r (y ≡ o ++ joined (ts ++ a ∷ []) b)
pushed_last (Ok u) o ts a b x y h k = pushed o ts a b x y h k
pushed_last (Err e) o ts a b x y h k = tt

starters-cons : (test : Fun → Bool) (f : Fun) (rest : List Fun) →
    flat_map starter_text (filter test (f ∷ rest)) ≡ flat_map starter_text (filter test (f ∷ [])) ++ flat_map starter_text (filter test rest)
starters-cons test f rest =
    elim (test f) as (λ b. flat_map starter_text (cond b (f ∷ filter test rest) (filter test rest)) ≡ flat_map starter_text (cond b (f ∷ []) []) ++ flat_map starter_text (filter test rest))
    [ true ↦ ap (λ t. t ++ flat_map starter_text (filter test rest)) (sym (append-nil (starter_text f))) | false ↦ refl ]

-- the threads of a function, and of those behind it
pub starters-drop : (test : Fun → Bool) (funs : List CFun) (i : ℕ) (f : CFun) → i < length funs → f ≡ get_or funs i f →
    flat_map starter_text (filter test (map plain_fun (drop i funs)))
    ≡ flat_map starter_text (filter test (plain_fun f ∷ [])) ++ flat_map starter_text (filter test (map plain_fun (drop (i + 1) funs)))
starters-drop test funs i f h e =
    ap (λ more. flat_map starter_text (filter test (map plain_fun more))) (dropped funs i f h e) ∙ starters-cons test (plain_fun f) (map plain_fun (drop (i + 1) funs))
