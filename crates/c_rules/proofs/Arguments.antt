-- Laws of a step over arguments.
use Rattle.std.proofs.Common.{◌≡◌, ◌∙◌, sym, ap, ℕ, ◌+◌, Option, List, ◌∷◌, length, drop, arith}
use Rattle.std.specs.List.{slice_get}
use Rattle.c_syntax.specs.declared.kind.CType.{CType}
use Rattle.c_syntax.specs.declared.program.CParam.{CParam}
use Rattle.c_forms.specs.Tree.{Expr}
use Rattle.c_forms.specs.Text.{expr_text}
use Rattle.c_rules.specs.Commas.{gap, commas_from}
use Rattle.c_rules.specs.Least.{earlier, least}
use Rattle.c_rules.specs.Lines.{argument_found, argument_breaches}
use Rattle.c_rules.proofs.Drops.{commas_step, gap_next, slice_get_drop, drop-drop_one}
use Rattle.c_rules.proofs.Leasts.{least_append, earlier_assoc}

-- where texts with commas end
pub next_end : (i : ℕ) (e : List ℕ) (es all : List (List ℕ)) (end here behind total : ℕ) → all ≡ e ∷ es → here ≡ end + gap i → behind ≡ here + length e →
    end + length (commas_from i all) ≡ total → behind + length (commas_from (i + 1) es) ≡ total
next_end i e es all end here behind total p h b t =
    let s : length (commas_from i all) ≡ gap i + length e + length (commas_from (i + 1) es) = ap (λ xs. length (commas_from i xs)) p ∙ commas_step i e es in
    omega arith

pub next_least : (bound : List CParam) (i : ℕ) (e : Expr) (es all : List Expr) (wants : List CType) (end here behind : ℕ) (part next total : Option ℕ) →
    all ≡ e ∷ es → here ≡ end + gap i → behind ≡ here + length (expr_text e) → next ≡ least (argument_found bound (slice_get wants i) here e) →
    earlier part (least (argument_breaches bound (end + gap i) all (drop i wants))) ≡ total →
    earlier (earlier part next) (least (argument_breaches bound (behind + gap (i + 1)) es (drop (i + 1) wants))) ≡ total
next_least bound i e es all wants end here behind part next total p h b n t =
    let place : here + length (expr_text e) + 2 ≡ behind + gap (i + 1) = ap (λ k. k + 2) (sym b) ∙ ap (λ k. behind + k) (sym (gap_next i)) in
    let whole : least (argument_breaches bound (end + gap i) all (drop i wants)) ≡ least (argument_breaches bound here (e ∷ es) (drop i wants)) = cc (p, h) in
    let parts = least_append (argument_found bound (slice_get (drop i wants) 0) here e) (argument_breaches bound (here + length (expr_text e) + 2) es (drop 1 (drop i wants))) in
    let first : least (argument_found bound (slice_get (drop i wants) 0) here e) ≡ next = ap (λ w. least (argument_found bound w here e)) (slice_get_drop wants i) ∙ sym n in
    let rest : least (argument_breaches bound (here + length (expr_text e) + 2) es (drop 1 (drop i wants))) ≡ least (argument_breaches bound (behind + gap (i + 1)) es (drop (i + 1) wants)) =
    ap (λ k. least (argument_breaches bound k es (drop 1 (drop i wants)))) place ∙ ap (λ ws. least (argument_breaches bound (behind + gap (i + 1)) es ws)) (drop-drop_one wants i) in
    earlier_assoc part next (least (argument_breaches bound (behind + gap (i + 1)) es (drop (i + 1) wants)))
    ∙ ap (earlier part) (ap (λ r. earlier next r) (sym rest) ∙ ap (λ r. earlier r (least (argument_breaches bound (here + length (expr_text e) + 2) es (drop 1 (drop i wants))))) (sym first) ∙ sym parts ∙ sym whole)
    ∙ t
