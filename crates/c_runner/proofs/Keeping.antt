-- Runs with one event more.
use Rattle.std.proofs.Common.{◌≡◌, ℕ, ℤ, suc, ◌+◌, ◌≤◌, List, [], ◌∷◌, ◌++◌, length, refl, sym, ap, ◌∙◌, subst, arith, length-append, append_assoc, append-nil, add-zero}
use Rattle.c_syntax.specs.Tree.{Program}
use Rattle.c_meaning.specs.declared.action.Event.{Event}
use Rattle.c_meaning.specs.Resolve.{functions_of}
use Rattle.c_meaning.specs.Events.{State, is_enabled}
use Rattle.c_meaning.specs.Steps.{Step, Runs, start_of}
use Rattle.c_runner.specs.Numbers.{IsNext}
use Rattle.c_runner.specs.Ends.{NoEnd}
use Rattle.c_runner.specs.Runs.{GoesOn, Ruled}
use Rattle.c_runner.specs.Kept.{IsKept, IsOpen, GoesByRule}
use Rattle.c_runner.proofs.Ending.{no_end}

-- a step of thread t is one of the event's thread
pub own_step : (p : Program) (s : State) (t : ℕ) (e : Event) (s' : State) → Step p s t e s' → Step p s e.tid e s'
own_step p s t e s' one = subst (λ (z : ℕ). Step p s z e s') (sym one.thread) one

runs_more : (p : Program) (s : State) (es : List Event) (m : State) (e : Event) (s' : State) → Runs p s es m → Step p m e.tid e s' → Runs p s (es ++ e ∷ []) s'
runs_more p s [] m e s' here one = let P : State → Type 0 = λ z. Step p z e.tid e s' in (s', subst P (sym here) one, refl)
runs_more p s (x ∷ es) m e s' (next, first, rest) one = (next, first, runs_more p next es m e s' rest one)

goes_more : (p : Program) (bound : ℕ) (s : State) (count : ℕ) (es : List Event) (m : State) (e : Event) (s' : State) → GoesOn p bound s count es m → NoEnd p bound m (count + length es) → Step p m e.tid e s' → GoesOn p bound s count (es ++ e ∷ []) s'
goes_more p bound s count [] m e s' here none one =
    let P : State → Type 0 = λ z. NoEnd p bound z (count + 0) × Step p z e.tid e s' in
    let Q : ℕ → Type 0 = λ k. NoEnd p bound s k in
    let got : P s = subst P (sym here) (none, one) in (subst Q (add-zero count) got.0, (s', got.1, refl))
goes_more p bound s count (x ∷ es) m e s' (before, (z, first, rest)) none one =
    let Q : ℕ → Type 0 = λ k. NoEnd p bound m k in
    let later : count + length (x ∷ es) ≡ count + 1 + length es = omega arith in (before, (z, first, goes_more p bound z (count + 1) es m e s' rest (subst Q later none) one))

pub kept_more : (p : Program) (input : List ℤ) (bound : ℕ) (s : State) (es : List Event) (capacity t : ℕ) (e : Event) (s' : State) (es' : List Event) (capacity' : ℕ) → IsKept p input bound s es capacity → IsOpen p bound s (length es) → Step p s t e s' → es' ≡ es ++ e ∷ [] → capacity' ≡ capacity → length s'.world.blocks ≤ suc (length s.world.blocks) → length s'.world.locks ≤ suc (length s.world.locks) → length s'.threads ≤ suc (length s.threads) → IsKept p input bound s' es' capacity'
kept_more p input bound s es capacity t e s' es' capacity' kept opened one is same blocks locks threads =
    let P : List Event → Type 0 = λ z. IsKept p input bound s' z capacity' in
    let own = own_step p s t e s' one in
    let none : NoEnd p bound s (0 + length es) = let w : length es ≡ 0 + length es = omega arith in subst (λ (k : ℕ). NoEnd p bound s k) w (no_end p bound s (length es) opened) in
    let len : length (es ++ e ∷ []) ≡ length es + 1 = length-append es (e ∷ []) in
    subst P (sym is) record {
      replays = runs_more p (start_of p input) es s e s' kept.replays own;
      goes = goes_more p bound (start_of p input) 0 es s e s' kept.goes none own;
      within = omega (arith, len, opened.within);
      few = kept.few;
      room = omega (arith, kept.room, same);
      blocks = omega (arith, len, kept.blocks, blocks);
      locks = omega (arith, len, kept.locks, locks);
      threads = omega (arith, len, kept.threads, threads);
    }

rule_more : (p : Program) (bound : ℕ) (s : State) (count from : ℕ) (es : List Event) (m : State) (from' : ℕ) (e : Event) (s' : State) → Ruled p bound s count from es m from' → NoEnd p bound m (count + length es) → IsNext (is_enabled (functions_of p) m) from' e.tid → Step p m e.tid e s' → Ruled p bound s count from (es ++ e ∷ []) s' (e.tid + 1)
rule_more p bound s count from [] m from' e s' (same, same_from) none next one =
    let P : State → ℕ → Type 0 = λ z f. NoEnd p bound z (count + 0) × IsNext (is_enabled (functions_of p) z) f e.tid × ((n : State) × Step p z e.tid e n × ((n ≡ s') × (e.tid + 1 ≡ e.tid + 1))) in
    let got : P s from = subst (λ (z : State). P z from) (sym same) (subst (λ (f : ℕ). P m f) (sym same_from) (none, next, (s', one, (refl, refl)))) in
    let Q : ℕ → Type 0 = λ k. NoEnd p bound s k in (subst Q (add-zero count) got.0, got.1, got.2)
rule_more p bound s count from (x ∷ es) m from' e s' (before, chosen, (z, first, rest)) none next one =
    let Q : ℕ → Type 0 = λ k. NoEnd p bound m k in
    let later : count + length (x ∷ es) ≡ count + 1 + length es = omega arith in (before, chosen, (z, first, rule_more p bound z (count + 1) (x.tid + 1) es m from' e s' rest (subst Q later none) next one))

pub goes_by : (p : Program) (bound : ℕ) (old mid new : State × List Event × ℕ) (t : ℕ) (e : Event) → GoesByRule p bound old mid → IsOpen p bound mid.0 (length mid.1) → IsNext (is_enabled (functions_of p) mid.0) mid.2 t → Step p mid.0 t e new.0 → new.1 ≡ mid.1 ++ e ∷ [] → new.2 ≡ t + 1 → GoesByRule p bound old new
goes_by p bound old mid new t e (es, joined, ruled) opened next one is from_is =
    let Q : ℕ → Type 0 = λ k. NoEnd p bound mid.0 k in
    let count : length mid.1 ≡ length old.1 + length es = ap (length {A = Event}) joined ∙ length-append old.1 es in
    let own_next : IsNext (is_enabled (functions_of p) mid.0) mid.2 e.tid = subst (λ (z : ℕ). IsNext (is_enabled (functions_of p) mid.0) mid.2 z) (sym one.thread) next in
    let behind : e.tid + 1 ≡ new.2 = omega (arith, one.thread, from_is) in
    let P : ℕ → Type 0 = λ f. Ruled p bound old.0 (length old.1) old.2 (es ++ e ∷ []) new.0 f in (
      es ++ e ∷ [],
      is ∙ (ap (λ z. z ++ e ∷ []) joined ∙ append_assoc old.1 es (e ∷ [])),
      subst P behind (rule_more p bound old.0 (length old.1) old.2 es mid.0 mid.2 e new.0 ruled (subst Q count (no_end p bound mid.0 (length mid.1) opened)) own_next (own_step p mid.0 t e new.0 one)),
    )

pub goes_nowhere : (p : Program) (bound : ℕ) (old : State × List Event × ℕ) → GoesByRule p bound old old
goes_nowhere p bound old = ([], sym (append-nil old.1), (refl, refl))
