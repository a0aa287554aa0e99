-- How long blocks are.
use Rattle.std.proofs.Common.{◌≡◌, ℕ, ◌+◌, List, [], ◌∷◌, ◌++◌, length, flat_map, arith}
use Rattle.std.specs.Prelude.{codes}
use Rattle.std.proofs.lemmas.List.{length-append}
use Rattle.c_syntax.specs.Text.{indent, line, statement}
use Rattle.c_forms.specs.Tree as w
use Rattle.c_forms.specs.Tree.{Expr, LoadLine, Stmts}
use Rattle.c_forms.specs.Text.{expr_text, load_text, stmt_text, stmts_text}
use Rattle.c_rules.specs.Lines.{test_text}

pub brace_length : (n : ℕ) → length (line n (codes "{" ∷ [])) ≡ length (indent n) + 2
brace_length n = length-append (indent n) (codes "{\n")

pub close_length : (n : ℕ) → length (line n (codes "}" ∷ [])) ≡ length (indent n) + 2
close_length n = length-append (indent n) (codes "}\n")

pub if_length : (n : ℕ) (e : Expr) (first second : Stmts) → length (stmt_text n (w.If e first second))
    ≡ length (line n (codes "if (" ∷ expr_text e ∷ codes ") {" ∷ [])) + length (stmts_text (n + 1) first) + length (line n (codes "} else {" ∷ []))
    + length (stmts_text (n + 1) second) + length (line n (codes "}" ∷ []))
if_length n e first second =
    let A = line n (codes "if (" ∷ expr_text e ∷ codes ") {" ∷ []) in
    let B = stmts_text (n + 1) first in
    let C = line n (codes "} else {" ∷ []) in
    let D = stmts_text (n + 1) second in
    let E = line n (codes "}" ∷ []) in
    let d = length-append D E in
    let c = length-append C (D ++ E) in
    let b = length-append B (C ++ (D ++ E)) in
    let a = length-append A (B ++ (C ++ (D ++ E))) in
    omega arith

pub while_length : (n : ℕ) (loads : List LoadLine) (e : Expr) (body : Stmts) → length (stmt_text n (w.While loads e body))
    ≡ length (line n (codes "while (1) {" ∷ [])) + length (flat_map (load_text (n + 1)) loads) + length (test_text (n + 1) e)
    + length (stmts_text (n + 1) body) + length (line n (codes "}" ∷ []))
while_length n loads e body =
    let A = line n (codes "while (1) {" ∷ []) in
    let B = flat_map (load_text (n + 1)) loads in
    let C = line (n + 1) (codes "if (!" ∷ expr_text e ∷ codes ") {" ∷ []) in
    let D = statement (n + 1 + 1) (codes "break" ∷ []) in
    let E = line (n + 1) (codes "}" ∷ []) in
    let F = stmts_text (n + 1) body in
    let G = line n (codes "}" ∷ []) in
    let f = length-append F G in
    let e' = length-append E (F ++ G) in
    let d = length-append D (E ++ (F ++ G)) in
    let c = length-append C (D ++ (E ++ (F ++ G))) in
    let b = length-append B (C ++ (D ++ (E ++ (F ++ G)))) in
    let a = length-append A (B ++ (C ++ (D ++ (E ++ (F ++ G))))) in
    let d' = length-append D E in
    let c' = length-append C (D ++ E) in
    omega arith
