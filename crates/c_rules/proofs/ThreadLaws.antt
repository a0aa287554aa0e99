-- Laws of the lines of a `par`.
use Rattle.std.proofs.Common.{◌≡◌, ◌∙◌, sym, ap, ℕ, ◌+◌, Option, List, [], ◌∷◌, ◌++◌, length, drop, flat_map, arith}
use Rattle.std.specs.List.{slice_get}
use Rattle.std.specs.Prelude.{codes}
use Rattle.std.specs.Str.{bytes_eq}
use Rattle.std.proofs.lemmas.List.{length-append}
use Rattle.c_syntax.specs.declared.kind.CType.{CType}
use Rattle.c_syntax.specs.declared.kind.CType.TheVariants as kind
use Rattle.c_syntax.specs.declared.program.CParam.{CParam}
use Rattle.c_syntax.specs.Text.{indent, line, statement, mangled_name, arguments_name}
use Rattle.c_forms.specs.Tree.{Argument, ParLines}
use Rattle.c_forms.specs.Text.{argument_text, call_text, par_text}
use Rattle.c_rules.specs.Least.{earlier, least}
use Rattle.c_rules.specs.Lines.{Known, handed_found, handed_breaches, thread_breaches, call_breaches, par_breaches, par_lines, made_text, fork_text}
use Rattle.c_rules.specs.Sorts.{unless}
use Rattle.c_rules.proofs.Drops.{slice_get_drop, drop-drop_one}
use Rattle.c_rules.proofs.Leasts.{least_append, earlier_assoc}

-- a step over the lines that hand arguments over
pub handed_end : (n : ℕ) (a : Argument) (as' all : List Argument) (here behind total : ℕ) → all ≡ a ∷ as' → behind ≡ here + length (argument_text n a) →
    here + length (flat_map (argument_text n) all) ≡ total → behind + length (flat_map (argument_text n) as') ≡ total
handed_end n a as' all here behind total p b t =
    let s : length (flat_map (argument_text n) all) ≡ length (argument_text n a) + length (flat_map (argument_text n) as') =
    ap (λ xs. length (flat_map (argument_text n) xs)) p ∙ length-append (argument_text n a) (flat_map (argument_text n) as') in
    omega arith

pub handed_least : (bound : List CParam) (first n k i : ℕ) (a : Argument) (as' all : List Argument) (wants : List CType) (here behind : ℕ) (part next total : Option ℕ) →
    all ≡ a ∷ as' → behind ≡ here + length (argument_text n a) → next ≡ least (handed_found bound (slice_get wants i) k (here + length (indent n) + 3) a) →
    earlier part (least (handed_breaches bound first n k here all (drop i wants))) ≡ total →
    earlier (earlier part next) (least (handed_breaches bound first n (k + 1) behind as' (drop (i + 1) wants))) ≡ total
handed_least bound first n k i a as' all wants here behind part next total p b e t =
    let place = here + length (indent n) + 3 in
    let whole : least (handed_breaches bound first n k here all (drop i wants)) ≡ least (handed_breaches bound first n k here (a ∷ as') (drop i wants)) =
    ap (λ xs. least (handed_breaches bound first n k here xs (drop i wants))) p in
    let rest_at : ℕ → List CType → Option ℕ = λ at ws. least (handed_breaches bound first n (k + 1) at as' ws) in
    let parts = least_append (handed_found bound (slice_get (drop i wants) 0) k place a) (handed_breaches bound first n (k + 1) (here + length (argument_text n a)) as' (drop 1 (drop i wants))) in
    let one : least (handed_found bound (slice_get (drop i wants) 0) k place a) ≡ next = ap (λ w. least (handed_found bound w k place a)) (slice_get_drop wants i) ∙ sym e in
    let rest : rest_at (here + length (argument_text n a)) (drop 1 (drop i wants)) ≡ rest_at behind (drop (i + 1) wants) =
    ap (λ at. rest_at at (drop 1 (drop i wants))) (sym b) ∙ ap (rest_at behind) (drop-drop_one wants i) in
    earlier_assoc part next (rest_at behind (drop (i + 1) wants))
    ∙ ap (earlier part) (ap (earlier next) (sym rest) ∙ ap (λ r. earlier r (rest_at (here + length (argument_text n a)) (drop 1 (drop i wants)))) (sym one) ∙ sym parts ∙ sym whole)
    ∙ t

-- how long the lines are
pub made_length : (n : ℕ) (p : ParLines) → length (made_text n p) ≡ length (indent n) + 9 + length (mangled_name p.structure) + 28 + length (mangled_name p.size) + 4
made_length n p =
    let m = mangled_name p.structure in
    let k = mangled_name p.size in
    let rest = codes " *q = p_get(sizeof(" ++ (arguments_name p.size ++ (codes "))" ++ codes ";\n")) in
    let a = length-append (indent n) (arguments_name p.structure ++ rest) in
    let b = length-append m rest in
    let d = length-append k (codes "))" ++ codes ";\n") in
    omega arith

pub fork_length : (n : ℕ) (p : ParLines) → length (fork_text n p) ≡ length (indent n) + 20 + length (mangled_name p.starter) + 6
fork_length n p =
    let m = mangled_name p.starter in
    let a = length-append (indent n) (codes "thrd_t t = p_fork(" ++ (codes "t_" ++ m ++ (codes ", q)" ++ codes ";\n"))) in
    let b = length-append m (codes ", q)" ++ codes ";\n") in
    omega arith

-- what is found of the lines, line by line
pub par_is : (known : Known) (bound : List CParam) (n at : ℕ) (p : ParLines) (first size handed starter call : ℕ) (part sized started other : Option ℕ) →
    first ≡ at + length (indent n) + 7 →
    size ≡ at + length (indent n) + 7 + length (arguments_name p.structure) + 19 →
    handed ≡ at + length (made_text n p) →
    starter ≡ at + length (made_text n p) + length (flat_map (argument_text n) p.arguments) + length (indent n) + 18 →
    call ≡ at + length (made_text n p) + length (flat_map (argument_text n) p.arguments) + length (fork_text n p) + length (indent n) →
    part ≡ least (thread_breaches known bound (known.heads p.structure) first n handed p) →
    sized ≡ least (unless (bytes_eq p.size p.structure) size) →
    started ≡ least (unless (bytes_eq p.starter p.structure) starter) →
    other ≡ least (call_breaches known.heads bound kind.Void call p.other p.others) →
    earlier (earlier (earlier part sized) started) other ≡ least (par_breaches known bound n at p)
par_is known bound n at p first size handed starter call part sized started other e1 e2 e3 e4 e5 h1 h2 h3 h4 =
    let A = thread_breaches known bound (known.heads p.structure) (at + length (indent n) + 7) n (at + length (made_text n p)) p in
    let B = unless (bytes_eq p.size p.structure) (at + length (indent n) + 7 + length (arguments_name p.structure) + 19) in
    let C = unless (bytes_eq p.starter p.structure) (at + length (made_text n p) + length (flat_map (argument_text n) p.arguments) + length (indent n) + 18) in
    let D = call_breaches known.heads bound kind.Void (at + length (made_text n p) + length (flat_map (argument_text n) p.arguments) + length (fork_text n p) + length (indent n)) p.other p.others in
    let a : part ≡ least A = h1 ∙ cc (e1, e3) in
    let b : sized ≡ least B = h2 ∙ ap (λ k. least (unless (bytes_eq p.size p.structure) k)) e2 in
    let d : started ≡ least C = h3 ∙ ap (λ k. least (unless (bytes_eq p.starter p.structure) k)) e4 in
    let e : other ≡ least D = h4 ∙ ap (λ k. least (call_breaches known.heads bound kind.Void k p.other p.others)) e5 in
    let s1 = least_append A B in
    let s2 = least_append (A ++ B) C in
    let s3 = least_append (A ++ B ++ C) D in
    cc (a, b, d, e, s1, s2, s3)

-- a `par` is its lines between two braces
pub par_length : (n : ℕ) (p : ParLines) → length (par_text n p) ≡ length (indent n) + 2 + length (par_lines (n + 1) p) + length (indent n) + 2
par_length n p =
    let A = made_text (n + 1) p in
    let B = flat_map (argument_text (n + 1)) p.arguments in
    let C = fork_text (n + 1) p in
    let D = statement (n + 1) (call_text p.other p.others ∷ []) in
    let E = statement (n + 1) (codes "p_join(t)" ∷ []) in
    let F = line n (codes "}" ∷ []) in
    let f = length-append (indent n) (codes "}\n") in
    let e = length-append E F in
    let d = length-append D (E ++ F) in
    let c = length-append C (D ++ (E ++ F)) in
    let b = length-append B (C ++ (D ++ (E ++ F))) in
    let a = length-append A (B ++ (C ++ (D ++ (E ++ F)))) in
    let o = length-append (line n (codes "{" ∷ [])) (A ++ (B ++ (C ++ (D ++ (E ++ F))))) in
    let i = length-append (indent n) (codes "{\n") in
    let d' = length-append D E in
    let c' = length-append C (D ++ E) in
    let b' = length-append B (C ++ (D ++ E)) in
    let a' = length-append A (B ++ (C ++ (D ++ E))) in
    omega arith
