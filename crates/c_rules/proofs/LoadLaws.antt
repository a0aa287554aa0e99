-- Laws of the loads in the head of a loop.
use Rattle.std.proofs.Common.{◌≡◌, ◌∙◌, sym, ap, ℕ, ◌+◌, Option, List, ◌∷◌, ◌++◌, length, flat_map, arith}
use Rattle.std.specs.Prelude.{codes}
use Rattle.std.proofs.lemmas.List.{length-append}
use Rattle.c_syntax.specs.Rules.{Scope}
use Rattle.c_syntax.specs.Text.{indent, type_text}
use Rattle.c_forms.specs.Tree as w
use Rattle.c_forms.specs.Tree.{LoadLine}
use Rattle.c_forms.specs.Text.{cell_text, local_text, load_text}
use Rattle.c_rules.specs.Least.{earlier, least}
use Rattle.c_rules.specs.Lines.{Known, bind, bind_breaches, bind_loads, loads_breaches}
use Rattle.c_rules.proofs.Leasts.{least_append, earlier_assoc}

load_length : (n : ℕ) (l : LoadLine) → length (load_text n l) ≡ length (indent n) + length (type_text l.kind ++ (local_text l.local ++ (codes " = " ++ cell_text l.cell))) + 2
load_length n l =
    let T = type_text l.kind in
    let L = local_text l.local in
    let C = cell_text l.cell in
    let a = length-append (indent n) (T ++ (L ++ (codes " = " ++ (C ++ codes ";\n")))) in
    let b = length-append T (L ++ (codes " = " ++ (C ++ codes ";\n"))) in
    let d = length-append L (codes " = " ++ (C ++ codes ";\n")) in
    let e = length-append C (codes ";\n") in
    let f = length-append T (L ++ (codes " = " ++ C)) in
    let g = length-append L (codes " = " ++ C) in
    omega arith

-- where a line ends
pub load_end : (n here begin end : ℕ) (l : LoadLine) → begin ≡ here + length (indent n) → end ≡ begin + length (type_text l.kind ++ (local_text l.local ++ (codes " = " ++ cell_text l.cell))) →
    end + 2 ≡ here + length (load_text n l)
load_end n here begin end l b e = let h = load_length n l in omega arith

-- a step over loads
pub loads_end : (n : ℕ) (l : LoadLine) (ls all : List LoadLine) (here behind total : ℕ) → all ≡ l ∷ ls → behind ≡ here + length (load_text n l) →
    here + length (flat_map (load_text n) all) ≡ total → behind + length (flat_map (load_text n) ls) ≡ total
loads_end n l ls all here behind total p b t =
    let s : length (flat_map (load_text n) all) ≡ length (load_text n l) + length (flat_map (load_text n) ls) =
    ap (λ xs. length (flat_map (load_text n) xs)) p ∙ length-append (load_text n l) (flat_map (load_text n) ls) in
    omega arith

pub loads_least : (known : Known) (scope after : Scope) (n : ℕ) (l : LoadLine) (ls all : List LoadLine) (here behind begin : ℕ) (part next total : Option ℕ) →
    all ≡ l ∷ ls → behind ≡ here + length (load_text n l) → begin ≡ here + length (indent n) → after ≡ bind scope l.local.name l.kind →
    next ≡ least (bind_breaches known scope begin l.kind l.local (w.Load l.cell)) →
    earlier part (least (loads_breaches known scope n here all)) ≡ total →
    earlier (earlier part next) (least (loads_breaches known after n behind ls)) ≡ total
loads_least known scope after n l ls all here behind begin part next total p b g a e t =
    let one = bind_breaches known scope (here + length (indent n)) l.kind l.local (w.Load l.cell) in
    let rest = loads_breaches known (bind scope l.local.name l.kind) n (here + length (load_text n l)) ls in
    let whole : least (loads_breaches known scope n here all) ≡ earlier (least one) (least rest) = ap (λ xs. least (loads_breaches known scope n here xs)) p ∙ least_append one rest in
    let first : next ≡ least one = e ∙ ap (λ k. least (bind_breaches known scope k l.kind l.local (w.Load l.cell))) g in
    let others : least (loads_breaches known after n behind ls) ≡ least rest = ap (λ s. least (loads_breaches known s n behind ls)) a ∙ ap (λ k. least (loads_breaches known (bind scope l.local.name l.kind) n k ls)) b in
    earlier_assoc part next (least (loads_breaches known after n behind ls))
    ∙ ap (earlier part) (ap (earlier next) others ∙ ap (λ r. earlier r (least rest)) first ∙ sym whole)
    ∙ t

pub loads_scope : (scope after total : Scope) (l : LoadLine) (ls all : List LoadLine) → all ≡ l ∷ ls → after ≡ bind scope l.local.name l.kind → bind_loads scope all ≡ total → bind_loads after ls ≡ total
loads_scope scope after total l ls all p a t = ap (λ s. bind_loads s ls) a ∙ sym (ap (bind_loads scope) p) ∙ t
