-- How long a whole text is.
use Rattle.std.proofs.Common.{◌≡◌, ◌∙◌, ap, refl, ℕ, ◌+◌, ◌++◌, length, flat_map, arith}
use Rattle.std.proofs.lemmas.List.{length-append}
use Rattle.c_syntax.specs.PreludeText.{prelude}
use Rattle.c_syntax.specs.Text.{main_text}
use Rattle.c_forms.specs.Tree.{Source}
use Rattle.c_forms.specs.Text.{source_text, struct_text, prototype_text, starter_text, fun_text}

main_length : length main_text ≡ 43
main_length = refl

whole_text : (s : Source) → source_text s
    ≡ prelude ++ (flat_map struct_text s.structs ++ (flat_map prototype_text s.prototypes ++ (flat_map starter_text s.starters ++ (flat_map fun_text s.funs ++ main_text))))
unfolding source_text
whole_text s = refl

pub source_length : (s : Source) → length (source_text s)
    ≡ length prelude + length (flat_map struct_text s.structs) + length (flat_map prototype_text s.prototypes) + length (flat_map starter_text s.starters)
    + length (flat_map fun_text s.funs) + 43
source_length s =
    let A = flat_map struct_text s.structs in
    let B = flat_map prototype_text s.prototypes in
    let C = flat_map starter_text s.starters in
    let D = flat_map fun_text s.funs in
    let d = length-append D main_text in
    let c = length-append C (D ++ main_text) in
    let b = length-append B (C ++ (D ++ main_text)) in
    let a = length-append A (B ++ (C ++ (D ++ main_text))) in
    let p = length-append prelude (A ++ (B ++ (C ++ (D ++ main_text)))) in
    let whole = ap length (whole_text s) in
    let m = main_length in
    omega arith
