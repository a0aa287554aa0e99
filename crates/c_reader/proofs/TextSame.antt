-- The text of what is written in a program's text is the program's text.
use Rattle.std.proofs.Common.{◌≡◌, ◌∙◌, sym, ap, refl, ℕ, ◌+◌, List, [], ◌∷◌, ◌++◌, map, filter, arith}
use Rattle.std.specs.Prelude.{codes, flat_map}
use Rattle.std.specs.List.{AllByRecursion}
use Rattle.std.proofs.lemmas.Fmt.{decimal_digit}
use Rattle.c_syntax.specs.declared.program.CParam.{CParam}
use Rattle.c_syntax.specs.declared.program.CStruct.{CStruct}
use Rattle.c_syntax.specs.Forms.{IsFunForm, IsProgramForm}
use Rattle.c_syntax.specs.PreludeText.{prelude}
use Rattle.c_syntax.specs.Text.{commas, is_started, joined, line, main_text, member_name, program_text, statement, struct_name, type_text}
use Rattle.c_syntax.specs.Text as text
use Rattle.c_syntax.specs.Tree as t
use Rattle.c_forms.specs.Text.{source_text}
use Rattle.c_forms.specs.Text as written_text
use Rattle.c_reader.proofs.TextParts.{both, stmts_same}
use Rattle.c_reader.proofs.Written as written

-- texts in a row, each the same as another
rows_same : {A B : Type 0} (way : A → B) (f : B → List ℕ) (g : A → List ℕ) → ((x : A) → f (way x) ≡ g x) → (xs : List A) → flat_map f (map way xs) ≡ flat_map g xs
rows_same way f g h [] = refl
rows_same way f g h (x ∷ xs) = both (h x) (rows_same way f g h xs)

-- ---- structures and heads

struct_same : (s : CStruct) → written_text.struct_text (written.struct s) ≡ text.struct_text s
struct_same s =
    ap (λ (x : List ℕ). joined (line 0 (struct_name s.name ∷ codes " {" ∷ []) ∷ x ∷ []) (line 0 (codes "};" ∷ [])))
    (rows_same written.member (λ m. statement 1 (type_text m.kind ∷ member_name m.name ∷ [])) (λ m. statement 1 (type_text m.kind ∷ member_name m.name ∷ [])) (λ m. refl) s.members)

params_same : (ps : List CParam) → written_text.params_text (map written.param ps) ≡ text.params_text ps
params_same [] = refl
params_same (p ∷ ps) = ap (λ (xs : List (List ℕ)). commas ((type_text p.kind ++ text.local_text p.local) ∷ xs)) (each ps)
  where
    each : (ps : List CParam) → map written_text.param_text (map written.param ps) ≡ map (λ q. type_text q.kind ++ text.local_text q.local) ps
    each [] = refl
    each (p ∷ ps) = ap (λ (xs : List (List ℕ)). (type_text p.kind ++ text.local_text p.local) ∷ xs) (each ps)

head_same : (f : t.Fun) → written_text.head_text (written.head f) ≡ text.head_text f
head_same f = ap (λ (x : List ℕ). joined (codes "static " ∷ type_text f.result ∷ text.function_name f.name ∷ codes "(" ∷ x ∷ []) (codes ")")) (params_same f.params)

prototype_same : (f : t.Fun) → written_text.prototype_text (written.head f) ≡ text.prototype_text f
prototype_same f = ap (λ (x : List ℕ). statement 0 (x ∷ [])) (head_same f)

fun_same : (f : t.Fun) → IsFunForm f → written_text.fun_text (written.fun f) ≡ text.fun_text f
fun_same f h =
    ap (λ (x : List ℕ). joined (line 0 (x ∷ codes " {" ∷ []) ∷ written_text.stmts_text 1 (written.stmts f.body) ∷ []) (line 0 (codes "}" ∷ []))) (head_same f)
    ∙ ap (λ (x : List ℕ). joined (line 0 (text.head_text f ∷ codes " {" ∷ []) ∷ x ∷ []) (line 0 (codes "}" ∷ []))) (stmts_same 1 f.body h.body)

funs_same : (fs : List t.Fun) → AllByRecursion IsFunForm fs → flat_map written_text.fun_text (map written.fun fs) ≡ flat_map text.fun_text fs
funs_same [] h = refl
funs_same (f ∷ fs) h = both (fun_same f h.0) (funs_same fs h.1)

-- ---- threads

slots_same : (k : ℕ) (ps : List CParam) →
    flat_map (λ m. statement 1 (type_text m.kind ∷ written_text.slot_name m.number ∷ [])) (written.slots k ps) ≡ text.argument_members k ps
slots_same k [] = refl
slots_same k (p ∷ ps) = ap (λ (x : List ℕ). statement 1 (type_text p.kind ∷ text.argument_name k ∷ []) ++ x) (slots_same (k + 1) ps)

numbers_same : (k : ℕ) (ps : List CParam) → map (λ n. codes "c." ++ written_text.slot_name n) (written.numbers k ps) ≡ text.handed_arguments k ps
numbers_same k [] = refl
numbers_same k (p ∷ ps) = ap (λ (xs : List (List ℕ)). (codes "c." ++ text.argument_name k) ∷ xs) (numbers_same (k + 1) ps)

arguments_struct_same : (f : t.Fun) → written_text.arguments_struct (written.starter f) ≡ text.arguments_struct f
arguments_struct_same f =
    ap (λ (x : List ℕ). joined (line 0 (text.arguments_name f.name ∷ codes " {" ∷ []) ∷ statement 1 (codes "char a_0" ∷ []) ∷ x ∷ []) (line 0 (codes "};" ∷ []))) (slots_same 1 f.params)
    ∙ ap (λ (d : List ℕ). joined (line 0 (text.arguments_name f.name ∷ codes " {" ∷ []) ∷ statement 1 (codes "char " ∷ (codes "a_" ++ d) ∷ []) ∷ text.argument_members 1 f.params ∷ []) (line 0 (codes "};" ∷ [])))
    (sym (decimal_digit 0 (omega arith)))

starter_function_same : (f : t.Fun) → written_text.starter_function (written.starter f) ≡ text.starter f
starter_function_same f =
    ap (λ (xs : List (List ℕ)).
    joined (
    line 0 (codes "static int " ∷ text.starter_name f.name ∷ codes "(void *p) {" ∷ []) ∷
    statement 1 (text.arguments_name f.name ∷ codes " *q = p" ∷ []) ∷
    statement 1 (text.arguments_name f.name ∷ codes " c = *q" ∷ []) ∷
    statement 1 (codes "free(q)" ∷ []) ∷
    statement 1 (text.function_name f.name ∷ codes "(" ∷ commas xs ∷ codes ")" ∷ []) ∷
    statement 1 (codes "return 0" ∷ []) ∷ [])
    (line 0 (codes "}" ∷ [])))
    (numbers_same 1 f.params)

starter_same : (f : t.Fun) → written_text.starter_text (written.starter f) ≡ text.starter_text f
starter_same f = both (arguments_struct_same f) (starter_function_same f)

-- ---- the whole text

-- a text of these groups
groups : List ℕ → List ℕ → List ℕ → List ℕ → List ℕ
groups structs prototypes starters funs = joined (prelude ∷ structs ∷ prototypes ∷ starters ∷ funs ∷ []) main_text

groups_same : {a a' b b' c c' d d' : List ℕ} → a ≡ a' → b ≡ b' → c ≡ c' → d ≡ d' → groups a b c d ≡ groups a' b' c' d'
groups_same {a' = a'} {b = b} {b' = b'} {c = c} {c' = c'} {d = d} h k l m =
    ap (λ (x : List ℕ). groups x b c d) h ∙ ap (λ (x : List ℕ). groups a' x c d) k ∙ ap (λ (x : List ℕ). groups a' b' x d) l ∙ ap (λ (x : List ℕ). groups a' b' c' x) m

-- what is written in a program's text has that text
pub text_same : (p : t.Program) → IsProgramForm p → source_text (written.source p) ≡ program_text p
unfolding groups source_text program_text
text_same p h =
    groups_same (rows_same written.struct written_text.struct_text text.struct_text struct_same p.structs)
    (rows_same written.head written_text.prototype_text text.prototype_text prototype_same p.funs)
    (rows_same written.starter written_text.starter_text text.starter_text starter_same (filter (is_started p.funs) p.funs)) (funs_same p.funs h.funs)
