-- A whole text is read right.
use Rattle.std.proofs.Common.{◌≡◌, ◌⊎◌, inl, inr, ℕ, zero, suc, Bool, true, false, List, [], ◌∷◌, ◌++◌, map, flat_map, refl, sym, ap, subst, ◌∙◌, append_assoc}
use Rattle.std.specs.Prelude.{◌&&◌, codes}
use Rattle.std.specs.List.{AllByRecursion}
use Rattle.std.proofs.lemmas.List.{append-nil}
use Rattle.c_syntax.specs.PreludeText.{prelude}
use Rattle.c_syntax.specs.Text.{mangled_name, commas, main_text}
use Rattle.pl_readers.specs.Language.{Language, HasText}
use Rattle.pl_readers.specs.Reads.{never}
use Rattle.c_forms.specs.declared.source.Struct.{Struct}
use Rattle.c_forms.specs.declared.source.Head.{Head}
use Rattle.c_forms.specs.declared.source.Starter.{Starter}
use Rattle.c_forms.specs.Reading.{Step, on, done, until}
use Rattle.c_forms.specs.Text.{struct_text, prototype_text, starter_text, fun_text, source_text}
use Rattle.c_forms.specs.Forms.{IsStructForm, IsHeadForm, IsStarterForm, IsFunForm, IsForm}
use Rattle.c_forms.specs.Tree.{Stmt, Stmts, Fun, Source}
use Rattle.c_forms.specs.Plain.{chain}
use Rattle.c_forms.specs.SourceReaders.{none_yet, may_struct, may_prototype, may_starter, with_struct, with_prototype, with_starter, with_fun, source_step, empty, source}
use Rattle.c_forms.proofs.StmtReads.{unchain, chain_of, all_there, all_back, block_text}
use Rattle.c_forms.proofs.SourceReads.{Declared, member_text, struct_end, head_end, body_text, slot_text, handed_text, starter_end, SourceSteps, good_source_step, source_some}
use Rattle.c_forms.proofs.Shapes.{RunOf, Run, good_until}
use Rattle.c_forms.proofs.Spelling.{Spells, Good, same, lit}

-- ---- the texts of declarations, in two spellings

struct_is : (s : Struct) → codes "struct s_" ++ struct_end s ≡ struct_text s
struct_is s = ap (λ (z : List ℕ). codes "struct s_" ++ z) (sym (append_assoc (mangled_name s.name) (codes " {\n") (flat_map member_text s.members ++ codes "};\n")))

prototype_is : (h : Head) → codes "static " ++ (head_end h ++ codes ";\n") ≡ prototype_text h
prototype_is h = refl

fun_group : (h b : List ℕ) → h ++ (codes " {\n" ++ b) ≡ (h ++ codes " {\n") ++ b
fun_group h b = sym (append_assoc h (codes " {\n") b)

fun_is : (h : Head) (ss : List Stmt) → codes "static " ++ (head_end h ++ body_text ss) ≡ fun_text (record { head = h; body = chain ss })
fun_is h ss = fun_group (codes "static " ++ head_end h) (block_text 0 (codes "}\n") ss)

call_group : (f cm : List ℕ) → f ++ (codes "(" ++ ((cm ++ codes ")") ++ codes ";\n  return 0;\n}\n")) ≡ (f ++ (codes "(" ++ (cm ++ codes ");\n"))) ++ codes "  return 0;\n}\n"
call_group f cm =
    ap (λ (z : List ℕ). f ++ (codes "(" ++ z)) (append_assoc cm (codes ")") (codes ";\n  return 0;\n}\n") ∙ sym (append_assoc cm (codes ");\n") (codes "  return 0;\n}\n")))
    ∙ sym (append_assoc f (codes "(" ++ (cm ++ codes ");\n")) (codes "  return 0;\n}\n"))

copies_group : (p c z : List ℕ) → (p ++ (codes " *q = p;\n  struct a_" ++ (c ++ codes " c = *q;\n  free(q);\n"))) ++ z ≡ (p ++ codes " *q = p;\n") ++ (codes "  struct a_" ++ ((c ++ codes " c = *q;\n") ++ (codes "  free(q);\n" ++ z)))
copies_group p c z =
    append_assoc p (codes " *q = p;\n  struct a_" ++ (c ++ codes " c = *q;\n  free(q);\n")) z
    ∙ ap (λ (v : List ℕ). p ++ (codes " *q = p;\n  struct a_" ++ v)) (append_assoc c (codes " c = *q;\n  free(q);\n") z ∙ sym (append_assoc c (codes " c = *q;\n") (codes "  free(q);\n" ++ z)))
    ∙ sym (append_assoc p (codes " *q = p;\n") (codes "  struct a_" ++ ((c ++ codes " c = *q;\n") ++ (codes "  free(q);\n" ++ z))))

starter_is : (s : Starter) → codes "struct " ++ starter_end s ≡ starter_text s
starter_is s =
    ap (λ (z : List ℕ). codes "struct a_" ++ (z ++ (codes "static int t_" ++ (mangled_name s.name ++ (codes "(void *p) {\n  struct a_" ++ (copied ++ called))))))
    (sym (append_assoc (mangled_name s.structure) (codes " {\n") (codes "  char a_0;\n" ++ (flat_map slot_text s.slots ++ codes "};\n"))))
    ∙ ap (λ (z : List ℕ). front ++ (codes "static int t_" ++ z)) (sym (append_assoc (mangled_name s.name) (codes "(void *p) {\n") (codes "  struct a_" ++ (copied ++ called))))
    ∙ ap (λ (z : List ℕ). front ++ (codes "static int t_" ++ ((mangled_name s.name ++ codes "(void *p) {\n") ++ (codes "  struct a_" ++ z)))) (copies_group (mangled_name s.pointer) (mangled_name s.copy) called)
    ∙ ap (λ (z : List ℕ). front ++ (codes "static int t_" ++ ((mangled_name s.name ++ codes "(void *p) {\n") ++ (codes "  struct a_" ++ ((mangled_name s.pointer ++ codes " *q = p;\n") ++ (codes "  struct a_" ++ ((mangled_name s.copy ++ codes " c = *q;\n") ++ (codes "  free(q);\n" ++ (codes "  f_" ++ z)))))))))
    (call_group (mangled_name s.function) (commas (map handed_text s.arguments)))
  where
    called : List ℕ
    called = codes "  f_" ++ (mangled_name s.function ++ (codes "(" ++ ((commas (map handed_text s.arguments) ++ codes ")") ++ codes ";\n  return 0;\n}\n")))

    copied : List ℕ
    copied = mangled_name s.pointer ++ (codes " *q = p;\n  struct a_" ++ (mangled_name s.copy ++ codes " c = *q;\n  free(q);\n"))

    front : List ℕ
    front = codes "struct a_" ++ ((mangled_name s.structure ++ codes " {\n") ++ (codes "  char a_0;\n" ++ (flat_map slot_text s.slots ++ codes "};\n")))

-- ---- what comes behind a state

abbrev made : List Struct → List Head → List Starter → List Fun → Source
made a b c d = record { structs = a; prototypes = b; starters = c; funs = d }

abbrev lists_text : List Struct → List Head → List Starter → List Fun → List ℕ
lists_text a b c d = flat_map struct_text a ++ (flat_map prototype_text b ++ (flat_map starter_text c ++ (flat_map fun_text d ++ main_text)))

-- what is put behind a state, and its text
record Rest (s b : Source) (text : List ℕ) : Type 0 where
  structs : List Struct
  prototypes : List Head
  starters : List Starter
  funs : List Fun
  whole : b ≡ made (s.structs ++ structs) (s.prototypes ++ prototypes) (s.starters ++ starters) (s.funs ++ funs)
  struct_forms : AllByRecursion IsStructForm structs
  head_forms : AllByRecursion IsHeadForm prototypes
  starter_forms : AllByRecursion IsStarterForm starters
  fun_forms : AllByRecursion IsFunForm funs
  some_structs : (may_struct s ≡ true) ⊎ (structs ≡ [])
  some_prototypes : (may_prototype s ≡ true) ⊎ (prototypes ≡ [])
  some_starters : (may_starter s ≡ true) ⊎ (starters ≡ [])
  spelled : text ≡ lists_text structs prototypes starters funs

not_none : {A : Type 0} (xs : List A) (x : A) → none_yet (xs ++ x ∷ []) ≡ false
not_none [] x = refl
not_none (y ∷ ys) x = refl

false_behind : (a b : Bool) → b ≡ false → (a && b) ≡ false
false_behind true b e = e
false_behind false b e = refl

false_before : (a b : Bool) → a ≡ false → (a && b) ≡ false
false_before true b e = absurd cc
false_before false b e = refl

none_of : {A : Type 0} (may : Bool) (l : List A) → (may ≡ true) ⊎ (l ≡ []) → may ≡ false → l ≡ []
none_of may l (inl e) h = let k : true ≡ false = sym e ∙ h in absurd cc
none_of may l (inr e) h = e

nothing_behind : (s : Source) → s ≡ made (s.structs ++ []) (s.prototypes ++ []) (s.starters ++ []) (s.funs ++ [])
nothing_behind s =
    ap (λ (z : List Struct). made z s.prototypes s.starters s.funs) (sym (append-nil s.structs))
    ∙ ap (λ (z : List Head). made (s.structs ++ []) z s.starters s.funs) (sym (append-nil s.prototypes))
    ∙ ap (λ (z : List Starter). made (s.structs ++ []) (s.prototypes ++ []) z s.funs) (sym (append-nil s.starters))
    ∙ ap (λ (z : List Fun). made (s.structs ++ []) (s.prototypes ++ []) (s.starters ++ []) z) (sym (append-nil s.funs))

rest_none : (s b : Source) (text : List ℕ) → b ≡ s → text ≡ main_text → Rest s b text
rest_none s b text e h = record {
  structs = [];
  prototypes = [];
  starters = [];
  funs = [];
  whole = e ∙ nothing_behind s;
  struct_forms = tt;
  head_forms = tt;
  starter_forms = tt;
  fun_forms = tt;
  some_structs = inr refl;
  some_prototypes = inr refl;
  some_starters = inr refl;
  spelled = h;
}

rest_struct : (s b : Source) (x : Struct) (back : List ℕ) → IsStructForm x → may_struct s ≡ true → Rest (with_struct s x) b back → Rest s b (struct_text x ++ back)
rest_struct s b x back w m i = record {
  structs = x ∷ i.structs;
  prototypes = i.prototypes;
  starters = i.starters;
  funs = i.funs;
  whole = i.whole ∙ ap (λ (z : List Struct). made z (s.prototypes ++ i.prototypes) (s.starters ++ i.starters) (s.funs ++ i.funs)) (append_assoc s.structs (x ∷ []) i.structs);
  struct_forms = (w, i.struct_forms);
  head_forms = i.head_forms;
  starter_forms = i.starter_forms;
  fun_forms = i.fun_forms;
  some_structs = inl m;
  some_prototypes = i.some_prototypes;
  some_starters = i.some_starters;
  spelled = ap (λ (z : List ℕ). struct_text x ++ z) i.spelled ∙ sym (append_assoc (struct_text x) (flat_map struct_text i.structs) _);
}

rest_prototype : (s b : Source) (h : Head) (back : List ℕ) → IsHeadForm h → may_prototype s ≡ true → Rest (with_prototype s h) b back → Rest s b (prototype_text h ++ back)
rest_prototype s b h back w m i = record {
  structs = [];
  prototypes = h ∷ i.prototypes;
  starters = i.starters;
  funs = i.funs;
  whole = i.whole
      ∙ ap (λ (z : List Struct). made (s.structs ++ z) ((s.prototypes ++ h ∷ []) ++ i.prototypes) (s.starters ++ i.starters) (s.funs ++ i.funs)) none
      ∙ ap (λ (z : List Head). made (s.structs ++ []) z (s.starters ++ i.starters) (s.funs ++ i.funs)) (append_assoc s.prototypes (h ∷ []) i.prototypes);
  struct_forms = tt;
  head_forms = (w, i.head_forms);
  starter_forms = i.starter_forms;
  fun_forms = i.fun_forms;
  some_structs = inr refl;
  some_prototypes = inl m;
  some_starters = i.some_starters;
  spelled = ap (λ (z : List ℕ). prototype_text h ++ z) (i.spelled ∙ ap (λ (z : List Struct). lists_text z i.prototypes i.starters i.funs) none)
      ∙ sym (append_assoc (prototype_text h) (flat_map prototype_text i.prototypes) _);
}
  where
    none : i.structs ≡ []
    none = none_of (may_struct (with_prototype s h)) i.structs i.some_structs (false_before (none_yet (s.prototypes ++ h ∷ [])) _ (not_none s.prototypes h))

rest_starter : (s b : Source) (x : Starter) (back : List ℕ) → IsStarterForm x → may_starter s ≡ true → Rest (with_starter s x) b back → Rest s b (starter_text x ++ back)
rest_starter s b x back w m i = record {
  structs = [];
  prototypes = [];
  starters = x ∷ i.starters;
  funs = i.funs;
  whole = i.whole
      ∙ ap (λ (z : List Struct). made (s.structs ++ z) (s.prototypes ++ i.prototypes) ((s.starters ++ x ∷ []) ++ i.starters) (s.funs ++ i.funs)) none
      ∙ ap (λ (z : List Head). made (s.structs ++ []) (s.prototypes ++ z) ((s.starters ++ x ∷ []) ++ i.starters) (s.funs ++ i.funs)) none_either
      ∙ ap (λ (z : List Starter). made (s.structs ++ []) (s.prototypes ++ []) z (s.funs ++ i.funs)) (append_assoc s.starters (x ∷ []) i.starters);
  struct_forms = tt;
  head_forms = tt;
  starter_forms = (w, i.starter_forms);
  fun_forms = i.fun_forms;
  some_structs = inr refl;
  some_prototypes = inr refl;
  some_starters = inl m;
  spelled = ap (λ (z : List ℕ). starter_text x ++ z) (i.spelled ∙ ap (λ (z : List Struct). lists_text z i.prototypes i.starters i.funs) none ∙ ap (λ (z : List Head). lists_text [] z i.starters i.funs) none_either)
      ∙ sym (append_assoc (starter_text x) (flat_map starter_text i.starters) _);
}
  where
    no_more : may_prototype (with_starter s x) ≡ false
    no_more = false_before (none_yet (s.starters ++ x ∷ [])) _ (not_none s.starters x)

    none : i.structs ≡ []
    none = none_of (may_struct (with_starter s x)) i.structs i.some_structs (false_behind (none_yet s.prototypes) _ no_more)

    none_either : i.prototypes ≡ []
    none_either = none_of (may_prototype (with_starter s x)) i.prototypes i.some_prototypes no_more

rest_fun : (s b : Source) (f : Fun) (back : List ℕ) → IsFunForm f → Rest (with_fun s f) b back → Rest s b (fun_text f ++ back)
rest_fun s b f back w i = record {
  structs = [];
  prototypes = [];
  starters = [];
  funs = f ∷ i.funs;
  whole = i.whole
      ∙ ap (λ (z : List Struct). made (s.structs ++ z) (s.prototypes ++ i.prototypes) (s.starters ++ i.starters) ((s.funs ++ f ∷ []) ++ i.funs)) none
      ∙ ap (λ (z : List Head). made (s.structs ++ []) (s.prototypes ++ z) (s.starters ++ i.starters) ((s.funs ++ f ∷ []) ++ i.funs)) none_either
      ∙ ap (λ (z : List Starter). made (s.structs ++ []) (s.prototypes ++ []) (s.starters ++ z) ((s.funs ++ f ∷ []) ++ i.funs)) none_again
      ∙ ap (λ (z : List Fun). made (s.structs ++ []) (s.prototypes ++ []) (s.starters ++ []) z) (append_assoc s.funs (f ∷ []) i.funs);
  struct_forms = tt;
  head_forms = tt;
  starter_forms = tt;
  fun_forms = (w, i.fun_forms);
  some_structs = inr refl;
  some_prototypes = inr refl;
  some_starters = inr refl;
  spelled = ap (λ (z : List ℕ). fun_text f ++ z) (i.spelled ∙ ap (λ (z : List Struct). lists_text z i.prototypes i.starters i.funs) none ∙ ap (λ (z : List Head). lists_text [] z i.starters i.funs) none_either ∙ ap (λ (z : List Starter). lists_text [] [] z i.funs) none_again)
      ∙ sym (append_assoc (fun_text f) (flat_map fun_text i.funs) _);
}
  where
    no_starter : may_starter (with_fun s f) ≡ false
    no_starter = not_none s.funs f

    no_more : may_prototype (with_fun s f) ≡ false
    no_more = false_behind (none_yet s.starters) _ no_starter

    none : i.structs ≡ []
    none = none_of (may_struct (with_fun s f)) i.structs i.some_structs (false_behind (none_yet s.prototypes) _ no_more)

    none_either : i.prototypes ≡ []
    none_either = none_of (may_prototype (with_fun s f)) i.prototypes i.some_prototypes no_more

    none_again : i.starters ≡ []
    none_again = none_of (may_starter (with_fun s f)) i.starters i.some_starters no_starter

-- ---- from steps to what comes behind

abbrev RunsOf : ℕ → Source → Language ℕ Source
RunsOf = RunOf SourceSteps source_step good_source_step source_some

abbrev Runs : Source → Language ℕ Source
Runs = Run SourceSteps source_step good_source_step source_some

abbrev on_source : Source → Step Source Source
on_source s = on s

abbrev done_source : Source → Step Source Source
done_source s = done s

on_same : (x y : Source) → on_source x ≡ on_source y → x ≡ y
on_same x y e = ap (λ (z : Step Source Source). elim z [ on v ↦ v | done v ↦ v ]) e

done_same : (x y : Source) → done_source x ≡ done_source y → x ≡ y
done_same x y e = ap (λ (z : Step Source Source). elim z [ on v ↦ v | done v ↦ v ]) e

not_both : (x y : Source) → on_source x ≡ done_source y → ⊥
not_both x y e = absurd cc

retext : (s b : Source) (x y : List ℕ) → x ≡ y → Rest s b y → Rest s b x
retext s b x y e i = subst (Rest s b) (sym e) i

declared_there : (s z b : Source) (front back : List ℕ) → Declared s z front → Rest z b back → Rest s b (front ++ back)
declared_there s z b front back (b1, inl (may, (b2, inl (ms, (x, w, r)), k2)), k1) i =
    retext s b (front ++ back) (struct_text x ++ back) (ap (λ (v : List ℕ). v ++ back) (k1 ∙ ap (λ (v : List ℕ). codes "st" ++ v) k2 ∙ ap (λ (v : List ℕ). codes "struct " ++ v) w.1 ∙ struct_is x))
    (rest_struct s b x back w.0 ms (subst (λ (v : Source). Rest v b back) r i))
declared_there s z b front back (b1, inl (may, (b2, inr (x, w, r), k2)), k1) i =
    retext s b (front ++ back) (starter_text x ++ back) (ap (λ (v : List ℕ). v ++ back) (k1 ∙ ap (λ (v : List ℕ). codes "st" ++ v) k2 ∙ ap (λ (v : List ℕ). codes "struct " ++ v) w.1 ∙ starter_is x))
    (rest_starter s b x back w.0 may (subst (λ (v : Source). Rest v b back) r i))
declared_there s z b front back (b1, inr (b2, (h, hf, hb, w, inl (mp, u), k3), k2), k1) i =
    retext s b (front ++ back) (prototype_text h ++ back)
    (ap (λ (v : List ℕ). v ++ back) (k1 ∙ ap (λ (v : List ℕ). codes "st" ++ v) k2 ∙ ap (λ (v : List ℕ). codes "static " ++ v) (k3 ∙ rw (w.1, u.1) refl) ∙ prototype_is h))
    (rest_prototype s b h back w.0 mp (subst (λ (v : Source). Rest v b back) u.0 i))
declared_there s z b front back (b1, inr (b2, (h, hf, hb, w, inr (ss, u, r), k3), k2), k1) i =
    retext s b (front ++ back) (fun_text (record { head = h; body = chain ss }) ++ back)
    (ap (λ (v : List ℕ). v ++ back) (k1 ∙ ap (λ (v : List ℕ). codes "st" ++ v) k2 ∙ ap (λ (v : List ℕ). codes "static " ++ v) (k3 ∙ rw (w.1, u.1) refl) ∙ fun_is h ss))
    (rest_fun s b (record { head = h; body = chain ss }) back (w.0, all_there 127 ss u.0) (subst (λ (v : Source). Rest v b back) r i))

rest_there : (k : ℕ) (s b : Source) (text : List ℕ) → RunsOf k s b text → Rest s b text
rest_there zero s b text u = absurd u
rest_there (suc k) s b text (inl (front, inl w, h)) = rest_none s b text (done_same b s w.0) (h ∙ w.1)
rest_there (suc k) s b text (inl (front, inr w, h)) = absurd (not_both w.0 b (sym w.2))
rest_there (suc k) s b text (inr (v, front, back, inl w, r, h)) = absurd (not_both v s w.0)
rest_there (suc k) s b text (inr (v, front, back, inr w, r, h)) =
    retext s b text (front ++ back) h (declared_there s v b front back (subst (λ (z : Source). Declared s z front) (sym (on_same v w.0 w.2)) w.1) (rest_there k v b back r))

-- ---- and back

run_on : (s v b : Source) (front back text : List ℕ) → Declared s v front → Runs v b back → text ≡ front ++ back → Runs s b text
run_on s v b front back text d r e = (suc r.0, inr (v, front, back, inr (v, d, refl), r.1, e))

run_end : (s : Source) → Runs s s main_text
run_end s = (suc zero, inl (main_text, inl (refl, refl), refl))

declares_struct : (s : Source) (x : Struct) → may_struct s ≡ true → may_starter s ≡ true → IsStructForm x → Declared s (with_struct s x) (struct_text x)
declares_struct s x m n w = (codes "ruct s_" ++ struct_end x, inl (n, (codes "s_" ++ struct_end x, inl (m, (x, (w, refl), refl)), refl)), sym (struct_is x))

declares_starter : (s : Source) (x : Starter) → may_starter s ≡ true → IsStarterForm x → Declared s (with_starter s x) (starter_text x)
declares_starter s x m w = (codes "ruct " ++ starter_end x, inl (m, (starter_end x, inr (x, (w, refl), refl), refl)), sym (starter_is x))

declares_prototype : (s : Source) (h : Head) → may_prototype s ≡ true → IsHeadForm h → Declared s (with_prototype s h) (prototype_text h)
declares_prototype s h m w = (codes "atic " ++ (head_end h ++ codes ";\n"), inr (head_end h ++ codes ";\n", (h, head_end h, codes ";\n", (w, refl), inl (m, (refl, refl)), refl), refl), refl)

declares_fun : (s : Source) (f : Fun) → IsFunForm f → Declared s (with_fun s f) (fun_text f)
declares_fun s f w =
    let h = f.head in
    let ss = unchain f.body in (
      codes "atic " ++ (head_end h ++ body_text ss),
      inr (head_end h ++ body_text ss, (h, head_end h, body_text ss, (w.0, refl), inr (ss, (all_back 127 f.body w.1, refl), ap (λ (z : Stmts). with_fun s (record { head = h; body = z })) (sym (chain_of f.body))), refl), refl),
      ap (λ (z : Stmts). fun_text (record { head = h; body = z })) (sym (chain_of f.body)) ∙ sym (fun_is h ss),
    )

run_funs : (d : List Fun) (s : Source) → AllByRecursion IsFunForm d → Runs s (made s.structs s.prototypes s.starters (s.funs ++ d)) (flat_map fun_text d ++ main_text)
run_funs [] s w = subst (λ (z : List Fun). Runs s (made s.structs s.prototypes s.starters z) main_text) (sym (append-nil s.funs)) (run_end s)
run_funs (f ∷ d) s w =
    run_on s (with_fun s f) _ (fun_text f) (flat_map fun_text d ++ main_text) _ (declares_fun s f w.0)
    (subst (λ (z : List Fun). Runs (with_fun s f) (made s.structs s.prototypes s.starters z) (flat_map fun_text d ++ main_text)) (append_assoc s.funs (f ∷ []) d) (run_funs d (with_fun s f) w.1))
    (append_assoc (fun_text f) (flat_map fun_text d) main_text)

run_starters : (c : List Starter) (d : List Fun) (s : Source) → may_starter s ≡ true → AllByRecursion IsStarterForm c → AllByRecursion IsFunForm d → Runs s (made s.structs s.prototypes (s.starters ++ c) (s.funs ++ d)) (flat_map starter_text c ++ (flat_map fun_text d ++ main_text))
run_starters [] d s m w v = subst (λ (z : List Starter). Runs s (made s.structs s.prototypes z (s.funs ++ d)) (flat_map fun_text d ++ main_text)) (sym (append-nil s.starters)) (run_funs d s v)
run_starters (x ∷ c) d s m w v =
    run_on s (with_starter s x) _ (starter_text x) (flat_map starter_text c ++ (flat_map fun_text d ++ main_text)) _ (declares_starter s x m w.0)
    (subst (λ (z : List Starter). Runs (with_starter s x) (made s.structs s.prototypes z (s.funs ++ d)) (flat_map starter_text c ++ (flat_map fun_text d ++ main_text))) (append_assoc s.starters (x ∷ []) c) (run_starters c d (with_starter s x) m w.1 v))
    (append_assoc (starter_text x) (flat_map starter_text c) (flat_map fun_text d ++ main_text))

later : (a b : Bool) → (a && b) ≡ true → b ≡ true
later true b e = e
later false b e = absurd cc

run_prototypes : (b : List Head) (c : List Starter) (d : List Fun) (s : Source) → may_prototype s ≡ true → AllByRecursion IsHeadForm b → AllByRecursion IsStarterForm c → AllByRecursion IsFunForm d
    → Runs s (made s.structs (s.prototypes ++ b) (s.starters ++ c) (s.funs ++ d)) (flat_map prototype_text b ++ (flat_map starter_text c ++ (flat_map fun_text d ++ main_text)))
run_prototypes [] c d s m u w v =
    subst (λ (z : List Head). Runs s (made s.structs z (s.starters ++ c) (s.funs ++ d)) (flat_map starter_text c ++ (flat_map fun_text d ++ main_text))) (sym (append-nil s.prototypes)) (run_starters c d s (later (none_yet s.starters) (none_yet s.funs) m) w v)
run_prototypes (h ∷ b) c d s m u w v =
    run_on s (with_prototype s h) _ (prototype_text h) (flat_map prototype_text b ++ (flat_map starter_text c ++ (flat_map fun_text d ++ main_text))) _ (declares_prototype s h m u.0)
    (subst (λ (z : List Head). Runs (with_prototype s h) (made s.structs z (s.starters ++ c) (s.funs ++ d)) (flat_map prototype_text b ++ (flat_map starter_text c ++ (flat_map fun_text d ++ main_text)))) (append_assoc s.prototypes (h ∷ []) b) (run_prototypes b c d (with_prototype s h) m u.1 w v))
    (append_assoc (prototype_text h) (flat_map prototype_text b) (flat_map starter_text c ++ (flat_map fun_text d ++ main_text)))

run_structs : (a : List Struct) (b : List Head) (c : List Starter) (d : List Fun) (s : Source) → may_struct s ≡ true → AllByRecursion IsStructForm a → AllByRecursion IsHeadForm b → AllByRecursion IsStarterForm c → AllByRecursion IsFunForm d
    → Runs s (made (s.structs ++ a) (s.prototypes ++ b) (s.starters ++ c) (s.funs ++ d)) (lists_text a b c d)
run_structs [] b c d s m k u w v =
    subst (λ (z : List Struct). Runs s (made z (s.prototypes ++ b) (s.starters ++ c) (s.funs ++ d)) (lists_text [] b c d)) (sym (append-nil s.structs)) (run_prototypes b c d s (later (none_yet s.prototypes) (may_prototype s) m) u w v)
run_structs (x ∷ a) b c d s m k u w v =
    run_on s (with_struct s x) _ (struct_text x) (lists_text a b c d) _ (declares_struct s x m (later (none_yet s.starters) (none_yet s.funs) (later (none_yet s.prototypes) (may_prototype s) m)) k.0)
    (subst (λ (z : List Struct). Runs (with_struct s x) (made z (s.prototypes ++ b) (s.starters ++ c) (s.funs ++ d)) (lists_text a b c d)) (append_assoc s.structs (x ∷ []) a) (run_structs a b c d (with_struct s x) m k.1 u w v))
    (append_assoc (struct_text x) (flat_map struct_text a) (flat_map prototype_text b ++ (flat_map starter_text c ++ (flat_map fun_text d ++ main_text))))

-- ---- the whole text

abbrev behind_prelude : Source → List ℕ
behind_prelude s = lists_text s.structs s.prototypes s.starters s.funs

whole_there : (b : Source) (text : List ℕ) → Runs empty b text → Spells IsForm behind_prelude b text
whole_there b text u =
    let i = rest_there u.0 empty b text u.1 in
    subst (λ (z : Source). Spells IsForm behind_prelude z text) (sym i.whole)
    (record { structs = i.struct_forms; prototypes = i.head_forms; starters = i.starter_forms; funs = i.fun_forms }, i.spelled)

whole_back : (b : Source) (text : List ℕ) → Spells IsForm behind_prelude b text → Runs empty b text
whole_back b text u = subst (Runs empty b) (sym u.1) (run_structs b.structs b.prototypes b.starters b.funs empty refl u.0.structs u.0.prototypes u.0.starters u.0.funs)

run_has_text : (s : Source) → HasText (Runs s)
run_has_text s = (s, main_text, run_end s)

-- the reader takes exactly the texts of the forms, and stops at the first byte with which none goes on
pub good_source : Good (Spells IsForm source_text) never source
unfolding source source_text
good_source = lit IsForm behind_prelude never (until source_step empty) prelude
    (same (Runs empty) (Spells IsForm behind_prelude) never (until source_step empty) whole_there whole_back
    (good_until SourceSteps source_step good_source_step source_some run_has_text never empty))
