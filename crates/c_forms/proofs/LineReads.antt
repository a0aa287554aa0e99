-- Statements of one line are read right.
use Rattle.std.proofs.Common.{◌≡◌, inl, inr, ℕ, ◌+◌, List, [], ◌∷◌, ◌++◌, flat_map, refl, sym, ap, subst, ◌∙◌}
use Rattle.std.specs.Prelude.{⊤, codes}
use Rattle.std.specs.Char.{is_ascii_digit}
use Rattle.c_syntax.specs.declared.kind.CType.{CType}
use Rattle.c_syntax.specs.declared.kind.CType.TheVariants as kind
use Rattle.c_syntax.specs.Text.{indent, type_text, mangled_name, arguments_name, starter_name}
use Rattle.pl_readers.specs.Language.{Language, Then, Either, Mapped}
use Rattle.pl_readers.specs.Reader.{Reader, either, next, mapped}
use Rattle.pl_readers.specs.Reads.{never}
use Rattle.pl_readers.specs.Bytes.{is}
use Rattle.c_forms.specs.declared.word.Local.{Local}
use Rattle.c_forms.specs.Reading.{after, ended_by, both, just}
use Rattle.c_forms.specs.Names.{is_name_byte}
use Rattle.c_forms.specs.Text.{expr_text, local_text, cell_text, call_text, right_text, load_text, argument_text, stmts_text}
use Rattle.c_forms.specs.Forms.{IsExprForm, IsCallForm, IsLocalForm, IsCellForm, IsTypeForm, IsRightForm, IsStmtForm}
use Rattle.c_forms.specs.Tree as t
use Rattle.c_forms.specs.Tree.{Name, Expr, Cell, Right, Stmt}
use Rattle.c_forms.specs.ExprReaders.{expr, local, local_tail, bool_type, struct_type, cell_behind, call}
use Rattle.c_forms.specs.StmtReaders.{right, bound_parts, bound, bind, stored, store_local, store_whole, line_v, line_pa, line_p, line_f, last_value, last_pair, line_a, line_r}
use Rattle.c_forms.proofs.WordReads.{local_end, good_local_tail, good_local}
use Rattle.c_forms.proofs.TypeReads.{IsTruth, good_bool, IsStructured, good_struct}
use Rattle.c_forms.proofs.ExprReads.{alts_same, alts_expr}
use Rattle.c_forms.proofs.CallReads.{call_end, good_call, good_behind_local, At, Field, index_text, field_text, cell_follow}
use Rattle.c_forms.proofs.KindReads.{begin_truth, begin_struct}
use Rattle.c_forms.proofs.RightReads.{right_goes, good_right, call_is}
use Rattle.c_forms.proofs.Spelling.{Spells, Good, Alts, Begin, Behind, same, good_behind, good_just, good_mapped, good_then, lit, fin, pair, alt, last, begin_mapped, begin_spells, begin_behind}

-- the text of a statement n levels deep, behind its indentation
abbrev pub stmt_end : ℕ → Stmt → List ℕ
stmt_end n (t.Bind kind x right) = type_text kind ++ (local_text x ++ (codes " = " ++ (right_text right ++ codes ";\n")))
stmt_end n (t.Store cell e) = cell_text cell ++ (codes " = " ++ (expr_text e ++ codes ";\n"))
stmt_end n (t.Free base) = codes "free(" ++ (local_text base ++ codes ");\n")
stmt_end n (t.AtomicStore base e) = codes "atomic_store(" ++ (local_text base ++ (codes ", " ++ (expr_text e ++ codes ");\n")))
stmt_end n (t.Acquire lock) = codes "p_acquire(" ++ (local_text lock ++ codes ");\n")
stmt_end n (t.Release lock) = codes "p_release(" ++ (local_text lock ++ codes ");\n")
stmt_end n (t.Print e) = codes "p_print(" ++ (expr_text e ++ codes ");\n")
stmt_end n (t.CallStmt f args) = call_text f args ++ codes ";\n"
stmt_end n (t.Par p) =
    codes "{\n"
    ++ ((indent (n + 1) ++ (arguments_name p.structure ++ (codes " *q = p_get(sizeof(" ++ (arguments_name p.size ++ codes "));\n"))))
    ++ (flat_map (argument_text (n + 1)) p.arguments
    ++ ((indent (n + 1) ++ (codes "thrd_t t = p_fork(" ++ (starter_name p.starter ++ codes ", q);\n")))
    ++ ((indent (n + 1) ++ (call_text p.other p.others ++ codes ";\n"))
    ++ ((indent (n + 1) ++ codes "p_join(t);\n")
    ++ (indent n ++ codes "}\n"))))))
stmt_end n (t.If e first second) =
    (codes "if (" ++ (expr_text e ++ codes ") {\n"))
    ++ (stmts_text (n + 1) first ++ ((indent n ++ codes "} else {\n") ++ (stmts_text (n + 1) second ++ (indent n ++ codes "}\n"))))
stmt_end n (t.While loads e body) =
    codes "while (1) {\n"
    ++ (flat_map (load_text (n + 1)) loads
    ++ ((indent (n + 1) ++ (codes "if (!" ++ (expr_text e ++ codes ") {\n")))
    ++ ((indent (n + 1 + 1) ++ codes "break;\n")
    ++ ((indent (n + 1) ++ codes "}\n")
    ++ (stmts_text (n + 1) body ++ (indent n ++ codes "}\n"))))))
stmt_end n (t.Return e) = codes "return " ++ (expr_text e ++ codes ";\n")

-- ---- lines that bind a local

abbrev pub bound_end : Local × Right → List ℕ
bound_end p = local_text p.0 ++ (codes " = " ++ (right_text p.1 ++ codes ";\n"))

good_parts : (type : CType) → Good (Spells (λ p. IsLocalForm p.0 × IsRightForm type p.1) bound_end) never (bound_parts type)
good_parts type = pair IsLocalForm local_text is_ascii_digit local (IsRightForm type) (λ r. codes " = " ++ (right_text r ++ codes ";\n")) never (after (codes " = ") (ended_by (right type) (codes ";\n"))) (λ r rest u h. refl) good_local
    (lit (IsRightForm type) (λ r. right_text r ++ codes ";\n") never (ended_by (right type) (codes ";\n")) (codes " = ") (fin (IsRightForm type) right_text right_goes (right type) (codes ";\n") never (λ rest. refl) (good_right type)))

module _ (K : CType → Type 0) (kt : CType → List ℕ) (P : Reader ℕ CType) where
  abbrev pub BindForm : CType × (Local × Right) → Type 0
  BindForm p = K p.0 × (IsLocalForm p.1.0 × IsRightForm p.0 p.1.1)

  abbrev pub bind_text : CType × (Local × Right) → List ℕ
  bind_text p = kt p.0 ++ bound_end p.1

  abbrev pub binding : CType × (Local × Right) → Stmt
  binding p = t.Bind p.0 p.1.0 p.1.1

  -- the lines that bind a local of such a type
  abbrev pub Binds : Language ℕ Stmt
  Binds = Mapped binding (Spells BindForm bind_text)

  abbrev BoundOf : CType → Language ℕ Stmt
  BoundOf type = Mapped (λ p. t.Bind type p.0 p.1) (Spells (λ p. IsLocalForm p.0 × IsRightForm type p.1) bound_end)

  binds_there : (s : Stmt) (text : List ℕ) → Then (Spells K kt) BoundOf s text → Binds s text
  binds_there s text (type, front, back, w, (p, v, r), e) = ((type, p), ((w.0, v.0), e ∙ rw (w.1, v.1) refl), r)

  binds_back : (s : Stmt) (text : List ℕ) → Binds s text → Then (Spells K kt) BoundOf s text
  binds_back s text (p, w, r) = (p.0, kt p.0, bound_end p.1, (w.0.0, refl), (p.1, (w.0.1, refl), r), w.1)

  pub good_bind : Good (Spells K kt) (is 42) P → Good Binds never (bind P)
  unfolding bind
  good_bind p = same (Then (Spells K kt) BoundOf) Binds never (next P bound) binds_there binds_back
      (good_then (Spells K kt) BoundOf (is 42) never P bound p
      (λ type front u. good_mapped (λ q. IsLocalForm q.0 × IsRightForm type q.1) bound_end never (bound_parts type) (λ q. t.Bind type q.0 q.1) (good_parts type))
      (λ type s back rest u h. rw u.1.1 refl))

  pub begin_binds : (ks : List ℕ) → Begin ks (Spells K kt) → Begin ks Binds
  begin_binds ks b s text (p, w, q) = let v = b p.0 (kt p.0) (w.0.0, refl) in (v.0, v.1 ++ bound_end p.1, w.1 ∙ ap (λ (z : List ℕ). z ++ bound_end p.1) v.2, v.3)

-- ---- stores

abbrev pub stored_end : Expr → List ℕ
stored_end e = codes " = " ++ (expr_text e ++ codes ";\n")

pub good_stored : Good (Spells IsExprForm stored_end) never stored
unfolding stored
good_stored = lit IsExprForm (λ e. expr_text e ++ codes ";\n") never (ended_by expr (codes ";\n")) (codes " = ") (fin IsExprForm expr_text is_ascii_digit expr (codes ";\n") never (λ rest. refl) alts_expr.good)

-- a cell but one behind `*`, behind its `v`
abbrev NoWhole : Cell → Type 0
NoWhole (t.Whole base) = ⊥
NoWhole _ = ⊤

abbrev based_end : Cell → List ℕ
based_end (t.Whole base) = []
based_end (t.At base index) = codes "_" ++ local_end base ++ codes "[" ++ expr_text index ++ codes "]"
based_end (t.Field base member) = codes "_" ++ local_end base ++ codes "->" ++ (codes "m_" ++ mangled_name member)

abbrev BasedEnd : Language ℕ Cell
BasedEnd = Then (Spells IsLocalForm (λ x. codes "_" ++ local_end x)) (λ x. Either (At x) (Field x))

based_there : (c : Cell) (text : List ℕ) → BasedEnd c text → Spells (λ c. NoWhole c × IsCellForm c) based_end c text
based_there c text (x, front, back, w, inl u, e) = rw u.2 ((tt, (w.0, u.1.0)), e ∙ rw (w.1, u.1.1) (index_text (codes "_" ++ local_end x) (expr_text u.0)))
based_there c text (x, front, back, w, inr u, e) = rw u.2 ((tt, (w.0, u.1.0)), e ∙ rw (w.1, u.1.1) (field_text (codes "_" ++ local_end x) (mangled_name u.0)))

based_back : (c : Cell) (text : List ℕ) → Spells (λ c. NoWhole c × IsCellForm c) based_end c text → BasedEnd c text
based_back (t.Whole base) text u = absurd u.0.0
based_back (t.At base index) text u = (base, codes "_" ++ local_end base, codes "[" ++ (expr_text index ++ codes "]"), (u.0.1.0, refl), inl (index, (u.0.1.1, refl), refl), u.1 ∙ sym (index_text (codes "_" ++ local_end base) (expr_text index)))
based_back (t.Field base member) text u = (base, codes "_" ++ local_end base, codes "->m_" ++ mangled_name member, (u.0.1.0, refl), inr (member, (u.0.1.1, refl), refl), u.1 ∙ sym (field_text (codes "_" ++ local_end base) (mangled_name member)))

abbrev BasedForm : Cell → Type 0
BasedForm c = NoWhole c × IsCellForm c

good_based_end : Good (Spells BasedForm based_end) is_name_byte (next (after (codes "_") local_tail) cell_behind)
good_based_end = same BasedEnd (Spells BasedForm based_end) is_name_byte (next (after (codes "_") local_tail) cell_behind) based_there based_back
    (good_then (Spells IsLocalForm (λ x. codes "_" ++ local_end x)) (λ x. Either (At x) (Field x)) is_ascii_digit is_name_byte (after (codes "_") local_tail) cell_behind
    (lit IsLocalForm local_end is_ascii_digit local_tail (codes "_") good_local_tail) (λ x front u. good_behind_local x) cell_follow)

abbrev StoreForm : Cell × Expr → Type 0
StoreForm p = BasedForm p.0 × IsExprForm p.1

abbrev store_end : Cell × Expr → List ℕ
store_end p = based_end p.0 ++ stored_end p.1

abbrev LocalStore : Language ℕ Stmt
LocalStore = Mapped (λ p. t.Store p.0 p.1) (Spells StoreForm store_end)

good_store_local : Good LocalStore never store_local
unfolding store_local
good_store_local = good_mapped StoreForm store_end never (both (next (after (codes "_") local_tail) cell_behind) stored) (λ p. t.Store p.0 p.1)
    (pair BasedForm based_end is_name_byte (next (after (codes "_") local_tail) cell_behind) IsExprForm stored_end never stored (λ e rest u h. refl) good_based_end good_stored)

store_begins : Begin (95 ∷ []) LocalStore
store_begins s text ((t.Whole base, e), w, r) = absurd w.0.0.0
store_begins s text ((t.At base index, e), w, r) = (95, (local_end base ++ codes "[" ++ expr_text index ++ codes "]") ++ stored_end e, w.1, refl)
store_begins s text ((t.Field base member, e), w, r) = (95, (local_end base ++ codes "->" ++ (codes "m_" ++ mangled_name member)) ++ stored_end e, w.1, refl)

abbrev WholeForm : Local × Expr → Type 0
WholeForm p = IsLocalForm p.0 × IsExprForm p.1

abbrev whole_end : Local × Expr → List ℕ
whole_end p = local_text p.0 ++ stored_end p.1

abbrev WholeStore : Language ℕ Stmt
WholeStore = Mapped (λ p. t.Store (t.Whole p.0) p.1) (Spells WholeForm (λ p. codes "*" ++ whole_end p))

good_whole_store : Good WholeStore never store_whole
unfolding store_whole
good_whole_store = good_mapped WholeForm (λ p. codes "*" ++ whole_end p) never (after (codes "*") (both local stored)) (λ p. t.Store (t.Whole p.0) p.1)
    (lit WholeForm whole_end never (both local stored) (codes "*") (pair IsLocalForm local_text is_ascii_digit local IsExprForm stored_end never stored (λ e rest u h. refl) good_local good_stored))

-- ---- kinds of statements, by their first byte

-- the statements of one kind, n levels deep, in which blocks nest to r
abbrev pub Kept : (Stmt → Type 0) → ℕ → ℕ → Language ℕ Stmt
Kept C r n = Spells (λ s. C s × IsStmtForm r s) (stmt_end n)

abbrev pub OfBool : Stmt → Type 0
OfBool (t.Bind type x right) = IsTruth type
OfBool _ = ⊥

abbrev pub OfStruct : Stmt → Type 0
OfStruct (t.Bind type x right) = IsStructured type
OfStruct _ = ⊥

abbrev pub OfVoid : Stmt → Type 0
OfVoid (t.Bind kind.Void x right) = ⊤
OfVoid (t.Store cell e) = NoWhole cell
OfVoid _ = ⊥

abbrev pub OfPrelude : Stmt → Type 0
OfPrelude (t.Bind kind.PtrAtomic x right) = ⊤
OfPrelude (t.Print e) = ⊤
OfPrelude (t.Acquire lock) = ⊤
OfPrelude (t.Release lock) = ⊤
OfPrelude _ = ⊥

abbrev pub OfCall : Stmt → Type 0
OfCall (t.CallStmt f args) = ⊤
OfCall (t.Free base) = ⊤
OfCall _ = ⊥

abbrev pub OfAtomic : Stmt → Type 0
OfAtomic (t.AtomicStore base e) = ⊤
OfAtomic _ = ⊥

abbrev pub OfWhole : Stmt → Type 0
OfWhole (t.Store (t.Whole base) e) = ⊤
OfWhole _ = ⊥

-- types that begin with a byte are types
truth_form : (type : CType) → IsTruth type → IsTypeForm type
truth_form kind.Bool h = tt
truth_form kind.PtrBool h = tt
truth_form kind.Void h = absurd h
truth_form kind.I64 h = absurd h
truth_form kind.PtrI64 h = absurd h
truth_form (kind.PtrStruct s) h = absurd h
truth_form kind.PtrAtomic h = absurd h
truth_form kind.PtrLock h = absurd h

struct_form : (type : CType) → IsStructured type → IsTypeForm type
struct_form kind.Bool h = absurd h
struct_form kind.PtrBool h = absurd h
struct_form kind.Void h = absurd h
struct_form kind.I64 h = absurd h
struct_form kind.PtrI64 h = absurd h
struct_form (kind.PtrStruct s) h = h
struct_form kind.PtrAtomic h = absurd h
struct_form kind.PtrLock h = tt

module _ (r n : ℕ) where
  bool_there : (s : Stmt) (text : List ℕ) → Binds IsTruth type_text bool_type s text → Kept OfBool r n s text
  bool_there s text (p, w, e) = rw e ((w.0.0, (truth_form p.0 w.0.0, w.0.1.0, w.0.1.1)), w.1)

  bool_back : (s : Stmt) (text : List ℕ) → Kept OfBool r n s text → Binds IsTruth type_text bool_type s text
  bool_back (t.Bind type x right) text u = ((type, (x, right)), ((u.0.0, (u.0.1.1, u.0.1.2)), u.1), refl)
  bool_back (t.Store cell e) text u = absurd u.0.0
  bool_back (t.Free base) text u = absurd u.0.0
  bool_back (t.AtomicStore base e) text u = absurd u.0.0
  bool_back (t.Acquire lock) text u = absurd u.0.0
  bool_back (t.Release lock) text u = absurd u.0.0
  bool_back (t.Print e) text u = absurd u.0.0
  bool_back (t.CallStmt f args) text u = absurd u.0.0
  bool_back (t.Par lines) text u = absurd u.0.0
  bool_back (t.If e first second) text u = absurd u.0.0
  bool_back (t.While loads e body) text u = absurd u.0.0
  bool_back (t.Return e) text u = absurd u.0.0

  pub kept_bool : Alts (98 ∷ []) (Kept OfBool r n) never (bind bool_type)
  kept_bool = alts_same (98 ∷ []) (Binds IsTruth type_text bool_type) (Kept OfBool r n) never (bind bool_type) bool_there bool_back (last (98 ∷ []) (Binds IsTruth type_text bool_type) never (bind bool_type) (good_bind IsTruth type_text bool_type good_bool) (begin_binds IsTruth type_text bool_type (98 ∷ []) begin_truth))

  structured_there : (s : Stmt) (text : List ℕ) → Binds IsStructured type_text struct_type s text → Kept OfStruct r n s text
  structured_there s text (p, w, e) = rw e ((w.0.0, (struct_form p.0 w.0.0, w.0.1.0, w.0.1.1)), w.1)

  structured_back : (s : Stmt) (text : List ℕ) → Kept OfStruct r n s text → Binds IsStructured type_text struct_type s text
  structured_back (t.Bind type x right) text u = ((type, (x, right)), ((u.0.0, (u.0.1.1, u.0.1.2)), u.1), refl)
  structured_back (t.Store cell e) text u = absurd u.0.0
  structured_back (t.Free base) text u = absurd u.0.0
  structured_back (t.AtomicStore base e) text u = absurd u.0.0
  structured_back (t.Acquire lock) text u = absurd u.0.0
  structured_back (t.Release lock) text u = absurd u.0.0
  structured_back (t.Print e) text u = absurd u.0.0
  structured_back (t.CallStmt f args) text u = absurd u.0.0
  structured_back (t.Par lines) text u = absurd u.0.0
  structured_back (t.If e first second) text u = absurd u.0.0
  structured_back (t.While loads e body) text u = absurd u.0.0
  structured_back (t.Return e) text u = absurd u.0.0

  pub kept_struct : Alts (115 ∷ []) (Kept OfStruct r n) never (bind struct_type)
  kept_struct = alts_same (115 ∷ []) (Binds IsStructured type_text struct_type) (Kept OfStruct r n) never (bind struct_type) structured_there structured_back (last (115 ∷ []) (Binds IsStructured type_text struct_type) never (bind struct_type) (good_bind IsStructured type_text struct_type good_struct) (begin_binds IsStructured type_text struct_type (115 ∷ []) begin_struct))

-- ---- lines that begin with `v`

abbrev IsVoid : CType → Type 0
IsVoid type = type ≡ kind.Void

abbrev VoidBinds : Language ℕ Stmt
VoidBinds = Binds IsVoid (λ _. codes "oid ") (just kind.Void (codes "oid "))

good_void_binds : Good VoidBinds never (bind (just kind.Void (codes "oid ")))
good_void_binds = good_bind IsVoid (λ _. codes "oid ") (just kind.Void (codes "oid ")) (good_just kind.Void (codes "oid ") (is 42))

abbrev VLines : Language ℕ Stmt
VLines = Behind (codes "v") (Either LocalStore VoidBinds)

good_v : Good VLines never line_v
unfolding line_v
good_v = good_behind (codes "v") (Either LocalStore VoidBinds) never (either (is 95) store_local (bind (just kind.Void (codes "oid "))))
    (alt 95 (111 ∷ []) LocalStore VoidBinds never store_local (bind (just kind.Void (codes "oid "))) refl good_store_local store_begins
    (last (111 ∷ []) VoidBinds never (bind (just kind.Void (codes "oid "))) good_void_binds
    (begin_mapped (111 ∷ []) (binding IsVoid (λ _. codes "oid ") (just kind.Void (codes "oid "))) (Spells (BindForm IsVoid (λ _. codes "oid ") (just kind.Void (codes "oid "))) (bind_text IsVoid (λ _. codes "oid ") (just kind.Void (codes "oid "))))
    (begin_spells 111 (codes "id ") (BindForm IsVoid (λ _. codes "oid ") (just kind.Void (codes "oid "))) (λ p. bound_end p.1))))).good

-- ---- lines that begin with `p_`

abbrev ends_call : {A : Type 0} → List ℕ → (A → List ℕ) → A → List ℕ
ends_call s f a = s ++ (f a ++ codes ");\n")

good_ended : (s : List ℕ) → Good (Spells IsExprForm (ends_call s expr_text)) never (after s (ended_by expr (codes ");\n")))
good_ended s = lit IsExprForm (λ e. expr_text e ++ codes ");\n") never (ended_by expr (codes ");\n")) s (fin IsExprForm expr_text is_ascii_digit expr (codes ");\n") never (λ rest. refl) alts_expr.good)

good_ended_local : (s : List ℕ) → Good (Spells IsLocalForm (ends_call s local_text)) never (after s (ended_by local (codes ");\n")))
good_ended_local s = lit IsLocalForm (λ e. local_text e ++ codes ");\n") never (ended_by local (codes ");\n")) s (fin IsLocalForm local_text is_ascii_digit local (codes ");\n") never (λ rest. refl) good_local)

abbrev IsAtomic : CType → Type 0
IsAtomic type = type ≡ kind.PtrAtomic

abbrev AtomicBinds : Language ℕ Stmt
AtomicBinds = Binds IsAtomic (λ _. codes "tomic *") (just kind.PtrAtomic (codes "tomic *"))

abbrev PaLines : Language ℕ Stmt
PaLines = Behind (codes "a") (Either (Mapped t.Acquire (Spells IsLocalForm (ends_call (codes "cquire(") local_text))) AtomicBinds)

good_pa : Good PaLines never line_pa
unfolding line_pa
good_pa = good_behind (codes "a") (Either (Mapped t.Acquire (Spells IsLocalForm (ends_call (codes "cquire(") local_text))) AtomicBinds) never (either (is 99) (mapped t.Acquire (after (codes "cquire(") (ended_by local (codes ");\n")))) (bind (just kind.PtrAtomic (codes "tomic *"))))
    (alt 99 (116 ∷ []) (Mapped t.Acquire (Spells IsLocalForm (ends_call (codes "cquire(") local_text))) AtomicBinds never (mapped t.Acquire (after (codes "cquire(") (ended_by local (codes ");\n")))) (bind (just kind.PtrAtomic (codes "tomic *"))) refl
    (good_mapped IsLocalForm (ends_call (codes "cquire(") local_text) never (after (codes "cquire(") (ended_by local (codes ");\n"))) t.Acquire (good_ended_local (codes "cquire(")))
    (begin_mapped (99 ∷ []) t.Acquire (Spells IsLocalForm (ends_call (codes "cquire(") local_text)) (begin_spells 99 (codes "quire(") IsLocalForm (λ x. local_text x ++ codes ");\n")))
    (last (116 ∷ []) AtomicBinds never (bind (just kind.PtrAtomic (codes "tomic *"))) (good_bind IsAtomic (λ _. codes "tomic *") (just kind.PtrAtomic (codes "tomic *")) (good_just kind.PtrAtomic (codes "tomic *") (is 42)))
    (begin_mapped (116 ∷ []) (binding IsAtomic (λ _. codes "tomic *") (just kind.PtrAtomic (codes "tomic *"))) (Spells (BindForm IsAtomic (λ _. codes "tomic *") (just kind.PtrAtomic (codes "tomic *"))) (bind_text IsAtomic (λ _. codes "tomic *") (just kind.PtrAtomic (codes "tomic *"))))
    (begin_spells 116 (codes "omic *") (BindForm IsAtomic (λ _. codes "tomic *") (just kind.PtrAtomic (codes "tomic *"))) (λ p. bound_end p.1))))).good

abbrev Prints : Language ℕ Stmt
Prints = Mapped t.Print (Spells IsExprForm (ends_call (codes "print(") expr_text))

abbrev Releases : Language ℕ Stmt
Releases = Mapped t.Release (Spells IsLocalForm (ends_call (codes "release(") local_text))

abbrev PLines : Language ℕ Stmt
PLines = Behind (codes "p_") (Either Prints (Either Releases PaLines))

good_p : Good PLines never line_p
unfolding line_p
good_p = good_behind (codes "p_") (Either Prints (Either Releases PaLines)) never _
    (alt 112 (114 ∷ 97 ∷ []) Prints (Either Releases PaLines) never (mapped t.Print (after (codes "print(") (ended_by expr (codes ");\n")))) _ refl
    (good_mapped IsExprForm (ends_call (codes "print(") expr_text) never (after (codes "print(") (ended_by expr (codes ");\n"))) t.Print (good_ended (codes "print(")))
    (begin_mapped (112 ∷ []) t.Print (Spells IsExprForm (ends_call (codes "print(") expr_text)) (begin_spells 112 (codes "rint(") IsExprForm (λ e. expr_text e ++ codes ");\n")))
    (alt 114 (97 ∷ []) Releases PaLines never (mapped t.Release (after (codes "release(") (ended_by local (codes ");\n")))) line_pa refl
    (good_mapped IsLocalForm (ends_call (codes "release(") local_text) never (after (codes "release(") (ended_by local (codes ");\n"))) t.Release (good_ended_local (codes "release(")))
    (begin_mapped (114 ∷ []) t.Release (Spells IsLocalForm (ends_call (codes "release(") local_text)) (begin_spells 114 (codes "elease(") IsLocalForm (λ x. local_text x ++ codes ");\n")))
    (last (97 ∷ []) PaLines never line_pa good_pa (begin_behind 97 [] _)))).good

-- ---- lines that begin with `f`

abbrev CallLineForm : Name × List Expr → Type 0
CallLineForm c = IsCallForm c.0 c.1

abbrev call_line : Name × List Expr → List ℕ
call_line c = codes "_" ++ (call_end c ++ codes ";\n")

abbrev CallLines : Language ℕ Stmt
CallLines = Mapped (λ p. t.CallStmt p.0 p.1) (Spells CallLineForm call_line)

abbrev Frees : Language ℕ Stmt
Frees = Mapped t.Free (Spells IsLocalForm (ends_call (codes "ree(") local_text))

abbrev FLines : Language ℕ Stmt
FLines = Behind (codes "f") (Either CallLines Frees)

good_f : Good FLines never line_f
unfolding line_f
good_f = good_behind (codes "f") (Either CallLines Frees) never (either (is 95) (mapped (λ p. t.CallStmt p.0 p.1) (after (codes "_") (ended_by call (codes ";\n")))) (mapped t.Free (after (codes "ree(") (ended_by local (codes ");\n")))))
    (alt 95 (114 ∷ []) CallLines Frees never (mapped (λ p. t.CallStmt p.0 p.1) (after (codes "_") (ended_by call (codes ";\n")))) (mapped t.Free (after (codes "ree(") (ended_by local (codes ");\n")))) refl
    (good_mapped CallLineForm call_line never (after (codes "_") (ended_by call (codes ";\n"))) (λ p. t.CallStmt p.0 p.1)
    (lit CallLineForm (λ c. call_end c ++ codes ";\n") never (ended_by call (codes ";\n")) (codes "_") (fin CallLineForm call_end never call (codes ";\n") never (λ rest. refl) good_call)))
    (begin_mapped (95 ∷ []) (λ p. t.CallStmt p.0 p.1) (Spells CallLineForm call_line) (begin_spells 95 [] CallLineForm (λ c. call_end c ++ codes ";\n")))
    (last (114 ∷ []) Frees never (mapped t.Free (after (codes "ree(") (ended_by local (codes ");\n"))))
    (good_mapped IsLocalForm (ends_call (codes "ree(") local_text) never (after (codes "ree(") (ended_by local (codes ");\n"))) t.Free (good_ended_local (codes "ree(")))
    (begin_mapped (114 ∷ []) t.Free (Spells IsLocalForm (ends_call (codes "ree(") local_text)) (begin_spells 114 (codes "ee(") IsLocalForm (λ x. local_text x ++ codes ");\n"))))).good

-- ---- atomic stores and returns

abbrev pair_end : Local × Expr → List ℕ
pair_end p = local_text p.0 ++ (codes ", " ++ (expr_text p.1 ++ codes ");\n"))

abbrev ALines : Language ℕ Stmt
ALines = Mapped (λ p. t.AtomicStore p.0 p.1) (Spells WholeForm (λ p. codes "atomic_store(" ++ pair_end p))

good_a : Good ALines never line_a
unfolding line_a last_pair
good_a = good_mapped WholeForm (λ p. codes "atomic_store(" ++ pair_end p) never (after (codes "atomic_store(") (both local last_value)) (λ p. t.AtomicStore p.0 p.1)
    (lit WholeForm pair_end never (both local last_value) (codes "atomic_store(") (pair IsLocalForm local_text is_ascii_digit local IsExprForm (ends_call (codes ", ") expr_text) never last_value (λ e rest u h. refl) good_local (good_ended (codes ", "))))

abbrev pub RLines : Language ℕ Stmt
RLines = Mapped t.Return (Spells IsExprForm (λ e. codes "return " ++ (expr_text e ++ codes ";\n")))

pub good_r : Good RLines never line_r
unfolding line_r
good_r = good_mapped IsExprForm (λ e. codes "return " ++ (expr_text e ++ codes ";\n")) never (after (codes "return ") (ended_by expr (codes ";\n"))) t.Return
    (lit IsExprForm (λ e. expr_text e ++ codes ";\n") never (ended_by expr (codes ";\n")) (codes "return ") (fin IsExprForm expr_text is_ascii_digit expr (codes ";\n") never (λ rest. refl) alts_expr.good))

-- ---- as kinds

call_end_is : (c : Name × List Expr) → codes "f" ++ call_line c ≡ call_text c.0 c.1 ++ codes ";\n"
call_end_is c = ap (λ (z : List ℕ). z ++ codes ";\n") (call_is c)

module _ (r n : ℕ) where
  void_there : (s : Stmt) (text : List ℕ) → VLines s text → Kept OfVoid r n s text
  void_there s text (back, inl ((t.Whole base, e), w, q), k) = absurd w.0.0.0
  void_there s text (back, inl ((t.At base index, e), w, q), k) = rw q ((tt, (w.0.0.1, w.0.1)), k ∙ rw w.1 refl)
  void_there s text (back, inl ((t.Field base member, e), w, q), k) = rw q ((tt, (w.0.0.1, w.0.1)), k ∙ rw w.1 refl)
  void_there s text (back, inr ((type, (x, right)), w, q), k) =
      subst (λ (z : Stmt). Kept OfVoid r n z text) (sym (q ∙ ap (λ (c : CType). t.Bind c x right) w.0.0))
      ((tt, (tt, w.0.1.0, subst (λ (c : CType). IsRightForm c right) w.0.0 w.0.1.1)), k ∙ rw w.1 refl)

  void_back : (s : Stmt) (text : List ℕ) → Kept OfVoid r n s text → VLines s text
  void_back (t.Bind kind.Void x right) text u = (codes "oid " ++ bound_end (x, right), inr ((kind.Void, (x, right)), ((refl, (u.0.1.1, u.0.1.2)), refl), refl), u.1)
  void_back (t.Bind kind.I64 x right) text u = absurd u.0.0
  void_back (t.Bind kind.Bool x right) text u = absurd u.0.0
  void_back (t.Bind kind.PtrI64 x right) text u = absurd u.0.0
  void_back (t.Bind kind.PtrBool x right) text u = absurd u.0.0
  void_back (t.Bind (kind.PtrStruct c) x right) text u = absurd u.0.0
  void_back (t.Bind kind.PtrAtomic x right) text u = absurd u.0.0
  void_back (t.Bind kind.PtrLock x right) text u = absurd u.0.0
  void_back (t.Store (t.Whole base) e) text u = absurd u.0.0
  void_back (t.Store (t.At base index) e) text u = (store_end (t.At base index, e), inl ((t.At base index, e), (((tt, u.0.1.0), u.0.1.1), refl), refl), u.1)
  void_back (t.Store (t.Field base member) e) text u = (store_end (t.Field base member, e), inl ((t.Field base member, e), (((tt, u.0.1.0), u.0.1.1), refl), refl), u.1)
  void_back (t.Free base) text u = absurd u.0.0
  void_back (t.AtomicStore base e) text u = absurd u.0.0
  void_back (t.Acquire lock) text u = absurd u.0.0
  void_back (t.Release lock) text u = absurd u.0.0
  void_back (t.Print e) text u = absurd u.0.0
  void_back (t.CallStmt f args) text u = absurd u.0.0
  void_back (t.Par lines) text u = absurd u.0.0
  void_back (t.If e first second) text u = absurd u.0.0
  void_back (t.While loads e body) text u = absurd u.0.0
  void_back (t.Return e) text u = absurd u.0.0

  pub kept_void : Alts (118 ∷ []) (Kept OfVoid r n) never line_v
  kept_void = alts_same (118 ∷ []) VLines (Kept OfVoid r n) never line_v void_there void_back (last (118 ∷ []) VLines never line_v good_v (begin_behind 118 [] (Either LocalStore VoidBinds)))

  prelude_there : (s : Stmt) (text : List ℕ) → PLines s text → Kept OfPrelude r n s text
  prelude_there s text (back, inl u, k) = rw u.2 ((tt, u.1.0), k ∙ rw u.1.1 refl)
  prelude_there s text (back, inr (inl u), k) = rw u.2 ((tt, u.1.0), k ∙ rw u.1.1 refl)
  prelude_there s text (back, inr (inr (b, inl u, k2)), k) = rw u.2 ((tt, u.1.0), k ∙ rw (k2, u.1.1) refl)
  prelude_there s text (back, inr (inr (b, inr ((type, (x, right)), w, q), k2)), k) =
      subst (λ (z : Stmt). Kept OfPrelude r n z text) (sym (q ∙ ap (λ (c : CType). t.Bind c x right) w.0.0))
      ((tt, (tt, w.0.1.0, subst (λ (c : CType). IsRightForm c right) w.0.0 w.0.1.1)), k ∙ rw (k2, w.1) refl)

  prelude_back : (s : Stmt) (text : List ℕ) → Kept OfPrelude r n s text → PLines s text
  prelude_back (t.Bind kind.PtrAtomic x right) text u =
      (codes "atomic *" ++ bound_end (x, right), inr (inr (codes "tomic *" ++ bound_end (x, right), inr ((kind.PtrAtomic, (x, right)), ((refl, (u.0.1.1, u.0.1.2)), refl), refl), refl)), u.1)
  prelude_back (t.Bind kind.Void x right) text u = absurd u.0.0
  prelude_back (t.Bind kind.I64 x right) text u = absurd u.0.0
  prelude_back (t.Bind kind.Bool x right) text u = absurd u.0.0
  prelude_back (t.Bind kind.PtrI64 x right) text u = absurd u.0.0
  prelude_back (t.Bind kind.PtrBool x right) text u = absurd u.0.0
  prelude_back (t.Bind (kind.PtrStruct c) x right) text u = absurd u.0.0
  prelude_back (t.Bind kind.PtrLock x right) text u = absurd u.0.0
  prelude_back (t.Print e) text u = (codes "print(" ++ (expr_text e ++ codes ");\n"), inl (e, (u.0.1, refl), refl), u.1)
  prelude_back (t.Release lock) text u = (codes "release(" ++ (local_text lock ++ codes ");\n"), inr (inl (lock, (u.0.1, refl), refl)), u.1)
  prelude_back (t.Acquire lock) text u = (codes "acquire(" ++ (local_text lock ++ codes ");\n"), inr (inr (codes "cquire(" ++ (local_text lock ++ codes ");\n"), inl (lock, (u.0.1, refl), refl), refl)), u.1)
  prelude_back (t.Store cell e) text u = absurd u.0.0
  prelude_back (t.Free base) text u = absurd u.0.0
  prelude_back (t.AtomicStore base e) text u = absurd u.0.0
  prelude_back (t.CallStmt f args) text u = absurd u.0.0
  prelude_back (t.Par lines) text u = absurd u.0.0
  prelude_back (t.If e first second) text u = absurd u.0.0
  prelude_back (t.While loads e body) text u = absurd u.0.0
  prelude_back (t.Return e) text u = absurd u.0.0

  pub kept_prelude : Alts (112 ∷ []) (Kept OfPrelude r n) never line_p
  kept_prelude = alts_same (112 ∷ []) PLines (Kept OfPrelude r n) never line_p prelude_there prelude_back (last (112 ∷ []) PLines never line_p good_p (begin_behind 112 (codes "_") (Either Prints (Either Releases PaLines))))

  call_there : (s : Stmt) (text : List ℕ) → FLines s text → Kept OfCall r n s text
  call_there s text (back, inl u, k) = rw u.2 ((tt, u.1.0), k ∙ ap (λ (z : List ℕ). codes "f" ++ z) u.1.1 ∙ call_end_is u.0)
  call_there s text (back, inr u, k) = rw u.2 ((tt, u.1.0), k ∙ rw u.1.1 refl)

  call_back : (s : Stmt) (text : List ℕ) → Kept OfCall r n s text → FLines s text
  call_back (t.CallStmt f args) text u = (call_line (f, args), inl ((f, args), (u.0.1, refl), refl), u.1 ∙ sym (call_end_is (f, args)))
  call_back (t.Free base) text u = (codes "ree(" ++ (local_text base ++ codes ");\n"), inr (base, (u.0.1, refl), refl), u.1)
  call_back (t.Bind type x right) text u = absurd u.0.0
  call_back (t.Print e) text u = absurd u.0.0
  call_back (t.Release lock) text u = absurd u.0.0
  call_back (t.Acquire lock) text u = absurd u.0.0
  call_back (t.Store cell e) text u = absurd u.0.0
  call_back (t.AtomicStore base e) text u = absurd u.0.0
  call_back (t.Par lines) text u = absurd u.0.0
  call_back (t.If e first second) text u = absurd u.0.0
  call_back (t.While loads e body) text u = absurd u.0.0
  call_back (t.Return e) text u = absurd u.0.0

  pub kept_call : Alts (102 ∷ []) (Kept OfCall r n) never line_f
  kept_call = alts_same (102 ∷ []) FLines (Kept OfCall r n) never line_f call_there call_back (last (102 ∷ []) FLines never line_f good_f (begin_behind 102 [] (Either CallLines Frees)))

  atomic_there : (s : Stmt) (text : List ℕ) → ALines s text → Kept OfAtomic r n s text
  atomic_there s text u = rw u.2 ((tt, u.1.0), u.1.1)

  atomic_back : (s : Stmt) (text : List ℕ) → Kept OfAtomic r n s text → ALines s text
  atomic_back (t.AtomicStore base e) text u = ((base, e), (u.0.1, u.1), refl)
  atomic_back (t.CallStmt f args) text u = absurd u.0.0
  atomic_back (t.Free base) text u = absurd u.0.0
  atomic_back (t.Bind type x right) text u = absurd u.0.0
  atomic_back (t.Print e) text u = absurd u.0.0
  atomic_back (t.Release lock) text u = absurd u.0.0
  atomic_back (t.Acquire lock) text u = absurd u.0.0
  atomic_back (t.Store cell e) text u = absurd u.0.0
  atomic_back (t.Par lines) text u = absurd u.0.0
  atomic_back (t.If e first second) text u = absurd u.0.0
  atomic_back (t.While loads e body) text u = absurd u.0.0
  atomic_back (t.Return e) text u = absurd u.0.0

  pub kept_atomic : Alts (97 ∷ []) (Kept OfAtomic r n) never line_a
  kept_atomic = alts_same (97 ∷ []) ALines (Kept OfAtomic r n) never line_a atomic_there atomic_back (last (97 ∷ []) ALines never line_a good_a (begin_mapped (97 ∷ []) (λ p. t.AtomicStore p.0 p.1) (Spells WholeForm (λ p. codes "atomic_store(" ++ pair_end p)) (begin_spells 97 (codes "tomic_store(") WholeForm pair_end)))

  whole_there : (s : Stmt) (text : List ℕ) → WholeStore s text → Kept OfWhole r n s text
  whole_there s text u = rw u.2 ((tt, u.1.0), u.1.1)

  whole_back : (s : Stmt) (text : List ℕ) → Kept OfWhole r n s text → WholeStore s text
  whole_back (t.Store (t.Whole base) e) text u = ((base, e), (u.0.1, u.1), refl)
  whole_back (t.Store (t.At base index) e) text u = absurd u.0.0
  whole_back (t.Store (t.Field base member) e) text u = absurd u.0.0
  whole_back (t.AtomicStore base e) text u = absurd u.0.0
  whole_back (t.CallStmt f args) text u = absurd u.0.0
  whole_back (t.Free base) text u = absurd u.0.0
  whole_back (t.Bind type x right) text u = absurd u.0.0
  whole_back (t.Print e) text u = absurd u.0.0
  whole_back (t.Release lock) text u = absurd u.0.0
  whole_back (t.Acquire lock) text u = absurd u.0.0
  whole_back (t.Par lines) text u = absurd u.0.0
  whole_back (t.If e first second) text u = absurd u.0.0
  whole_back (t.While loads e body) text u = absurd u.0.0
  whole_back (t.Return e) text u = absurd u.0.0

  pub kept_whole : Alts (42 ∷ []) (Kept OfWhole r n) never store_whole
  kept_whole = alts_same (42 ∷ []) WholeStore (Kept OfWhole r n) never store_whole whole_there whole_back (last (42 ∷ []) WholeStore never store_whole good_whole_store (begin_mapped (42 ∷ []) (λ p. t.Store (t.Whole p.0) p.1) (Spells WholeForm (λ p. codes "*" ++ whole_end p)) (begin_spells 42 [] WholeForm whole_end)))
