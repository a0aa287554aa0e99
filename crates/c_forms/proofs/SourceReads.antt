-- Structures, heads, threads and declarations are read right.
use Rattle.std.proofs.Common.{◌≡◌, ◌≢◌, inl, inr, ℕ, ◌<◌, length, Result, Ok, Err, true, false, List, [], ◌∷◌, ◌++◌, map, flat_map, refl, sym, ap, subst, ◌∙◌}
use Rattle.std.specs.Prelude.{◌&&◌, ◌==◌, codes}
use Rattle.std.specs.Char.{is_ascii_digit}
use Rattle.std.specs.List.{AllByRecursion}
use Rattle.std.proofs.lemmas.Bool.{or_parts}
use Rattle.c_syntax.specs.declared.kind.CType.{CType}
use Rattle.c_syntax.specs.declared.kind.CType.TheVariants as kind
use Rattle.c_syntax.specs.Text.{type_text, mangled_name, commas, behind_commas, main_text}
use Rattle.pl_lexer.specs.Proper.{IsName}
use Rattle.pl_readers.specs.declared.error.Stop.{Stop}
use Rattle.pl_readers.specs.Language.{Language, Then, Either, Mapped, Starts}
use Rattle.pl_readers.specs.Reader.{Reader, ◌>>=◌, begins, either, next, mapped, repeat}
use Rattle.pl_readers.specs.Reads.{never, Ends, Reads}
use Rattle.pl_readers.specs.Bytes.{is, word}
use Rattle.pl_readers.proofs.Correct.{ends_less}
use Rattle.pl_readers.proofs.Firsts.{ends_never}
use Rattle.c_forms.specs.declared.word.Local.{Local}
use Rattle.c_forms.specs.declared.word.Number.{Number}
use Rattle.c_forms.specs.declared.source.Member.{Member}
use Rattle.c_forms.specs.declared.source.Struct.{Struct}
use Rattle.c_forms.specs.declared.source.Param.{Param}
use Rattle.c_forms.specs.declared.source.Head.{Head}
use Rattle.c_forms.specs.declared.source.Slot.{Slot}
use Rattle.c_forms.specs.declared.source.Starter.{Starter}
use Rattle.c_forms.specs.Reading.{after, ended_by, both, just, Step, on, done, until}
use Rattle.c_forms.specs.Names.{is_name_byte, name}
use Rattle.c_forms.specs.Text.{local_text, number_text, param_text, params_text}
use Rattle.c_forms.specs.Forms.{IsLocalForm, IsNumberForm, IsTypeForm, IsMemberForm, IsStructForm, IsParamForm, IsHeadForm, IsSlotForm, IsStarterForm, IsStmtForm}
use Rattle.c_forms.specs.Tree.{Name, Stmt, Source}
use Rattle.c_forms.specs.Plain.{chain}
use Rattle.c_forms.specs.ExprReaders.{decimal_number, local, shown_type, any_type, listed, list_of}
use Rattle.c_forms.specs.StmtReaders.{rows, stmt}
use Rattle.c_forms.specs.SourceReaders.{member, members, structure, shown_param, param, void_param, params, head, fun_body, slot, slots, copies, starter_call, starter_code, starter_pair, may_struct, may_prototype, may_starter, with_struct, with_prototype, with_starter, with_fun, with_structure, behind_head, with_static, declaration, source_step}
use Rattle.c_forms.proofs.WholeNames.{good_name}
use Rattle.c_forms.proofs.WordReads.{good_number, good_local}
use Rattle.c_forms.proofs.KindReads.{IsShown, alts_shown, alts_any}
use Rattle.c_forms.proofs.ListReads.{behind_map, comma_or, good_more_items}
use Rattle.c_forms.proofs.CallReads.{comma_text, good_list}
use Rattle.c_forms.proofs.RightReads.{alt_if}
use Rattle.c_forms.proofs.StmtReads.{block_text, good_block, good_stmt}
use Rattle.c_forms.proofs.Shapes.{made_of, mapped_good, turn, until_is, until_on, until_stops, until_shorter}
use Rattle.c_forms.proofs.Spelling.{Spells, Good, Alts, Begin, Behind, When, same, good_behind, good_just, good_mapped, good_then, lit, fin, pair, many, alt, last, begin_mapped, begin_spells, begin_behind, begin_just}

-- ---- structures

abbrev member_end : CType × Name → List ℕ
member_end q = type_text q.0 ++ (codes "m_" ++ (mangled_name q.1 ++ codes ";\n"))

abbrev pub member_text : Member → List ℕ
member_text m = codes "  " ++ member_end (m.kind, m.name)

abbrev MemberParts : CType × Name → Type 0
MemberParts q = IsTypeForm q.0 × IsName q.1

abbrev member_of : CType × Name → Member
member_of p = record { kind = p.0; name = p.1 }

good_member : Good (Spells IsMemberForm member_text) never member
unfolding member
good_member = made_of MemberParts (λ q. codes "  " ++ member_end q) IsMemberForm member_text never (after (codes "  ") (both any_type (after (codes "m_") (ended_by name (codes ";\n"))))) member_of (λ m. (m.kind, m.name)) (λ m. refl) (λ q w. w) (λ m w. w) (λ q. refl)
    (lit MemberParts member_end never (both any_type (after (codes "m_") (ended_by name (codes ";\n")))) (codes "  ")
    (pair IsTypeForm type_text (is 42) any_type IsName (λ s. codes "m_" ++ (mangled_name s ++ codes ";\n")) never (after (codes "m_") (ended_by name (codes ";\n"))) (λ s rest u h. refl) alts_any.good
    (lit IsName (λ s. mangled_name s ++ codes ";\n") never (ended_by name (codes ";\n")) (codes "m_") (fin IsName mangled_name is_name_byte name (codes ";\n") never (λ rest. refl) good_name))))

pub reads_member : Reads (Spells IsMemberForm member_text) (Spells IsMemberForm member_text) never member
reads_member = good_member.reads

pub starts_member : Starts (is 32) (Spells IsMemberForm member_text)
starts_member m text u = (32, codes " " ++ member_end (m.kind, m.name), u.1, refl)

begin_member : Begin (32 ∷ []) (Spells IsMemberForm member_text)
begin_member m text u = (32, codes " " ++ member_end (m.kind, m.name), u.1, refl)

abbrev HasMembers : List Member → Type 0
HasMembers [] = ⊥
HasMembers (m ∷ ms) = IsMemberForm m × AllByRecursion IsMemberForm ms

abbrev MoreMembers : Member → Language ℕ (List Member)
MoreMembers m = Mapped (λ more. m ∷ more) (Spells (AllByRecursion IsMemberForm) (flat_map member_text))

members_there : (l : List Member) (text : List ℕ) → Then (Spells IsMemberForm member_text) MoreMembers l text → Spells HasMembers (flat_map member_text) l text
members_there l text (m, front, back, w, (more, v, e), k) = rw e ((w.0, v.0), k ∙ rw (w.1, v.1) refl)

members_back : (l : List Member) (text : List ℕ) → Spells HasMembers (flat_map member_text) l text → Then (Spells IsMemberForm member_text) MoreMembers l text
members_back [] text u = absurd u.0
members_back (m ∷ ms) text u = (m, member_text m, flat_map member_text ms, (u.0.0, refl), (ms, (u.0.1, refl), refl), u.1)

abbrev members_end : List Member → List ℕ
members_end l = flat_map member_text l ++ codes "};\n"

good_members : Good (Spells HasMembers members_end) never members
unfolding members
good_members = fin HasMembers (flat_map member_text) (is 32) (next member (λ m. mapped (λ more. m ∷ more) (repeat (is 32) member))) (codes "};\n") never (λ rest. refl)
    (same (Then (Spells IsMemberForm member_text) MoreMembers) (Spells HasMembers (flat_map member_text)) (is 32) (next member (λ m. mapped (λ more. m ∷ more) (repeat (is 32) member))) members_there members_back
    (good_then (Spells IsMemberForm member_text) MoreMembers never (is 32) member (λ m. mapped (λ more. m ∷ more) (repeat (is 32) member)) good_member
    (λ m front u. good_mapped (AllByRecursion IsMemberForm) (flat_map member_text) (is 32) (repeat (is 32) member) (λ more. m ∷ more)
    (many IsMemberForm member_text 32 never (is 32) member begin_member refl (λ x e. e) (λ x e. refl) good_member))
    (λ m l back rest u h. ends_never (back ++ rest))))

abbrev StructParts : Name × List Member → Type 0
StructParts q = IsName q.0 × HasMembers q.1

abbrev struct_parts : Name × List Member → List ℕ
struct_parts q = mangled_name q.0 ++ (codes " {\n" ++ members_end q.1)

-- a structure behind `struct s_`
abbrev pub struct_end : Struct → List ℕ
struct_end s = struct_parts (s.name, s.members)

abbrev struct_of : Name × List Member → Struct
struct_of p = record { name = p.0; members = p.1 }

members_form : (l : List Member) → HasMembers l → (l ≢ []) × AllByRecursion IsMemberForm l
members_form [] w = absurd w
members_form (m ∷ ms) w = (λ e. absurd cc, w)

form_members : (l : List Member) → l ≢ [] → AllByRecursion IsMemberForm l → HasMembers l
form_members [] n w = absurd (n refl)
form_members (m ∷ ms) n w = w

good_structure : Good (Spells IsStructForm struct_end) never structure
unfolding structure
good_structure = made_of StructParts struct_parts IsStructForm struct_end never (both name (after (codes " {\n") members)) struct_of (λ s. (s.name, s.members)) (λ s. refl)
    (λ q w. let f = members_form q.1 w.1 in (w.0, f.0, f.1)) (λ s w. (w.0, form_members s.members w.1 w.2)) (λ q. refl)
    (pair IsName mangled_name is_name_byte name HasMembers (λ l. codes " {\n" ++ members_end l) never (after (codes " {\n") members) (λ l rest u h. refl) good_name
    (lit HasMembers members_end never members (codes " {\n") good_members))

-- ---- parameters

abbrev param_of : CType × Local → Param
param_of p = record { kind = p.0; local = p.1 }

abbrev ShownParam : Param → Type 0
ShownParam p = IsShown p.kind × IsLocalForm p.local

good_shown_param : Good (Spells ShownParam param_text) is_ascii_digit shown_param
unfolding shown_param
good_shown_param = made_of (λ q. IsShown q.0 × IsLocalForm q.1) (λ q. type_text q.0 ++ local_text q.1) ShownParam param_text is_ascii_digit (both shown_type local) param_of (λ p. (p.kind, p.local)) (λ p. refl) (λ q w. w) (λ p w. w) (λ q. refl)
    (pair IsShown type_text (is 42) shown_type IsLocalForm local_text is_ascii_digit local (λ x rest u h. refl) alts_shown.good good_local)

good_param : Good (Spells IsParamForm param_text) is_ascii_digit param
unfolding param
good_param = made_of (λ q. IsTypeForm q.0 × IsLocalForm q.1) (λ q. type_text q.0 ++ local_text q.1) IsParamForm param_text is_ascii_digit (both any_type local) param_of (λ p. (p.kind, p.local)) (λ p. refl) (λ q w. w) (λ p w. w) (λ q. refl)
    (pair IsTypeForm type_text (is 42) any_type IsLocalForm local_text is_ascii_digit local (λ x rest u h. refl) alts_any.good good_local)

abbrev VoidParam : Param → Type 0
VoidParam p = (p.kind ≡ kind.Void) × IsLocalForm p.local

abbrev void_end : Param → List ℕ
void_end p = codes " " ++ local_text p.local

abbrev void_of : Local → Param
void_of x = record { kind = kind.Void; local = x }

void_param_back : (p : Param) (text : List ℕ) → Spells VoidParam void_end p text → Mapped void_of (Spells IsLocalForm (λ x. codes " " ++ local_text x)) p text
void_param_back p text u = (p.local, (u.0.1, u.1), ap (λ (c : CType). param_of (c, p.local)) u.0.0)

good_void_param : Good (Spells VoidParam void_end) is_ascii_digit void_param
unfolding void_param
good_void_param = same (Mapped void_of (Spells IsLocalForm (λ x. codes " " ++ local_text x))) (Spells VoidParam void_end) is_ascii_digit (mapped void_of (after (codes " ") local))
    (λ p text u. rw u.2 ((refl, u.1.0), u.1.1)) void_param_back
    (good_mapped IsLocalForm (λ x. codes " " ++ local_text x) is_ascii_digit (after (codes " ") local) void_of (lit IsLocalForm local_text is_ascii_digit local (codes " ") good_local))

pub reads_next_param : Reads (Spells IsParamForm (λ p. codes ", " ++ param_text p)) (Spells IsParamForm (λ p. codes ", " ++ param_text p)) is_ascii_digit (after (codes ", ") param)
reads_next_param = (lit IsParamForm param_text is_ascii_digit param (codes ", ") good_param).reads

pub starts_next_param : Starts (is 44) (Spells IsParamForm (λ p. codes ", " ++ param_text p))
starts_next_param p text u = (44, codes " " ++ param_text p, u.1, refl)

-- a first one of its own kind, and more
module _ (WF : Param → Type 0) (ff : Param → List ℕ) (F : Reader ℕ Param) (first : Good (Spells WF ff) is_ascii_digit F) where
  abbrev HasFirst : List Param → Type 0
  HasFirst [] = ⊥
  HasFirst (p ∷ ps) = WF p × AllByRecursion IsParamForm ps

  abbrev first_text : List Param → List ℕ
  first_text [] = []
  first_text (p ∷ ps) = ff p ++ flat_map (comma_text param_text) ps

  abbrev MoreParams : Param → Language ℕ (List Param)
  MoreParams p = Mapped (λ more. p ∷ more) (Spells (AllByRecursion IsParamForm) (flat_map (comma_text param_text)))

  first_follow : (m : List Param) (rest : List ℕ) → Ends (comma_or is_ascii_digit) rest → Ends is_ascii_digit (flat_map (comma_text param_text) m ++ rest)
  first_follow [] rest h = ends_less is_ascii_digit (comma_or is_ascii_digit) (λ x k. (or_parts (x == 44) (is_ascii_digit x) k).1) rest h
  first_follow (p ∷ m) rest h = refl

  first_there : (l : List Param) (text : List ℕ) → Then (Spells WF ff) MoreParams l text → Spells HasFirst first_text l text
  first_there l text (p, front, back, w, (more, v, e), k) = rw e ((w.0, v.0), k ∙ rw (w.1, v.1) refl)

  first_back : (l : List Param) (text : List ℕ) → Spells HasFirst first_text l text → Then (Spells WF ff) MoreParams l text
  first_back [] text u = absurd u.0
  first_back (p ∷ ps) text u = (p, ff p, flat_map (comma_text param_text) ps, (u.0.0, refl), (ps, (u.0.1, refl), refl), u.1)

  good_first : Good (Spells HasFirst (λ l. first_text l ++ codes ")")) never (ended_by (listed F param) (codes ")"))
  unfolding listed
  good_first = fin HasFirst first_text (comma_or is_ascii_digit) (next F (λ a. mapped (λ more. a ∷ more) (repeat (is 44) (after (codes ", ") param)))) (codes ")") never (λ rest. refl)
      (same (Then (Spells WF ff) MoreParams) (Spells HasFirst first_text) (comma_or is_ascii_digit) (next F (λ a. mapped (λ more. a ∷ more) (repeat (is 44) (after (codes ", ") param)))) first_there first_back
      (good_then (Spells WF ff) MoreParams is_ascii_digit (comma_or is_ascii_digit) F (λ a. mapped (λ more. a ∷ more) (repeat (is 44) (after (codes ", ") param))) first
      (λ a front u. good_mapped (AllByRecursion IsParamForm) (flat_map (comma_text param_text)) (comma_or is_ascii_digit) (repeat (is 44) (after (codes ", ") param)) (λ more. a ∷ more) (good_more_items IsParamForm param_text is_ascii_digit param param refl good_param))
      (λ a l back rest u h. rw u.1.1 (first_follow u.0 rest h))))

abbrev params_end : List Param → List ℕ
params_end l = params_text l ++ codes ")"

abbrev NoParams : Language ℕ (List Param)
NoParams = Spells (λ l. l ≡ []) (λ _. codes ")")

abbrev VoidFirst : Language ℕ (List Param)
VoidFirst = Spells (HasFirst VoidParam void_end void_param good_void_param) (λ l. first_text VoidParam void_end void_param good_void_param l ++ codes ")")

abbrev ShownFirst : Language ℕ (List Param)
ShownFirst = Spells (HasFirst ShownParam param_text shown_param good_shown_param) (λ l. first_text ShownParam param_text shown_param good_shown_param l ++ codes ")")

abbrev ParamsParts : Language ℕ (List Param)
ParamsParts = Either (Behind (codes "void") (Either NoParams VoidFirst)) ShownFirst

shown_form : (type : CType) → IsShown type → IsTypeForm type
shown_form kind.I64 h = tt
shown_form kind.PtrI64 h = tt
shown_form kind.Bool h = tt
shown_form kind.PtrBool h = tt
shown_form kind.Void h = tt
shown_form (kind.PtrStruct s) h = h
shown_form kind.PtrAtomic h = tt
shown_form kind.PtrLock h = tt

params_there : (l : List Param) (text : List ℕ) → ParamsParts l text → Spells (AllByRecursion IsParamForm) params_end l text
params_there l text (inl (back, inl u, k)) = rw u.0 (tt, k ∙ rw u.1 refl)
params_there [] text (inl (back, inr u, k)) = absurd u.0
params_there (p ∷ ps) text (inl (back, inr u, k)) = (
  ((subst IsTypeForm (sym u.0.0.0) tt, u.0.0.1), u.0.1),
  k ∙ ap (λ (z : List ℕ). codes "void" ++ z) u.1
      ∙ ap (λ (z : List ℕ). ((codes "void " ++ local_text p.local) ++ z) ++ codes ")") (sym (behind_map param_text ps))
      ∙ ap (λ (c : CType). ((type_text c ++ local_text p.local) ++ behind_commas (map param_text ps)) ++ codes ")") (sym u.0.0.0),
)
params_there [] text (inr u) = absurd u.0
params_there (p ∷ ps) text (inr u) =
    (((shown_form p.kind u.0.0.0, u.0.0.1), u.0.1), u.1 ∙ ap (λ (z : List ℕ). (param_text p ++ z) ++ codes ")") (sym (behind_map param_text ps)))

shown_back : (type : CType) (x : Local) (ps : List Param) (text : List ℕ) → IsShown type → IsLocalForm x → AllByRecursion IsParamForm ps → text ≡ params_end (param_of (type, x) ∷ ps) → ParamsParts (param_of (type, x) ∷ ps) text
shown_back type x ps text k w v e = inr (((k, w), v), e ∙ ap (λ (z : List ℕ). (param_text (param_of (type, x)) ++ z) ++ codes ")") (behind_map param_text ps))

kind_back : (type : CType) (x : Local) (ps : List Param) (text : List ℕ) → IsTypeForm type → IsLocalForm x → AllByRecursion IsParamForm ps → text ≡ params_end (param_of (type, x) ∷ ps) → ParamsParts (param_of (type, x) ∷ ps) text
kind_back kind.Void x ps text k w v e =
    inl ((codes " " ++ local_text x ++ flat_map (comma_text param_text) ps) ++ codes ")", inr (((refl, w), v), refl), e ∙ ap (λ (z : List ℕ). ((codes "void " ++ local_text x) ++ z) ++ codes ")") (behind_map param_text ps))
kind_back kind.I64 x ps text k w v e = shown_back kind.I64 x ps text tt w v e
kind_back kind.PtrI64 x ps text k w v e = shown_back kind.PtrI64 x ps text tt w v e
kind_back kind.Bool x ps text k w v e = shown_back kind.Bool x ps text tt w v e
kind_back kind.PtrBool x ps text k w v e = shown_back kind.PtrBool x ps text tt w v e
kind_back (kind.PtrStruct s) x ps text k w v e = shown_back (kind.PtrStruct s) x ps text k w v e
kind_back kind.PtrAtomic x ps text k w v e = shown_back kind.PtrAtomic x ps text tt w v e
kind_back kind.PtrLock x ps text k w v e = shown_back kind.PtrLock x ps text tt w v e

params_back : (l : List Param) (text : List ℕ) → Spells (AllByRecursion IsParamForm) params_end l text → ParamsParts l text
params_back [] text u = inl (codes ")", inl (refl, refl), u.1)
params_back (p ∷ ps) text u = kind_back p.kind p.local ps text u.0.0.0 u.0.0.1 u.0.1 u.1

begin_first_void : Begin (32 ∷ []) VoidFirst
begin_first_void [] text u = absurd u.0
begin_first_void (p ∷ ps) text u = (32, (local_text p.local ++ flat_map (comma_text param_text) ps) ++ codes ")", u.1, refl)

begin_first_shown : Begin (105 ∷ 98 ∷ 112 ∷ 115 ∷ []) ShownFirst
begin_first_shown [] text u = absurd u.0
begin_first_shown (p ∷ ps) text u =
    let v = alts_shown.begin p.kind (type_text p.kind) (u.0.0.0, refl) in
    (v.0, ((v.1 ++ local_text p.local) ++ flat_map (comma_text param_text) ps) ++ codes ")", u.1 ∙ ap (λ (z : List ℕ). ((z ++ local_text p.local) ++ flat_map (comma_text param_text) ps) ++ codes ")") v.2, v.3)

good_params : Good (Spells (AllByRecursion IsParamForm) params_end) never params
unfolding params
good_params = same ParamsParts (Spells (AllByRecursion IsParamForm) params_end) never _ params_there params_back
    (alt 118 (105 ∷ 98 ∷ 112 ∷ 115 ∷ []) (Behind (codes "void") (Either NoParams VoidFirst)) ShownFirst never (after (codes "void") (either (is 41) (just [] (codes ")")) (ended_by (listed void_param param) (codes ")")))) (ended_by (listed shown_param param) (codes ")")) refl
    (good_behind (codes "void") (Either NoParams VoidFirst) never (either (is 41) (just [] (codes ")")) (ended_by (listed void_param param) (codes ")")))
    (alt 41 (32 ∷ []) NoParams VoidFirst never (just [] (codes ")")) (ended_by (listed void_param param) (codes ")")) refl (good_just [] (codes ")") never) (begin_just 41 [] [])
    (last (32 ∷ []) VoidFirst never (ended_by (listed void_param param) (codes ")")) (good_first VoidParam void_end void_param good_void_param) begin_first_void)).good)
    (begin_behind 118 (codes "oid") (Either NoParams VoidFirst))
    (last (105 ∷ 98 ∷ 112 ∷ 115 ∷ []) ShownFirst never (ended_by (listed shown_param param) (codes ")")) (good_first ShownParam param_text shown_param good_shown_param) begin_first_shown)).good

-- ---- heads and bodies

abbrev NamedForm : Name × List Param → Type 0
NamedForm q = IsName q.0 × AllByRecursion IsParamForm q.1

abbrev named_text : Name × List Param → List ℕ
named_text q = mangled_name q.0 ++ (codes "(" ++ params_end q.1)

abbrev HeadParts : CType × (Name × List Param) → Type 0
HeadParts q = IsTypeForm q.0 × NamedForm q.1

abbrev head_parts : CType × (Name × List Param) → List ℕ
head_parts q = type_text q.0 ++ (codes "f_" ++ named_text q.1)

-- a head behind `static `
abbrev pub head_end : Head → List ℕ
head_end h = head_parts (h.result, (h.name, h.params))

abbrev head_of : CType × (Name × List Param) → Head
head_of p = record { result = p.0; name = p.1.0; params = p.1.1 }

pub good_function_head : Good (Spells IsHeadForm head_end) never head
unfolding head
good_function_head = made_of HeadParts head_parts IsHeadForm head_end never (both any_type (after (codes "f_") (both name (after (codes "(") params)))) head_of (λ h. (h.result, (h.name, h.params))) (λ h. refl) (λ q w. (w.0, w.1.0, w.1.1)) (λ h w. (w.0, (w.1, w.2))) (λ q. refl)
    (pair IsTypeForm type_text (is 42) any_type NamedForm (λ q. codes "f_" ++ named_text q) never (after (codes "f_") (both name (after (codes "(") params))) (λ q rest u h. refl) alts_any.good
    (lit NamedForm named_text never (both name (after (codes "(") params)) (codes "f_")
    (pair IsName mangled_name is_name_byte name (AllByRecursion IsParamForm) (λ l. codes "(" ++ params_end l) never (after (codes "(") params) (λ l rest u h. refl) good_name
    (lit (AllByRecursion IsParamForm) params_end never params (codes "(") good_params))))

-- the body of a function behind its head
abbrev pub body_text : List Stmt → List ℕ
body_text ss = codes " {\n" ++ block_text 0 (codes "}\n") ss

good_fun_body : Good (Spells (AllByRecursion (IsStmtForm 127)) body_text) never fun_body
unfolding fun_body
good_fun_body = lit (AllByRecursion (IsStmtForm 127)) (block_text 0 (codes "}\n")) never (ended_by (rows 0 (stmt 127 1)) (codes "}\n")) (codes " {\n")
    (good_block (IsStmtForm 127) 0 (stmt 127 1) (good_stmt 127 1) (codes "}\n") (λ rest. refl))

-- ---- threads

abbrev slot_end : CType × Number → List ℕ
slot_end q = type_text q.0 ++ (codes "a_" ++ (number_text q.1 ++ codes ";\n"))

abbrev pub slot_text : Slot → List ℕ
slot_text s = codes "  " ++ slot_end (s.kind, s.number)

abbrev SlotParts : CType × Number → Type 0
SlotParts q = IsTypeForm q.0 × IsNumberForm q.1

abbrev slot_of : CType × Number → Slot
slot_of p = record { kind = p.0; number = p.1 }

good_slot : Good (Spells IsSlotForm slot_text) never slot
unfolding slot
good_slot = made_of SlotParts (λ q. codes "  " ++ slot_end q) IsSlotForm slot_text never (after (codes "  ") (both any_type (after (codes "a_") (ended_by decimal_number (codes ";\n"))))) slot_of (λ s. (s.kind, s.number)) (λ s. refl) (λ q w. w) (λ s w. w) (λ q. refl)
    (lit SlotParts slot_end never (both any_type (after (codes "a_") (ended_by decimal_number (codes ";\n")))) (codes "  ")
    (pair IsTypeForm type_text (is 42) any_type IsNumberForm (λ k. codes "a_" ++ (number_text k ++ codes ";\n")) never (after (codes "a_") (ended_by decimal_number (codes ";\n"))) (λ k rest u h. refl) alts_any.good
    (lit IsNumberForm (λ k. number_text k ++ codes ";\n") never (ended_by decimal_number (codes ";\n")) (codes "a_") (fin IsNumberForm number_text is_ascii_digit decimal_number (codes ";\n") never (λ rest. refl) good_number))))

pub reads_slot : Reads (Spells IsSlotForm slot_text) (Spells IsSlotForm slot_text) never slot
reads_slot = good_slot.reads

pub starts_slot : Starts (is 32) (Spells IsSlotForm slot_text)
starts_slot s text u = (32, codes " " ++ slot_end (s.kind, s.number), u.1, refl)

begin_slot : Begin (32 ∷ []) (Spells IsSlotForm slot_text)
begin_slot s text u = (32, codes " " ++ slot_end (s.kind, s.number), u.1, refl)

abbrev SlotsForm : Name × List Slot → Type 0
SlotsForm q = IsName q.0 × AllByRecursion IsSlotForm q.1

abbrev slots_text : Name × List Slot → List ℕ
slots_text q = mangled_name q.0 ++ (codes " {\n  char a_0;\n" ++ (flat_map slot_text q.1 ++ codes "};\n"))

good_slots : Good (Spells SlotsForm slots_text) never slots
unfolding slots
good_slots = pair IsName mangled_name is_name_byte name (AllByRecursion IsSlotForm) (λ l. codes " {\n  char a_0;\n" ++ (flat_map slot_text l ++ codes "};\n")) never (after (codes " {\n  char a_0;\n") (ended_by (repeat (is 32) slot) (codes "};\n"))) (λ l rest u h. refl) good_name
    (lit (AllByRecursion IsSlotForm) (λ l. flat_map slot_text l ++ codes "};\n") never (ended_by (repeat (is 32) slot) (codes "};\n")) (codes " {\n  char a_0;\n")
    (fin (AllByRecursion IsSlotForm) (flat_map slot_text) (is 32) (repeat (is 32) slot) (codes "};\n") never (λ rest. refl)
    (many IsSlotForm slot_text 32 never (is 32) slot begin_slot refl (λ x e. e) (λ x e. refl) good_slot)))

abbrev CopiesForm : Name × Name → Type 0
CopiesForm q = IsName q.0 × IsName q.1

abbrev copies_text : Name × Name → List ℕ
copies_text q = mangled_name q.0 ++ (codes " *q = p;\n  struct a_" ++ (mangled_name q.1 ++ codes " c = *q;\n  free(q);\n"))

good_copies : Good (Spells CopiesForm copies_text) never copies
unfolding copies
good_copies = pair IsName mangled_name is_name_byte name IsName (λ s. codes " *q = p;\n  struct a_" ++ (mangled_name s ++ codes " c = *q;\n  free(q);\n")) never (after (codes " *q = p;\n  struct a_") (ended_by name (codes " c = *q;\n  free(q);\n"))) (λ s rest u h. refl) good_name
    (lit IsName (λ s. mangled_name s ++ codes " c = *q;\n  free(q);\n") never (ended_by name (codes " c = *q;\n  free(q);\n")) (codes " *q = p;\n  struct a_") (fin IsName mangled_name is_name_byte name (codes " c = *q;\n  free(q);\n") never (λ rest. refl) good_name))

abbrev pub handed_text : Number → List ℕ
handed_text k = codes "c.a_" ++ number_text k

good_handed : Good (Spells IsNumberForm handed_text) is_ascii_digit (after (codes "c.a_") decimal_number)
good_handed = lit IsNumberForm number_text is_ascii_digit decimal_number (codes "c.a_") good_number

pub reads_next_handed : Reads (Spells IsNumberForm (λ k. codes ", " ++ handed_text k)) (Spells IsNumberForm (λ k. codes ", " ++ handed_text k)) is_ascii_digit (after (codes ", ") (after (codes "c.a_") decimal_number))
reads_next_handed = (lit IsNumberForm handed_text is_ascii_digit (after (codes "c.a_") decimal_number) (codes ", ") good_handed).reads

pub starts_next_handed : Starts (is 44) (Spells IsNumberForm (λ k. codes ", " ++ handed_text k))
starts_next_handed k text u = (44, codes " " ++ handed_text k, u.1, refl)

abbrev handed_end : List Number → List ℕ
handed_end l = commas (map handed_text l) ++ codes ")"

abbrev StartedForm : Name × List Number → Type 0
StartedForm q = IsName q.0 × AllByRecursion IsNumberForm q.1

abbrev started_text : Name × List Number → List ℕ
started_text q = codes "  f_" ++ (mangled_name q.0 ++ (codes "(" ++ (handed_end q.1 ++ codes ";\n  return 0;\n}\n")))

good_starter_call : Good (Spells StartedForm started_text) never starter_call
unfolding starter_call
good_starter_call = lit StartedForm (λ q. mangled_name q.0 ++ (codes "(" ++ (handed_end q.1 ++ codes ";\n  return 0;\n}\n"))) never (both name (after (codes "(") (ended_by (list_of (after (codes "c.a_") decimal_number)) (codes ";\n  return 0;\n}\n")))) (codes "  f_")
    (pair IsName mangled_name is_name_byte name (AllByRecursion IsNumberForm) (λ l. codes "(" ++ (handed_end l ++ codes ";\n  return 0;\n}\n")) never (after (codes "(") (ended_by (list_of (after (codes "c.a_") decimal_number)) (codes ";\n  return 0;\n}\n"))) (λ l rest u h. refl) good_name
    (lit (AllByRecursion IsNumberForm) (λ l. handed_end l ++ codes ";\n  return 0;\n}\n") never (ended_by (list_of (after (codes "c.a_") decimal_number)) (codes ";\n  return 0;\n}\n")) (codes "(")
    (fin (AllByRecursion IsNumberForm) handed_end never (list_of (after (codes "c.a_") decimal_number)) (codes ";\n  return 0;\n}\n") never (λ rest. refl)
    (good_list IsNumberForm handed_text is_ascii_digit (after (codes "c.a_") decimal_number) refl refl (99 ∷ []) refl (begin_spells 99 (codes ".a_") IsNumberForm number_text) good_handed))))

abbrev CalledForm : (Name × Name) × (Name × List Number) → Type 0
CalledForm q = CopiesForm q.0 × StartedForm q.1

abbrev called_text : (Name × Name) × (Name × List Number) → List ℕ
called_text q = copies_text q.0 ++ started_text q.1

abbrev BegunForm : Name × ((Name × Name) × (Name × List Number)) → Type 0
BegunForm q = IsName q.0 × CalledForm q.1

abbrev begun_text : Name × ((Name × Name) × (Name × List Number)) → List ℕ
begun_text q = mangled_name q.0 ++ (codes "(void *p) {\n  struct a_" ++ called_text q.1)

abbrev StarterParts : (Name × List Slot) × (Name × ((Name × Name) × (Name × List Number))) → Type 0
StarterParts q = SlotsForm q.0 × BegunForm q.1

abbrev starter_parts : (Name × List Slot) × (Name × ((Name × Name) × (Name × List Number))) → List ℕ
starter_parts q = codes "a_" ++ (slots_text q.0 ++ (codes "static int t_" ++ begun_text q.1))

abbrev parts_of : Starter → (Name × List Slot) × (Name × ((Name × Name) × (Name × List Number)))
parts_of s = ((s.structure, s.slots), (s.name, ((s.pointer, s.copy), (s.function, s.arguments))))

-- a structure of arguments and its starter behind `struct `
abbrev pub starter_end : Starter → List ℕ
starter_end s = starter_parts (parts_of s)

abbrev starter_of : (Name × List Slot) × (Name × ((Name × Name) × (Name × List Number))) → Starter
starter_of p = record { structure = p.0.0; slots = p.0.1; name = p.1.0; pointer = p.1.1.0.0; copy = p.1.1.0.1; function = p.1.1.1.0; arguments = p.1.1.1.1 }

good_starter_pair : Good (Spells IsStarterForm starter_end) never starter_pair
unfolding starter_pair starter_code
good_starter_pair = made_of StarterParts starter_parts IsStarterForm starter_end never (after (codes "a_") (both slots (after (codes "static int t_") (both name (after (codes "(void *p) {\n  struct a_") (both copies starter_call)))))) starter_of parts_of (λ s. refl)
    (λ q w. record { structure = w.0.0; slots = w.0.1; name = w.1.0; pointer = w.1.1.0.0; copy = w.1.1.0.1; function = w.1.1.1.0; arguments = w.1.1.1.1 })
    (λ s w. ((w.structure, w.slots), (w.name, ((w.pointer, w.copy), (w.function, w.arguments)))))
    (λ q. refl)
    (lit StarterParts (λ q. slots_text q.0 ++ (codes "static int t_" ++ begun_text q.1)) never (both slots (after (codes "static int t_") (both name (after (codes "(void *p) {\n  struct a_") (both copies starter_call))))) (codes "a_")
    (pair SlotsForm slots_text never slots BegunForm (λ q. codes "static int t_" ++ begun_text q) never (after (codes "static int t_") (both name (after (codes "(void *p) {\n  struct a_") (both copies starter_call)))) (λ q rest u h. ends_never ((codes "static int t_" ++ begun_text q) ++ rest)) good_slots
    (lit BegunForm begun_text never (both name (after (codes "(void *p) {\n  struct a_") (both copies starter_call))) (codes "static int t_")
    (pair IsName mangled_name is_name_byte name CalledForm (λ q. codes "(void *p) {\n  struct a_" ++ called_text q) never (after (codes "(void *p) {\n  struct a_") (both copies starter_call)) (λ q rest u h. refl) good_name
    (lit CalledForm called_text never (both copies starter_call) (codes "(void *p) {\n  struct a_")
    (pair CopiesForm copies_text never copies StartedForm started_text never starter_call (λ q rest u h. ends_never (started_text q ++ rest)) good_copies good_starter_call))))))

-- ---- declarations

module _ (s : Source) where
  abbrev pub Structured : Language ℕ Source
  Structured = Behind (codes "ruct ") (Either (When (may_struct s) (Mapped (with_struct s) (Spells IsStructForm (λ x. codes "s_" ++ struct_end x)))) (Mapped (with_starter s) (Spells IsStarterForm starter_end)))

  good_structured : Good Structured never (with_structure s)
  unfolding with_structure
  good_structured = good_behind (codes "ruct ") (Either (When (may_struct s) (Mapped (with_struct s) (Spells IsStructForm (λ x. codes "s_" ++ struct_end x)))) (Mapped (with_starter s) (Spells IsStarterForm starter_end))) never
      (either (λ c. may_struct s && (c == 115)) (mapped (with_struct s) (after (codes "s_") structure)) (mapped (with_starter s) starter_pair))
      (alt_if (may_struct s) 115 (97 ∷ []) (Mapped (with_struct s) (Spells IsStructForm (λ x. codes "s_" ++ struct_end x))) (Mapped (with_starter s) (Spells IsStarterForm starter_end)) never (mapped (with_struct s) (after (codes "s_") structure)) (mapped (with_starter s) starter_pair) refl
      (λ e. good_mapped IsStructForm (λ x. codes "s_" ++ struct_end x) never (after (codes "s_") structure) (with_struct s) (lit IsStructForm struct_end never structure (codes "s_") good_structure))
      (begin_mapped (115 ∷ []) (with_struct s) (Spells IsStructForm (λ x. codes "s_" ++ struct_end x)) (begin_spells 115 (codes "_") IsStructForm struct_end))
      (last (97 ∷ []) (Mapped (with_starter s) (Spells IsStarterForm starter_end)) never (mapped (with_starter s) starter_pair) (good_mapped IsStarterForm starter_end never starter_pair (with_starter s) good_starter_pair)
      (begin_mapped (97 ∷ []) (with_starter s) (Spells IsStarterForm starter_end) (λ x text u. (97, codes "_" ++ (slots_text (x.structure, x.slots) ++ (codes "static int t_" ++ begun_text (x.name, ((x.pointer, x.copy), (x.function, x.arguments))))), u.1, refl))))).good

  abbrev pub fun_with : Head → List Stmt → Source
  fun_with h ss = with_fun s (record { head = h; body = chain ss })

  abbrev pub HeadedBy : Head → Language ℕ Source
  HeadedBy h = Either (When (may_prototype s) (Spells (λ a. a ≡ with_prototype s h) (λ _. codes ";\n"))) (Mapped (fun_with h) (Spells (AllByRecursion (IsStmtForm 127)) body_text))

  good_headed : (h : Head) → Good (HeadedBy h) never (behind_head s h)
  unfolding behind_head
  good_headed h = (alt_if (may_prototype s) 59 (32 ∷ []) (Spells (λ a. a ≡ with_prototype s h) (λ _. codes ";\n")) (Mapped (fun_with h) (Spells (AllByRecursion (IsStmtForm 127)) body_text)) never (just (with_prototype s h) (codes ";\n")) (mapped (fun_with h) fun_body) refl
      (λ e. good_just (with_prototype s h) (codes ";\n") never) (begin_just 59 (codes "\n") (with_prototype s h))
      (last (32 ∷ []) (Mapped (fun_with h) (Spells (AllByRecursion (IsStmtForm 127)) body_text)) never (mapped (fun_with h) fun_body) (good_mapped (AllByRecursion (IsStmtForm 127)) body_text never fun_body (fun_with h) good_fun_body)
      (begin_mapped (32 ∷ []) (fun_with h) (Spells (AllByRecursion (IsStmtForm 127)) body_text) (begin_spells 32 (codes "{\n") (AllByRecursion (IsStmtForm 127)) (block_text 0 (codes "}\n")))))).good

  abbrev pub Headed : Language ℕ Source
  Headed = Then (Spells IsHeadForm head_end) HeadedBy

  good_heads : Good Headed never (next head (behind_head s))
  good_heads = good_then (Spells IsHeadForm head_end) HeadedBy never never head (behind_head s) good_function_head (λ h front u. good_headed h) (λ h a back rest u e. ends_never (back ++ rest))

  abbrev pub Declared : Language ℕ Source
  Declared = Behind (codes "st") (Either (When (may_starter s) Structured) (Behind (codes "atic ") Headed))

  good_declared : Good Declared never (declaration s)
  unfolding declaration with_static
  good_declared = good_behind (codes "st") (Either (When (may_starter s) Structured) (Behind (codes "atic ") Headed)) never
      (either (λ c. may_starter s && (c == 114)) (with_structure s) (after (codes "atic ") (next head (behind_head s))))
      (alt_if (may_starter s) 114 (97 ∷ []) Structured (Behind (codes "atic ") Headed) never (with_structure s) (after (codes "atic ") (next head (behind_head s))) refl
      (λ e. good_structured) (begin_behind 114 (codes "uct ") _)
      (last (97 ∷ []) (Behind (codes "atic ") Headed) never (after (codes "atic ") (next head (behind_head s))) (good_behind (codes "atic ") Headed never (next head (behind_head s)) good_heads) (begin_behind 97 (codes "tic ") Headed))).good

  abbrev Finished : Language ℕ (Step Source Source)
  Finished = Spells (λ a. a ≡ done s) (λ _. main_text)

  abbrev pub SourceSteps : Language ℕ (Step Source Source)
  SourceSteps = Either Finished (Mapped on Declared)

  alts_source_step : Alts (105 ∷ 115 ∷ []) SourceSteps never (source_step s)
  unfolding source_step
  alts_source_step = alt 105 (115 ∷ []) Finished (Mapped on Declared) never (just (done s) main_text) (mapped on (declaration s)) refl (good_just (done s) main_text never) main_begins
      (last (115 ∷ []) (Mapped on Declared) never (mapped on (declaration s)) (mapped_good on Declared never (declaration s) good_declared) (begin_mapped (115 ∷ []) on Declared (begin_behind 115 (codes "t") _)))
    where
      main_begins : Begin (105 ∷ []) Finished
      main_begins a text u = (105, codes "nt main(void) {\n  f_main();\n  return 0;\n}\n", u.1, refl)

pub good_source_step : (s : Source) → Good (SourceSteps s) never (source_step s)
good_source_step s = (alts_source_step s).good

pub source_some : (s : Source) (q : Step Source Source) (text : List ℕ) → SourceSteps s q text → (c : ℕ) × (cs : List ℕ) × (text ≡ c ∷ cs)
source_some s q text u = let v = (alts_source_step s).begin q text u in (v.0, v.1, v.2)

-- ---- for the code that reads declarations

abbrev pub turns : Source → Reader ℕ Source
turns = until source_step

step_declares : (s t : Source) (xs rest : List ℕ) → begins (is 105) xs ≡ false → declaration s xs ≡ Ok (t, rest) → source_step s xs ≡ Ok (on t, rest)
unfolding source_step
step_declares s t xs rest b e = rw (b, e) refl

step_refuses : (s : Source) (xs : List ℕ) (x : Stop) → begins (is 105) xs ≡ false → declaration s xs ≡ Err x → source_step s xs ≡ Err x
unfolding source_step
step_refuses s xs x b e = rw (b, e) refl

pub source_goes : (s t : Source) (xs rest : List ℕ) → begins (is 105) xs ≡ false → declaration s xs ≡ Ok (t, rest) → turns s xs ≡ turns t rest
source_goes s t xs rest b e = until_on SourceSteps source_step good_source_step source_some s t xs rest (step_declares s t xs rest b e)

pub source_stops : (s : Source) (xs : List ℕ) (x : Stop) → begins (is 105) xs ≡ false → declaration s xs ≡ Err x → turns s xs ≡ Err x
source_stops s xs x b e = until_stops SourceSteps source_step good_source_step source_some s xs x (step_refuses s xs x b e)

pub source_shorter : (s t : Source) (xs rest : List ℕ) → begins (is 105) xs ≡ false → declaration s xs ≡ Ok (t, rest) → length rest < length xs
source_shorter s t xs rest b e = until_shorter SourceSteps source_step good_source_step source_some s xs (on t) rest (step_declares s t xs rest b e)

abbrev finished : Source → Reader ℕ (Step Source Source)
finished s = just (done s) main_text

step_finishes : (s : Source) (xs : List ℕ) → begins (is 105) xs ≡ true → source_step s xs ≡ finished s xs
unfolding source_step
step_finishes s xs b = rw b refl

turn_done : (s : Source) (r : Result (Unit {0} × List ℕ) Stop) → ((r >>= λ p. Ok (done s, p.1)) >>= turn SourceSteps source_step good_source_step source_some) ≡ (r >>= λ p. Ok (s, p.1))
turn_done s (Ok p) = refl
turn_done s (Err x) = refl

pub source_ends : (s : Source) (xs : List ℕ) → begins (is 105) xs ≡ true → turns s xs ≡ just s main_text xs
source_ends s xs b = until_is SourceSteps source_step good_source_step source_some s xs ∙ ap (λ r. r >>= turn SourceSteps source_step good_source_step source_some) (step_finishes s xs b) ∙ turn_done s (word main_text xs)
