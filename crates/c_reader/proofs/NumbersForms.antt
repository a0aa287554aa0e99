-- What is written of a program of the fragment is of the forms, where its text is short: each number that is written is a `u32`.
use Rattle.std.proofs.Common.{◌≢◌, ℕ, suc, ◌+◌, ◌<◌, ◌≤◌, ◌^◌, Bool, true, false, cond, List, [], ◌∷◌, length, map, filter, arith, ap, lt_of_lt_of_le, refl}
use Rattle.std.specs.List.{AllByRecursion}
use Rattle.pl_lexer.specs.Proper.{IsName}
use Rattle.c_syntax.specs.declared.program.CMember.{CMember}
use Rattle.c_syntax.specs.declared.program.CParam.{CParam}
use Rattle.c_syntax.specs.declared.program.CStruct.{CStruct}
use Rattle.c_syntax.specs.Forms as plain
use Rattle.c_syntax.specs.Fragment.{IsText}
use Rattle.c_syntax.specs.Names.{FunNames, MemberNames, ParamNames, StructNames}
use Rattle.c_syntax.specs.Rules.{FunFits, Scope}
use Rattle.c_syntax.specs.Text.{is_started, program_text}
use Rattle.c_syntax.specs.Tree as t
use Rattle.c_forms.specs.Forms.{IsForm, IsFunForm, IsHeadForm, IsMemberForm, IsNumberForm, IsParamForm, IsSlotForm, IsStarterForm, IsStructForm}
use Rattle.c_reader.proofs.NumbersExprs.{local_form}
use Rattle.c_reader.proofs.NumbersScopes.{Room, all_counted, below_numbered}
use Rattle.c_reader.proofs.NumbersStmts.{body_form}
use Rattle.c_reader.proofs.NumbersTexts.{Short, short_program}
use Rattle.c_reader.proofs.Written as written

-- ---- lists

mapped : {A B : Type 0} (f : A → B) (P : A → Type 0) (Q : B → Type 0) → ((a : A) → P a → Q (f a)) → (list : List A) → AllByRecursion P list → AllByRecursion Q (map f list)
mapped f P Q g [] h = tt
mapped f P Q g (a ∷ list) h = (g a h.0, mapped f P Q g list h.1)

both : {A : Type 0} (P Q : A → Type 0) (list : List A) → AllByRecursion P list → AllByRecursion Q list → AllByRecursion (λ a. P a × Q a) list
both P Q [] h k = tt
both P Q (a ∷ list) h k = ((h.0, k.0), both P Q list h.1 k.1)

kept : {A : Type 0} (test : A → Bool) (P : A → Type 0) (list : List A) → AllByRecursion P list → AllByRecursion P (filter test list)
kept test P [] h = tt
kept test P (a ∷ list) h = one (test a) h.0 (kept test P list h.1)
  where
    one : (b : Bool) → P a → AllByRecursion P (filter test list) → AllByRecursion P (cond b (a ∷ filter test list) (filter test list))
    one true x k = (x, k)
    one false x k = k

-- ---- structures

member_form : (m : CMember) → MemberNames IsName m → IsMemberForm (written.member m)
member_form m h = (h.1, h.0)

some_members : (list : List CMember) → list ≢ [] → map written.member list ≢ []
some_members [] h = λ e. h refl
some_members (m ∷ list) h = λ e. cc

struct_form : (s : CStruct) → plain.IsStructForm s × StructNames IsName s → IsStructForm (written.struct s)
struct_form s h = (h.1.0, some_members s.members h.0, mapped written.member (MemberNames IsName) IsMemberForm member_form s.members h.1.1)

-- ---- functions

-- what is known of a function of the program
record Stands (p : t.Program) (limit : ℕ) (f : t.Fun) : Type 0 where
  form : plain.IsFunForm f
  names : FunNames IsName f
  rules : FunFits p f
  short : Short limit f

-- what is bound where its statements begin
abbrev behind_params : t.Fun → Scope
behind_params f = record { bound = f.params; next = 1 + length f.params }

module _ (p : t.Program) (limit : ℕ) (small : suc limit ≤ 2 ^ 32) where
  param_form : (q : CParam) → ParamNames IsName q × (q.local.number < suc limit) → IsParamForm (written.param q)
  param_form q h = (h.0.1, local_form (suc limit) small q.local h.0.0 h.1)

  head_form : (f : t.Fun) → Stands p limit f → IsHeadForm (written.head f)
  head_form f s =
      let fits = s.short in
      let below = below_numbered (suc limit) 1 f.params s.rules.numbers (omega arith) in (
        s.names.1,
        s.names.0,
        mapped written.param (λ q. ParamNames IsName q × (q.local.number < suc limit)) IsParamForm param_form f.params
            (both (ParamNames IsName) (λ q. q.local.number < suc limit) f.params s.names.2 below),
      )

  slots_form : (k : ℕ) (ps : List CParam) → k + length ps ≤ suc limit → AllByRecursion (ParamNames IsName) ps → AllByRecursion IsSlotForm (written.slots k ps)
  slots_form k [] h names = tt
  slots_form k (q ∷ ps) h names = let here : k < suc limit = omega arith in ((names.0.1, lt_of_lt_of_le here small), slots_form (k + 1) ps (omega arith) names.1)

  numbers_form : (k : ℕ) (ps : List CParam) → k + length ps ≤ suc limit → AllByRecursion IsNumberForm (written.numbers k ps)
  numbers_form k [] h = tt
  numbers_form k (q ∷ ps) h = let here : k < suc limit = omega arith in (lt_of_lt_of_le here small, numbers_form (k + 1) ps (omega arith))

  starter_form : (f : t.Fun) → Stands p limit f → IsStarterForm (written.starter f)
  starter_form f s =
      let fits = s.short in
      let name = s.names.0 in
      record {
        structure = name;
        slots = slots_form 1 f.params (omega arith) s.names.2;
        name = name;
        pointer = name;
        copy = name;
        function = name;
        arguments = numbers_form 1 f.params (omega arith);
      }

  fun_form : (f : t.Fun) → Stands p limit f → IsFunForm (written.fun f)
  fun_form f s =
      let fits = s.short in
      let deep = s.form.depth in
      let below = below_numbered (suc limit) 1 f.params s.rules.numbers (omega arith) in
      let room : Room (suc limit) (behind_params f) (all_counted f.body) = record { begun = omega arith; below = below; room = omega arith } in
      (head_form f s, body_form p (suc limit) small f.result 127 (behind_params f) f.body room s.rules.body s.form.body s.names.3 (omega arith))

standing : (p : t.Program) (limit : ℕ) (fs : List t.Fun) → AllByRecursion plain.IsFunForm fs → AllByRecursion (FunNames IsName) fs → AllByRecursion (FunFits p) fs → AllByRecursion (Short limit) fs →
    AllByRecursion (Stands p limit) fs
standing p limit [] forms names rules short = tt
standing p limit (f ∷ fs) forms names rules short =
    (record { form = forms.0; names = names.0; rules = rules.0; short = short.0 }, standing p limit fs forms.1 names.1 rules.1 short.1)

program_form : (p : t.Program) (limit : ℕ) → suc limit ≤ 2 ^ 32 → AllByRecursion (λ s. plain.IsStructForm s × StructNames IsName s) p.structs → AllByRecursion (Stands p limit) p.funs → IsForm (written.source p)
program_form p limit small structs funs = record {
  structs = mapped written.struct (λ s. plain.IsStructForm s × StructNames IsName s) IsStructForm struct_form p.structs structs;
  prototypes = mapped written.head (Stands p limit) IsHeadForm (head_form p limit small) p.funs funs;
  starters = mapped written.starter (Stands p limit) IsStarterForm (starter_form p limit small) (filter (is_started p.funs) p.funs) (kept (is_started p.funs) (Stands p limit) p.funs funs);
  funs = mapped written.fun (Stands p limit) IsFunForm (fun_form p limit small) p.funs funs;
}

-- what is written of a program whose text has fewer than 2 ^ 32 bytes is of the forms
pub written_forms : (bytes : List ℕ) (p : t.Program) → IsText IsName bytes p → length bytes < 2 ^ 32 → IsForm (written.source p)
written_forms bytes p h small =
    let same = ap length h.text in
    let forms = h.fragment.forms in
    program_form p (length (program_text p)) (omega arith)
    (both plain.IsStructForm (StructNames IsName) p.structs forms.structs h.names.0)
    (standing p (length (program_text p)) p.funs forms.funs h.names.1 h.fragment.rules.funs (short_program p))
