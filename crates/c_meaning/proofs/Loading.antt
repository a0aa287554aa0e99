-- Functions that were loaded stay as the table grows.
use Rattle.std.proofs.Common.{◌≡◌, ℕ, zero, suc, ◌+◌, ◌≤◌, ◌<◌, arith, List, [], ◌∷◌, ◌++◌, Some, None, refl, sym, ap, ◌∙◌, length, map, drop, slice_get, subst, max}
use Rattle.std.proofs.Math.Seq.{drop-cons}
use Rattle.std.proofs.Math.ListN.{get_or}
use native.Mathlib.Numerals.{unary_clauses}
use Rattle.c_syntax.specs.Plain.{plain_fun, plain_stmts, plain_program}
use Rattle.c_syntax.specs.declared.program.CFun.{CFun}
use Rattle.c_syntax.specs.declared.program.CStruct.{CStruct}
use Rattle.c_syntax.specs.declared.program.CProgram.{CProgram}
use Rattle.c_meaning.specs.declared.code.Block.{Block}
use Rattle.c_meaning.specs.declared.thread.Function as rust
use Rattle.c_meaning.specs.Tree.{Stmts, Function, greatest}
use Rattle.c_meaning.specs.Local.{nest}
use Rattle.c_meaning.specs.Blocks.{IsTable, tree}
use Rattle.c_meaning.specs.Resolve.{function_of, functions_of, function_with, resolved, pointers_of, pointers_in}
use Rattle.c_meaning.specs.Compiled.{Extends, Compiled, names_with}
use Rattle.c_meaning.specs.Machine.{IsCode, IsDeep, function_shown, functions_shown}
use Rattle.std.specs.Prelude.{codes, ℤ}
use Rattle.c_meaning.specs.Resolve.{place_of, main_place}
use Rattle.c_meaning.specs.Effects.{World}
use Rattle.c_meaning.specs.Events.{State, Thread, begun, blank, function_numbered}
use Rattle.c_meaning.specs.Steps.{start_of}
use Rattle.c_meaning.specs.Loads.{Loaded, AllLoaded}
use Rattle.c_meaning.proofs.Tables.{tree_same, longer}

pub loaded : (T T' : List Block) (b : Stmts) (r : rust.Function) (depth top params : ℕ) → Compiled T T' b r.body depth top → r.depth ≡ depth → r.slots ≡ suc (max params top) → Loaded T T' r (function_with params b)
loaded T T' b r depth top params k d s = record {
  extends = k.extends;
  table = k.table;
  below = k.below;
  shown = shown_as (tree T' r.body) r.slots b k.same (s ∙ ap (λ z. suc (max params z)) k.most);
  deep = omega (arith, ap nest k.same, k.deep, d);
}
  where
    shown_as : (x : Stmts) (n : ℕ) (b : Stmts) → x ≡ b → n ≡ suc (max params (greatest b)) → record { body = x; slots = n } ≡ function_with params b
    shown_as x n b e f = cc (e, f)

stays : (T U : List Block) → IsTable T → Extends T U → (f : rust.Function) → f.body < length T → function_shown U f ≡ function_shown T f
stays T U is e f h = ap (with_slots f.slots) (tree_same T U is e f.body h)
  where
    with_slots : ℕ → Stmts → Function
    with_slots n b = record { body = b; slots = n }

all_stay : (T U : List Block) → IsTable T → Extends T U → (fs : List rust.Function) → AllLoaded T fs → AllLoaded U fs × (functions_shown U fs ≡ functions_shown T fs)
all_stay T U is e [] h = (tt, refl)
all_stay T U is e (f ∷ fs) h =
    let r = all_stay T U is e fs h.2 in
    ((omega (arith, h.0, longer T U e), omega (arith, h.1, ap nest (tree_same T U is e f.body h.0)), r.0), cc (stays T U is e f h.0, r.1))

all_snoc : (T : List Block) (fs : List rust.Function) (f : rust.Function) → AllLoaded T fs → f.body < length T → nest (tree T f.body) ≤ f.depth → AllLoaded T (fs ++ f ∷ [])
all_snoc T [] f h b d = (b, d, tt)
all_snoc T (x ∷ fs) f h b d = (h.0, h.1, all_snoc T fs f h.2 b d)

shown_more : (T : List Block) (fs : List rust.Function) (f : rust.Function) (rest : List Function) → functions_shown T (fs ++ f ∷ []) ++ rest ≡ functions_shown T fs ++ function_shown T f ∷ rest
shown_more T [] f rest = refl
shown_more T (x ∷ fs) f rest = ap (λ z. function_shown T x ∷ z) (shown_more T fs f rest)

-- the functions so far, and those that are left
pub record Loading (T : List Block) (fs : List rust.Function) (whole rest : List Function) : Type 0 where
  pub table : IsTable T
  pub all : AllLoaded T fs
  pub shown : functions_shown T fs ++ rest ≡ whole

pub loads_one : (T U : List Block) (fs now : List rust.Function) (f : rust.Function) (whole rest : List Function) (g : Function) → Loading T fs whole (g ∷ rest) → Loaded T U f g → now ≡ fs ++ f ∷ [] → Loading U now whole rest
loads_one T U fs now f whole rest g l k is =
    let s = all_stay T U l.table k.extends fs l.all in record {
      table = k.table;
      all = subst (AllLoaded U) (sym is) (all_snoc U fs f s.0 k.below k.deep);
      shown = ap (λ z. functions_shown U z ++ rest) is ∙ (shown_more U fs f rest ∙ (cc (s.1, k.shown) ∙ l.shown));
    }

deep_at : (T : List Block) (fs : List rust.Function) (k : ℕ) → AllLoaded T fs → IsDeep T (slice_get fs k)
deep_at T [] k h = tt
deep_at T (f ∷ fs) zero h = h.1
deep_at T (f ∷ fs) (suc k) h = deep_at T fs k h.2

pub loads_code : (T : List Block) (fs : List rust.Function) (whole rest : List Function) → Loading T fs whole rest → IsCode T fs
loads_code T fs whole rest l = record { table = l.table; deep = λ k. deep_at T fs k l.all }

append_none : (xs rest : List Function) → rest ≡ [] → xs ++ rest ≡ xs
append_none [] rest h = h
append_none (x ∷ xs) rest h = ap (λ z. x ∷ z) (append_none xs rest h)

pub loads_all : (T : List Block) (fs : List rust.Function) (whole rest : List Function) → Loading T fs whole rest → rest ≡ [] → functions_shown T fs ≡ whole
loads_all T fs whole rest l h = sym (append_none (functions_shown T fs) rest h) ∙ l.shown

-- the names of a program's functions
pub names_plain : (fs : List CFun) → map (λ g. g.name) (map plain_fun fs) ≡ map (λ f. f.name) fs
names_plain [] = refl
names_plain (f ∷ fs) = ap (λ z. f.name ∷ z) (names_plain fs)

-- a function as it is loaded
abbrev pub as_loaded : List CStruct → List CFun → CFun → Function
as_loaded structs funs f = function_with (length f.params) (resolved (names_with structs funs (pointers_of structs f.params ++ pointers_in structs (plain_stmts f.body))) (plain_stmts f.body))

abbrev with_names : List CStruct → CFun → List (List ℕ) → Function
with_names structs f names = function_with (length f.params) (resolved (record { structs = structs; functions = names; pointers = pointers_of structs f.params ++ pointers_in structs (plain_stmts f.body) }) (plain_stmts f.body))

one_of : (p : CProgram) (f : CFun) → function_of (plain_program p) (plain_fun f) ≡ as_loaded p.structs p.funs f
one_of p f = ap (with_names p.structs f) (names_plain p.funs)

all_of : (p : CProgram) (fs : List CFun) → map (function_of (plain_program p)) (map plain_fun fs) ≡ map (as_loaded p.structs p.funs) fs
all_of p [] = refl
all_of p (f ∷ fs) = cc (one_of p f, all_of p fs)

pub functions_are : (p : CProgram) → functions_of (plain_program p) ≡ map (as_loaded p.structs p.funs) p.funs
functions_are p = all_of p p.funs

pub fun_in : (g : CFun → Function) (list : List CFun) (i : ℕ) (f : CFun) → f ≡ get_or list i f → i < length list → map g (drop i list) ≡ g f ∷ map g (drop (i + 1) list)
fun_in g list i f is lt =
    let d : drop i list ≡ get_or list i f ∷ drop (i + 1) list = simp unary_clauses (drop-cons list i f lt) in
    ap (map g) d ∙ ap (λ z. g z ∷ map g (drop (i + 1) list)) (sym is)

-- the one thread of the start
abbrev pub first_of : List Function → ℕ → List Thread
first_of F m = (begun (function_numbered F (Some m)) (blank (function_numbered F (Some m))) None ∷ []) ∷ []

abbrev made : World → List Thread → State
made w ts = record { world = w; threads = ts }

pub starts : (p : CProgram) (input : List ℤ) (F : List Function) (m : ℕ) (name : List ℕ) (w : World) (ts : List Thread) → F ≡ functions_of (plain_program p) → name ≡ codes "main" → m ≡ place_of (map (λ f. f.name) p.funs) name → w ≡ record { blocks = []; locks = []; input = input; outputs = [] } → ts ≡ first_of F m → record { world = w; threads = ts } ≡ start_of (plain_program p) input
starts p input F m name w ts f n k h t =
    let at : m ≡ main_place (plain_program p) = k ∙ (ap (place_of (map (λ f. f.name) p.funs)) n ∙ ap (λ z. place_of z (codes "main")) (sym (names_plain p.funs))) in
    let one : ts ≡ first_of (functions_of (plain_program p)) (main_place (plain_program p)) = t ∙ (ap (λ z. first_of z m) f ∙ ap (first_of (functions_of (plain_program p))) at) in
    ap (λ z. made z ts) h ∙ ap (made (record { blocks = []; locks = []; input = input; outputs = [] })) one
