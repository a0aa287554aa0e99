-- The threads of a program, and the threads of what is written of it.
use Rattle.std.proofs.Common.{◌≡◌, ◌∙◌, sym, ap, refl, ℕ, ◌+◌, ◌==◌, ◌&&◌, ◌||◌, Bool, true, false, cond, Some, List, [], ◌∷◌, ◌++◌, length, map, filter, drop}
use Rattle.std.specs.Cmp.{unsigned_Decides}
use Rattle.std.specs.List.{AllByRecursion, list_any}
use Rattle.std.specs.Str.{bytes_eq}
use Rattle.std.proofs.lemmas.Bool.{and_from}
use Rattle.c_syntax.specs.declared.kind.Local as plain
use Rattle.c_syntax.specs.declared.program.CParam.{CParam}
use Rattle.c_syntax.specs.Forms.{AreLoads, AreStmtForms, IsFunForm, IsStmtForm}
use Rattle.c_syntax.specs.Text as text
use Rattle.c_syntax.specs.Text.{is_started}
use Rattle.c_syntax.specs.Tree as t
use Rattle.c_syntax.specs.Tree.{Name}
use Rattle.c_forms.specs.declared.source.Head.{Head}
use Rattle.c_forms.specs.Text.{arguments_struct, starter_text}
use Rattle.c_forms.specs.Tree as w
use Rattle.c_rules.specs.Groups.{Taken, among, are_numbered, funs_starts, has_function, has_struct, missing, nothing, put, put_all, same_slots, started, starter_breaches, starters_breaches, stmts_starts}
use Rattle.c_rules.specs.Kinds.{same_type}
use Rattle.c_rules.specs.Sorts.{unless}
use Rattle.c_reader.proofs.Breachless.{join_none, no_breach, same_self}
use Rattle.c_reader.proofs.NoBreachGroups.{flip_bytes, same_bytes}
use Rattle.c_reader.proofs.Written as written

-- ---- the functions with which threads begin

-- no thread begins in the head of a loop
loads_starts : (ls : t.Stmts) → AreLoads ls → text.stmts_starts ls ≡ []
loads_starts t.end f = refl
loads_starts (t.more (t.Load type x c) rest) f = loads_starts rest f
loads_starts (t.more _ rest) f = absurd f

inits_starts : (x : plain.Local) (is : List t.Init) (rest : w.Stmts) → stmts_starts (written.inits x is rest) ≡ stmts_starts rest
inits_starts x [] rest = refl
inits_starts x (i ∷ is) rest = inits_starts x is rest

mutual
  lines_starts : (u : t.Stmt) → IsStmtForm u → (rest : w.Stmts) → stmts_starts (written.lines u rest) ≡ text.stmt_starts u ++ stmts_starts rest
  lines_starts (t.Let type x e) f rest = refl
  lines_starts (t.Load type x c) f rest = refl
  lines_starts (t.Store c e) f rest = refl
  lines_starts (t.New type x e) f rest = refl
  lines_starts (t.NewArray type x e n) f rest = refl
  lines_starts (t.NewAtomic x e) f rest = refl
  lines_starts (t.NewStruct x s is) f rest = inits_starts x is rest
  lines_starts (t.Free x) f rest = refl
  lines_starts (t.AtomicLoad x y) f rest = refl
  lines_starts (t.AtomicStore x e) f rest = refl
  lines_starts (t.Cas x y o n) f rest = refl
  lines_starts (t.NewLock x) f rest = refl
  lines_starts (t.Acquire x) f rest = refl
  lines_starts (t.Release x) f rest = refl
  lines_starts (t.Read x) f rest = refl
  lines_starts (t.Print e) f rest = refl
  lines_starts (t.Call g args) f rest = refl
  lines_starts (t.CallLet type x g args) f rest = refl
  lines_starts (t.Par g args k others) f rest = refl
  lines_starts (t.If e a b) f rest =
      ap (λ names. (names ++ stmts_starts (written.stmts b)) ++ stmts_starts rest) (same_starts a f.1) ∙ ap (λ names. (text.stmts_starts a ++ names) ++ stmts_starts rest) (same_starts b f.2)
  lines_starts (t.While ls e b) f rest =
      ap (λ names. names ++ stmts_starts rest) (same_starts b f.3) ∙ ap (λ names. (names ++ text.stmts_starts b) ++ stmts_starts rest) (sym (loads_starts ls f.0))
  lines_starts (t.Return e) f rest = refl

  same_starts : (ts : t.Stmts) → AreStmtForms ts → stmts_starts (written.stmts ts) ≡ text.stmts_starts ts
  same_starts t.end f = refl
  same_starts (t.more u rest) f = lines_starts u f.0 (written.stmts rest) ∙ ap (λ names. text.stmt_starts u ++ names) (same_starts rest f.1)

funs_same : (fs : List t.Fun) → AllByRecursion IsFunForm fs → funs_starts (map written.fun fs) ≡ text.funs_starts fs
funs_same [] f = refl
funs_same (g ∷ fs) f =
    ap (λ names. names ++ funs_starts (map written.fun fs)) (same_starts g.body f.0.body) ∙ ap (λ names. text.stmts_starts g.body ++ names) (funs_same fs f.1)

-- ---- names among others

put_among : (taken : Taken) (names : List Name) (y : Name) → put_all names taken y ≡ (list_any (bytes_eq y) names || taken y)
put_among taken [] y = refl
put_among taken (x ∷ xs) y =
    put_among (put x taken) xs y ∙ ap (λ b. list_any (bytes_eq y) xs || cond b true (taken y)) (flip_bytes x y) ∙ swapped (bytes_eq y x) (list_any (bytes_eq y) xs) (taken y)
  where
    swapped : (a b c : Bool) → (b || cond a true c) ≡ ((a || b) || c)
    swapped true true c = refl
    swapped true false c = refl
    swapped false true c = refl
    swapped false false c = refl

among_any : (names : List Name) (y : Name) → among names y ≡ list_any (bytes_eq y) names
among_any names y = put_among nothing names y ∙ whole (list_any (bytes_eq y) names)
  where
    whole : (b : Bool) → (b || false) ≡ b
    whole true = refl
    whole false = refl

-- ---- the heads of these functions

kept : (b : Bool) (f : t.Fun) (xs : List w.Fun) (ys : List t.Fun) → map (λ f. f.head) xs ≡ map written.head ys →
    map (λ f. f.head) (cond b (written.fun f ∷ xs) xs) ≡ map written.head (cond b (f ∷ ys) ys)
kept true f xs ys h = ap (λ hs. written.head f ∷ hs) h
kept false f xs ys h = h

kept_heads : (test : w.Fun → Bool) (other : t.Fun → Bool) → ((f : t.Fun) → test (written.fun f) ≡ other f) → (fs : List t.Fun) →
    map (λ f. f.head) (filter test (map written.fun fs)) ≡ map written.head (filter other fs)
kept_heads test other h [] = refl
kept_heads test other h (f ∷ fs) =
    let xs = filter test (map written.fun fs) in
    ap (λ b. map (λ g. g.head) (cond b (written.fun f ∷ xs) xs)) (h f) ∙ kept (other f) f xs (filter other fs) (kept_heads test other h fs)

pub started_heads : (fs : List t.Fun) → AllByRecursion IsFunForm fs → started (map written.fun fs) ≡ map written.head (filter (is_started fs) fs)
started_heads fs form =
    kept_heads (λ f. among (funs_starts (map written.fun fs)) f.head.name) (is_started fs)
    (λ f. among_any (funs_starts (map written.fun fs)) f.name ∙ ap (λ names. list_any (bytes_eq f.name) names) (funs_same fs form)) fs

-- ---- starters

slots_same : (k : ℕ) (ps : List CParam) → same_slots k (written.slots k ps) (map written.param ps) ≡ true
slots_same k [] = refl
slots_same k (p ∷ ps) =
    let a = same_type p.kind p.kind in
    let b = k == k in
    and_from (a && b) (same_slots (k + 1) (written.slots (k + 1) ps) (map written.param ps)) (and_from a b (same_self p.kind) ((unsigned_Decides k k).1 refl)) (slots_same (k + 1) ps)

numbers_same : (k : ℕ) (ps : List CParam) → are_numbered k (written.numbers k ps) ≡ true
numbers_same k [] = refl
numbers_same k (p ∷ ps) = and_from (k == k) (are_numbered (k + 1) (written.numbers (k + 1) ps)) ((unsigned_Decides k k).1 refl) (numbers_same (k + 1) ps)

numbers_count : (k : ℕ) (ps : List CParam) → length (written.numbers k ps) ≡ length (map written.param ps)
numbers_count k [] = refl
numbers_count k (p ∷ ps) = let e = numbers_count (k + 1) ps in cc

struct_there : (f : t.Fun) → has_struct (written.starter f) (written.head f) ≡ true
struct_there f = and_from (bytes_eq f.name f.name) (same_slots 1 (written.slots 1 f.params) (map written.param f.params)) (same_bytes f.name) (slots_same 1 f.params)

function_there : (f : t.Fun) → has_function (written.starter f) (written.head f) ≡ true
function_there f =
    let b = bytes_eq f.name f.name in
    let n = are_numbered 1 (written.numbers 1 f.params) in
    let l = length (written.numbers 1 f.params) == length (map written.param f.params) in
    let e = same_bytes f.name in
    and_from (b && b && b && b && n) l (and_from (b && b && b && b) n (and_from (b && b && b) b (and_from (b && b) b (and_from b b e e) e) e) (numbers_same 1 f.params))
    ((unsigned_Decides (length (written.numbers 1 f.params)) (length (map written.param f.params))).1 (numbers_count 1 f.params))

pub starters_found : (at : ℕ) (fs : List t.Fun) → starters_breaches at (map written.starter fs) (map written.head fs) ≡ []
starters_found at [] = refl
starters_found at (f ∷ fs) =
    let s = written.starter f in
    let h = written.head f in
    let behind = at + length (starter_text s) in
    let place = at + length (arguments_struct s) in
    join_none (starter_breaches at s (Some h)) (starters_breaches behind (map written.starter fs) (map written.head fs))
    (ap (λ b. cond b (unless (has_function s h) place) (at ∷ [])) (struct_there f) ∙ no_breach (has_function s h) place (function_there f)) (starters_found behind fs)

-- none lacks a starter
dropped : (fs : List t.Fun) → map (λ (h : Head). h.name) (drop (length (map written.starter fs)) (map written.head fs)) ≡ []
dropped [] = refl
dropped (f ∷ fs) = dropped fs

pub none_missing : (p : t.Program) → AllByRecursion IsFunForm p.funs → missing (written.source p) ≡ []
none_missing p form =
    let fs = filter (is_started p.funs) p.funs in
    ap (λ (hs : List Head). map (λ (h : Head). h.name) (drop (length (map written.starter fs)) hs)) (started_heads p.funs form) ∙ dropped fs
