-- The functions with which threads begin are the same in a text and in its program.
use Rattle.std.proofs.Common.{◌≡◌, ◌∙◌, sym, ap, refl, ◌||◌, Bool, true, false, cond, filter, Option, Some, None, List, [], ◌∷◌, ◌++◌, map}
use Rattle.std.specs.List.{list_any}
use Rattle.std.specs.Str.{bytes_eq}
use Rattle.std.proofs.lemmas.Slice.Eq.{bytes_eq-Decides}
use Rattle.c_syntax.specs.declared.kind.CType.{CType}
use Rattle.c_syntax.specs.declared.kind.Local as plain
use Rattle.c_syntax.specs.declared.program.CMember.{CMember}
use Rattle.c_syntax.specs.Text as text
use Rattle.c_syntax.specs.Tree as t
use Rattle.c_syntax.specs.Tree.{Name}
use Rattle.c_forms.specs.declared.stmt.Maker.{Maker}
use Rattle.c_forms.specs.declared.stmt.Maker.TheVariants as maker
use Rattle.c_forms.specs.declared.word.Local.{Local}
use Rattle.c_forms.specs.Tree as w
use Rattle.c_rules.specs.Groups.{Taken, among, funs_starts, nothing, put, put_all, stmt_starts, stmts_starts}
use Rattle.c_rules.specs.Lines.{FirstValue, members_or_none, value_line}
use Rattle.c_rules.specs.Sorts.{Structs, local_of}
use Rattle.c_reader.specs.Standing.{Gathered, Structured, bare, begun, bind_of, expr_of, fun_of, gathered_line, given, line_of, loads_of, made_of, plain_line, stmt_of, stmts_of, structure_line}

-- ---- one line

made_starts : (m : Maker) (type : CType) (x : plain.Local) (e : t.Expr) → text.stmt_starts (made_of m type x e) ≡ []
made_starts maker.I64 type x e = refl
made_starts maker.Bool type x e = refl
made_starts maker.Atomic type x e = refl

bind_starts : (type : CType) (x : plain.Local) (right : w.Right) → text.stmt_starts (bind_of type x right) ≡ []
bind_starts type x (w.Value e) = refl
bind_starts type x (w.Load c) = refl
bind_starts type x (w.New m e) = made_starts m type x (expr_of e)
bind_starts type x (w.Array e n) = refl
bind_starts type x (w.Structure s) = refl
bind_starts type x w.Lock = refl
bind_starts type x (w.Call f args) = refl
bind_starts type x (w.AtomicLoad b) = refl
bind_starts type x w.Read = refl
bind_starts type x (w.Cas b o n) = refl

loads_starts : (ls : List w.LoadLine) → text.stmts_starts (loads_of ls) ≡ []
loads_starts [] = refl
loads_starts (l ∷ ls) = loads_starts ls

-- ---- a line with what follows it

-- what follows has those, whatever is gathered
abbrev Follows : (Option Gathered → t.Stmts) → List Name → Type 0
Follows rest names = (g : Option Gathered) → text.stmts_starts (rest g) ≡ names

begun_starts : (g : Gathered) (ms : List CMember) (rest : Option Gathered → t.Stmts) (names : List Name) → Follows rest names → text.stmts_starts (begun g ms rest) ≡ names
begun_starts g [] rest names h = h None
begun_starts g (m ∷ ms) rest names h = h (Some g)

-- a line that begins or goes on with a structure's block has none
block_starts : (s : w.Stmt) (b : Structured) → structure_line s ≡ Some b → stmt_starts s ≡ []
block_starts (w.Bind type x right) b h = refl
block_starts (w.Store c e) b h = refl
block_starts (w.Free x) b h = refl
block_starts (w.AtomicStore x e) b h = refl
block_starts (w.Acquire x) b h = refl
block_starts (w.Release x) b h = refl
block_starts (w.Print e) b h = refl
block_starts (w.CallStmt f args) b h = refl
block_starts (w.Par lines) b h = cc
block_starts (w.If e first second) b h = cc
block_starts (w.While ls e body) b h = cc
block_starts (w.Return e) b h = refl

pub value_starts : (x : Local) (s : w.Stmt) (v : FirstValue) → value_line x s ≡ Some v → stmt_starts s ≡ []
value_starts x (w.Bind type y right) v h = refl
value_starts x (w.Store c e) v h = refl
value_starts x (w.Free y) v h = refl
value_starts x (w.AtomicStore y e) v h = refl
value_starts x (w.Acquire y) v h = refl
value_starts x (w.Release y) v h = refl
value_starts x (w.Print e) v h = refl
value_starts x (w.CallStmt f args) v h = refl
value_starts x (w.Par lines) v h = cc
value_starts x (w.If e first second) v h = cc
value_starts x (w.While ls e body) v h = cc
value_starts x (w.Return e) v h = refl

module _ (structs : Structs) (s : w.Stmt) (made : t.Stmt) (same : text.stmt_starts made ≡ stmt_starts s) (rest : Option Gathered → t.Stmts) (names : List Name) (follows : Follows rest names) where
  by_itself : text.stmts_starts (t.more made (rest None)) ≡ stmt_starts s ++ names
  by_itself = ap (λ xs. xs ++ text.stmts_starts (rest None)) same ∙ ap (λ xs. stmt_starts s ++ xs) (follows None)

  plain_starts : (o : Option Structured) → structure_line s ≡ o → text.stmts_starts (plain_line structs o made rest) ≡ stmt_starts s ++ names
  plain_starts None h = by_itself
  plain_starts (Some b) h =
      begun_starts (bare structs b) (members_or_none (structs b.structure)) rest names follows ∙ sym (ap (λ xs. xs ++ names) (block_starts s b h))

  gathered_starts : (g : Gathered) (ms : List CMember) (o : Option FirstValue) → value_line g.local s ≡ o → text.stmts_starts (gathered_line g ms made o rest) ≡ stmt_starts s ++ names
  gathered_starts g [] None h = by_itself
  gathered_starts g [] (Some v) h = by_itself
  gathered_starts g (m ∷ ms) None h = by_itself
  gathered_starts g (m ∷ ms) (Some v) h = begun_starts (given g v ms) ms rest names follows ∙ sym (ap (λ xs. xs ++ names) (value_starts g.local s v h))

  line_starts : (g : Option Gathered) → text.stmts_starts (line_of structs g s made rest) ≡ stmt_starts s ++ names
  line_starts None = plain_starts (structure_line s) refl
  line_starts (Some g) = gathered_starts g g.members (value_line g.local s) refl

-- ---- statements

mutual
  stmt_starts_same : (structs : Structs) (s : w.Stmt) → text.stmt_starts (stmt_of structs s) ≡ stmt_starts s
  stmt_starts_same structs (w.Bind type x right) = bind_starts type (local_of x) right
  stmt_starts_same structs (w.Store c e) = refl
  stmt_starts_same structs (w.Free x) = refl
  stmt_starts_same structs (w.AtomicStore x e) = refl
  stmt_starts_same structs (w.Acquire x) = refl
  stmt_starts_same structs (w.Release x) = refl
  stmt_starts_same structs (w.Print e) = refl
  stmt_starts_same structs (w.CallStmt f args) = refl
  stmt_starts_same structs (w.Par lines) = refl
  stmt_starts_same structs (w.If e first second) =
      ap (λ xs. xs ++ text.stmts_starts (stmts_of structs second None)) (stmts_starts_same structs first None) ∙ ap (λ xs. stmts_starts first ++ xs) (stmts_starts_same structs second None)
  stmt_starts_same structs (w.While ls e body) = ap (λ xs. xs ++ text.stmts_starts (stmts_of structs body None)) (loads_starts ls) ∙ stmts_starts_same structs body None
  stmt_starts_same structs (w.Return e) = refl

  pub stmts_starts_same : (structs : Structs) (list : w.Stmts) (g : Option Gathered) → text.stmts_starts (stmts_of structs list g) ≡ stmts_starts list
  stmts_starts_same structs w.end g = refl
  stmts_starts_same structs (w.more s rest) g =
      line_starts structs s (stmt_of structs s) (stmt_starts_same structs s) (stmts_of structs rest) (stmts_starts rest) (λ k. stmts_starts_same structs rest k) g

-- ---- functions

pub funs_starts_same : (structs : Structs) (fs : List w.Fun) → text.funs_starts (map (fun_of structs) fs) ≡ funs_starts fs
funs_starts_same structs [] = refl
funs_starts_same structs (f ∷ fs) =
    ap (λ xs. xs ++ text.funs_starts (map (fun_of structs) fs)) (stmts_starts_same structs f.body None) ∙ ap (λ xs. stmts_starts f.body ++ xs) (funs_starts_same structs fs)

-- the test on names is the same from both sides
same_test : (b c : Bool) → (b ≡ true → c ≡ true) → (c ≡ true → b ≡ true) → b ≡ c
same_test true true h k = refl
same_test true false h k = sym (h refl)
same_test false true h k = k refl
same_test false false h k = refl

pub eq_swap : (x y : Name) → bytes_eq x y ≡ bytes_eq y x
eq_swap x y =
    same_test (bytes_eq x y) (bytes_eq y x)
    (λ h. (bytes_eq-Decides y x).1 (sym ((bytes_eq-Decides x y).0 h)))
    (λ h. (bytes_eq-Decides x y).1 (sym ((bytes_eq-Decides y x).0 h)))

-- a name is among these if it is one of them, or was taken before
taken_is : (names : List Name) (taken : Taken) (q : Name) → put_all names taken q ≡ (list_any (bytes_eq q) names || taken q)
taken_is [] taken q = refl
taken_is (x ∷ names) taken q = taken_is names (put x taken) q ∙ later (bytes_eq x q) (bytes_eq q x) (list_any (bytes_eq q) names) (taken q) (eq_swap x q)
  where
    later : (b c any before : Bool) → b ≡ c → (any || cond b true before) ≡ ((c || any) || before)
    later true true true before h = refl
    later true true false before h = refl
    later true false any before h = cc
    later false true any before h = cc
    later false false true before h = refl
    later false false false before h = refl

pub among_is : (names : List Name) (q : Name) → among names q ≡ list_any (bytes_eq q) names
among_is names q = taken_is names nothing q ∙ none (list_any (bytes_eq q) names)
  where
    none : (b : Bool) → (b || false) ≡ b
    none true = refl
    none false = refl

-- the same functions begin threads
pub filter_same : (structs : Structs) (names others : List Name) (fs : List w.Fun) → others ≡ names →
    filter (λ f. list_any (bytes_eq f.name) others) (map (fun_of structs) fs) ≡ map (fun_of structs) (filter (λ f. among names f.head.name) fs)
filter_same structs names others [] e = refl
filter_same structs names others (f ∷ fs) e = rest (among names f.head.name) (list_any (bytes_eq f.head.name) others) (ap (λ xs. list_any (bytes_eq f.head.name) xs) e ∙ sym (among_is names f.head.name)) (filter_same structs names others fs e)
  where
    rest : (b c : Bool) → c ≡ b → filter (λ f. list_any (bytes_eq f.name) others) (map (fun_of structs) fs) ≡ map (fun_of structs) (filter (λ f. among names f.head.name) fs) →
        cond c (fun_of structs f ∷ filter (λ f. list_any (bytes_eq f.name) others) (map (fun_of structs) fs)) (filter (λ f. list_any (bytes_eq f.name) others) (map (fun_of structs) fs))
        ≡ map (fun_of structs) (cond b (f ∷ filter (λ f. among names f.head.name) fs) (filter (λ f. among names f.head.name) fs))
    rest true true h k = ap (λ xs. fun_of structs f ∷ xs) k
    rest true false h k = cc
    rest false true h k = cc
    rest false false h k = k
