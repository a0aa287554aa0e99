-- Readers one behind the other, where the first has read.
use Rattle.std.proofs.Common.{◌≡◌, ℕ, ◌+◌, List, refl, sym, subst, ap, ◌∙◌}
use Rattle.std.specs.Prelude.{Result, Ok, Err, codes}
use Rattle.pl_readers.specs.Bytes.{word}
use Rattle.pl_readers.specs.Given.{Fails}
use Rattle.pl_readers.specs.declared.error.ReadError.{ReadError}
use Rattle.pl_readers.specs.declared.error.Stop.{Stop}
use Rattle.pl_readers.proofs.Failing.{Fails-then}
use Rattle.pl_readers.specs.Reader.{Reader, ◌>>=◌, mapped}
use Rattle.c_forms.specs.declared.word.Number.{Number}
use Rattle.c_forms.specs.Tree.{Name, Expr, LoadLine, Stmt}
use Rattle.c_forms.specs.Tree as t
use Rattle.c_forms.specs.Reading.{after, both, ended_by}
use Rattle.c_forms.specs.Plain.{chain}
use Rattle.c_forms.specs.StmtReaders.{rows, loop_heads, while_lines}
use Rattle.c_forms.specs.Names.{name}
use Rattle.c_forms.specs.SourceReaders.{copies, starter_call, starter_code}

-- a word behind what was read
pub ended_goes : {A : Type 0} (P : Reader ℕ A) (s xs ys zs : List ℕ) (a : A) → P xs ≡ Ok (a, ys) → word s ys ≡ Ok (tt, zs) → ended_by P s xs ≡ Ok (a, zs)
ended_goes P s xs ys zs a h k =
    ap (λ r. r >>= λ p. (word s p.1 >>= λ q. Ok (p.0, q.1))) h ∙ ap (λ r. r >>= λ q. Ok (a, q.1)) k

abbrev with_head : List LoadLine → Expr → List Stmt × List ℕ → Result (((List LoadLine × Expr) × List Stmt) × List ℕ) Stop
with_head loads e p = Ok (((loads, e), p.0), p.1)

abbrev looped : ((List LoadLine × Expr) × List Stmt) × List ℕ → Result (Stmt × List ℕ) Stop
looped p = Ok (t.While p.0.0.0 p.0.0.1 (chain p.0.1), p.1)

abbrev pub looped_with : List LoadLine → Expr → List Stmt × List ℕ → Result (Stmt × List ℕ) Stop
looped_with loads e p = Ok (t.While loads e (chain p.0), p.1)

looped_again : (loads : List LoadLine) (e : Expr) (r : Result (List Stmt × List ℕ) Stop) → ((r >>= with_head loads e) >>= looped) ≡ (r >>= looped_with loads e)
looped_again loads e (Ok x) = refl
looped_again loads e (Err x) = refl

-- a loop, behind its head
pub while_behind : (n : ℕ) (P : Reader ℕ Stmt) (xs ys zs : List ℕ) (loads : List LoadLine) (e : Expr) → word (codes "while (1) {\n") xs ≡ Ok (tt, ys) → loop_heads (n + 1) ys ≡ Ok ((loads, e), zs)
    → while_lines n P xs ≡ (ended_by (rows n P) (codes "}\n") zs >>= looped_with loads e)
unfolding while_lines
while_behind n P xs ys zs loads e h k = rw (h, k) (looped_again loads e (ended_by (rows n P) (codes "}\n") zs))

-- what refuses behind what was read
pub ended_fails : {A : Type 0} (x : ReadError) (P : Reader ℕ A) (s xs ys : List ℕ) (a : A) → P xs ≡ Ok (a, ys) → Fails x (word s ys) → Fails x (ended_by P s xs)
ended_fails x P s xs ys a h k = subst (Fails x) (sym (ap (λ r. r >>= λ p. (word s p.1 >>= λ q. Ok (p.0, q.1))) h)) (Fails-then x (word s ys) (λ q. Ok (a, q.1)) k)

pub while_fails : (x : ReadError) (n : ℕ) (P : Reader ℕ Stmt) (xs ys zs : List ℕ) (loads : List LoadLine) (e : Expr) → word (codes "while (1) {\n") xs ≡ Ok (tt, ys) → loop_heads (n + 1) ys ≡ Ok ((loads, e), zs)
    → Fails x (ended_by (rows n P) (codes "}\n") zs) → Fails x (while_lines n P xs)
while_fails x n P xs ys zs loads e h k f = subst (Fails x) (sym (while_behind n P xs ys zs loads e h k)) (Fails-then x (ended_by (rows n P) (codes "}\n") zs) (looped_with loads e) f)

pub while_goes : (n : ℕ) (P : Reader ℕ Stmt) (xs ys zs ws : List ℕ) (loads : List LoadLine) (e : Expr) (body : List Stmt) → word (codes "while (1) {\n") xs ≡ Ok (tt, ys) → loop_heads (n + 1) ys ≡ Ok ((loads, e), zs)
    → ended_by (rows n P) (codes "}\n") zs ≡ Ok (body, ws) → while_lines n P xs ≡ Ok (t.While loads e (chain body), ws)
while_goes n P xs ys zs ws loads e body h k f = while_behind n P xs ys zs loads e h k ∙ ap (λ (r : Result (List Stmt × List ℕ) Stop). r >>= looped_with loads e) f

-- ---- what stands in a starter

-- a word has been read
pub after_goes : {A : Type 0} (s : List ℕ) (P : Reader ℕ A) (xs ys : List ℕ) → word s xs ≡ Ok (tt, ys) → after s P xs ≡ P ys
after_goes s P xs ys h = ap (λ (r : Result (Unit {0} × List ℕ) Stop). r >>= λ p. P p.1) h

-- the first of two has read
pub both_goes : {A B : Type 0} (P : Reader ℕ A) (Q : Reader ℕ B) (xs ys : List ℕ) (a : A) → P xs ≡ Ok (a, ys) → both P Q xs ≡ mapped (λ b. (a, b)) Q ys
both_goes {A} {B} P Q xs ys a h = ap (λ (r : Result (A × List ℕ) Stop). r >>= λ p. mapped (λ b. (p.0, b)) Q p.1) h

abbrev Call : Type 0
Call = Name × List Number

abbrev pub with_copies : Name × Name → Call × List ℕ → Result (((Name × Name) × Call) × List ℕ) Stop
with_copies y p = Ok ((y, p.0), p.1)

abbrev pub with_name : Name → ((Name × Name) × Call) × List ℕ → Result ((Name × ((Name × Name) × Call)) × List ℕ) Stop
with_name x p = Ok ((x, p.0), p.1)

code_behind : (xs a b c d : List ℕ) (x : Name) (y : Name × Name) → word (codes "static int t_") xs ≡ Ok (tt, a) → name a ≡ Ok (x, b) → word (codes "(void *p) {\n  struct a_") b ≡ Ok (tt, c) → copies c ≡ Ok (y, d)
    → starter_code xs ≡ ((starter_call d >>= with_copies y) >>= with_name x)
unfolding starter_code
code_behind xs a b c d x y h k l m =
    after_goes (codes "static int t_") (both name (after (codes "(void *p) {\n  struct a_") (both copies starter_call))) xs a h
    ∙ both_goes name (after (codes "(void *p) {\n  struct a_") (both copies starter_call)) a b x k
    ∙ ap (λ (r : Result (((Name × Name) × Call) × List ℕ) Stop). r >>= with_name x) (after_goes (codes "(void *p) {\n  struct a_") (both copies starter_call) b c l ∙ both_goes copies starter_call c d y m)

pub code_goes : (xs a b c d f : List ℕ) (x : Name) (y : Name × Name) (z : Call) → word (codes "static int t_") xs ≡ Ok (tt, a) → name a ≡ Ok (x, b) → word (codes "(void *p) {\n  struct a_") b ≡ Ok (tt, c) → copies c ≡ Ok (y, d)
    → starter_call d ≡ Ok (z, f) → starter_code xs ≡ Ok ((x, (y, z)), f)
code_goes xs a b c d f x y z h k l m n =
    code_behind xs a b c d x y h k l m ∙ ap (λ (r : Result (Call × List ℕ) Stop). (r >>= with_copies y) >>= with_name x) n

pub code_fails : (e : ReadError) (xs a b c d : List ℕ) (x : Name) (y : Name × Name) → word (codes "static int t_") xs ≡ Ok (tt, a) → name a ≡ Ok (x, b) → word (codes "(void *p) {\n  struct a_") b ≡ Ok (tt, c) → copies c ≡ Ok (y, d)
    → Fails e (starter_call d) → Fails e (starter_code xs)
code_fails e xs a b c d x y h k l m f =
    subst (Fails e) (sym (code_behind xs a b c d x y h k l m)) (Fails-then e (starter_call d >>= with_copies y) (with_name x) (Fails-then e (starter_call d) (with_copies y) f))
