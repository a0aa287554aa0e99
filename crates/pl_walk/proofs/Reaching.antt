-- How far a walk has come in a list of statements that keep the sort rules.
use Rattle.std.proofs.Common.{◌≡◌, ℕ, zero, suc, ◌+◌, ◌≤◌, ◌<◌, get_or, map, Bool, true, false, Option, Some, None, List, [], ◌∷◌, ◌++◌, length, slice_get, refl, sym, ap, ◌∙◌, subst, arith, append_assoc, length-append, cond}
use Rattle.std.proofs.lemmas.List.{append-nil}
use Rattle.std.proofs.lemmas.Option.{slice_get_read, slice_get-map}
use Rattle.std.specs.Prelude.{Err, option_map}
use Rattle.pl_syntax.specs.Plain.{plain_stmt}
use Rattle.pl_syntax.specs.declared.stmt.Stmt as stmt
use Rattle.pl_walk.specs.declared.walk.WalkError.{WalkError}
use Rattle.pl_walk.specs.declared.walk.WalkError.TheVariants as e
use Rattle.pl_walk.specs.Says.{StatementSays, ListSays}
use Rattle.std.specs.Str.{bytes_eq}
use Rattle.pl_base.specs.Permission.{whole}
use Rattle.pl_syntax.specs.declared.expr.Sort.{Sort}
use Rattle.pl_syntax.specs.declared.expr.Sort.TheVariants.{I64, RefI64}
use Rattle.pl_syntax.specs.Places.{pos_of}
use Rattle.pl_syntax.specs.Tree.{Name, Expr, Int, Var, CellExpr, Whole, Stmt, Load, Alloc, Free, Print}
use Rattle.pl_syntax.specs.Straight.{Scope, sort_of, IsInteger, IsCell, AreSorted}
use Rattle.pl_terms.specs.declared.term.Term.{Term}
use Rattle.pl_terms.specs.declared.term.Term.TheVariants.{Literal}
use Rattle.pl_walk.specs.declared.walk.Duty.{Duty}
use Rattle.pl_terms.specs.Terms.{Atom, Points, Block}
use Rattle.pl_terms.specs.Table.{Names, put, Known, start, term_of, next_of, AllocRule, LoadRule, FreeRule}
use Rattle.pl_walk.specs.Walk.{WalksOver, Walks, Refuses, Stops}
use Rattle.pl_walk.specs.Ready.{IsPointer, IsPointerCell, IsLiteral, Ready}

abbrev AgreesAt : Option Sort → Option Term → Type 0
AgreesAt None t = Unit {0}
AgreesAt (Some I64) t = IsLiteral t
AgreesAt (Some RefI64) t = IsPointer t
AgreesAt (Some _) t = Unit {0}

-- each name stands for a term of its sort
pub record Agrees (scope : Scope) (names : Names) : Type 0 where
  pub at : (y : Name) → AgreesAt (sort_of y scope) (names y)

-- each points-to holds a literal
abbrev pub AreLiterals : List Atom → Type 0
AreLiterals [] = Unit {0}
AreLiterals (Points b q v ∷ rest) = IsLiteral (Some v) × AreLiterals rest
AreLiterals (Block b n ∷ rest) = AreLiterals rest

pub literals_both : (xs ys : List Atom) → AreLiterals xs → AreLiterals ys → AreLiterals (xs ++ ys)
literals_both [] ys h k = k
literals_both (Points b q v ∷ xs) ys h k = (h.0, literals_both xs ys h.1 k)
literals_both (Block b n ∷ xs) ys h k = literals_both xs ys h k

pub literals_front : (xs ys : List Atom) → AreLiterals (xs ++ ys) → AreLiterals xs
literals_front [] ys h = tt
literals_front (Points b q v ∷ xs) ys h = (h.0, literals_front xs ys h.1)
literals_front (Block b n ∷ xs) ys h = literals_front xs ys h

pub literals_back : (xs ys : List Atom) → AreLiterals (xs ++ ys) → AreLiterals ys
literals_back [] ys h = h
literals_back (Points b q v ∷ xs) ys h = literals_back xs ys h.1
literals_back (Block b n ∷ xs) ys h = literals_back xs ys h

module _ (scope : Scope) (names : Names) (agrees : Agrees scope names) where
  -- a name of a sort stands for a term of that sort
  agrees_at : (x : Name) (s : Sort) → sort_of x scope ≡ Some s → AgreesAt (Some s) (names x)
  agrees_at x s e = subst (λ o. AgreesAt o (names x)) e (agrees.at x)

  literal_of : (e : Expr) → IsInteger scope e → IsLiteral (term_of names e)
  literal_of (Int place n) h = tt
  literal_of (Var place x) h = agrees_at x I64 h
  literal_of _ h = absurd h

  pointer_of : (cell : CellExpr) → IsCell scope cell → IsPointerCell names cell
  pointer_of (Whole c) h = agrees_at c RefI64 h
  pointer_of _ h = absurd h

  -- the first statement finds the terms that it needs
  pub ready : (st : Stmt) (rest : List Stmt) → AreSorted scope (st ∷ rest) → Ready names st
  ready (Load place x cell is_ghost) rest h = pointer_of cell h.1
  ready (Alloc place x e) rest h = literal_of e h.0
  ready (Free place x) rest h = agrees_at x RefI64 h.0
  ready (Print place e) rest h = literal_of e h.0
  ready _ rest h = absurd h

  put_at_test : (b : Bool) (s : Sort) (t : Term) (o : Option Sort) (p : Option Term) → AgreesAt (Some s) (Some t) → AgreesAt o p → AgreesAt (cond b (Some s) o) (cond b (Some t) p)
  put_at_test true s t o p h k = h
  put_at_test false s t o p h k = k

  pub agrees_put : (x : Name) (s : Sort) (t : Term) → AgreesAt (Some s) (Some t) → Agrees ((x, s) ∷ scope) (put x t names)
  agrees_put x s t h = record { at = λ y. put_at_test (bytes_eq y x) s t (sort_of y scope) (names y) h (agrees.at y) }

-- what a list of statements that is left needs of what is known
pub record Goes (list : List Stmt) (s : Known) : Type 0 where
  pub scope : Scope
  pub sorted : AreSorted scope list
  pub agrees : Agrees scope s.names
  pub literals : AreLiterals s.atoms

alloc_goes : (rest : List Stmt) (s t : Known) (g : Scope) → Agrees g s.names → AreLiterals s.atoms → (x : Name) (e : Expr) → IsInteger g e → AreSorted ((x, RefI64) ∷ g) rest → AllocRule s x e t → Goes rest t
alloc_goes rest s t g agrees literals x e int sorted r = subst (Goes rest) (sym r.is) record {
  scope = (x, RefI64) ∷ g;
  sorted = sorted;
  agrees = agrees_put g s.names agrees x RefI64 (next_of s) tt;
  literals = literals_both s.atoms _ literals (subst IsLiteral r.value_is (literal_of g s.names agrees e int), tt);
}

load_goes : (rest : List Stmt) (s t : Known) (g : Scope) → Agrees g s.names → AreLiterals s.atoms → (x c : Name) → AreSorted ((x, I64) ∷ g) rest → LoadRule s x c t → Goes rest t
load_goes rest s t g agrees literals x c sorted r =
    let found = literals_back r.front (Points r.base r.permission r.value ∷ r.back) (subst AreLiterals r.at literals) in
    subst (Goes rest) (sym r.is) record { scope = (x, I64) ∷ g; sorted = sorted; agrees = agrees_put g s.names agrees x I64 r.value found.0; literals = literals }

free_goes : (rest : List Stmt) (s t : Known) (g : Scope) → Agrees g s.names → AreLiterals s.atoms → (x : Name) → AreSorted g rest → FreeRule s x t → Goes rest t
free_goes rest s t g agrees literals x sorted r =
    let all = subst AreLiterals r.cell_at literals in
    let left = literals_both r.front r.back (literals_front r.front _ all) (literals_back r.front (Points r.base whole r.value ∷ r.back) all).1 in
    let more = subst AreLiterals r.block_at left in
    let rests = literals_both r.front' r.back' (literals_front r.front' _ more) (literals_back r.front' (Block r.base (Literal _) ∷ r.back') more) in
    subst (Goes rest) (sym r.is) record { scope = g; sorted = sorted; agrees = agrees; literals = rests }

-- the rest goes on after a statement
pub goes_on : (st : Stmt) (rest : List Stmt) (s t : Known) → Goes (st ∷ rest) s → WalksOver s st t → Goes rest t
goes_on (Load place x (Whole c) is_ghost) rest s t g w = load_goes rest s t g.scope g.agrees g.literals x c g.sorted.2 w.rule
goes_on (Alloc place x e) rest s t g w = alloc_goes rest s t g.scope g.agrees g.literals x e g.sorted.0 g.sorted.1 w
goes_on (Free place x) rest s t g w = free_goes rest s t g.scope g.agrees g.literals x g.sorted.1 w.rule
goes_on (Print place e) rest s t g w = subst (Goes rest) (sym w.is) record { scope = g.scope; sorted = g.sorted.1; agrees = g.agrees; literals = g.literals }
goes_on _ rest s t g w = absurd w

-- the walk over a list has come to its statement number i
pub record Reaches (list : List Stmt) (i : ℕ) (s : Known) : Type 0 where
  pub before : List Stmt
  pub after : List Stmt
  pub split : list ≡ before ++ after
  pub long : length before ≡ i
  pub walks : Walks start before s
  pub goes : Goes after s

pub reaches_first : (list : List Stmt) → AreSorted [] list → Reaches list 0 start
reaches_first list h = record {
  before = [];
  after = list;
  split = refl;
  long = refl;
  walks = refl;
  goes = record { scope = []; sorted = h; agrees = record { at = λ y. tt }; literals = tt };
}

next_is : (before after : List Stmt) (i : ℕ) (st : Stmt) → length before ≡ i → slice_get (before ++ after) i ≡ Some st → (rest : List Stmt) × (after ≡ st ∷ rest)
next_is [] [] i st long e = cc
next_is [] (a ∷ after) zero st long e = (after, cc)
next_is [] (a ∷ after) (suc i) st long e = absurd (omega (arith, long))
next_is (b ∷ before) after zero st long e = absurd (omega (arith, long))
next_is (b ∷ before) after (suc i) st long e = next_is before after i st (omega (arith, long)) e

walks_more : (before : List Stmt) (st : Stmt) (s t u : Known) → Walks s before t → WalksOver t st u → Walks s (before ++ st ∷ []) u
walks_more [] st s t u w o = (u, subst (λ v. WalksOver v st u) w o, refl)
walks_more (b ∷ before) st s t u w o = (w.0, w.1, walks_more before st w.0 t u w.2 o)

module _ (list : List Stmt) (i : ℕ) (s : Known) (r : Reaches list i s) (st : Stmt) (at : slice_get list i ≡ Some st) where
  here : (rest : List Stmt) × (r.after ≡ st ∷ rest)
  here = next_is r.before r.after i st r.long (subst (λ l. slice_get l i ≡ Some st) r.split at)

  pub reaches_ready : Ready s.names st
  reaches_ready = let g = subst (λ l. Goes l s) here.1 r.goes in ready g.scope s.names g.agrees st here.0 g.sorted

  pub reaches_next : (t : Known) → WalksOver s st t → Reaches list (i + 1) t
  reaches_next t w = record {
    before = r.before ++ st ∷ [];
    after = here.0;
    split = r.split ∙ ap (λ l. r.before ++ l) here.1 ∙ sym (append_assoc r.before (st ∷ []) here.0);
    long = omega (arith, length-append r.before (st ∷ []), r.long);
    walks = walks_more r.before st start s t r.walks w;
    goes = goes_on st here.0 s t (subst (λ l. Goes l s) here.1 r.goes) w;
  }

  pub reaches_stop : (duty : Duty) → Refuses s st duty → Stops list (pos_of st) duty
  reaches_stop duty refuses = record {
    before = r.before;
    stmt = st;
    after = here.0;
    split = r.split ∙ ap (λ l. r.before ++ l) here.1;
    known = s;
    walks = r.walks;
    refuses = refuses;
    place = refl;
  }

-- a statement that is refused stops the walk
pub stops_with : (list : List Stmt) (i : ℕ) (s : Known) → Reaches list i s → (st : Stmt) → slice_get list i ≡ Some st → (e : WalkError) (t : Known) → StatementSays (Err e) st s t → ListSays (Err e) list
stops_with list i s r st at (e.Undone place duty) t h =
    subst (λ p. Stops list p duty) (sym h.0) (reaches_stop list i s r st at duty h.1)
stops_with list i s r st at e.Memory t h = tt

-- an item of a list of the program's statements, as plain data
pub item_at : (list : List stmt.Stmt) (i : ℕ) (st : stmt.Stmt) → i < length list → st ≡ get_or list i st → slice_get (map plain_stmt list) i ≡ Some (plain_stmt st)
item_at list i st within is = slice_get-map plain_stmt list i ∙ ap (option_map plain_stmt) (slice_get_read list (length list) i st refl within is)

nothing_after : (before after : List Stmt) (i : ℕ) → length before ≡ i → length (before ++ after) ≤ i → after ≡ []
nothing_after before [] i long within = refl
nothing_after before (a ∷ after) i long within = absurd (omega (arith, long, within, length-append before (a ∷ after)))

pub reaches_end : (list : List Stmt) (i : ℕ) (s : Known) → Reaches list i s → length list ≤ i → Walks start list s
reaches_end list i s r within =
    let none = nothing_after r.before r.after i r.long (subst (λ (l : List Stmt). length l ≤ i) r.split within) in
    subst (λ l. Walks start l s) (sym (append-nil r.before) ∙ ap (λ l. r.before ++ l) (sym none) ∙ sym r.split) r.walks
