-- Each statement, in any frame: where what it takes holds of a part, it goes, and what it gives holds after.
use Rattle.std.proofs.Common.{◌≡◌, ℕ, ℤ, pos, Option, Some, None, Bool, true, false, if◌then◌else◌, List, [], ◌∷◌, ◌++◌, length, le_refl, refl, sym, ap, ◌∙◌, subst, set}
use Rattle.std.specs.Str.{bytes_eq}
use Rattle.pl_base.specs.declared.pos.Pos.{Pos}
use Rattle.pl_base.specs.Permission.{whole}
use Rattle.pl_syntax.specs.declared.expr.Sort.{Sort}
use Rattle.pl_syntax.specs.declared.expr.Sort.TheVariants.{I64, RefI64}
use Rattle.pl_syntax.specs.Tree.{Name, Expr, Int, Var, Whole, Stmt, Load, Alloc, Free, Print}
use Rattle.pl_syntax.specs.Values as values
use Rattle.pl_syntax.specs.Values.{Value, Number, Truth, Null, HasSort, Vars, bind, value_of}
use Rattle.pl_syntax.specs.Straight.{Scope, sort_of, IsInteger, AreSorted}
use Rattle.pl_syntax.specs.Resource.{Plain, Cell, FreeToken, Resource, Adds, nothing, put_at}
use Rattle.pl_syntax.specs.Holds.{Owns}
use Rattle.pl_syntax.proofs.ResourceLaws.{adds_comm, adds_assoc, adds_assoc', put_adds, give_up, owns_put}
use Rattle.pl_terms.specs.declared.term.Term.{Term}
use Rattle.pl_terms.specs.declared.term.Term.TheVariants.{Literal}
use Rattle.pl_terms.specs.Terms.{Points, Block, Values, eval, AtomHolds, AllHold, Extends, Fresh}
use Rattle.pl_terms.specs.Table.{Names, put, Known, term_of, next_of, allocated, AllocRule, LoadRule, FreeRule, PrintRule, Rule}
use Rattle.pl_source.specs.Machine.{Heap, block_at, block_cell, block_token, resource_of, one_cell, AllocEvent, LoadEvent, FreeEvent, PrintEvent, alloc_effect, load_at, load_block, free_at, free_block, print_effect}
use Rattle.pl_terms.proofs.AtomLaws.{extends_refl, give, extends_give, give_same, fresh_give, length_more, eval_keeps, all_keeps, alone, all_both, take_out}
use Rattle.pl_source.specs.Steps.{full, one_token, OneCells, TermFits, Stands, SortFits, HaveSorts, Fits, Went, scope_after}
use Rattle.pl_source.proofs.HeapLaws.{resource_alloc, resource_free, block_past, one_cells_new, one_cells_free, owned_live}

-- a name's value is that of its term
pub term_value : (vs : Values) (o : Option Term) (v : Option Value) (t : Term) → TermFits vs o v → o ≡ Some t → v ≡ eval vs t
term_value vs None v t h e = cc
term_value vs (Some u) None t h e = absurd h
term_value vs (Some u) (Some w) t h e = let k : u ≡ t = cc in sym h ∙ ap (eval vs) k

-- a term keeps its value where more variables have one
pub term_keeps : {vs us : Values} → Extends vs us → (o : Option Term) (v : Option Value) → TermFits vs o v → TermFits us o v
term_keeps h None None k = tt
term_keeps h None (Some w) k = absurd k
term_keeps h (Some t) None k = absurd k
term_keeps h (Some t) (Some w) k = eval_keeps h t w k

-- names still stand for their values where more variables have one
pub stands_keeps : {vs us : Values} → Extends vs us → (names : Names) (vars : Vars) → Stands vs names vars → Stands us names vars
stands_keeps h names vars k = record { at = λ y. term_keeps h (names y) (vars y) (k.at y) }

-- one of two names
pub term_if : (vs : Values) (b : Bool) (t : Term) (w : Value) (o : Option Term) (v : Option Value) → eval vs t ≡ Some w → TermFits vs o v → TermFits vs (if b then Some t else o) (if b then Some w else v)
term_if vs true t w o v e h = e
term_if vs false t w o v e h = h

-- one name more
pub stands_put : (vs : Values) (names : Names) (vars : Vars) (x : Name) (t : Term) (w : Value) → Stands vs names vars → eval vs t ≡ Some w → Stands vs (put x t names) (bind x w vars)
stands_put vs names vars x t w h e = record { at = λ y. term_if vs (bytes_eq y x) t w (names y) (vars y) e (h.at y) }

-- one of two names has its sort
pub sort_if : (b : Bool) (k : Sort) (w : Value) (o : Option Sort) (v : Option Value) → HasSort k w → SortFits o v → SortFits (if b then Some k else o) (if b then Some w else v)
sort_if true k w o v e h = e
sort_if false k w o v e h = h

-- one name more has its sort
pub sorts_bind : (scope : Scope) (vars : Vars) (x : Name) (k : Sort) (w : Value) → HaveSorts scope vars → HasSort k w → HaveSorts ((x, k) ∷ scope) (bind x w vars)
sorts_bind scope vars x k w h e = record { at = λ y. sort_if (bytes_eq y x) k w (sort_of y scope) (vars y) e (h.at y) }

-- what has a sort has a value of it
pub sort_value : (o : Option Sort) (v : Option Value) (k : Sort) → SortFits o v → o ≡ Some k → (w : Value) × (v ≡ Some w) × HasSort k w
sort_value None v k h e = cc
sort_value (Some l) None k h e = absurd h
sort_value (Some l) (Some w) k h e = let q : l ≡ k = cc in (w, refl, subst (λ m. HasSort m w) q h)

-- an integer expression has a value of sort i64
pub integer_value : (scope : Scope) (vars : Vars) (e : Expr) → HaveSorts scope vars → IsInteger scope e → (w : Value) × (value_of vars e ≡ Some w) × HasSort I64 w
integer_value scope vars (Int place n) h k = (Number n, refl, k)
integer_value scope vars (Var place y) h k = sort_value (sort_of y scope) (vars y) I64 (h.at y) k
integer_value scope vars _ h k = absurd k

-- a value of sort i64 is a number
pub integer_number : (w : Value) → HasSort I64 w → (n : ℤ) × (w ≡ Number n)
integer_number (Number n) h = (n, refl)
integer_number _ h = absurd h

-- an expression's value is that of its term
pub expr_value : (vs : Values) (names : Names) (vars : Vars) (e : Expr) (t : Term) → Stands vs names vars → term_of names e ≡ Some t → value_of vars e ≡ eval vs t
expr_value vs names vars (Int place n) t h e = let k : Literal n ≡ t = cc in ap (eval vs) k
expr_value vs names vars (Var place y) t h e = term_value vs (names y) (vars y) t (h.at y) e
expr_value vs names vars _ t h e = cc

-- two blocks of one term are one
pub block_same : (v : Option Value) (a b : ℕ) → v ≡ Some (values.Block a) → v ≡ Some (values.Block b) → a ≡ b
block_same v a b h k = let e : Some (values.Block a) ≡ Some (values.Block b) = sym h ∙ k in cc

module _ (s : Known) (scope : Scope) (vs : Values) (vars : Vars) (x frame : Resource) (h : Heap) (fits : Fits s scope vs vars x) (adds : Adds x frame (resource_of h)) (cells : OneCells h) where
  -- a print changes nothing
  pub print_goes : (place : Pos) (e : Expr) (t : Known) → PrintRule s e t → IsInteger scope e → Went t scope vs (Print place e) h vars frame
  print_goes place e t r sorted =
      let v = integer_value scope vars e fits.sorts sorted in
      let n = integer_number v.0 v.2 in
      record {
        event = PrintEvent n.0;
        heap = h;
        after = vars;
        out = n.0 ∷ [];
        goes = ap (λ o. print_effect o h vars) (v.1 ∙ ap Some n.1);
        values = vs;
        extends = extends_refl vs;
        part = x;
        fits = subst (λ u. Fits u scope vs vars x) (sym r.is) fits;
        adds = adds;
        cells = cells;
      }

  -- a load binds the cell's value
  pub load_goes : (place : Pos) (y c : Name) (is_ghost : Bool) (t : Known) → LoadRule s y c t → Went t ((y, I64) ∷ scope) vs (Load place y (Whole c) is_ghost) h vars frame
  load_goes place y c is_ghost t r =
      let k = take_out vs r.front r.back (Points r.base r.permission r.value) x (subst (λ l. AllHold vs l x) r.at fits.atoms) in
      let a = adds_assoc k.adds adds in
      let o = k.holds in
      let base : vars c ≡ Some (values.Block o.block) = term_value vs (s.names c) (vars c) r.base (fits.names.at c) r.base_is ∙ o.base_is in
      let found : block_at h o.block ≡ Some (one_cell o.word) = owned_live h o.block o.word cells o.owns a.2 in
      let new : Fits (record s { names = put y r.value s.names }) ((y, I64) ∷ scope) vs (bind y o.word vars) x = record {
        names = stands_put vs s.names vars y r.value o.word fits.names o.word_is;
        sorts = sorts_bind scope vars y I64 o.word fits.sorts o.sorted;
        fresh = fits.fresh;
        atoms = fits.atoms;
      } in
      record {
        event = LoadEvent o.block 0 0 o.word;
        heap = h;
        after = bind y o.word vars;
        out = [];
        goes = ap (λ v. load_at y v h vars) base ∙ ap (λ q. load_block y o.block q h vars) found;
        values = vs;
        extends = extends_refl vs;
        part = x;
        fits = subst (λ u. Fits u ((y, I64) ∷ scope) vs (bind y o.word vars) x) (sym r.is) new;
        adds = adds;
        cells = cells;
      }

  -- an alloc adds a cell and a token, and binds its block
  pub alloc_goes : (place : Pos) (y : Name) (e : Expr) (t : Known) → AllocRule s y e t → IsInteger scope e → Went t ((y, RefI64) ∷ scope) vs (Alloc place y e) h vars frame
  alloc_goes place y e t r sorted =
      let v = integer_value scope vars e fits.sorts sorted in
      let b = length h in
      let n = length s.origins in
      let R = resource_of h in
      let cell = put_at (Cell b 0 0) (Some (full v.0)) nothing in
      let token = put_at (FreeToken b) (Some one_token) nothing in
      let R' = put_at (FreeToken b) (Some one_token) R in
      let no_cell : R' (Cell b 0 0) ≡ None = ap (λ o. block_cell o 0 0) (block_past h) in
      let no_token : R (FreeToken b) ≡ None = ap block_token (block_past h) in
      let h' = h ++ Some (one_cell v.0) ∷ [] in
      let with_token : Adds token R R' = put_adds (FreeToken b) (Some one_token) no_token in
      let with_cell : Adds cell R' (put_at (Cell b 0 0) (Some (full v.0)) R') = put_adds (Cell b 0 0) (Some (full v.0)) no_cell in
      let with_both : Adds cell R' (resource_of h') = subst (λ z. Adds cell R' z) (sym (resource_alloc h v.0)) with_cell in
      let c = adds_assoc' with_token with_both in
      let d = adds_assoc' adds c.2 in
      let us = give n (values.Block b) vs in
      let more = extends_give n (values.Block b) vs (fits.fresh.none n (le_refl n)) in
      let last : us n ≡ Some (values.Block b) = give_same n (values.Block b) vs in
      let value : eval us r.value ≡ Some v.0 = eval_keeps more r.value v.0 (sym (expr_value vs s.names vars e r.value fits.names r.value_is) ∙ v.1) in
      let points : AtomHolds us (Points (next_of s) whole r.value) cell = record { block = b; permission = whole; word = v.0; base_is = last; part_is = refl; word_is = value; sorted = v.2; owns = owns_put (Cell b 0 0) v.0 Plain } in
      let frees : AtomHolds us (Block (next_of s) (Literal (pos 1))) token = record { block = b; elements = 1; base_is = last; count_is = refl; owns = owns_put (FreeToken b) (Number (pos 1)) Plain } in
      let news = Points (next_of s) whole r.value ∷ Block (next_of s) (Literal (pos 1)) ∷ [] in
      let new : Fits (allocated s y r.value) ((y, RefI64) ∷ scope) us (bind y (values.Block b) vars) d.0 = record {
        names = stands_put us s.names vars y (next_of s) (values.Block b) (stands_keeps more s.names vars fits.names) last;
        sorts = sorts_bind scope vars y RefI64 (values.Block b) fits.sorts tt;
        fresh = subst (λ k. Fresh k us) (sym (length_more s.origins y)) (fresh_give n (values.Block b) vs fits.fresh);
        atoms = all_both us s.atoms news x c.0 d.0 (adds_comm d.1) (all_keeps more s.atoms x fits.atoms) (cell, token, c.1, points, alone us (Block (next_of s) (Literal (pos 1))) token frees);
      } in
      record {
        event = AllocEvent b 1;
        heap = h';
        after = bind y (values.Block b) vars;
        out = [];
        goes = ap (λ o. alloc_effect y o h vars) v.1;
        values = us;
        extends = more;
        part = d.0;
        fits = subst (λ u. Fits u ((y, RefI64) ∷ scope) us (bind y (values.Block b) vars) d.0) (sym r.is) new;
        adds = d.2;
        cells = one_cells_new h v.0 cells;
      }

  -- a free takes a block's cell and its token
  pub free_goes : (place : Pos) (y : Name) (t : Known) → FreeRule s y t → Went t scope vs (Free place y) h vars frame
  free_goes place y t r =
      let k = take_out vs r.front r.back (Points r.base whole r.value) x (subst (λ l. AllHold vs l x) r.cell_at fits.atoms) in
      let m = take_out vs r.front' r.back' (Block r.base (Literal (pos 1))) k.rest (subst (λ l. AllHold vs l k.rest) r.block_at k.others) in
      let o = k.holds in
      let n = m.holds in
      let is_whole : o.permission ≡ whole = cc in
      let owns : Owns (Cell o.block 0 0) whole o.word Plain k.part = subst (λ q. Owns (Cell o.block 0 0) q o.word Plain k.part) is_whole o.owns in
      let one_block : n.block ≡ o.block = block_same (eval vs r.base) n.block o.block n.base_is o.base_is in
      let token : Owns (FreeToken o.block) whole (Number (pos n.elements)) Plain m.part = subst (λ b. Owns (FreeToken b) whole (Number (pos n.elements)) Plain m.part) one_block n.owns in
      let base : vars y ≡ Some (values.Block o.block) = term_value vs (s.names y) (vars y) r.base (fits.names.at y) r.base_is ∙ o.base_is in
      let a = adds_assoc k.adds adds in
      let c = adds_assoc m.adds a.1 in
      let found : block_at h o.block ≡ Some (one_cell o.word) = owned_live h o.block o.word cells o.owns a.2 in
      let no_cell : put_at (Cell o.block 0 0) None (resource_of h) ≡ a.0 = give_up (Cell o.block 0 0) owns a.2 in
      let no_token : put_at (FreeToken o.block) None a.0 ≡ c.0 = give_up (FreeToken o.block) token c.2 in
      let h' = set h o.block None in
      let left : resource_of h' ≡ c.0 = resource_free h o.block o.word found ∙ ap (put_at (FreeToken o.block) None) no_cell ∙ no_token in
      let new : Fits (record s { atoms = r.front' ++ r.back' }) scope vs vars m.rest = record { names = fits.names; sorts = fits.sorts; fresh = fits.fresh; atoms = m.others } in
      record {
        event = FreeEvent o.block;
        heap = h';
        after = vars;
        out = [];
        goes = ap (λ v. free_at v h vars) base ∙ ap (λ q. free_block o.block q h vars) found;
        values = vs;
        extends = extends_refl vs;
        part = m.rest;
        fits = subst (λ u. Fits u scope vs vars m.rest) (sym r.is) new;
        adds = subst (λ u. Adds m.rest frame u) (sym left) c.1;
        cells = one_cells_free h o.block (one_cell o.word) found cells;
      }

-- the statements after the first keep the sort rules
pub sorted_rest : (scope : Scope) (st : Stmt) (rest : List Stmt) → AreSorted scope (st ∷ rest) → AreSorted (scope_after scope st) rest
sorted_rest scope (Load place y cell is_ghost) rest h = h.2
sorted_rest scope (Alloc place y e) rest h = h.1
sorted_rest scope (Free place y) rest h = h.1
sorted_rest scope (Print place e) rest h = h.1
sorted_rest scope _ rest h = absurd h

-- a statement that keeps its rule goes, in any frame
pub stmt_goes : (s : Known) (scope : Scope) (vs : Values) (vars : Vars) (x frame : Resource) (h : Heap) → Fits s scope vs vars x → Adds x frame (resource_of h) → OneCells h →
    (st : Stmt) (rest : List Stmt) (t : Known) → Rule s st t → AreSorted scope (st ∷ rest) → Went t (scope_after scope st) vs st h vars frame
stmt_goes s scope vs vars x frame h fits adds cells (Load place y (Whole c) is_ghost) rest t r sorted = load_goes s scope vs vars x frame h fits adds cells place y c is_ghost t r
stmt_goes s scope vs vars x frame h fits adds cells (Alloc place y e) rest t r sorted = alloc_goes s scope vs vars x frame h fits adds cells place y e t r sorted.0
stmt_goes s scope vs vars x frame h fits adds cells (Free place y) rest t r sorted = free_goes s scope vs vars x frame h fits adds cells place y t r
stmt_goes s scope vs vars x frame h fits adds cells (Print place e) rest t r sorted = print_goes s scope vs vars x frame h fits adds cells place e t r sorted.0
stmt_goes s scope vs vars x frame h fits adds cells _ rest t r sorted = absurd r
