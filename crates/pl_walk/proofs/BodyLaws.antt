-- From the statements of a function's body to the function.
use Rattle.std.proofs.Common.{◌≡◌, ℕ, zero, suc, List, [], ◌∷◌, Some, map, slice_get, Result, Ok, Err, sym, ap, ◌∙◌, subst, inl, inr}
use Rattle.pl_base.specs.declared.pos.Pos.{Pos}
use Rattle.pl_syntax.specs.declared.program.FunDecl as fun
use Rattle.pl_syntax.specs.declared.program.Decl as decl
use Rattle.pl_syntax.specs.declared.program.Decl.TheVariants as variant
use Rattle.pl_syntax.specs.declared.program.Program as program
use Rattle.pl_syntax.specs.Tree.{Stmt, FunDecl, Fun, list_of, close_of}
use Rattle.pl_syntax.specs.Plain.{plain_stmt, plain_fun, plain_decl, plain_program}
use Rattle.pl_syntax.specs.Straight.{AreSorted, IsStraight}
use Rattle.pl_syntax.proofs.TreeLaws.{block_list}
use Rattle.pl_terms.specs.Table.{Known, start}
use Rattle.pl_walk.specs.declared.walk.WalkError.{WalkError}
use Rattle.pl_walk.specs.declared.walk.WalkError.TheVariants as e
use Rattle.pl_walk.specs.Walk.{Walks, Stops}
use Rattle.pl_walk.specs.Says.{ListSays, EndSays, FunctionSays}

-- what stops in the statements stops in the function
pub list_says : (f : FunDecl) (list : List Stmt) → list_of f.body ≡ list → (error : WalkError) → ListSays (Err error) list → FunctionSays (Err error) f
list_says f list is (e.Undone place duty) h = inl (subst (λ l. Stops l place duty) (sym is) h)
list_says f list is e.Memory h = tt

-- what is found at the closing brace is found of the function
pub end_says : (f : FunDecl) (list : List Stmt) (close : Pos) → list_of f.body ≡ list → close_of f.body ≡ close → (s : Known) → Walks start list s → (r : Result (Unit {0}) WalkError) → EndSays r close s → FunctionSays r f
end_says f list close is at s w (Ok u) h = record { end = s; walks = subst (λ l. Walks start l s) (sym is) w; none_left = h }
end_says f list close is at s w (Err (e.Undone place duty)) h = inr (record {
  end = s;
  walks = subst (λ l. Walks start l s) (sym is) w;
  some_left = h.1;
  text = h.2;
  place = h.0 ∙ sym at;
})
end_says f list close is at s w (Err e.Memory) h = tt

-- a declaration of a program of one function is that function
pub only_fun : (decls : List decl.Decl) (k : ℕ) (d : decl.Decl) (f : fun.FunDecl) (main : FunDecl) → map plain_decl decls ≡ Fun main ∷ [] → slice_get decls k ≡ Some d → d ≡ variant.Fun f → plain_fun f ≡ main
only_fun [] k d f main e at is = cc
only_fun (x ∷ []) zero d f main e at is =
    let here : x ≡ variant.Fun f = cc in
    let same : plain_decl x ≡ Fun main = cc in
    let both : Fun (plain_fun f) ≡ Fun main = sym (ap plain_decl here) ∙ same in
    cc
only_fun (x ∷ []) (suc k) d f main e at is = cc
only_fun (x ∷ y ∷ ys) k d f main e at is = cc

-- so its statements keep the sort rules
pub fun_sorted : (p : program.Program) (k : ℕ) (d : decl.Decl) (f : fun.FunDecl) → IsStraight (plain_program p) → slice_get p.decls k ≡ Some d → d ≡ variant.Fun f → AreSorted [] (map plain_stmt f.body.list)
fun_sorted p k d f straight at is =
    let one : plain_fun f ≡ straight.0 = only_fun p.decls k d f straight.0 straight.1 at is in
    subst (AreSorted []) (ap (λ (g : FunDecl). list_of g.body) (sym one) ∙ block_list f.body) straight.2.statements
