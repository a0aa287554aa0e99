-- The laws of derivations.
use Rattle.std.proofs.Common.{◌≡◌, Some, List, [], ◌∷◌, ◌++◌, refl, sym, ap, ◌∙◌, subst}
use Rattle.pl_base.specs.declared.pos.Pos.{Pos}
use Rattle.pl_syntax.specs.Tree.{Name, Expr, Stmt, Alloc, Free, FunDecl, list_of}
use Rattle.pl_terms.specs.Table.{Known, start, allocated}
use Rattle.pl_deriv.specs.Derivations.{Rules, Derives}

-- two derivations, one after the other
pub joined : (s t u : Known) (xs ys : List Stmt) → Rules s xs t → Rules t ys u → Rules s (xs ++ ys) u
joined s t u [] ys a b = subst (λ k. Rules k ys u) a b
joined s t u (x ∷ xs) ys a b = (a.0, a.1, joined a.0 t u xs ys a.2 b)

-- a derivation of two lists is one of each
pub parted : (s u : Known) (xs ys : List Stmt) → Rules s (xs ++ ys) u → (t : Known) × Rules s xs t × Rules t ys u
parted s u [] ys a = (s, refl, a)
parted s u (x ∷ xs) ys a = let r = parted a.0 u xs ys a.2 in (r.0, (a.0, a.1, r.1), r.2)

-- a cell that is never freed is left over
pub no_leak : (f : FunDecl) (place : Pos) (x : Name) (e : Expr) → list_of f.body ≡ Alloc place x e ∷ [] → Derives f → ⊥
no_leak f place x e is d =
    let r : Rules start (Alloc place x e ∷ []) d.end = subst (λ l. Rules start l d.end) is d.rules in
    let end : d.end ≡ allocated start x r.1.value = r.2 ∙ r.1.is in
    let none : (allocated start x r.1.value).atoms ≡ [] = sym (ap (λ (k : Known). k.atoms) end) ∙ d.none_left in
    cc

-- no name stands for anything at the start
pub no_free : (f : FunDecl) (place : Pos) (x : Name) → list_of f.body ≡ Free place x ∷ [] → Derives f → ⊥
no_free f place x is d =
    let r : Rules start (Free place x ∷ []) d.end = subst (λ l. Rules start l d.end) is d.rules in
    let none : start.names x ≡ Some r.1.base = r.1.base_is in
    cc
