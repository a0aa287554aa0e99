-- The rows of some programs, as they are wanted.
use Rattle.std.proofs.Common.{◌≡◌, pos, negsuc, false, [], ◌∷◌, refl, codes}
use Rattle.pl_base.specs.declared.pos.Pos.{Pos}
use Rattle.c_syntax.specs.declared.kind.CType.TheVariants as kind
use Rattle.c_syntax.specs.Tree as c
use Rattle.pl_syntax.specs.Tree.{Int, Var, Whole, Load, Alloc, Free, Print}
use Rattle.pl_erase.specs.Emitted.{no_numbers, local, emitted_all}

-- `let r = alloc(5); let v = !r; print(v); free(r);`
worked : (p : Pos) →
    emitted_all 1 no_numbers (Alloc p (codes "r") (Int p (pos 5)) ∷ Load p (codes "v") (Whole (codes "r")) false ∷ Print p (Var p (codes "v")) ∷ Free p (codes "r") ∷ [])
    ≡ c.New kind.PtrI64 (local (codes "r") 1) (c.Int (pos 5)) ∷ c.Load kind.I64 (local (codes "v") 2) (c.Whole (local (codes "r") 1)) ∷ c.Print (c.Var (local (codes "v") 2)) ∷ c.Free (local (codes "r") 1) ∷ []
worked p = refl

-- `let r = alloc(5); let r = alloc(-6); free(r);`: the newest binder
twice : (p : Pos) →
    emitted_all 1 no_numbers (Alloc p (codes "r") (Int p (pos 5)) ∷ Alloc p (codes "r") (Int p (negsuc 5)) ∷ Free p (codes "r") ∷ [])
    ≡ c.New kind.PtrI64 (local (codes "r") 1) (c.Int (pos 5)) ∷ c.New kind.PtrI64 (local (codes "r") 2) (c.Int (negsuc 5)) ∷ c.Free (local (codes "r") 2) ∷ []
twice p = refl

-- `let x = alloc(1); let x = !x; let y = alloc(x);`: a binder's own name is the older one
own : (p : Pos) →
    emitted_all 1 no_numbers (Alloc p (codes "x") (Int p (pos 1)) ∷ Load p (codes "x") (Whole (codes "x")) false ∷ Alloc p (codes "y") (Var p (codes "x")) ∷ [])
    ≡ c.New kind.PtrI64 (local (codes "x") 1) (c.Int (pos 1)) ∷ c.Load kind.I64 (local (codes "x") 2) (c.Whole (local (codes "x") 1)) ∷ c.New kind.PtrI64 (local (codes "y") 3) (c.Var (local (codes "x") 2)) ∷ []
own p = refl
