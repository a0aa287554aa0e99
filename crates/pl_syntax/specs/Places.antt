-- The places of the parts of a tree.
use Rattle.pl_base.specs.declared.pos.Pos.{Pos}
use Rattle.pl_syntax.specs.Tree.{Stmt, Let, Load, Store, Alloc, AllocArray, AllocAtomic, New, Free, FreeArray, AtomicRead, AtomicWrite, Cas, NewLock, Acquire, Release, FreeLock, Read, Print, Call, Par, If, While, LetMut, Return, With, GLet, GAlloc, NewInv, Fold, Unfold, Rewrite, Share, Gather, Split, Join, Focus, Unfocus, Assert, WithAssert, Drop}

-- the place of a statement: its first token's
abbrev pub pos_of : Stmt → Pos
pos_of (Let place _ _) = place
pos_of (Load place _ _ _) = place
pos_of (Store place _ _) = place
pos_of (Alloc place _ _) = place
pos_of (AllocArray place _ _ _) = place
pos_of (AllocAtomic place _ _) = place
pos_of (New place _ _ _) = place
pos_of (Free place _) = place
pos_of (FreeArray place _) = place
pos_of (AtomicRead place _ _) = place
pos_of (AtomicWrite place _ _) = place
pos_of (Cas place _ _ _ _) = place
pos_of (NewLock place _ _) = place
pos_of (Acquire place _) = place
pos_of (Release place _) = place
pos_of (FreeLock place _) = place
pos_of (Read place _) = place
pos_of (Print place _) = place
pos_of (Call place _ _ _) = place
pos_of (Par place _ _ _ _) = place
pos_of (If place _ _ _ _) = place
pos_of (While place _ _ _ _) = place
pos_of (LetMut place _ _) = place
pos_of (Return place _) = place
pos_of (With place _ _ _) = place
pos_of (GLet place _ _) = place
pos_of (GAlloc place _ _) = place
pos_of (NewInv place _ _) = place
pos_of (Fold place _) = place
pos_of (Unfold place _) = place
pos_of (Rewrite place _ _) = place
pos_of (Share place _) = place
pos_of (Gather place _) = place
pos_of (Split place _ _ _ _) = place
pos_of (Join place _ _ _ _) = place
pos_of (Focus place _ _) = place
pos_of (Unfocus place _ _) = place
pos_of (Assert place _ _ _) = place
pos_of (WithAssert place _ _) = place
pos_of (Drop place _) = place
