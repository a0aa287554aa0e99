-- Programs of the fragment.
use Rattle.std.proofs.Common.{ℕ, ℤ, false, List, [], ◌∷◌, pos, negsuc, inl, inr, refl, arith, rules, FitsSigned}
use Rattle.std.specs.Prelude.{codes}
use Rattle.std.specs.List.{IsDistinct}
use Rattle.std.specs.Int.{w64}
use Rattle.c_syntax.specs.declared.kind.CType.TheVariants as kind
use Rattle.c_syntax.specs.declared.kind.Local.{Local}
use Rattle.c_syntax.specs.declared.expr.COp.TheVariants as op
use Rattle.c_syntax.specs.declared.program.CParam.{CParam}
use Rattle.c_syntax.specs.declared.program.CStruct.{CStruct}
use Rattle.c_syntax.specs.Plain.{chain}
use Rattle.c_syntax.specs.Tree as t
use Rattle.c_syntax.specs.Tree.{Expr, Stmt, Stmts, Fun, Program}
use Rattle.c_syntax.specs.Forms.{IsExprForm, IsFunForm}
use Rattle.c_syntax.specs.Rules.{FunFits, KeepsRules}
use Rattle.c_syntax.specs.Fragment.{IsFragment}

abbrev r : Local
r = record { name = codes "r"; number = 1 }

abbrev v : Local
v = record { name = codes "v"; number = 2 }

abbrev body : Stmts
body =
    t.more (t.New kind.PtrI64 r (t.Int (pos 5)))
    (t.more (t.Load kind.I64 v (t.Whole r)) (t.more (t.Print (t.Var v)) (t.more (t.Free r) t.end)))

abbrev main : Fun
main = record { name = codes "main"; result = kind.Void; params = []; body = body }

abbrev pub first_program : Program
first_program = record { structs = []; funs = main ∷ [] }

five : IsExprForm (t.Int (pos 5))
five = record { literals = search rules; depth = omega arith }

shown : IsExprForm (t.Var v)
shown = record { literals = tt; depth = omega arith }

forms : IsFunForm main
forms = record { body = ((tt, five), (tt, (shown, (tt, tt)))); depth = omega arith }

fits : FunFits first_program main
unfolding IsDistinct
fits = record { names = tt; numbers = tt; types = tt; body = ((refl, tt), (kind.I64, refl, refl), ((refl, tt), refl, (tt, refl, (tt, (kind.PtrI64, refl, tt), refl)))) }

pub first_fits : IsFragment first_program
unfolding IsDistinct
first_fits = record {
  forms = record { structs = tt; funs = (forms, tt) };
  rules = record { names = (tt, tt); structs = tt; funs = (fits, tt); main = (main, refl, refl, refl) };
}

-- ---- two threads that write one cell

abbrev cell : Local
cell = record { name = codes "r"; number = 1 }

abbrev writer : List ℕ → ℤ → Fun
writer name n = record {
  name = name;
  result = kind.Void;
  params = record { local = cell; kind = kind.PtrI64 } ∷ [];
  body = t.more (t.Store (t.Whole cell) (t.Int n)) t.end;
}

abbrev racing : Fun
racing = record {
  name = codes "main";
  result = kind.Void;
  params = [];
  body =
      t.more (t.New kind.PtrI64 cell (t.Int (pos 0)))
      (t.more (t.Par (codes "a") (t.Var cell ∷ []) (codes "b") (t.Var cell ∷ [])) (t.more (t.Free cell) t.end));
}

abbrev pub two_threads : Program
two_threads = record { structs = []; funs = writer (codes "a") (pos 1) ∷ writer (codes "b") (pos 2) ∷ racing ∷ [] }

writes : (name : List ℕ) (n : ℤ) → FunFits two_threads (writer name n)
unfolding IsDistinct
writes name n = record { names = search rules; numbers = search rules; types = search rules; body = ((tt, (kind.I64, refl, inl refl), refl)) }

races : FunFits two_threads racing
unfolding IsDistinct
races = record {
  names = tt;
  numbers = tt;
  types = tt;
  body = (
    (refl, tt),
    (kind.I64, refl, refl),
    (
      tt,
      ((writer (codes "a") (pos 1), refl, refl, (inl refl, tt)), (writer (codes "b") (pos 2), refl, refl, (inl refl, tt))),
      (tt, (kind.PtrI64, refl, tt), refl),
    ),
  );
}

number : (n : ℕ) → FitsSigned w64 (pos n) → IsExprForm (t.Int (pos n))
number n h = record { literals = h; depth = omega arith }

writer_form : (name : List ℕ) (n : ℕ) → FitsSigned w64 (pos n) → IsFunForm (writer name (pos n))
writer_form name n h = record { body = ((tt, number n h), tt); depth = omega arith }

racing_form : IsFunForm racing
racing_form = record {
  body = ((tt, number 0 (search rules)), (((record { literals = tt; depth = omega arith }, tt), (record { literals = tt; depth = omega arith }, tt)), (tt, tt)));
  depth = omega arith;
}

pub two_threads_fit : IsFragment two_threads
unfolding IsDistinct
two_threads_fit = record {
  forms = record { structs = tt; funs = (writer_form (codes "a") 1 (search rules), (writer_form (codes "b") 2 (search rules), (racing_form, tt))) };
  rules = record {
    names = search rules;
    structs = tt;
    funs = (writes (codes "a") (pos 1), (writes (codes "b") (pos 2), (races, tt)));
    main = (racing, refl, refl, refl);
  };
}

-- ---- the other statements

abbrev local : List ℕ → ℕ → Local
local name n = record { name = name; number = n }

abbrev var : List ℕ → ℕ → Expr
var name n = t.Var (local name n)

abbrev pair : CStruct
pair = record {
  name = codes "pair";
  members = record { name = codes "left"; kind = kind.I64 } ∷ record { name = codes "next"; kind = kind.PtrStruct (codes "pair") } ∷ [];
}

abbrev params : List CParam
params =
    record { local = local (codes "c") 1; kind = kind.PtrAtomic } ∷ record { local = local (codes "l") 2; kind = kind.PtrLock }
    ∷ record { local = local (codes "b") 3; kind = kind.PtrBool } ∷ []

abbrev steps : List Stmt
steps =
    t.NewArray kind.PtrI64 (local (codes "a") 4) (t.Int (pos 0)) (t.Int (pos 3))
    ∷ t.Store (t.At (local (codes "a") 4) (t.Bin op.Add (t.Int (pos 1)) (t.Int (pos 1)))) (t.Int (negsuc 6))
    ∷ t.NewAtomic (local (codes "n") 5) (t.Int (pos 1))
    ∷ t.NewStruct (local (codes "p") 6) (codes "pair") (record { name = codes "left"; value = t.Int (pos 1) } ∷ record { name = codes "next"; value = t.Null } ∷ [])
    ∷ t.AtomicLoad (local (codes "x") 7) (local (codes "c") 1)
    ∷ t.AtomicStore (local (codes "c") 1) (t.Neg (var (codes "x") 7))
    ∷ t.Cas (local (codes "r") 8) (local (codes "c") 1) (var (codes "x") 7) (t.Int (pos 2))
    ∷ t.NewLock (local (codes "k") 9)
    ∷ t.Acquire (local (codes "k") 9)
    ∷ t.Release (local (codes "k") 9)
    ∷ t.Read (local (codes "y") 10)
    ∷ t.CallLet kind.Bool (local (codes "s") 11) (codes "all") (var (codes "c") 1 ∷ var (codes "l") 2 ∷ t.Null ∷ [])
    ∷ t.While (t.more (t.Load kind.I64 (local (codes "z") 12) (t.At (local (codes "a") 4) (t.Int (pos 0)))) t.end)
    (t.Bin op.Lt (var (codes "z") 12) (var (codes "y") 10))
    (t.more (t.If (t.Not (var (codes "s") 11)) (t.more (t.Call (codes "main") []) t.end) (t.more (t.Let kind.I64 (local (codes "w") 13) (var (codes "z") 12)) t.end)) t.end)
    ∷ t.Store (t.Field (local (codes "p") 6) (codes "next")) (var (codes "p") 6)
    ∷ t.Return (t.Bin op.And (t.Bin op.Eq (var (codes "p") 6) t.Null) (var (codes "r") 8))
    ∷ []

abbrev all : Fun
all = record { name = codes "all"; result = kind.Bool; params = params; body = chain steps }

abbrev start : Fun
start = record { name = codes "main"; result = kind.Void; params = []; body = t.more (t.New kind.PtrBool (local (codes "b") 1) (t.Truth false)) t.end }

abbrev pub statements : Program
statements = record { structs = pair ∷ []; funs = all ∷ start ∷ [] }

all_fits : FunFits statements all
unfolding IsDistinct
all_fits = record {
  names = search rules;
  numbers = search rules;
  types = search rules;
  body = (
    (refl, tt),
    (refl, refl, refl),
    (
      tt,
      (kind.I64, (refl, (refl, (refl, refl))), inl refl),
      (
        (refl, tt),
        refl,
        (
          (refl, tt),
          (pair.members, refl, (refl, inl refl, (refl, inr tt, tt))),
          (
            (refl, tt),
            refl,
            (
              tt,
              (refl, (refl, refl)),
              (
                (refl, tt),
                (refl, refl, refl),
                (
                  (refl, tt),
                  tt,
                  (
                    tt,
                    refl,
                    (
                      tt,
                      refl,
                      (
                        (refl, tt),
                        tt,
                        (
                          (refl, tt),
                          ((all, refl, refl, (inl refl, (inl refl, (inr tt, tt)))), tt),
                          (
                            tt,
                            (
                              ((refl, tt), (refl, refl), tt),
                              (refl, (refl, refl)),
                              (tt, ((refl, refl), (tt, (start, refl, refl, tt), tt), ((refl, tt), refl, tt)), tt),
                            ),
                            (
                              tt,
                              (kind.PtrStruct (codes "pair"), (codes "pair", pair.members, refl, refl, refl), inl refl),
                              (tt, inl (refl, ((refl, (kind.PtrStruct (codes "pair"), inr (inl (refl, tt)))), refl))),
                            ),
                          ),
                        ),
                      ),
                    ),
                  ),
                ),
              ),
            ),
          ),
        ),
      ),
    ),
  );
}

start_fits : FunFits statements start
unfolding IsDistinct
start_fits = record { names = tt; numbers = tt; types = tt; body = ((refl, tt), (kind.Bool, refl, refl), refl) }

pub statements_fit : KeepsRules statements
unfolding IsDistinct
statements_fit = record {
  names = search rules;
  structs = ((search rules, search rules), tt);
  funs = (all_fits, (start_fits, tt));
  main = (start, refl, refl, refl);
}
