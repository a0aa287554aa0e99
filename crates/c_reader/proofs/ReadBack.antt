-- What is written of a program that keeps the rules stands for it.
use Rattle.std.proofs.Common.{◌≡◌, ◌∙◌, sym, ap, refl, ◌+◌, List, [], ◌∷◌, None, map, length}
use Rattle.std.specs.List.{AllByRecursion}
use Rattle.c_syntax.specs.declared.kind.CType.{CType}
use Rattle.c_syntax.specs.declared.program.CMember.{CMember}
use Rattle.c_syntax.specs.declared.program.CParam.{CParam}
use Rattle.c_syntax.specs.declared.program.CStruct.{CStruct}
use Rattle.c_syntax.specs.Forms.{AreStmtForms, IsFunForm, IsProgramForm}
use Rattle.c_syntax.specs.Rules.{BodyFits, FunFits, KeepsRules, Scope, after, members_of}
use Rattle.c_syntax.specs.Tree as t
use Rattle.c_rules.specs.Groups.{struct_of}
use Rattle.c_rules.specs.Lines.{member_of}
use Rattle.c_reader.specs.Standing.{fun_of, param_of, program_of, stmts_of}
use Rattle.c_reader.proofs.ReadBackBodies.{First, first}
use Rattle.c_reader.proofs.ReadBackBodies.First.{front, last}
use Rattle.c_reader.proofs.ReadBackLines.{expr_back, stmt_back}
use Rattle.c_reader.proofs.Written as written

body_back : (p : t.Program) (result : CType) (scope : Scope) (ts : t.Stmts) → AreStmtForms ts → BodyFits p result scope ts → stmts_of (members_of p.structs) (written.stmts ts) None ≡ ts
body_back p result scope t.end f h = refl
body_back p result scope (t.more u rest) f h = of u rest f (λ k. body_back p result (after scope u) rest f.1 k) (first p result scope u rest h)
  where
    of : (u : t.Stmt) (rest : t.Stmts) → AreStmtForms (t.more u rest) → (BodyFits p result (after scope u) rest → stmts_of (members_of p.structs) (written.stmts rest) None ≡ rest) →
        First p result scope u rest → stmts_of (members_of p.structs) (written.stmts (t.more u rest)) None ≡ t.more u rest
    of u rest f again (last e k l value fits) =
        ap (λ v. stmts_of (members_of p.structs) (written.lines v (written.stmts rest)) None) k ∙ ap (λ ts. stmts_of (members_of p.structs) (written.lines (t.Return e) (written.stmts ts)) None) l
        ∙ ap (λ x. t.more (t.Return x) t.end) (expr_back e) ∙ ap (λ v. t.more v t.end) (sym k) ∙ ap (t.more u) (sym l)
    of u rest f again (front numbers fits others) = stmt_back p scope u f.0 fits (written.stmts rest) ∙ ap (t.more u) (again others)

pub members_back : (ms : List CMember) → map member_of (map written.member ms) ≡ ms
members_back [] = refl
members_back (m ∷ ms) = ap (λ xs. m ∷ xs) (members_back ms)

pub structs_back : (ss : List CStruct) → map struct_of (map written.struct ss) ≡ ss
structs_back [] = refl
structs_back (s ∷ ss) =
    ap (λ (ms : List CMember). record { name = s.name; members = ms } ∷ map struct_of (map written.struct ss)) (members_back s.members) ∙ ap (λ xs. s ∷ xs) (structs_back ss)

pub params_back : (ps : List CParam) → map param_of (map written.param ps) ≡ ps
params_back [] = refl
params_back (p ∷ ps) = ap (λ xs. p ∷ xs) (params_back ps)

fun_back : (p : t.Program) (f : t.Fun) → IsFunForm f → FunFits p f → fun_of (members_of p.structs) (written.fun f) ≡ f
fun_back p f form fits =
    ap (λ (ps : List CParam). record { name = f.name; result = f.result; params = ps; body = stmts_of (members_of p.structs) (written.stmts f.body) None }) (params_back f.params)
    ∙ ap (λ (ts : t.Stmts). record { name = f.name; result = f.result; params = f.params; body = ts })
    (body_back p f.result (record { bound = f.params; next = 1 + length f.params }) f.body form.body fits.body)

funs_back : (p : t.Program) (fs : List t.Fun) → AllByRecursion IsFunForm fs → AllByRecursion (FunFits p) fs → map (fun_of (members_of p.structs)) (map written.fun fs) ≡ fs
funs_back p [] forms fit = refl
funs_back p (f ∷ fs) forms fit =
    ap (λ x. x ∷ map (fun_of (members_of p.structs)) (map written.fun fs)) (fun_back p f forms.0 fit.0) ∙ ap (λ xs. f ∷ xs) (funs_back p fs forms.1 fit.1)

-- a program of the forms that keeps the rules is read again as it was written
pub read_back : (p : t.Program) → IsProgramForm p → KeepsRules p → program_of (written.source p) ≡ p
read_back p forms rules =
    let ss = structs_back p.structs in
    ap (λ (xs : List CStruct). record { structs = xs; funs = map (fun_of (members_of xs)) (map written.fun p.funs) }) ss
    ∙ ap (λ (fs : List t.Fun). record { structs = p.structs; funs = fs }) (funs_back p p.funs forms.funs rules.funs)
