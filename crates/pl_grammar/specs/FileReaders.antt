-- The readers of declarations and files.
use Rattle.std.specs.Prelude.{ℕ, zero, suc, Bool, true, false, List, [], ◌∷◌, Option, Some, None}
use Rattle.pl_base.specs.declared.pos.Pos.{Pos}
use Rattle.pl_syntax.specs.declared.expr.Class.TheVariants as c
use Rattle.pl_syntax.specs.declared.expr.Binder.{Binder}
use Rattle.pl_lexer.specs.declared.tokens.Token.{Token}
use Rattle.pl_syntax.specs.Tree as t
use Rattle.pl_syntax.specs.Tree.{Name}
use Rattle.pl_readers.specs.Reader.{Reader, one, next, either, nothing, mapped, refuse, deep, many, repeat}
use Rattle.pl_grammar.specs.Signs.{Set, signs, sign, name_of}
use Rattle.pl_grammar.specs.FileGrammar.{class_of, end_of}
use Rattle.pl_grammar.specs.Readers.{is, sign_at}
use Rattle.pl_grammar.specs.PropReaders.{value, binder, binders, prop, whole_prop}
use Rattle.pl_grammar.specs.StatementReaders.{block}

unfoldable pub struct_rule : Reader Token t.Decl
struct_rule = next (sign_at 30) (λ _. (next (one name_of) (λ x. (next (sign_at 2) (λ _. (next (binders c.Real) (λ bs. (mapped (λ _. t.Struct (record { pos = x.0; name = x.1; fields = bs })) (sign_at 3)))))))))

unfoldable pub pred_parameters : Reader Token (List Binder)
pred_parameters = either (is (sign 1)) (mapped (λ _. []) (sign_at 1)) (next (binders c.Logical) (λ bs. (mapped (λ _. bs) (sign_at 1))))

unfoldable pub body : ℕ → Reader Token t.Prop → Reader Token t.Body
body depth P = either (is (sign 41)) (next (sign_at 41) (λ _. (next (sign_at 0) (λ _. (next (value depth 0) (λ e. (next (sign_at 1) (λ _. (next P (λ p. (next (sign_at 42) (λ _. (mapped (λ r. t.Cond e p r) P))))))))))))) (mapped (λ p. t.Plain p) (whole_prop depth 0))

unfoldable pub pred_rule : ℕ → Reader Token t.Prop → Reader Token t.Decl
pred_rule depth P = next (sign_at 31) (λ _. (next (one name_of) (λ x. (next (sign_at 0) (λ _. (next (pred_parameters) (λ ps. (next (sign_at 11) (λ _. (next (body depth P) (λ b. (mapped (λ _. t.Pred (record { pos = x.0; name = x.1; params = ps; body = b })) (sign_at 7)))))))))))))

unfoldable pub parameter : Bool → Reader Token Binder
parameter is_ghost = either (is (sign 32)) (next (sign_at 32) (λ _. (binder c.Ghost))) (either (is (sign 10)) (next (sign_at 10) (λ _. (binder c.Logical))) (binder (class_of is_ghost)))

unfoldable pub next_parameter : Bool → Reader Token Binder
next_parameter is_ghost = next (sign_at 6) (λ _. (parameter is_ghost))

abbrev pub more_parameters : Bool → Reader Token (List Binder)
more_parameters is_ghost = repeat (is (sign 6)) (next_parameter is_ghost)

unfoldable pub parameters : Bool → Reader Token (List Binder)
parameters is_ghost = either (is (sign 1)) (mapped (λ _. []) (sign_at 1)) (next (parameter is_ghost) (λ first. (next (more_parameters is_ghost) (λ more. (mapped (λ _. first ∷ more) (sign_at 1))))))

unfoldable pub opens : Reader Token Bool
opens = either (is (sign 34)) (mapped (λ _. true) (sign_at 34)) (nothing false)

unfoldable pub requires_clause : ℕ → Pos → Reader Token t.Prop
requires_clause depth p = either (is (sign 35)) (next (sign_at 35) (λ _. (whole_prop depth 0))) (nothing (t.Emp p))

unfoldable pub ensures_clause : ℕ → Pos → Reader Token t.Prop
ensures_clause depth p = either (is (sign 37)) (next (sign_at 37) (λ _. (whole_prop depth 0))) (nothing (t.Emp p))

unfoldable pub returns_clause : Reader Token (Option Binder)
returns_clause = either (is (sign 36)) (next (sign_at 36) (λ _. (mapped (λ b. Some b) (binder c.Real)))) (nothing None)

unfoldable pub decreases_clause : ℕ → Reader Token (Option t.Expr)
decreases_clause depth = either (is (sign 38)) (next (sign_at 38) (λ _. (mapped (λ e. Some e) (value depth 0)))) (nothing None)

unfoldable pub function_behind : ℕ → Reader Token t.Braced → Bool → Reader Token t.Decl
function_behind depth P is_ghost = next (one name_of) (λ x. (next (sign_at 0) (λ _. (next (parameters is_ghost) (λ ps. (next (opens) (λ o. (next (requires_clause depth x.0) (λ before. (next (returns_clause) (λ r. (next (ensures_clause depth x.0) (λ after. (next (decreases_clause depth) (λ m. (mapped (λ b. t.Fun (record { pos = x.0; is_ghost = is_ghost; name = x.1; params = ps; opens = o; before = before; result = r; after = after; measure = m; body = b })) P))))))))))))))))

unfoldable pub function_rule : ℕ → Reader Token t.Braced → Reader Token t.Decl
function_rule depth P = either (is (sign 32)) (next (sign_at 32) (λ _. (next (sign_at 33) (λ _. (function_behind depth P true))))) (next (sign_at 33) (λ _. (function_behind depth P false)))

-- an arm, where a level is left
unfoldable pub arm_of : ℕ → Reader Token t.Prop
arm_of depth = next (sign_at 2) (λ _. next (prop depth 0) (λ p. mapped (λ _. p.tree) (sign_at 3)))

unfoldable pub arm : ℕ → Reader Token t.Prop
arm zero = either (is (sign 2)) deep refuse
arm (suc depth) = next (sign_at 2) (λ _. next (prop depth 0) (λ p. mapped (λ _. p.tree) (sign_at 3)))

-- with what a declaration begins
abbrev pub declaration_firsts : Set
declaration_firsts = signs (30 ∷ 31 ∷ 32 ∷ 33 ∷ [])

unfoldable pub declaration : ℕ → Reader Token t.Decl
declaration depth = either (is (sign 30)) struct_rule (either (is (sign 31)) (pred_rule depth (arm depth)) (function_rule depth (block depth)))

unfoldable pub file : ℕ → Reader Token t.Program
file depth = next (repeat (is declaration_firsts) (declaration depth)) (λ ds. mapped (λ _. record { decls = ds }) (one end_of))

-- a file of at most so many declarations
unfoldable pub file_within : ℕ → ℕ → Reader Token t.Program
file_within limit depth = next (many limit (is declaration_firsts) (declaration depth)) (λ ds. mapped (λ _. record { decls = ds }) (one end_of))
