-- The grammar of declarations and files.
use Rattle.std.specs.Prelude.{ℕ, zero, suc, Bool, true, false, List, [], ◌∷◌, Option, Some, None}
use Rattle.pl_base.specs.declared.pos.Pos.{Pos}
use Rattle.pl_syntax.specs.declared.expr.Class.{Class}
use Rattle.pl_syntax.specs.declared.expr.Class.TheVariants as c
use Rattle.pl_syntax.specs.declared.expr.Binder.{Binder}
use Rattle.pl_lexer.specs.declared.tokens.Kind.{Kind}
use Rattle.pl_lexer.specs.declared.tokens.Kind.TheVariants as k
use Rattle.pl_lexer.specs.declared.tokens.Token.{Token}
use Rattle.pl_syntax.specs.Tree as t
use Rattle.pl_syntax.specs.Tree.{Name}
use Rattle.pl_readers.specs.Language.{Language, One, Then, Either, Nothing, Void, Mapped, Many}
use Rattle.pl_grammar.specs.Signs.{name_of}
use Rattle.pl_grammar.specs.Grammar.{Sign}
use Rattle.pl_grammar.specs.PropGrammar.{Value, BinderOf, Binders, Prop, WholeProp}
use Rattle.pl_grammar.specs.StatementGrammar.{Block}

-- "struct" NAME "{" bind { "," bind } "}"
abbrev pub StructRule : Language Token t.Decl
StructRule = Then (Sign 30) (λ _. (Then (One name_of) (λ x. (Then (Sign 2) (λ _. (Then (Binders c.Real) (λ bs. (Mapped (λ _. t.Struct (record { pos = x.0; name = x.1; fields = bs })) (Sign 3)))))))))

-- [ bind { "," bind } ] ")"
abbrev pub PredParameters : Language Token (List Binder)
PredParameters = Either (Mapped (λ _. []) (Sign 1)) (Then (Binders c.Logical) (λ bs. (Mapped (λ _. bs) (Sign 1))))

-- "if" "(" expr ")" "{" prop "}" "else" "{" prop "}" | prop
abbrev pub BodyOf : ℕ → Language Token t.Prop → Language Token t.Body
BodyOf depth K = Either (Then (Sign 41) (λ _. (Then (Sign 0) (λ _. (Then (Value depth 0) (λ e. (Then (Sign 1) (λ _. (Then K (λ p. (Then (Sign 42) (λ _. (Mapped (λ r. t.Cond e p r) K))))))))))))) (Mapped (λ p. t.Plain p) (WholeProp depth 0))

-- "pred" NAME "(" [ bind { "," bind } ] ")" "=" body ";"
abbrev pub PredRule : ℕ → Language Token t.Prop → Language Token t.Decl
PredRule depth K = Then (Sign 31) (λ _. (Then (One name_of) (λ x. (Then (Sign 0) (λ _. (Then (PredParameters) (λ ps. (Then (Sign 11) (λ _. (Then (BodyOf depth K) (λ b. (Mapped (λ _. t.Pred (record { pos = x.0; name = x.1; params = ps; body = b })) (Sign 7)))))))))))))

-- the class of an unmarked parameter
abbrev pub class_of : Bool → Class
class_of true = c.Ghost
class_of false = c.Real

-- [ "ghost" | "#" ] bind
abbrev pub Parameter : Bool → Language Token Binder
Parameter is_ghost = Either (Then (Sign 32) (λ _. (BinderOf c.Ghost))) (Either (Then (Sign 10) (λ _. (BinderOf c.Logical))) (BinderOf (class_of is_ghost)))

-- "," param
abbrev pub NextParameter : Bool → Language Token Binder
NextParameter is_ghost = Then (Sign 6) (λ _. (Parameter is_ghost))

-- { "," param }
abbrev pub MoreParameters : Bool → Language Token (List Binder)
MoreParameters is_ghost = Many (NextParameter is_ghost)

-- [ param { "," param } ] ")"
abbrev pub Parameters : Bool → Language Token (List Binder)
Parameters is_ghost = Either (Mapped (λ _. []) (Sign 1)) (Then (Parameter is_ghost) (λ first. (Then (MoreParameters is_ghost) (λ more. (Mapped (λ _. first ∷ more) (Sign 1))))))

-- [ "opens" ]
abbrev pub Opens : Language Token Bool
Opens = Either (Mapped (λ _. true) (Sign 34)) (Nothing false)

-- [ "requires" prop ], where a missing one is emp
abbrev pub Requires : ℕ → Pos → Language Token t.Prop
Requires depth p = Either (Then (Sign 35) (λ _. (WholeProp depth 0))) (Nothing (t.Emp p))

-- [ "ensures" prop ], where a missing one is emp
abbrev pub Ensures : ℕ → Pos → Language Token t.Prop
Ensures depth p = Either (Then (Sign 37) (λ _. (WholeProp depth 0))) (Nothing (t.Emp p))

-- [ "returns" bind ]
abbrev pub Returns : Language Token (Option Binder)
Returns = Either (Then (Sign 36) (λ _. (Mapped (λ b. Some b) (BinderOf c.Real)))) (Nothing None)

-- [ "decreases" expr ]
abbrev pub Decreases : ℕ → Language Token (Option t.Expr)
Decreases depth = Either (Then (Sign 38) (λ _. (Mapped (λ e. Some e) (Value depth 0)))) (Nothing None)

-- NAME "(" [ param { "," param } ] ")" [ "opens" ] [ "requires" prop ] [ "returns" bind ] [ "ensures" prop ] [ "decreases" expr ] block
abbrev pub FunctionBehind : ℕ → Language Token t.Braced → Bool → Language Token t.Decl
FunctionBehind depth K is_ghost = Then (One name_of) (λ x. (Then (Sign 0) (λ _. (Then (Parameters is_ghost) (λ ps. (Then (Opens) (λ o. (Then (Requires depth x.0) (λ before. (Then (Returns) (λ r. (Then (Ensures depth x.0) (λ after. (Then (Decreases depth) (λ m. (Mapped (λ b. t.Fun (record { pos = x.0; is_ghost = is_ghost; name = x.1; params = ps; opens = o; before = before; result = r; after = after; measure = m; body = b })) K))))))))))))))))

-- [ "ghost" ] "fn" ..
abbrev pub FunctionRule : ℕ → Language Token t.Braced → Language Token t.Decl
FunctionRule depth K = Either (Then (Sign 32) (λ _. (Then (Sign 33) (λ _. (FunctionBehind depth K true))))) (Then (Sign 33) (λ _. (FunctionBehind depth K false)))

-- "{" prop "}", an arm of a predicate, for which a level has to be left
abbrev pub Arm : ℕ → Language Token t.Prop
Arm zero = Void
Arm (suc depth) = Then (Sign 2) (λ _. Then (Prop depth 0) (λ p. Mapped (λ _. p.tree) (Sign 3)))

-- struct | pred | func
abbrev pub DeclarationOf : ℕ → Language Token t.Decl
DeclarationOf depth = Either StructRule (Either (PredRule depth (Arm depth)) (FunctionRule depth (Block depth)))

abbrev pub end_kind : Kind → Option (Unit {0})
end_kind k.End = Some tt
end_kind _ = None

-- the end of the file
abbrev pub end_of : Token → Option (Unit {0})
end_of t = end_kind t.kind

-- file = { struct | pred | func }, with so many levels
unfoldable pub File : ℕ → Language Token t.Program
File depth = Then (Many (DeclarationOf depth)) (λ ds. Mapped (λ _. record { decls = ds }) (One end_of))
