-- The grammar. Each rule has the levels that its text may used.
--
-- A level is opened by the brace of a function, of a statement or of an arm, by a bracket that groups an expression or a
-- proposition, by each unary and binary operator, by each `**` and by `exists`. A bracket's level ends at its other
-- bracket; the others end at the end of the innermost bracket, argument, clause, body of a predicate or statement.
-- So a rule has two numbers: `depth` levels may be open in the innermost of these, and `used` of them are open. Where
-- levels go on behind a text, its value says how many are open there.
use Rattle.std.specs.Prelude.{ℕ, zero, suc, ◌+◌, pos, neg_ℤ, nat_lt, Bool, true, false, List, [], ◌∷◌, Option, Some, None}
use Rattle.pl_base.specs.declared.pos.Pos.{Pos}
use Rattle.pl_syntax.specs.declared.expr.BinOp.{BinOp}
use Rattle.pl_syntax.specs.declared.expr.BinOp.TheVariants as op
use Rattle.pl_lexer.specs.declared.tokens.Kind.{Kind}
use Rattle.pl_lexer.specs.declared.tokens.Kind.TheVariants as k
use Rattle.pl_lexer.specs.declared.tokens.Token.{Token}
use Rattle.pl_readers.specs.Language.{Language, One, Then, Either, Nothing, Void, Mapped}
use Rattle.pl_grammar.specs.Signs.{place_of, entry_of, look_up}
use Rattle.pl_syntax.specs.Tree as t
use Rattle.pl_syntax.specs.Tree.{Expr}

-- this sign, with its place
abbrev pub Sign : ℕ → Language Token Pos
Sign n = One (place_of n)

-- a text for which a level has to be opened: there is one only where a level is left
abbrev pub Where : {A : Type 0} → Bool → Language Token A → Language Token A
Where true T = T
Where false T = Void

-- ---- expressions

-- an expression, with the place of its first token and the levels that are open behind it
pub record Part : Type 0 where
  pub first : Pos
  pub tree : Expr
  pub used : ℕ

-- an operator between two
abbrev pub joined : Part → BinOp → Part → Part
joined left o right = record { first = left.first; tree = t.Bin left.first o left.tree right.tree; used = right.used }

-- one more level stays open
abbrev pub raised : Part → Part
raised x = record { first = x.first; tree = x.tree; used = x.used + 1 }

-- behind a unary operator at a place
abbrev pub negated : Pos → Part → Part
negated p x = record { first = p; tree = t.Neg p x.tree; used = x.used + 1 }

abbrev pub denied : Pos → Part → Part
denied p x = record { first = p; tree = t.Not p x.tree; used = x.used + 1 }

-- in brackets, of which the first is at a place
abbrev pub grouped : Pos → ℕ → Part → Part
grouped p used x = record { first = p; tree = x.tree; used = used }

-- `*` `/` `%`
abbrev pub times : List (ℕ × BinOp)
times = (17, op.Mul) ∷ (18, op.Div) ∷ (19, op.Rem) ∷ []

-- `+` `-`
abbrev pub plus : List (ℕ × BinOp)
plus = (15, op.Add) ∷ (16, op.Sub) ∷ []

-- `<` `<=` `>` `>=` `==` `!=`
abbrev pub relation : List (ℕ × BinOp)
relation = (20, op.Lt) ∷ (21, op.Le) ∷ (22, op.Gt) ∷ (23, op.Ge) ∷ (24, op.Eq) ∷ (25, op.Ne) ∷ []

-- `&&`
abbrev pub conjunction : List (ℕ × BinOp)
conjunction = (26, op.And) ∷ []

-- `||`
abbrev pub disjunction : List (ℕ × BinOp)
disjunction = (27, op.Or) ∷ []

-- `==>`
abbrev pub implication : List (ℕ × BinOp)
implication = (28, op.Implies) ∷ []

-- operators and operands behind a first operand, which has some levels open: { operator operand }
-- Each operator opens a level, so at most `depth` of them can stand there.
unfoldable pub Chain : List (ℕ × BinOp) → (ℕ → Language Token Part) → ℕ → ℕ → Part → Language Token Part
Chain ops T depth zero left = Nothing left
Chain ops T depth (suc count) left =
    Either (Where (nat_lt left.used depth)
    (Then (One (entry_of ops)) (λ o. Then (T (left.used + 1)) (λ right. Chain ops T depth count (joined left o right)))))
    (Nothing left)

-- operand { operator operand }
abbrev pub Chained : List (ℕ × BinOp) → ℕ → (ℕ → Language Token Part) → ℕ → Language Token Part
Chained ops depth T used = Then (T used) (Chain ops T depth depth)

-- [ operator operand ]
unfoldable pub Optional : List (ℕ × BinOp) → (ℕ → Language Token Part) → ℕ → Part → Language Token Part
Optional ops T depth left =
    Either (Where (nat_lt left.used depth) (Then (One (entry_of ops)) (λ o. Mapped (joined left o) (T (left.used + 1))))) (Nothing left)

-- operand [ operator operand ]
abbrev pub Single : List (ℕ × BinOp) → ℕ → (ℕ → Language Token Part) → ℕ → Language Token Part
Single ops depth T used = Then (T used) (Optional ops T depth)

-- the truth values and null
abbrev pub constants : List (ℕ × (Pos → Expr))
constants = (52, λ p. t.Truth p true) ∷ (53, λ p. t.Truth p false) ∷ (54, λ p. t.Null p) ∷ []

abbrev pub constant : Pos → ℕ → Option (Pos → Expr) → Option Part
constant p used None = None
constant p used (Some make) = Some (record { first = p; tree = make p; used = used })

abbrev pub word_kind : ℕ → Pos → Kind → Option Part
word_kind used p (k.Word x) = Some (record { first = p; tree = t.Var p x; used = used })
word_kind used p (k.Number n) = None
word_kind used p (k.Sign j) = constant p used (look_up constants j)
word_kind used p k.End = None

-- "true" | "false" | "null" | NAME
abbrev pub word_of : ℕ → Token → Option Part
word_of used t = word_kind used t.pos t.kind

abbrev pub literal_kind : ℕ → Pos → Kind → Option Part
literal_kind used p (k.Number n) = Some (record { first = p; tree = t.Int p n; used = used })
literal_kind used p _ = None

-- NUMBER
abbrev pub literal_of : ℕ → Token → Option Part
literal_of used t = literal_kind used t.pos t.kind

abbrev pub negative_kind : ℕ → Pos → Kind → Option Part
negative_kind used p (k.Number (pos n)) = Some (record { first = p; tree = t.Int p (neg_ℤ (pos n)); used = used })
negative_kind used p _ = None

-- NUMBER, right behind a minus at p (no token has a number below 0)
abbrev pub negative_of : ℕ → Pos → Token → Option Part
negative_of used p t = negative_kind used p t.kind

-- each rule over the one below it, for texts that begin with so many levels open
--   expr = or [ "==>" or ]     or = and { "||" and }                     and = cmp { "&&" cmp }
--   cmp = sum [ relation sum ]   sum = term { ("+" | "-") term }   term = unary { ("*" | "/" | "%") unary }
abbrev pub TermOf : ℕ → (ℕ → Language Token Part) → ℕ → Language Token Part
TermOf depth U = Chained times depth U

abbrev pub SumOf : ℕ → (ℕ → Language Token Part) → ℕ → Language Token Part
SumOf depth U = Chained plus depth (TermOf depth U)

abbrev pub CompareOf : ℕ → (ℕ → Language Token Part) → ℕ → Language Token Part
CompareOf depth U = Single relation depth (SumOf depth U)

abbrev pub AndOf : ℕ → (ℕ → Language Token Part) → ℕ → Language Token Part
AndOf depth U = Chained conjunction depth (CompareOf depth U)

abbrev pub OrOf : ℕ → (ℕ → Language Token Part) → ℕ → Language Token Part
OrOf depth U = Chained disjunction depth (AndOf depth U)

abbrev pub ExprOf : ℕ → (ℕ → Language Token Part) → ℕ → Language Token Part
ExprOf depth U = Single implication depth (OrOf depth U)

-- NUMBER | other
abbrev pub UnaryOf : (ℕ → Language Token Part) → ℕ → Language Token Part
UnaryOf O used = Either (One (literal_of used)) (O used)

-- behind a minus at p: NUMBER, or where a level is left another operand
abbrev pub BehindMinus : Bool → (ℕ → Language Token Part) → ℕ → Pos → Language Token Part
BehindMinus room O used p = Either (One (negative_of used p)) (Where room (Mapped (negated p) (O used)))

-- "not" unary
abbrev pub NotOf : (ℕ → Language Token Part) → ℕ → Language Token Part
NotOf O used = Then (Sign 51) (λ p. Mapped (denied p) (UnaryOf O used))

-- "(" expr ")"
abbrev pub GroupOf : ℕ → (ℕ → Language Token Part) → ℕ → Language Token Part
GroupOf depth O used = Then (Sign 0) (λ p. Then (ExprOf depth (UnaryOf O) used) (λ x. Mapped (λ _. grouped p used x) (Sign 1)))

-- "-" NUMBER | "-" other | "not" unary | "(" expr ")" | "true" | "false" | "null" | NAME
unfoldable pub Other : ℕ → ℕ → Language Token Part
Other zero used = Either (Then (Sign 16) (λ p. One (negative_of used p))) (One (word_of used))
Other (suc depth) used =
    Either (Then (Sign 16) (BehindMinus (nat_lt used (suc depth)) (Other depth) used))
    (Either (Where (nat_lt used (suc depth)) (Either (NotOf (Other depth) used) (GroupOf depth (Other depth) used)))
    (One (word_of used)))

-- NUMBER | other
abbrev pub Unary : ℕ → ℕ → Language Token Part
Unary depth = UnaryOf (Other depth)

unfoldable pub Sum : ℕ → ℕ → Language Token Part
Sum depth = SumOf depth (Unary depth)

-- an expression, where `depth` levels may be open and `used` of them are
unfoldable pub Expression : ℕ → ℕ → Language Token Part
Expression depth = ExprOf depth (Unary depth)
