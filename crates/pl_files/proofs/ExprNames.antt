-- The name that an expression of proper tokens is, if it is one, is an identifier within the limits.
use Rattle.std.proofs.Common.{ℕ, zero, suc, ◌==◌, pos, negsuc, Bool, true, false, if◌then◌else◌, nat_lt, List, [], ◌∷◌, Option, Some, None}
use Rattle.std.specs.List.{AllByRecursion}
use Rattle.pl_base.specs.declared.pos.Pos.{Pos}
use Rattle.pl_syntax.specs.declared.expr.BinOp.{BinOp}
use Rattle.pl_lexer.specs.declared.tokens.Kind.{Kind}
use Rattle.pl_lexer.specs.declared.tokens.Kind.TheVariants as k
use Rattle.pl_lexer.specs.declared.tokens.Token.{Token}
use Rattle.pl_lexer.specs.Proper.{IsName, IsProper}
use Rattle.pl_readers.specs.Language.{Language, One}
use Rattle.pl_syntax.specs.Tree.{Expr}
use Rattle.pl_grammar.specs.Signs.{look_up}
use Rattle.pl_grammar.specs.Grammar.{Part, Chain, Chained, Optional, Single, joined, constants, constant, word_kind, word_of, literal_kind, literal_of, negative_kind, negative_of, times, plus, relation, conjunction, disjunction, implication, TermOf, SumOf, CompareOf, AndOf, OrOf, ExprOf, UnaryOf, BehindMinus, Other, Unary, Expression}
use Rattle.pl_grammar.specs.PropGrammar.{Value}
use Rattle.pl_files.specs.Names.{value_names}
use Rattle.pl_files.proofs.Proper.{Gives, IfAny, one_is, nothing_is, either_is, where_is, then_is, behind, mapped_is, made}

-- the name that it is, if it is one
abbrev pub Named : Expr → Type 0
Named e = AllByRecursion IsName (value_names e)

abbrev pub NamedPart : Part → Type 0
NamedPart x = Named x.tree

-- ---- single tokens

look_up_is : {A : Type 0} (P : A → Type 0) (table : List (ℕ × A)) → AllByRecursion (λ e. P e.1) table → (j : ℕ) → IfAny P (look_up table j)
look_up_is P [] w j = tt
look_up_is P (e ∷ rest) w j =
    elim (j == e.0) as (λ b. IfAny P (if b then Some e.1 else look_up rest j)) [ true ↦ w.0 | false ↦ look_up_is P rest w.1 j ]

-- what a constant is, is no name
abbrev pub Nameless : (Pos → Expr) → Type 0
Nameless make = (p : Pos) → Named (make p)

constant_is : (p : Pos) (used : ℕ) (o : Option (Pos → Expr)) → IfAny Nameless o → IfAny NamedPart (constant p used o)
constant_is p used None w = tt
constant_is p used (Some make) w = w p

word_is : (used : ℕ) (p : Pos) (kind : Kind) → IsProper kind → IfAny NamedPart (word_kind used p kind)
word_is used p (k.Word x) h = (h, tt)
word_is used p (k.Number n) h = tt
word_is used p (k.Sign j) h = constant_is p used (look_up constants j) (look_up_is Nameless constants (λ _. tt, (λ _. tt, (λ _. tt, tt))) j)
word_is used p k.End h = tt

literal_is : (used : ℕ) (p : Pos) (kind : Kind) → IfAny NamedPart (literal_kind used p kind)
literal_is used p (k.Word x) = tt
literal_is used p (k.Number n) = tt
literal_is used p (k.Sign j) = tt
literal_is used p k.End = tt

negative_is : (used : ℕ) (p : Pos) (kind : Kind) → IfAny NamedPart (negative_kind used p kind)
negative_is used p (k.Word x) = tt
negative_is used p (k.Number (pos n)) = tt
negative_is used p (k.Number (negsuc n)) = tt
negative_is used p (k.Sign j) = tt
negative_is used p k.End = tt

word_gives : (used : ℕ) → Gives (One (word_of used)) NamedPart
word_gives used = one_is (word_of used) (λ x h. word_is used x.pos x.kind h)

literal_gives : (used : ℕ) → Gives (One (literal_of used)) NamedPart
literal_gives used = one_is (literal_of used) (λ x h. literal_is used x.pos x.kind)

negative_gives : (used : ℕ) (p : Pos) → Gives (One (negative_of used p)) NamedPart
negative_gives used p = one_is (negative_of used p) (λ x h. negative_is used p x.kind)

-- ---- operators

chain_gives : (ops : List (ℕ × BinOp)) (T : ℕ → Language Token Part) (depth count : ℕ) (left : Part) → NamedPart left → Gives (Chain ops T depth count left) NamedPart
unfolding Chain
chain_gives ops T depth zero left h = nothing_is left h
chain_gives ops T depth (suc count) left h =
    either_is (where_is (nat_lt left.used depth) (behind (λ o. behind (λ right. chain_gives ops T depth count (joined left o right) tt)))) (nothing_is left h)

chained_gives : (ops : List (ℕ × BinOp)) (depth : ℕ) (T : ℕ → Language Token Part) (used : ℕ) → Gives (T used) NamedPart → Gives (Chained ops depth T used) NamedPart
chained_gives ops depth T used p = then_is p (λ a h. chain_gives ops T depth depth a h)

optional_gives : (ops : List (ℕ × BinOp)) (T : ℕ → Language Token Part) (depth : ℕ) (left : Part) → NamedPart left → Gives (Optional ops T depth left) NamedPart
unfolding Optional
optional_gives ops T depth left h = either_is (where_is (nat_lt left.used depth) (behind (λ o. made (λ right. tt)))) (nothing_is left h)

single_gives : (ops : List (ℕ × BinOp)) (depth : ℕ) (T : ℕ → Language Token Part) (used : ℕ) → Gives (T used) NamedPart → Gives (Single ops depth T used) NamedPart
single_gives ops depth T used p = then_is p (λ a h. optional_gives ops T depth a h)

-- ---- operands

expr_of : (depth : ℕ) (U : ℕ → Language Token Part) (used : ℕ) → Gives (U used) NamedPart → Gives (ExprOf depth U used) NamedPart
expr_of depth U used p =
    single_gives implication depth (OrOf depth U) used
    (chained_gives disjunction depth (AndOf depth U) used
    (chained_gives conjunction depth (CompareOf depth U) used
    (single_gives relation depth (SumOf depth U) used
    (chained_gives plus depth (TermOf depth U) used
    (chained_gives times depth U used p)))))

unary_of : (O : ℕ → Language Token Part) (used : ℕ) → Gives (O used) NamedPart → Gives (UnaryOf O used) NamedPart
unary_of O used p = either_is (literal_gives used) p

behind_minus : (room : Bool) (O : ℕ → Language Token Part) (used : ℕ) (p : Pos) → Gives (BehindMinus room O used p) NamedPart
behind_minus room O used p = either_is (negative_gives used p) (where_is room (made (λ x. tt)))

other_gives : (depth used : ℕ) → Gives (Other depth used) NamedPart
unfolding Other
other_gives zero used = either_is (behind (λ p. negative_gives used p)) (word_gives used)
other_gives (suc depth) used =
    either_is (behind (λ p. behind_minus (nat_lt used (suc depth)) (Other depth) used p))
    (either_is (where_is (nat_lt used (suc depth))
    (either_is (behind (λ p. made (λ x. tt)))
    (behind (λ p. then_is (expr_of depth (UnaryOf (Other depth)) used (unary_of (Other depth) used (other_gives depth used))) (λ x h. made (λ _. h))))))
    (word_gives used))

pub expression_gives : (depth used : ℕ) → Gives (Expression depth used) NamedPart
unfolding Expression
expression_gives depth used = expr_of depth (Unary depth) used (unary_of (Other depth) used (other_gives depth used))

pub value_gives : (depth used : ℕ) → Gives (Value depth used) Named
value_gives depth used = mapped_is (expression_gives depth used) (λ x h. h)
