-- The grammar of propositions and of what stands in them, above that of expressions.
use Rattle.std.specs.Prelude.{ℕ, zero, suc, ◌+◌, ◌/◌, ◌%◌, ◌==◌, ◌&&◌, min, nat_lt, nat_le, pos, Bool, true, false, if◌then◌else◌, List, [], ◌∷◌, Option, Some, None}
use Rattle.pl_base.specs.declared.pos.Pos.{Pos}
use Rattle.pl_syntax.specs.declared.expr.Class.{Class}
use Rattle.pl_syntax.specs.declared.expr.Class.TheVariants as c
use Rattle.pl_syntax.specs.declared.expr.Sort.{Sort}
use Rattle.pl_syntax.specs.declared.expr.Sort.TheVariants as v
use Rattle.pl_syntax.specs.declared.expr.Binder.{Binder}
use Rattle.pl_syntax.specs.declared.expr.PermExpr.{PermExpr}
use Rattle.pl_lexer.specs.declared.tokens.Kind.{Kind}
use Rattle.pl_lexer.specs.declared.tokens.Kind.TheVariants as k
use Rattle.pl_lexer.specs.declared.tokens.Token.{Token}
use Rattle.pl_syntax.specs.Tree as t
use Rattle.pl_syntax.specs.Tree.{Name}
use Rattle.pl_readers.specs.Language.{Language, One, Then, Either, Nothing, Mapped, Many}
use Rattle.pl_grammar.specs.Signs.{name_of, look_up, entry_of}
use Rattle.pl_grammar.specs.Grammar.{Sign, Where, Expression, Sum}

-- an expression in a bracket or an argument: its levels end with it
abbrev pub Value : ℕ → ℕ → Language Token t.Expr
Value depth used = Mapped (λ x. x.tree) (Expression depth used)

-- the same of a sum
abbrev pub Summed : ℕ → ℕ → Language Token t.Expr
Summed depth used = Mapped (λ x. x.tree) (Sum depth used)

-- "," expr
abbrev pub NextValue : ℕ → ℕ → Language Token t.Expr
NextValue depth used = Then (Sign 6) (λ _. (Value depth used))

-- { "," expr }
abbrev pub MoreValues : ℕ → ℕ → Language Token (List t.Expr)
MoreValues depth used = Many (NextValue depth used)

-- [ expr { "," expr } ] ")"
abbrev pub Arguments : ℕ → ℕ → Language Token (List t.Expr)
Arguments depth used = Either (Mapped (λ _. []) (Sign 1)) (Then (Value depth used) (λ first. (Then (MoreValues depth used) (λ more. (Mapped (λ _. first ∷ more) (Sign 1))))))

-- [ "[" sum "]" | "." NAME ], behind a name
abbrev pub CellBehind : ℕ → ℕ → (Pos × List ℕ) → Language Token t.CellExpr
CellBehind depth used x = Either (Either (Then (Sign 4) (λ _. (Then (Summed depth used) (λ i. (Mapped (λ _. t.At x.1 i) (Sign 5)))))) (Then (Sign 9) (λ _. (Mapped (λ f. t.Field x.1 f.1) (One name_of))))) (Nothing (t.Whole x.1))

-- cell = NAME [ "[" sum "]" | "." NAME ]
abbrev pub Cell : ℕ → ℕ → Language Token t.CellExpr
Cell depth used = Then (One name_of) (λ x. (CellBehind depth used x))

-- "(" [ expr { "," expr } ] ")", behind a name
abbrev pub InstanceBehind : ℕ → ℕ → (Pos × List ℕ) → Language Token t.Instance
InstanceBehind depth used x = Then (Sign 0) (λ _. (Mapped (λ args. record { pos = x.0; pred = x.1; args = args }) (Arguments depth used)))

-- inst = NAME "(" [ expr { "," expr } ] ")"
abbrev pub Instance : ℕ → ℕ → Language Token t.Instance
Instance depth used = Then (One name_of) (λ x. (InstanceBehind depth used x))

-- ---- binders

abbrev pub ref_kind : Kind → Option Sort
ref_kind (k.Word x) = Some (v.RefStruct x)
ref_kind (k.Number n) = None
ref_kind (k.Sign j) = look_up ((92, v.RefI64) ∷ (93, v.RefBool) ∷ []) j
ref_kind k.End = None

-- "i64" | "bool" | NAME, behind "ref"
abbrev pub ref_of : Token → Option Sort
ref_of t = ref_kind t.kind

-- the sorts of one word
abbrev pub sorts : List (ℕ × Sort)
sorts =
    (92, v.I64) ∷ (93, v.Bool) ∷ (95, v.Atomic) ∷ (96, v.Lock) ∷ (97, v.Int) ∷ (98, v.Perm) ∷ (99, v.Gref) ∷ (100, v.Iname) ∷ []

-- sort = "i64" | "bool" | "ref" ( "i64" | "bool" | NAME ) | "atomic" | "lock" | "int" | "perm" | "gref" | "iname"
abbrev pub SortOf : Language Token Sort
SortOf = Either (Then (Sign 94) (λ _. (One ref_of))) (One (entry_of sorts))

-- bind = NAME ":" sort, whose place is the name's
abbrev pub BinderOf : Class → Language Token Binder
BinderOf class = Then (One name_of) (λ x. (Then (Sign 8) (λ _. (Mapped (λ s. record { pos = x.0; class = class; name = x.1; sort = s }) (SortOf)))))

-- "," bind
abbrev pub NextBinder : Class → Language Token Binder
NextBinder class = Then (Sign 6) (λ _. (BinderOf class))

-- { "," bind }
abbrev pub MoreBinders : Class → Language Token (List Binder)
MoreBinders class = Many (NextBinder class)

-- bind { "," bind }
abbrev pub Binders : Class → Language Token (List Binder)
Binders class = Then (BinderOf class) (λ first. (Mapped (λ more. first ∷ more) (MoreBinders class)))

-- ---- permissions

-- the greatest number in a permission
abbrev pub finest : ℕ
finest = 1048576

-- the greatest common divisor, by so many divisions
unfoldable pub divisor : ℕ → ℕ → ℕ → ℕ
divisor zero a b = a
divisor (suc count) a zero = a
divisor (suc count) a (suc b) = divisor count (suc b) (a % suc b)

-- n / d in lowest terms
abbrev pub lowest : ℕ → ℕ → ℕ × ℕ
lowest n d = (n / divisor (suc d) n d, d / divisor (suc d) n d)

abbrev pub numerator_kind : Pos → Kind → Option (Pos × ℕ)
numerator_kind p (k.Number (pos n)) = if nat_lt 0 n && nat_le n finest then Some (p, n) else None
numerator_kind p _ = None

-- a number from 1 to 1,048,576
abbrev pub numerator_of : Token → Option (Pos × ℕ)
numerator_of t = numerator_kind t.pos t.kind

abbrev pub denominator_kind : ℕ → Kind → Option ℕ
denominator_kind n (k.Number (pos d)) = if nat_le (min n finest) d && nat_le d finest then Some d else None
denominator_kind n _ = None

-- a number from the numerator n to 1,048,576 (no numerator passes that)
abbrev pub denominator_of : ℕ → Token → Option ℕ
denominator_of n t = denominator_kind n t.kind

-- [ "*" NAME ]
abbrev pub Factor : Language Token (Option Name)
Factor = Either (Then (Sign 17) (λ _. Mapped (λ f. Some f.1) (One name_of))) (Nothing None)

abbrev pub fraction : Pos × ℕ → ℕ → Option Name → PermExpr
fraction n d f = record { pos = n.0; part = lowest n.1 d; var = f }

-- "/" NUMBER [ "*" NAME ], behind a numerator
abbrev pub Fraction : Pos × ℕ → Language Token PermExpr
Fraction n = Then (Sign 18) (λ _. Then (One (denominator_of n.1)) (λ d. Mapped (fraction n d) Factor))

-- [ "/" NUMBER ] [ "*" NAME ], behind a numerator that may be 1; another one has a denominator
abbrev pub BehindNumerator : Bool → Pos × ℕ → Language Token PermExpr
BehindNumerator true n = Either (Fraction n) (Mapped (fraction n 1) Factor)
BehindNumerator false n = Fraction n

abbrev pub all_of : Pos × List ℕ → PermExpr
all_of f = record { pos = f.0; part = (1, 1); var = Some f.1 }

-- perm = NUMBER [ "/" NUMBER ] [ "*" NAME ] | NAME
abbrev pub Permission : Language Token PermExpr
Permission = Either (Then (One numerator_of) (λ n. BehindNumerator (n.1 == 1) n)) (Mapped all_of (One name_of))

-- a missing permission, in an atom at a place
abbrev pub whole_at : Pos → PermExpr
whole_at p = record { pos = p; part = (1, 1); var = None }

-- ---- atoms

-- a proposition, with the levels that are open behind it
pub record PropPart : Type 0 where
  pub tree : t.Prop
  pub used : ℕ

-- NAME ":" expr
abbrev pub WithLabel : ℕ → ℕ → Language Token (Option Name × t.Expr)
WithLabel depth used = Then (One name_of) (λ h. Then (Sign 8) (λ _. Mapped (λ e. (Some h.1, e)) (Value depth used)))

-- [ NAME ":" ] expr
abbrev pub Labelled : ℕ → ℕ → Language Token (Option Name × t.Expr)
Labelled depth used = Either (WithLabel depth used) (Mapped (λ e. (None, e)) (Value depth used))

-- [ "{" perm "}" ], in an atom at a place; a missing permission is 1
abbrev pub PermissionOrWhole : Pos → Language Token PermExpr
PermissionOrWhole p = Either (Then (Sign 2) (λ _. (Then Permission (λ q. (Mapped (λ _. q) (Sign 3)))))) (Nothing (whole_at p))

-- cell "|->" [ "{" perm "}" ] sum, behind the name of the cell
abbrev pub PointsBehind : ℕ → ℕ → (Pos × List ℕ) → Language Token PropPart
PointsBehind depth used x = Then (CellBehind depth used x) (λ c. (Then (Sign 13) (λ _. (Then (PermissionOrWhole x.0) (λ q. (Mapped (λ e. record { tree = t.Points x.0 c q e.tree; used = e.used }) (Sum depth used)))))))

-- inst | cell "|->" [ "{" perm "}" ] sum
abbrev pub NamedAtom : ℕ → ℕ → Language Token PropPart
NamedAtom depth used = Then (One name_of) (λ x. (Either (Mapped (λ i. record { tree = t.App i; used = used }) (InstanceBehind depth used x)) (PointsBehind depth used x)))

-- "emp"
abbrev pub EmpAtom : ℕ → ℕ → Language Token PropPart
EmpAtom depth used = Mapped (λ p. record { tree = t.Emp p; used = used }) (Sign 55)

-- "pure" "(" [ NAME ":" ] expr ")"
abbrev pub PureAtom : ℕ → ℕ → Language Token PropPart
PureAtom depth used = Then (Sign 56) (λ p. (Then (Sign 0) (λ _. (Then (Labelled depth used) (λ e. (Mapped (λ _. record { tree = t.Pure p e.0 e.1; used = used }) (Sign 1)))))))

-- "block" "(" expr "," expr ")"
abbrev pub BlockAtom : ℕ → ℕ → Language Token PropPart
BlockAtom depth used = Then (Sign 59) (λ p. (Then (Sign 0) (λ _. (Then (Value depth used) (λ a. (Then (Sign 6) (λ _. (Then (Value depth used) (λ n. (Mapped (λ _. record { tree = t.Block p a n; used = used }) (Sign 1)))))))))))

-- [ "," perm ]
abbrev pub LastPermission : Pos → Language Token PermExpr
LastPermission p = Either (Then (Sign 6) (λ _. Permission)) (Nothing (whole_at p))

-- "slice" "(" expr "," expr "," expr [ "," perm ] ")"
abbrev pub SliceAtom : ℕ → ℕ → Language Token PropPart
SliceAtom depth used = Then (Sign 58) (λ p. (Then (Sign 0) (λ _. (Then (Value depth used) (λ a. (Then (Sign 6) (λ _. (Then (Value depth used) (λ lo. (Then (Sign 6) (λ _. (Then (Value depth used) (λ hi. (Then (LastPermission p) (λ q. (Mapped (λ _. record { tree = t.Slice p a lo hi q; used = used }) (Sign 1)))))))))))))))))

-- "lock_alive" "(" expr "," perm "," inst ")"
abbrev pub AliveAtom : ℕ → ℕ → Language Token PropPart
AliveAtom depth used = Then (Sign 60) (λ p. (Then (Sign 0) (λ _. (Then (Value depth used) (λ l. (Then (Sign 6) (λ _. (Then Permission (λ q. (Then (Sign 6) (λ _. (Then (Instance depth used) (λ i. (Mapped (λ _. record { tree = t.Alive p l q i; used = used }) (Sign 1)))))))))))))))

-- "lock_held" "(" expr ")"
abbrev pub HeldAtom : ℕ → ℕ → Language Token PropPart
HeldAtom depth used = Then (Sign 61) (λ p. (Then (Sign 0) (λ _. (Then (Value depth used) (λ l. (Mapped (λ _. record { tree = t.Held p l; used = used }) (Sign 1)))))))

-- "inv" "(" expr "," inst ")"
abbrev pub InvAtom : ℕ → ℕ → Language Token PropPart
InvAtom depth used = Then (Sign 62) (λ p. (Then (Sign 0) (λ _. (Then (Value depth used) (λ e. (Then (Sign 6) (λ _. (Then (Instance depth used) (λ i. (Mapped (λ _. record { tree = t.Inv p e i; used = used }) (Sign 1)))))))))))

-- an atom but a proposition in brackets
abbrev pub Atom : ℕ → ℕ → Language Token PropPart
Atom depth used = Either (EmpAtom depth used) (Either (PureAtom depth used) (Either (BlockAtom depth used) (Either (SliceAtom depth used) (Either (AliveAtom depth used) (Either (HeldAtom depth used) (Either (InvAtom depth used) (NamedAtom depth used)))))))

-- ---- propositions

-- behind `exists` at a place, which stays open
abbrev pub bound : Pos → List Binder → PropPart → PropPart
bound p bs q = record { tree = t.Exists p bs q.tree; used = q.used + 1 }

-- two sides of a star, which stays open
abbrev pub starred : PropPart → PropPart → PropPart
starred a q = record { tree = t.Star a.tree q.tree; used = q.used + 1 }

-- in brackets
abbrev pub enclosed : ℕ → PropPart → PropPart
enclosed used q = record { tree = q.tree; used = used }

-- [ "**" prop ], over propositions of one level less
abbrev pub StarBehind : ℕ → (ℕ → Language Token PropPart) → PropPart → Language Token PropPart
StarBehind depth R a = Either (Where (nat_lt a.used (suc depth)) (Then (Sign 14) (λ _. Mapped (starred a) (R a.used)))) (Nothing a)

-- "exists" bind { "," bind } "." prop
abbrev pub ExistsOf : (ℕ → Language Token PropPart) → ℕ → Language Token PropPart
ExistsOf R used = Then (Sign 57) (λ p. Then (Binders c.Logical) (λ bs. Then (Sign 9) (λ _. Mapped (bound p bs) (R used))))

-- "(" prop ")"
abbrev pub EnclosedOf : (ℕ → Language Token PropPart) → ℕ → Language Token PropPart
EnclosedOf R used = Then (Sign 0) (λ _. Then (R used) (λ q. Mapped (λ _. enclosed used q) (Sign 1)))

-- atom [ "**" prop ] | "exists" bind { "," bind } "." prop, where an atom may be a proposition in brackets
unfoldable pub Prop : ℕ → ℕ → Language Token PropPart
Prop zero used = Atom zero used
Prop (suc depth) used =
    Either (Where (nat_lt used (suc depth)) (ExistsOf (Prop depth) used))
    (Then (Either (Where (nat_lt used (suc depth)) (EnclosedOf (Prop depth) used)) (Atom (suc depth) used)) (StarBehind depth (Prop depth)))

-- a proposition whose levels end with it
abbrev pub WholeProp : ℕ → ℕ → Language Token t.Prop
WholeProp depth used = Mapped (λ p. p.tree) (Prop depth used)
