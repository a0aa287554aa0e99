-- The readers of propositions and of what stands in them.
use Rattle.std.specs.Prelude.{ℕ, zero, suc, ◌==◌, ◌&&◌, nat_lt, Bool, true, false, cond, List, [], ◌∷◌, Option, Some, None}
use Rattle.pl_base.specs.declared.pos.Pos.{Pos}
use Rattle.pl_syntax.specs.declared.expr.Class.{Class}
use Rattle.pl_syntax.specs.declared.expr.Class.TheVariants as c
use Rattle.pl_syntax.specs.declared.expr.Sort.{Sort}
use Rattle.pl_syntax.specs.declared.expr.Binder.{Binder}
use Rattle.pl_syntax.specs.declared.expr.PermExpr.{PermExpr}
use Rattle.pl_lexer.specs.declared.tokens.Token.{Token}
use Rattle.pl_syntax.specs.Tree as t
use Rattle.pl_syntax.specs.Tree.{Name}
use Rattle.pl_readers.specs.Reader.{Reader, begins, one, next, either, nothing, mapped, deep, repeat}
use Rattle.pl_grammar.specs.Signs.{Set, sign, name, number, both, name_of, entry_of}
use Rattle.pl_grammar.specs.PropGrammar.{ref_of, sorts, numerator_of, denominator_of, fraction, all_of, whole_at, PropPart, bound, starred, enclosed}
use Rattle.pl_grammar.specs.Readers.{is, sign_at, where_left, expression, sum}

-- ---- sets

-- the sorts behind "ref"
abbrev pub ref_firsts : Set
ref_firsts = record { signs = 92 ∷ 93 ∷ []; names = true; numbers = false }

-- with what a proposition begins
abbrev pub prop_firsts : Set
prop_firsts = record { signs = 57 ∷ 0 ∷ 55 ∷ 56 ∷ 59 ∷ 58 ∷ 60 ∷ 61 ∷ 62 ∷ []; names = true; numbers = false }

-- the next token but one passes the test
abbrev pub second : Set → List Token → Bool
second s [] = false
second s (x ∷ xs) = begins (is s) xs

-- the next two tokens are in the sets
abbrev pub test : Set → Set → List Token → Bool
test s t xs = begins (is s) xs && second t xs

-- what P reads where the next two tokens are in the sets, else what Q reads
abbrev pub looked : {A : Type 0} → Set → Set → Reader Token A → Reader Token A → Reader Token A
looked s t P Q xs = cond (begins (is s) xs && second t xs) (P xs) (Q xs)

unfoldable pub value : ℕ → ℕ → Reader Token t.Expr
value depth used = mapped (λ x. x.tree) (expression depth used)

unfoldable pub summed : ℕ → ℕ → Reader Token t.Expr
summed depth used = mapped (λ x. x.tree) (sum depth used)

unfoldable pub next_value : ℕ → ℕ → Reader Token t.Expr
next_value depth used = next (sign_at 6) (λ _. (value depth used))

abbrev pub more_values : ℕ → ℕ → Reader Token (List t.Expr)
more_values depth used = repeat (is (sign 6)) (next_value depth used)

unfoldable pub arguments : ℕ → ℕ → Reader Token (List t.Expr)
arguments depth used = either (is (sign 1)) (mapped (λ _. []) (sign_at 1)) (next (value depth used) (λ first. (next (more_values depth used) (λ more. (mapped (λ _. first ∷ more) (sign_at 1))))))

unfoldable pub cell_behind : ℕ → ℕ → (Pos × List ℕ) → Reader Token t.CellExpr
cell_behind depth used x = either (is (both (sign 4) (sign 9))) (either (is (sign 4)) (next (sign_at 4) (λ _. (next (summed depth used) (λ i. (mapped (λ _. t.At x.1 i) (sign_at 5)))))) (next (sign_at 9) (λ _. (mapped (λ f. t.Field x.1 f.1) (one name_of))))) (nothing (t.Whole x.1))

unfoldable pub cell : ℕ → ℕ → Reader Token t.CellExpr
cell depth used = next (one name_of) (λ x. (cell_behind depth used x))

unfoldable pub instance_behind : ℕ → ℕ → (Pos × List ℕ) → Reader Token t.Instance
instance_behind depth used x = next (sign_at 0) (λ _. (mapped (λ args. record { pos = x.0; pred = x.1; args = args }) (arguments depth used)))

unfoldable pub instance : ℕ → ℕ → Reader Token t.Instance
instance depth used = next (one name_of) (λ x. (instance_behind depth used x))

unfoldable pub sort : Reader Token Sort
sort = either (is (sign 94)) (next (sign_at 94) (λ _. (one ref_of))) (one (entry_of sorts))

unfoldable pub binder : Class → Reader Token Binder
binder class = next (one name_of) (λ x. (next (sign_at 8) (λ _. (mapped (λ s. record { pos = x.0; class = class; name = x.1; sort = s }) (sort)))))

unfoldable pub next_binder : Class → Reader Token Binder
next_binder class = next (sign_at 6) (λ _. (binder class))

abbrev pub more_binders : Class → Reader Token (List Binder)
more_binders class = repeat (is (sign 6)) (next_binder class)

unfoldable pub binders : Class → Reader Token (List Binder)
binders class = next (binder class) (λ first. (mapped (λ more. first ∷ more) (more_binders class)))

-- ---- permissions

unfoldable pub factor : Reader Token (Option Name)
factor = either (is (sign 17)) (next (sign_at 17) (λ _. mapped (λ f. Some f.1) (one name_of))) (nothing None)

unfoldable pub fraction_at : Pos × ℕ → Reader Token PermExpr
fraction_at n = next (sign_at 18) (λ _. next (one (denominator_of n.1)) (λ d. mapped (fraction n d) factor))

unfoldable pub behind_numerator : Bool → Pos × ℕ → Reader Token PermExpr
behind_numerator true n = either (is (sign 18)) (fraction_at n) (mapped (fraction n 1) factor)
behind_numerator false n = fraction_at n

unfoldable pub permission : Reader Token PermExpr
permission = either (is number) (next (one numerator_of) (λ n. behind_numerator (n.1 == 1) n)) (mapped all_of (one name_of))

-- ---- atoms

unfoldable pub with_label : ℕ → ℕ → Reader Token (Option Name × t.Expr)
with_label depth used = next (one name_of) (λ h. next (sign_at 8) (λ _. mapped (λ e. (Some h.1, e)) (value depth used)))

unfoldable pub labelled : ℕ → ℕ → Reader Token (Option Name × t.Expr)
labelled depth used = looked name (sign 8) (with_label depth used) (mapped (λ e. (None, e)) (value depth used))

unfoldable pub permission_or_whole : Pos → Reader Token PermExpr
permission_or_whole p = either (is (sign 2)) (next (sign_at 2) (λ _. (next permission (λ q. (mapped (λ _. q) (sign_at 3)))))) (nothing (whole_at p))

unfoldable pub points_behind : ℕ → ℕ → (Pos × List ℕ) → Reader Token PropPart
points_behind depth used x = next (cell_behind depth used x) (λ c. (next (sign_at 13) (λ _. (next (permission_or_whole x.0) (λ q. (mapped (λ e. record { tree = t.Points x.0 c q e.tree; used = e.used }) (sum depth used)))))))

unfoldable pub named_atom : ℕ → ℕ → Reader Token PropPart
named_atom depth used = next (one name_of) (λ x. (either (is (sign 0)) (mapped (λ i. record { tree = t.App i; used = used }) (instance_behind depth used x)) (points_behind depth used x)))

unfoldable pub emp_atom : ℕ → ℕ → Reader Token PropPart
emp_atom depth used = mapped (λ p. record { tree = t.Emp p; used = used }) (sign_at 55)

unfoldable pub pure_atom : ℕ → ℕ → Reader Token PropPart
pure_atom depth used = next (sign_at 56) (λ p. (next (sign_at 0) (λ _. (next (labelled depth used) (λ e. (mapped (λ _. record { tree = t.Pure p e.0 e.1; used = used }) (sign_at 1)))))))

unfoldable pub block_atom : ℕ → ℕ → Reader Token PropPart
block_atom depth used = next (sign_at 59) (λ p. (next (sign_at 0) (λ _. (next (value depth used) (λ a. (next (sign_at 6) (λ _. (next (value depth used) (λ n. (mapped (λ _. record { tree = t.Block p a n; used = used }) (sign_at 1)))))))))))

unfoldable pub last_permission : Pos → Reader Token PermExpr
last_permission p = either (is (sign 6)) (next (sign_at 6) (λ _. permission)) (nothing (whole_at p))

unfoldable pub slice_atom : ℕ → ℕ → Reader Token PropPart
slice_atom depth used = next (sign_at 58) (λ p. (next (sign_at 0) (λ _. (next (value depth used) (λ a. (next (sign_at 6) (λ _. (next (value depth used) (λ lo. (next (sign_at 6) (λ _. (next (value depth used) (λ hi. (next (last_permission p) (λ q. (mapped (λ _. record { tree = t.Slice p a lo hi q; used = used }) (sign_at 1)))))))))))))))))

unfoldable pub alive_atom : ℕ → ℕ → Reader Token PropPart
alive_atom depth used = next (sign_at 60) (λ p. (next (sign_at 0) (λ _. (next (value depth used) (λ l. (next (sign_at 6) (λ _. (next permission (λ q. (next (sign_at 6) (λ _. (next (instance depth used) (λ i. (mapped (λ _. record { tree = t.Alive p l q i; used = used }) (sign_at 1)))))))))))))))

unfoldable pub held_atom : ℕ → ℕ → Reader Token PropPart
held_atom depth used = next (sign_at 61) (λ p. (next (sign_at 0) (λ _. (next (value depth used) (λ l. (mapped (λ _. record { tree = t.Held p l; used = used }) (sign_at 1)))))))

unfoldable pub inv_atom : ℕ → ℕ → Reader Token PropPart
inv_atom depth used = next (sign_at 62) (λ p. (next (sign_at 0) (λ _. (next (value depth used) (λ e. (next (sign_at 6) (λ _. (next (instance depth used) (λ i. (mapped (λ _. record { tree = t.Inv p e i; used = used }) (sign_at 1)))))))))))

unfoldable pub atom : ℕ → ℕ → Reader Token PropPart
atom depth used = either (is (sign 55)) (emp_atom depth used) (either (is (sign 56)) (pure_atom depth used) (either (is (sign 59)) (block_atom depth used) (either (is (sign 58)) (slice_atom depth used) (either (is (sign 60)) (alive_atom depth used) (either (is (sign 61)) (held_atom depth used) (either (is (sign 62)) (inv_atom depth used) (named_atom depth used)))))))

-- ---- propositions

-- a star for which no level is left is one too many
unfoldable pub star_behind : ℕ → (ℕ → Reader Token PropPart) → PropPart → Reader Token PropPart
star_behind depth R a = either (is (sign 14)) (where_left (nat_lt a.used (suc depth)) (next (sign_at 14) (λ _. mapped (starred a) (R a.used)))) (nothing a)

-- a star and what stands behind it
unfoldable pub star_of : (ℕ → Reader Token PropPart) → PropPart → Reader Token PropPart
star_of R a = next (sign_at 14) (λ _. mapped (starred a) (R a.used))

unfoldable pub exists_of : (ℕ → Reader Token PropPart) → ℕ → Reader Token PropPart
exists_of R used = next (sign_at 57) (λ p. next (binders c.Logical) (λ bs. next (sign_at 9) (λ _. mapped (bound p bs) (R used))))

unfoldable pub enclosed_of : (ℕ → Reader Token PropPart) → ℕ → Reader Token PropPart
enclosed_of R used = next (sign_at 0) (λ _. next (R used) (λ q. mapped (λ _. enclosed used q) (sign_at 1)))

-- no level is left for a star
unfoldable pub no_star : PropPart → Reader Token PropPart
no_star a = either (is (sign 14)) deep (nothing a)

unfoldable pub prop : ℕ → ℕ → Reader Token PropPart
prop zero used = either (is (sign 57)) deep (next (either (is (sign 0)) deep (atom zero used)) no_star)
prop (suc depth) used =
    either (is (sign 57)) (where_left (nat_lt used (suc depth)) (exists_of (prop depth) used))
    (next (either (is (sign 0)) (where_left (nat_lt used (suc depth)) (enclosed_of (prop depth) used)) (atom (suc depth) used)) (star_behind depth (prop depth)))

-- an atom, or a proposition in brackets
unfoldable pub first_part : ℕ → ℕ → Reader Token PropPart
first_part zero used = either (is (sign 0)) deep (atom zero used)
first_part (suc depth) used = either (is (sign 0)) (where_left (nat_lt used (suc depth)) (enclosed_of (prop depth) used)) (atom (suc depth) used)

-- what stands behind it
unfoldable pub more_parts : ℕ → PropPart → Reader Token PropPart
more_parts zero a = no_star a
more_parts (suc depth) a = star_behind depth (prop depth) a

-- a proposition that doesn't begin with `exists`
unfoldable pub parts : ℕ → ℕ → Reader Token PropPart
parts depth used = next (first_part depth used) (more_parts depth)

-- a proposition that begins with `exists`
unfoldable pub exists_part : ℕ → ℕ → Reader Token PropPart
exists_part zero used = deep
exists_part (suc depth) used = where_left (nat_lt used (suc depth)) (exists_of (prop depth) used)

unfoldable pub whole_prop : ℕ → ℕ → Reader Token t.Prop
whole_prop depth used = mapped (λ p. p.tree) (prop depth used)
