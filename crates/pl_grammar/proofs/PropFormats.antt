-- The formats of propositions and of what stands in them.
use Rattle.std.proofs.Common.{◌≡◌, ℕ, zero, suc, ◌+◌, ◌≤◌, ◌==◌, ◌&&◌, inl, inr, min, nat_lt, nat_le, pos, Bool, true, false, cond, List, [], ◌∷◌, ◌++◌, Option, Some, None, refl, sym, ap, ◌∙◌, arith}
use Rattle.std.proofs.lemmas.Bool.Decides.{nat_tests}
use Rattle.std.proofs.lemmas.List.{append-nil}
use Rattle.pl_base.specs.declared.pos.Pos.{Pos}
use Rattle.pl_syntax.specs.declared.expr.Class.{Class}
use Rattle.pl_syntax.specs.declared.expr.Class.TheVariants as c
use Rattle.pl_syntax.specs.declared.expr.Sort.{Sort}
use Rattle.pl_syntax.specs.declared.expr.Sort.TheVariants as v
use Rattle.pl_lexer.specs.declared.tokens.Kind.{Kind}
use Rattle.pl_lexer.specs.declared.tokens.Kind.TheVariants as k
use Rattle.pl_lexer.specs.declared.tokens.Token.{Token}
use Rattle.pl_syntax.specs.Tree as t
use Rattle.pl_syntax.specs.Tree.{Name}
use Rattle.pl_readers.specs.Language.{Language, One, Then, Either, Nothing, Void, Mapped, IsViable, HasText, Starts}
use Rattle.pl_readers.specs.Reader.{Reader, begins, one, next, either, nothing, mapped, refuse}
use Rattle.pl_readers.specs.Reads.{never, Ends, Reads}
use Rattle.pl_readers.proofs.Correct.{Reads-one, Reads-mapped, Reads-then, Reads-nothing}
use Rattle.pl_readers.proofs.Firsts.{ends_never, Starts-then, Starts-mapped, Starts-either, Starts-more, others_fail, some_then, some_mapped}
use Rattle.pl_grammar.specs.Signs.{Set, kind_in, token_in, signs, sign, name, number, both, signs_of, place_of, name_kind, name_of, entry_of}
use Rattle.pl_syntax.specs.declared.expr.BinOp.{BinOp}
use Rattle.pl_grammar.specs.Grammar.{Part, Sign, Where, Expression, Sum, Chain, Chained, Optional, Single, times, plus, relation, conjunction, disjunction, implication, word_of, TermOf, SumOf, CompareOf, AndOf, OrOf, Unary, Other}
use Rattle.pl_grammar.specs.Readers.{sign_at, where_left, operands, expression, sum}
use Rattle.pl_grammar.proofs.More.{Reads-behind, Reads-alike, Reads-where}
use Rattle.pl_grammar.proofs.Sets.{set_apart, set_inside, set_outside, token, tokens, some_place, entry_in, place_is, place_in}
use Rattle.pl_grammar.proofs.Levels.{ends_both}
use Rattle.pl_grammar.proofs.Tiers.{goes_expr, goes_sum}
use Rattle.pl_grammar.proofs.Operands.{words, word_found, where_first, expression_read, sum_is_read, sign_some, sign_starts}
use Rattle.pl_grammar.proofs.Formats.{Format, Maybe, no_more, format_sign, format_name, format_one, format_then, format_maybe, maybe_then, format_mapped, maybe_mapped, many, optional, format_before, format_first, format_either, maybe_either, maybe_from, maybe_widened, name_in}
use Rattle.pl_grammar.proofs.Looked.{format_looked}
use Rattle.pl_grammar.specs.PropGrammar.{Value, Summed, NextValue, MoreValues, Arguments, CellBehind, Cell, InstanceBehind, Instance, ref_kind, ref_of, sorts, SortOf, BinderOf, NextBinder, MoreBinders, Binders, finest, numerator_kind, numerator_of, denominator_kind, denominator_of, Factor, fraction, Fraction, BehindNumerator, all_of, Permission, whole_at, PropPart, WithLabel, Labelled, PermissionOrWhole, PointsBehind, NamedAtom, EmpAtom, PureAtom, BlockAtom, LastPermission, SliceAtom, AliveAtom, HeldAtom, InvAtom, Atom, bound, starred, enclosed, StarBehind, ExistsOf, EnclosedOf, Prop, WholeProp}
use Rattle.pl_grammar.specs.PropReaders.{ref_firsts, prop_firsts, value, summed, next_value, more_values, arguments, cell_behind, cell, instance_behind, instance, sort, binder, next_binder, more_binders, binders, factor, fraction_at, behind_numerator, permission, with_label, labelled, permission_or_whole, points_behind, named_atom, emp_atom, pure_atom, block_atom, last_permission, slice_atom, alive_atom, held_atom, inv_atom, atom, star_behind, exists_of, enclosed_of, no_star, prop, whole_prop}

-- ---- expressions

pub none_used : (depth : ℕ) → 0 ≤ depth
none_used depth = omega arith

pub format_expression : (depth used : ℕ) → used ≤ depth → Format (Expression depth used) (Expression (suc (suc depth)) used) goes_expr operands (expression depth used)
format_expression depth used h =
    let p = expression_read depth in
    record { reads = p.reads used h; some = p.some used; starts = p.starts used }

pub format_sum : (depth used : ℕ) → used ≤ depth → Format (Sum depth used) (Sum (suc (suc depth)) used) goes_sum operands (sum depth used)
format_sum depth used h =
    let p = sum_is_read depth in
    record { reads = p.reads used h; some = p.some used; starts = p.starts used }

pub format_value : (depth used : ℕ) → used ≤ depth → Format (Value depth used) (Value (suc (suc depth)) used) goes_expr operands (value depth used)
unfolding value
format_value depth used h = format_mapped (λ x. x.tree) (format_expression depth used h)

pub format_summed : (depth used : ℕ) → used ≤ depth → Format (Summed depth used) (Summed (suc (suc depth)) used) goes_sum operands (summed depth used)
unfolding summed
format_summed depth used h = format_mapped (λ x. x.tree) (format_sum depth used h)

pub format_next_value : (depth used : ℕ) → used ≤ depth → Format (NextValue depth used) (NextValue (suc (suc depth)) used) goes_expr (sign 6) (next_value depth used)
unfolding next_value
format_next_value depth used h = format_then (format_sign 6 refl) (λ _. (format_value depth used h)) refl

pub format_more_values : (depth used : ℕ) → used ≤ depth → Maybe (MoreValues depth used) (MoreValues (suc (suc depth)) used) (both (sign 6) goes_expr) (sign 6) (more_values depth used)
format_more_values depth used h = many (format_next_value depth used h) refl

pub format_arguments : (depth used : ℕ) → used ≤ depth → Format (Arguments depth used) (Arguments (suc (suc depth)) used) (both no_more no_more) (both (sign 1) operands) (arguments depth used)
unfolding arguments
format_arguments depth used h = format_either (format_mapped (λ _. []) (format_sign 1 refl)) (format_then (format_value depth used h) (λ first. (maybe_then (format_more_values depth used h) (λ more. (format_mapped (λ _. first ∷ more) (format_sign 1 refl))) refl)) refl) refl

pub format_cell_behind : (depth used : ℕ) → used ≤ depth → (x : Pos × List ℕ) → Maybe (CellBehind depth used x) (CellBehind (suc (suc depth)) used x) (both (both (sign 4) (sign 9)) (both no_more no_more)) (both (sign 4) (sign 9)) (cell_behind depth used x)
unfolding cell_behind
format_cell_behind depth used h x = optional (t.Whole x.1) (format_either (format_then (format_sign 4 refl) (λ _. (format_then (format_summed depth used h) (λ i. (format_mapped (λ _. t.At x.1 i) (format_sign 5 refl))) refl)) refl) (format_then (format_sign 9 refl) (λ _. (format_mapped (λ f. t.Field x.1 f.1) format_name)) refl) refl)

pub format_cell : (depth used : ℕ) → used ≤ depth → Format (Cell depth used) (Cell (suc (suc depth)) used) (both (both (sign 4) (sign 9)) (both no_more no_more)) name (cell depth used)
unfolding cell
format_cell depth used h = format_maybe format_name (λ x. (format_cell_behind depth used h x)) refl refl

pub format_instance_behind : (depth used : ℕ) → used ≤ depth → (x : Pos × List ℕ) → Format (InstanceBehind depth used x) (InstanceBehind (suc (suc depth)) used x) (both no_more no_more) (sign 0) (instance_behind depth used x)
unfolding instance_behind
format_instance_behind depth used h x = format_then (format_sign 0 refl) (λ _. (format_mapped (λ args. record { pos = x.0; pred = x.1; args = args }) (format_arguments depth used h))) refl

pub format_instance : (depth used : ℕ) → used ≤ depth → Format (Instance depth used) (Instance (suc (suc depth)) used) (both no_more no_more) name (instance depth used)
unfolding instance
format_instance depth used h = format_then format_name (λ x. (format_instance_behind depth used h x)) refl

-- ---- single tokens of binders

ref_first : (kk : Kind) (s : Sort) → ref_kind kk ≡ Some s → kind_in ref_firsts kk ≡ true
ref_first (k.Word x) s e = refl
ref_first (k.Number n) s e = absurd cc
ref_first (k.Sign j) s e = entry_in ((92, v.RefI64) ∷ (93, v.RefBool) ∷ []) (token (k.Sign j)) s e
ref_first k.End s e = absurd cc

format_ref : Format (One ref_of) (One ref_of) no_more ref_firsts (one ref_of)
format_ref = format_one ref_of ref_firsts (v.RefI64, tokens (k.Sign 92), (token (k.Sign 92), refl, refl)) (λ x a e. ref_first x.kind a e)

format_sort_word : Format (One (entry_of sorts)) (One (entry_of sorts)) no_more (signs_of sorts) (one (entry_of sorts))
format_sort_word = format_one (entry_of sorts) (signs_of sorts) (v.I64, tokens (k.Sign 92), (token (k.Sign 92), refl, refl)) (λ x a e. entry_in sorts x a e)

pub format_sort : Format SortOf SortOf (both no_more no_more) (both (sign 94) (signs_of sorts)) sort
unfolding sort
format_sort = format_either (format_then (format_sign 94 refl) (λ _. format_ref) refl) format_sort_word refl

pub format_binder : (class : Class) → Format (BinderOf class) (BinderOf class) (both no_more no_more) name (binder class)
unfolding binder
format_binder class = format_then format_name (λ x. (format_then (format_sign 8 refl) (λ _. (format_mapped (λ s. record { pos = x.0; class = class; name = x.1; sort = s }) (format_sort))) refl)) refl

pub format_next_binder : (class : Class) → Format (NextBinder class) (NextBinder class) (both no_more no_more) (sign 6) (next_binder class)
unfolding next_binder
format_next_binder class = format_then (format_sign 6 refl) (λ _. (format_binder class)) refl

pub format_more_binders : (class : Class) → Maybe (MoreBinders class) (MoreBinders class) (both (sign 6) (both no_more no_more)) (sign 6) (more_binders class)
format_more_binders class = many (format_next_binder class) refl

pub format_binders : (class : Class) → Format (Binders class) (Binders class) (both (sign 6) (both no_more no_more)) name (binders class)
unfolding binders
format_binders class = format_maybe (format_binder class) (λ first. (maybe_mapped (λ more. first ∷ more) (format_more_binders class))) refl refl

-- ---- permissions

cond_some : {A : Type 0} (b : Bool) (x y : A) → cond b (Some x) None ≡ Some y → b ≡ true
cond_some true x y e = refl
cond_some false x y e = absurd cc

numerator_first : (p : Pos) (kk : Kind) (a : Pos × ℕ) → numerator_kind p kk ≡ Some a → kind_in number kk ≡ true
numerator_first p (k.Word x) a e = absurd cc
numerator_first p (k.Number n) a e = refl
numerator_first p (k.Sign j) a e = absurd cc
numerator_first p k.End a e = absurd cc

denominator_first : (n : ℕ) (kk : Kind) (d : ℕ) → denominator_kind n kk ≡ Some d → kind_in number kk ≡ true
denominator_first n (k.Word x) a e = absurd cc
denominator_first n (k.Number d) a e = refl
denominator_first n (k.Sign j) a e = absurd cc
denominator_first n k.End a e = absurd cc

format_numerator : Format (One numerator_of) (One numerator_of) no_more number (one numerator_of)
format_numerator = format_one numerator_of number ((some_place, 1), tokens (k.Number (pos 1)), (token (k.Number (pos 1)), refl, refl)) (λ x a e. numerator_first x.pos x.kind a e)

both_true : (a b : Bool) → a ≡ true → b ≡ true → (a && b) ≡ true
both_true a b h i = rw (h, i) refl

fine_enough : (n : ℕ) → (nat_le (min n finest) finest && nat_le finest finest) ≡ true
fine_enough n = both_true (nat_le (min n finest) finest) (nat_le finest finest) (grind (arith, nat_tests)) (grind (arith, nat_tests))

format_denominator : (n : ℕ) → Format (One (denominator_of n)) (One (denominator_of n)) no_more number (one (denominator_of n))
format_denominator n = format_one (denominator_of n) number (finest, tokens (k.Number (pos finest)), (token (k.Number (pos finest)), refl, rw (fine_enough n) refl)) (λ x a e. denominator_first n x.kind a e)

format_factor : Maybe Factor Factor (both (sign 17) no_more) (sign 17) factor
unfolding factor
format_factor = optional None (format_then (format_sign 17 refl) (λ _. format_mapped (λ f. Some f.1) format_name) refl)

format_fraction : (n : Pos × ℕ) → Format (Fraction n) (Fraction n) (sign 17) (sign 18) (fraction_at n)
unfolding fraction_at
format_fraction n = format_then (format_sign 18 refl) (λ _. format_maybe (format_denominator n.1) (λ d. maybe_mapped (fraction n d) format_factor) refl refl) refl

format_behind_numerator : (b : Bool) (n : Pos × ℕ) → Maybe (BehindNumerator b n) (BehindNumerator b n) (signs (18 ∷ 17 ∷ [])) (signs (18 ∷ 17 ∷ [])) (behind_numerator b n)
unfolding behind_numerator
format_behind_numerator true n = maybe_widened refl refl (maybe_either (format_fraction n) (maybe_mapped (fraction n 1) format_factor) refl refl)
format_behind_numerator false n = maybe_from refl refl (format_fraction n)

pub format_permission : Format Permission Permission (signs (18 ∷ 17 ∷ [])) (both number name) permission
unfolding permission
format_permission = format_before (signs (18 ∷ 17 ∷ [])) refl (format_either (format_maybe format_numerator (λ n. format_behind_numerator (n.1 == 1) n) refl refl) (format_mapped all_of format_name) refl)

-- ---- a choice by the next two tokens

pub name_is : (x : Token) → token_in name x ≡ true → (a : Pos × List ℕ) × (name_of x ≡ Some a)
name_is x e = by x.pos x.kind e
  where
    by : (p : Pos) (kk : Kind) → kind_in name kk ≡ true → (a : Pos × List ℕ) × (name_kind p kk ≡ Some a)
    by p (k.Word y) h = ((p, y), refl)
    by p (k.Number n) h = absurd cc
    by p (k.Sign j) h = absurd cc
    by p k.End h = absurd cc

-- ---- a name alone is an expression

chained_one : (ops : List (ℕ × BinOp)) (depth used : ℕ) (T : ℕ → Language Token Part) (a : Part) (text : List Token) → T used a text → Chained ops depth T used a text
unfolding Chain
chained_one ops depth used T a text u = (a, text, [], u, no_operator depth, sym (append-nil text))
  where
    no_operator : (count : ℕ) → Chain ops T depth count a a []
    no_operator zero = (refl, refl)
    no_operator (suc count) = inr (refl, refl)

single_one : (ops : List (ℕ × BinOp)) (depth used : ℕ) (T : ℕ → Language Token Part) (a : Part) (text : List Token) → T used a text → Single ops depth T used a text
unfolding Optional
single_one ops depth used T a text u = (a, text, [], u, inr (refl, refl), sym (append-nil text))

name_other : (depth used : ℕ) (x : Token) (a : Part) → word_of used x ≡ Some a → Other depth used a (x ∷ [])
unfolding Other
name_other zero used x a e = inr (x, refl, e)
name_other (suc depth) used x a e = inr (inr (x, refl, e))

pub name_alone : (depth used : ℕ) (x : Token) → token_in name x ≡ true → (a : Part) × Expression depth used a (x ∷ [])
unfolding Expression
name_alone depth used x e =
    let U = Unary depth in
    let w = word_found used x.pos x.kind (set_inside name words refl x e) in (
      w.0,
      single_one implication depth used (OrOf depth U) w.0 (x ∷ [])
          (chained_one disjunction depth used (AndOf depth U) w.0 (x ∷ [])
          (chained_one conjunction depth used (CompareOf depth U) w.0 (x ∷ [])
          (single_one relation depth used (SumOf depth U) w.0 (x ∷ [])
          (chained_one plus depth used (TermOf depth U) w.0 (x ∷ [])
          (chained_one times depth used U w.0 (x ∷ []) (inr (name_other depth used x w.0 w.1))))))),
    )

-- an expression with its text
pub some_value : (depth used : ℕ) → HasText (Value depth used)
some_value depth used =
    let w = name_alone depth used (token (k.Word [])) refl in
    (w.0.tree, tokens (k.Word []), (w.0, w.1, refl))

-- ---- a label before an expression

abbrev pub goes_labelled : Set
goes_labelled = both (sign 8) (both goes_expr goes_expr)

label_two : (depth used : ℕ) (a : Option Name × t.Expr) (text : List Token) → WithLabel depth used a text → (x y : Token) × (xs : List Token) × (text ≡ x ∷ y ∷ xs) × (token_in name x ≡ true) × (token_in (sign 8) y ≡ true)
label_two depth used a text u =
    let h = u.3 in
    let behind = u.4 in
    let colon = behind.3 in
    (h.0, colon.0, behind.2, u.5 ∙ rw (h.1, behind.5, colon.1) refl, name_in h.0 u.0 h.2, place_in 8 colon.0 behind.0 colon.2)

label_goes : (depth used : ℕ) (x : Token) → token_in name x ≡ true → (a : Option Name × t.Expr) × (more : List Token) × WithLabel depth used a (x ∷ more)
label_goes depth used x e =
    let n = name_is x e in
    let w = some_value depth used in (
      (Some n.0.1, w.0),
      token (k.Sign 8) ∷ w.1,
      (n.0, x ∷ [], token (k.Sign 8) ∷ w.1, (x, refl, n.1), (some_place, tokens (k.Sign 8), w.1, (token (k.Sign 8), refl, refl), (w.0, w.2, refl), refl), refl),
    )

value_alone : (depth used : ℕ) (x : Token) → token_in name x ≡ true → (a : Option Name × t.Expr) × Mapped (λ e. (None, e)) (Value depth used) a (x ∷ [])
value_alone depth used x e =
    let w = name_alone depth used x e in
    ((None, w.0.tree), (w.0.tree, (w.0, w.1, refl), refl))

format_with_label : (depth used : ℕ) → used ≤ depth → Format (WithLabel depth used) (WithLabel (suc (suc depth)) used) goes_expr name (with_label depth used)
unfolding with_label
format_with_label depth used h = format_then format_name (λ x. format_then (format_sign 8 refl) (λ _. format_mapped (λ e. (Some x.1, e)) (format_value depth used h)) refl) refl

pub format_labelled : (depth used : ℕ) → used ≤ depth → Format (Labelled depth used) (Labelled (suc (suc depth)) used) goes_labelled operands (labelled depth used)
unfolding labelled
format_labelled depth used h =
    format_looked name (sign 8) (WithLabel depth used) (WithLabel (suc (suc depth)) used) (Mapped (λ e. (None, e)) (Value depth used)) (Mapped (λ e. (None, e)) (Value (suc (suc depth)) used)) goes_expr goes_expr operands
    (with_label depth used) (mapped (λ e. (None, e)) (value depth used)) (format_with_label depth used h) (format_mapped (λ e. (None, e)) (format_value depth used h))
    (label_two depth used) (label_goes depth used) (value_alone depth used) refl refl

pub format_permission_or_whole : (p : Pos) → Maybe (PermissionOrWhole p) (PermissionOrWhole p) (both (sign 2) no_more) (sign 2) (permission_or_whole p)
unfolding permission_or_whole
format_permission_or_whole p = optional (whole_at p) (format_then (format_sign 2 refl) (λ _. (format_then format_permission (λ q. (format_mapped (λ _. q) (format_sign 3 refl))) refl)) refl)

pub format_points_behind : (depth used : ℕ) → used ≤ depth → (x : Pos × List ℕ) → Format (PointsBehind depth used x) (PointsBehind (suc (suc depth)) used x) goes_sum (both (both (sign 4) (sign 9)) (sign 13)) (points_behind depth used x)
unfolding points_behind
format_points_behind depth used h x = maybe_then (format_cell_behind depth used h x) (λ c. (format_then (format_sign 13 refl) (λ _. (maybe_then (format_permission_or_whole x.0) (λ q. (format_mapped (λ e. record { tree = t.Points x.0 c q e.tree; used = e.used }) (format_sum depth used h))) refl)) refl)) refl

pub format_named_atom : (depth used : ℕ) → used ≤ depth → Format (NamedAtom depth used) (NamedAtom (suc (suc depth)) used) (both (both no_more no_more) goes_sum) name (named_atom depth used)
unfolding named_atom
format_named_atom depth used h = format_then format_name (λ x. (format_either (format_mapped (λ i. record { tree = t.App i; used = used }) (format_instance_behind depth used h x)) (format_points_behind depth used h x) refl)) refl

pub format_emp_atom : (depth used : ℕ) → used ≤ depth → Format (EmpAtom depth used) (EmpAtom (suc (suc depth)) used) no_more (sign 55) (emp_atom depth used)
unfolding emp_atom
format_emp_atom depth used h = format_mapped (λ p. record { tree = t.Emp p; used = used }) (format_sign 55 refl)

pub format_pure_atom : (depth used : ℕ) → used ≤ depth → Format (PureAtom depth used) (PureAtom (suc (suc depth)) used) no_more (sign 56) (pure_atom depth used)
unfolding pure_atom
format_pure_atom depth used h = format_then (format_sign 56 refl) (λ p. (format_then (format_sign 0 refl) (λ _. (format_then (format_labelled depth used h) (λ e. (format_mapped (λ _. record { tree = t.Pure p e.0 e.1; used = used }) (format_sign 1 refl))) refl)) refl)) refl

pub format_block_atom : (depth used : ℕ) → used ≤ depth → Format (BlockAtom depth used) (BlockAtom (suc (suc depth)) used) no_more (sign 59) (block_atom depth used)
unfolding block_atom
format_block_atom depth used h = format_then (format_sign 59 refl) (λ p. (format_then (format_sign 0 refl) (λ _. (format_then (format_value depth used h) (λ a. (format_then (format_sign 6 refl) (λ _. (format_then (format_value depth used h) (λ n. (format_mapped (λ _. record { tree = t.Block p a n; used = used }) (format_sign 1 refl))) refl)) refl)) refl)) refl)) refl

pub format_last_permission : (p : Pos) → Maybe (LastPermission p) (LastPermission p) (both (sign 6) (signs (18 ∷ 17 ∷ []))) (sign 6) (last_permission p)
unfolding last_permission
format_last_permission p = optional (whole_at p) (format_then (format_sign 6 refl) (λ _. format_permission) refl)

pub format_slice_atom : (depth used : ℕ) → used ≤ depth → Format (SliceAtom depth used) (SliceAtom (suc (suc depth)) used) no_more (sign 58) (slice_atom depth used)
unfolding slice_atom
format_slice_atom depth used h = format_then (format_sign 58 refl) (λ p. (format_then (format_sign 0 refl) (λ _. (format_then (format_value depth used h) (λ a. (format_then (format_sign 6 refl) (λ _. (format_then (format_value depth used h) (λ lo. (format_then (format_sign 6 refl) (λ _. (format_then (format_value depth used h) (λ hi. (maybe_then (format_last_permission p) (λ q. (format_mapped (λ _. record { tree = t.Slice p a lo hi q; used = used }) (format_sign 1 refl))) refl)) refl)) refl)) refl)) refl)) refl)) refl)) refl

pub format_alive_atom : (depth used : ℕ) → used ≤ depth → Format (AliveAtom depth used) (AliveAtom (suc (suc depth)) used) no_more (sign 60) (alive_atom depth used)
unfolding alive_atom
format_alive_atom depth used h = format_then (format_sign 60 refl) (λ p. (format_then (format_sign 0 refl) (λ _. (format_then (format_value depth used h) (λ l. (format_then (format_sign 6 refl) (λ _. (format_then format_permission (λ q. (format_then (format_sign 6 refl) (λ _. (format_then (format_instance depth used h) (λ i. (format_mapped (λ _. record { tree = t.Alive p l q i; used = used }) (format_sign 1 refl))) refl)) refl)) refl)) refl)) refl)) refl)) refl

pub format_held_atom : (depth used : ℕ) → used ≤ depth → Format (HeldAtom depth used) (HeldAtom (suc (suc depth)) used) no_more (sign 61) (held_atom depth used)
unfolding held_atom
format_held_atom depth used h = format_then (format_sign 61 refl) (λ p. (format_then (format_sign 0 refl) (λ _. (format_then (format_value depth used h) (λ l. (format_mapped (λ _. record { tree = t.Held p l; used = used }) (format_sign 1 refl))) refl)) refl)) refl

pub format_inv_atom : (depth used : ℕ) → used ≤ depth → Format (InvAtom depth used) (InvAtom (suc (suc depth)) used) no_more (sign 62) (inv_atom depth used)
unfolding inv_atom
format_inv_atom depth used h = format_then (format_sign 62 refl) (λ p. (format_then (format_sign 0 refl) (λ _. (format_then (format_value depth used h) (λ e. (format_then (format_sign 6 refl) (λ _. (format_then (format_instance depth used h) (λ i. (format_mapped (λ _. record { tree = t.Inv p e i; used = used }) (format_sign 1 refl))) refl)) refl)) refl)) refl)) refl

pub format_atom : (depth used : ℕ) → used ≤ depth → Format (Atom depth used) (Atom (suc (suc depth)) used) (both no_more (both no_more (both no_more (both no_more (both no_more (both no_more (both no_more (both (both no_more no_more) goes_sum)))))))) (both (sign 55) (both (sign 56) (both (sign 59) (both (sign 58) (both (sign 60) (both (sign 61) (both (sign 62) name))))))) (atom depth used)
unfolding atom
format_atom depth used h = format_either (format_emp_atom depth used h) (format_either (format_pure_atom depth used h) (format_either (format_block_atom depth used h) (format_either (format_slice_atom depth used h) (format_either (format_alive_atom depth used h) (format_either (format_held_atom depth used h) (format_either (format_inv_atom depth used h) (format_named_atom depth used h) refl) refl) refl) refl) refl) refl) refl

-- ---- propositions

-- with what a proposition may go on
abbrev pub goes_prop : Set
goes_prop = both (sign 14) goes_sum

abbrev pub atom_firsts : Set
atom_firsts = record { signs = 55 ∷ 56 ∷ 59 ∷ 58 ∷ 60 ∷ 61 ∷ 62 ∷ []; names = true; numbers = false }

-- with what a proposition begins that isn't an `exists`
abbrev pub inner_firsts : Set
inner_firsts = record { signs = 0 ∷ 55 ∷ 56 ∷ 59 ∷ 58 ∷ 60 ∷ 61 ∷ 62 ∷ []; names = true; numbers = false }

atom_format : (depth used : ℕ) → used ≤ depth → Format (Atom depth used) (Atom (suc (suc depth)) used) goes_sum atom_firsts (atom depth used)
atom_format depth used h = format_first atom_firsts refl (format_before goes_sum refl (format_atom depth used h))

same_used : (a b : PropPart) (used depth : ℕ) → a ≡ b → b.used ≡ used → used ≤ depth → a.used ≤ depth
same_used a b used depth e i h = rw (e, i) h

sum_keeps : (depth used : ℕ) → used ≤ depth → (a : Part) (text : List Token) → Sum depth used a text → a.used ≤ depth
sum_keeps depth used h a text u = (sum_is_read depth).keeps used h a text u

atom_keeps : (depth used : ℕ) → used ≤ depth → (a : PropPart) (text : List Token) → Atom depth used a text → a.used ≤ depth
atom_keeps depth used h a text (inl u) = rw u.2 h
atom_keeps depth used h a text (inr (inl u)) = rw u.4.4.4.2 h
atom_keeps depth used h a text (inr (inr (inl u))) = rw u.4.4.4.4.4.2 h
atom_keeps depth used h a text (inr (inr (inr (inl u)))) = rw u.4.4.4.4.4.4.4.4.2 h
atom_keeps depth used h a text (inr (inr (inr (inr (inl u))))) = rw u.4.4.4.4.4.4.4.2 h
atom_keeps depth used h a text (inr (inr (inr (inr (inr (inl u)))))) = rw u.4.4.4.2 h
atom_keeps depth used h a text (inr (inr (inr (inr (inr (inr (inl u))))))) = rw u.4.4.4.4.4.2 h
atom_keeps depth used h a text (inr (inr (inr (inr (inr (inr (inr u))))))) = named_keeps u.0 u.2 u.4
  where
    named_keeps : (x : Pos × List ℕ) (text : List Token) → Either (Mapped (λ i. record { tree = t.App i; used = used }) (InstanceBehind depth used x)) (PointsBehind depth used x) a text → a.used ≤ depth
    named_keeps x text (inl u) = rw u.2 h
    named_keeps x text (inr u) = let e = u.4.4.4 in rw e.2 (sum_keeps depth used h e.0 _ e.1)

-- propositions at one depth, over those of one level less; `room` tells whether a level is left
module _ (depth : ℕ) (room above : ℕ → Bool) (has : (u : ℕ) → u ≤ depth → above u ≡ true) (R R' : ℕ → Language Token PropPart) (r : ℕ → Reader Token PropPart)
    (below : (u : ℕ) → room u ≡ true → Reads (R u) (R' u) (token_in goes_prop) (r u)) (some : (u : ℕ) → HasText (R' u)) (starts : (u : ℕ) → room u ≡ true → Starts (token_in prop_firsts) (R u)) where
  abbrev Star : (ℕ → Language Token PropPart) → PropPart → Language Token PropPart
  Star Q a = Then (Sign 14) (λ _. Mapped (starred a) (Q a.used))

  star_some : (a : PropPart) → HasText (Mapped (starred a) (R' a.used))
  star_some a = some_mapped (starred a) (R' a.used) (some a.used)

  star_starts : (Q : ℕ → Language Token PropPart) (a : PropPart) → Starts (token_in (sign 14)) (Star Q a)
  star_starts Q a = Starts-then (token_in (sign 14)) (Sign 14) (λ _. Mapped (starred a) (Q a.used)) (sign_starts 14)

  star_opens : (a : PropPart) (y : Token) → token_in (sign 14) y ≡ true → IsViable (Star R' a) (y ∷ [])
  star_opens a y e = let w = star_some a in (w.1, w.0, (y.pos, y ∷ [], w.1, (y, refl, place_is 14 y e), w.2, refl))

  star_reads : (a : PropPart) → room a.used ≡ true → Reads (Star R a) (Star R' a) (token_in goes_prop) (next (sign_at 14) (λ _. mapped (starred a) (r a.used)))
  star_reads a e =
      Reads-then (Sign 14) (Sign 14) (λ _. Mapped (starred a) (R a.used)) (λ _. Mapped (starred a) (R' a.used)) never (token_in goes_prop) (sign_at 14) (λ _. mapped (starred a) (r a.used))
      (Reads-one (place_of 14) never (sign_some 14 refl)) (λ _. Reads-mapped (starred a) (R a.used) (R' a.used) (token_in goes_prop) (r a.used) (below a.used e)) (λ _. star_some a)
      (λ p b back rest u e1. ends_never (back ++ rest))

  nothing_fails : (a b : PropPart) (text rest : List Token) → Nothing a b text → Ends (token_in goes_prop) rest → begins (token_in (sign 14)) (text ++ rest) ≡ false
  nothing_fails a b text [] u e = rw u.0 refl
  nothing_fails a b text (x ∷ xs) u e = rw u.0 (set_outside (sign 14) goes_prop refl x e)

  behind_reads : (a : PropPart) → a.used ≤ depth
      → Reads (Either (Where (room a.used) (Star R a)) (Nothing a)) (Either (Where (above a.used) (Star R' a)) (Nothing a)) (token_in goes_prop)
      (either (token_in (sign 14)) (where_left (room a.used) (next (sign_at 14) (λ _. mapped (starred a) (r a.used)))) (nothing a))
  behind_reads a h =
      Reads-where (token_in (sign 14)) (Star R a) (Star R' a) (Nothing a) (Nothing a) (token_in goes_prop) (next (sign_at 14) (λ _. mapped (starred a) (r a.used))) (nothing a)
      (room a.used) (above a.used) (has a.used h) (star_reads a) (Reads-nothing a (token_in goes_prop)) (a, [], (refl, refl)) (star_starts R a) (star_opens a) (nothing_fails a)

  behind_some : (a : PropPart) → HasText (Either (Where (above a.used) (Star R' a)) (Nothing a))
  behind_some a = (a, [], inr (refl, refl))

  -- ---- brackets

  abbrev Close : ℕ → PropPart → Language Token PropPart
  Close used q = Mapped (λ _. enclosed used q) (Sign 1)

  close_some : (used : ℕ) (q : PropPart) → HasText (Close used q)
  close_some used q = some_mapped (λ _. enclosed used q) (Sign 1) (sign_some 1 refl)

  enclosed_some : (used : ℕ) → HasText (Then (R' used) (Close used))
  enclosed_some used = some_then (R' used) (Close used) (some used) (close_some used)

  enclosed_reads : (used : ℕ) → room used ≡ true → Reads (EnclosedOf R used) (EnclosedOf R' used) (token_in goes_sum) (enclosed_of r used)
  unfolding enclosed_of
  enclosed_reads used e =
      Reads-then (Sign 0) (Sign 0) (λ _. Then (R used) (Close used)) (λ _. Then (R' used) (Close used)) never (token_in goes_sum) (sign_at 0) (λ _. next (r used) (λ q. mapped (λ _. enclosed used q) (sign_at 1)))
      (Reads-one (place_of 0) never (sign_some 0 refl))
      (λ _. Reads-then (R used) (R' used) (Close used) (Close used) (token_in goes_prop) (token_in goes_sum) (r used) (λ q. mapped (λ _. enclosed used q) (sign_at 1)) (below used e)
      (λ q. Reads-mapped (λ _. enclosed used q) (Sign 1) (Sign 1) (token_in goes_sum) (sign_at 1) (Reads-one (place_of 1) (token_in goes_sum) (sign_some 1 refl))) (close_some used)
      (λ q b back rest u e1. others_fail (token_in (sign 1)) (token_in goes_prop) (Close used q) (Starts-mapped (token_in (sign 1)) (λ _. enclosed used q) (Sign 1) (sign_starts 1)) (set_apart (sign 1) goes_prop refl) b back rest u))
      (λ _. enclosed_some used) (λ p b back rest u e1. ends_never (back ++ rest))

  enclosed_starts : (Q : ℕ → Language Token PropPart) (used : ℕ) → Starts (token_in (sign 0)) (EnclosedOf Q used)
  enclosed_starts Q used = Starts-then (token_in (sign 0)) (Sign 0) (λ _. Then (Q used) (Close used)) (sign_starts 0)

  enclosed_opens : (used : ℕ) (y : Token) → token_in (sign 0) y ≡ true → IsViable (EnclosedOf R' used) (y ∷ [])
  enclosed_opens used y e = let w = enclosed_some used in (w.1, w.0, (y.pos, y ∷ [], w.1, (y, refl, place_is 0 y e), w.2, refl))

  -- an atom, or a proposition in brackets
  first_reads : (used : ℕ) → used ≤ depth
      → Reads (Either (Where (room used) (EnclosedOf R used)) (Atom depth used)) (Either (Where (above used) (EnclosedOf R' used)) (Atom (suc (suc depth)) used)) (token_in goes_sum)
      (either (token_in (sign 0)) (where_left (room used) (enclosed_of r used)) (atom depth used))
  first_reads used h =
      let a = atom_format depth used h in
      Reads-where (token_in (sign 0)) (EnclosedOf R used) (EnclosedOf R' used) (Atom depth used) (Atom (suc (suc depth)) used) (token_in goes_sum) (enclosed_of r used) (atom depth used)
      (room used) (above used) (has used h) (enclosed_reads used) a.reads a.some (enclosed_starts R used) (enclosed_opens used)
      (λ b text rest u e. others_fail (token_in atom_firsts) (token_in (sign 0)) (Atom depth used) a.starts (set_apart atom_firsts (sign 0) refl) b text rest u)

  first_keeps : (b : Bool) (used : ℕ) → used ≤ depth → (a : PropPart) (text : List Token) → Either (Where b (EnclosedOf R used)) (Atom depth used) a text → a.used ≤ depth
  first_keeps true used h a text (inl u) = rw u.4.4.2 h
  first_keeps false used h a text (inl u) = absurd u
  first_keeps b used h a text (inr u) = atom_keeps depth used h a text u

  first_starts : (b : Bool) (used : ℕ) → used ≤ depth → Starts (token_in inner_firsts) (Either (Where b (EnclosedOf R used)) (Atom depth used))
  first_starts b used h =
      Starts-either (token_in inner_firsts) (Where b (EnclosedOf R used)) (Atom depth used)
      (where_first b (token_in inner_firsts) (EnclosedOf R used) (Starts-more (token_in (sign 0)) (token_in inner_firsts) (EnclosedOf R used) (set_inside (sign 0) inner_firsts refl) (enclosed_starts R used)))
      (Starts-more (token_in atom_firsts) (token_in inner_firsts) (Atom depth used) (set_inside atom_firsts inner_firsts refl) (atom_format depth used h).starts)

  star_ends : (b : Bool) (a p : PropPart) (text rest : List Token) → Where b (Star R a) p text → Ends (token_in goes_sum) (text ++ rest)
  star_ends true a p text rest u = others_fail (token_in (sign 14)) (token_in goes_sum) (Star R a) (star_starts R a) (set_apart (sign 14) goes_sum refl) p text rest u
  star_ends false a p text rest u = absurd u

  behind_ends : (b : Bool) (a p : PropPart) (text rest : List Token) → Either (Where b (Star R a)) (Nothing a) p text → Ends (token_in goes_prop) rest → Ends (token_in goes_sum) (text ++ rest)
  behind_ends b a p text rest (inl u) e = star_ends b a p text rest u
  behind_ends b a p text rest (inr u) e = rw u.0 (ends_both goes_sum goes_prop rest refl e)

  abbrev Starred : (ℕ → Bool) → (ℕ → Language Token PropPart) → ℕ → ℕ → Language Token PropPart
  Starred left Q d used = Then (Either (Where (left used) (EnclosedOf Q used)) (Atom d used)) (λ a. Either (Where (left a.used) (Star Q a)) (Nothing a))

  starred_reads : (used : ℕ) → used ≤ depth → Reads (Starred room R depth used) (Starred above R' (suc (suc depth)) used) (token_in goes_prop)
      (next (either (token_in (sign 0)) (where_left (room used) (enclosed_of r used)) (atom depth used)) (λ a. either (token_in (sign 14)) (where_left (room a.used) (next (sign_at 14) (λ _. mapped (starred a) (r a.used)))) (nothing a)))
  starred_reads used h =
      Reads-behind (Either (Where (room used) (EnclosedOf R used)) (Atom depth used)) (Either (Where (above used) (EnclosedOf R' used)) (Atom (suc (suc depth)) used))
      (λ a. Either (Where (room a.used) (Star R a)) (Nothing a)) (λ a. Either (Where (above a.used) (Star R' a)) (Nothing a)) (token_in goes_sum) (token_in goes_prop)
      (either (token_in (sign 0)) (where_left (room used) (enclosed_of r used)) (atom depth used)) (λ a. either (token_in (sign 14)) (where_left (room a.used) (next (sign_at 14) (λ _. mapped (starred a) (r a.used)))) (nothing a))
      (first_reads used h) (λ a text u. behind_reads a (first_keeps (room used) used h a text u)) behind_some
      (λ a p back rest u e. behind_ends (room a.used) a p back rest u e)

  starred_some : (used : ℕ) → used ≤ depth → HasText (Starred above R' (suc (suc depth)) used)
  starred_some used h =
      some_then (Either (Where (above used) (EnclosedOf R' used)) (Atom (suc (suc depth)) used)) (λ a. Either (Where (above a.used) (Star R' a)) (Nothing a))
      (let w = (atom_format depth used h).some in (w.0, w.1, inr w.2)) behind_some

  -- ---- exists

  exists_some : (used : ℕ) (p : Pos) → HasText (Then (Binders c.Logical) (λ bs. Then (Sign 9) (λ _. Mapped (bound p bs) (R' used))))
  exists_some used p =
      some_then (Binders c.Logical) (λ bs. Then (Sign 9) (λ _. Mapped (bound p bs) (R' used))) (format_binders c.Logical).some
      (λ bs. some_then (Sign 9) (λ _. Mapped (bound p bs) (R' used)) (sign_some 9 refl) (λ _. some_mapped (bound p bs) (R' used) (some used)))

  below_format : (used : ℕ) → room used ≡ true → Format (R used) (R' used) goes_prop prop_firsts (r used)
  below_format used e = record { reads = below used e; some = some used; starts = starts used e }

  exists_format : (used : ℕ) → room used ≡ true → Format (ExistsOf R used) (ExistsOf R' used) goes_prop (sign 57) (exists_of r used)
  unfolding exists_of
  exists_format used e =
      format_then (format_sign 57 refl)
      (λ p. format_then (format_binders c.Logical) (λ bs. format_then (format_sign 9 refl)
      (λ _. format_mapped (bound p bs) (below_format used e)) refl) refl) refl

  starred_starts : (used : ℕ) → used ≤ depth → Starts (token_in inner_firsts) (Starred room R depth used)
  starred_starts used h = Starts-then (token_in inner_firsts) (Either (Where (room used) (EnclosedOf R used)) (Atom depth used)) (λ a. Either (Where (room a.used) (Star R a)) (Nothing a)) (first_starts (room used) used h)

  exists_opens : (used : ℕ) (y : Token) → token_in (sign 57) y ≡ true → IsViable (ExistsOf R' used) (y ∷ [])
  exists_opens used y e = let w = exists_some used y.pos in (w.1, w.0, (y.pos, y ∷ [], w.1, (y, refl, place_is 57 y e), w.2, refl))

  exists_starts : (Q : ℕ → Language Token PropPart) (used : ℕ) → Starts (token_in (sign 57)) (ExistsOf Q used)
  exists_starts Q used = Starts-then (token_in (sign 57)) (Sign 57) (λ p. Then (Binders c.Logical) (λ bs. Then (Sign 9) (λ _. Mapped (bound p bs) (Q used)))) (sign_starts 57)

  pub all_reads : (used : ℕ) → used ≤ depth → Reads (Either (Where (room used) (ExistsOf R used)) (Starred room R depth used)) (Either (Where (above used) (ExistsOf R' used)) (Starred above R' (suc (suc depth)) used)) (token_in goes_prop)
      (either (token_in (sign 57)) (where_left (room used) (exists_of r used))
      (next (either (token_in (sign 0)) (where_left (room used) (enclosed_of r used)) (atom depth used)) (λ a. either (token_in (sign 14)) (where_left (room a.used) (next (sign_at 14) (λ _. mapped (starred a) (r a.used)))) (nothing a))))
  all_reads used h =
      Reads-where (token_in (sign 57)) (ExistsOf R used) (ExistsOf R' used) (Starred room R depth used) (Starred above R' (suc (suc depth)) used) (token_in goes_prop) (exists_of r used)
      (next (either (token_in (sign 0)) (where_left (room used) (enclosed_of r used)) (atom depth used)) (λ a. either (token_in (sign 14)) (where_left (room a.used) (next (sign_at 14) (λ _. mapped (starred a) (r a.used)))) (nothing a)))
      (room used) (above used) (has used h) (λ e. (exists_format used e).reads) (starred_reads used h) (starred_some used h) (exists_starts R used) (exists_opens used)
      (λ a text rest u e. others_fail (token_in inner_firsts) (token_in (sign 57)) (Starred room R depth used) (starred_starts used h) (set_apart inner_firsts (sign 57) refl) a text rest u)

  pub all_starts : (used : ℕ) → used ≤ depth → Starts (token_in prop_firsts) (Either (Where (room used) (ExistsOf R used)) (Starred room R depth used))
  all_starts used h =
      Starts-either (token_in prop_firsts) (Where (room used) (ExistsOf R used)) (Starred room R depth used)
      (where_first (room used) (token_in prop_firsts) (ExistsOf R used) (Starts-more (token_in (sign 57)) (token_in prop_firsts) (ExistsOf R used) (set_inside (sign 57) prop_firsts refl) (exists_starts R used)))
      (Starts-more (token_in inner_firsts) (token_in prop_firsts) (Starred room R depth used) (set_inside inner_firsts prop_firsts refl) (starred_starts used h))

-- propositions at one depth are read
pub record PropRead (depth : ℕ) : Type 0 where
  pub reads : (used : ℕ) → used ≤ depth → Reads (Prop depth used) (Prop (suc (suc depth)) used) (token_in goes_prop) (prop depth used)
  pub keeps : (used : ℕ) → used ≤ depth → (a : PropPart) (text : List Token) → Prop depth used a text → a.used ≤ depth
  pub starts : (used : ℕ) → used ≤ depth → Starts (token_in prop_firsts) (Prop depth used)

emp_text : (depth used : ℕ) → (a : PropPart) × (text : List Token) × Atom depth used a text
emp_text depth used = (record { tree = t.Emp some_place; used = used }, tokens (k.Sign 55), inl (some_place, (token (k.Sign 55), refl, refl), refl))

pub prop_some : (depth used : ℕ) → HasText (Prop depth used)
unfolding Prop
prop_some zero used = let w = emp_text zero used in (w.0, w.1, w.2)
prop_some (suc depth) used =
    let w = emp_text (suc depth) used in
    (w.0, w.1, inr (w.0, w.1, [], inr w.2, inr (refl, refl), sym (append-nil w.1)))

no_left : ℕ → Bool
no_left u = false

abbrev NoProp : ℕ → Language Token PropPart
NoProp u = Void

only_atom : (used : ℕ) (a : PropPart) (text : List Token) → Either (Where false (ExistsOf NoProp used)) (Then (Either (Where false (EnclosedOf NoProp used)) (Atom 0 used)) (λ b. Either (Where false (Then (Sign 14) (λ _. Mapped (starred b) (NoProp b.used)))) (Nothing b))) a text → Atom 0 used a text
only_atom used a text (inl u) = absurd u
only_atom used a text (inr u) = by u.0 u.1 u.2 u.3 u.4 u.5
  where
    by : (b : PropPart) (front back : List Token) → Either (Where false (EnclosedOf NoProp used)) (Atom 0 used) b front → Either (Where false (Then (Sign 14) (λ _. Mapped (starred b) (NoProp b.used)))) (Nothing b) a back → text ≡ front ++ back → Atom 0 used a text
    by b front back (inl v) w e = absurd v
    by b front back (inr v) (inl w) e = absurd w
    by b front back (inr v) (inr w) e = rw (e, w.0, w.1, append-nil front) v

an_atom : (used : ℕ) (a : PropPart) (text : List Token) → Atom 0 used a text → Either (Where false (ExistsOf NoProp used)) (Then (Either (Where false (EnclosedOf NoProp used)) (Atom 0 used)) (λ b. Either (Where false (Then (Sign 14) (λ _. Mapped (starred b) (NoProp b.used)))) (Nothing b))) a text
an_atom used a text u = inr (a, text, [], inr u, inr (refl, refl), sym (append-nil text))

room_over : (used depth : ℕ) → used ≤ depth → nat_lt used (suc (suc depth)) ≡ true
room_over used depth h = grind (arith, nat_tests)

room_in : (used depth : ℕ) → nat_lt used (suc depth) ≡ true → used ≤ depth
room_in used depth h = grind (arith, nat_tests)

zero_reads : (used : ℕ) → used ≤ 0 → Reads (Prop 0 used) (Prop 2 used) (token_in goes_prop) (prop 0 used)
unfolding Prop prop no_star
zero_reads used h =
    Reads-alike (Either (Where false (ExistsOf NoProp used)) (Then (Either (Where false (EnclosedOf NoProp used)) (Atom 0 used)) (λ b. Either (Where false (Then (Sign 14) (λ _. Mapped (starred b) (NoProp b.used)))) (Nothing b)))) (Atom 0 used) (Prop 2 used) (token_in goes_prop) (prop 0 used)
    (only_atom used) (an_atom used)
    (all_reads 0 (λ u. false) (λ u. nat_lt u 2) (λ u i. room_over u 0 i) NoProp (Prop 1) (λ u. refuse) (λ u e. absurd cc) (prop_some 1) (λ u e. absurd cc) used h)

zero_keeps : (used : ℕ) → used ≤ 0 → (a : PropPart) (text : List Token) → Prop 0 used a text → a.used ≤ 0
unfolding Prop
zero_keeps used h a text u = atom_keeps 0 used h a text u

zero_starts : (used : ℕ) → used ≤ 0 → Starts (token_in prop_firsts) (Prop 0 used)
unfolding Prop
zero_starts used h = Starts-more (token_in atom_firsts) (token_in prop_firsts) (Atom 0 used) (set_inside atom_firsts prop_firsts refl) (atom_format 0 used h).starts

raised_used : (a b n : ℕ) → a ≡ b + 1 → b ≤ n → a ≤ suc n
raised_used a b n e h = omega arith

module _ (depth : ℕ) (p : PropRead depth) where
  suc_reads : (used : ℕ) → used ≤ suc depth → Reads (Prop (suc depth) used) (Prop (suc (suc (suc depth))) used) (token_in goes_prop) (prop (suc depth) used)
  unfolding Prop prop star_behind
  suc_reads used h =
      all_reads (suc depth) (λ u. nat_lt u (suc depth)) (λ u. nat_lt u (suc (suc (suc depth)))) (λ u i. room_over u (suc depth) i) (Prop depth) (Prop (suc (suc depth))) (prop depth)
      (λ u e. p.reads u (room_in u depth e)) (prop_some (suc (suc depth))) (λ u e. p.starts u (room_in u depth e)) used h

  exists_keeps : (b : Bool) (used : ℕ) → nat_lt used (suc depth) ≡ b → (a : PropPart) (text : List Token) → Where b (ExistsOf (Prop depth) used) a text → a.used ≤ suc depth
  exists_keeps true used e a text u = let q = u.4.4.4 in raised_used a.used q.0.used depth (ap (λ (z : PropPart). z.used) q.2) (p.keeps used (room_in used depth e) q.0 _ q.1)
  exists_keeps false used e a text u = absurd u

  star_keeps : (b : Bool) (c : PropPart) → nat_lt c.used (suc depth) ≡ b → (a : PropPart) (text : List Token) → Where b (Then (Sign 14) (λ _. Mapped (starred c) (Prop depth c.used))) a text → a.used ≤ suc depth
  star_keeps true c e a text u = let q = u.4 in raised_used a.used q.0.used depth (ap (λ (z : PropPart). z.used) q.2) (p.keeps c.used (room_in c.used depth e) q.0 _ q.1)
  star_keeps false c e a text u = absurd u

  enclosed_keeps : (b : Bool) (used : ℕ) → used ≤ suc depth → (a : PropPart) (text : List Token) → Either (Where b (EnclosedOf (Prop depth) used)) (Atom (suc depth) used) a text → a.used ≤ suc depth
  enclosed_keeps true used h a text (inl u) = rw u.4.4.2 h
  enclosed_keeps false used h a text (inl u) = absurd u
  enclosed_keeps b used h a text (inr u) = atom_keeps (suc depth) used h a text u

  rest_keeps : (c a : PropPart) (text : List Token) → c.used ≤ suc depth → StarBehind depth (Prop depth) c a text → a.used ≤ suc depth
  rest_keeps c a text h (inl u) = star_keeps (nat_lt c.used (suc depth)) c refl a text u
  rest_keeps c a text h (inr u) = rw u.1 h

  suc_keeps : (used : ℕ) → used ≤ suc depth → (a : PropPart) (text : List Token) → Prop (suc depth) used a text → a.used ≤ suc depth
  unfolding Prop
  suc_keeps used h a text (inl u) = exists_keeps (nat_lt used (suc depth)) used refl a text u
  suc_keeps used h a text (inr u) = rest_keeps u.0 a u.2 (enclosed_keeps (nat_lt used (suc depth)) used h u.0 u.1 u.3) u.4

  suc_starts : (used : ℕ) → used ≤ suc depth → Starts (token_in prop_firsts) (Prop (suc depth) used)
  unfolding Prop
  suc_starts used h =
      all_starts (suc depth) (λ u. nat_lt u (suc depth)) (λ u. nat_lt u (suc (suc (suc depth)))) (λ u i. room_over u (suc depth) i) (Prop depth) (Prop (suc (suc depth))) (prop depth)
      (λ u e. p.reads u (room_in u depth e)) (prop_some (suc (suc depth))) (λ u e. p.starts u (room_in u depth e)) used h

pub prop_read : (depth : ℕ) → PropRead depth
prop_read zero = record { reads = zero_reads; keeps = zero_keeps; starts = zero_starts }
prop_read (suc depth) = record { reads = suc_reads depth (prop_read depth); keeps = suc_keeps depth (prop_read depth); starts = suc_starts depth (prop_read depth) }

pub format_prop : (depth used : ℕ) → used ≤ depth → Format (Prop depth used) (Prop (suc (suc depth)) used) goes_prop prop_firsts (prop depth used)
format_prop depth used h = let p = prop_read depth in record { reads = p.reads used h; some = prop_some (suc (suc depth)) used; starts = p.starts used h }

pub format_whole_prop : (depth used : ℕ) → used ≤ depth → Format (WholeProp depth used) (WholeProp (suc (suc depth)) used) goes_prop prop_firsts (whole_prop depth used)
unfolding whole_prop
format_whole_prop depth used h = format_mapped (λ p. p.tree) (format_prop depth used h)
