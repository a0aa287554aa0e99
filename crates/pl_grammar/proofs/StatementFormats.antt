-- The formats of statements and blocks.
use Rattle.std.proofs.Common.{◌≡◌, ℕ, zero, suc, ◌≤◌, inl, ℤ, pos, Bool, true, false, List, [], ◌∷◌, Option, Some, None, refl, ◌∙◌}
use Rattle.pl_base.specs.declared.pos.Pos.{Pos}
use Rattle.pl_syntax.specs.declared.expr.Class.TheVariants as c
use Rattle.pl_lexer.specs.declared.tokens.Kind.{Kind}
use Rattle.pl_lexer.specs.declared.tokens.Kind.TheVariants as k
use Rattle.pl_lexer.specs.declared.tokens.Token.{Token}
use Rattle.pl_syntax.specs.Plain.{chain}
use Rattle.pl_syntax.specs.Tree as t
use Rattle.pl_syntax.specs.Tree.{Name}
use Rattle.pl_readers.specs.Language.{Language, One, Then, Mapped, Many, IsViable, HasText, Starts}
use Rattle.pl_readers.specs.Reader.{Reader, one, next, mapped}
use Rattle.pl_readers.proofs.Firsts.{Starts-then, others_fail, some_then, some_mapped}
use Rattle.pl_grammar.specs.Signs.{Set, kind_in, token_in, signs, sign, name, number, both, number_kind, number_of}
use Rattle.pl_grammar.specs.Grammar.{Sign}
use Rattle.pl_grammar.specs.Readers.{sign_at, operands}
use Rattle.pl_grammar.proofs.More.{Reads-behind, Reads-none}
use Rattle.pl_grammar.proofs.Sets.{set_apart, token, tokens, some_place, place_is, place_in}
use Rattle.pl_grammar.proofs.Tiers.{goes_expr}
use Rattle.pl_grammar.proofs.Operands.{sign_some, sign_starts}
use Rattle.pl_grammar.proofs.Formats.{Format, Maybe, no_more, format_sign, format_name, format_one, format_then, format_maybe, maybe_then, maybe_maybe, format_mapped, maybe_mapped, many, optional, format_before, format_first, format_either, name_in}
use Rattle.pl_grammar.proofs.Looked.{format_looked}
use Rattle.pl_grammar.specs.PropGrammar.{Value, Arguments, PropPart, Prop}
use Rattle.pl_grammar.specs.PropReaders.{prop_firsts, value, prop}
use Rattle.pl_grammar.specs.StatementGrammar.{LetMut, LoadBehind, GallocBehind, NewInvariantBehind, GhostLetBehind, GhostMade, LetGhost, AllocBehind, AllocArrayBehind, AllocAtomicBehind, InitOf, NextInit, MoreInits, NewBehind, AtomicReadBehind, CasBehind, NewLockBehind, ReadBehind, CallBehind, Called, CallOrLet, Made, LetName, LetRule, StoreBehind, NamedStatement, FreeRule, FreeArrayRule, AcquireRule, ReleaseRule, FreeLockRule, AtomicWriteRule, PrintRule, ParRule, ReturnRule, FoldRule, UnfoldRule, KeyOf, ShareRule, GatherRule, SplitRule, JoinRule, FocusRule, UnfocusRule, HintTermOf, NextHintTerm, MoreHintTerms, HintOf, AssertRule, WithAssertRule, DropRule, StatementEnsures, ElseOf, IfRule, LoadRule, Loads, WhileRule, WithRule, RewriteRule, SimpleStatement, StatementOf, Block}
use Rattle.pl_grammar.specs.StatementReaders.{let_mut, load_behind, galloc_behind, new_invariant_behind, ghost_let_behind, ghost_made, let_ghost, alloc_behind, alloc_array_behind, alloc_atomic_behind, init, next_init, more_inits, new_behind, atomic_read_behind, cas_behind, new_lock_behind, read_behind, call_behind, called, call_or_let, made, let_name, let_rule, store_behind, named_statement, free_rule, free_array_rule, acquire_rule, release_rule, free_lock_rule, atomic_write_rule, print_rule, par_rule, return_rule, fold_rule, unfold_rule, key, share_rule, gather_rule, split_rule, join_rule, focus_rule, unfocus_rule, hint_term, next_hint_term, more_hint_terms, hint, assert_rule, with_assert_rule, drop_rule, statement_ensures, else_of, if_rule, load_rule, loads, while_rule, with_rule, rewrite_rule, simple_statement, statement, statement_firsts, block_of, block}
use Rattle.pl_grammar.proofs.PropFormats.{none_used, format_value, format_summed, format_arguments, format_cell_behind, format_cell, format_instance, format_binders, name_is, name_alone, format_labelled, goes_prop, prop_some, prop_read, format_prop, format_whole_prop}

pub format_let_mut : (depth : ℕ) → (w : Pos) → Format (LetMut depth w) (LetMut (suc (suc depth)) w) no_more (sign 40) (let_mut depth w)
unfolding let_mut
format_let_mut depth w = format_then (format_sign 40 refl) (λ _. (format_then format_name (λ x. (format_then (format_sign 11 refl) (λ _. (format_then (format_value depth 0 (none_used depth)) (λ e. (format_mapped (λ _. t.LetMut w x.1 e) (format_sign 7 refl))) refl)) refl)) refl)) refl

pub format_load_behind : (depth : ℕ) → (w : Pos) → (x : Pos × List ℕ) → (is_ghost : Bool) → Format (LoadBehind depth w x is_ghost) (LoadBehind (suc (suc depth)) w x is_ghost) no_more (sign 29) (load_behind depth w x is_ghost)
unfolding load_behind
format_load_behind depth w x is_ghost = format_then (format_sign 29 refl) (λ _. (format_then (format_cell depth 0 (none_used depth)) (λ c. (format_mapped (λ _. t.Load w x.1 c is_ghost) (format_sign 7 refl))) refl)) refl

pub format_galloc_behind : (depth : ℕ) → (w : Pos) → (x : Pos × List ℕ) → Format (GallocBehind depth w x) (GallocBehind (suc (suc depth)) w x) no_more (sign 90) (galloc_behind depth w x)
unfolding galloc_behind
format_galloc_behind depth w x = format_then (format_sign 90 refl) (λ _. (format_then (format_sign 0 refl) (λ _. (format_then (format_value depth 0 (none_used depth)) (λ e. (format_then (format_sign 1 refl) (λ _. (format_mapped (λ _. t.GAlloc w x.1 e) (format_sign 7 refl))) refl)) refl)) refl)) refl

pub format_new_invariant_behind : (depth : ℕ) → (w : Pos) → (x : Pos × List ℕ) → Format (NewInvariantBehind depth w x) (NewInvariantBehind (suc (suc depth)) w x) no_more (sign 91) (new_invariant_behind depth w x)
unfolding new_invariant_behind
format_new_invariant_behind depth w x = format_then (format_sign 91 refl) (λ _. (format_then (format_sign 0 refl) (λ _. (format_then (format_instance depth 0 (none_used depth)) (λ i. (format_then (format_sign 1 refl) (λ _. (format_mapped (λ _. t.NewInv w x.1 i) (format_sign 7 refl))) refl)) refl)) refl)) refl

pub format_ghost_let_behind : (depth : ℕ) → (w : Pos) → (x : Pos × List ℕ) → Format (GhostLetBehind depth w x) (GhostLetBehind (suc (suc depth)) w x) no_more operands (ghost_let_behind depth w x)
unfolding ghost_let_behind
format_ghost_let_behind depth w x = format_then (format_value depth 0 (none_used depth)) (λ e. (format_mapped (λ _. t.GLet w x.1 e) (format_sign 7 refl))) refl

pub format_ghost_made : (depth : ℕ) → (w : Pos) → (x : Pos × List ℕ) → Format (GhostMade depth w x) (GhostMade (suc (suc depth)) w x) (both no_more (both no_more (both no_more no_more))) (both (sign 29) (both (sign 90) (both (sign 91) operands))) (ghost_made depth w x)
unfolding ghost_made
format_ghost_made depth w x = format_either (format_load_behind depth w x true) (format_either (format_galloc_behind depth w x) (format_either (format_new_invariant_behind depth w x) (format_ghost_let_behind depth w x) refl) refl) refl

pub format_let_ghost : (depth : ℕ) → (w : Pos) → Format (LetGhost depth w) (LetGhost (suc (suc depth)) w) (both no_more (both no_more (both no_more no_more))) (sign 32) (let_ghost depth w)
unfolding let_ghost
format_let_ghost depth w = format_then (format_sign 32 refl) (λ _. (format_then format_name (λ x. (format_then (format_sign 11 refl) (λ _. (format_ghost_made depth w x)) refl)) refl)) refl

pub format_alloc_behind : (depth : ℕ) → (w : Pos) → (x : Pos × List ℕ) → Format (AllocBehind depth w x) (AllocBehind (suc (suc depth)) w x) no_more (sign 75) (alloc_behind depth w x)
unfolding alloc_behind
format_alloc_behind depth w x = format_then (format_sign 75 refl) (λ _. (format_then (format_sign 0 refl) (λ _. (format_then (format_value depth 0 (none_used depth)) (λ e. (format_then (format_sign 1 refl) (λ _. (format_mapped (λ _. t.Alloc w x.1 e) (format_sign 7 refl))) refl)) refl)) refl)) refl

pub format_alloc_array_behind : (depth : ℕ) → (w : Pos) → (x : Pos × List ℕ) → Format (AllocArrayBehind depth w x) (AllocArrayBehind (suc (suc depth)) w x) no_more (sign 76) (alloc_array_behind depth w x)
unfolding alloc_array_behind
format_alloc_array_behind depth w x = format_then (format_sign 76 refl) (λ _. (format_then (format_sign 0 refl) (λ _. (format_then (format_value depth 0 (none_used depth)) (λ e. (format_then (format_sign 6 refl) (λ _. (format_then (format_value depth 0 (none_used depth)) (λ n. (format_then (format_sign 1 refl) (λ _. (format_mapped (λ _. t.AllocArray w x.1 e n) (format_sign 7 refl))) refl)) refl)) refl)) refl)) refl)) refl

pub format_alloc_atomic_behind : (depth : ℕ) → (w : Pos) → (x : Pos × List ℕ) → Format (AllocAtomicBehind depth w x) (AllocAtomicBehind (suc (suc depth)) w x) no_more (sign 77) (alloc_atomic_behind depth w x)
unfolding alloc_atomic_behind
format_alloc_atomic_behind depth w x = format_then (format_sign 77 refl) (λ _. (format_then (format_sign 0 refl) (λ _. (format_then (format_value depth 0 (none_used depth)) (λ e. (format_then (format_sign 1 refl) (λ _. (format_mapped (λ _. t.AllocAtomic w x.1 e) (format_sign 7 refl))) refl)) refl)) refl)) refl

pub format_init : (depth : ℕ) → Format (InitOf depth) (InitOf (suc (suc depth))) goes_expr name (init depth)
unfolding init
format_init depth = format_then format_name (λ f. (format_then (format_sign 8 refl) (λ _. (format_mapped (λ e. record { name = f.1; value = e }) (format_value depth 0 (none_used depth)))) refl)) refl

pub format_next_init : (depth : ℕ) → Format (NextInit depth) (NextInit (suc (suc depth))) goes_expr (sign 6) (next_init depth)
unfolding next_init
format_next_init depth = format_then (format_sign 6 refl) (λ _. (format_init depth)) refl

pub format_more_inits : (depth : ℕ) → Maybe (MoreInits depth) (MoreInits (suc (suc depth))) (both (sign 6) goes_expr) (sign 6) (more_inits depth)
format_more_inits depth = many (format_next_init depth) refl

pub format_new_behind : (depth : ℕ) → (w : Pos) → (x : Pos × List ℕ) → Format (NewBehind depth w x) (NewBehind (suc (suc depth)) w x) no_more (sign 78) (new_behind depth w x)
unfolding new_behind
format_new_behind depth w x = format_then (format_sign 78 refl) (λ _. (format_then format_name (λ s. (format_then (format_sign 2 refl) (λ _. (format_then (format_init depth) (λ first. (maybe_then (format_more_inits depth) (λ more. (format_then (format_sign 3 refl) (λ _. (format_mapped (λ _. t.New w x.1 s.1 (first ∷ more)) (format_sign 7 refl))) refl)) refl)) refl)) refl)) refl)) refl

pub format_atomic_read_behind : (w : Pos) → (x : Pos × List ℕ) → Format (AtomicReadBehind w x) (AtomicReadBehind w x) no_more (sign 87) (atomic_read_behind w x)
unfolding atomic_read_behind
format_atomic_read_behind w x = format_then (format_sign 87 refl) (λ _. (format_then (format_sign 0 refl) (λ _. (format_then format_name (λ c. (format_then (format_sign 1 refl) (λ _. (format_mapped (λ _. t.AtomicRead w x.1 c.1) (format_sign 7 refl))) refl)) refl)) refl)) refl

pub format_cas_behind : (depth : ℕ) → (w : Pos) → (x : Pos × List ℕ) → Format (CasBehind depth w x) (CasBehind (suc (suc depth)) w x) no_more (sign 89) (cas_behind depth w x)
unfolding cas_behind
format_cas_behind depth w x = format_then (format_sign 89 refl) (λ _. (format_then (format_sign 0 refl) (λ _. (format_then format_name (λ c. (format_then (format_sign 6 refl) (λ _. (format_then (format_value depth 0 (none_used depth)) (λ old. (format_then (format_sign 6 refl) (λ _. (format_then (format_value depth 0 (none_used depth)) (λ new. (format_then (format_sign 1 refl) (λ _. (format_mapped (λ _. t.Cas w x.1 c.1 old new) (format_sign 7 refl))) refl)) refl)) refl)) refl)) refl)) refl)) refl)) refl

pub format_new_lock_behind : (depth : ℕ) → (w : Pos) → (x : Pos × List ℕ) → Format (NewLockBehind depth w x) (NewLockBehind (suc (suc depth)) w x) no_more (sign 81) (new_lock_behind depth w x)
unfolding new_lock_behind
format_new_lock_behind depth w x = format_then (format_sign 81 refl) (λ _. (format_then (format_sign 0 refl) (λ _. (format_then (format_instance depth 0 (none_used depth)) (λ i. (format_then (format_sign 1 refl) (λ _. (format_mapped (λ _. t.NewLock w x.1 i) (format_sign 7 refl))) refl)) refl)) refl)) refl

pub format_read_behind : (w : Pos) → (x : Pos × List ℕ) → Format (ReadBehind w x) (ReadBehind w x) no_more (sign 85) (read_behind w x)
unfolding read_behind
format_read_behind w x = format_then (format_sign 85 refl) (λ _. (format_then (format_sign 0 refl) (λ _. (format_then (format_sign 1 refl) (λ _. (format_mapped (λ _. t.Read w x.1) (format_sign 7 refl))) refl)) refl)) refl

pub format_call_behind : (depth : ℕ) → (w : Pos) → (x : Option Name) → (f : Name) → Format (CallBehind depth w x f) (CallBehind (suc (suc depth)) w x f) no_more (sign 0) (call_behind depth w x f)
unfolding call_behind
format_call_behind depth w x f = format_then (format_sign 0 refl) (λ _. (format_then (format_arguments depth 0 (none_used depth)) (λ args. (format_mapped (λ _. t.Call w x f args) (format_sign 7 refl))) refl)) refl

-- ---- a number

number_first : (p : Pos) (kk : Kind) (a : Pos × ℤ) → number_kind p kk ≡ Some a → kind_in number kk ≡ true
number_first p (k.Word x) a e = absurd cc
number_first p (k.Number n) a e = refl
number_first p (k.Sign j) a e = absurd cc
number_first p k.End a e = absurd cc

format_number : Format (One number_of) (One number_of) no_more number (one number_of)
format_number = format_one number_of number ((some_place, pos 1), tokens (k.Number (pos 1)), (token (k.Number (pos 1)), refl, refl)) (λ x a e. number_first x.pos x.kind a e)

-- ---- a call or an expression

arguments_text : (depth used : ℕ) → HasText (Arguments depth used)
arguments_text depth used = ([], tokens (k.Sign 1), inl (some_place, (token (k.Sign 1), refl, refl), refl))

called_two : (depth : ℕ) (w : Pos) (x : Pos × List ℕ) (a : t.Stmt) (text : List Token) → Called depth w x a text → (y z : Token) × (ys : List Token) × (text ≡ y ∷ z ∷ ys) × (token_in name y ≡ true) × (token_in (sign 0) z ≡ true)
called_two depth w x a text u =
    let h = u.3 in
    let behind = u.4 in
    let bracket = behind.3 in
    (h.0, bracket.0, behind.2, u.5 ∙ rw (h.1, behind.5, bracket.1) refl, name_in h.0 u.0 h.2, place_in 0 bracket.0 behind.0 bracket.2)

called_goes : (depth : ℕ) (w : Pos) (x : Pos × List ℕ) (y : Token) → token_in name y ≡ true → (a : t.Stmt) × (more : List Token) × Called depth w x a (y ∷ more)
called_goes depth w x y e =
    let n = name_is y e in
    let args = arguments_text depth 0 in (
      t.Call w (Some x.1) n.0.1 args.0,
      token (k.Sign 0) ∷ args.1,
      (n.0, y ∷ [], token (k.Sign 0) ∷ args.1, (y, refl, n.1), (some_place, tokens (k.Sign 0), args.1, (token (k.Sign 0), refl, refl), (args.0, args.2, refl), refl), refl),
    )

let_alone : (depth : ℕ) (w : Pos) (x : Pos × List ℕ) (y : Token) → token_in name y ≡ true → (a : t.Stmt) × Mapped (λ e. t.Let w x.1 e) (Value depth 0) a (y ∷ [])
let_alone depth w x y e =
    let n = name_alone depth 0 y e in
    (t.Let w x.1 n.0.tree, (n.0.tree, (n.0, n.1, refl), refl))

format_called : (depth : ℕ) (w : Pos) (x : Pos × List ℕ) → Format (Called depth w x) (Called (suc (suc depth)) w x) no_more name (called depth w x)
unfolding called
format_called depth w x =
    format_then format_name (λ f. format_then (format_sign 0 refl) (λ _. format_mapped (λ args. t.Call w (Some x.1) f.1 args) (format_before no_more refl (format_arguments depth 0 (none_used depth)))) refl) refl

format_call_or_let : (depth : ℕ) (w : Pos) (x : Pos × List ℕ) → Format (CallOrLet depth w x) (CallOrLet (suc (suc depth)) w x) no_more operands (call_or_let depth w x)
unfolding call_or_let
format_call_or_let depth w x =
    format_then
    (format_looked name (sign 0) (Called depth w x) (Called (suc (suc depth)) w x) (Mapped (λ e. t.Let w x.1 e) (Value depth 0)) (Mapped (λ e. t.Let w x.1 e) (Value (suc (suc depth)) 0)) no_more goes_expr operands
    (called depth w x) (mapped (λ e. t.Let w x.1 e) (value depth 0)) (format_called depth w x) (format_mapped (λ e. t.Let w x.1 e) (format_value depth 0 (none_used depth)))
    (called_two depth w x) (called_goes depth w x) (let_alone depth w x) refl refl)
    (λ s. format_mapped (λ _. s) (format_sign 7 refl)) refl

pub format_made : (depth : ℕ) → (w : Pos) → (x : Pos × List ℕ) → Format (Made depth w x) (Made (suc (suc depth)) w x) (both no_more (both no_more (both no_more (both no_more (both no_more (both no_more (both no_more (both no_more (both no_more no_more))))))))) (both (sign 29) (both (sign 75) (both (sign 76) (both (sign 77) (both (sign 78) (both (sign 87) (both (sign 89) (both (sign 81) (both (sign 85) operands))))))))) (made depth w x)
unfolding made
format_made depth w x = format_either (format_load_behind depth w x false) (format_either (format_alloc_behind depth w x) (format_either (format_alloc_array_behind depth w x) (format_either (format_alloc_atomic_behind depth w x) (format_either (format_new_behind depth w x) (format_either (format_atomic_read_behind w x) (format_either (format_cas_behind depth w x) (format_either (format_new_lock_behind depth w x) (format_either (format_read_behind w x) (format_call_or_let depth w x) refl) refl) refl) refl) refl) refl) refl) refl) refl

pub format_let_name : (depth : ℕ) → (w : Pos) → Format (LetName depth w) (LetName (suc (suc depth)) w) (both no_more (both no_more (both no_more (both no_more (both no_more (both no_more (both no_more (both no_more (both no_more no_more))))))))) name (let_name depth w)
unfolding let_name
format_let_name depth w = format_then format_name (λ x. (format_then (format_sign 11 refl) (λ _. (format_made depth w x)) refl)) refl

pub format_let_rule : (depth : ℕ) → Format (LetRule depth) (LetRule (suc (suc depth))) (both no_more (both (both no_more (both no_more (both no_more no_more))) (both no_more (both no_more (both no_more (both no_more (both no_more (both no_more (both no_more (both no_more (both no_more no_more))))))))))) (sign 39) (let_rule depth)
unfolding let_rule
format_let_rule depth = format_then (format_sign 39 refl) (λ w. (format_either (format_let_mut depth w) (format_either (format_let_ghost depth w) (format_let_name depth w) refl) refl)) refl

pub format_store_behind : (depth : ℕ) → (x : Pos × List ℕ) → Format (StoreBehind depth x) (StoreBehind (suc (suc depth)) x) no_more (both (both (sign 4) (sign 9)) (sign 12)) (store_behind depth x)
unfolding store_behind
format_store_behind depth x = maybe_then (format_cell_behind depth 0 (none_used depth) x) (λ c. (format_then (format_sign 12 refl) (λ _. (format_then (format_value depth 0 (none_used depth)) (λ e. (format_mapped (λ _. t.Store x.0 c e) (format_sign 7 refl))) refl)) refl)) refl

pub format_named_statement : (depth : ℕ) → Format (NamedStatement depth) (NamedStatement (suc (suc depth))) (both no_more no_more) name (named_statement depth)
unfolding named_statement
format_named_statement depth = format_then format_name (λ x. (format_either (format_call_behind depth x.0 None x.1) (format_store_behind depth x) refl)) refl

pub format_free_rule : Format FreeRule FreeRule no_more (sign 79) free_rule
unfolding free_rule
format_free_rule = format_then (format_sign 79 refl) (λ w. (format_then (format_sign 0 refl) (λ _. (format_then format_name (λ x. (format_then (format_sign 1 refl) (λ _. (format_mapped (λ _. t.Free w x.1) (format_sign 7 refl))) refl)) refl)) refl)) refl

pub format_free_array_rule : Format FreeArrayRule FreeArrayRule no_more (sign 80) free_array_rule
unfolding free_array_rule
format_free_array_rule = format_then (format_sign 80 refl) (λ w. (format_then (format_sign 0 refl) (λ _. (format_then format_name (λ x. (format_then (format_sign 1 refl) (λ _. (format_mapped (λ _. t.FreeArray w x.1) (format_sign 7 refl))) refl)) refl)) refl)) refl

pub format_acquire_rule : Format AcquireRule AcquireRule no_more (sign 82) acquire_rule
unfolding acquire_rule
format_acquire_rule = format_then (format_sign 82 refl) (λ w. (format_then (format_sign 0 refl) (λ _. (format_then format_name (λ x. (format_then (format_sign 1 refl) (λ _. (format_mapped (λ _. t.Acquire w x.1) (format_sign 7 refl))) refl)) refl)) refl)) refl

pub format_release_rule : Format ReleaseRule ReleaseRule no_more (sign 83) release_rule
unfolding release_rule
format_release_rule = format_then (format_sign 83 refl) (λ w. (format_then (format_sign 0 refl) (λ _. (format_then format_name (λ x. (format_then (format_sign 1 refl) (λ _. (format_mapped (λ _. t.Release w x.1) (format_sign 7 refl))) refl)) refl)) refl)) refl

pub format_free_lock_rule : Format FreeLockRule FreeLockRule no_more (sign 84) free_lock_rule
unfolding free_lock_rule
format_free_lock_rule = format_then (format_sign 84 refl) (λ w. (format_then (format_sign 0 refl) (λ _. (format_then format_name (λ x. (format_then (format_sign 1 refl) (λ _. (format_mapped (λ _. t.FreeLock w x.1) (format_sign 7 refl))) refl)) refl)) refl)) refl

pub format_atomic_write_rule : (depth : ℕ) → Format (AtomicWriteRule depth) (AtomicWriteRule (suc (suc depth))) no_more (sign 88) (atomic_write_rule depth)
unfolding atomic_write_rule
format_atomic_write_rule depth = format_then (format_sign 88 refl) (λ w. (format_then (format_sign 0 refl) (λ _. (format_then format_name (λ c. (format_then (format_sign 6 refl) (λ _. (format_then (format_value depth 0 (none_used depth)) (λ e. (format_then (format_sign 1 refl) (λ _. (format_mapped (λ _. t.AtomicWrite w c.1 e) (format_sign 7 refl))) refl)) refl)) refl)) refl)) refl)) refl

pub format_print_rule : (depth : ℕ) → Format (PrintRule depth) (PrintRule (suc (suc depth))) no_more (sign 86) (print_rule depth)
unfolding print_rule
format_print_rule depth = format_then (format_sign 86 refl) (λ w. (format_then (format_sign 0 refl) (λ _. (format_then (format_value depth 0 (none_used depth)) (λ e. (format_then (format_sign 1 refl) (λ _. (format_mapped (λ _. t.Print w e) (format_sign 7 refl))) refl)) refl)) refl)) refl

pub format_par_rule : (depth : ℕ) → Format (ParRule depth) (ParRule (suc (suc depth))) no_more (sign 50) (par_rule depth)
unfolding par_rule
format_par_rule depth = format_then (format_sign 50 refl) (λ w. (format_then format_name (λ f. (format_then (format_sign 0 refl) (λ _. (format_then (format_arguments depth 0 (none_used depth)) (λ xs. (format_then (format_sign 6 refl) (λ _. (format_then format_name (λ g. (format_then (format_sign 0 refl) (λ _. (format_then (format_arguments depth 0 (none_used depth)) (λ ys. (format_mapped (λ _. t.Par w f.1 xs g.1 ys) (format_sign 7 refl))) refl)) refl)) refl)) refl)) refl)) refl)) refl)) refl

pub format_return_rule : (depth : ℕ) → Format (ReturnRule depth) (ReturnRule (suc (suc depth))) no_more (sign 49) (return_rule depth)
unfolding return_rule
format_return_rule depth = format_then (format_sign 49 refl) (λ w. (format_then (format_value depth 0 (none_used depth)) (λ e. (format_mapped (λ _. t.Return w e) (format_sign 7 refl))) refl)) refl

pub format_fold_rule : (depth : ℕ) → Format (FoldRule depth) (FoldRule (suc (suc depth))) no_more (sign 63) (fold_rule depth)
unfolding fold_rule
format_fold_rule depth = format_then (format_sign 63 refl) (λ w. (format_then (format_instance depth 0 (none_used depth)) (λ i. (format_mapped (λ _. t.Fold w i) (format_sign 7 refl))) refl)) refl

pub format_unfold_rule : (depth : ℕ) → Format (UnfoldRule depth) (UnfoldRule (suc (suc depth))) no_more (sign 64) (unfold_rule depth)
unfolding unfold_rule
format_unfold_rule depth = format_then (format_sign 64 refl) (λ w. (format_then (format_instance depth 0 (none_used depth)) (λ i. (format_mapped (λ _. t.Unfold w i) (format_sign 7 refl))) refl)) refl

pub format_key : (depth : ℕ) → Format (KeyOf depth) (KeyOf (suc (suc depth))) (both no_more (both (both (sign 4) (sign 9)) (both no_more no_more))) (both (sign 58) name) (key depth)
unfolding key
format_key depth = format_either (format_then (format_sign 58 refl) (λ _. (format_then (format_sign 0 refl) (λ _. (format_then (format_value depth 0 (none_used depth)) (λ a. (format_then (format_sign 6 refl) (λ _. (format_then (format_value depth 0 (none_used depth)) (λ lo. (format_then (format_sign 6 refl) (λ _. (format_then (format_value depth 0 (none_used depth)) (λ hi. (format_mapped (λ _. t.Range a lo hi) (format_sign 1 refl))) refl)) refl)) refl)) refl)) refl)) refl)) refl) (format_mapped (λ c. t.Cell c) (format_cell depth 0 (none_used depth))) refl

pub format_share_rule : (depth : ℕ) → Format (ShareRule depth) (ShareRule (suc (suc depth))) no_more (sign 67) (share_rule depth)
unfolding share_rule
format_share_rule depth = format_then (format_sign 67 refl) (λ w. (format_then (format_key depth) (λ k. (format_mapped (λ _. t.Share w k) (format_sign 7 refl))) refl)) refl

pub format_gather_rule : (depth : ℕ) → Format (GatherRule depth) (GatherRule (suc (suc depth))) no_more (sign 68) (gather_rule depth)
unfolding gather_rule
format_gather_rule depth = format_then (format_sign 68 refl) (λ w. (format_then (format_key depth) (λ k. (format_mapped (λ _. t.Gather w k) (format_sign 7 refl))) refl)) refl

pub format_split_rule : (depth : ℕ) → Format (SplitRule depth) (SplitRule (suc (suc depth))) no_more (sign 69) (split_rule depth)
unfolding split_rule
format_split_rule depth = format_then (format_sign 69 refl) (λ w. (format_then (format_sign 58 refl) (λ _. (format_then (format_sign 0 refl) (λ _. (format_then (format_value depth 0 (none_used depth)) (λ a. (format_then (format_sign 6 refl) (λ _. (format_then (format_value depth 0 (none_used depth)) (λ lo. (format_then (format_sign 6 refl) (λ _. (format_then (format_value depth 0 (none_used depth)) (λ hi. (format_then (format_sign 1 refl) (λ _. (format_then (format_sign 71 refl) (λ _. (format_then (format_value depth 0 (none_used depth)) (λ m. (format_mapped (λ _. t.Split w a lo hi m) (format_sign 7 refl))) refl)) refl)) refl)) refl)) refl)) refl)) refl)) refl)) refl)) refl)) refl

pub format_join_rule : (depth : ℕ) → Format (JoinRule depth) (JoinRule (suc (suc depth))) no_more (sign 70) (join_rule depth)
unfolding join_rule
format_join_rule depth = format_then (format_sign 70 refl) (λ w. (format_then (format_sign 58 refl) (λ _. (format_then (format_sign 0 refl) (λ _. (format_then (format_value depth 0 (none_used depth)) (λ a. (format_then (format_sign 6 refl) (λ _. (format_then (format_value depth 0 (none_used depth)) (λ lo. (format_then (format_sign 6 refl) (λ _. (format_then (format_value depth 0 (none_used depth)) (λ m. (format_then (format_sign 6 refl) (λ _. (format_then (format_value depth 0 (none_used depth)) (λ hi. (format_then (format_sign 1 refl) (λ _. (format_mapped (λ _. t.Join w a lo m hi) (format_sign 7 refl))) refl)) refl)) refl)) refl)) refl)) refl)) refl)) refl)) refl)) refl)) refl

pub format_focus_rule : (depth : ℕ) → Format (FocusRule depth) (FocusRule (suc (suc depth))) no_more (sign 72) (focus_rule depth)
unfolding focus_rule
format_focus_rule depth = format_then (format_sign 72 refl) (λ w. (format_then format_name (λ a. (format_then (format_sign 4 refl) (λ _. (format_then (format_summed depth 0 (none_used depth)) (λ i. (format_then (format_sign 5 refl) (λ _. (format_mapped (λ _. t.Focus w a.1 i) (format_sign 7 refl))) refl)) refl)) refl)) refl)) refl

pub format_unfocus_rule : (depth : ℕ) → Format (UnfocusRule depth) (UnfocusRule (suc (suc depth))) no_more (sign 73) (unfocus_rule depth)
unfolding unfocus_rule
format_unfocus_rule depth = format_then (format_sign 73 refl) (λ w. (format_then format_name (λ a. (format_then (format_sign 4 refl) (λ _. (format_then (format_summed depth 0 (none_used depth)) (λ i. (format_then (format_sign 5 refl) (λ _. (format_mapped (λ _. t.Unfocus w a.1 i) (format_sign 7 refl))) refl)) refl)) refl)) refl)) refl

pub format_hint_term : Format HintTermOf HintTermOf no_more number hint_term
unfolding hint_term
format_hint_term = format_then format_number (λ n. (format_then (format_sign 17 refl) (λ _. (format_mapped (λ l. record { times = n.1; label = l.1 }) format_name)) refl)) refl

pub format_next_hint_term : Format NextHintTerm NextHintTerm no_more (sign 15) next_hint_term
unfolding next_hint_term
format_next_hint_term = format_then (format_sign 15 refl) (λ _. (format_hint_term)) refl

pub format_more_hint_terms : Maybe MoreHintTerms MoreHintTerms (both (sign 15) no_more) (sign 15) more_hint_terms
format_more_hint_terms = many (format_next_hint_term) refl

pub format_hint : Maybe HintOf HintOf (both (sign 48) (both (sign 15) no_more)) (sign 48) hint
unfolding hint
format_hint = optional None (format_then (format_sign 48 refl) (λ _. (format_maybe (format_hint_term) (λ first. (maybe_mapped (λ more. Some (record { terms = first ∷ more })) (format_more_hint_terms))) refl refl)) refl)

pub format_assert_rule : (depth : ℕ) → Format (AssertRule depth) (AssertRule (suc (suc depth))) no_more (sign 47) (assert_rule depth)
unfolding assert_rule
format_assert_rule depth = format_then (format_sign 47 refl) (λ w. (format_then (format_labelled depth 0 (none_used depth)) (λ e. (maybe_then (format_hint) (λ h. (format_mapped (λ _. t.Assert w e.0 e.1 h) (format_sign 7 refl))) refl)) refl)) refl

pub format_with_assert_rule : (depth : ℕ) → Format (WithAssertRule depth) (WithAssertRule (suc (suc depth))) no_more (sign 45) (with_assert_rule depth)
unfolding with_assert_rule
format_with_assert_rule depth = format_then (format_sign 45 refl) (λ w. (format_then (format_binders c.Logical) (λ bs. (format_then (format_sign 9 refl) (λ _. (format_then (format_sign 47 refl) (λ _. (format_then (format_whole_prop depth 0 (none_used depth)) (λ p. (format_mapped (λ _. t.WithAssert w bs p) (format_sign 7 refl))) refl)) refl)) refl)) refl)) refl

pub format_drop_rule : (depth : ℕ) → Format (DropRule depth) (DropRule (suc (suc depth))) no_more (sign 74) (drop_rule depth)
unfolding drop_rule
format_drop_rule depth = format_then (format_sign 74 refl) (λ w. (format_then (format_whole_prop depth 0 (none_used depth)) (λ p. (format_mapped (λ _. t.Drop w p) (format_sign 7 refl))) refl)) refl

pub format_statement_ensures : (depth : ℕ) → Maybe (StatementEnsures depth) (StatementEnsures (suc (suc depth))) (both (sign 37) no_more) (sign 37) (statement_ensures depth)
unfolding statement_ensures
format_statement_ensures depth = optional None (format_then (format_sign 37 refl) (λ _. (format_then (format_whole_prop depth 0 (none_used depth)) (λ p. (format_mapped (λ _. Some p) (format_sign 7 refl))) refl)) refl)

pub format_else_of : {K K' : Language Token t.Braced} {P : Reader Token t.Braced} → Format K K' no_more (sign 2) P → Maybe (ElseOf K) (ElseOf K') (both (sign 42) no_more) (sign 42) (else_of P)
unfolding else_of
format_else_of q = optional t.no_else (format_then (format_sign 42 refl) (λ _. (format_mapped (λ b. t.else b) q)) refl)

pub format_if_rule : {K K' : Language Token t.Braced} {P : Reader Token t.Braced} → (depth : ℕ) → Format K K' no_more (sign 2) P → Format (IfRule depth K) (IfRule (suc (suc depth)) K') (both (both (sign 42) no_more) (both (sign 37) no_more)) (sign 41) (if_rule depth P)
unfolding if_rule
format_if_rule depth q = format_then (format_sign 41 refl) (λ w. (format_then (format_sign 0 refl) (λ _. (format_then (format_value depth 0 (none_used depth)) (λ e. (format_then (format_sign 1 refl) (λ _. (format_maybe q (λ first. (maybe_maybe (format_else_of q) (λ second. (maybe_mapped (λ after. t.If w e first second after) (format_statement_ensures depth))) refl)) refl refl)) refl)) refl)) refl)) refl

pub format_load_rule : (depth : ℕ) → Format (LoadRule depth) (LoadRule (suc (suc depth))) no_more (sign 39) (load_rule depth)
unfolding load_rule
format_load_rule depth = format_then (format_sign 39 refl) (λ w. (format_then format_name (λ x. (format_then (format_sign 11 refl) (λ _. (format_load_behind depth w x false)) refl)) refl)) refl

pub format_loads : (depth : ℕ) → Maybe (Loads depth) (Loads (suc (suc depth))) (both (sign 39) no_more) (sign 39) (loads depth)
format_loads depth = many (format_load_rule depth) refl

pub format_while_rule : {K K' : Language Token t.Braced} {P : Reader Token t.Braced} → (depth : ℕ) → Format K K' no_more (sign 2) P → Format (WhileRule depth K) (WhileRule (suc (suc depth)) K') no_more (sign 43) (while_rule depth P)
unfolding while_rule
format_while_rule depth q = format_then (format_sign 43 refl) (λ w. (format_then (format_sign 0 refl) (λ _. (maybe_then (format_loads depth) (λ ls. (format_then (format_value depth 0 (none_used depth)) (λ e. (format_then (format_sign 1 refl) (λ _. (format_then (format_sign 44 refl) (λ _. (format_then (format_whole_prop depth 0 (none_used depth)) (λ kept. (format_mapped (λ body. t.While w (chain ls) e kept body) q)) refl)) refl)) refl)) refl)) refl)) refl)) refl

pub format_with_rule : {K K' : Language Token t.Braced} {P : Reader Token t.Braced} → (depth : ℕ) → Format K K' no_more (sign 2) P → Format (WithRule depth K) (WithRule (suc (suc depth)) K') (both (sign 37) no_more) (sign 46) (with_rule depth P)
unfolding with_rule
format_with_rule depth q = format_then (format_sign 46 refl) (λ w. (format_then format_name (λ i. (format_maybe q (λ body. (maybe_mapped (λ after. t.With w i.1 body after) (format_statement_ensures depth))) refl refl)) refl)) refl

-- ---- rewrite

abbrev Rewritten : ℕ → Pos → PropPart → Language Token t.Stmt
Rewritten depth w p = Then (Sign 66) (λ _. Then (Prop depth p.used) (λ q. Mapped (λ _. t.Rewrite w p.tree q.tree) (Sign 7)))

format_rewritten : (depth : ℕ) (w : Pos) (p : PropPart) → p.used ≤ depth
    → Format (Rewritten depth w p) (Rewritten (suc (suc depth)) w p) no_more (sign 66) (next (sign_at 66) (λ _. next (prop depth p.used) (λ q. mapped (λ _. t.Rewrite w p.tree q.tree) (sign_at 7))))
format_rewritten depth w p h =
    format_then (format_sign 66 refl) (λ _. format_then (format_prop depth p.used h) (λ q. format_mapped (λ _. t.Rewrite w p.tree q.tree) (format_sign 7 refl)) refl) refl

rewritten_some : (depth : ℕ) (w : Pos) (p : PropPart) → HasText (Rewritten depth w p)
rewritten_some depth w p =
    some_then (Sign 66) (λ _. Then (Prop depth p.used) (λ q. Mapped (λ _. t.Rewrite w p.tree q.tree) (Sign 7))) (sign_some 66 refl)
    (λ _. some_then (Prop depth p.used) (λ q. Mapped (λ _. t.Rewrite w p.tree q.tree) (Sign 7)) (prop_some depth p.used) (λ q. some_mapped (λ _. t.Rewrite w p.tree q.tree) (Sign 7) (sign_some 7 refl)))

rewritten_starts : (depth : ℕ) (w : Pos) (p : PropPart) → Starts (token_in (sign 66)) (Rewritten depth w p)
rewritten_starts depth w p = Starts-then (token_in (sign 66)) (Sign 66) (λ _. Then (Prop depth p.used) (λ q. Mapped (λ _. t.Rewrite w p.tree q.tree) (Sign 7))) (sign_starts 66)

format_two_props : (depth : ℕ) (w : Pos)
    → Format (Then (Prop depth 0) (Rewritten depth w)) (Then (Prop (suc (suc depth)) 0) (Rewritten (suc (suc depth)) w)) no_more prop_firsts
    (next (prop depth 0) (λ p. next (sign_at 66) (λ _. next (prop depth p.used) (λ q. mapped (λ _. t.Rewrite w p.tree q.tree) (sign_at 7)))))
format_two_props depth w =
    let f = format_prop depth 0 (none_used depth) in
    record {
      reads = Reads-behind (Prop depth 0) (Prop (suc (suc depth)) 0) (Rewritten depth w) (Rewritten (suc (suc depth)) w) (token_in goes_prop) (token_in no_more) (prop depth 0)
          (λ p. next (sign_at 66) (λ _. next (prop depth p.used) (λ q. mapped (λ _. t.Rewrite w p.tree q.tree) (sign_at 7)))) f.reads
          (λ p text u. (format_rewritten depth w p ((prop_read depth).keeps 0 (none_used depth) p text u)).reads) (rewritten_some (suc (suc depth)) w)
          (λ p a back rest u e. others_fail (token_in (sign 66)) (token_in goes_prop) (Rewritten depth w p) (rewritten_starts depth w p) (set_apart (sign 66) goes_prop refl) a back rest u);
      some = some_then (Prop (suc (suc depth)) 0) (Rewritten (suc (suc depth)) w) f.some (rewritten_some (suc (suc depth)) w);
      starts = Starts-then (token_in prop_firsts) (Prop depth 0) (Rewritten depth w) f.starts;
    }

format_rewrite_rule : (depth : ℕ) → Format (RewriteRule depth) (RewriteRule (suc (suc depth))) no_more (sign 65) (rewrite_rule depth)
unfolding rewrite_rule
format_rewrite_rule depth = format_then (format_sign 65 refl) (λ w. format_two_props depth w) refl

pub format_simple_statement : (depth : ℕ) → Format (SimpleStatement depth) (SimpleStatement (suc (suc depth))) (both (both no_more (both (both no_more (both no_more (both no_more no_more))) (both no_more (both no_more (both no_more (both no_more (both no_more (both no_more (both no_more (both no_more (both no_more no_more))))))))))) (both no_more (both no_more (both no_more (both no_more (both no_more (both no_more (both no_more (both no_more (both no_more (both no_more (both no_more (both no_more (both no_more (both no_more (both no_more (both no_more (both no_more (both no_more (both no_more (both no_more (both no_more (both no_more no_more))))))))))))))))))))))) (both (sign 39) (both (sign 79) (both (sign 80) (both (sign 82) (both (sign 83) (both (sign 84) (both (sign 88) (both (sign 86) (both (sign 50) (both (sign 49) (both (sign 63) (both (sign 64) (both (sign 65) (both (sign 67) (both (sign 68) (both (sign 69) (both (sign 70) (both (sign 72) (both (sign 73) (both (sign 47) (both (sign 45) (both (sign 74) name)))))))))))))))))))))) (simple_statement depth)
unfolding simple_statement
format_simple_statement depth = format_either (format_let_rule depth) (format_either format_free_rule (format_either format_free_array_rule (format_either format_acquire_rule (format_either format_release_rule (format_either format_free_lock_rule (format_either (format_atomic_write_rule depth) (format_either (format_print_rule depth) (format_either (format_par_rule depth) (format_either (format_return_rule depth) (format_either (format_fold_rule depth) (format_either (format_unfold_rule depth) (format_either (format_rewrite_rule depth) (format_either (format_share_rule depth) (format_either (format_gather_rule depth) (format_either (format_split_rule depth) (format_either (format_join_rule depth) (format_either (format_focus_rule depth) (format_either (format_unfocus_rule depth) (format_either (format_assert_rule depth) (format_either (format_with_assert_rule depth) (format_either (format_drop_rule depth) (format_named_statement depth) refl) refl) refl) refl) refl) refl) refl) refl) refl) refl) refl) refl) refl) refl) refl) refl) refl) refl) refl) refl) refl) refl

pub format_statement : {K K' : Language Token t.Braced} {P : Reader Token t.Braced} → (depth : ℕ) → Format K K' no_more (sign 2) P → Format (StatementOf depth K) (StatementOf (suc (suc depth)) K') (both (both (both (sign 42) no_more) (both (sign 37) no_more)) (both no_more (both (both (sign 37) no_more) (both (both no_more (both (both no_more (both no_more (both no_more no_more))) (both no_more (both no_more (both no_more (both no_more (both no_more (both no_more (both no_more (both no_more (both no_more no_more))))))))))) (both no_more (both no_more (both no_more (both no_more (both no_more (both no_more (both no_more (both no_more (both no_more (both no_more (both no_more (both no_more (both no_more (both no_more (both no_more (both no_more (both no_more (both no_more (both no_more (both no_more (both no_more (both no_more no_more)))))))))))))))))))))))))) (both (sign 41) (both (sign 43) (both (sign 46) (both (sign 39) (both (sign 79) (both (sign 80) (both (sign 82) (both (sign 83) (both (sign 84) (both (sign 88) (both (sign 86) (both (sign 50) (both (sign 49) (both (sign 63) (both (sign 64) (both (sign 65) (both (sign 67) (both (sign 68) (both (sign 69) (both (sign 70) (both (sign 72) (both (sign 73) (both (sign 47) (both (sign 45) (both (sign 74) name))))))))))))))))))))))))) (statement depth P)
unfolding statement
format_statement depth q = format_either (format_if_rule depth q) (format_either (format_while_rule depth q) (format_either (format_with_rule depth q) (format_simple_statement depth) refl) refl) refl

-- ---- blocks

-- with what a statement goes on: else and ensures
abbrev pub goes_statement : Set
goes_statement = signs (42 ∷ 37 ∷ [])

pub format_any_statement : {K K' : Language Token t.Braced} → {P : Reader Token t.Braced} → (depth : ℕ) → Format K K' no_more (sign 2) P
    → Format (StatementOf depth K) (StatementOf (suc (suc depth)) K') goes_statement statement_firsts (statement depth P)
format_any_statement depth q = format_first statement_firsts refl (format_before goes_statement refl (format_statement depth q))

block_some : (depth : ℕ) → HasText (Block (suc depth))
unfolding Block
block_some depth = some_then (Sign 2) (λ _. Then (Many (StatementOf depth (Block depth))) (λ ss. Mapped (λ p. t.braces (chain ss) p) (Sign 3))) (sign_some 2 refl)
    (λ _. some_then (Many (StatementOf depth (Block depth))) (λ ss. Mapped (λ p. t.braces (chain ss) p) (Sign 3)) ([], [], refl) (λ ss. some_mapped (λ p. t.braces (chain ss) p) (Sign 3) (sign_some 3 refl)))

block_opens : (depth : ℕ) (y : Token) → token_in (sign 2) y ≡ true → IsViable (Block (suc depth)) (y ∷ [])
unfolding Block
block_opens depth y e =
    let w = some_then (Many (StatementOf depth (Block depth))) (λ ss. Mapped (λ p. t.braces (chain ss) p) (Sign 3)) ([], [], refl) (λ ss. some_mapped (λ p. t.braces (chain ss) p) (Sign 3) (sign_some 3 refl)) in
    (w.1, w.0, (y.pos, y ∷ [], w.1, (y, refl, place_is 2 y e), w.2, refl))

pub format_block : (depth : ℕ) → Format (Block depth) (Block (suc (suc depth))) no_more (sign 2) (block depth)
unfolding Block block block_of
format_block zero = record {
  reads = Reads-none (token_in (sign 2)) (Block 2) (token_in no_more) (block_some 1) (block_opens 1);
  some = block_some 1;
  starts = λ a text u. absurd u;
}
format_block (suc depth) =
    format_then (format_sign 2 refl)
    (λ _. maybe_then (many (format_any_statement depth (format_block depth)) refl) (λ ss. format_mapped (λ p. t.braces (chain ss) p) (format_sign 3 refl)) refl) refl
