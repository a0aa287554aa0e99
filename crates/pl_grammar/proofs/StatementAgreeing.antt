-- One level more answers alike, for statements and blocks.
use Rattle.std.proofs.Common.{◌≡◌, ℕ, zero, suc, inl, inr, Bool, true, false, cond, List, [], ◌∷◌, length, Option, Some, None, Ok, Err, refl, ap}
use Rattle.pl_base.specs.declared.pos.Pos.{Pos}
use Rattle.pl_syntax.specs.declared.expr.Class.TheVariants as c
use Rattle.pl_lexer.specs.declared.tokens.Token.{Token}
use Rattle.pl_syntax.specs.Plain.{chain}
use Rattle.pl_syntax.specs.Tree as t
use Rattle.pl_syntax.specs.Tree.{Name}
use Rattle.pl_readers.specs.declared.error.Stop.{Stop}
use Rattle.pl_readers.specs.Language.{Language}
use Rattle.pl_readers.specs.Reader.{Reader, begins, one, next, either, nothing, mapped, deep, refuse, repeat}
use Rattle.pl_readers.specs.Reads.{Reads}
use Rattle.pl_grammar.specs.Signs.{token_in, sign, name, name_of}
use Rattle.pl_grammar.specs.Readers.{sign_at}
use Rattle.pl_grammar.proofs.Tiers.{goes_expr}
use Rattle.pl_grammar.proofs.Formats.{no_more}
use Rattle.pl_readers.specs.Reads.{Agrees}
use Rattle.pl_readers.proofs.Correct.{err_left}
use Rattle.pl_readers.proofs.Levels.{Agrees-same, Agrees-then, Agrees-mapped, Agrees-either, Agrees-repeat}
use Rattle.pl_grammar.proofs.Agreeing.{behind, before}
use Rattle.pl_grammar.specs.PropGrammar.{Prop}
use Rattle.pl_grammar.specs.PropReaders.{value, arguments, binders, prop}
use Rattle.pl_grammar.specs.StatementReaders.{let_mut, load_behind, galloc_behind, new_invariant_behind, ghost_let_behind, ghost_made, let_ghost, alloc_behind, alloc_array_behind, alloc_atomic_behind, init, next_init, more_inits, new_behind, atomic_read_behind, cas_behind, new_lock_behind, read_behind, call_behind, called, call_or_let, made, let_name, let_rule, store_behind, named_statement, free_rule, free_array_rule, acquire_rule, release_rule, free_lock_rule, atomic_write_rule, print_rule, par_rule, return_rule, fold_rule, unfold_rule, key, share_rule, gather_rule, split_rule, join_rule, focus_rule, unfocus_rule, hint, assert_rule, with_assert_rule, drop_rule, statement_ensures, else_of, if_rule, load_rule, loads, while_rule, with_rule, rewrite_rule, simple_statement, statement, statement_firsts, block_of, block}
use Rattle.pl_grammar.proofs.PropFormats.{none_used, goes_prop, prop_read}
use Rattle.pl_grammar.proofs.StatementFormats.{format_next_init, format_load_rule, goes_statement, format_any_statement, format_block}
use Rattle.pl_grammar.proofs.PropAgreeing.{looked_agrees, value_agrees, summed_agrees, arguments_agrees, cell_behind_agrees, cell_agrees, instance_agrees, labelled_agrees, prop_agrees, whole_prop_agrees}
use Rattle.pl_readers.proofs.Correct.{bind_ok, bind_err}

pub let_mut_agrees : (depth : ℕ) → (w : Pos) → Agrees (let_mut depth w) (let_mut (suc depth) w)
unfolding let_mut
let_mut_agrees depth w = behind (sign_at 40) _ _ (λ _. (behind (one name_of) _ _ (λ x. (behind (sign_at 11) _ _ (λ _. (before _ _ (λ e. (mapped (λ _. t.LetMut w x.1 e) (sign_at 7))) (value_agrees depth 0 (none_used depth))))))))

pub load_behind_agrees : (depth : ℕ) → (w : Pos) → (x : Pos × List ℕ) → (is_ghost : Bool) → Agrees (load_behind depth w x is_ghost) (load_behind (suc depth) w x is_ghost)
unfolding load_behind
load_behind_agrees depth w x is_ghost = behind (sign_at 29) _ _ (λ _. (before _ _ (λ c. (mapped (λ _. t.Load w x.1 c is_ghost) (sign_at 7))) (cell_agrees depth 0 (none_used depth))))

pub galloc_behind_agrees : (depth : ℕ) → (w : Pos) → (x : Pos × List ℕ) → Agrees (galloc_behind depth w x) (galloc_behind (suc depth) w x)
unfolding galloc_behind
galloc_behind_agrees depth w x = behind (sign_at 90) _ _ (λ _. (behind (sign_at 0) _ _ (λ _. (before _ _ (λ e. (next (sign_at 1) (λ _. (mapped (λ _. t.GAlloc w x.1 e) (sign_at 7))))) (value_agrees depth 0 (none_used depth))))))

pub new_invariant_behind_agrees : (depth : ℕ) → (w : Pos) → (x : Pos × List ℕ) → Agrees (new_invariant_behind depth w x) (new_invariant_behind (suc depth) w x)
unfolding new_invariant_behind
new_invariant_behind_agrees depth w x = behind (sign_at 91) _ _ (λ _. (behind (sign_at 0) _ _ (λ _. (before _ _ (λ i. (next (sign_at 1) (λ _. (mapped (λ _. t.NewInv w x.1 i) (sign_at 7))))) (instance_agrees depth 0 (none_used depth))))))

pub ghost_let_behind_agrees : (depth : ℕ) → (w : Pos) → (x : Pos × List ℕ) → Agrees (ghost_let_behind depth w x) (ghost_let_behind (suc depth) w x)
unfolding ghost_let_behind
ghost_let_behind_agrees depth w x = before _ _ (λ e. (mapped (λ _. t.GLet w x.1 e) (sign_at 7))) (value_agrees depth 0 (none_used depth))

pub ghost_made_agrees : (depth : ℕ) → (w : Pos) → (x : Pos × List ℕ) → Agrees (ghost_made depth w x) (ghost_made (suc depth) w x)
unfolding ghost_made
ghost_made_agrees depth w x = Agrees-either (token_in (sign 29)) _ _ _ _ (load_behind_agrees depth w x true) (Agrees-either (token_in (sign 90)) _ _ _ _ (galloc_behind_agrees depth w x) (Agrees-either (token_in (sign 91)) _ _ _ _ (new_invariant_behind_agrees depth w x) (ghost_let_behind_agrees depth w x)))

pub let_ghost_agrees : (depth : ℕ) → (w : Pos) → Agrees (let_ghost depth w) (let_ghost (suc depth) w)
unfolding let_ghost
let_ghost_agrees depth w = behind (sign_at 32) _ _ (λ _. (behind (one name_of) _ _ (λ x. (behind (sign_at 11) _ _ (λ _. (ghost_made_agrees depth w x))))))

pub alloc_behind_agrees : (depth : ℕ) → (w : Pos) → (x : Pos × List ℕ) → Agrees (alloc_behind depth w x) (alloc_behind (suc depth) w x)
unfolding alloc_behind
alloc_behind_agrees depth w x = behind (sign_at 75) _ _ (λ _. (behind (sign_at 0) _ _ (λ _. (before _ _ (λ e. (next (sign_at 1) (λ _. (mapped (λ _. t.Alloc w x.1 e) (sign_at 7))))) (value_agrees depth 0 (none_used depth))))))

pub alloc_array_behind_agrees : (depth : ℕ) → (w : Pos) → (x : Pos × List ℕ) → Agrees (alloc_array_behind depth w x) (alloc_array_behind (suc depth) w x)
unfolding alloc_array_behind
alloc_array_behind_agrees depth w x = behind (sign_at 76) _ _ (λ _. (behind (sign_at 0) _ _ (λ _. (Agrees-then _ _ _ _ (value_agrees depth 0 (none_used depth)) (λ e. (behind (sign_at 6) _ _ (λ _. (before _ _ (λ n. (next (sign_at 1) (λ _. (mapped (λ _. t.AllocArray w x.1 e n) (sign_at 7))))) (value_agrees depth 0 (none_used depth))))))))))

pub alloc_atomic_behind_agrees : (depth : ℕ) → (w : Pos) → (x : Pos × List ℕ) → Agrees (alloc_atomic_behind depth w x) (alloc_atomic_behind (suc depth) w x)
unfolding alloc_atomic_behind
alloc_atomic_behind_agrees depth w x = behind (sign_at 77) _ _ (λ _. (behind (sign_at 0) _ _ (λ _. (before _ _ (λ e. (next (sign_at 1) (λ _. (mapped (λ _. t.AllocAtomic w x.1 e) (sign_at 7))))) (value_agrees depth 0 (none_used depth))))))

pub init_agrees : (depth : ℕ) → Agrees (init depth) (init (suc depth))
unfolding init
init_agrees depth = behind (one name_of) _ _ (λ f. (behind (sign_at 8) _ _ (λ _. (Agrees-mapped (λ e. record { name = f.1; value = e }) _ _ (value_agrees depth 0 (none_used depth))))))

pub next_init_agrees : (depth : ℕ) → Agrees (next_init depth) (next_init (suc depth))
unfolding next_init
next_init_agrees depth = behind (sign_at 6) _ _ (λ _. (init_agrees depth))

pub more_inits_agrees : (depth : ℕ) → Agrees (more_inits depth) (more_inits (suc depth))
more_inits_agrees depth = Agrees-repeat (token_in (sign 6)) _ _ _ _ (token_in goes_expr) _ _ (format_next_init depth).reads (format_next_init (suc depth)).reads (format_next_init depth).starts (format_next_init (suc depth)).starts (next_init_agrees depth)

pub new_behind_agrees : (depth : ℕ) → (w : Pos) → (x : Pos × List ℕ) → Agrees (new_behind depth w x) (new_behind (suc depth) w x)
unfolding new_behind
new_behind_agrees depth w x = behind (sign_at 78) _ _ (λ _. (behind (one name_of) _ _ (λ s. (behind (sign_at 2) _ _ (λ _. (Agrees-then _ _ _ _ (init_agrees depth) (λ first. (before _ _ (λ more. (next (sign_at 3) (λ _. (mapped (λ _. t.New w x.1 s.1 (first ∷ more)) (sign_at 7))))) (more_inits_agrees depth)))))))))

pub atomic_read_behind_agrees : (w : Pos) → (x : Pos × List ℕ) → Agrees (atomic_read_behind w x) (atomic_read_behind w x)
unfolding atomic_read_behind
atomic_read_behind_agrees w x = Agrees-same (atomic_read_behind w x)

pub cas_behind_agrees : (depth : ℕ) → (w : Pos) → (x : Pos × List ℕ) → Agrees (cas_behind depth w x) (cas_behind (suc depth) w x)
unfolding cas_behind
cas_behind_agrees depth w x = behind (sign_at 89) _ _ (λ _. (behind (sign_at 0) _ _ (λ _. (behind (one name_of) _ _ (λ c. (behind (sign_at 6) _ _ (λ _. (Agrees-then _ _ _ _ (value_agrees depth 0 (none_used depth)) (λ old. (behind (sign_at 6) _ _ (λ _. (before _ _ (λ new. (next (sign_at 1) (λ _. (mapped (λ _. t.Cas w x.1 c.1 old new) (sign_at 7))))) (value_agrees depth 0 (none_used depth))))))))))))))

pub new_lock_behind_agrees : (depth : ℕ) → (w : Pos) → (x : Pos × List ℕ) → Agrees (new_lock_behind depth w x) (new_lock_behind (suc depth) w x)
unfolding new_lock_behind
new_lock_behind_agrees depth w x = behind (sign_at 81) _ _ (λ _. (behind (sign_at 0) _ _ (λ _. (before _ _ (λ i. (next (sign_at 1) (λ _. (mapped (λ _. t.NewLock w x.1 i) (sign_at 7))))) (instance_agrees depth 0 (none_used depth))))))

pub read_behind_agrees : (w : Pos) → (x : Pos × List ℕ) → Agrees (read_behind w x) (read_behind w x)
unfolding read_behind
read_behind_agrees w x = Agrees-same (read_behind w x)

pub call_behind_agrees : (depth : ℕ) → (w : Pos) → (x : Option Name) → (f : Name) → Agrees (call_behind depth w x f) (call_behind (suc depth) w x f)
unfolding call_behind
call_behind_agrees depth w x f = behind (sign_at 0) _ _ (λ _. (before _ _ (λ args. (mapped (λ _. t.Call w x f args) (sign_at 7))) (arguments_agrees depth 0 (none_used depth))))

pub call_or_let_agrees : (depth : ℕ) (w : Pos) (x : Pos × List ℕ) → Agrees (call_or_let depth w x) (call_or_let (suc depth) w x)
unfolding call_or_let called
call_or_let_agrees depth w x =
    before _ _ (λ s. mapped (λ _. s) (sign_at 7))
    (looked_agrees name (sign 0) (next (one name_of) (λ f. next (sign_at 0) (λ _. mapped (λ args. t.Call w (Some x.1) f.1 args) (arguments depth 0)))) (next (one name_of) (λ f. next (sign_at 0) (λ _. mapped (λ args. t.Call w (Some x.1) f.1 args) (arguments (suc depth) 0))))
    (mapped (λ e. t.Let w x.1 e) (value depth 0)) (mapped (λ e. t.Let w x.1 e) (value (suc depth) 0))
    (behind (one name_of) _ _ (λ f. behind (sign_at 0) _ _ (λ _. Agrees-mapped (λ args. t.Call w (Some x.1) f.1 args) _ _ (arguments_agrees depth 0 (none_used depth))))) (Agrees-mapped (λ e. t.Let w x.1 e) _ _ (value_agrees depth 0 (none_used depth))))

pub made_agrees : (depth : ℕ) → (w : Pos) → (x : Pos × List ℕ) → Agrees (made depth w x) (made (suc depth) w x)
unfolding made
made_agrees depth w x = Agrees-either (token_in (sign 29)) _ _ _ _ (load_behind_agrees depth w x false) (Agrees-either (token_in (sign 75)) _ _ _ _ (alloc_behind_agrees depth w x) (Agrees-either (token_in (sign 76)) _ _ _ _ (alloc_array_behind_agrees depth w x) (Agrees-either (token_in (sign 77)) _ _ _ _ (alloc_atomic_behind_agrees depth w x) (Agrees-either (token_in (sign 78)) _ _ _ _ (new_behind_agrees depth w x) (Agrees-either (token_in (sign 87)) _ _ _ _ (atomic_read_behind_agrees w x) (Agrees-either (token_in (sign 89)) _ _ _ _ (cas_behind_agrees depth w x) (Agrees-either (token_in (sign 81)) _ _ _ _ (new_lock_behind_agrees depth w x) (Agrees-either (token_in (sign 85)) _ _ _ _ (read_behind_agrees w x) (call_or_let_agrees depth w x)))))))))

pub let_name_agrees : (depth : ℕ) → (w : Pos) → Agrees (let_name depth w) (let_name (suc depth) w)
unfolding let_name
let_name_agrees depth w = behind (one name_of) _ _ (λ x. (behind (sign_at 11) _ _ (λ _. (made_agrees depth w x))))

pub let_rule_agrees : (depth : ℕ) → Agrees (let_rule depth) (let_rule (suc depth))
unfolding let_rule
let_rule_agrees depth = behind (sign_at 39) _ _ (λ w. (Agrees-either (token_in (sign 40)) _ _ _ _ (let_mut_agrees depth w) (Agrees-either (token_in (sign 32)) _ _ _ _ (let_ghost_agrees depth w) (let_name_agrees depth w))))

pub store_behind_agrees : (depth : ℕ) → (x : Pos × List ℕ) → Agrees (store_behind depth x) (store_behind (suc depth) x)
unfolding store_behind
store_behind_agrees depth x = Agrees-then _ _ _ _ (cell_behind_agrees depth 0 (none_used depth) x) (λ c. (behind (sign_at 12) _ _ (λ _. (before _ _ (λ e. (mapped (λ _. t.Store x.0 c e) (sign_at 7))) (value_agrees depth 0 (none_used depth))))))

pub named_statement_agrees : (depth : ℕ) → Agrees (named_statement depth) (named_statement (suc depth))
unfolding named_statement
named_statement_agrees depth = behind (one name_of) _ _ (λ x. (Agrees-either (token_in (sign 0)) _ _ _ _ (call_behind_agrees depth x.0 None x.1) (store_behind_agrees depth x)))

pub free_rule_agrees : Agrees free_rule free_rule
unfolding free_rule
free_rule_agrees = Agrees-same free_rule

pub free_array_rule_agrees : Agrees free_array_rule free_array_rule
unfolding free_array_rule
free_array_rule_agrees = Agrees-same free_array_rule

pub acquire_rule_agrees : Agrees acquire_rule acquire_rule
unfolding acquire_rule
acquire_rule_agrees = Agrees-same acquire_rule

pub release_rule_agrees : Agrees release_rule release_rule
unfolding release_rule
release_rule_agrees = Agrees-same release_rule

pub free_lock_rule_agrees : Agrees free_lock_rule free_lock_rule
unfolding free_lock_rule
free_lock_rule_agrees = Agrees-same free_lock_rule

pub atomic_write_rule_agrees : (depth : ℕ) → Agrees (atomic_write_rule depth) (atomic_write_rule (suc depth))
unfolding atomic_write_rule
atomic_write_rule_agrees depth = behind (sign_at 88) _ _ (λ w. (behind (sign_at 0) _ _ (λ _. (behind (one name_of) _ _ (λ c. (behind (sign_at 6) _ _ (λ _. (before _ _ (λ e. (next (sign_at 1) (λ _. (mapped (λ _. t.AtomicWrite w c.1 e) (sign_at 7))))) (value_agrees depth 0 (none_used depth))))))))))

pub print_rule_agrees : (depth : ℕ) → Agrees (print_rule depth) (print_rule (suc depth))
unfolding print_rule
print_rule_agrees depth = behind (sign_at 86) _ _ (λ w. (behind (sign_at 0) _ _ (λ _. (before _ _ (λ e. (next (sign_at 1) (λ _. (mapped (λ _. t.Print w e) (sign_at 7))))) (value_agrees depth 0 (none_used depth))))))

pub par_rule_agrees : (depth : ℕ) → Agrees (par_rule depth) (par_rule (suc depth))
unfolding par_rule
par_rule_agrees depth = behind (sign_at 50) _ _ (λ w. (behind (one name_of) _ _ (λ f. (behind (sign_at 0) _ _ (λ _. (Agrees-then _ _ _ _ (arguments_agrees depth 0 (none_used depth)) (λ xs. (behind (sign_at 6) _ _ (λ _. (behind (one name_of) _ _ (λ g. (behind (sign_at 0) _ _ (λ _. (before _ _ (λ ys. (mapped (λ _. t.Par w f.1 xs g.1 ys) (sign_at 7))) (arguments_agrees depth 0 (none_used depth))))))))))))))))

pub return_rule_agrees : (depth : ℕ) → Agrees (return_rule depth) (return_rule (suc depth))
unfolding return_rule
return_rule_agrees depth = behind (sign_at 49) _ _ (λ w. (before _ _ (λ e. (mapped (λ _. t.Return w e) (sign_at 7))) (value_agrees depth 0 (none_used depth))))

pub fold_rule_agrees : (depth : ℕ) → Agrees (fold_rule depth) (fold_rule (suc depth))
unfolding fold_rule
fold_rule_agrees depth = behind (sign_at 63) _ _ (λ w. (before _ _ (λ i. (mapped (λ _. t.Fold w i) (sign_at 7))) (instance_agrees depth 0 (none_used depth))))

pub unfold_rule_agrees : (depth : ℕ) → Agrees (unfold_rule depth) (unfold_rule (suc depth))
unfolding unfold_rule
unfold_rule_agrees depth = behind (sign_at 64) _ _ (λ w. (before _ _ (λ i. (mapped (λ _. t.Unfold w i) (sign_at 7))) (instance_agrees depth 0 (none_used depth))))

pub key_agrees : (depth : ℕ) → Agrees (key depth) (key (suc depth))
unfolding key
key_agrees depth = Agrees-either (token_in (sign 58)) _ _ _ _ (behind (sign_at 58) _ _ (λ _. (behind (sign_at 0) _ _ (λ _. (Agrees-then _ _ _ _ (value_agrees depth 0 (none_used depth)) (λ a. (behind (sign_at 6) _ _ (λ _. (Agrees-then _ _ _ _ (value_agrees depth 0 (none_used depth)) (λ lo. (behind (sign_at 6) _ _ (λ _. (before _ _ (λ hi. (mapped (λ _. t.Range a lo hi) (sign_at 1))) (value_agrees depth 0 (none_used depth))))))))))))))) (Agrees-mapped (λ c. t.Cell c) _ _ (cell_agrees depth 0 (none_used depth)))

pub share_rule_agrees : (depth : ℕ) → Agrees (share_rule depth) (share_rule (suc depth))
unfolding share_rule
share_rule_agrees depth = behind (sign_at 67) _ _ (λ w. (before _ _ (λ k. (mapped (λ _. t.Share w k) (sign_at 7))) (key_agrees depth)))

pub gather_rule_agrees : (depth : ℕ) → Agrees (gather_rule depth) (gather_rule (suc depth))
unfolding gather_rule
gather_rule_agrees depth = behind (sign_at 68) _ _ (λ w. (before _ _ (λ k. (mapped (λ _. t.Gather w k) (sign_at 7))) (key_agrees depth)))

pub split_rule_agrees : (depth : ℕ) → Agrees (split_rule depth) (split_rule (suc depth))
unfolding split_rule
split_rule_agrees depth = behind (sign_at 69) _ _ (λ w. (behind (sign_at 58) _ _ (λ _. (behind (sign_at 0) _ _ (λ _. (Agrees-then _ _ _ _ (value_agrees depth 0 (none_used depth)) (λ a. (behind (sign_at 6) _ _ (λ _. (Agrees-then _ _ _ _ (value_agrees depth 0 (none_used depth)) (λ lo. (behind (sign_at 6) _ _ (λ _. (Agrees-then _ _ _ _ (value_agrees depth 0 (none_used depth)) (λ hi. (behind (sign_at 1) _ _ (λ _. (behind (sign_at 71) _ _ (λ _. (before _ _ (λ m. (mapped (λ _. t.Split w a lo hi m) (sign_at 7))) (value_agrees depth 0 (none_used depth))))))))))))))))))))))

pub join_rule_agrees : (depth : ℕ) → Agrees (join_rule depth) (join_rule (suc depth))
unfolding join_rule
join_rule_agrees depth = behind (sign_at 70) _ _ (λ w. (behind (sign_at 58) _ _ (λ _. (behind (sign_at 0) _ _ (λ _. (Agrees-then _ _ _ _ (value_agrees depth 0 (none_used depth)) (λ a. (behind (sign_at 6) _ _ (λ _. (Agrees-then _ _ _ _ (value_agrees depth 0 (none_used depth)) (λ lo. (behind (sign_at 6) _ _ (λ _. (Agrees-then _ _ _ _ (value_agrees depth 0 (none_used depth)) (λ m. (behind (sign_at 6) _ _ (λ _. (before _ _ (λ hi. (next (sign_at 1) (λ _. (mapped (λ _. t.Join w a lo m hi) (sign_at 7))))) (value_agrees depth 0 (none_used depth))))))))))))))))))))

pub focus_rule_agrees : (depth : ℕ) → Agrees (focus_rule depth) (focus_rule (suc depth))
unfolding focus_rule
focus_rule_agrees depth = behind (sign_at 72) _ _ (λ w. (behind (one name_of) _ _ (λ a. (behind (sign_at 4) _ _ (λ _. (before _ _ (λ i. (next (sign_at 5) (λ _. (mapped (λ _. t.Focus w a.1 i) (sign_at 7))))) (summed_agrees depth 0 (none_used depth))))))))

pub unfocus_rule_agrees : (depth : ℕ) → Agrees (unfocus_rule depth) (unfocus_rule (suc depth))
unfolding unfocus_rule
unfocus_rule_agrees depth = behind (sign_at 73) _ _ (λ w. (behind (one name_of) _ _ (λ a. (behind (sign_at 4) _ _ (λ _. (before _ _ (λ i. (next (sign_at 5) (λ _. (mapped (λ _. t.Unfocus w a.1 i) (sign_at 7))))) (summed_agrees depth 0 (none_used depth))))))))

pub assert_rule_agrees : (depth : ℕ) → Agrees (assert_rule depth) (assert_rule (suc depth))
unfolding assert_rule
assert_rule_agrees depth = behind (sign_at 47) _ _ (λ w. (before _ _ (λ e. (next (hint) (λ h. (mapped (λ _. t.Assert w e.0 e.1 h) (sign_at 7))))) (labelled_agrees depth 0 (none_used depth))))

pub with_assert_rule_agrees : (depth : ℕ) → Agrees (with_assert_rule depth) (with_assert_rule (suc depth))
unfolding with_assert_rule
with_assert_rule_agrees depth = behind (sign_at 45) _ _ (λ w. (behind (binders c.Logical) _ _ (λ bs. (behind (sign_at 9) _ _ (λ _. (behind (sign_at 47) _ _ (λ _. (before _ _ (λ p. (mapped (λ _. t.WithAssert w bs p) (sign_at 7))) (whole_prop_agrees depth 0 (none_used depth))))))))))

pub drop_rule_agrees : (depth : ℕ) → Agrees (drop_rule depth) (drop_rule (suc depth))
unfolding drop_rule
drop_rule_agrees depth = behind (sign_at 74) _ _ (λ w. (before _ _ (λ p. (mapped (λ _. t.Drop w p) (sign_at 7))) (whole_prop_agrees depth 0 (none_used depth))))

pub statement_ensures_agrees : (depth : ℕ) → Agrees (statement_ensures depth) (statement_ensures (suc depth))
unfolding statement_ensures
statement_ensures_agrees depth = Agrees-either (token_in (sign 37)) _ _ _ _ (behind (sign_at 37) _ _ (λ _. (before _ _ (λ p. (mapped (λ _. Some p) (sign_at 7))) (whole_prop_agrees depth 0 (none_used depth))))) (Agrees-same (nothing None))

pub else_of_agrees : {P P' : Reader Token t.Braced} → Agrees P P' → Agrees (else_of P) (else_of P')
unfolding else_of
else_of_agrees qp = Agrees-either (token_in (sign 42)) _ _ _ _ (behind (sign_at 42) _ _ (λ _. (Agrees-mapped (λ b. t.else b) _ _ qp))) (Agrees-same (nothing t.no_else))

pub if_rule_agrees : {P P' : Reader Token t.Braced} → (depth : ℕ) → Agrees P P' → Agrees (if_rule depth P) (if_rule (suc depth) P')
unfolding if_rule
if_rule_agrees depth qp = behind (sign_at 41) _ _ (λ w. (behind (sign_at 0) _ _ (λ _. (Agrees-then _ _ _ _ (value_agrees depth 0 (none_used depth)) (λ e. (behind (sign_at 1) _ _ (λ _. (Agrees-then _ _ _ _ qp (λ first. (Agrees-then _ _ _ _ (else_of_agrees qp) (λ second. (Agrees-mapped (λ after. t.If w e first second after) _ _ (statement_ensures_agrees depth)))))))))))))

pub load_rule_agrees : (depth : ℕ) → Agrees (load_rule depth) (load_rule (suc depth))
unfolding load_rule
load_rule_agrees depth = behind (sign_at 39) _ _ (λ w. (behind (one name_of) _ _ (λ x. (behind (sign_at 11) _ _ (λ _. (load_behind_agrees depth w x false))))))

pub loads_agrees : (depth : ℕ) → Agrees (loads depth) (loads (suc depth))
loads_agrees depth = Agrees-repeat (token_in (sign 39)) _ _ _ _ (token_in no_more) _ _ (format_load_rule depth).reads (format_load_rule (suc depth)).reads (format_load_rule depth).starts (format_load_rule (suc depth)).starts (load_rule_agrees depth)

pub while_rule_agrees : {P P' : Reader Token t.Braced} → (depth : ℕ) → Agrees P P' → Agrees (while_rule depth P) (while_rule (suc depth) P')
unfolding while_rule
while_rule_agrees depth qp = behind (sign_at 43) _ _ (λ w. (behind (sign_at 0) _ _ (λ _. (Agrees-then _ _ _ _ (loads_agrees depth) (λ ls. (Agrees-then _ _ _ _ (value_agrees depth 0 (none_used depth)) (λ e. (behind (sign_at 1) _ _ (λ _. (behind (sign_at 44) _ _ (λ _. (Agrees-then _ _ _ _ (whole_prop_agrees depth 0 (none_used depth)) (λ kept. (Agrees-mapped (λ body. t.While w (chain ls) e kept body) _ _ qp))))))))))))))

pub with_rule_agrees : {P P' : Reader Token t.Braced} → (depth : ℕ) → Agrees P P' → Agrees (with_rule depth P) (with_rule (suc depth) P')
unfolding with_rule
with_rule_agrees depth qp = behind (sign_at 46) _ _ (λ w. (behind (one name_of) _ _ (λ i. (Agrees-then _ _ _ _ qp (λ body. (Agrees-mapped (λ after. t.With w i.1 body after) _ _ (statement_ensures_agrees depth)))))))

-- what follows a text may need that it is one
agrees_within : {A B : Type 0} (T V : Language Token A) (g : Token → Bool) (P P' : Reader Token A) (Q Q' : A → Reader Token B) → Reads T V g P → Agrees P P' → ((a : A) (text : List Token) → T a text → Agrees (Q a) (Q' a)) → Agrees (next P Q) (next P' Q')
agrees_within T V g P P' Q Q' r p q = record {
  ok = λ xs x e.
      let z = bind_ok (P xs) (λ w. Q w.0 w.1) x e in
      let u = r.took xs z.0.0 z.0.1 z.1 in
      rw (p.ok xs z.0 z.1) ((q z.0.0 u.text u.is_text).ok z.0.1 x z.2);
  err = λ xs s e d.
      elim (bind_err (P xs) (λ w. Q w.0 w.1) s e) [
        | inl e1 ↦ rw (p.err xs s e1 d) refl
        | inr z ↦
            let u = r.took xs z.0.0 z.0.1 z.1 in
            rw (p.ok xs z.0 z.1) ((q z.0.0 u.text u.is_text).err z.0.1 s z.2 d)
      ];
}

pub rewrite_rule_agrees : (depth : ℕ) → Agrees (rewrite_rule depth) (rewrite_rule (suc depth))
unfolding rewrite_rule
rewrite_rule_agrees depth =
    behind (sign_at 65) _ _
    (λ w. agrees_within (Prop depth 0) (Prop (suc (suc depth)) 0) (token_in goes_prop) (prop depth 0) (prop (suc depth) 0)
    (λ p. next (sign_at 66) (λ _. next (prop depth p.used) (λ q. mapped (λ _. t.Rewrite w p.tree q.tree) (sign_at 7)))) (λ p. next (sign_at 66) (λ _. next (prop (suc depth) p.used) (λ q. mapped (λ _. t.Rewrite w p.tree q.tree) (sign_at 7))))
    ((prop_read depth).reads 0 (none_used depth)) (prop_agrees depth 0 (none_used depth))
    (λ p text u. behind (sign_at 66) _ _ (λ _. before _ _ (λ q. mapped (λ _. t.Rewrite w p.tree q.tree) (sign_at 7)) (prop_agrees depth p.used ((prop_read depth).keeps 0 (none_used depth) p text u)))))

pub simple_statement_agrees : (depth : ℕ) → Agrees (simple_statement depth) (simple_statement (suc depth))
unfolding simple_statement
simple_statement_agrees depth = Agrees-either (token_in (sign 39)) _ _ _ _ (let_rule_agrees depth) (Agrees-either (token_in (sign 79)) _ _ _ _ free_rule_agrees (Agrees-either (token_in (sign 80)) _ _ _ _ free_array_rule_agrees (Agrees-either (token_in (sign 82)) _ _ _ _ acquire_rule_agrees (Agrees-either (token_in (sign 83)) _ _ _ _ release_rule_agrees (Agrees-either (token_in (sign 84)) _ _ _ _ free_lock_rule_agrees (Agrees-either (token_in (sign 88)) _ _ _ _ (atomic_write_rule_agrees depth) (Agrees-either (token_in (sign 86)) _ _ _ _ (print_rule_agrees depth) (Agrees-either (token_in (sign 50)) _ _ _ _ (par_rule_agrees depth) (Agrees-either (token_in (sign 49)) _ _ _ _ (return_rule_agrees depth) (Agrees-either (token_in (sign 63)) _ _ _ _ (fold_rule_agrees depth) (Agrees-either (token_in (sign 64)) _ _ _ _ (unfold_rule_agrees depth) (Agrees-either (token_in (sign 65)) _ _ _ _ (rewrite_rule_agrees depth) (Agrees-either (token_in (sign 67)) _ _ _ _ (share_rule_agrees depth) (Agrees-either (token_in (sign 68)) _ _ _ _ (gather_rule_agrees depth) (Agrees-either (token_in (sign 69)) _ _ _ _ (split_rule_agrees depth) (Agrees-either (token_in (sign 70)) _ _ _ _ (join_rule_agrees depth) (Agrees-either (token_in (sign 72)) _ _ _ _ (focus_rule_agrees depth) (Agrees-either (token_in (sign 73)) _ _ _ _ (unfocus_rule_agrees depth) (Agrees-either (token_in (sign 47)) _ _ _ _ (assert_rule_agrees depth) (Agrees-either (token_in (sign 45)) _ _ _ _ (with_assert_rule_agrees depth) (Agrees-either (token_in (sign 74)) _ _ _ _ (drop_rule_agrees depth) (named_statement_agrees depth))))))))))))))))))))))

pub statement_agrees : {P P' : Reader Token t.Braced} → (depth : ℕ) → Agrees P P' → Agrees (statement depth P) (statement (suc depth) P')
unfolding statement
statement_agrees depth qp = Agrees-either (token_in (sign 41)) _ _ _ _ (if_rule_agrees depth qp) (Agrees-either (token_in (sign 43)) _ _ _ _ (while_rule_agrees depth qp) (Agrees-either (token_in (sign 46)) _ _ _ _ (with_rule_agrees depth qp) (simple_statement_agrees depth)))

-- ---- blocks

no_sign : (xs : List Token) → begins (token_in (sign 2)) xs ≡ false → sign_at 2 xs ≡ Err (record { is_deep = false; left = length xs })
no_sign [] h = refl
no_sign (x ∷ xs) h = rw h refl

none_by : {A : Type 0} (Q : Pos → Reader Token A) (b : Bool) (xs : List Token) → begins (token_in (sign 2)) xs ≡ b → (s : Stop) → cond b (deep {A = A} xs) (refuse xs) ≡ Err s → s.is_deep ≡ false → next (sign_at 2) Q xs ≡ Err s
none_by {A} Q true xs h s e d = let e1 = ap (λ (z : Stop). z.is_deep) (err_left (A × List Token) (record { is_deep = true; left = length xs }) s e) in absurd cc
none_by {A} Q false xs h s e d = rw (no_sign xs h) (ap (λ (z : Stop). Err z) (err_left (A × List Token) (record { is_deep = false; left = length xs }) s e))

none_ok : {A : Type 0} (b : Bool) (xs : List Token) (x : A × List Token) → cond b (deep {A = A} xs) (refuse xs) ≡ Ok x → ⊥
none_ok true xs x e = absurd cc
none_ok false xs x e = absurd cc

-- where no level is left for a brace
pub brace_agrees : {A : Type 0} (Q : Pos → Reader Token A) → Agrees (either (token_in (sign 2)) deep refuse) (next (sign_at 2) Q)
brace_agrees Q = record {
  ok = λ xs x e. absurd (none_ok (begins (token_in (sign 2)) xs) xs x e);
  err = λ xs s e d. none_by Q (begins (token_in (sign 2)) xs) xs refl s e d;
}

pub block_agrees : (depth : ℕ) → Agrees (block depth) (block (suc depth))
unfolding block block_of
block_agrees zero = brace_agrees (λ _. next (repeat (token_in statement_firsts) (statement 0 (either (token_in (sign 2)) deep refuse))) (λ ss. mapped (λ p. t.braces (chain ss) p) (sign_at 3)))
block_agrees (suc depth) =
    let f = format_any_statement depth (format_block depth) in
    let f1 = format_any_statement (suc depth) (format_block (suc depth)) in
    behind (sign_at 2) _ _ (λ _. before _ _ (λ ss. mapped (λ p. t.braces (chain ss) p) (sign_at 3))
    (Agrees-repeat (token_in statement_firsts) _ _ _ _ (token_in goes_statement) _ _ f.reads f1.reads f.starts f1.starts (statement_agrees depth (block_agrees depth))))
