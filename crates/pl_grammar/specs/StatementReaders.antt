-- The readers of statements.
use Rattle.std.specs.Prelude.{ℕ, zero, suc, Bool, true, false, List, [], ◌∷◌, Option, Some, None}
use Rattle.pl_base.specs.declared.pos.Pos.{Pos}
use Rattle.pl_syntax.specs.declared.expr.Class.TheVariants as c
use Rattle.pl_syntax.specs.declared.stmt.Hint.{Hint}
use Rattle.pl_syntax.specs.declared.stmt.HintTerm.{HintTerm}
use Rattle.pl_lexer.specs.declared.tokens.Token.{Token}
use Rattle.pl_syntax.specs.Plain.{chain}
use Rattle.pl_syntax.specs.Tree as t
use Rattle.pl_syntax.specs.Tree.{Name}
use Rattle.pl_readers.specs.Reader.{Reader, one, next, either, nothing, mapped, refuse, deep, repeat}
use Rattle.pl_grammar.specs.Signs.{Set, sign, name, name_of, number_of}
use Rattle.pl_grammar.specs.Readers.{is, sign_at}
use Rattle.pl_grammar.specs.PropReaders.{looked, value, summed, arguments, cell_behind, cell, instance, binders, labelled, prop, whole_prop}

unfoldable pub let_mut : ℕ → Pos → Reader Token t.Stmt
let_mut depth w = next (sign_at 40) (λ _. (next (one name_of) (λ x. (next (sign_at 11) (λ _. (next (value depth 0) (λ e. (mapped (λ _. t.LetMut w x.1 e) (sign_at 7)))))))))

unfoldable pub load_behind : ℕ → Pos → (Pos × List ℕ) → Bool → Reader Token t.Stmt
load_behind depth w x is_ghost = next (sign_at 29) (λ _. (next (cell depth 0) (λ c. (mapped (λ _. t.Load w x.1 c is_ghost) (sign_at 7)))))

unfoldable pub galloc_behind : ℕ → Pos → (Pos × List ℕ) → Reader Token t.Stmt
galloc_behind depth w x = next (sign_at 90) (λ _. (next (sign_at 0) (λ _. (next (value depth 0) (λ e. (next (sign_at 1) (λ _. (mapped (λ _. t.GAlloc w x.1 e) (sign_at 7)))))))))

unfoldable pub new_invariant_behind : ℕ → Pos → (Pos × List ℕ) → Reader Token t.Stmt
new_invariant_behind depth w x = next (sign_at 91) (λ _. (next (sign_at 0) (λ _. (next (instance depth 0) (λ i. (next (sign_at 1) (λ _. (mapped (λ _. t.NewInv w x.1 i) (sign_at 7)))))))))

unfoldable pub ghost_let_behind : ℕ → Pos → (Pos × List ℕ) → Reader Token t.Stmt
ghost_let_behind depth w x = next (value depth 0) (λ e. (mapped (λ _. t.GLet w x.1 e) (sign_at 7)))

unfoldable pub ghost_made : ℕ → Pos → (Pos × List ℕ) → Reader Token t.Stmt
ghost_made depth w x = either (is (sign 29)) (load_behind depth w x true) (either (is (sign 90)) (galloc_behind depth w x) (either (is (sign 91)) (new_invariant_behind depth w x) (ghost_let_behind depth w x)))

unfoldable pub let_ghost : ℕ → Pos → Reader Token t.Stmt
let_ghost depth w = next (sign_at 32) (λ _. (next (one name_of) (λ x. (next (sign_at 11) (λ _. (ghost_made depth w x))))))

unfoldable pub alloc_behind : ℕ → Pos → (Pos × List ℕ) → Reader Token t.Stmt
alloc_behind depth w x = next (sign_at 75) (λ _. (next (sign_at 0) (λ _. (next (value depth 0) (λ e. (next (sign_at 1) (λ _. (mapped (λ _. t.Alloc w x.1 e) (sign_at 7)))))))))

unfoldable pub alloc_array_behind : ℕ → Pos → (Pos × List ℕ) → Reader Token t.Stmt
alloc_array_behind depth w x = next (sign_at 76) (λ _. (next (sign_at 0) (λ _. (next (value depth 0) (λ e. (next (sign_at 6) (λ _. (next (value depth 0) (λ n. (next (sign_at 1) (λ _. (mapped (λ _. t.AllocArray w x.1 e n) (sign_at 7)))))))))))))

unfoldable pub alloc_atomic_behind : ℕ → Pos → (Pos × List ℕ) → Reader Token t.Stmt
alloc_atomic_behind depth w x = next (sign_at 77) (λ _. (next (sign_at 0) (λ _. (next (value depth 0) (λ e. (next (sign_at 1) (λ _. (mapped (λ _. t.AllocAtomic w x.1 e) (sign_at 7)))))))))

unfoldable pub init : ℕ → Reader Token t.Init
init depth = next (one name_of) (λ f. (next (sign_at 8) (λ _. (mapped (λ e. record { name = f.1; value = e }) (value depth 0)))))

unfoldable pub next_init : ℕ → Reader Token t.Init
next_init depth = next (sign_at 6) (λ _. (init depth))

abbrev pub more_inits : ℕ → Reader Token (List t.Init)
more_inits depth = repeat (is (sign 6)) (next_init depth)

unfoldable pub new_behind : ℕ → Pos → (Pos × List ℕ) → Reader Token t.Stmt
new_behind depth w x = next (sign_at 78) (λ _. (next (one name_of) (λ s. (next (sign_at 2) (λ _. (next (init depth) (λ first. (next (more_inits depth) (λ more. (next (sign_at 3) (λ _. (mapped (λ _. t.New w x.1 s.1 (first ∷ more)) (sign_at 7)))))))))))))

unfoldable pub atomic_read_behind : Pos → (Pos × List ℕ) → Reader Token t.Stmt
atomic_read_behind w x = next (sign_at 87) (λ _. (next (sign_at 0) (λ _. (next (one name_of) (λ c. (next (sign_at 1) (λ _. (mapped (λ _. t.AtomicRead w x.1 c.1) (sign_at 7)))))))))

unfoldable pub cas_behind : ℕ → Pos → (Pos × List ℕ) → Reader Token t.Stmt
cas_behind depth w x = next (sign_at 89) (λ _. (next (sign_at 0) (λ _. (next (one name_of) (λ c. (next (sign_at 6) (λ _. (next (value depth 0) (λ old. (next (sign_at 6) (λ _. (next (value depth 0) (λ new. (next (sign_at 1) (λ _. (mapped (λ _. t.Cas w x.1 c.1 old new) (sign_at 7)))))))))))))))))

unfoldable pub new_lock_behind : ℕ → Pos → (Pos × List ℕ) → Reader Token t.Stmt
new_lock_behind depth w x = next (sign_at 81) (λ _. (next (sign_at 0) (λ _. (next (instance depth 0) (λ i. (next (sign_at 1) (λ _. (mapped (λ _. t.NewLock w x.1 i) (sign_at 7)))))))))

unfoldable pub read_behind : Pos → (Pos × List ℕ) → Reader Token t.Stmt
read_behind w x = next (sign_at 85) (λ _. (next (sign_at 0) (λ _. (next (sign_at 1) (λ _. (mapped (λ _. t.Read w x.1) (sign_at 7)))))))

unfoldable pub call_behind : ℕ → Pos → (Option Name) → Name → Reader Token t.Stmt
call_behind depth w x f = next (sign_at 0) (λ _. (next (arguments depth 0) (λ args. (mapped (λ _. t.Call w x f args) (sign_at 7)))))

unfoldable pub called : ℕ → Pos → Pos × List ℕ → Reader Token t.Stmt
called depth w x = next (one name_of) (λ f. next (sign_at 0) (λ _. mapped (λ args. t.Call w (Some x.1) f.1 args) (arguments depth 0)))

-- a call or an expression
abbrev pub call_or_value : ℕ → Pos → Pos × List ℕ → Reader Token t.Stmt
call_or_value depth w x = looked name (sign 0) (called depth w x) (mapped (λ e. t.Let w x.1 e) (value depth 0))

unfoldable pub call_or_let : ℕ → Pos → Pos × List ℕ → Reader Token t.Stmt
call_or_let depth w x = next (call_or_value depth w x) (λ s. mapped (λ _. s) (sign_at 7))

unfoldable pub made : ℕ → Pos → (Pos × List ℕ) → Reader Token t.Stmt
made depth w x = either (is (sign 29)) (load_behind depth w x false) (either (is (sign 75)) (alloc_behind depth w x) (either (is (sign 76)) (alloc_array_behind depth w x) (either (is (sign 77)) (alloc_atomic_behind depth w x) (either (is (sign 78)) (new_behind depth w x) (either (is (sign 87)) (atomic_read_behind w x) (either (is (sign 89)) (cas_behind depth w x) (either (is (sign 81)) (new_lock_behind depth w x) (either (is (sign 85)) (read_behind w x) (call_or_let depth w x)))))))))

unfoldable pub let_name : ℕ → Pos → Reader Token t.Stmt
let_name depth w = next (one name_of) (λ x. (next (sign_at 11) (λ _. (made depth w x))))

unfoldable pub let_rule : ℕ → Reader Token t.Stmt
let_rule depth = next (sign_at 39) (λ w. (either (is (sign 40)) (let_mut depth w) (either (is (sign 32)) (let_ghost depth w) (let_name depth w))))

unfoldable pub store_behind : ℕ → (Pos × List ℕ) → Reader Token t.Stmt
store_behind depth x = next (cell_behind depth 0 x) (λ c. (next (sign_at 12) (λ _. (next (value depth 0) (λ e. (mapped (λ _. t.Store x.0 c e) (sign_at 7)))))))

unfoldable pub named_statement : ℕ → Reader Token t.Stmt
named_statement depth = next (one name_of) (λ x. (either (is (sign 0)) (call_behind depth x.0 None x.1) (store_behind depth x)))

unfoldable pub free_rule : Reader Token t.Stmt
free_rule = next (sign_at 79) (λ w. (next (sign_at 0) (λ _. (next (one name_of) (λ x. (next (sign_at 1) (λ _. (mapped (λ _. t.Free w x.1) (sign_at 7)))))))))

unfoldable pub free_array_rule : Reader Token t.Stmt
free_array_rule = next (sign_at 80) (λ w. (next (sign_at 0) (λ _. (next (one name_of) (λ x. (next (sign_at 1) (λ _. (mapped (λ _. t.FreeArray w x.1) (sign_at 7)))))))))

unfoldable pub acquire_rule : Reader Token t.Stmt
acquire_rule = next (sign_at 82) (λ w. (next (sign_at 0) (λ _. (next (one name_of) (λ x. (next (sign_at 1) (λ _. (mapped (λ _. t.Acquire w x.1) (sign_at 7)))))))))

unfoldable pub release_rule : Reader Token t.Stmt
release_rule = next (sign_at 83) (λ w. (next (sign_at 0) (λ _. (next (one name_of) (λ x. (next (sign_at 1) (λ _. (mapped (λ _. t.Release w x.1) (sign_at 7)))))))))

unfoldable pub free_lock_rule : Reader Token t.Stmt
free_lock_rule = next (sign_at 84) (λ w. (next (sign_at 0) (λ _. (next (one name_of) (λ x. (next (sign_at 1) (λ _. (mapped (λ _. t.FreeLock w x.1) (sign_at 7)))))))))

unfoldable pub atomic_write_rule : ℕ → Reader Token t.Stmt
atomic_write_rule depth = next (sign_at 88) (λ w. (next (sign_at 0) (λ _. (next (one name_of) (λ c. (next (sign_at 6) (λ _. (next (value depth 0) (λ e. (next (sign_at 1) (λ _. (mapped (λ _. t.AtomicWrite w c.1 e) (sign_at 7)))))))))))))

unfoldable pub print_rule : ℕ → Reader Token t.Stmt
print_rule depth = next (sign_at 86) (λ w. (next (sign_at 0) (λ _. (next (value depth 0) (λ e. (next (sign_at 1) (λ _. (mapped (λ _. t.Print w e) (sign_at 7)))))))))

unfoldable pub par_rule : ℕ → Reader Token t.Stmt
par_rule depth = next (sign_at 50) (λ w. (next (one name_of) (λ f. (next (sign_at 0) (λ _. (next (arguments depth 0) (λ xs. (next (sign_at 6) (λ _. (next (one name_of) (λ g. (next (sign_at 0) (λ _. (next (arguments depth 0) (λ ys. (mapped (λ _. t.Par w f.1 xs g.1 ys) (sign_at 7)))))))))))))))))

unfoldable pub return_rule : ℕ → Reader Token t.Stmt
return_rule depth = next (sign_at 49) (λ w. (next (value depth 0) (λ e. (mapped (λ _. t.Return w e) (sign_at 7)))))

unfoldable pub fold_rule : ℕ → Reader Token t.Stmt
fold_rule depth = next (sign_at 63) (λ w. (next (instance depth 0) (λ i. (mapped (λ _. t.Fold w i) (sign_at 7)))))

unfoldable pub unfold_rule : ℕ → Reader Token t.Stmt
unfold_rule depth = next (sign_at 64) (λ w. (next (instance depth 0) (λ i. (mapped (λ _. t.Unfold w i) (sign_at 7)))))

unfoldable pub key : ℕ → Reader Token t.Key
key depth = either (is (sign 58)) (next (sign_at 58) (λ _. (next (sign_at 0) (λ _. (next (value depth 0) (λ a. (next (sign_at 6) (λ _. (next (value depth 0) (λ lo. (next (sign_at 6) (λ _. (next (value depth 0) (λ hi. (mapped (λ _. t.Range a lo hi) (sign_at 1)))))))))))))))) (mapped (λ c. t.Cell c) (cell depth 0))

unfoldable pub share_rule : ℕ → Reader Token t.Stmt
share_rule depth = next (sign_at 67) (λ w. (next (key depth) (λ k. (mapped (λ _. t.Share w k) (sign_at 7)))))

unfoldable pub gather_rule : ℕ → Reader Token t.Stmt
gather_rule depth = next (sign_at 68) (λ w. (next (key depth) (λ k. (mapped (λ _. t.Gather w k) (sign_at 7)))))

unfoldable pub split_rule : ℕ → Reader Token t.Stmt
split_rule depth = next (sign_at 69) (λ w. (next (sign_at 58) (λ _. (next (sign_at 0) (λ _. (next (value depth 0) (λ a. (next (sign_at 6) (λ _. (next (value depth 0) (λ lo. (next (sign_at 6) (λ _. (next (value depth 0) (λ hi. (next (sign_at 1) (λ _. (next (sign_at 71) (λ _. (next (value depth 0) (λ m. (mapped (λ _. t.Split w a lo hi m) (sign_at 7)))))))))))))))))))))))

unfoldable pub join_rule : ℕ → Reader Token t.Stmt
join_rule depth = next (sign_at 70) (λ w. (next (sign_at 58) (λ _. (next (sign_at 0) (λ _. (next (value depth 0) (λ a. (next (sign_at 6) (λ _. (next (value depth 0) (λ lo. (next (sign_at 6) (λ _. (next (value depth 0) (λ m. (next (sign_at 6) (λ _. (next (value depth 0) (λ hi. (next (sign_at 1) (λ _. (mapped (λ _. t.Join w a lo m hi) (sign_at 7)))))))))))))))))))))))

unfoldable pub focus_rule : ℕ → Reader Token t.Stmt
focus_rule depth = next (sign_at 72) (λ w. (next (one name_of) (λ a. (next (sign_at 4) (λ _. (next (summed depth 0) (λ i. (next (sign_at 5) (λ _. (mapped (λ _. t.Focus w a.1 i) (sign_at 7)))))))))))

unfoldable pub unfocus_rule : ℕ → Reader Token t.Stmt
unfocus_rule depth = next (sign_at 73) (λ w. (next (one name_of) (λ a. (next (sign_at 4) (λ _. (next (summed depth 0) (λ i. (next (sign_at 5) (λ _. (mapped (λ _. t.Unfocus w a.1 i) (sign_at 7)))))))))))

unfoldable pub hint_term : Reader Token HintTerm
hint_term = next (one number_of) (λ n. (next (sign_at 17) (λ _. (mapped (λ l. record { times = n.1; label = l.1 }) (one name_of)))))

unfoldable pub next_hint_term : Reader Token HintTerm
next_hint_term = next (sign_at 15) (λ _. (hint_term))

abbrev pub more_hint_terms : Reader Token (List HintTerm)
more_hint_terms = repeat (is (sign 15)) (next_hint_term)

unfoldable pub hint : Reader Token (Option Hint)
hint = either (is (sign 48)) (next (sign_at 48) (λ _. (next (hint_term) (λ first. (mapped (λ more. Some (record { terms = first ∷ more })) (more_hint_terms)))))) (nothing None)

unfoldable pub assert_rule : ℕ → Reader Token t.Stmt
assert_rule depth = next (sign_at 47) (λ w. (next (labelled depth 0) (λ e. (next (hint) (λ h. (mapped (λ _. t.Assert w e.0 e.1 h) (sign_at 7)))))))

unfoldable pub with_assert_rule : ℕ → Reader Token t.Stmt
with_assert_rule depth = next (sign_at 45) (λ w. (next (binders c.Logical) (λ bs. (next (sign_at 9) (λ _. (next (sign_at 47) (λ _. (next (whole_prop depth 0) (λ p. (mapped (λ _. t.WithAssert w bs p) (sign_at 7)))))))))))

unfoldable pub drop_rule : ℕ → Reader Token t.Stmt
drop_rule depth = next (sign_at 74) (λ w. (next (whole_prop depth 0) (λ p. (mapped (λ _. t.Drop w p) (sign_at 7)))))

unfoldable pub statement_ensures : ℕ → Reader Token (Option t.Prop)
statement_ensures depth = either (is (sign 37)) (next (sign_at 37) (λ _. (next (whole_prop depth 0) (λ p. (mapped (λ _. Some p) (sign_at 7)))))) (nothing None)

unfoldable pub else_of : Reader Token t.Braced → Reader Token t.Else
else_of P = either (is (sign 42)) (next (sign_at 42) (λ _. (mapped (λ b. t.else b) P))) (nothing t.no_else)

unfoldable pub if_rule : ℕ → Reader Token t.Braced → Reader Token t.Stmt
if_rule depth P = next (sign_at 41) (λ w. (next (sign_at 0) (λ _. (next (value depth 0) (λ e. (next (sign_at 1) (λ _. (next P (λ first. (next (else_of P) (λ second. (mapped (λ after. t.If w e first second after) (statement_ensures depth)))))))))))))

unfoldable pub load_rule : ℕ → Reader Token t.Stmt
load_rule depth = next (sign_at 39) (λ w. (next (one name_of) (λ x. (next (sign_at 11) (λ _. (load_behind depth w x false))))))

abbrev pub loads : ℕ → Reader Token (List t.Stmt)
loads depth = repeat (is (sign 39)) (load_rule depth)

unfoldable pub while_rule : ℕ → Reader Token t.Braced → Reader Token t.Stmt
while_rule depth P = next (sign_at 43) (λ w. (next (sign_at 0) (λ _. (next (loads depth) (λ ls. (next (value depth 0) (λ e. (next (sign_at 1) (λ _. (next (sign_at 44) (λ _. (next (whole_prop depth 0) (λ kept. (mapped (λ body. t.While w (chain ls) e kept body) P))))))))))))))

unfoldable pub with_rule : ℕ → Reader Token t.Braced → Reader Token t.Stmt
with_rule depth P = next (sign_at 46) (λ w. (next (one name_of) (λ i. (next P (λ body. (mapped (λ after. t.With w i.1 body after) (statement_ensures depth)))))))

unfoldable pub rewrite_rule : ℕ → Reader Token t.Stmt
rewrite_rule depth =
    next (sign_at 65) (λ w. next (prop depth 0) (λ p. next (sign_at 66) (λ _. next (prop depth p.used) (λ q. mapped (λ _. t.Rewrite w p.tree q.tree) (sign_at 7)))))

unfoldable pub simple_statement : ℕ → Reader Token t.Stmt
simple_statement depth = either (is (sign 39)) (let_rule depth) (either (is (sign 79)) free_rule (either (is (sign 80)) free_array_rule (either (is (sign 82)) acquire_rule (either (is (sign 83)) release_rule (either (is (sign 84)) free_lock_rule (either (is (sign 88)) (atomic_write_rule depth) (either (is (sign 86)) (print_rule depth) (either (is (sign 50)) (par_rule depth) (either (is (sign 49)) (return_rule depth) (either (is (sign 63)) (fold_rule depth) (either (is (sign 64)) (unfold_rule depth) (either (is (sign 65)) (rewrite_rule depth) (either (is (sign 67)) (share_rule depth) (either (is (sign 68)) (gather_rule depth) (either (is (sign 69)) (split_rule depth) (either (is (sign 70)) (join_rule depth) (either (is (sign 72)) (focus_rule depth) (either (is (sign 73)) (unfocus_rule depth) (either (is (sign 47)) (assert_rule depth) (either (is (sign 45)) (with_assert_rule depth) (either (is (sign 74)) (drop_rule depth) (named_statement depth))))))))))))))))))))))

unfoldable pub statement : ℕ → Reader Token t.Braced → Reader Token t.Stmt
statement depth P = either (is (sign 41)) (if_rule depth P) (either (is (sign 43)) (while_rule depth P) (either (is (sign 46)) (with_rule depth P) (simple_statement depth)))

-- with what a statement begins
abbrev pub statement_firsts : Set
statement_firsts = record { signs = 41 ∷ 43 ∷ 46 ∷ 39 ∷ 79 ∷ 80 ∷ 82 ∷ 83 ∷ 84 ∷ 88 ∷ 86 ∷ 50 ∷ 49 ∷ 63 ∷ 64 ∷ 65 ∷ 67 ∷ 68 ∷ 69 ∷ 70 ∷ 72 ∷ 73 ∷ 47 ∷ 45 ∷ 74 ∷ []; names = true; numbers = false }

unfoldable pub block_of : ℕ → Reader Token t.Braced → Reader Token t.Braced
block_of depth P = next (sign_at 2) (λ _. next (repeat (is statement_firsts) (statement depth P)) (λ ss. mapped (λ p. t.braces (chain ss) p) (sign_at 3)))

unfoldable pub block : ℕ → Reader Token t.Braced
block zero = either (is (sign 2)) deep refuse
block (suc depth) = block_of depth (block depth)
