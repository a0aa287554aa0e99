-- One level more answers alike: terms, propositions, statements and files.
use Rattle.std.proofs.Common.{◌≡◌, ℕ, zero, suc, ◌≤◌, nat_lt, Bool, true, false, cond, List, [], ◌∷◌, Some, None, refl, arith}
use Rattle.std.proofs.lemmas.Bool.Decides.{nat_tests}
use Rattle.pl_base.specs.declared.pos.Pos.{Pos}
use Rattle.pl_syntax.specs.declared.expr.Class.TheVariants as c
use Rattle.pl_lexer.specs.declared.tokens.Token.{Token}
use Rattle.pl_syntax.specs.Tree as t
use Rattle.pl_syntax.specs.Tree.{Name}
use Rattle.pl_readers.specs.Reader.{Reader, one, next, nothing, mapped, deep}
use Rattle.pl_grammar.specs.Signs.{Set, token_in, sign, name, both, name_of}
use Rattle.pl_grammar.specs.Readers.{sign_at, where_left}
use Rattle.pl_grammar.proofs.Tiers.{goes_expr}
use Rattle.pl_readers.specs.Reads.{Agrees}
use Rattle.pl_readers.proofs.Levels.{Agrees-same, Agrees-then, Agrees-mapped, Agrees-either, Agrees-repeat}
use Rattle.pl_grammar.proofs.Agreeing.{behind, before, Agrees-stop, more_room, expression_agrees, sum_is_agrees}
use Rattle.pl_grammar.specs.PropGrammar.{PropPart, bound, starred, enclosed}
use Rattle.pl_grammar.specs.PropReaders.{test, looked, value, summed, next_value, more_values, arguments, cell_behind, cell, instance_behind, instance, binders, permission, with_label, labelled, permission_or_whole, points_behind, named_atom, emp_atom, pure_atom, block_atom, last_permission, slice_atom, alive_atom, held_atom, inv_atom, atom, star_behind, exists_of, enclosed_of, no_star, prop, whole_prop}
use Rattle.pl_grammar.proofs.PropFormats.{format_next_value}

more_left : (used depth : ℕ) → used ≤ depth → used ≤ suc depth
more_left used depth h = omega arith

where_agrees : {A : Type 0} (b d : Bool) (P P' : Reader Token A) → (b ≡ true → d ≡ true) → (b ≡ true → Agrees P P') → Agrees (where_left b P) (where_left d P')
where_agrees true true P P' h p = p refl
where_agrees true false P P' h p = let e = h refl in absurd cc
where_agrees false d P P' h p = Agrees-stop (where_left d P')

-- the choice by two tokens
looked_step : {A : Type 0} (b : Bool) (P P' Q Q' : Reader Token A) → Agrees P P' → Agrees Q Q' → (xs : List Token) → Agrees (λ ys. cond b (P ys) (Q ys)) (λ ys. cond b (P' ys) (Q' ys))
looked_step true P P' Q Q' p q xs = p
looked_step false P P' Q Q' p q xs = q

pub looked_agrees : {A : Type 0} (s u : Set) (P P' Q Q' : Reader Token A) → Agrees P P' → Agrees Q Q' → Agrees (looked s u P Q) (looked s u P' Q')
looked_agrees s u P P' Q Q' p q = record {
  ok = λ xs x e. (looked_step (test s u xs) P P' Q Q' p q xs).ok xs x e;
  err = λ xs e i d. (looked_step (test s u xs) P P' Q Q' p q xs).err xs e i d;
}

pub value_agrees : (depth used : ℕ) → used ≤ depth → Agrees (value depth used) (value (suc depth) used)
unfolding value
value_agrees depth used h = Agrees-mapped (λ x. x.tree) _ _ (expression_agrees depth used)

pub summed_agrees : (depth used : ℕ) → used ≤ depth → Agrees (summed depth used) (summed (suc depth) used)
unfolding summed
summed_agrees depth used h = Agrees-mapped (λ x. x.tree) _ _ (sum_is_agrees depth used)

pub next_value_agrees : (depth used : ℕ) → used ≤ depth → Agrees (next_value depth used) (next_value (suc depth) used)
unfolding next_value
next_value_agrees depth used h = behind (sign_at 6) _ _ (λ _. (value_agrees depth used h))

pub more_values_agrees : (depth used : ℕ) → used ≤ depth → Agrees (more_values depth used) (more_values (suc depth) used)
more_values_agrees depth used h = Agrees-repeat (token_in (sign 6)) _ _ _ _ (token_in goes_expr) _ _ (format_next_value depth used h).reads (format_next_value (suc depth) used (more_left used depth h)).reads (format_next_value depth used h).starts (format_next_value (suc depth) used (more_left used depth h)).starts (next_value_agrees depth used h)

pub arguments_agrees : (depth used : ℕ) → used ≤ depth → Agrees (arguments depth used) (arguments (suc depth) used)
unfolding arguments
arguments_agrees depth used h = Agrees-either (token_in (sign 1)) _ _ _ _ (Agrees-same (mapped (λ _. []) (sign_at 1))) (Agrees-then _ _ _ _ (value_agrees depth used h) (λ first. (before _ _ (λ more. (mapped (λ _. first ∷ more) (sign_at 1))) (more_values_agrees depth used h))))

pub cell_behind_agrees : (depth used : ℕ) → used ≤ depth → (x : Pos × List ℕ) → Agrees (cell_behind depth used x) (cell_behind (suc depth) used x)
unfolding cell_behind
cell_behind_agrees depth used h x = Agrees-either (token_in (both (sign 4) (sign 9))) _ _ _ _ (Agrees-either (token_in (sign 4)) _ _ _ _ (behind (sign_at 4) _ _ (λ _. (before _ _ (λ i. (mapped (λ _. t.At x.1 i) (sign_at 5))) (summed_agrees depth used h)))) (Agrees-same (next (sign_at 9) (λ _. (mapped (λ f. t.Field x.1 f.1) (one name_of)))))) (Agrees-same (nothing (t.Whole x.1)))

pub cell_agrees : (depth used : ℕ) → used ≤ depth → Agrees (cell depth used) (cell (suc depth) used)
unfolding cell
cell_agrees depth used h = behind (one name_of) _ _ (λ x. (cell_behind_agrees depth used h x))

pub instance_behind_agrees : (depth used : ℕ) → used ≤ depth → (x : Pos × List ℕ) → Agrees (instance_behind depth used x) (instance_behind (suc depth) used x)
unfolding instance_behind
instance_behind_agrees depth used h x = behind (sign_at 0) _ _ (λ _. (Agrees-mapped (λ args. record { pos = x.0; pred = x.1; args = args }) _ _ (arguments_agrees depth used h)))

pub instance_agrees : (depth used : ℕ) → used ≤ depth → Agrees (instance depth used) (instance (suc depth) used)
unfolding instance
instance_agrees depth used h = behind (one name_of) _ _ (λ x. (instance_behind_agrees depth used h x))

pub labelled_agrees : (depth used : ℕ) → used ≤ depth → Agrees (labelled depth used) (labelled (suc depth) used)
unfolding labelled with_label
labelled_agrees depth used h =
    looked_agrees name (sign 8) (next (one name_of) (λ x. next (sign_at 8) (λ _. mapped (λ e. (Some x.1, e)) (value depth used)))) (next (one name_of) (λ x. next (sign_at 8) (λ _. mapped (λ e. (Some x.1, e)) (value (suc depth) used))))
    (mapped (λ e. (None, e)) (value depth used)) (mapped (λ e. (None, e)) (value (suc depth) used))
    (behind (one name_of) _ _ (λ x. behind (sign_at 8) _ _ (λ _. Agrees-mapped (λ e. (Some x.1, e)) _ _ (value_agrees depth used h)))) (Agrees-mapped (λ e. (None, e)) _ _ (value_agrees depth used h))

pub points_behind_agrees : (depth used : ℕ) → used ≤ depth → (x : Pos × List ℕ) → Agrees (points_behind depth used x) (points_behind (suc depth) used x)
unfolding points_behind
points_behind_agrees depth used h x = Agrees-then _ _ _ _ (cell_behind_agrees depth used h x) (λ c. (behind (sign_at 13) _ _ (λ _. (behind (permission_or_whole x.0) _ _ (λ q. (Agrees-mapped (λ e. record { tree = t.Points x.0 c q e.tree; used = e.used }) _ _ (sum_is_agrees depth used)))))))

pub named_atom_agrees : (depth used : ℕ) → used ≤ depth → Agrees (named_atom depth used) (named_atom (suc depth) used)
unfolding named_atom
named_atom_agrees depth used h = behind (one name_of) _ _ (λ x. (Agrees-either (token_in (sign 0)) _ _ _ _ (Agrees-mapped (λ i. record { tree = t.App i; used = used }) _ _ (instance_behind_agrees depth used h x)) (points_behind_agrees depth used h x)))

pub emp_atom_agrees : (depth used : ℕ) → used ≤ depth → Agrees (emp_atom depth used) (emp_atom (suc depth) used)
unfolding emp_atom
emp_atom_agrees depth used h = Agrees-same (emp_atom depth used)

pub pure_atom_agrees : (depth used : ℕ) → used ≤ depth → Agrees (pure_atom depth used) (pure_atom (suc depth) used)
unfolding pure_atom
pure_atom_agrees depth used h = behind (sign_at 56) _ _ (λ p. (behind (sign_at 0) _ _ (λ _. (before _ _ (λ e. (mapped (λ _. record { tree = t.Pure p e.0 e.1; used = used }) (sign_at 1))) (labelled_agrees depth used h)))))

pub block_atom_agrees : (depth used : ℕ) → used ≤ depth → Agrees (block_atom depth used) (block_atom (suc depth) used)
unfolding block_atom
block_atom_agrees depth used h = behind (sign_at 59) _ _ (λ p. (behind (sign_at 0) _ _ (λ _. (Agrees-then _ _ _ _ (value_agrees depth used h) (λ a. (behind (sign_at 6) _ _ (λ _. (before _ _ (λ n. (mapped (λ _. record { tree = t.Block p a n; used = used }) (sign_at 1))) (value_agrees depth used h)))))))))

pub slice_atom_agrees : (depth used : ℕ) → used ≤ depth → Agrees (slice_atom depth used) (slice_atom (suc depth) used)
unfolding slice_atom
slice_atom_agrees depth used h = behind (sign_at 58) _ _ (λ p. (behind (sign_at 0) _ _ (λ _. (Agrees-then _ _ _ _ (value_agrees depth used h) (λ a. (behind (sign_at 6) _ _ (λ _. (Agrees-then _ _ _ _ (value_agrees depth used h) (λ lo. (behind (sign_at 6) _ _ (λ _. (before _ _ (λ hi. (next (last_permission p) (λ q. (mapped (λ _. record { tree = t.Slice p a lo hi q; used = used }) (sign_at 1))))) (value_agrees depth used h)))))))))))))

pub alive_atom_agrees : (depth used : ℕ) → used ≤ depth → Agrees (alive_atom depth used) (alive_atom (suc depth) used)
unfolding alive_atom
alive_atom_agrees depth used h = behind (sign_at 60) _ _ (λ p. (behind (sign_at 0) _ _ (λ _. (Agrees-then _ _ _ _ (value_agrees depth used h) (λ l. (behind (sign_at 6) _ _ (λ _. (behind permission _ _ (λ q. (behind (sign_at 6) _ _ (λ _. (before _ _ (λ i. (mapped (λ _. record { tree = t.Alive p l q i; used = used }) (sign_at 1))) (instance_agrees depth used h)))))))))))))

pub held_atom_agrees : (depth used : ℕ) → used ≤ depth → Agrees (held_atom depth used) (held_atom (suc depth) used)
unfolding held_atom
held_atom_agrees depth used h = behind (sign_at 61) _ _ (λ p. (behind (sign_at 0) _ _ (λ _. (before _ _ (λ l. (mapped (λ _. record { tree = t.Held p l; used = used }) (sign_at 1))) (value_agrees depth used h)))))

pub inv_atom_agrees : (depth used : ℕ) → used ≤ depth → Agrees (inv_atom depth used) (inv_atom (suc depth) used)
unfolding inv_atom
inv_atom_agrees depth used h = behind (sign_at 62) _ _ (λ p. (behind (sign_at 0) _ _ (λ _. (Agrees-then _ _ _ _ (value_agrees depth used h) (λ e. (behind (sign_at 6) _ _ (λ _. (before _ _ (λ i. (mapped (λ _. record { tree = t.Inv p e i; used = used }) (sign_at 1))) (instance_agrees depth used h)))))))))

pub atom_agrees : (depth used : ℕ) → used ≤ depth → Agrees (atom depth used) (atom (suc depth) used)
unfolding atom
atom_agrees depth used h = Agrees-either (token_in (sign 55)) _ _ _ _ (emp_atom_agrees depth used h) (Agrees-either (token_in (sign 56)) _ _ _ _ (pure_atom_agrees depth used h) (Agrees-either (token_in (sign 59)) _ _ _ _ (block_atom_agrees depth used h) (Agrees-either (token_in (sign 58)) _ _ _ _ (slice_atom_agrees depth used h) (Agrees-either (token_in (sign 60)) _ _ _ _ (alive_atom_agrees depth used h) (Agrees-either (token_in (sign 61)) _ _ _ _ (held_atom_agrees depth used h) (Agrees-either (token_in (sign 62)) _ _ _ _ (inv_atom_agrees depth used h) (named_atom_agrees depth used h)))))))

-- ---- propositions

star_agrees : (depth : ℕ) (R R' : ℕ → Reader Token PropPart) (a : PropPart) → (nat_lt a.used (suc depth) ≡ true → Agrees (R a.used) (R' a.used)) → Agrees (star_behind depth R a) (star_behind (suc depth) R' a)
unfolding star_behind
star_agrees depth R R' a p =
    Agrees-either (token_in (sign 14)) _ _ _ _ (where_agrees (nat_lt a.used (suc depth)) (nat_lt a.used (suc (suc depth))) (next (sign_at 14) (λ _. mapped (starred a) (R a.used))) (next (sign_at 14) (λ _. mapped (starred a) (R' a.used))) (more_room a.used (suc depth)) (λ e. behind (sign_at 14) _ _ (λ _. Agrees-mapped (starred a) _ _ (p e)))) (Agrees-same (nothing a))

exists_agrees : (R R' : ℕ → Reader Token PropPart) (used : ℕ) → Agrees (R used) (R' used) → Agrees (exists_of R used) (exists_of R' used)
unfolding exists_of
exists_agrees R R' used p = behind (sign_at 57) _ _ (λ w. behind (binders c.Logical) _ _ (λ bs. behind (sign_at 9) _ _ (λ _. Agrees-mapped (bound w bs) _ _ p)))

enclosed_agrees : (R R' : ℕ → Reader Token PropPart) (used : ℕ) → Agrees (R used) (R' used) → Agrees (enclosed_of R used) (enclosed_of R' used)
unfolding enclosed_of
enclosed_agrees R R' used p = behind (sign_at 0) _ _ (λ _. before _ _ (λ q. mapped (λ _. enclosed used q) (sign_at 1)) p)

no_star_agrees : (R : ℕ → Reader Token PropPart) (a : PropPart) → Agrees (no_star a) (star_behind 0 R a)
unfolding no_star star_behind
no_star_agrees R a = Agrees-either (token_in (sign 14)) deep _ _ _ (Agrees-stop (where_left (nat_lt a.used 1) (next (sign_at 14) (λ _. mapped (starred a) (R a.used))))) (Agrees-same (nothing a))

in_room : (used depth : ℕ) → nat_lt used (suc depth) ≡ true → used ≤ depth
in_room used depth h = grind (arith, nat_tests)

pub prop_agrees : (depth used : ℕ) → used ≤ depth → Agrees (prop depth used) (prop (suc depth) used)
unfolding prop
prop_agrees zero used h =
    Agrees-either (token_in (sign 57)) deep _ _ _ (Agrees-stop (where_left (nat_lt used 1) (exists_of (prop 0) used)))
    (Agrees-then _ _ _ _ (Agrees-either (token_in (sign 0)) deep _ _ _ (Agrees-stop (where_left (nat_lt used 1) (enclosed_of (prop 0) used))) (atom_agrees 0 used h)) (λ a. no_star_agrees (prop 0) a))
prop_agrees (suc depth) used h =
    Agrees-either (token_in (sign 57)) _ _ _ _
    (where_agrees (nat_lt used (suc depth)) (nat_lt used (suc (suc depth))) (exists_of (prop depth) used) (exists_of (prop (suc depth)) used) (more_room used (suc depth)) (λ e. exists_agrees (prop depth) (prop (suc depth)) used (prop_agrees depth used (in_room used depth e))))
    (Agrees-then _ _ _ _
    (Agrees-either (token_in (sign 0)) _ _ _ _ (where_agrees (nat_lt used (suc depth)) (nat_lt used (suc (suc depth))) (enclosed_of (prop depth) used) (enclosed_of (prop (suc depth)) used) (more_room used (suc depth)) (λ e. enclosed_agrees (prop depth) (prop (suc depth)) used (prop_agrees depth used (in_room used depth e))))
    (atom_agrees (suc depth) used h))
    (λ a. star_agrees depth (prop depth) (prop (suc depth)) a (λ e. prop_agrees depth a.used (in_room a.used depth e))))

pub whole_prop_agrees : (depth used : ℕ) → used ≤ depth → Agrees (whole_prop depth used) (whole_prop (suc depth) used)
unfolding whole_prop
whole_prop_agrees depth used h = Agrees-mapped (λ p. p.tree) _ _ (prop_agrees depth used h)
