-- One level more answers alike, for declarations and files.
use Rattle.std.proofs.Common.{ℕ, zero, suc, Bool, true, false, Some, None}
use Rattle.pl_base.specs.declared.pos.Pos.{Pos}
use Rattle.pl_lexer.specs.declared.tokens.Token.{Token}
use Rattle.pl_syntax.specs.Tree as t
use Rattle.pl_syntax.specs.Tree.{Name}
use Rattle.pl_readers.specs.Reader.{Reader, one, next, nothing, mapped}
use Rattle.pl_grammar.specs.Signs.{token_in, sign, name_of}
use Rattle.pl_grammar.specs.Readers.{sign_at}
use Rattle.pl_grammar.proofs.Formats.{no_more}
use Rattle.pl_readers.specs.Reads.{Agrees}
use Rattle.pl_readers.proofs.Levels.{Agrees-same, Agrees-then, Agrees-mapped, Agrees-either, Agrees-repeat}
use Rattle.pl_grammar.proofs.Agreeing.{behind, before}
use Rattle.pl_grammar.specs.PropReaders.{prop}
use Rattle.pl_grammar.proofs.PropFormats.{none_used}
use Rattle.pl_grammar.proofs.PropAgreeing.{value_agrees, prop_agrees, whole_prop_agrees}
use Rattle.pl_grammar.specs.FileGrammar.{end_of}
use Rattle.pl_grammar.specs.FileReaders.{struct_rule, pred_parameters, body, pred_rule, parameters, opens, requires_clause, ensures_clause, returns_clause, decreases_clause, function_behind, function_rule, arm, declaration_firsts, declaration, file}
use Rattle.pl_grammar.proofs.FileFormats.{format_declaration}
use Rattle.pl_grammar.proofs.StatementAgreeing.{brace_agrees, block_agrees}

pub body_agrees : {P P' : Reader Token t.Prop} → (depth : ℕ) → Agrees P P' → Agrees (body depth P) (body (suc depth) P')
unfolding body
body_agrees depth qp = Agrees-either (token_in (sign 41)) _ _ _ _ (behind (sign_at 41) _ _ (λ _. (behind (sign_at 0) _ _ (λ _. (Agrees-then _ _ _ _ (value_agrees depth 0 (none_used depth)) (λ e. (behind (sign_at 1) _ _ (λ _. (Agrees-then _ _ _ _ qp (λ p. (behind (sign_at 42) _ _ (λ _. (Agrees-mapped (λ r. t.Cond e p r) _ _ qp))))))))))))) (Agrees-mapped (λ p. t.Plain p) _ _ (whole_prop_agrees depth 0 (none_used depth)))

pub pred_rule_agrees : {P P' : Reader Token t.Prop} → (depth : ℕ) → Agrees P P' → Agrees (pred_rule depth P) (pred_rule (suc depth) P')
unfolding pred_rule
pred_rule_agrees depth qp = behind (sign_at 31) _ _ (λ _. (behind (one name_of) _ _ (λ x. (behind (sign_at 0) _ _ (λ _. (behind (pred_parameters) _ _ (λ ps. (behind (sign_at 11) _ _ (λ _. (before _ _ (λ b. (mapped (λ _. t.Pred (record { pos = x.0; name = x.1; params = ps; body = b })) (sign_at 7))) (body_agrees depth qp)))))))))))

pub requires_clause_agrees : (depth : ℕ) → (p : Pos) → Agrees (requires_clause depth p) (requires_clause (suc depth) p)
unfolding requires_clause
requires_clause_agrees depth p = Agrees-either (token_in (sign 35)) _ _ _ _ (behind (sign_at 35) _ _ (λ _. (whole_prop_agrees depth 0 (none_used depth)))) (Agrees-same (nothing (t.Emp p)))

pub ensures_clause_agrees : (depth : ℕ) → (p : Pos) → Agrees (ensures_clause depth p) (ensures_clause (suc depth) p)
unfolding ensures_clause
ensures_clause_agrees depth p = Agrees-either (token_in (sign 37)) _ _ _ _ (behind (sign_at 37) _ _ (λ _. (whole_prop_agrees depth 0 (none_used depth)))) (Agrees-same (nothing (t.Emp p)))

pub decreases_clause_agrees : (depth : ℕ) → Agrees (decreases_clause depth) (decreases_clause (suc depth))
unfolding decreases_clause
decreases_clause_agrees depth = Agrees-either (token_in (sign 38)) _ _ _ _ (behind (sign_at 38) _ _ (λ _. (Agrees-mapped (λ e. Some e) _ _ (value_agrees depth 0 (none_used depth))))) (Agrees-same (nothing None))

pub function_behind_agrees : {P P' : Reader Token t.Braced} → (depth : ℕ) → Agrees P P' → (is_ghost : Bool) → Agrees (function_behind depth P is_ghost) (function_behind (suc depth) P' is_ghost)
unfolding function_behind
function_behind_agrees depth qp is_ghost = behind (one name_of) _ _ (λ x. (behind (sign_at 0) _ _ (λ _. (behind (parameters is_ghost) _ _ (λ ps. (behind (opens) _ _ (λ o. (Agrees-then _ _ _ _ (requires_clause_agrees depth x.0) (λ before. (behind (returns_clause) _ _ (λ r. (Agrees-then _ _ _ _ (ensures_clause_agrees depth x.0) (λ after. (Agrees-then _ _ _ _ (decreases_clause_agrees depth) (λ m. (Agrees-mapped (λ b. t.Fun (record { pos = x.0; is_ghost = is_ghost; name = x.1; params = ps; opens = o; before = before; result = r; after = after; measure = m; body = b })) _ _ qp))))))))))))))))

pub function_rule_agrees : {P P' : Reader Token t.Braced} → (depth : ℕ) → Agrees P P' → Agrees (function_rule depth P) (function_rule (suc depth) P')
unfolding function_rule
function_rule_agrees depth qp = Agrees-either (token_in (sign 32)) _ _ _ _ (behind (sign_at 32) _ _ (λ _. (behind (sign_at 33) _ _ (λ _. (function_behind_agrees depth qp true))))) (behind (sign_at 33) _ _ (λ _. (function_behind_agrees depth qp false)))

pub arm_agrees : (depth : ℕ) → Agrees (arm depth) (arm (suc depth))
unfolding arm
arm_agrees zero = brace_agrees (λ _. next (prop 0 0) (λ p. mapped (λ _. p.tree) (sign_at 3)))
arm_agrees (suc depth) = behind (sign_at 2) _ _ (λ _. before _ _ (λ p. mapped (λ _. p.tree) (sign_at 3)) (prop_agrees depth 0 (none_used depth)))

declaration_agrees : (depth : ℕ) → Agrees (declaration depth) (declaration (suc depth))
unfolding declaration
declaration_agrees depth = Agrees-either (token_in (sign 30)) _ _ _ _ (Agrees-same struct_rule) (Agrees-either (token_in (sign 31)) _ _ _ _ (pred_rule_agrees depth (arm_agrees depth)) (function_rule_agrees depth (block_agrees depth)))

pub file_agrees : (depth : ℕ) → Agrees (file depth) (file (suc depth))
unfolding file
file_agrees depth =
    let f = format_declaration depth in
    let f1 = format_declaration (suc depth) in
    before _ _ (λ ds. mapped (λ _. record { decls = ds }) (one end_of)) (Agrees-repeat (token_in declaration_firsts) _ _ _ _ (token_in no_more) _ _ f.reads f1.reads f.starts f1.starts (declaration_agrees depth))
