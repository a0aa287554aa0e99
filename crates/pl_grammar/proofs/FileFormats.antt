-- The formats of declarations and files.
use Rattle.std.proofs.Common.{◌≡◌, ℕ, zero, suc, Bool, true, false, List, [], ◌∷◌, Some, None, refl, ap}
use Rattle.pl_base.specs.declared.pos.Pos.{Pos}
use Rattle.pl_syntax.specs.declared.expr.Class.TheVariants as c
use Rattle.pl_lexer.specs.declared.tokens.Kind.{Kind}
use Rattle.pl_lexer.specs.declared.tokens.Kind.TheVariants as k
use Rattle.pl_lexer.specs.declared.tokens.Token.{Token}
use Rattle.pl_syntax.specs.Tree as t
use Rattle.pl_syntax.specs.Tree.{Name}
use Rattle.pl_readers.specs.Language.{Language, One, Then, Mapped, Many, IsViable, HasText}
use Rattle.pl_readers.specs.Reader.{Reader, one, mapped, repeat}
use Rattle.pl_readers.specs.Reads.{never, Reads}
use Rattle.pl_readers.proofs.Correct.{Reads-one, Reads-mapped, Reads-then}
use Rattle.pl_readers.proofs.Firsts.{some_then, some_mapped}
use Rattle.pl_grammar.specs.Signs.{Set, kind_in, token_in, sign, name, both}
use Rattle.pl_grammar.specs.Grammar.{Sign}
use Rattle.pl_grammar.proofs.More.{Reads-none}
use Rattle.pl_grammar.proofs.Sets.{token, tokens, place_is}
use Rattle.pl_grammar.proofs.Tiers.{goes_expr}
use Rattle.pl_grammar.proofs.Operands.{sign_some}
use Rattle.pl_grammar.proofs.Formats.{Format, Maybe, no_more, format_sign, format_name, format_then, maybe_then, format_mapped, many, optional, format_before, format_first, format_either, maybe_widened}
use Rattle.pl_grammar.specs.PropGrammar.{Prop}
use Rattle.pl_grammar.specs.PropReaders.{prop_firsts}
use Rattle.pl_grammar.specs.FileGrammar.{StructRule, PredParameters, BodyOf, PredRule, class_of, Parameter, NextParameter, MoreParameters, Parameters, Opens, Requires, Ensures, Returns, Decreases, FunctionBehind, FunctionRule, Arm, DeclarationOf, end_kind, end_of, File}
use Rattle.pl_grammar.specs.FileReaders.{struct_rule, pred_parameters, body, pred_rule, parameter, next_parameter, more_parameters, parameters, opens, requires_clause, ensures_clause, returns_clause, decreases_clause, function_behind, function_rule, arm, declaration_firsts, declaration, file}
use Rattle.pl_grammar.proofs.PropFormats.{none_used, format_value, format_binder, format_binders, goes_prop, prop_some, format_prop, format_whole_prop}
use Rattle.pl_grammar.proofs.StatementFormats.{format_block}

pub format_struct_rule : Format StructRule StructRule no_more (sign 30) struct_rule
unfolding struct_rule
format_struct_rule = format_then (format_sign 30 refl) (λ _. (format_then format_name (λ x. (format_then (format_sign 2 refl) (λ _. (format_then (format_binders c.Real) (λ bs. (format_mapped (λ _. t.Struct (record { pos = x.0; name = x.1; fields = bs })) (format_sign 3 refl))) refl)) refl)) refl)) refl

pub format_pred_parameters : Format PredParameters PredParameters (both no_more no_more) (both (sign 1) name) pred_parameters
unfolding pred_parameters
format_pred_parameters = format_either (format_mapped (λ _. []) (format_sign 1 refl)) (format_then (format_binders c.Logical) (λ bs. (format_mapped (λ _. bs) (format_sign 1 refl))) refl) refl

pub format_body : {K K' : Language Token t.Prop} {P : Reader Token t.Prop} → (depth : ℕ) → Format K K' no_more (sign 2) P → Format (BodyOf depth K) (BodyOf (suc (suc depth)) K') (both no_more goes_prop) (both (sign 41) prop_firsts) (body depth P)
unfolding body
format_body depth q = format_either (format_then (format_sign 41 refl) (λ _. (format_then (format_sign 0 refl) (λ _. (format_then (format_value depth 0 (none_used depth)) (λ e. (format_then (format_sign 1 refl) (λ _. (format_then q (λ p. (format_then (format_sign 42 refl) (λ _. (format_mapped (λ r. t.Cond e p r) q)) refl)) refl)) refl)) refl)) refl)) refl) (format_mapped (λ p. t.Plain p) (format_whole_prop depth 0 (none_used depth))) refl

pub format_pred_rule : {K K' : Language Token t.Prop} {P : Reader Token t.Prop} → (depth : ℕ) → Format K K' no_more (sign 2) P → Format (PredRule depth K) (PredRule (suc (suc depth)) K') no_more (sign 31) (pred_rule depth P)
unfolding pred_rule
format_pred_rule depth q = format_then (format_sign 31 refl) (λ _. (format_then format_name (λ x. (format_then (format_sign 0 refl) (λ _. (format_then (format_pred_parameters) (λ ps. (format_then (format_sign 11 refl) (λ _. (format_then (format_body depth q) (λ b. (format_mapped (λ _. t.Pred (record { pos = x.0; name = x.1; params = ps; body = b })) (format_sign 7 refl))) refl)) refl)) refl)) refl)) refl)) refl

pub format_parameter : (is_ghost : Bool) → Format (Parameter is_ghost) (Parameter is_ghost) (both (both no_more no_more) (both (both no_more no_more) (both no_more no_more))) (both (sign 32) (both (sign 10) name)) (parameter is_ghost)
unfolding parameter
format_parameter is_ghost = format_either (format_then (format_sign 32 refl) (λ _. (format_binder c.Ghost)) refl) (format_either (format_then (format_sign 10 refl) (λ _. (format_binder c.Logical)) refl) (format_binder (class_of is_ghost)) refl) refl

pub format_next_parameter : (is_ghost : Bool) → Format (NextParameter is_ghost) (NextParameter is_ghost) (both (both no_more no_more) (both (both no_more no_more) (both no_more no_more))) (sign 6) (next_parameter is_ghost)
unfolding next_parameter
format_next_parameter is_ghost = format_then (format_sign 6 refl) (λ _. (format_parameter is_ghost)) refl

pub format_more_parameters : (is_ghost : Bool) → Maybe (MoreParameters is_ghost) (MoreParameters is_ghost) (both (sign 6) (both (both no_more no_more) (both (both no_more no_more) (both no_more no_more)))) (sign 6) (more_parameters is_ghost)
format_more_parameters is_ghost = many (format_next_parameter is_ghost) refl

pub format_parameters : (is_ghost : Bool) → Format (Parameters is_ghost) (Parameters is_ghost) (both no_more no_more) (both (sign 1) (both (sign 32) (both (sign 10) name))) (parameters is_ghost)
unfolding parameters
format_parameters is_ghost = format_either (format_mapped (λ _. []) (format_sign 1 refl)) (format_then (format_parameter is_ghost) (λ first. (maybe_then (format_more_parameters is_ghost) (λ more. (format_mapped (λ _. first ∷ more) (format_sign 1 refl))) refl)) refl) refl

pub format_opens : Maybe Opens Opens (both (sign 34) no_more) (sign 34) opens
unfolding opens
format_opens = optional false (format_mapped (λ _. true) (format_sign 34 refl))

pub format_requires_clause : (depth : ℕ) → (p : Pos) → Maybe (Requires depth p) (Requires (suc (suc depth)) p) (both (sign 35) goes_prop) (sign 35) (requires_clause depth p)
unfolding requires_clause
format_requires_clause depth p = optional (t.Emp p) (format_then (format_sign 35 refl) (λ _. (format_whole_prop depth 0 (none_used depth))) refl)

pub format_ensures_clause : (depth : ℕ) → (p : Pos) → Maybe (Ensures depth p) (Ensures (suc (suc depth)) p) (both (sign 37) goes_prop) (sign 37) (ensures_clause depth p)
unfolding ensures_clause
format_ensures_clause depth p = optional (t.Emp p) (format_then (format_sign 37 refl) (λ _. (format_whole_prop depth 0 (none_used depth))) refl)

pub format_returns_clause : Maybe Returns Returns (both (sign 36) (both no_more no_more)) (sign 36) returns_clause
unfolding returns_clause
format_returns_clause = optional None (format_then (format_sign 36 refl) (λ _. (format_mapped (λ b. Some b) (format_binder c.Real))) refl)

pub format_decreases_clause : (depth : ℕ) → Maybe (Decreases depth) (Decreases (suc (suc depth))) (both (sign 38) goes_expr) (sign 38) (decreases_clause depth)
unfolding decreases_clause
format_decreases_clause depth = optional None (format_then (format_sign 38 refl) (λ _. (format_mapped (λ e. Some e) (format_value depth 0 (none_used depth)))) refl)

pub format_function_behind : {K K' : Language Token t.Braced} {P : Reader Token t.Braced} → (depth : ℕ) → Format K K' no_more (sign 2) P → (is_ghost : Bool) → Format (FunctionBehind depth K is_ghost) (FunctionBehind (suc (suc depth)) K' is_ghost) no_more name (function_behind depth P is_ghost)
unfolding function_behind
format_function_behind depth q is_ghost = format_then format_name (λ x. (format_then (format_sign 0 refl) (λ _. (format_then (format_parameters is_ghost) (λ ps. (maybe_then (format_opens) (λ o. (maybe_then (format_requires_clause depth x.0) (λ before. (maybe_then (format_returns_clause) (λ r. (maybe_then (format_ensures_clause depth x.0) (λ after. (maybe_then (format_decreases_clause depth) (λ m. (format_mapped (λ b. t.Fun (record { pos = x.0; is_ghost = is_ghost; name = x.1; params = ps; opens = o; before = before; result = r; after = after; measure = m; body = b })) q)) refl)) refl)) refl)) refl)) refl)) refl)) refl)) refl

pub format_function_rule : {K K' : Language Token t.Braced} {P : Reader Token t.Braced} → (depth : ℕ) → Format K K' no_more (sign 2) P → Format (FunctionRule depth K) (FunctionRule (suc (suc depth)) K') (both no_more no_more) (both (sign 32) (sign 33)) (function_rule depth P)
unfolding function_rule
format_function_rule depth q = format_either (format_then (format_sign 32 refl) (λ _. (format_then (format_sign 33 refl) (λ _. (format_function_behind depth q true)) refl)) refl) (format_then (format_sign 33 refl) (λ _. (format_function_behind depth q false)) refl) refl

-- ---- arms

arm_some : (depth : ℕ) → HasText (Arm (suc depth))
arm_some depth = some_then (Sign 2) (λ _. Then (Prop depth 0) (λ p. Mapped (λ _. p.tree) (Sign 3))) (sign_some 2 refl)
    (λ _. some_then (Prop depth 0) (λ p. Mapped (λ _. p.tree) (Sign 3)) (prop_some depth 0) (λ p. some_mapped (λ _. p.tree) (Sign 3) (sign_some 3 refl)))

arm_opens : (depth : ℕ) (y : Token) → token_in (sign 2) y ≡ true → IsViable (Arm (suc depth)) (y ∷ [])
arm_opens depth y e =
    let w = some_then (Prop depth 0) (λ p. Mapped (λ _. p.tree) (Sign 3)) (prop_some depth 0) (λ p. some_mapped (λ _. p.tree) (Sign 3) (sign_some 3 refl)) in
    (w.1, w.0, (y.pos, y ∷ [], w.1, (y, refl, place_is 2 y e), w.2, refl))

pub format_arm : (depth : ℕ) → Format (Arm depth) (Arm (suc (suc depth))) no_more (sign 2) (arm depth)
unfolding arm
format_arm zero = record {
  reads = Reads-none (token_in (sign 2)) (Arm 2) (token_in no_more) (arm_some 1) (arm_opens 1);
  some = arm_some 1;
  starts = λ a text u. absurd u;
}
format_arm (suc depth) =
    format_then (format_sign 2 refl) (λ _. format_then (format_prop depth 0 (none_used depth)) (λ p. format_mapped (λ _. p.tree) (format_sign 3 refl)) refl) refl

-- ---- declarations

pub format_declaration : (depth : ℕ) → Format (DeclarationOf depth) (DeclarationOf (suc (suc depth))) no_more declaration_firsts (declaration depth)
unfolding declaration
format_declaration depth =
    format_first declaration_firsts refl
    (format_before no_more refl (format_either format_struct_rule (format_either (format_pred_rule depth (format_arm depth)) (format_function_rule depth (format_block depth)) refl) refl))

pub format_declarations : (depth : ℕ) → Maybe (Many (DeclarationOf depth)) (Many (DeclarationOf (suc (suc depth)))) declaration_firsts declaration_firsts (repeat (token_in declaration_firsts) (declaration depth))
format_declarations depth = maybe_widened refl refl (many (format_declaration depth) refl)

-- ---- files

end_kind_is : (kk : Kind) → end_kind kk ≡ Some tt → kk ≡ k.End
end_kind_is (k.Word x) e = absurd cc
end_kind_is (k.Number n) e = absurd cc
end_kind_is (k.Sign j) e = absurd cc
end_kind_is k.End e = refl

end_text : HasText (One end_of)
end_text = (tt, tokens k.End, (token k.End, refl, refl))

end_fails : (s : Set) (x : Token) → end_of x ≡ Some tt → token_in s x ≡ false
end_fails s x e = ap (kind_in s) (end_kind_is x.kind e)

abbrev Ended : List t.Decl → Language Token t.Program
Ended ds = Mapped (λ _. record { decls = ds }) (One end_of)

ended_some : (ds : List t.Decl) → HasText (Ended ds)
ended_some ds = some_mapped (λ _. record { decls = ds }) (One end_of) end_text

pub reads_file : (depth : ℕ) → Reads (File depth) (File (suc (suc depth))) never (file depth)
unfolding File file
reads_file depth =
    let ds = format_declarations depth in
    Reads-then (Many (DeclarationOf depth)) (Many (DeclarationOf (suc (suc depth)))) Ended Ended (token_in declaration_firsts) never
    (repeat (token_in declaration_firsts) (declaration depth)) (λ ds. mapped (λ _. record { decls = ds }) (one end_of)) ds.reads
    (λ ds. Reads-mapped (λ _. record { decls = ds }) (One end_of) (One end_of) never (one end_of) (Reads-one end_of never end_text)) ended_some
    (λ ds p back rest u e. let w = u.1 in rw w.1 (end_fails declaration_firsts w.0 w.2))
