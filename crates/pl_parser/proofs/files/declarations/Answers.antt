use Rattle.std.proofs.Common.{◌∷◌, [], map, sym, ◌∙◌, arith}
use Rattle.std.proofs.lemmas.Result.{err_from_is_err_and}
use Rattle.std.proofs.lemmas.List.{map-append}
use Rattle.pl_readers.proofs.Turns.{turn-begins}
use Rattle.pl_readers.proofs.Failing.{Fails-if}
use Rattle.pl_syntax.specs.Plain.{plain_decl}
use Rattle.pl_readers.specs.Reader.{many}
use Rattle.pl_grammar.specs.Signs.{token_in}
use Rattle.pl_grammar.specs.FileReaders as read
use Rattle.pl_parser.proofs.Declared.{declared-room, declared-goes, declared-stops, declared-ends}
use Rattle.pl_parser.proofs.files.declarations.Goals as goal

pub turns-init : goal.turns-init
turns-init c = rw c.new-all.ensures.items (turn-begins (many c.args.limit (token_in read.declaration_firsts) (read.declaration c.args.depth)) c.args.tokens.now)

pub overflow_sub-room : goal.overflow_sub-room
overflow_sub-room c = omega (arith, declared-room c.turns.room _ (sym c.goes_on.ensures ∙ c.turns-test.true))

pub turns-preserved : goal.turns-preserved
turns-preserved c =
    rw (c.in_ok-push.ensures.items, map-append plain_decl c.turns.all.items (c.in_ok-item.item ∷ []))
    (declared-goes c.args.depth c.turns.room (map plain_decl c.turns.all.items) (plain_decl c.in_ok-item.item) c.turns.rest.now c.in_ok-item.after.now (sym c.goes_on.ensures ∙ c.turns-test.true) c.in_ok-item.ensures.value ∙ c.turns.invariant)

pub returns-in_err-item : goal.returns-in_err-item
returns-in_err-item c =
    let p = err_from_is_err_and c.from_residual.result c.from_residual.ensures.1 in
    rw (p.1, p.2) (Fails-if _ _ _ c.in_err-item.ensures.value
    (λ s e. sym c.turns.invariant ∙ declared-stops c.args.depth c.turns.room (map plain_decl c.turns.all.items) c.turns.rest.now s (sym c.goes_on.ensures ∙ c.turns-test.true) e))

pub returns : goal.returns
returns c =
    rw c.of.ensures (sym c.turns.invariant ∙ declared-ends c.args.depth c.turns.room (map plain_decl c.turns.all.items) c.turns.rest.now (sym c.goes_on.ensures ∙ c.turns-test.false))
