use Rattle.std.proofs.Common.{◌∙◌, sym, arith}
use Rattle.pl_grammar.specs.Parts.{plain_prop_part}
use Rattle.pl_grammar.proofs.Propositions.{prop_exists, prop_parts, exists_deep, exists_left, first_atom, first_deep, first_enclosed, more_none, more_deep, more_star}
use Rattle.pl_grammar.proofs.props.+prop.Goals as goal

pub prop-returns-then-begins-clause-value : goal.prop-returns-then-begins-clause-value
prop-returns-then-begins-clause-value t c = rw (prop_exists c.args.depth c.args.used c.args.tokens.now (sym c.begins.ensures ∙ c.if-begins.true)) c.exists_part.ensures.value

pub prop-returns-else-begins-clause-value : goal.prop-returns-else-begins-clause-value
prop-returns-else-begins-clause-value t c = rw (prop_parts c.args.depth c.args.used c.args.tokens.now (sym c.begins.ensures ∙ c.if-begins.false)) c.parts.ensures.value

pub exists_part-returns-then-used-depth-clause-value : goal.exists_part-returns-then-used-depth-clause-value
exists_part-returns-then-used-depth-clause-value t c = rw c.too_deep.ensures (exists_deep c.args.depth c.args.used c.args.tokens.now c.if-used-depth.true)

pub exists_part-returns-clause-value : goal.exists_part-returns-clause-value
exists_part-returns-clause-value t c = rw (exists_left c.args.depth c.args.used c.args.tokens.now (omega arith)) c.exists_of.ensures.value

pub first_part-returns-then-not-begins-clause-value : goal.first_part-returns-then-not-begins-clause-value
first_part-returns-then-not-begins-clause-value t c = rw (first_atom c.args.depth c.args.used c.args.tokens.now (sym c.begins.ensures ∙ c.if-not-begins.true)) c.atom.ensures.value

pub first_part-returns-then-used-depth-clause-value : goal.first_part-returns-then-used-depth-clause-value
first_part-returns-then-used-depth-clause-value t c = rw c.too_deep.ensures (first_deep c.args.depth c.args.used c.args.tokens.now (sym c.begins.ensures ∙ c.if-not-begins.false) c.if-used-depth.true)

pub first_part-returns-clause-value : goal.first_part-returns-clause-value
first_part-returns-clause-value t c = rw (first_enclosed c.args.depth c.args.used c.args.tokens.now (sym c.begins.ensures ∙ c.if-not-begins.false) (omega arith)) c.enclosed_of.ensures.value

pub more_parts-returns-then-not-begins-clause-value : goal.more_parts-returns-then-not-begins-clause-value
more_parts-returns-then-not-begins-clause-value t c = more_none c.args.depth (plain_prop_part c.args.first) c.args.tokens.now (sym c.begins.ensures ∙ c.if-not-begins.true)

pub more_parts-returns-then-first-depth-clause-value : goal.more_parts-returns-then-first-depth-clause-value
more_parts-returns-then-first-depth-clause-value t c = rw c.too_deep.ensures (more_deep c.args.depth (plain_prop_part c.args.first) c.args.tokens.now (sym c.begins.ensures ∙ c.if-not-begins.false) c.if-first-depth.true)

pub more_parts-returns-clause-value : goal.more_parts-returns-clause-value
more_parts-returns-clause-value t c = rw (more_star c.args.depth (plain_prop_part c.args.first) c.args.tokens.now (sym c.begins.ensures ∙ c.if-not-begins.false) (omega arith)) c.star_of.ensures.value
