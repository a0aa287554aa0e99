-- From what the code reads to plain data.
use Rattle.pl_syntax.specs.Plain.{plain_expr, plain_prop}
use Rattle.pl_grammar.specs.declared.part.Part as code
use Rattle.pl_grammar.specs.declared.part.PropPart as proposition
use Rattle.pl_grammar.specs.Grammar.{Part}
use Rattle.pl_grammar.specs.PropGrammar.{PropPart}

abbrev pub plain_part : code.Part → Part
plain_part x = record { first = x.first; tree = plain_expr x.tree; used = x.used }

abbrev pub plain_prop_part : proposition.PropPart → PropPart
plain_prop_part x = record { tree = plain_prop x.tree; used = x.used }
