use Rattle.std.proofs.Common.{sym, subst}
use Rattle.pl_base.specs.Permission.{whole}
use Rattle.pl_syntax.specs.Tree as t
use Rattle.pl_terms.specs.declared.term.Term.TheVariants.{Variable}
use Rattle.pl_walk.specs.Shown.{known_of}
use Rattle.pl_walk.specs.Walk.{WalksOver}
use Rattle.pl_walk.proofs.walk.walk_load.Goals as goal

pub returns-in_ok-bind-in-Some : goal.returns-in_ok-bind-in-Some
returns-in_ok-bind-in-Some c = λ is_ghost.
    let found = c.in-Some.ensures in
    let P : t.CellExpr → Type 0 = λ cell. WalksOver (known_of c.args.known.now) (t.Load c.args.pos c.args.name.now cell is_ghost) (known_of c.bind.new.self) in
    subst P (sym c.base_of-base.ensures) record {
      rule = record {
        base = Variable c.pointer-variable.result;
        base_is = c.pointer-variable.ensures;
        front = found.front;
        permission = whole;
        value = c.in-Some.value;
        back = found.back;
        at = found.at;
        is = c.in_ok-bind-in-Some.ensures.ok;
      };
      first = found.first;
    }
