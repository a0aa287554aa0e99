use Rattle.std.proofs.Common.{◌≡◌, ◌++◌, ◌∷◌, [], None, map, length, refl, arith}
use Rattle.std.proofs.lemmas.Grind.{common_steps}
use Rattle.pl_normal.specs.declared.scope.Binding.{Binding}
use Rattle.pl_forms.specs.Forms.{atom_form}
use Rattle.pl_normal.specs.Scope.{Atom, Variable, plain_atom}
use Rattle.pl_normal.specs.Normal.{made_by}
use Rattle.pl_normal.proofs.BoundLaws.{variable_bound}
use Rattle.pl_normal.proofs.scope.Scope.bind.Goals as goal

pub returns-clause-order : goal.returns-clause-order
returns-clause-order c = λ facts o.
    let atom : Atom = record { origin = Variable c.args.binder.now.name c.args.binder.now.sort; operands = None } in
    let named : Binding = record { name = c.args.binder.now.name; form = atom_form (length (map plain_atom c.args.self.now.atoms.items)) } in
    let bound : c.push-2.new.self ≡ c.args.self.now.bound ++ named ∷ [] = grind (arith, common_steps) in
    let atoms : map plain_atom c.push.new.self.items ≡ map plain_atom c.args.self.now.atoms.items ++ atom ∷ [] = grind (arith, common_steps) in
    rw (bound, atoms) (variable_bound c.args.self.now.bound (made_by c.args.self.now facts) atom named refl refl o)
