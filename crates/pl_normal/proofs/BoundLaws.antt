-- Names that are bound, and order.
use Rattle.std.proofs.Common.{◌≡◌, ℕ, ◌<◌, ◌+◌, None, List, [], ◌∷◌, ◌++◌, length, take, arith}
use Rattle.std.proofs.lemmas.List.Elements.{All-append, All-cons, All-nil, All-take}
use Rattle.pl_forms.specs.Forms.{IsForm, atom_form}
use Rattle.pl_forms.specs.Facts.{IsFact}
use Rattle.pl_forms.specs.Places.{Within}
use Rattle.pl_normal.specs.declared.scope.Binding.{Binding}
use Rattle.pl_normal.specs.Scope.{Atom}
use Rattle.pl_normal.specs.Normal.{Made}
use Rattle.pl_normal.specs.Meaning.{FactWithin, InOrder}
use Rattle.pl_normal.proofs.Growing.{with_atom, one_more, order_last, facts_more}
use Rattle.pl_normal.proofs.NewAtoms.{atom_is, atom_within}

pub nothing_bound : InOrder [] (record { atoms = []; facts = [] })
nothing_bound = record {
  names_are = All-nil (λ b. IsForm b.form);
  names_within = All-nil (λ b. Within 1 b.form);
  operands = tt;
  facts_are = All-nil IsFact;
  facts_within = All-nil (FactWithin 1);
  few = omega arith;
}

pub name_bound : (names : List Binding) (m : Made) (b : Binding) → InOrder names m → IsForm b.form → Within (length m.atoms + 1) b.form → InOrder (names ++ b ∷ []) m
name_bound names m b o is within = record {
  names_are = All-append (λ b. IsForm b.form) names (b ∷ []) o.names_are (All-cons (λ b. IsForm b.form) b [] is (All-nil (λ b. IsForm b.form)));
  names_within = All-append (λ b. Within (length m.atoms + 1) b.form) names (b ∷ []) o.names_within (All-cons (λ b. Within (length m.atoms + 1) b.form) b [] within (All-nil (λ b. Within (length m.atoms + 1) b.form)));
  operands = o.operands;
  facts_are = o.facts_are;
  facts_within = o.facts_within;
  few = o.few;
}

pub variable_bound : (names : List Binding) (m : Made) (a : Atom) (b : Binding) → a.operands ≡ None → b.form ≡ atom_form (length m.atoms) → InOrder names m → InOrder (names ++ b ∷ []) (with_atom m a m.facts)
variable_bound names m a b bare form o =
    let more = order_last names m a m.facts o (rw bare tt) o.facts_are (facts_more (length m.atoms + 1) (length m.atoms + 1 + 1) m.facts (omega arith) o.facts_within) o.few in
    let wide : length m.atoms + 1 < length (m.atoms ++ a ∷ []) + 1 = let e = one_more m a m.facts in omega arith in
    name_bound names (with_atom m a m.facts) b more (rw form (atom_is (length m.atoms))) (rw form (atom_within (length m.atoms) (length (m.atoms ++ a ∷ []) + 1) wide))

pub names_left : (n : ℕ) (names : List Binding) (m : Made) → InOrder names m → InOrder (take n names) m
names_left n names m o = record {
  names_are = All-take (λ b. IsForm b.form) n names o.names_are;
  names_within = All-take (λ b. Within (length m.atoms + 1) b.form) n names o.names_within;
  operands = o.operands;
  facts_are = o.facts_are;
  facts_within = o.facts_within;
  few = o.few;
}
