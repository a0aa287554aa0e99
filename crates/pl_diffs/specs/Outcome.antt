-- The two outcomes.
use Rattle.std.specs.Prelude.{ℕ, ℤ, List, ⊤}
use Rattle.pl_diffs.specs.declared.Solved.{Solved}
use Rattle.pl_diffs.specs.declared.Solved.TheVariants.{Cycle, Potentials}

-- it is a cycle
abbrev pub IsCycle : Solved → Type 0
IsCycle (Cycle places) = ⊤
IsCycle (Potentials d) = ⊥

-- a fact about the cycle, where it is one
abbrev pub IfCycle : Solved → (List ℕ → Type 0) → Type 0
IfCycle (Cycle places) P = P places
IfCycle (Potentials d) P = ⊤

-- a fact about the numbers, where it is these
abbrev pub IfPotentials : Solved → (List ℤ → Type 0) → Type 0
IfPotentials (Cycle places) P = ⊤
IfPotentials (Potentials d) P = P d
