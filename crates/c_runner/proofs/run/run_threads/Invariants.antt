use Rattle.c_syntax.specs.Plain.{plain_program}
use Rattle.c_runner.proofs.run.run_threads.Given as goal

abbrev pub ghosts-run_named-J-Ledger : goal.ghosts-run_named-J-Ledger
ghosts-run_named-J-Ledger g a = record { name = a.blank.name; parts = a.blank.parts }

abbrev pub ghosts-run_named-J-Naming : goal.ghosts-run_named-J-Naming
ghosts-run_named-J-Naming g a = record { program = plain_program a.program.now; input = a.input.now; bound = a.bound }
