-- What the hosts in memory tell.
use Rattle.std.specs.Prelude.{ℕ, List}
use Rattle.pl_base.specs.declared.memory_host.MemoryHost.{MemoryHost}
use Rattle.pl_base.specs.declared.memory_host.SteadyHost.{SteadyHost}
use Rattle.pl_base.specs.Outside.{Files}
use Rattle.pl_base.specs.Kept.{told, left_of}

-- the files
abbrev pub files_of : MemoryHost → Files
files_of h = told h.store.files.items

-- the input that is left
abbrev pub input_of : MemoryHost → List ℕ
input_of h = left_of h.store

-- what was written
abbrev pub out_of : MemoryHost → List ℕ
out_of h = h.store.out.items

-- the same three of a steady host
abbrev pub steady_files : SteadyHost → Files
steady_files h = told h.store.files.items

abbrev pub steady_input : SteadyHost → List ℕ
steady_input h = left_of h.store

abbrev pub steady_out : SteadyHost → List ℕ
steady_out h = h.store.out.items
