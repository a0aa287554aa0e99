-- What is told of disequalities that are known.
use Rattle.std.specs.Prelude.{◌≡◌, Bool, Option, Result, Ok, Err}
use Rattle.pl_forms.specs.declared.form.TermError.{TermError}
use Rattle.pl_forms.specs.declared.form.TermError.TheVariants.{TooLarge, Memory}
use Rattle.pl_linear.specs.declared.differing.Match.{Match}

-- exactly this, or want of memory
abbrev pub Signs : Result (Option Bool) TermError → Result (Option Bool) TermError → Type 0
Signs (Ok s) wanted = wanted ≡ Ok s
Signs (Err (TooLarge n)) wanted = wanted ≡ Err (TooLarge n)
Signs (Err Memory) wanted = Unit {0}

abbrev pub Matches : Result (Option Match) TermError → Result (Option Match) TermError → Type 0
Matches (Ok m) wanted = wanted ≡ Ok m
Matches (Err (TooLarge n)) wanted = wanted ≡ Err (TooLarge n)
Matches (Err Memory) wanted = Unit {0}
