use Rattle.c_forms.proofs.names.+more_line.Given as goal

abbrev pub decreases-more_line : goal.decreases-more_line
decreases-more_line l = l.count
