use Rattle.c_forms.proofs.names.+more.Given as goal

abbrev pub decreases-more : goal.decreases-more
decreases-more l = l.count
