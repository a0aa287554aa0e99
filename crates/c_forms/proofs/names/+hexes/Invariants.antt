use Rattle.c_forms.proofs.names.+hexes.Given as goal

abbrev pub decreases-hexes : goal.decreases-hexes
decreases-hexes l = l.left
