use Rattle.c_forms.proofs.blocks.+indent.Given as goal

abbrev pub decreases-indent : goal.decreases-indent
decreases-indent l = l.level
