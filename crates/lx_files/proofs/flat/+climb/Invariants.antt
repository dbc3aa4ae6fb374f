use Rattle.lx_files.proofs.flat.+climb.Given as goal

abbrev pub decreases-climb : goal.decreases-climb
decreases-climb l = l.depth
