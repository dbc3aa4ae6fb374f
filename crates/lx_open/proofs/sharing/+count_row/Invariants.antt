use Rattle.lx_open.proofs.sharing.«+count_row».Given as goal

abbrev pub decreases-count_row : goal.decreases-count_row
decreases-count_row l = l.end
