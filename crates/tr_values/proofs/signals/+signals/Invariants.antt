use Rattle.tr_values.proofs.signals.+signals.Given as goal

abbrev pub decreases-signals : goal.decreases-signals
decreases-signals l = l.count
