use Rattle.tr_core.proofs.stepping.go_from.Goals as goal

pub hear_serving-requires : goal.hear_serving-requires
hear_serving-requires c = rw c.in-Serving.is at c.requires.holds

pub unreachable-requires : goal.unreachable-requires
unreachable-requires c = let other = rw c.in-Waiting.is at c.requires.other in let never : ⊥ = cc other in never
