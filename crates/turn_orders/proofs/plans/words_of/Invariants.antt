use Rattle.std.proofs.Common.{◌≡◌, ◌++◌, length}
use Rattle.turn_orders.specs.Plans.{words_of}
use Rattle.turn_orders.proofs.plans.words_of.Given as goal

abbrev pub invariant-loop-pid : goal.invariant-loop-pid
invariant-loop-pid l = l.words ++ words_of l.left ≡ words_of l.pids

abbrev pub decreases-loop-pid : goal.decreases-loop-pid
decreases-loop-pid l = length l.left
