use Rattle.lx_sound.proofs.Continues.{continue_wakes, continues_stay}
use Rattle.lx_sound.proofs.laws.no_continue_is_lost.Goals as goal

pub returns-clause-wakes : goal.returns-clause-wakes
returns-clause-wakes c = continue_wakes

pub returns-clause-stays : goal.returns-clause-stays
returns-clause-stays c = continues_stay
