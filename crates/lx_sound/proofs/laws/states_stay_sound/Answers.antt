use Rattle.lx_abi.specs.Scripts.{choice_of}
use Rattle.lx_sound.proofs.Turns.{turns_stay_sound, kernels_are_sound, as_code_has_it}
use Rattle.lx_sound.proofs.laws.states_stay_sound.Goals as goal

pub returns-clause-turn : goal.returns-clause-turn
returns-clause-turn c = turns_stay_sound

pub returns-clause-kernels : goal.returns-clause-kernels
returns-clause-kernels c = kernels_are_sound

pub returns-clause-boots : goal.returns-clause-boots
returns-clause-boots c = λ boot script pids none. as_code_has_it _ _ (c.boots_are_first_runs.ensures.runs boot script pids) (kernels_are_sound (choice_of script) boot.follow boot pids none)
