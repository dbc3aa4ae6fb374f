use Rattle.lx_kernel.proofs.Recording.{turns_log_words, boots_log_words, kernels_log_words}
use Rattle.lx_kernel.proofs.laws.words_are_logged.Goals as goal

pub returns-clause-turn : goal.returns-clause-turn
returns-clause-turn c = turns_log_words

pub returns-clause-boots : goal.returns-clause-boots
returns-clause-boots c = boots_log_words

pub returns-clause-kernels : goal.returns-clause-kernels
returns-clause-kernels c = kernels_log_words c.kernels_run_alike.ensures.begin c.kernels_run_alike.ensures.run
