-- By the words of any turns a run makes these turns.
use Rattle.std.proofs.Common.{◌≡◌, ℕ, true, List, [], ◌∷◌, refl}
use Rattle.lx_kernel.specs.First.{first_run}
use Rattle.lx_kernel.specs.Laws.{after_all}
use Rattle.pt_schedule.specs.Eager.{are_eager, turn_words, TurnsGiveThemselves}
use Rattle.pt_schedule.specs.Schedules.{worded}
use Rattle.trace_run.specs.BootedRuns.{following}
use Rattle.eager_runs.specs.Runs.{EagerRun, EagerRuns}
use Rattle.eager_runs.specs.Replays.{ReplaysGoOn}
use Rattle.eager_runs.proofs.Whole.{one_begins}

words_eager : (turns : List ℕ) → are_eager (turn_words turns) ≡ true
words_eager [] = refl
words_eager (p ∷ ps) = words_eager ps

pub replays : EagerRuns → TurnsGiveThemselves → ReplaysGoOn
unfolding ReplaysGoOn EagerRuns TurnsGiveThemselves
replays runs themselves boot script options turns limit n run of few l most =
    let it : EagerRun boot script (following options boot.follow) (turn_words turns) n run = runs boot script options (turn_words turns) (words_eager turns) limit n run of l most in
    let own = themselves (first_run boot script) turns n few most in
    one_begins turns run.turns (first_run boot script) (worded (turn_words turns) n) (after_all (first_run boot script) turns) (after_all (first_run boot script) run.turns) own.0 it.left own.1 it.given
