-- How a run ended, by the tracer that ran it.
use Rattle.std.specs.Prelude.{Option, Some, None}
use Rattle.lx_abi.specs.declared.outcome.Outcome.{Outcome}
use Rattle.pt_model.specs.Tracer as tracer
use Rattle.tr_core.specs.States.{State}
use Rattle.tr_core.specs.declared.place.Focus.{Focus}
use Rattle.tr_core.specs.declared.place.Focus.TheVariants as focus

abbrev pub outcome_at : tracer.Focus → Option Outcome
outcome_at tracer.Booting = None
outcome_at tracer.Waiting = None
outcome_at (tracer.Serving p place) = None
outcome_at tracer.Asking_outcome = None
outcome_at (tracer.Over x) = Some x
outcome_at tracer.Turns_over = None
outcome_at tracer.Faulted = None

-- the outcome of a whole run
unfoldable pub outcome_of : State → Option Outcome
outcome_of s = outcome_at s.tracer.focus

abbrev pub outcome_in : Focus → Option Outcome
outcome_in focus.Booting = None
outcome_in focus.Waiting = None
outcome_in (focus.Serving p place) = None
outcome_in focus.AskingOutcome = None
outcome_in (focus.Over x) = Some x
outcome_in focus.TurnsOver = None
outcome_in focus.Faulted = None
