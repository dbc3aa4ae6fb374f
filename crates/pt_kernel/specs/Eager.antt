-- A tracer's run by words `p` and `p.`, and by the default schedule, whose requests are served at once: its turns are
-- those that the same words give to the untraced kernel, and nothing of that kernel's log is left out.
use Rattle.std.specs.Prelude.{◌≡◌, ℕ, ◌≤◌, ◌<◌, true, false, List, [], ◌∷◌, length, Some, None}
use Rattle.lx_abi.specs.declared.schedule.Event.{Event}
use Rattle.lx_abi.specs.declared.schedule.Word.{Word}
use Rattle.lx_abi.specs.Scripts.{choice_of}
use Rattle.lx_model.specs.Finite.{first_running}
use Rattle.lx_model.specs.Kernel.{Script, Kernel, traces}
use Rattle.lx_proc.specs.declared.state.Shared.{Shared}
use Rattle.lx_proc.specs.declared.state.UserState.{UserState}
use Rattle.lx_turn.specs.Linux.{linux}
use Rattle.lx_kernel.specs.Outcomes.{outcome_in}
use Rattle.lx_kernel.specs.Runs.{Run}
use Rattle.lx_kernel.specs.Laws.{after_all}
use Rattle.pt_model.specs.Calls.{attends}
use Rattle.pt_model.specs.Headline.{IsTexts, IsPast, TellsView, NothingKeptBack, plain_run}
use Rattle.pt_model.specs.View.{traced, parts}
use Rattle.pt_model.specs.Laws.{is_alive}
use Rattle.pt_model.specs.Parts.{Options}
use Rattle.pt_model.specs.Ptrace.{is_there}
use Rattle.pt_model.specs.Tracer.{Waiting, request}
use Rattle.pt_model.specs.World.{World, happens, world_run, effective, first_world}
use Rattle.pt_schedule.specs.declared.schedule.Schedule.{Schedule}
use Rattle.pt_schedule.specs.Eager.{are_eager, GivesTurns}
use Rattle.pt_schedule.specs.Schedules.{most_events, worded, events_left, next_turn_of}
use Rattle.pt_schedule.specs.Untraced.{readiness_of}
use Rattle.pt_kernel.specs.Seen.{next_of_host}

-- a schedule gives a world these events, one after the other, each while something is asked; what is left of it
abbrev pub GivesEvents : Options → Script → Schedule → World Shared UserState → List Event → Schedule → Type 0
GivesEvents o script x w [] y = y ≡ x
GivesEvents o script x w (e ∷ es) y =
    (z : Schedule) × ((is_there (request o w.tracer.focus) ≡ true)
    × (next_of_host x (attends o w) ≡ Some (e, z))
    × GivesEvents o script z (happens linux outcome_in o script w e) es y)

-- a world's schedule has ended, though something is asked and more events were allowed
pub record HasEnded (o : Options) (w : World Shared UserState) (y : Schedule) : Type 0 where
  pub asks : is_there (request o w.tracer.focus) ≡ true
  pub more : 0 < events_left y
  pub none : next_of_host y (attends o w) ≡ None

-- what is shown begins the parts of the tracees' items, and no item is left out, under SIGKILL neither
pub record ShowsLog (o : Options) (w : World Shared UserState) (k : Kernel Shared UserState) : Type 0 where
  pub tells : TellsView w.printed (parts o (traced o.follow k.log)) (IsPast w.tracer.focus)
  pub kept_back : w.tracer.focus ≡ Waiting → NothingKeptBack o w.host.queue w.printed (traced o.follow k.log)
  -- once Wait was answered ECHILD no tracee lives
  pub ended : IsPast w.tracer.focus → (q : ℕ) → traces o.follow q ≡ true → is_alive (k.tasks q) ≡ false

-- The world's turns are the first that these words give to the untraced kernel, if they may be so many; where the
-- events ended before their limit, since nobody was able, these are all.
pub record EagerTurns (o : Options) (k : Run) (ws : List Word) (n : ℕ) (w : World Shared UserState) (turns : List ℕ)
    (y : Schedule) (kernel : Kernel Shared UserState) : Type 0 where
  pub left : Schedule
  pub given : GivesTurns k (worded ws n) turns (after_all k turns) left
  pub ended : HasEnded o w y → (next_turn_of left (readiness_of (after_all k turns))).pid ≡ None
  pub shows : ShowsLog o w kernel

-- The law, for every kernel that begins as the world does, and whatever events such words give to the world.
unfoldable pub EagerTurnsArePlain : Type 0
EagerTurnsArePlain = (o : Options) → IsTexts o.texts → (k : Run) (s : Shared) (b : UserState)
    → k.running ≡ first_running s b → k.follow ≡ o.follow
    → (ws : List Word) → are_eager ws ≡ true → (limit n : ℕ) (events : List Event) (y : Schedule)
    → GivesEvents o (choice_of k.script) (worded ws limit) (first_world s b) events y
    → length (effective linux outcome_in o (choice_of k.script) (first_world s b) events) ≤ n → n ≤ most_events
    → EagerTurns o k ws n (world_run linux outcome_in o (choice_of k.script) (first_world s b) events)
    (effective linux outcome_in o (choice_of k.script) (first_world s b) events) y
    (plain_run linux outcome_in o (choice_of k.script) s b events)
