-- What a traced boot leaves.
use Rattle.std.specs.Prelude.{◌≡◌, List}
use Rattle.lx_abi.specs.Log.{items_of}
use Rattle.lx_abi.specs.Scripts.{choice_of}
use Rattle.lx_abi.specs.declared.boot.Boot.{Boot}
use Rattle.lx_abi.specs.declared.outcome.Outcome.{Outcome}
use Rattle.lx_abi.specs.declared.schedule.Event.{Event}
use Rattle.lx_abi.specs.declared.script.Rule.{Rule}
use Rattle.lx_model.specs.Kernel.{Script, Kernel}
use Rattle.lx_proc.specs.declared.state.Shared.{Shared}
use Rattle.lx_proc.specs.declared.state.UserState.{UserState}
use Rattle.lx_boot.specs.First.{first_shared}
use Rattle.lx_kernel.specs.Laws.{logged_words}
use Rattle.lx_turn.specs.Linux.{linux}
use Rattle.lx_files.specs.Listing.{files_of}
use Rattle.lx_kernel.specs.Outcomes.{outcome_in}
use Rattle.lx_exec.specs.Programs.{booted}
use Rattle.lx_proc.specs.WaitWords.{ends_of}
use Rattle.pt_model.specs.Headline.{IsTexts, traced_run, plain_run}
use Rattle.pt_model.specs.Parts.{Options}
use Rattle.pt_model.specs.Tracer.{Over}
use Rattle.pt_model.specs.World.{World}

-- a boot, traced by these events
abbrev pub traced_boot : Boot → Options → Script → List Event → World Shared UserState
traced_boot boot o script events =
    traced_run linux outcome_in o script
    (first_shared boot.limits boot.files boot.input) (booted boot.argv boot.env) events

-- and the untraced kernel under the script, by their effective turns
abbrev pub plain_boot : Boot → Options → Script → List Event → Kernel Shared UserState
plain_boot boot o script events =
    plain_run linux outcome_in o script
    (first_shared boot.limits boot.files boot.input) (booted boot.argv boot.env) events

-- the console, the files, and the wait words of the ends in the log
abbrev pub left_by : Kernel Shared UserState → Outcome
left_by k = record {
  console = k.shared.console;
  files = files_of k.shared.tree;
  ended = ends_of (logged_words (items_of k.log));
}

-- at every moment these are left, and the reply to Outcome says so
pub record Leaves (w : World Shared UserState) (x : Outcome) : Type 0 where
  pub left : outcome_in w.host.shared ≡ x
  pub replied : (y : Outcome) → w.tracer.focus ≡ Over y → y ≡ x

abbrev pub BootsLeaveAsPlain : Type 0
BootsLeaveAsPlain = (boot : Boot) (o : Options) → IsTexts o.texts → (script : List Rule) (events : List Event) →
    Leaves (traced_boot boot o (choice_of script) events) (left_by (plain_boot boot o (choice_of script) events))
