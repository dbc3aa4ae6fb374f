-- The tracer that the code keeps, as the definitions have it.
use Rattle.std.specs.Prelude.{◌≡◌, ℕ, ◌+◌, Bool, true, false, List, Option, Some, None}
use Rattle.lx_abi.specs.declared.ptrace.Reply.{Reply}
use Rattle.lx_model.specs.Finite.{at}
use Rattle.pt_model.specs.Tracer as tracer
use Rattle.pt_model.specs.Tracer.{Tracer, Known, Next, admits_at}
use Rattle.tr_core.specs.Pens.{wrote, pen_after}
use Rattle.tr_core.specs.Known.{known_of, new_tracee, place_of}
use Rattle.tr_core.specs.Settings.{options_of, script_of}
use Rattle.tr_core.specs.Hearings.{counts_at}
use Rattle.tr_core.specs.Held.{Holds}
use Rattle.tr_core.specs.States.{State, admitted, heard, said, is_faulted}
use Rattle.tr_core.specs.declared.stepping.Core.{Core}
use Rattle.tr_core.specs.declared.tracer.Tracer.{Tracer as CodeTracer}
use Rattle.tr_core.specs.declared.place.Focus.{Focus}
use Rattle.tr_core.specs.declared.place.Focus.TheVariants.{Booting, Waiting, Serving, AskingOutcome, Over}
use Rattle.tr_core.specs.declared.place.Focus.TheVariants.{TurnsOver, Faulted}

-- what is known of each process
abbrev pub known_in : Core → ℕ → Known
known_in c q = known_of (at new_tracee c.known q) (counts_at c.session.counts q)

abbrev pub focus_of : Focus → tracer.Focus
focus_of Booting = tracer.Booting
focus_of Waiting = tracer.Waiting
focus_of (Serving pid place) = tracer.Serving pid (place_of place)
focus_of AskingOutcome = tracer.Asking_outcome
focus_of (Over x) = tracer.Over x
focus_of TurnsOver = tracer.Turns_over
focus_of Faulted = tracer.Faulted

-- the definition's tracer, which took so many replies
abbrev pub tracer_in : Core → ℕ → Tracer
tracer_in c taken = record { known = known_in c; tracees = c.living; focus = focus_of c.focus; taken = taken }

-- its state, with the flag for want of memory
abbrev pub state_in : Core → ℕ → Bool → State
state_in c taken failed =
    record {
      options = options_of c.session.settings;
      script = script_of c.session.settings;
      tracer = tracer_in c taken;
      pen = c.session.printer;
      failed = failed;
    }

-- what a tracer is to its callers
unfoldable pub state_of : CodeTracer → State
state_of t = state_in t.core t.taken t.failed

abbrev pub admits_in : Core → Reply → Bool
admits_in c r = admits_at (options_of c.session.settings) (known_in c) c.living (focus_of c.focus) r

-- A step of the code is the definition's.
pub record Goes (n : Next) (tracees : List ℕ) (bytes : List ℕ) (old new : Core) : Type 0 where
  pub known : known_in new ≡ n.known
  pub focus : focus_of new.focus ≡ n.focus
  pub living : new.living ≡ tracees
  pub text : bytes ≡ wrote old.session.printer n.printed
  pub pen : new.session.printer ≡ pen_after old.session.printer n.printed
  pub settings : new.session.settings ≡ old.session.settings
  pub holds : Holds new

-- a whole step, of a tracer that took so many replies: of one that is admitted the bytes, of any other none
abbrev pub Steps : ℕ → Core → Reply → Option (List ℕ) → Core → Type 0
Steps taken old r (Some bytes) new = (state_in new (taken + 1) false ≡ heard (state_in old taken false) r)
    × (admitted (state_in old taken false) r ≡ true) × (is_faulted (state_in new (taken + 1) false) ≡ false)
    × (bytes ≡ said (state_in old taken false) r)
Steps taken old r None new = (state_in new taken false ≡ heard (state_in old taken false) r)
    × (admitted (state_in old taken false) r ≡ false)
