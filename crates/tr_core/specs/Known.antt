-- What the code keeps, as the tracer's definitions have it.
use Rattle.std.specs.Prelude.{ℕ, false, [], ◌∷◌, None}
use Rattle.lx_model.specs.Machine.{no_call}
use Rattle.pt_model.specs.declared.standing.Standing.TheVariants.{Unmet}
use Rattle.pt_model.specs.Tracer.{Known}
use Rattle.pt_model.specs.Tracer as tracer
use Rattle.tr_core.specs.declared.place.Tracee.{Tracee}
use Rattle.tr_core.specs.declared.place.Awaiting.{Awaiting}
use Rattle.tr_core.specs.declared.place.Awaiting.TheVariants.{Seizing, EntryRegs, EntryPeek, EntrySet, ExitRegs}
use Rattle.tr_core.specs.declared.place.Awaiting.TheVariants.{ExitSet, ExitPeek, SignalInfo, Resuming, Listening}

-- a tracee, with how often it entered each call
abbrev pub known_of : Tracee → (ℕ → ℕ) → Known
known_of t counts =
    record { inside = t.inside; called = t.called; saved = t.saved; counts = counts; standing = t.standing }

abbrev pub new_tracee : Tracee
new_tracee =
    record {
      inside = false;
      called = record { number = no_call; arguments = 0 ∷ 0 ∷ 0 ∷ 0 ∷ 0 ∷ 0 ∷ [] };
      saved = None;
      standing = Unmet;
    }

abbrev pub place_of : Awaiting → tracer.Awaiting
place_of Seizing = tracer.Seizing
place_of EntryRegs = tracer.Entry_regs
place_of (EntryPeek r d w) = tracer.Entry_peek r d.value.got w
place_of (EntrySet r n) = tracer.Entry_set r n
place_of ExitRegs = tracer.Exit_regs
place_of (ExitSet r x) = tracer.Exit_set r x
place_of (ExitPeek x replaced d w) = tracer.Exit_peek x replaced d.value.got w
place_of (SignalInfo n) = tracer.Signal_info n
place_of (Resuming n) = tracer.Resuming n
place_of Listening = tracer.Listening
