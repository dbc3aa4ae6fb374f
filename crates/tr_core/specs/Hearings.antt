-- What the code makes of a reply, as the definitions have it.
use Rattle.std.specs.Prelude.{◌≡◌, ◌==◌, ℕ, false, [], ◌∷◌, Option, Some, None}
use Rattle.std.specs.Option.{option_map}
use Rattle.std.specs.Ordering.{nat_cmp}
use Rattle.std.specs.FinMap.{FinMap}
use Rattle.lx_model.specs.Finite.{at}
use Rattle.lx_model.specs.Machine.{Regs, with_a7, no_call}
use Rattle.pt_model.specs.Parts.{Options, Part_stopped, Part_exit}
use Rattle.pt_model.specs.Tracer.{Known, Heard, Entry_set, Signal_info, Resuming, Listening, moves}
use Rattle.pt_model.specs.Tracer.{turned_over, first_place, stands_at, event_standing}
use Rattle.lx_abi.specs.declared.status.Stop.{Stop}
use Rattle.lx_abi.specs.declared.status.Stop.TheVariants.{Syscall as Syscall_stop, Signal as Signal_stop}
use Rattle.lx_abi.specs.declared.status.Stop.TheVariants.{Group as Group_stop, Event as Event_stop, Ended}
use Rattle.pt_model.specs.declared.standing.Standing.TheVariants.{AfterSignal as After_signal, Halted}
use Rattle.pt_model.specs.declared.standing.Standing.TheVariants.{AtEnd as At_end}
use Rattle.pt_model.specs.Tracer as tracer
use Rattle.tr_core.specs.declared.heard.Heard.{Heard as CodeHeard}
use Rattle.tr_core.specs.declared.place.Tracee.{Tracee}
use Rattle.tr_core.specs.declared.session.Session.{Session}
use Rattle.tr_core.specs.Held.{NextIsHeld}
use Rattle.tr_core.specs.Known.{known_of, new_tracee, place_of}
use Rattle.lx_abi.specs.Occurrences.{count_of}
use Rattle.lx_abi.specs.declared.occurrences.Occurrences.{Occurrences}
use Rattle.tr_core.specs.Pens.{wrote, pen_after}

-- how often a process has entered each call
abbrev pub counts_at : Occurrences → ℕ → ℕ → ℕ
counts_at o pid n = count_of o pid n

-- what is counted of other processes stays
abbrev pub LeavesOthers : ℕ → Occurrences → Occurrences → Type 0
LeavesOthers pid old new = (q n : ℕ) → (pid == q) ≡ false → count_of new q n ≡ count_of old q n

-- what is known of the tracee in hand
abbrev pub known_at : Session → ℕ → Tracee → Known
known_at s pid t = known_of t (counts_at s.counts pid)

-- this is known of it, asked next and printed, nothing else has changed, and a place that reads holds its decoder
pub record Comes (m : Heard) (told : CodeHeard) (old new : Session) (pid : ℕ) (was is : Tracee) : Type 0 where
  pub known : m.known ≡ known_of is (counts_at new.counts pid)
  pub place : m.next ≡ option_map place_of told.next
  pub text : told.bytes ≡ wrote old.printer m.printed
  pub pen : new.printer ≡ pen_after old.printer m.printed
  pub others : LeavesOthers pid old.counts new.counts
  pub settings : new.settings ≡ old.settings
  pub held : NextIsHeld new.settings.options is.called told.next

-- the same of what is known by process: that of no other has changed
pub record ComesIn (m : Heard) (told : CodeHeard) (old new : Session) (pid : ℕ) (was is : FinMap nat_cmp Tracee)
    : Type 0 where
  pub comes : Comes m told old new pid (at new_tracee was pid) (at new_tracee is pid)
  pub rest : (q : ℕ) → (pid == q) ≡ false → at new_tracee is q ≡ at new_tracee was q

-- from an entry stop
abbrev pub going_on : Regs → ℕ → Option ℕ → tracer.Awaiting
going_on r signal None = Resuming signal
going_on r signal (Some x) = Entry_set (with_a7 r no_call) signal

-- a stop that was taken
abbrev pub stop_heard : Options → ℕ → Known → Stop → Heard
stop_heard o p k (Syscall_stop good) = moves (turned_over k) (first_place o k k.inside)
stop_heard o p k (Signal_stop signal) = moves (stands_at k (After_signal signal)) (Signal_info signal.number)
stop_heard o p k (Group_stop signal) = record {
  known = stands_at k Halted;
  next = Some Listening;
  printed = Part_stopped p signal ∷ [];
}
stop_heard o p k (Event_stop event) = moves (stands_at k (event_standing event)) (Resuming 0)
stop_heard o p k (Ended word) = record { known = stands_at k At_end; next = None; printed = Part_exit p word ∷ [] }
