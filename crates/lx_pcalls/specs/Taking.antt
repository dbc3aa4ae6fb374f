-- Signals that are taken (signal(7), "Signal dispositions" and "Execution of signal handlers").
use Rattle.std.specs.Prelude.{◌≡◌, ℕ, Option, Some, None, is_some, if◌then◌else◌}
use Rattle.std.specs.FinMap as maps
use Rattle.lx_abi.specs.declared.log.Cause.{Cause}
use Rattle.lx_abi.specs.declared.signal.Signal.{Signal}
use Rattle.lx_model.specs.Machine.{Took, Passes, Stops, Kills}
use Rattle.lx_sig.specs.declared.state.Action.{Action}
use Rattle.lx_sig.specs.declared.state.Signals.{Signals}
use Rattle.lx_sig.specs.declared.reactions.Reaction.{Reaction}
use Rattle.lx_sig.specs.declared.reactions.Reaction.TheVariants as reaction
use Rattle.lx_sig.specs.Reactions.{reaction as reaction_to}
use Rattle.lx_sig.specs.Frames.{frame_fault, with_frame, handling, blocking}
use Rattle.lx_proc.specs.declared.state.Shared.{Shared}
use Rattle.lx_proc.specs.declared.state.Entry.{Entry}
use Rattle.lx_proc.specs.declared.state.UserState.{UserState}
use Rattle.lx_proc.specs.State.{with_signals_at}
use Rattle.lx_pcalls.specs.declared.taking.Reacted.{Reacted}
use Rattle.lx_pcalls.specs.declared.taking.Reacted.TheVariants as reacted

-- the wait word of an end by SIGSEGV
abbrev pub segv_word : ℕ
segv_word = 11

abbrev pub in_handler : Signals → UserState → Signal → Action → UserState
in_handler g b signal a = record b {
  hart = handling b.hart signal a;
  memory = with_frame b.memory b.hart b.interrupted g signal a;
  interrupted = None;
}

-- the handler begins; where its frame can't be written SIGSEGV ends the process
abbrev pub handles : Shared → ℕ → Signals → UserState → Signal → Action → Took Shared UserState
handles s p g b signal a =
    if is_some (frame_fault b.memory b.hart) then Kills segv_word
    else Passes (with_signals_at s p (blocking g signal a)) (in_handler g b signal a)

abbrev pub reacts : Shared → ℕ → Entry → UserState → Signal → Reaction → Took Shared UserState
reacts s p e b signal reaction.Passes = Passes s b
reacts s p e b signal reaction.Stops = Stops
reacts s p e b signal reaction.Ends = Kills signal.number
reacts s p e b signal (reaction.Handles a) = handles s p e.signals b signal a

abbrev pub takes_at : Option Entry → Shared → ℕ → UserState → Signal → Cause → Took Shared UserState
takes_at None s p b signal cause = Passes s b
takes_at (Some e) s p b signal cause = reacts s p e b signal (reaction_to e.signals signal cause)

-- the process does what its action says
unfoldable pub takes : Shared → ℕ → UserState → Signal → Cause → Took Shared UserState
takes s p b signal cause = takes_at (maps.get s.entries p) s p b signal cause

-- What code answers, beside what it leaves in the two parts that it is lent.
abbrev pub took_of : Reacted → Shared → UserState → Took Shared UserState
took_of reacted.Passed s b = Passes s b
took_of reacted.Stopped s b = Stops
took_of (reacted.Killed w) s b = Kills w

-- an end leaves what is shared, and a stop the body too
abbrev pub TookKept : Reacted → Shared → UserState → Shared → UserState → Type 0
TookKept reacted.Passed s b s' b' = Unit {0}
TookKept reacted.Stopped s b s' b' = (s' ≡ s) × (b' ≡ b)
TookKept (reacted.Killed w) s b s' b' = s' ≡ s
