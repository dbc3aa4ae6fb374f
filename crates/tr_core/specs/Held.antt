-- The decoder that a place holds: it is of the half that is told there, of a call that is shown.
use Rattle.std.specs.Prelude.{◌≡◌, ℕ, true, false, ⊤, List, [], Option, Some, None}
use Rattle.std.specs.Borrow.{Bor}
use Rattle.std.specs.Coded.{Coded-set, Unit-prop, codes}
use Rattle.lx_abi.specs.Scripts.{includes}
use Rattle.lx_abi.specs.declared.log.Call.{Call}
use Rattle.lx_model.specs.Finite.{at}
use Rattle.lx_model.specs.Machine.{call_of, sp_of}
use Rattle.pt_model.specs.Parts.{Half, At_entry, At_exit}
use Rattle.tr_args.specs.Decoders.{Decoding}
use Rattle.tr_args.specs.Texts.{context_of}
use Rattle.tr_core.specs.Known.{new_tracee}
use Rattle.tr_core.specs.declared.place.Awaiting.{Awaiting}
use Rattle.tr_core.specs.declared.place.Awaiting.TheVariants.{Seizing, EntryRegs, EntryPeek, EntrySet, ExitRegs}
use Rattle.tr_core.specs.declared.place.Awaiting.TheVariants.{ExitSet, ExitPeek, SignalInfo, Resuming, Listening}
use Rattle.tr_core.specs.declared.place.Focus.{Focus}
use Rattle.tr_core.specs.declared.place.Focus.TheVariants as focus
use Rattle.tr_core.specs.declared.settings.Options.{Options}
use Rattle.tr_core.specs.declared.stepping.Core.{Core}

-- the call of a half
abbrev pub call_at : Half → Call
call_at (At_entry call sp) = call
call_at (At_exit call result) = call

pub record IsOf (o : Options) (half : Half) (d : Decoding) : Type 0 where
  pub context : d.context ≡ context_of o.string_limit half
  pub shown : includes o.shown (call_at half).number ≡ true

-- a place that reads holds such a decoder; the call of an exit is the one that its tracee entered
abbrev pub IsHeld : Options → Call → Awaiting → Type 0
IsHeld o called Seizing = ⊤
IsHeld o called EntryRegs = ⊤
IsHeld o called (EntryPeek r d w) = IsOf o (At_entry (call_of r) (sp_of r)) d.value
IsHeld o called (EntrySet r n) = ⊤
IsHeld o called ExitRegs = ⊤
IsHeld o called (ExitSet r x) = ⊤
IsHeld o called (ExitPeek x replaced d w) = IsOf o (At_exit called x) d.value
IsHeld o called (SignalInfo n) = ⊤
IsHeld o called (Resuming n) = ⊤
IsHeld o called Listening = ⊤

-- what is asked next, if anything
abbrev pub NextIsHeld : Options → Call → Option Awaiting → Type 0
NextIsHeld o called None = ⊤
NextIsHeld o called (Some place) = IsHeld o called place

-- a decoder where the half is shown, and none where it isn't
abbrev pub IsTold : Options → Half → Option (Bor Decoding) → Type 0
IsTold o half None = includes o.shown (call_at half).number ≡ false
IsTold o half (Some d) = IsOf o half d.now

abbrev pub got_of : Option (Bor Decoding) → List (List ℕ)
got_of None = []
got_of (Some d) = d.now.got

abbrev pub FocusHolds : Options → (ℕ → Call) → Focus → Type 0
FocusHolds o called focus.Booting = ⊤
FocusHolds o called focus.Waiting = ⊤
FocusHolds o called (focus.Serving pid place) = IsHeld o (called pid) place
FocusHolds o called focus.AskingOutcome = ⊤
FocusHolds o called (focus.Over x) = ⊤
FocusHolds o called focus.TurnsOver = ⊤
FocusHolds o called focus.Faulted = ⊤

-- of a core
abbrev pub Holds : Core → Type 0
Holds c = FocusHolds c.session.settings.options (λ pid. (at new_tracee c.known pid).called) c.focus

-- each in one way

IsOf-prop : (o : Options) (half : Half) (d : Decoding) → IsProp (IsOf o half d)
IsOf-prop o half d = Prim.hlevel (Coded-set, codes)

IsHeld-prop : (o : Options) (called : Call) (place : Awaiting) → IsProp (IsHeld o called place)
IsHeld-prop o called Seizing = Unit-prop
IsHeld-prop o called EntryRegs = Unit-prop
IsHeld-prop o called (EntryPeek r d w) = IsOf-prop o (At_entry (call_of r) (sp_of r)) d.value
IsHeld-prop o called (EntrySet r n) = Unit-prop
IsHeld-prop o called ExitRegs = Unit-prop
IsHeld-prop o called (ExitSet r x) = Unit-prop
IsHeld-prop o called (ExitPeek x replaced d w) = IsOf-prop o (At_exit called x) d.value
IsHeld-prop o called (SignalInfo n) = Unit-prop
IsHeld-prop o called (Resuming n) = Unit-prop
IsHeld-prop o called Listening = Unit-prop

FocusHolds-prop : (o : Options) (called : ℕ → Call) (f : Focus) → IsProp (FocusHolds o called f)
FocusHolds-prop o called focus.Booting = Unit-prop
FocusHolds-prop o called focus.Waiting = Unit-prop
FocusHolds-prop o called (focus.Serving pid place) = IsHeld-prop o (called pid) place
FocusHolds-prop o called focus.AskingOutcome = Unit-prop
FocusHolds-prop o called (focus.Over x) = Unit-prop
FocusHolds-prop o called focus.TurnsOver = Unit-prop
FocusHolds-prop o called focus.Faulted = Unit-prop

pub Holds-prop : (c : Core) → IsProp (Holds c)
Holds-prop c = FocusHolds-prop c.session.settings.options (λ pid. (at new_tracee c.known pid).called) c.focus
