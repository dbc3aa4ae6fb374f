-- Every call's answer fits, and so does every signal that is taken.
use Rattle.std.specs.Prelude.{◌==◌, ◌&&◌, ◌||◌}
use Rattle.std.proofs.Common.{◌≡◌, ℕ, Bool, true, false, cond, Option, Some, None, is_some, refl}
use Rattle.std.specs.FinMap as maps
use Rattle.lx_abi.specs.Errnos.{enosys}
use Rattle.lx_abi.specs.declared.log.Call.{Call}
use Rattle.lx_abi.specs.declared.log.Cause.{Cause}
use Rattle.lx_abi.specs.declared.signal.Signal.{Signal}
use Rattle.lx_abi.specs.Signals.{is_stop}
use Rattle.lx_model.specs.Machine.{Refused, Returns, Jumps, Execs, Bears, Blocks, Ends, Took}
use Rattle.lx_sig.specs.Frames.{frame_fault}
use Rattle.lx_sig.specs.Pending.{action_of, is_ignored, is_ignored_by_default}
use Rattle.lx_sig.specs.Reactions.{acts, is_fault, reaction as reaction_to}
use Rattle.lx_sig.specs.Sets.{has}
use Rattle.lx_sig.specs.declared.state.Action.{Action}
use Rattle.lx_sig.specs.declared.reactions.Reaction.{Reaction}
use Rattle.lx_sig.specs.declared.reactions.Reaction.TheVariants as reaction
use Rattle.lx_proc.specs.declared.state.Shared.{Shared}
use Rattle.lx_proc.specs.declared.state.UserState.{UserState}
use Rattle.lx_proc.specs.declared.state.Entry.{Entry}
use Rattle.lx_proc.specs.Answers.{Answers}
use Rattle.lx_fcalls.proofs.FileAnswers.{OfFiles, files_hold}
use Rattle.lx_pcalls.specs.Interruption.{is_interrupted, interruptible, blocks_or_returns}
use Rattle.lx_pcalls.specs.Taking.{takes, takes_at, reacts}
use Rattle.lx_turn.specs.Calls.{does, called}
use Rattle.lx_turn.specs.Fitting.{Fits, CallsFit, TookFits, TakesFit}
use Rattle.lx_pcalls.proofs.ProcessAnswers.{processes_hold}
use Rattle.lx_turn.proofs.ProcessesFit.{process_fits}

blocked_or_returned : (child : ℕ) (s : Shared) (call : Call) (b : UserState) (interrupted : Bool) → Fits child s call (blocks_or_returns s b interrupted)
blocked_or_returned child s call b true = refl
blocked_or_returned child s call b false = tt

interrupted_fits : (child : ℕ) (s : Shared) (p : ℕ) (call : Call) (b : UserState) (a : Answers) → Fits child s call a → Fits child s call (interruptible s p b a)
interrupted_fits child s p call b (Refused e) h = h
interrupted_fits child s p call b (Returns t c x) h = h
interrupted_fits child s p call b (Jumps t c) h = h
interrupted_fits child s p call b (Execs t c) h = h
interrupted_fits child s p call b (Bears t c newborn) h = h
interrupted_fits child s p call b Blocks h = blocked_or_returned child s call b (is_interrupted (maps.get s.entries p))
interrupted_fits child s p call b (Ends w) h = h

file_fits : (child : ℕ) (s : Shared) (p : ℕ) (call : Call) (b : UserState) → OfFiles s p call b (Fits child s call)
file_fits child s p call b = record {
  refuses = λ e listed. tt;
  waits = λ k. tt;
  returns = λ tree fds input console x. refl;
  writes = λ tree fds input console at bytes x. refl;
  goes = λ path. refl;
  breaks = refl;
}

pub calls_fit : CallsFit
unfolding does
calls_fit s child p call b =
    interrupted_fits child s p call b (called s child p call b)
    (files_hold s p call b (Fits child s call) (file_fits child s p call b) _
    (processes_hold s child p call b (Fits child s call) (process_fits child s p call b) (Refused enosys) tt))

-- signals

took_either : (s : Shared) (signal : Signal) (test : Bool) (x y : Took Shared UserState) → TookFits s signal x → TookFits s signal y → TookFits s signal (cond test x y)
took_either s signal true x y h g = h
took_either s signal false x y h g = g

-- an action stops for a stop signal alone
default_stops : (n : ℕ) (ignored stop : Bool) → is_stop n ≡ stop → cond ignored reaction.Passes (cond stop reaction.Stops reaction.Ends) ≡ reaction.Stops → is_stop n ≡ true
default_stops n true stop s e = absurd (cc e)
default_stops n false true s e = s
default_stops n false false s e = absurd (cc e)

acts_stops : (a : Action) (n : ℕ) (default ignored : Bool) → cond default (cond (is_ignored_by_default n) reaction.Passes (cond (is_stop n) reaction.Stops reaction.Ends)) (cond ignored reaction.Passes (reaction.Handles a)) ≡ reaction.Stops → is_stop n ≡ true
acts_stops a n true ignored e = default_stops n (is_ignored_by_default n) (is_stop n) refl e
acts_stops a n false true e = absurd (cc e)
acts_stops a n false false e = absurd (cc e)

fault_stops : (a : Action) (n : ℕ) (fault : Bool) → cond fault reaction.Ends (acts a n) ≡ reaction.Stops → is_stop n ≡ true
fault_stops a n true e = absurd (cc e)
fault_stops a n false e = acts_stops a n (a.handler == 0) (a.handler == 1) e

pub reaction_stops : (e : Entry) (signal : Signal) (cause : Cause) → reaction_to e.signals signal cause ≡ reaction.Stops → is_stop signal.number ≡ true
reaction_stops e signal cause = fault_stops (action_of e.signals signal.number) signal.number (is_fault cause && (has e.signals.mask signal.number || is_ignored e.signals signal.number))

reacts_fit : (s : Shared) (p : ℕ) (e : Entry) (b : UserState) (signal : Signal) (r : Reaction) → (r ≡ reaction.Stops → is_stop signal.number ≡ true) → TookFits s signal (reacts s p e b signal r)
reacts_fit s p e b signal reaction.Passes h = refl
reacts_fit s p e b signal reaction.Stops h = h refl
reacts_fit s p e b signal reaction.Ends h = signal.in_range
reacts_fit s p e b signal (reaction.Handles a) h = took_either s signal (is_some (frame_fault b.memory b.hart)) _ _ refl refl

takes_at_fit : (s : Shared) (p : ℕ) (b : UserState) (signal : Signal) (cause : Cause) (o : Option Entry) → TookFits s signal (takes_at o s p b signal cause)
takes_at_fit s p b signal cause None = refl
takes_at_fit s p b signal cause (Some e) = reacts_fit s p e b signal (reaction_to e.signals signal cause) (reaction_stops e signal cause)

pub takes_fit : TakesFit
unfolding takes
takes_fit s p b signal cause = takes_at_fit s p b signal cause (maps.get s.entries p)
