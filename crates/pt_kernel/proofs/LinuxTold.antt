-- What wait(2) tells of Linux's calls fits their numbers, and no read of a memory gives too much.
use Rattle.std.proofs.Common.{◌≡◌, ℕ, zero, suc, ◌+◌, ◌≤◌, ◌*◌, ◌%◌, Bool, true, List, [], ◌∷◌, Option, Some, None, length, refl, sym, subst, ap, ◌∙◌, arith}
use Rattle.std.specs.FinMap as maps
use Rattle.std.proofs.lemmas.Bool.Decides.{nat_tests}
use Rattle.lx_abi.specs.declared.log.Call.{Call}
use Rattle.lx_abi.specs.Signals.{is_signal, is_stop}
use Rattle.lx_abi.specs.declared.signal.Signal.{Signal}
use Rattle.rv_mem.specs.Memory.{Memory, Cell, mapped_prefix}
use Rattle.lx_model.specs.Machine.{Answer, Refused, Returns, Jumps, Execs, Bears, Blocks, Ends, Took, Passes, Stops, Kills}
use Rattle.lx_abi.specs.Calls.{has_effects}
use Rattle.lx_abi.specs.Effects.{forks, execs, exits}
use Rattle.pt_model.specs.Admissible.{is_exit_word}
use Rattle.pt_model.specs.Headline.{IsTold}
use Rattle.lx_proc.specs.declared.state.Shared.{Shared}
use Rattle.lx_proc.specs.declared.state.UserState.{UserState}
use Rattle.lx_sig.specs.Calls.{argument}
use Rattle.lx_pcalls.specs.Taking.{takes}
use Rattle.lx_turn.specs.Linux.{linux}
use Rattle.lx_turn.specs.Fitting.{Fits, CallsFit, TookFits, TakesFit}

exit_word : (n w : ℕ) → w ≡ n % 256 * 256 → is_exit_word w ≡ true
exit_word n w h = grind (arith, nat_tests)

-- what an answer tells of its call's number
abbrev Tells : Call → Answer Shared UserState → Type 0
Tells c (Refused e) = Unit {0}
Tells c (Returns s b x) = Unit {0}
Tells c (Jumps s b) = Unit {0}
Tells c (Execs s b) = has_effects c.number execs ≡ true
Tells c (Bears s b born) = has_effects c.number forks ≡ true
Tells c Blocks = Unit {0}
Tells c (Ends w) = (has_effects c.number exits ≡ true) × (is_exit_word w ≡ true)

tells : (s : Shared) (child : ℕ) (c : Call) (a : Answer Shared UserState) → Fits child s c a → Tells c a
tells s child c (Refused e) h = tt
tells s child c (Returns t b x) h = tt
tells s child c (Jumps t b) h = tt
tells s child c (Execs t b) h = h.1
tells s child c (Bears t b born) h = h.call_forks
tells s child c Blocks h = tt
tells s child c (Ends w) h = (h.0, exit_word (argument c 0) w h.1)

abbrev end_fits : Took Shared UserState → Bool
end_fits (Passes s b) = true
end_fits Stops = true
end_fits (Kills w) = is_signal w

ends_fit : (s : Shared) (signal : Signal) (t : Took Shared UserState) → TookFits s signal t → end_fits t ≡ true
ends_fit s signal (Passes u b) h = refl
ends_fit s signal Stops h = refl
ends_fit s signal (Kills w) h = h

abbrev stop_fits : Signal → Took Shared UserState → Bool
stop_fits signal (Passes s b) = true
stop_fits signal Stops = is_stop signal.number
stop_fits signal (Kills w) = true

stops_fit : (s : Shared) (signal : Signal) (t : Took Shared UserState) → TookFits s signal t → stop_fits signal t ≡ true
stops_fit s signal (Passes u b) h = refl
stops_fit s signal Stops h = h
stops_fit s signal (Kills w) h = refl

one_more : (o : Option Cell) (rest : List ℕ) (n : ℕ) → length rest ≤ n → length (elim o as (λ _. List ℕ) [ None ↦ [] | Some c ↦ c.byte ∷ rest ]) ≤ suc n
one_more None rest n h = omega arith
one_more (Some c) rest n h = omega (arith, h)

no_more_than_asked : (m : Memory) (a n : ℕ) → length (mapped_prefix m a n) ≤ n
unfolding mapped_prefix
no_more_than_asked m a zero = omega arith
no_more_than_asked m a (suc n) = one_more (maps.get m a) (mapped_prefix m (a + 1) n) n (no_more_than_asked m (a + 1) n)

pub linux_told : CallsFit → TakesFit → IsTold linux
linux_told fit took = record {
  by_clone = λ s t child p c b d born e. subst (Tells c) e (tells s child c (linux.call s child p c b) (fit s child p c b));
  by_execve = λ s t child p c b d e. subst (Tells c) e (tells s child c (linux.call s child p c b) (fit s child p c b));
  by_exit = λ s child p c b word e. subst (Tells c) e (tells s child c (linux.call s child p c b) (fit s child p c b));
  by_signal = λ s p signal cause b word e. sym (ap end_fits e) ∙ ends_fit s signal (takes s p b signal cause) (took s p b signal cause);
  by_stop = λ s p signal cause b e. sym (ap (stop_fits signal) e) ∙ stops_fit s signal (takes s p b signal cause) (took s p b signal cause);
  peeks = λ b a n. no_more_than_asked b.memory a n;
}
