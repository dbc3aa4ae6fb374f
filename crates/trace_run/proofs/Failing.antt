-- How a run in the tracer's own process fails.
use Rattle.std.proofs.Common.{◌≡◌, ℕ, ◌+◌, ◌≤◌, ◌^◌, arith, Bool, false, cond, List, ◌∷◌, Option, Some, None, Err, refl, sym, ap, ◌∙◌, inl, inr}
use Rattle.lx_abi.specs.declared.ptrace.Reply.{Reply}
use Rattle.lx_abi.specs.declared.ptrace.Reply.TheVariants.{Done as Agreed}
use Rattle.lx_abi.specs.declared.ptrace.Request.{Request}
use Rattle.lx_proc.specs.declared.state.Shared.{Shared}
use Rattle.lx_proc.specs.declared.state.UserState.{UserState}
use Rattle.lx_turn.specs.Linux.{linux}
use Rattle.lx_kernel.specs.Outcomes.{outcome_in}
use Rattle.pt_model.specs.Calls.{WorldsCall, RunsAppend, OutOfTurnsShowsNothing}
use Rattle.pt_model.specs.Parts.{Options as Model_options}
use Rattle.pt_model.specs.Ptrace.{is_there}
use Rattle.pt_model.specs.World.{first_world}
use Rattle.pt_model.specs.Tracer.{first_tracer, Focus, Booting, Waiting, Serving, Asking_outcome, Over, Turns_over, Faulted, request}
use Rattle.pt_kernel.specs.Hosts.{is_boot}
use Rattle.pt_kernel.specs.Seen.{next_of_host}
use Rattle.pt_schedule.specs.Few.{EventsAreFew}
use Rattle.pt_schedule.specs.Schedules.{events_left}
use Rattle.host_link.specs.LocalLinks.{Calls, given_of, schedule_of}
use Rattle.host_link.specs.declared.fault.LinkFault.{LinkFault}
use Rattle.host_link.specs.declared.fault.LinkFault.TheVariants as cause
use Rattle.host_link.specs.declared.local.LocalLink.{LocalLink}
use Rattle.tr_core.specs.Settings.{options_by, first_pen}
use Rattle.tr_core.specs.States.{State, new_state, heard, told, request_of}
use Rattle.tr_core.specs.declared.tracing.TraceFault.TheVariants.{Inadmissible, Memory}
use Rattle.trace_run.specs.LocalRuns.{in_process, IsGoing, local_answers, FailsBy, LocalLinksServe, LocalLinksTellParts, LocalLinksFail}
use Rattle.trace_run.specs.Runs.{Answers, Ends, Exchanged, Last, replies_of}
use Rattle.trace_run.specs.declared.running.RunFault.TheVariants.{Link, Trace, Output}
use Rattle.trace_run.specs.Writers.{Writer}
use Rattle.trace_run.proofs.Fed.{stays}
use Rattle.trace_run.proofs.Few.{replies_counted, talk_few}

-- a tracer asks for no boot
abbrev boots : Option Request → Bool
boots None = false
boots (Some q) = is_boot q

no_boots : (o : Model_options) (focus : Focus) → boots (request o focus) ≡ false
no_boots o Booting = refl
no_boots o Waiting = refl
no_boots o (Serving p place) = refl
no_boots o Asking_outcome = refl
no_boots o (Over x) = refl
no_boots o Turns_over = refl
no_boots o Faulted = refl

no_boot : (s : State) (q : Request) → request_of s ≡ Some q → is_boot q ≡ false
unfolding request_of
no_boot s q e = ap boots (sym e) ∙ no_boots s.options s.tracer.focus

-- a call of a link that goes on
call_fails : (f : LinkFault) (events broken : ℕ) (a : LocalLink) (q : Request) (b : LocalLink) → IsGoing a → is_boot q ≡ false → (given_of a ≡ 2 ^ 40 → 2 ^ 40 ≤ events + 1) → Calls a q (Err f) b → FailsBy events broken (Link f)
unfolding Calls
call_fails cause.Memory events broken a q b going not_boot full h = tt
call_fails cause.TooMany events broken a q b going not_boot full h = full h.1
call_fails cause.Ended events broken a q b going not_boot full (same, inl e) = absurd (cc (sym (ap (λ x. cond x 1 0) e) ∙ going.unbroken))
call_fails cause.Ended events broken a q b going not_boot full (same, inr e) = absurd (cc (sym not_boot ∙ e))
call_fails cause.Sequence events broken a q b going not_boot full h = absurd (cc (sym (ap is_there going.idle) ∙ h.2))
call_fails cause.Read events broken a q b going not_boot full h = h
call_fails cause.Write events broken a q b going not_boot full h = h
call_fails cause.Malformed events broken a q b going not_boot full h = h
call_fails cause.Inadmissible events broken a q b going not_boot full h = h

last_call : {L : Type 0} (answers : Answers L) (s : State) (rs : List Reply) (old : Writer) (a : L) (f : LinkFault) (b : Ends L) → Last answers s rs old a (Err (Link f)) b → Exchanged answers a (told s rs) (Err f) b.link
unfolding Last
last_call answers s rs old a f b h = h.2

last_output : {L : Type 0} (answers : Answers L) (s : State) (rs : List Reply) (old : Writer) (a : L) (b : Ends L) → Last answers s rs old a (Err Output) b → b.writer.broken ≡ 1
unfolding Last
last_output answers s rs old a b h = h.1.failed.broken

module _ (serves : LocalLinksServe) (calls : WorldsCall Shared UserState) (appends : RunsAppend Shared UserState) (nothing : OutOfTurnsShowsNothing) (tells : LocalLinksTellParts) (few : EventsAreFew) where
  pub local_links_fail : LocalLinksFail
  unfolding LocalLinksFail LocalLinksServe LocalLinksTellParts
  local_links_fail o script link link' old new (Trace Inadmissible) w s b going first =
      absurd ((tells o script link link' old new (Err (Trace Inadmissible)) w s b going first).tells.admitted refl)
  local_links_fail o script link link' old new (Trace Memory) w s b going first = tt
  local_links_fail o script link link' old new Output w s b going first =
      last_output local_answers (new_state (options_by o) script (first_pen o)) (Agreed ∷ replies_of w.runs.exchanges) old w.runs.link (record { link = link'; writer = new; state = w.state }) w.runs.last
  local_links_fail o script link link' old new (Link f) w s b going first =
      let begun : State = new_state (options_by o) script (first_pen o) in
      let e : Exchanged local_answers w.runs.link (told begun (Agreed ∷ replies_of w.runs.exchanges)) (Err f) link' =
      last_call local_answers begun (Agreed ∷ replies_of w.runs.exchanges) old w.runs.link f (record { link = link'; writer = new; state = w.state }) w.runs.last in
      let still : IsGoing w.runs.link =
      stays local_answers in_process next_of_host linux outcome_in IsGoing serves calls appends nothing w.runs.exchanges (heard begun Agreed) link w.runs.link e.0 going w.runs.led w.runs.asked e.1.0 in
      let said = tells o script link link' old new (Err (Link f)) w s b going first in
      let counts = talk_few few nothing (options_by o) script w.runs.exchanges first_tracer (schedule_of link) (first_world s b).host said.events said.given in
      call_fails f (given_of link + events_left (schedule_of link)) new.broken w.runs.link e.0 link' still (no_boot (told begun (Agreed ∷ replies_of w.runs.exchanges)) e.0 e.1.0)
      (λ full. omega (arith, full, replies_counted w.runs.exchanges link w.runs.link w.runs.led, counts.replies, counts.given))
      e.1.1.answered
