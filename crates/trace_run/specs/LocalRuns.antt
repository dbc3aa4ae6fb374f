-- A run over a host in the tracer's own process, by the untraced kernel.
use Rattle.std.specs.Prelude.{◌≡◌, ℕ, ◌+◌, ◌≤◌, ◌^◌, false, List, [], ◌∷◌, Option, Some, None, Result, Ok, Err, OnOk, ⊤}
use Rattle.lx_abi.specs.declared.ptrace.Reply.{Reply}
use Rattle.lx_abi.specs.declared.ptrace.Reply.TheVariants.{Done as Agreed}
use Rattle.lx_abi.specs.declared.ptrace.Request.{Request}
use Rattle.lx_abi.specs.declared.schedule.Event.{Event}
use Rattle.lx_turn.specs.Linux.{linux}
use Rattle.lx_kernel.specs.Outcomes.{outcome_in}
use Rattle.lx_proc.specs.declared.state.Shared.{Shared}
use Rattle.lx_proc.specs.declared.state.UserState.{UserState}
use Rattle.lx_model.specs.Kernel.{Script}
use Rattle.pt_model.specs.Calls.{TalksOver, IsOwn}
use Rattle.pt_model.specs.Hosting.{host_in, IsFresh, first_hosting}
use Rattle.pt_model.specs.Tracer.{first_tracer}
use Rattle.pt_model.specs.World.{first_world}
use Rattle.pt_kernel.specs.Seen.{next_of_host}
use Rattle.pt_schedule.specs.Schedules.{events_left}
use Rattle.pt_schedule.specs.declared.schedule.Schedule.{Schedule}
use Rattle.host_link.specs.LocalLinks.{Calls, host_of, schedule_of, noted_of, given_of, faults_of, is_over}
use Rattle.host_link.specs.declared.local.LocalLink.{LocalLink}
use Rattle.tr_core.specs.Settings.{options_by, first_pen}
use Rattle.tr_core.specs.States.{new_state, heard, request_of, told}
use Rattle.tr_core.specs.declared.settings.Options.{Options}
use Rattle.trace_run.specs.Local.{InMemory, SoundCall, Feeds, LocalRun}
use Rattle.trace_run.specs.Runs.{Answers, Asked, Called, Leads, RunsWhole, replies_of}
use Rattle.trace_run.specs.Tells.{Tells}
use Rattle.trace_run.specs.Writers.{Writer}
use Rattle.trace_run.specs.declared.running.Ended.{Ended}
use Rattle.trace_run.specs.declared.running.RunFault.{RunFault}
use Rattle.trace_run.specs.declared.running.RunFault.TheVariants.{Link, Trace, Output}
use Rattle.host_link.specs.declared.fault.LinkFault.TheVariants.{Memory as NoMemory, TooMany}
use Rattle.tr_core.specs.declared.tracing.TraceFault.TheVariants.{Memory as OutOfMemory}

-- its host, as a function of pids, its schedule, the turns that it gave to the kernel, and the events that it noted
abbrev pub in_process : InMemory LocalLink Schedule Shared UserState
in_process = record {
  host = λ l. host_in (host_of l).hosting;
  schedule = λ l. schedule_of l;
  turns = λ l. (host_of l).hosting.turns;
  noted = λ l. noted_of l;
}

-- no memory was refused, no request is pending, and the schedule has not ended
pub record IsGoing (l : LocalLink) : Type 0 where
  pub fresh : IsFresh (host_of l).hosting
  pub whole : (host_of l).failed ≡ false
  pub idle : (host_of l).hosting.pending ≡ None
  pub unbroken : faults_of l ≡ 0
  pub going : is_over l ≡ false

abbrev pub local_answers : Answers LocalLink
local_answers a q r b = Called (λ a q r b. Calls a q r b) (λ l. given_of l) (λ l. faults_of l) a q r b

-- such a link serves each request by the ptrace machine, which its schedule feeds
unfoldable pub LocalLinksServe : Type 0
LocalLinksServe = (a : LocalLink) (q : Request) (r : Reply) (b : LocalLink) → IsGoing a → local_answers a q (Ok r) b
    → SoundCall IsGoing in_process next_of_host linux outcome_in a q r b

-- What such a link answered to a tracer's requests, from its boot on, whoever carried them there and back, are a host's
-- own replies for the events that its schedule gave.
pub record AnswersItsOwn (o : Options) (script : Script) (s : Shared) (b : UserState) (link : LocalLink)
    (exchanges : List (Request × Reply)) : Type 0 where
  pub events : List Event
  pub given : TalksOver next_of_host linux outcome_in (options_by o) script first_tracer (schedule_of link)
      (first_world s b).host events exchanges
  -- where the tracer asks no more they are all that the schedule gives, until nothing is asked or it has ended
  pub fed : request_of (told (new_state (options_by o) script (first_pen o)) (Agreed ∷ replies_of exchanges)) ≡ None
      → Feeds next_of_host linux outcome_in (options_by o) script (schedule_of link) (first_world s b) events
  pub own : IsOwn linux outcome_in (options_by o) script s b events (replies_of exchanges)

unfoldable pub LocalLinksAnswerTheirOwn : Type 0
LocalLinksAnswerTheirOwn = (o : Options) (script : Script) (link link' : LocalLink) (exchanges : List (Request × Reply))
    (s : Shared) (b : UserState) → IsGoing link → (host_of link).hosting ≡ first_hosting s b
    → Leads local_answers link exchanges link'
    → Asked (heard (new_state (options_by o) script (first_pen o)) Agreed) exchanges
    → AnswersItsOwn o script s b link exchanges

-- and a run over it, from its boot on, is the untraced kernel's
unfoldable pub LocalLinksTell : Type 0
LocalLinksTell = (o : Options) (script : Script)
    (link link' : LocalLink) (old new : Writer) (trace : List ℕ) → old.contents ≡ Some [] → new.contents ≡ Some trace
    → (ended : Ended)
    (w : RunsWhole local_answers (new_state (options_by o) script (first_pen o)) link old (Ok ended) link' new)
    (s : Shared) (b : UserState) → IsGoing link → (host_of link).hosting ≡ first_hosting s b
    → LocalRun next_of_host linux outcome_in o script (schedule_of link) s b ended trace
    (outcome_in (host_of link').hosting.running.shared) (host_of link').hosting.turns

-- what a run over it writes, to any writer and however it ends: the events are those that the schedule gave, call by
-- call, and what was written begins the rendering of a view of the untraced kernel's log by then
pub record LinkTells (o : Options) (script : Script) (s : Shared) (b : UserState) (link : LocalLink)
    (exchanges : List (Request × Reply)) (result : Result Ended RunFault) (old new : Option (List ℕ)) : Type 0 where
  pub events : List Event
  pub given : TalksOver next_of_host linux outcome_in (options_by o) script first_tracer (schedule_of link)
      (first_world s b).host events exchanges
  -- a run without a fault had all that the schedule gives, until nothing is asked or it has ended
  pub fed : OnOk result (Feeds next_of_host linux outcome_in (options_by o) script (schedule_of link) (first_world s b)
      events)
  pub tells : Tells linux outcome_in o script s b events result old new

unfoldable pub LocalLinksTellParts : Type 0
LocalLinksTellParts = (o : Options) (script : Script)
    (link link' : LocalLink) (old new : Writer) (result : Result Ended RunFault)
    (w : RunsWhole local_answers (new_state (options_by o) script (first_pen o)) link old result link' new)
    (s : Shared) (b : UserState) → IsGoing link → (host_of link).hosting ≡ first_hosting s b
    → LinkTells o script s b link w.runs.exchanges result old.contents new.contents

-- The faults of such a run: memory was refused to the host or to the tracer, or the writer failed. The link refuses
-- more than 2^40 replies too: there must be events for all of them but the last, which is OutOfTurns.
abbrev pub FailsBy : ℕ → ℕ → RunFault → Type 0
FailsBy events broken (Link NoMemory) = ⊤
FailsBy events broken (Link TooMany) = 2 ^ 40 ≤ events + 1
FailsBy events broken (Link f) = ⊥
FailsBy events broken (Trace OutOfMemory) = ⊤
FailsBy events broken (Trace f) = ⊥
FailsBy events broken Output = broken ≡ 1

-- which faults those are
abbrev pub IsLocalFault : RunFault → Type 0
IsLocalFault (Link NoMemory) = ⊤
IsLocalFault (Link TooMany) = ⊤
IsLocalFault (Link f) = ⊥
IsLocalFault (Trace OutOfMemory) = ⊤
IsLocalFault (Trace f) = ⊥
IsLocalFault Output = ⊤

-- the events are those of the replies that the link had given before, and those that its schedule has left
unfoldable pub LocalLinksFail : Type 0
LocalLinksFail = (o : Options) (script : Script)
    (link link' : LocalLink) (old new : Writer) (fault : RunFault)
    → RunsWhole local_answers (new_state (options_by o) script (first_pen o)) link old (Err fault) link' new
    → (s : Shared) (b : UserState) → IsGoing link → (host_of link).hosting ≡ first_hosting s b
    → FailsBy (given_of link + events_left (schedule_of link)) new.broken fault
