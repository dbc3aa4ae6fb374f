-- A run from its boot on.
use Rattle.std.proofs.Common.{◌≡◌, ℕ, ◌+◌, arith, false, List, Some, Ok, Err, sym, ap, subst}
use Rattle.std.specs.Prelude.{OnOk}
use Rattle.lx_abi.specs.declared.outcome.Outcome.{Outcome}
use Rattle.lx_abi.specs.Scripts.{choice_of}
use Rattle.lx_boot.specs.First.{first_shared}
use Rattle.lx_exec.specs.Programs.{booted}
use Rattle.lx_proc.specs.declared.state.Shared.{Shared}
use Rattle.lx_proc.specs.declared.state.UserState.{UserState}
use Rattle.lx_turn.specs.Linux.{linux}
use Rattle.lx_kernel.specs.Outcomes.{outcome_in}
use Rattle.pt_model.specs.Calls.{TalksOver}
use Rattle.pt_model.specs.Tracer.{first_tracer}
use Rattle.pt_model.specs.World.{first_world}
use Rattle.pt_model.specs.HostLaws.{HostsBeginAlike}
use Rattle.pt_model.specs.Hosting.{IsFresh, first_hosting}
use Rattle.pt_kernel.specs.Hosts.{Linux_host}
use Rattle.pt_kernel.specs.Seen.{next_of_host}
use Rattle.pt_schedule.specs.Schedules.{events_left}
use Rattle.pt_schedule.specs.declared.schedule.Schedule.{Schedule}
use Rattle.host_link.specs.LocalLinks.{host_of, schedule_of, given_of, faults_of, is_over}
use Rattle.host_link.specs.declared.fault.LinkFault.{LinkFault}
use Rattle.host_link.specs.declared.fault.LinkFault.TheVariants as cause
use Rattle.host_link.specs.declared.local.LocalLink.{LocalLink}
use Rattle.tr_core.specs.declared.tracing.TraceFault.TheVariants.{Inadmissible, Memory}
use Rattle.tr_core.specs.Settings.{options_by}
use Rattle.tr_core.specs.declared.settings.Options.{Options}
use Rattle.trace_run.specs.Local.{LocalRun, Feeds}
use Rattle.trace_run.specs.BootedRuns.{following, IsBooted, IsLeft, KeptRun, BootedRunsFail, BootedRunsTell, BootedTracesTell, KeptRunsFail}
use Rattle.trace_run.specs.LocalRuns.{IsGoing, FailsBy, IsLocalFault, LocalLinksFail, LocalLinksTell, LocalLinksTellParts}
use Rattle.trace_run.specs.Writings.{Writing, writer_in}
use Rattle.trace_run.specs.declared.running.Ended.{Ended}
use Rattle.trace_run.specs.declared.running.RunFault.{RunFault}
use Rattle.trace_run.specs.declared.running.RunFault.TheVariants.{Link, Trace, Output}

pub is_going : HostsBeginAlike Shared UserState → (link : LocalLink) (s : Shared) (b : UserState) → (host_of link).hosting ≡ first_hosting s b → (host_of link).failed ≡ false → faults_of link ≡ 0 → is_over link ≡ false → IsGoing link
is_going begin link s b hosting whole unbroken going = record {
  fresh = subst (λ (v : Linux_host). IsFresh v) (sym hosting) (begin s b).1;
  whole = whole;
  idle = ap (λ (v : Linux_host). v.pending) hosting;
  unbroken = unbroken;
  going = going;
}

pub booted_runs : LocalLinksTell → HostsBeginAlike Shared UserState → BootedRunsTell
unfolding LocalLinksTell BootedRunsTell IsBooted KeptRun IsLeft
booted_runs tell begin boot schedule script options link link' old new ended run is nothing ran left =
    let o : Options = following options boot.follow in
    let s : Shared = first_shared boot.limits boot.files boot.input in
    let b : UserState = booted boot.argv boot.env in
    let by_link : LocalRun next_of_host linux outcome_in o (choice_of script) (schedule_of link) s b ended run.trace (outcome_in (host_of link').hosting.running.shared) (host_of link').hosting.turns =
    tell o (choice_of script) link link' (writer_in old) (writer_in new) run.trace (ap (λ (w : Writing). Some w.bytes) nothing) (ap Some (sym left.1)) ended ran s b (is_going begin link s b is.0 is.1 is.2 is.3) is.0 in
    let by_schedule : LocalRun next_of_host linux outcome_in o (choice_of script) schedule s b ended run.trace (outcome_in (host_of link').hosting.running.shared) (host_of link').hosting.turns =
    subst (λ (y : Schedule). LocalRun next_of_host linux outcome_in o (choice_of script) y s b ended run.trace (outcome_in (host_of link').hosting.running.shared) (host_of link').hosting.turns) is.5 by_link in
    let by_end : LocalRun next_of_host linux outcome_in o (choice_of script) schedule s b run.ended run.trace (outcome_in (host_of link').hosting.running.shared) (host_of link').hosting.turns =
    subst (λ (y : Ended). LocalRun next_of_host linux outcome_in o (choice_of script) schedule s b y run.trace (outcome_in (host_of link').hosting.running.shared) (host_of link').hosting.turns) (sym left.0) by_schedule in
    let by_outcome : LocalRun next_of_host linux outcome_in o (choice_of script) schedule s b run.ended run.trace run.outcome (host_of link').hosting.turns =
    subst (λ (y : Outcome). LocalRun next_of_host linux outcome_in o (choice_of script) schedule s b run.ended run.trace y (host_of link').hosting.turns) (sym left.2) by_end in
    subst (λ (y : List ℕ). LocalRun next_of_host linux outcome_in o (choice_of script) schedule s b run.ended run.trace run.outcome y) (sym left.3) by_outcome

pub booted_traces : LocalLinksTellParts → HostsBeginAlike Shared UserState → BootedTracesTell
unfolding LocalLinksTellParts BootedTracesTell IsBooted
booted_traces tell begin boot schedule script options link link' old new result is ran =
    let o : Options = following options boot.follow in
    let s : Shared = first_shared boot.limits boot.files boot.input in
    let b : UserState = booted boot.argv boot.env in
    let going : IsGoing link = is_going begin link s b is.0 is.1 is.2 is.3 in
    let told = tell o (choice_of script) link link' old new result ran s b going is.0 in
    record {
      link = link;
      link' = link';
      ran = ran;
      going = going;
      begun = is.0;
      by = is.5;
      events = told.events;
      given = subst (λ (y : Schedule). TalksOver next_of_host linux outcome_in (options_by o) (choice_of script) first_tracer y (first_world s b).host told.events ran.runs.exchanges) is.5 told.given;
      fed = subst (λ (y : Schedule). OnOk result (Feeds next_of_host linux outcome_in (options_by o) (choice_of script) y (first_world s b) told.events)) is.5 told.fed;
      tells = told.tells;
    }

is_local : (events broken : ℕ) (fault : RunFault) → FailsBy events broken fault → IsLocalFault fault
is_local events broken (Link f) h = by_link f h where
  by_link : (f : LinkFault) → FailsBy events broken (Link f) → IsLocalFault (Link f)
  by_link cause.Memory h = tt
  by_link cause.TooMany h = tt
  by_link cause.Ended h = h
  by_link cause.Sequence h = h
  by_link cause.Read h = h
  by_link cause.Write h = h
  by_link cause.Malformed h = h
  by_link cause.Inadmissible h = h
is_local events broken (Trace Inadmissible) h = h
is_local events broken (Trace Memory) h = tt
is_local events broken Output h = tt

pub booted_fails : LocalLinksFail → HostsBeginAlike Shared UserState → BootedRunsFail
unfolding LocalLinksFail BootedRunsFail IsBooted
booted_fails fails begin boot schedule script options link link' old new (Ok ended) is ran = tt
booted_fails fails begin boot schedule script options link link' old new (Err fault) is ran =
    let s : Shared = first_shared boot.limits boot.files boot.input in
    let b : UserState = booted boot.argv boot.env in
    let events : given_of link + events_left (schedule_of link) ≡ events_left schedule = omega (arith, is.4, ap (λ (y : Schedule). events_left y) is.5) in
    subst (λ n. FailsBy n new.broken fault) events (fails (following options boot.follow) (choice_of script) link link' old new fault ran s b (is_going begin link s b is.0 is.1 is.2 is.3) is.0)

pub kept_fails : LocalLinksFail → HostsBeginAlike Shared UserState → KeptRunsFail
unfolding KeptRunsFail KeptRun BootedRunsFail
kept_fails fails begin boot schedule script options link link' old new fault is ran =
    is_local (events_left schedule) (writer_in new).broken fault (booted_fails fails begin boot schedule script options link link' (writer_in old) (writer_in new) (Err fault) is ran)
