-- Runs by words `p` and `p.` in which nobody was able.
use Rattle.std.proofs.Common.{◌≡◌, ◌⊎◌, ⊎_elim, ℕ, ◌+◌, ◌≤◌, true, List, [], ◌∷◌, length, Option, Some, None, refl, sym, ap, subst, ◌∙◌, arith}
use Rattle.std.specs.Prelude.{min}
use Rattle.lx_abi.specs.declared.schedule.Event.{Event}
use Rattle.lx_abi.specs.Scripts.{choice_of}
use Rattle.lx_boot.specs.First.{first_shared}
use Rattle.lx_exec.specs.Programs.{booted}
use Rattle.lx_kernel.specs.First.{first_run}
use Rattle.lx_kernel.specs.Laws.{after_all, BootsRunAlike}
use Rattle.lx_kernel.specs.Outcomes.{outcome_in}
use Rattle.lx_kernel.specs.Runs.{Run as KernelRun, after_turn}
use Rattle.lx_model.specs.Kernel.{Script, kernel_run, first_kernel}
use Rattle.lx_proc.specs.declared.state.Shared.{Shared}
use Rattle.lx_proc.specs.declared.state.UserState.{UserState}
use Rattle.lx_turn.specs.Linux.{linux}
use Rattle.pt_kernel.specs.Seen.{sees, next_of_host}
use Rattle.pt_model.specs.Calls.{attends}
use Rattle.pt_model.specs.Headline.{traced_run, plain_run}
use Rattle.pt_model.specs.Parts as parts_of
use Rattle.pt_model.specs.Ptrace.{is_there}
use Rattle.pt_model.specs.Tracer.{request}
use Rattle.pt_model.specs.World.{World, happens, world_run, effective, first_world}
use Rattle.pt_schedule.specs.declared.schedule.Schedule.{Schedule}
use Rattle.pt_schedule.specs.Few.{EventsAreFew}
use Rattle.pt_schedule.specs.Schedules.{Given, GivenTurn, next_of, next_turn_of, events_left, most_events, worded}
use Rattle.pt_schedule.specs.Untraced.{readiness_of}
use Rattle.plain_run.specs.Runs.{IsRun, RunsAreTurns}
use Rattle.tr_core.specs.Laws.{TextsAreWhole}
use Rattle.tr_core.specs.Settings.{options_by}
use Rattle.tr_core.specs.declared.settings.Options.{Options}
use Rattle.trace_run.specs.BootedRuns.{following}
use Rattle.trace_run.specs.Local.{Feeds}
use Rattle.pt_schedule.specs.Eager.{GivesTurns}
use Rattle.pt_kernel.specs.Eager.{GivesEvents, EagerTurns, EagerTurnsArePlain}
use Rattle.eager_runs.specs.Runs.{StuckRuns}
use Rattle.eager_runs.proofs.Whole.{fed_given, one_pid, no_pid}
use Rattle.eager_runs.proofs.Spent.{gave_so}

-- the turns of a run are those that were given, where there is none behind them
same_turns : (ps qs : List ℕ) (k : KernelRun) (s : Schedule) (z y : KernelRun) (t : Schedule) → GivesTurns k s ps z t → (next_turn_of t (readiness_of z)).pid ≡ None → IsRun k s qs y → qs ≡ ps
same_turns [] [] k s z y t g e h = refl
same_turns [] (q ∷ qs) k s z y t g e h = absurd (no_pid (next_turn_of s (readiness_of k)).pid q (subst (λ (x : Schedule). (next_turn_of x (readiness_of k)).pid ≡ None) g.1 (subst (λ (x : KernelRun). (next_turn_of t (readiness_of x)).pid ≡ None) g.0 e)) h.0)
same_turns (p ∷ ps) [] k s z y t g e h = absurd (no_pid (next_turn_of s (readiness_of k)).pid p h.0 g.0)
same_turns (p ∷ ps) (q ∷ qs) k s z y t g e h =
    let next : GivenTurn = next_turn_of s (readiness_of k) in
    let same : p ≡ q = one_pid next.pid p q g.0 h.0 in
    ap (λ x. x ∷ qs) (sym same) ∙ ap (λ l. p ∷ l) (same_turns ps qs (after_turn k p) next.schedule z y t g.1 e (subst (λ x. IsRun (after_turn k x) next.schedule qs y) (sym same) h.1))

-- what is left of the schedule
spent : EventsAreFew → (o : parts_of.Options) (script : Script) (es : List Event) (x : Schedule) (w : World Shared UserState) (y : Schedule) → GivesEvents o script x w es y → events_left x ≡ length es + events_left y
spent few o script [] x w y g = let it : events_left x ≡ events_left y = ap events_left (sym g) in omega (arith, it)
spent few o script (e ∷ es) x w y g =
    let it : record { event = Some e; schedule = g.0 } ≡ next_of x (sees (attends o w)) = gave_so (next_of x (sees (attends o w))) (next_of x (sees (attends o w))).event e g.0 refl g.1.1 in
    let one : events_left (next_of x (sees (attends o w))).schedule + 1 ≡ events_left x = few x (sees (attends o w)) e (sym (ap (λ (v : Given Schedule). v.event) it)) in
    let here : events_left g.0 ≡ events_left (next_of x (sees (attends o w))).schedule = ap (λ (v : Given Schedule). events_left v.schedule) it in
    let more : events_left g.0 ≡ length es + events_left y = spent few o script es g.0 (happens linux outcome_in o script w e) y g.1.2 in
    omega (arith, one, here, more)

-- why there were no more
stops : (o : parts_of.Options) (script : Script) (es : List Event) (x : Schedule) (w : World Shared UserState) (f : Feeds next_of_host linux outcome_in o script x w es)
    → (request o (world_run linux outcome_in o script w es).tracer.focus ≡ None) ⊎ (next_of_host (fed_given o script es x w f).0 (attends o (world_run linux outcome_in o script w es)) ≡ None)
stops o script [] x w f = f
stops o script (e ∷ es) x w f = stops o script es f.0 (happens linux outcome_in o script w e) f.1.2

module _ (few : EventsAreFew) (alike : BootsRunAlike) (are_turns : RunsAreTurns) (plain : EagerTurnsArePlain) (whole : TextsAreWhole) where
  pub stuck_runs : StuckRuns
  unfolding StuckRuns EagerTurnsArePlain
  stuck_runs boot script options ws eager limit n run of e more l most z to =
      let o : Options = following options boot.follow in
      let s : Shared = first_shared boot.limits boot.files boot.input in
      let b : UserState = booted boot.argv boot.env in
      let world : World Shared UserState = traced_run linux outcome_in (options_by o) (choice_of script) s b of.events in
      let turns : List ℕ = effective linux outcome_in (options_by o) (choice_of script) (first_world s b) of.events in
      let given = fed_given (options_by o) (choice_of script) of.events (worded ws limit) (first_world s b) of.given in
      let it : EagerTurns (options_by o) (first_run boot script) ws n world turns given.0 (plain_run linux outcome_in (options_by o) (choice_of script) s b of.events) =
      plain (options_by o) (whole o.string_limit o.limit_in_range) (first_run boot script) s b refl refl ws eager limit n of.events given.0 given.1 (subst (λ ps. length ps ≤ n) of.turned l) most in
      let all : min limit most_events ≡ length of.events + events_left given.0 = spent few (options_by o) (choice_of script) of.events (worded ws limit) (first_world s b) given.0 given.1 in
      let none : next_of_host given.0 (attends (options_by o) world) ≡ None =
      ⊎_elim (λ (h : request (options_by o) world.tracer.focus ≡ None). absurd (not_there (request (options_by o) world.tracer.focus) h (of.out_of_turns e))) (λ h. h) (stops (options_by o) (choice_of script) of.events (worded ws limit) (first_world s b) of.given) in
      let last = it.ended (record { asks = of.out_of_turns e; more = omega (arith, all, more); none = none }) in
      let same : to.pids ≡ run.turns = same_turns turns to.pids (first_run boot script) (worded ws n) (after_all (first_run boot script) turns) z it.left it.given last to.is_run ∙ sym of.turned in
      let end : z ≡ after_all (first_run boot script) run.turns = are_turns (first_run boot script) (worded ws n) z to ∙ ap (after_all (first_run boot script)) same in (
        same,
        record {
          outcome = ap (λ (r : KernelRun). outcome_in r.running.shared) end ∙ ap outcome_in (alike boot script run.turns).shared
              ∙ ap (λ ps. outcome_in (kernel_run linux (choice_of script) boot.follow (first_kernel s b) ps).shared) of.turned ∙ sym of.same_outcome;
          log = ap (λ (r : KernelRun). r.running.log) end;
        },
      )
    where
      not_there : {X : Type 0} (x : Option X) → x ≡ None → is_there x ≡ true → ⊥
      not_there None h g = absurd (cc g)
      not_there (Some x) h g = absurd (cc h)
