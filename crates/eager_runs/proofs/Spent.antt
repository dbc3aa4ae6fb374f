-- Traces to any writer by words `p` and `p.`.
use Rattle.std.proofs.Common.{◌≡◌, ℕ, ◌≤◌, ◌<◌, Bool, true, false, cond, List, [], ◌∷◌, length, Option, Some, None, refl, sym, ap, ap₂, subst, ◌∙◌, arith}
use Rattle.std.specs.Prelude.{min, Ok}
use Rattle.std.specs.Option.{option_map}
use Rattle.std.proofs.lemmas.List.{length-append}
use Rattle.std.specs.Io.KnownBytes.{Appends}
use Rattle.lx_abi.specs.declared.ptrace.Request.{Request}
use Rattle.lx_abi.specs.declared.schedule.Event.{Event}
use Rattle.lx_abi.specs.declared.schedule.Event.TheVariants.{Turn, Serve}
use Rattle.lx_abi.specs.Scripts.{choice_of}
use Rattle.lx_boot.specs.First.{first_shared}
use Rattle.lx_exec.specs.Programs.{booted}
use Rattle.lx_kernel.specs.First.{first_run}
use Rattle.lx_kernel.specs.Laws.{after_all}
use Rattle.lx_kernel.specs.Outcomes.{outcome_in}
use Rattle.lx_model.specs.Kernel.{Script}
use Rattle.lx_proc.specs.declared.state.Shared.{Shared}
use Rattle.lx_proc.specs.declared.state.UserState.{UserState}
use Rattle.lx_turn.specs.Linux.{linux}
use Rattle.pt_kernel.specs.Seen.{sees}
use Rattle.pt_model.specs.Calls.{attends}
use Rattle.pt_model.specs.Headline.{traced_run, plain_run}
use Rattle.pt_model.specs.Parts as parts_of
use Rattle.pt_model.specs.Ptrace.{is_effective}
use Rattle.pt_model.specs.Tracer.{request}
use Rattle.pt_model.specs.World.{World, happens, turns_of, effective, first_world}
use Rattle.pt_schedule.specs.declared.schedule.Schedule.{Schedule}
use Rattle.pt_schedule.specs.declared.schedule.Order.TheVariants as order
use Rattle.pt_schedule.specs.Schedules.{Given, next_of, events_left, most_events, worded}
use Rattle.pt_schedule.proofs.Spending.{next_less}
use Rattle.tr_core.specs.Laws.{TextsAreWhole}
use Rattle.tr_core.specs.Settings.{options_by, layout_by}
use Rattle.tr_core.specs.declared.settings.Options.{Options}
use Rattle.tr_line.specs.Lines.{rendering}
use Rattle.tr_line.specs.Printing.{RenderingGrows}
use Rattle.trace_run.specs.BootedRuns.{following}
use Rattle.pt_schedule.specs.Eager.{GivesTurns}
use Rattle.pt_kernel.specs.Eager.{GivesEvents, EagerTurns, EagerTurnsArePlain}
use Rattle.eager_runs.specs.Traces.{EagerTraces}
use Rattle.eager_runs.proofs.Whole.{fed_given, past_over}

-- There are no more events than the schedule had, and no more turns

pub gave_so : (g : Given Schedule) (x : Option Event) (e : Event) (z : Schedule) → g.event ≡ x → option_map {U = Event × Schedule} (λ e. (e, g.schedule)) x ≡ Some (e, z) → record { event = Some e; schedule = z } ≡ g
gave_so g None e z f h = absurd (cc h)
gave_so g (Some x) e z f h =
    let pair : ◌≡◌ {A = Event × Schedule} (x, g.schedule) (e, z) = one_pair (x, g.schedule) (e, z) h in
    ap₂ {B = Schedule} given_by (ap (λ (a : Event × Schedule). Some a.0) (sym pair) ∙ sym f) (sym (ap (λ (a : Event × Schedule). a.1) pair))
  where
    given_by : Option Event → Schedule → Given Schedule
    given_by e s = record { event = e; schedule = s }

    one_pair : (a b : Event × Schedule) → Some a ≡ Some b → a ≡ b
    one_pair a b h = cc h

few_events : (o : parts_of.Options) (script : Script) (es : List Event) (x : Schedule) (w : World Shared UserState) (y : Schedule) → GivesEvents o script x w es y → length es ≤ events_left x
few_events o script [] x w y g = omega arith
few_events o script (e ∷ es) x w y g =
    let less : events_left g.0 < events_left x = next_less x (sees (attends o w)) e g.0 (gave_so (next_of x (sees (attends o w))) (next_of x (sees (attends o w))).event e g.0 refl g.1.1) in
    let more : length es ≤ events_left g.0 = few_events o script es g.0 (happens linux outcome_in o script w e) y g.1.2 in
    omega (arith, less, more)

one_turn : (b : Bool) (p : ℕ) → length (cond b (p ∷ []) []) ≤ 1
one_turn true p = omega arith
one_turn false p = omega arith

turns_one : (w : World Shared UserState) (q : Option Request) (e : Event) → length (turns_of linux w q e) ≤ 1
turns_one w None e = omega arith
turns_one w (Some q) (Turn p) = one_turn (is_effective linux w.host.shared p (w.host.procs p)) p
turns_one w (Some q) Serve = omega arith

few_turns : (o : parts_of.Options) (script : Script) (es : List Event) (w : World Shared UserState) → length (effective linux outcome_in o script w es) ≤ length es
few_turns o script [] w = omega arith
few_turns o script (e ∷ es) w =
    let here : length (turns_of linux w (request o w.tracer.focus) e) ≤ 1 = turns_one w (request o w.tracer.focus) e in
    let more : length (effective linux outcome_in o script (happens linux outcome_in o script w e) es) ≤ length es = few_turns o script es (happens linux outcome_in o script w e) in
    let both = length-append (turns_of linux w (request o w.tracer.focus) e) (effective linux outcome_in o script (happens linux outcome_in o script w e) es) in
    omega (arith, here, more, both)

module _ (plain : EagerTurnsArePlain) (whole : TextsAreWhole) (grows : RenderingGrows) where
  pub eager_traces : EagerTraces
  unfolding EagerTraces EagerTurnsArePlain
  eager_traces boot script options ws eager limit ended old new of =
      let o : Options = following options boot.follow in
      let s : Shared = first_shared boot.limits boot.files boot.input in
      let b : UserState = booted boot.argv boot.env in
      let world : World Shared UserState = traced_run linux outcome_in (options_by o) (choice_of script) s b of.events in
      let turns : List ℕ = effective linux outcome_in (options_by o) (choice_of script) (first_world s b) of.events in
      let given = fed_given (options_by o) (choice_of script) of.events (worded ws limit) (first_world s b) of.fed in
      let events : length of.events ≤ min limit most_events = few_events (options_by o) (choice_of script) of.events (worded ws limit) (first_world s b) given.0 given.1 in
      let some : length turns ≤ length of.events = few_turns (options_by o) (choice_of script) of.events (first_world s b) in
      let few : length turns ≤ most_events = omega (arith, events, some) in
      let it : (n : ℕ) → length turns ≤ n → n ≤ most_events → EagerTurns (options_by o) (first_run boot script) ws n world turns given.0 (plain_run linux outcome_in (options_by o) (choice_of script) s b of.events) =
      λ n l most. plain (options_by o) (whole o.string_limit o.limit_in_range) (first_run boot script) s b refl refl ws eager limit n of.events given.0 given.1 l most in
      let shows = (it most_events few (omega arith)).shows in
      let grown = grows (layout_by o) world.printed shows.tells.later in
      record {
        turns = turns;
        few = few;
        given = λ n l.
            let least : length turns ≤ min n most_events = omega (arith, l, few) in
            let same : min (min n most_events) most_events ≡ min n most_events = omega arith in
            let e = it (min n most_events) least (omega arith) in
            (e.left, subst (λ i. GivesTurns (first_run boot script) (with_left i) turns (after_all (first_run boot script) turns) e.left) same e.given);
        part = (rendering (layout_by o) world.printed, (grown.later, (grown.whole ∙ ap (rendering (layout_by o)) shows.tells.begins, of.tells.shown)));
        whole = λ x e. subst (λ t. Appends old.contents new.contents t) (ap (rendering (layout_by o)) (shows.tells.whole (past_over world.tracer.focus x ((of.tells.whole x (ap (λ y. Ok y) e)).told)))) of.tells.shown;
      }
    where
      with_left : ℕ → Schedule
      with_left i = record { order = order.Worded (record { words = ws; serving = true; returning = None; row = None; left = i }) }
