-- The words of events give these events, to one thread.
use Rattle.std.proofs.Common.{◌≡◌, ◌⊎◌, ◌∙◌, ℕ, zero, suc, ◌-◌, ◌<◌, Bool, true, false, cond, List, [], ◌∷◌, ◌++◌}
use Rattle.std.proofs.Common.{map, Option, Some, None, refl, sym, ap, subst, inl, inr, arith}
use Rattle.std.specs.Prelude.{◌==◌, ◌&&◌, nat_lt, min}
use Rattle.std.specs.List.{AllByRecursion as Each}
use Rattle.std.specs.Option.{option_map}
use Rattle.std.proofs.lemmas.Bool.Decides.{nat_tests}
use Rattle.lx_abi.specs.Scripts.{choice_of}
use Rattle.lx_abi.specs.Status.{stop_of}
use Rattle.lx_abi.specs.Words.{words_of}
use Rattle.lx_abi.specs.declared.boot.Boot.{Boot}
use Rattle.lx_abi.specs.declared.outcome.Outcome.{Outcome}
use Rattle.lx_abi.specs.declared.schedule.Event.{Event}
use Rattle.lx_abi.specs.declared.schedule.Event.TheVariants.{Turn, Serve}
use Rattle.lx_abi.specs.declared.schedule.Word.{Word}
use Rattle.lx_abi.specs.declared.script.Rule.{Rule}
use Rattle.lx_boot.specs.First.{first_shared}
use Rattle.lx_exec.specs.Programs.{booted}
use Rattle.lx_kernel.specs.Outcomes.{outcome_in}
use Rattle.lx_model.specs.Kernel.{Script}
use Rattle.lx_model.specs.Machine.{Machine}
use Rattle.lx_proc.specs.declared.state.Shared.{Shared}
use Rattle.lx_proc.specs.declared.state.UserState.{UserState}
use Rattle.lx_turn.specs.Linux.{linux}
use Rattle.pt_kernel.specs.Seen.{given, next_of_host, sees}
use Rattle.pt_model.specs.Attending.{Schedules, is_ready}
use Rattle.pt_model.specs.Calls.{attends}
use Rattle.pt_model.specs.Parts.{Options}
use Rattle.pt_model.specs.Ptrace.{is_there}
use Rattle.pt_model.specs.Tracer.{request}
use Rattle.pt_model.specs.World.{World, first_world, happens}
use Rattle.pt_schedule.specs.Cycle.{next_able}
use Rattle.pt_schedule.specs.Schedules.{Readiness, Given, left_in_row, serve_of, end_of, next_row, go_on, by_default}
use Rattle.pt_schedule.specs.Schedules.{next_by, next_of, most_events, turn_with, worded}
use Rattle.pt_schedule.specs.Written.{IsNumbered, WordsReadBack, event_word}
use Rattle.pt_schedule.specs.declared.schedule.Order.TheVariants as order
use Rattle.pt_schedule.specs.declared.schedule.Schedule.{Schedule}
use Rattle.pt_schedule.specs.declared.worded.Row.{Row}
use Rattle.pt_schedule.specs.declared.worded.Worded.{Worded}
use Rattle.tr_core.specs.Settings.{options_by}
use Rattle.tr_core.specs.declared.settings.Options.{Options as Settings}
use Rattle.trace_run.specs.BootedRuns.{RunOf, following}
use Rattle.trace_run.specs.Local.{Feeds, LocalRun}
use Rattle.trace_run.specs.declared.local.Run.{Run}
use Rattle.trace_threads.specs.InTurn.{BeginServed}
use Rattle.trace_command.specs.Replays.{IsMadeAgain}
use Rattle.trace_command.specs.TurnsOut.{AreNumbered, behind, turns_text}

-- ---- any world that a schedule feeds

abbrev pub Fed : {W : Type 0} → (W → Readiness) → (W → Type 0) → (W → Type 0) → (W → Event → W) → Schedule → W
    → List Event → Type 0
Fed sight over asks after x w [] = over w ⊎ (given (next_of x (sight w)) ≡ None)
Fed sight over asks after x w (e ∷ es) =
    (y : Schedule)
    × (asks w × ((given (next_of x (sight w)) ≡ Some (e, y)) × Fed sight over asks after y (after w e) es))

abbrev pub Begins : {W : Type 0} → (W → Readiness) → (W → Event → W) → ℕ → W → Type 0
Begins sight after zero w = (sight w).ready ≡ false
Begins sight after (suc k) w = ((sight w).ready ≡ true) × Begins sight after k (after w Serve)

-- a schedule of words, and one of the words of events behind it

abbrev pub of : Worded → Schedule
of u = record { order = order.Worded u }

abbrev pub by : List Word → Bool → Option Row → ℕ → Schedule
by ws serving row left = of (record { words = ws; serving = serving; returning = None; row = row; left = left })

abbrev pub row_by : Option Row → Event → Option Row
row_by row (Turn p) = Some (record { pid = p; left = left_in_row p row })
row_by row Serve = row

-- ---- where the events have ended, though more were allowed, nobody is to have a turn

abbrev pub Stuck : Readiness → Option Row → Type 0
Stuck seen None = next_able seen.able seen.last_pid 0 ≡ None
Stuck seen (Some r) = ((seen.able r.pid && nat_lt 0 r.left) ≡ false) × (next_able seen.able seen.last_pid r.pid ≡ None)

go_none : (w : Worded) (seen : Readiness) (row : Option Row) → Stuck seen row → (go_on w seen row).event ≡ None
go_none w seen None h = ap (λ x. (next_row w x).event) h
go_none w seen (Some r) h =
    ap (λ b. (cond b (turn_with w r.pid (r.left - 1)) (next_row w (next_able seen.able seen.last_pid r.pid))).event) h.0
    ∙ ap (λ x. (next_row w x).event) h.1

none_given : (g : Given Schedule) → g.event ≡ None → given g ≡ None
none_given g h = ap (option_map (λ e. (e, g.schedule))) h

ended_too : (serving : Bool) (row : Option Row) (left : ℕ) (seen : Readiness) → (serving && seen.ready) ≡ false
    → ((left == 0) ≡ false → (seen.ready ≡ false) × Stuck seen row)
    → given (next_of (by [] serving row left) seen) ≡ None
unfolding next_by
ended_too serving row left seen s h = none_given _ (pick (left == 0) refl (serving && seen.ready) s)
  where
    here : Worded
    here = record { words = []; serving = serving; returning = None; row = row; left = left }

    anew : Worded
    anew = record { words = []; serving = true; returning = None; row = row; left = left }

    pick : (none : Bool) → (left == 0) ≡ none → (ready : Bool) → ready ≡ false
        → (cond none (end_of here) (cond ready (serve_of here) (by_default anew seen))).event ≡ None
    pick true e ready r = refl
    pick false e true r = absurd (cc r)
    pick false e false r =
        ap (λ b. (cond b (serve_of anew) (go_on anew seen row)).event) (h e).0 ∙ go_none anew seen row (h e).1

-- the word of an event gives it, where no request is served first
word_gives : (e : Event) (ws : List Word) (serving : Bool) (row : Option Row) (left : ℕ) (seen : Readiness) → 0 < left
    → (serving && seen.ready) ≡ false
    → given (next_of (by (event_word e ∷ ws) serving row left) seen) ≡ Some (e, by ws false (row_by row e) (left - 1))
unfolding next_by
word_gives (Turn p) ws serving row left seen some s =
    let some : (left == 0) ≡ false = grind (arith, nat_tests) in rw (some, s) refl
word_gives Serve ws serving row left seen some s =
    let some : (left == 0) ≡ false = grind (arith, nat_tests) in rw (some, s) refl

-- a request that is ready is served first
pub serve_given : (ws : List Word) (row : Option Row) (left : ℕ) (seen : Readiness) → 0 < left → seen.ready ≡ true
    → given (next_of (by ws true row left) seen) ≡ Some (Serve, by ws true row (left - 1))
unfolding next_by
serve_given ws row left seen some r =
    let some : (left == 0) ≡ false = grind (arith, nat_tests) in rw (some, r) refl

none_at : (left : ℕ) (seen : Readiness) → (left == 0) ≡ true → given (next_of (by [] true None left) seen) ≡ None
unfolding next_by
none_at left seen e = rw e refl

behind_none : (es : List Event) → behind 0 es ≡ es
behind_none [] = refl
behind_none (Turn p ∷ es) = ap (λ l. Turn p ∷ l) (behind_none es)
behind_none (Serve ∷ es) = ap (λ l. Serve ∷ l) (behind_none es)

behind_serve : (k : ℕ) (es : List Event) → behind (suc k) (Serve ∷ es) ≡ behind k es
behind_serve k es =
    ap (λ b. cond b [] (Serve ∷ []) ++ behind (cond b (suc k - 1) 0) es) (some_left k)
    ∙ ap (λ n. behind n es) (one_before k)
  where
    some_left : (k : ℕ) → nat_lt 0 (suc k) ≡ true
    some_left k = grind (arith, nat_tests)

    one_before : (k : ℕ) → suc k - 1 ≡ k
    one_before k = omega arith

-- ---- one after the other

-- Each event is made while something is asked and more are allowed. Behind them nothing is asked, so many were made, or
-- what is asked waits and nobody is to have a turn.
abbrev pub Allowed : {W : Type 0} → (W → Readiness) → (W → Type 0) → (W → Type 0) → (W → Event → W) → Option Row → ℕ
    → W → List Event → Type 0
Allowed sight over asks after row left w [] =
    over w ⊎ ((left ≡ 0) ⊎ (((sight w).ready ≡ false) × Stuck (sight w) row))
Allowed sight over asks after row left w (e ∷ es) =
    asks w × ((0 < left) × Allowed sight over asks after (row_by row e) (left - 1) (after w e) es)

module _ {W : Type 0} (sight : W → Readiness) (over asks : W → Type 0) (after : W → Event → W) where
  stopped : (w : W) (serving : Bool) (row : Option Row) (left : ℕ) → (serving && (sight w).ready) ≡ false
      → Allowed sight over asks after row left w [] → Fed sight over asks after (by [] serving row left) w []
  stopped w serving row left s (inl none) = inl none
  stopped w serving row left s (inr (inl used)) =
      inr (ended_too serving row left (sight w) s (λ some.
      let none : (left == 0) ≡ true = grind (arith, nat_tests, used) in absurd (cc (sym none ∙ some))))
  stopped w serving row left s (inr (inr still)) = inr (ended_too serving row left (sight w) s (λ some. still))

  -- behind the first requests a word gives each event
  later : (es : List Event) (w : W) (serving : Bool) (row : Option Row) (left : ℕ)
      → (serving && (sight w).ready) ≡ false → Allowed sight over asks after row left w es
      → Fed sight over asks after (by (map event_word es) serving row left) w es
  later [] w serving row left s h = stopped w serving row left s h
  later (e ∷ es) w serving row left s h = (
    by (map event_word es) false (row_by row e) (left - 1),
    (
      h.0,
      (
        word_gives e (map event_word es) serving row left (sight w) h.1.0 s,
        later es (after w e) false (row_by row e) (left - 1) refl h.1.1,
      ),
    ),
  )

  -- before them the words wait
  first : (k : ℕ) (es : List Event) (w : W) (left : ℕ) → Begins sight after k w → BeginServed k es
      → Allowed sight over asks after None left w es
      → Fed sight over asks after (by (map event_word (behind k es)) true None left) w es
  first zero es w left b begun h =
      subst (λ l. Fed sight over asks after (by (map event_word l) true None left) w es) (sym (behind_none es))
      (later es w true None left b h)
  first (suc k) [] w left b begun (inl none) = inl none
  first (suc k) [] w left b begun (inr (inl used)) = inr (none_at left (sight w) (grind (arith, nat_tests, used)))
  first (suc k) [] w left b begun (inr (inr still)) = absurd (cc (sym b.0 ∙ still.0))
  first (suc k) (Turn p ∷ es) w left b begun h = absurd begun
  first (suc k) (Serve ∷ es) w left b begun h =
      subst (λ l. Fed sight over asks after (by (map event_word l) true None left) w (Serve ∷ es))
      (sym (behind_serve k es)) (
        by (map event_word (behind k es)) true None (left - 1),
        (
          h.0,
          (
            serve_given (map event_word (behind k es)) None left (sight w) h.1.0 b.0,
            first k es (after w Serve) (left - 1) b.1 begun h.1.1,
          ),
        ),
      )

-- ---- the world of a boot

-- the first three requests are ready at once, and then process 1 runs
module _ {S B : Type 0} (m : Machine S B) (outcome : S → Outcome) (o : Options) (script : Script) where
  abbrev served : World S B → World S B
  served w = happens m outcome o script w Serve

  record ServesThree (w : World S B) : Type 0 where
    first : is_ready m outcome (attends o w) ≡ true
    second : is_ready m outcome (attends o (served w)) ≡ true
    third : is_ready m outcome (attends o (served (served w))) ≡ true
    waits : is_ready m outcome (attends o (served (served (served w)))) ≡ false

serves_three : {S B : Type 0} (m : Machine S B) (outcome : S → Outcome) (o : Options) (script : Script) (s : S) (b : B)
    (follow : Bool) → o.follow ≡ follow → ServesThree m outcome o script (first_world s b)
unfolding stop_of
serves_three m outcome o script s b true e =
    rw e (record { first = refl; second = refl; third = refl; waits = refl })
serves_three m outcome o script s b false e =
    rw e (record { first = refl; second = refl; third = refl; waits = refl })

-- ---- at Linux

abbrev pub Linux_world : Type 0
Linux_world = World Shared UserState

abbrev pub sight : Options → Linux_world → Readiness
sight o w = sees (attends o w)

abbrev pub over : Options → Linux_world → Type 0
over o w = request o w.tracer.focus ≡ None

abbrev pub asks : Options → Linux_world → Type 0
asks o w = is_there (request o w.tracer.focus) ≡ true

abbrev pub after : Options → Script → Linux_world → Event → Linux_world
after o script w e = happens linux outcome_in o script w e

pub to_fed : (o : Options) (script : Script) (es : List Event) (x : Schedule) (w : Linux_world)
    → Feeds next_of_host linux outcome_in o script x w es → Fed (sight o) (over o) (asks o) (after o script) x w es
to_fed o script [] x w h = h
to_fed o script (e ∷ es) x w h = (h.0, (h.1.0, (h.1.1, to_fed o script es h.0 (after o script w e) h.1.2)))

from_fed : (o : Options) (script : Script) (es : List Event) (x : Schedule) (w : Linux_world)
    → Fed (sight o) (over o) (asks o) (after o script) x w es → Feeds next_of_host linux outcome_in o script x w es
from_fed o script [] x w h = h
from_fed o script (e ∷ es) x w h = (h.0, (h.1.0, h.1.1.0, from_fed o script es h.0 (after o script w e) h.1.1.1))

pub begins : (o : Options) (script : Script) (s : Shared) (b : UserState)
    → Begins (sight o) (after o script) 3 (first_world s b)
begins o script s b =
    let three = serves_three linux outcome_in o script s b o.follow refl in
    (three.first, (three.second, (three.third, three.waits)))

-- the world that a boot begins, and its tracer's options
abbrev pub world_of : Boot → Linux_world
world_of boot = first_world (first_shared boot.limits boot.files boot.input) (booted boot.argv boot.env)

abbrev pub asked_of : Settings → Boot → Options
asked_of o boot = options_by (following o boot.follow)

-- so many events at most are allowed from there on, these among them
abbrev pub AllowedFrom : Settings → List Rule → Boot → ℕ → List Event → Type 0
AllowedFrom o script boot left events =
    Allowed (sight (asked_of o boot)) (over (asked_of o boot)) (asks (asked_of o boot))
    (after (asked_of o boot) (choice_of script)) None left (world_of boot) events

-- ---- what is written of them

kept_numbered : (left : ℕ) (es : List Event) → AreNumbered es → Each IsNumbered (map event_word (behind left es))
kept_numbered left [] h = tt
kept_numbered left (Turn p ∷ es) h = (h.0, kept_numbered 0 es h.1)
kept_numbered left (Serve ∷ es) h = go (nat_lt 0 left) (kept_numbered (left - 1) es h.1) (kept_numbered 0 es h.1)
  where
    go : (b : Bool) → Each IsNumbered (map event_word (behind (left - 1) es))
        → Each IsNumbered (map event_word (behind 0 es))
        → Each IsNumbered (map event_word (cond b [] (Serve ∷ []) ++ behind (cond b (left - 1) 0) es))
    go true f g = f
    go false f g = (h.0, g)

-- The words that are written of such events are read, and give them.
pub made_again : WordsReadBack → (o : Settings) (script : List Rule) (boot : Boot) (limit : ℕ) (events : List Event)
    → BeginServed 3 events → AllowedFrom o script boot (min limit most_events) events → AreNumbered events
    → IsMadeAgain o script boot limit events
made_again back o script boot limit events begun allowed numbers =
    let p : Options = asked_of o boot in
    let choice : Script = choice_of script in
    let words : List Word = map event_word (behind 3 events) in
    record {
      words = words;
      read = back words (kept_numbered 3 events numbers);
      given =
          from_fed p choice events (worded words limit) (world_of boot)
          (first (sight p) (over p) (asks p) (after p choice) 3 events (world_of boot) (min limit most_events)
          (begins p choice (first_shared boot.limits boot.files boot.input) (booted boot.argv boot.env)) begun allowed);
    }

-- A run of them, whatever chose them, is one by these words.
pub comes_again : {X : Type 0} (choose : Schedules X Shared UserState) (x : X) (boot : Boot) (limit : ℕ)
    (script : List Rule) (options : Settings) (run : Run)
    (r : LocalRun choose linux outcome_in (following options boot.follow) (choice_of script) x
    (first_shared boot.limits boot.files boot.input) (booted boot.argv boot.env) run.ended run.trace run.outcome
    run.turns)
    → IsMadeAgain options script boot limit r.events
    → (again : List Word)
    × ((words_of (turns_text r.events) ≡ Some again) × RunOf boot (worded again limit) script options run)
comes_again choose x boot limit script options run r it = (
  it.words,
  (
    it.read,
    record {
      events = r.events;
      given = it.given;
      turned = r.turned;
      same_outcome = r.same_outcome;
      lost = r.lost;
      later = r.later;
      begins = r.begins;
      shown = r.shown;
      whole = r.whole;
      told = r.told;
      out_of_turns = r.out_of_turns;
    },
  ),
)
