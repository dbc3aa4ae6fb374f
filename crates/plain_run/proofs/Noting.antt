-- What turns log, with what their processes could read.
use Rattle.std.proofs.Common.{◌≡◌, Bool, ℕ, zero, suc, ◌-◌, ◌+◌, ◌<◌, ◌≤◌, true, false, List, [], ◌∷◌, ◌++◌, Option, Some, None, refl, sym, ap, ap₂, subst, ◌∙◌, append-nil, append_assoc, arith}
use Rattle.std.specs.Option.{option_map, option_to_list}
use Rattle.lx_abi.specs.declared.log.Call.{Call}
use Rattle.lx_abi.specs.declared.log.Cause.{Cause}
use Rattle.lx_abi.specs.declared.log.Item.{Item}
use Rattle.lx_abi.specs.declared.script.Choice.{Choice}
use Rattle.lx_abi.specs.declared.signal.Signal.{Signal}
use Rattle.lx_abi.specs.Log.{Note, Noted, entries, pid_of}
use Rattle.lx_abi.specs.Scripts.{choice_of}
use Rattle.lx_model.specs.declared.event.PtraceEvent.{PtraceEvent}
use Rattle.lx_model.specs.Finite.{Running, at, bore, ran}
use Rattle.lx_model.specs.Kernel.{choice_at, traces}
use Rattle.lx_model.specs.Machine.{Machine, Ran, Goes, Calls, Faults, Takes, Answer, Refused, Returns, Jumps, Execs, Bears, Blocks, Ends, Took, Passes, Stops, Kills}
use Rattle.lx_model.specs.Turn.{Out, dies, stepped, answered, halts, took, wakes, lives, killed_or, turn}
use Rattle.lx_model.specs.declared.event.PtraceEvent.TheVariants.{Plain}
use Rattle.lx_model.specs.declared.stage.Stage.{Stage}
use Rattle.lx_model.specs.declared.stage.Stage.TheVariants as stages
use Rattle.lx_model.specs.declared.stage.Task.{Task}
use Rattle.lx_model.specs.declared.stage.Task.TheVariants.{Alive, Dying, Gone}
use Rattle.lx_proc.specs.declared.state.Shared.{Shared}
use Rattle.lx_proc.specs.declared.state.UserState.{UserState}
use Rattle.lx_turn.specs.Linux.{linux}
use Rattle.lx_kernel.specs.Advances.{Quietly, Leads}
use Rattle.lx_kernel.specs.Runs.{Run, turn_in, after_turn}
use Rattle.lx_kernel.specs.Tracing.{task_in}
use Rattle.lx_kernel.specs.Laws.{after_all}
use Rattle.lx_kernel.proofs.Placing.{at_placed}
use Rattle.pt_schedule.specs.declared.schedule.Schedule.{Schedule}
use Rattle.pt_schedule.specs.declared.schedule.TurnRun.{TurnRun}
use Rattle.pt_schedule.specs.Rows.{run_of, after_turns as left_after, Continues}
use Rattle.pt_schedule.specs.Schedules.{Given, GivenTurn, given_turn, next_turn_of, unserved}
use Rattle.pt_schedule.specs.Untraced.{readiness_of}
use Rattle.pt_schedule.proofs.Rowing.{runs_are_turns, none_after, more_after}
use Rattle.plain_run.specs.InRows.{InRow}
use Rattle.plain_run.specs.Notes.{note_at, noted_in, with_item, notes_of, turns_of, IsNoted, IsTurned, RunsNoted}
use Rattle.plain_run.specs.Runs.{IsRun}
use Rattle.plain_run.proofs.Turning.{Made, same_run, after_unserved, told_unserved}

-- What a turn logs is of its process, nothing is done beside, and the process can still read what it could

abbrev Fits : {S B : Type 0} → Machine S B → ℕ → Out S B → Option Noted → Type 0
Fits m p o None = Unit {0}
Fits m p o (Some n) = (pid_of n.item ≡ p) × (o.event ≡ Plain) × (note_at m o.task ≡ n.note)

module _ {S B : Type 0} (m : Machine S B) where
  abbrev LogsOwn : ℕ → Out S B → Type 0
  LogsOwn p o = Fits m p o o.item

  dies_fits : (s : S) (p w : ℕ) (stage : Stage) → LogsOwn p (dies m s p w stage)
  dies_fits s p w stage = (refl, refl, refl)

  stepped_fits : (s : S) (p : ℕ) (b : B) (r : Ran S B) → LogsOwn p (stepped m s p b r)
  stepped_fits s p b (Goes c) = tt
  stepped_fits s p b Calls = (refl, refl, refl)
  stepped_fits s p b (Faults signal cause) = tt
  stepped_fits s p b (Takes t signal cause) = (refl, refl, refl)

  answered_fits : (s : S) (child p : ℕ) (b : B) (call : Call) (a : Answer S B) → LogsOwn p (answered m s child p b call a)
  answered_fits s child p b call (Refused e) = tt
  answered_fits s child p b call (Returns t c x) = tt
  answered_fits s child p b call (Jumps t c) = tt
  answered_fits s child p b call (Execs t c) = tt
  answered_fits s child p b call (Bears t c born) = tt
  answered_fits s child p b call Blocks = tt
  answered_fits s child p b call (Ends w) = dies_fits s p w (stages.Doing call)

  halts_fits : (continued : Bool) (s : S) (p : ℕ) (b : B) (signal : Signal) → LogsOwn p (halts continued m s p b signal)
  halts_fits true s p b signal = tt
  halts_fits false s p b signal = (refl, refl, refl)

  took_fits : (s : S) (p : ℕ) (b : B) (signal : Signal) (cause : Cause) (t : Took S B) → LogsOwn p (took m s p b signal cause t)
  took_fits s p b signal cause (Passes t c) = tt
  took_fits s p b signal cause Stops = halts_fits (m.continued s p) s p b signal
  took_fits s p b signal cause (Kills w) = dies_fits s p w (stages.Taken signal cause)

  wakes_fits : (continued : Bool) (s : S) (p : ℕ) (b : B) (signal : Signal) → LogsOwn p (wakes continued m s p b signal)
  wakes_fits true s p b signal = tt
  wakes_fits false s p b signal = tt

  lives_fits : (c : Choice) (s : S) (child p : ℕ) (b : B) (stage : Stage) → LogsOwn p (lives m c s child p b stage)
  lives_fits c s child p b stages.Born = tt
  lives_fits c s child p b stages.Run = stepped_fits s p b (m.step s p b)
  lives_fits c s child p b (stages.Faulting signal cause) = (refl, refl, refl)
  lives_fits c s child p b (stages.Entered joined) = tt
  lives_fits c s child p b (stages.Doing call) = answered_fits s child p b call (m.call s child p call b)
  lives_fits c s child p b (stages.Replaced call x) = tt
  lives_fits c s child p b (stages.Acted call x replaced) = (refl, refl, refl)
  lives_fits c s child p b stages.Finished = tt
  lives_fits c s child p b (stages.Taken signal cause) = took_fits s p b signal cause (m.take s p signal cause b)
  lives_fits c s child p b stages.Dropped = tt
  lives_fits c s child p b (stages.Stopped signal) = wakes_fits (m.continued s p) s p b signal
  lives_fits c s child p b stages.Released = tt
  lives_fits c s child p b stages.Woken = tt

  killed_fits : (killed : Bool) (c : Choice) (s : S) (child p : ℕ) (b : B) (stage : Stage) → LogsOwn p (killed_or killed m c s child p b stage)
  killed_fits true c s child p b stage = dies_fits s p 9 stage
  killed_fits false c s child p b stage = lives_fits c s child p b stage

  turn_fits : (c : Choice) (s : S) (child p : ℕ) (task : Task B) → LogsOwn p (turn m c s child p task)
  turn_fits c s child p (Alive b stage) = killed_fits (m.killed s p) c s child p b stage
  turn_fits c s child p (Dying w) = tt
  turn_fits c s child p Gone = tt

fits_in : (k : Run) (p : ℕ) → Fits linux p (turn_in k p) (turn_in k p).item
fits_in k p =
    turn_fits linux (choice_at linux (choice_of k.script) (traces k.follow p) (λ n. entries p n k.running.log) (at Gone k.running.tasks p))
    k.running.shared k.running.child p (at Gone k.running.tasks p)

task_behind : (k : Run) (p : ℕ) → (turn_in k p).event ≡ Plain → task_in (after_turn k p) p ≡ (turn_in k p).task
task_behind k p plain =
    ap (λ (v : Running Shared UserState). at Gone v.tasks p) (ap (bore (ran k.running p (turn_in k p))) plain)
    ∙ at_placed k.running.tasks p (turn_in k p).task

noted_there : (k : Run) (p : ℕ) (n : Noted) → (turn_in k p).item ≡ Some n → noted_in (after_turn k p) n.item ≡ n
noted_there k p n e =
    let own : Fits linux p (turn_in k p) (Some n) = subst (λ o. Fits linux p (turn_in k p) o) e (fits_in k p) in
    ap (λ note. noted n.item note)
    (ap (λ q. note_at linux (task_in (after_turn k p) q)) own.0 ∙ ap (λ t. note_at linux t) (task_behind k p own.1) ∙ own.2)
  where
    noted : Item → Note → Noted
    noted item note = record { item = item; note = note }

-- One turn, and quiet ones

with_turn : (k : Run) (p : ℕ) (o : Option Noted) → (turn_in k p).item ≡ o → (ns : List Noted)
    → with_item (after_turn k p) ns (option_map (λ (n : Noted). n.item) o) ≡ ns ++ notes_of k (p ∷ [])
unfolding notes_of
with_turn k p None e ns = sym (append-nil ns) ∙ ap (λ o. ns ++ (option_to_list o ++ [])) (sym e)
with_turn k p (Some n) e ns = ap (λ x. ns ++ x ∷ []) (noted_there k p n e) ∙ ap (λ o. ns ++ (option_to_list o ++ [])) (sym e)

no_item : (o : Option Noted) → option_map (λ (n : Noted). n.item) o ≡ None → o ≡ None
no_item None e = refl
no_item (Some n) e = absurd (cc e)

quietly_notes : (n : ℕ) (k : Run) (p : ℕ) (b : Run) (ps : List ℕ) → Quietly k p n b → notes_of k (turns_of n p ps) ≡ notes_of b ps
unfolding notes_of
quietly_notes zero k p b ps h = ap (λ x. notes_of x ps) (sym h)
quietly_notes (suc n) k p b ps h =
    ap (λ o. option_to_list o ++ notes_of (after_turn k p) (turns_of n p ps)) (no_item _ h.0.item_is)
    ∙ quietly_notes n (after_turn k p) p b ps h.1

turns_last : (n p : ℕ) → turns_of (suc n) p [] ≡ turns_of n p (p ∷ [])
turns_last zero p = refl
turns_last (suc n) p = ap (λ ps. p ∷ ps) (turns_last n p)

pub leads_notes : (n : ℕ) (k k' : Run) (p : ℕ) (item : Option Item) (event : PtraceEvent ℕ) → Leads k p n item event k' → (ns : List Noted)
    → with_item k' ns item ≡ ns ++ notes_of k (turns_of n p [])
unfolding notes_of
leads_notes zero k k' p item event h ns = ap (λ i. with_item k' ns i) h.0 ∙ sym (append-nil ns)
leads_notes (suc n) k k' p item event h ns =
    ap₂ (λ x i. with_item x ns i) h.2.turned h.2.item_is ∙ with_turn h.0 p (turn_in h.0 p).item refl ns
    ∙ ap (λ l. ns ++ l) (sym (quietly_notes n k p h.0 (p ∷ []) h.1) ∙ ap (λ ps. notes_of k ps) (sym (turns_last n p)))

-- Turns in a row

pub row_leads : (n : ℕ) (k k' : Run) (p : ℕ) → InRow k p n k' → k' ≡ after_all (after_turn k p) (turns_of n p [])
unfolding InRow
row_leads zero k k' p row = row
row_leads (suc n) k k' p row = row_leads n (after_turn k p) k' p row.1

made_leads : (n : ℕ) (k k' : Run) (p : ℕ) → Made k p n k' → k' ≡ after_all k (turns_of n p [])
made_leads zero k k' p made = made
made_leads (suc n) k k' p made = row_leads n k k' p made.0

pub notes_split : (ps qs : List ℕ) (k : Run) → notes_of k (ps ++ qs) ≡ notes_of k ps ++ notes_of (after_all k ps) qs
unfolding notes_of
notes_split [] qs k = refl
notes_split (p ∷ ps) qs k =
    ap (λ l. option_to_list (turn_in k p).item ++ l) (notes_split ps qs (after_turn k p))
    ∙ sym (append_assoc (option_to_list (turn_in k p).item) _ _)

pub after_split : (ps qs : List ℕ) (k : Run) → after_all k (ps ++ qs) ≡ after_all (after_all k ps) qs
after_split [] qs k = refl
after_split (p ∷ ps) qs k = after_split ps qs (after_turn k p)

turns_add : (n m p : ℕ) → turns_of n p [] ++ turns_of m p [] ≡ turns_of (n + m) p []
turns_add zero m p =
    let count : m ≡ 0 + m = omega arith in
    ap (λ i. turns_of i p []) count
turns_add (suc n) m p =
    let count : suc (n + m) ≡ suc n + m = omega arith in
    ap (λ ps. p ∷ ps) (turns_add n m p) ∙ ap (λ i. turns_of i p []) count

pub made_notes : (made m : ℕ) (k b : Run) (p : ℕ) → Made k p made b → (ns : List Noted)
    → (ns ++ notes_of k (turns_of made p [])) ++ notes_of b (turns_of m p []) ≡ ns ++ notes_of k (turns_of (made + m) p [])
made_notes made m k b p h ns =
    append_assoc ns _ _
    ∙ ap (λ l. ns ++ l)
    (ap (λ x. notes_of k (turns_of made p []) ++ notes_of x (turns_of m p [])) (made_leads made k b p h)
    ∙ sym (notes_split (turns_of made p []) (turns_of m p []) k) ∙ ap (λ ps. notes_of k ps) (turns_add made m p))

-- the row's next turn is the schedule's
row_next : (k : Run) (s : Schedule) (r : TurnRun) (z : Run) (ps : List ℕ) → run_of s ≡ Some r → 0 < r.turns → Continues (readiness_of k) r.pid
    → IsRun (after_turn k r.pid) (left_after s 1) ps z → IsRun k s (r.pid ∷ ps) z
row_next k s r z ps told some on later =
    let u : Schedule = record { order = unserved s.order } in
    let it = runs_are_turns u r (told_unserved s.order r told) some in
    let given : record { pid = Some r.pid; schedule = left_after u 1 } ≡ next_turn_of s (readiness_of k) =
    sym (ap (λ (g : Given Schedule). given_turn g) (it.next (readiness_of k) on)) in (
      sym (ap (λ (x : GivenTurn). x.pid) given),
      subst (λ (x : GivenTurn). IsRun (after_turn k r.pid) x.schedule ps z) given
          (same_run ps (after_turn k r.pid) (left_after s 1) (left_after u 1) z (sym (after_unserved s.order 1)) later),
    )

pub row_runs : (n : ℕ) (k k' : Run) (s : Schedule) (p more : ℕ) (z : Run) (later : List ℕ) → InRow k p n k' → n ≤ more
    → (0 < more → run_of s ≡ Some (record { pid = p; turns = more })) → IsRun k' (left_after s n) later z
    → IsRun (after_turn k p) s (turns_of n p [] ++ later) z
unfolding InRow
row_runs zero k k' s p more z later row l told rest =
    subst (λ x. IsRun x s later z) row (subst (λ t. IsRun k' t later z) (none_after s) rest)
row_runs (suc n) k k' s p more z later row l told rest =
    let under_way = told (omega (arith, l)) in
    let its = runs_are_turns s (record { pid = p; turns = more }) under_way (omega (arith, l)) in
    let count : 1 + n ≡ suc n = omega arith in
    row_next (after_turn k p) s (record { pid = p; turns = more }) z (turns_of n p [] ++ later) under_way (omega (arith, l)) row.0
    (row_runs n (after_turn k p) k' (left_after s 1) p (more - 1) z later row.1 (omega (arith, l)) (λ m. its.rest)
    (subst (λ t. IsRun k' t later z) (sym (more_after s 1 n ∙ ap (left_after s) count)) rest))

-- Turns by a schedule, and a whole run

pub noted_nothing : (k : Run) (s : Schedule) (N : List Noted → Type 0) → IsNoted k s N k s N
unfolding notes_of
noted_nothing k s N = record {
  pids = [];
  lead = refl;
  runs = λ z later r. r;
  notes = λ ns b. subst (λ l. N l) (sym (append-nil ns)) b;
}

pub noted_more : (k l m : Run) (s t u v : Schedule) (N O P : List Noted → Type 0) (p : ℕ) → IsNoted k s N l t O
    → record { pid = Some p; schedule = u } ≡ next_turn_of t (readiness_of l) → IsTurned l p u O m v P → IsNoted k s N m v P
noted_more k l m s t u v N O P p h given g = record {
  pids = h.pids ++ p ∷ g.pids;
  lead = g.lead ∙ ap (λ x. after_all (after_turn x p) g.pids) h.lead ∙ sym (after_split h.pids (p ∷ g.pids) k);
  runs = λ z later r. subst (λ ps. IsRun k s ps z) (sym (append_assoc h.pids (p ∷ g.pids) later))
      (h.runs z (p ∷ (g.pids ++ later)) (
        sym (ap (λ (x : GivenTurn). x.pid) given),
        subst (λ (x : GivenTurn). IsRun (after_turn l p) x.schedule (g.pids ++ later) z) given (g.runs z later r),
      ));
  notes = λ ns b. subst (λ x. P x)
      (append_assoc ns _ _
      ∙ ap (λ x. ns ++ x)
      (ap (λ x. notes_of k h.pids ++ notes_of x (p ∷ g.pids)) h.lead ∙ sym (notes_split h.pids (p ∷ g.pids) k)))
      (g.notes (ns ++ notes_of k h.pids) (h.notes ns b));
}

pub noted_end : (k l : Run) (s t u : Schedule) (N O : List Noted → Type 0) → IsNoted k s N l t O
    → record { pid = None; schedule = u } ≡ next_turn_of t (readiness_of l) → RunsNoted k s l N O
noted_end k l s t u N O h given = record {
  to = record { pids = h.pids ++ []; is_run = h.runs l [] (sym (ap (λ (x : GivenTurn). x.pid) given), refl) };
  notes = λ ns b. subst (λ ps. O (ns ++ notes_of k ps)) (sym (append-nil h.pids)) (h.notes ns b);
}
