-- Turns of one process in a row that are made in place.
use Rattle.std.proofs.Common.{◌≡◌, ◌⊎◌, ◌<◌, ◌≤◌, ℕ, zero, suc, true, false, not, ◌++◌, Option, Some, None, refl, ap, sym, subst, ◌∙◌, inl, inr, unwrap_or, arith}
use Rattle.std.specs.Prelude.{◌||◌, ◌&&◌, Bool, is_some}
use Rattle.std.specs.Int.{cast_unsigned, w64}
use Rattle.std.specs.Option.{option_map, option_to_list}
use Rattle.std.specs.FinMap as maps
use Rattle.std.proofs.lemmas.List.{append-nil}
use mathlib.Core.Path.{fun_ext}
use Rattle.lx_abi.specs.declared.log.Call.{Call}
use Rattle.lx_abi.specs.declared.log.Item.{Item}
use Rattle.lx_abi.specs.declared.log.Item.TheVariants as items
use Rattle.lx_abi.specs.declared.script.Choice.{Choice}
use Rattle.lx_abi.specs.declared.signal.Signal.{Signal}
use Rattle.lx_abi.specs.Log.{entries}
use Rattle.lx_abi.specs.Occurrences.{count_of}
use Rattle.lx_abi.specs.Scripts.{choice_of}
use Rattle.lx_model.specs.Events.{by_pid}
use Rattle.lx_model.specs.Finite.{at, item_of, placed, bore}
use Rattle.lx_model.specs.Kernel.{traces, choice_at}
use Rattle.lx_model.specs.Machine.{Ran, Goes, Calls, call_of}
use Rattle.lx_model.specs.Turn.{Out, turn, killed_or, lives, joins, chosen, stepped, stage_mode}
use Rattle.lx_model.specs.declared.event.PtraceEvent.{PtraceEvent}
use Rattle.lx_model.specs.declared.event.PtraceEvent.TheVariants.{Plain}
use Rattle.lx_model.specs.declared.stage.Stage.{Stage}
use Rattle.lx_model.specs.declared.stage.Stage.TheVariants as stages
use Rattle.lx_model.specs.declared.stage.Task.{Task}
use Rattle.lx_model.specs.declared.stage.Task.TheVariants.{Alive, Gone}
use Rattle.lx_proc.specs.Registers.{regs}
use Rattle.lx_proc.specs.declared.state.Entry.{Entry}
use Rattle.lx_proc.specs.declared.state.Shared.{Shared}
use Rattle.lx_proc.specs.declared.state.UserState.{UserState}
use Rattle.lx_turn.specs.Calls.{does}
use Rattle.lx_turn.specs.Injection.{choice_of_task, choice_of_call}
use Rattle.lx_turn.specs.Linux.{linux}
use Rattle.lx_turn.specs.Modes.{task_mode}
use Rattle.lx_turn.specs.Reactions.{resumed, runs, next_of, is_killed}
use Rattle.lx_turn.specs.Turned.{Turned, turned, goes_on}
use Rattle.lx_turn.specs.declared.injection.Injection.{Injection}
use Rattle.lx_kernel.specs.Advances.{is_under_way, GoesOn, IsQuiet, Quietly, IsTurn, Leads, Fits, left, with_log, with_tasks, PartLeads, IsDone, IsGoneThrough, IsEntered, RunLeads, Follows, IsAtCall}
use Rattle.lx_kernel.specs.Blocking.{can_turn}
use Rattle.lx_kernel.specs.Runs.{Run, turn_in, after_turn}
use Rattle.lx_kernel.specs.Scheduling.{Tasks}
use Rattle.lx_kernel.specs.Sleeping.{IsKept}
use Rattle.lx_kernel.proofs.Moving.{able_where_turns}
use Rattle.lx_kernel.proofs.OwnCalls.{not_waiting}
use Rattle.lx_kernel.proofs.Placed.{get_put, put_same, put_twice}
use Rattle.lx_kernel.proofs.Waiting.{does_waits}

pub nothing : {X : Type 0} (o : Option X) → is_some o ≡ false → o ≡ None
nothing None e = refl
nothing (Some x) e = absurd (cc e)

-- no signal comes first
calm_by : (killed : Bool) (next : Option Signal) → (not killed && not (is_some next)) ≡ true → (killed ≡ false) × (next ≡ None)
calm_by true next e = absurd (cc e)
calm_by false None e = (refl, refl)
calm_by false (Some signal) e = absurd (cc e)

pub undisturbed : (e : Option Entry) → (not (is_killed e) && not (is_some (next_of e))) ≡ true → (is_killed e ≡ false) × (next_of e ≡ None)
undisturbed e h = calm_by (is_killed e) (next_of e) h

-- a call that its script leaves alone
left_alone : (c : Choice) (s : Shared) (child p : ℕ) (b : UserState) (call : Call) → call ≡ call_of (regs b) → c.result ≡ None → c.signal ≡ None
    → turned (lives linux c s child p b (stages.Entered None)) ≡ goes_on s b (stages.Doing call) None
left_alone c s child p b call is result signal = λ i. goes_on (joins linux s p (signal i)) b (chosen (sym is i) (option_map (λ z. cast_unsigned w64 z) (result i))) None

-- from where a process only goes on into Run
abbrev Starts : Stage → Type 0
Starts stage = (stage ≡ stages.Born) ⊎ ((stage ≡ stages.Finished) ⊎ (stage ≡ stages.Woken))

-- One turn more

pub leads_more : (k : Run) (p n : ℕ) (item : Option Item) (event : PtraceEvent ℕ) (k1 k' : Run) → after_turn k p ≡ k1 → IsQuiet k p → Leads k1 p n item event k' → Leads k p (suc n) item event k'
leads_more k p zero item event k1 k' is quiet (none, plain, same) =
    (k, refl, record { item_is = none ∙ sym quiet.item_is; event_is = plain ∙ sym (ap (by_pid k.running.child) quiet.event_is); turned = same ∙ sym is })
leads_more k p (suc n) item event k1 k' is quiet (before, quietly, last) =
    (before, (quiet, subst (λ x. Quietly x p n before) (sym is) quietly), last)

-- a row of one
pub one_turn : (n : ℕ) (k k' : Run) (p : ℕ) (item : Option Item) (event : PtraceEvent ℕ) → 0 < n → n ≤ 1 → Leads k p n item event k' → IsTurn k p item event k'
one_turn zero k k' p item event some l leads = absurd (omega (arith, some))
one_turn (suc zero) k k' p item event some l leads = subst (λ b. IsTurn b p item event k') leads.1 leads.2
one_turn (suc (suc n)) k k' p item event some l leads = absurd (omega (arith, l))

-- the later part stays
left_twice : (k : Run) (p : ℕ) (x y : Task UserState) (item : Option Item) → left (left k p x None) p y item ≡ left k p y item
left_twice k p x y item =
    λ i. record k { running = record k.running { tasks = put_twice k.running.tasks p x y i; log = append-nil k.running.log i ++ option_to_list item } }

left_same : (k : Run) (p : ℕ) (task : Task UserState) → maps.get k.running.tasks p ≡ Some task → left k p task None ≡ k
left_same k p task there =
    λ i. record k { running = record k.running { tasks = put_same k.running.tasks p task there i; log = append-nil k.running.log i } }

module _ (t : Injection) (s : Shared) (child p : ℕ) where
  -- what the turn of a part gives
  abbrev part_turn : Task UserState → Out Shared UserState
  part_turn task = turn linux (choice_of_task t p task) s child p task

  module _ (k : Run) (fits : Fits k t s child p) (task : Task UserState) (there : maps.get k.running.tasks p ≡ Some task) where
    counts : ◌≡◌ {A = ℕ → ℕ} (λ n. entries p n k.running.log) (λ n. count_of t.occurrences.now p n)
    counts = fun_ext (λ n. sym (fits.agrees n))

    here : at Gone k.running.tasks p ≡ task
    here = ap (λ o. unwrap_or o Gone) there

    turn_is : turn_in k p ≡ part_turn task
    turn_is = λ i. turn linux (choice_at linux (choice_of (fits.script_is i)) (traces (fits.follow_is i) p) (counts i) (here i)) (fits.shared_is i) (fits.child_is i) p (here i)

    module _ (b : UserState) (next : Stage) (item : Option Item) (is : turned (part_turn task) ≡ goes_on s b next item) where
      out_is : turned (turn_in k p) ≡ goes_on s b next item
      out_is = ap turned turn_is ∙ is

      item_is : item_of (turn_in k p) ≡ item
      item_is = ap (λ (o : Turned). o.item) out_is

      event_is : (turn_in k p).event ≡ Plain
      event_is = ap (λ (o : Turned). o.event) out_is

      after_is : after_turn k p ≡ left k p (Alive b next) item
      after_is =
          (λ i. record k {
            running = bore (record {
              shared = (out_is i).shared;
              tasks = placed k.running.tasks p (out_is i).task;
              child = k.running.child;
              log = k.running.log ++ option_to_list (out_is i).item;
            }) (out_is i).event;
          })
          ∙ (λ i. record k {
            running = record {
              shared = sym fits.shared_is i;
              tasks = maps.insert k.running.tasks p (Alive b next);
              child = k.running.child;
              log = k.running.log ++ option_to_list item;
            };
          })

      last_turn : IsTurn k p item Plain (left k p (Alive b next) item)
      last_turn = record { item_is = sym item_is; event_is = sym (ap (by_pid k.running.child) event_is); turned = sym after_is }

    -- the kernel after a turn that logs nothing
    module _ (b : UserState) (next : Stage) where
      abbrev moved : Run
      moved = left k p (Alive b next) None

      moved_there : maps.get moved.running.tasks p ≡ Some (Alive b next)
      moved_there = get_put k.running.tasks p (Alive b next)

      moved_fits : Fits moved t s child p
      moved_fits = record {
        shared_is = fits.shared_is;
        child_is = fits.child_is;
        script_is = fits.script_is;
        follow_is = fits.follow_is;
        agrees = λ n. fits.agrees n ∙ ap (entries p n) (sym (append-nil k.running.log));
      }

      moved_goes_on : can_turn s p (Alive b next) ≡ true → is_under_way (stage_mode next) ≡ true → GoesOn moved p
      moved_goes_on can under_way =
          let put : at Gone moved.running.tasks p ≡ Alive b next = ap (λ o. unwrap_or o Gone) moved_there in (
            (able_where_turns moved p).0 ((λ i. can_turn (fits.shared_is i) p (put i)) ∙ can),
            (
              stage_mode next,
              (ap (λ (o : Task UserState). task_mode (maps.get k.running.shared.entries p) o) put, under_way),
            ),
          )

  -- no turn
  pub part_none : (task : Task UserState) → PartLeads t s child p 0 task None task
  part_none task = λ k fits there. (refl, refl, left_same k p task there)

  pub none_leads : (task : Task UserState) (item : Option Item) → item ≡ None → PartLeads t s child p 0 task item task
  none_leads task item none = subst (λ o. PartLeads t s child p 0 task o task) (sym none) (part_none task)

  -- one turn
  pub part_one : (task : Task UserState) (b : UserState) (next : Stage) (item : Option Item) → turned (part_turn task) ≡ goes_on s b next item → PartLeads t s child p 1 task item (Alive b next)
  part_one task b next item is = λ k fits there. (k, refl, last_turn k fits task there b next item is)

  -- a turn that logs nothing, and then others
  pub part_more : (n : ℕ) (task : Task UserState) (b : UserState) (next : Stage) (item : Option Item) (task' : Task UserState) → turned (part_turn task) ≡ goes_on s b next None
      → can_turn s p (Alive b next) ≡ true → is_under_way (stage_mode next) ≡ true → PartLeads t s child p n (Alive b next) item task' → PartLeads t s child p (suc n) task item task'
  part_more n task b next item task' is can under_way rest = λ k fits there.
      let k1 = moved k fits task there b next in
      let after : after_turn k p ≡ k1 = after_is k fits task there b next None is in
      leads_more k p n item Plain k1 (left k p task' item) after
      (record {
        item_is = item_is k fits task there b next None is;
        event_is = event_is k fits task there b next None is;
        on = subst (λ x. GoesOn x p) (sym after) (moved_goes_on k fits task there b next can under_way);
      })
      (subst (Leads k1 p n item Plain) (left_twice k p (Alive b next) task' item)
      (rest k1 (moved_fits k fits task there b next) (moved_there k fits task there b next)))

  -- While SIGKILL isn't pending

  module _ (alive : is_killed (maps.get s.entries p) ≡ false) where
    lives_is : (b : UserState) (stage : Stage) → part_turn (Alive b stage) ≡ lives linux (choice_of_call t p b) s child p b stage
    lives_is b stage = ap (λ killed. killed_or killed linux (choice_of_call t p b) s child p b stage) alive

    can_run : (b : UserState) → can_turn s p (Alive b stages.Run) ≡ true
    unfolding can_turn
    can_run b = refl

    from_born : (b : UserState) → turned (part_turn (Alive b stages.Born)) ≡ goes_on s b stages.Run None
    from_born b = ap turned (lives_is b stages.Born)

    from_finished : (b : UserState) → turned (part_turn (Alive b stages.Finished)) ≡ goes_on s b stages.Run None
    from_finished b = ap turned (lives_is b stages.Finished)

    from_woken : (b : UserState) → turned (part_turn (Alive b stages.Woken)) ≡ goes_on s b stages.Run None
    from_woken b = ap turned (lives_is b stages.Woken)

    start_is : (b : UserState) (stage : Stage) → Starts stage → turned (part_turn (Alive b stage)) ≡ goes_on s b stages.Run None
    start_is b stage (inl is) = ap (λ x. turned (part_turn (Alive b x))) is ∙ from_born b
    start_is b stage (inr (inl is)) = ap (λ x. turned (part_turn (Alive b x))) is ∙ from_finished b
    start_is b stage (inr (inr is)) = ap (λ x. turned (part_turn (Alive b x))) is ∙ from_woken b

    -- Instructions

    module _ (calm : next_of (maps.get s.entries p) ≡ None) where
      run_is : (b : UserState) (r : Ran Shared UserState) → resumed b b.interrupted ≡ r → part_turn (Alive b stages.Run) ≡ stepped linux s p b r
      run_is b r is = lives_is b stages.Run ∙ ap (λ next. stepped linux s p b (runs s p b next)) calm ∙ ap (stepped linux s p b) is

      running : (n : ℕ) (b c : UserState) → Follows n b c → PartLeads t s child p n (Alive b stages.Run) None (Alive c stages.Run)
      running zero b c same = subst (λ x. PartLeads t s child p 0 (Alive b stages.Run) None (Alive x stages.Run)) same (part_none (Alive b stages.Run))
      running (suc n) b c f =
          part_more n (Alive b stages.Run) f.0 stages.Run None (Alive c stages.Run) (ap turned (run_is b (Goes f.0) f.1)) (can_run f.0) refl (running n f.0 c f.2)

      to_call : (n : ℕ) (b c : UserState) → Follows n b c → IsAtCall c
          → PartLeads t s child p (suc n) (Alive b stages.Run) (Some (items.Enter p (call_of (regs c)))) (Alive c (stages.Entered None))
      to_call zero b c same called =
          subst (λ x. PartLeads t s child p 1 (Alive x stages.Run) (Some (items.Enter p (call_of (regs c)))) (Alive c (stages.Entered None))) (sym same)
          (part_one (Alive c stages.Run) c (stages.Entered None) (Some (items.Enter p (call_of (regs c)))) (ap turned (run_is c Calls called)))
      to_call (suc n) b c f called =
          part_more (suc n) (Alive b stages.Run) f.0 stages.Run (Some (items.Enter p (call_of (regs c)))) (Alive c (stages.Entered None))
          (ap turned (run_is b (Goes f.0) f.1)) (can_run f.0) refl (to_call n f.0 c f.2 called)

      pub run_leads : (n : ℕ) (b : UserState) (item : Option Item) (task : Task UserState) → RunLeads p n b item task → PartLeads t s child p n (Alive b stages.Run) item task
      run_leads n b item task (inl (c, follows, none, is)) =
          subst (λ x. PartLeads t s child p n (Alive b stages.Run) item x) (sym is)
          (subst (λ o. PartLeads t s child p n (Alive b stages.Run) o (Alive c stages.Run)) (sym none) (running n b c follows))
      run_leads n b item task (inr (m, c, count, follows, called, logged, is)) =
          subst (λ x. PartLeads t s child p n (Alive b stages.Run) item x) (sym is)
          (subst (λ o. PartLeads t s child p n (Alive b stages.Run) o (Alive c (stages.Entered None))) (sym logged)
          (subst (λ n. PartLeads t s child p n (Alive b stages.Run) (Some (items.Enter p (call_of (regs c)))) (Alive c (stages.Entered None))) (sym count)
          (to_call m b c follows called)))

      -- from where a process goes on into Run
      pub start_leads : (n m : ℕ) (b : UserState) (stage : Stage) (item : Option Item) (task : Task UserState) → Starts stage → n ≡ suc m → RunLeads p m b item task → PartLeads t s child p n (Alive b stage) item task
      start_leads n m b stage item task starts count leads =
          subst (λ n. PartLeads t s child p n (Alive b stage) item task) (sym count)
          (part_more m (Alive b stage) b stages.Run item task (start_is b stage starts) (can_run b) refl (run_leads m b item task leads))

    -- A call that is done at once

    can_do : (b c : UserState) (call : Call) (x : ℕ) → IsDone s child p call b c x → can_turn s p (Alive b (stages.Doing call)) ≡ true
    unfolding can_turn
    can_do b c call x done =
        ap (λ w. not w || is_killed (maps.get s.entries p))
        (sym (does_waits s child p call b) ∙ not_waiting s child p call b c x (does s child p call b) done)

    can_act : (b : UserState) (call : Call) (x : ℕ) → can_turn s p (Alive b (stages.Acted call x false)) ≡ true
    unfolding can_turn
    can_act b call x = refl

    module _ (b : UserState) (call : Call) (choice : Choice) (is : call ≡ call_of (regs b)) (known : choice ≡ choice_of_call t p b) (result : choice.result ≡ None) (signal : choice.signal ≡ None) where
      enters : turned (part_turn (Alive b (stages.Entered None))) ≡ goes_on s b (stages.Doing call) None
      enters =
          ap turned (lives_is b (stages.Entered None))
          ∙ left_alone (choice_of_call t p b) s child p b call is (ap (λ (x : Choice). x.result) (sym known) ∙ result) (ap (λ (x : Choice). x.signal) (sym known) ∙ signal)

      entered_leads : (n : ℕ) (stage : Stage) → IsEntered call n (stages.Entered None) stage → PartLeads t s child p n (Alive b (stages.Entered None)) None (Alive b stage)
      entered_leads n stage (inl (one, to)) =
          subst (λ x. PartLeads t s child p n (Alive b (stages.Entered None)) None (Alive b x)) (sym to)
          (subst (λ n. PartLeads t s child p n (Alive b (stages.Entered None)) None (Alive b (stages.Doing call))) (sym one)
          (part_one (Alive b (stages.Entered None)) b (stages.Doing call) None enters))
      entered_leads n stage (inr (none, to)) =
          subst (λ x. PartLeads t s child p n (Alive b (stages.Entered None)) None (Alive b x)) (sym to)
          (subst (λ n. PartLeads t s child p n (Alive b (stages.Entered None)) None (Alive b (stages.Entered None))) (sym none) (part_none (Alive b (stages.Entered None))))

      pub enter_leads : (n : ℕ) (from stage : Stage) (item : Option Item) → from ≡ stages.Entered None → item ≡ None → IsEntered call n from stage → PartLeads t s child p n (Alive b from) item (Alive b stage)
      enter_leads n from stage item at none entered =
          subst (λ (x : Stage). PartLeads t s child p n (Alive b x) item (Alive b stage)) (sym at)
          (subst (λ o. PartLeads t s child p n (Alive b (stages.Entered None)) o (Alive b stage)) (sym none)
          (entered_leads n stage (subst (λ x. IsEntered call n x stage) at entered)))

      done_leads : (c : UserState) (x : ℕ) → IsDone s child p call b c x → PartLeads t s child p 3 (Alive b (stages.Entered None)) (Some (items.Done p call x false)) (Alive c stages.Finished)
      done_leads c x done =
          part_more 2 (Alive b (stages.Entered None)) b (stages.Doing call) (Some (items.Done p call x false)) (Alive c stages.Finished) enters (can_do b c call x done) refl
          (part_more 1 (Alive b (stages.Doing call)) c (stages.Acted call x false) (Some (items.Done p call x false)) (Alive c stages.Finished)
          (ap turned (lives_is b (stages.Doing call) ∙ done)) (can_act c call x) refl
          (part_one (Alive c (stages.Acted call x false)) c stages.Finished (Some (items.Done p call x false)) (ap turned (lives_is c (stages.Acted call x false)))))

      pub through_call : (c : UserState) (from stage : Stage) (item : Option Item) → from ≡ stages.Entered None → IsGoneThrough s child p call b c stage item → PartLeads t s child p 3 (Alive b from) item (Alive c stage)
      through_call c from stage item at (x, done, to, logged) =
          subst (λ (y : Stage). PartLeads t s child p 3 (Alive b y) item (Alive c stage)) (sym at)
          (subst (λ (y : Stage). PartLeads t s child p 3 (Alive b (stages.Entered None)) item (Alive c y)) (sym to)
          (subst (λ o. PartLeads t s child p 3 (Alive b (stages.Entered None)) o (Alive c stages.Finished)) (sym logged) (done_leads c x done)))

    -- the end of a call
    pub end_leads : (b : UserState) (from : Stage) (call : Call) (x : ℕ) (replaced : Bool) → from ≡ stages.Acted call x replaced → PartLeads t s child p 1 (Alive b from) (Some (items.Done p call x replaced)) (Alive b stages.Finished)
    end_leads b from call x replaced at =
        subst (λ (y : Stage). PartLeads t s child p 1 (Alive b y) (Some (items.Done p call x replaced)) (Alive b stages.Finished)) (sym at)
        (part_one (Alive b (stages.Acted call x replaced)) b stages.Finished (Some (items.Done p call x replaced)) (ap turned (lives_is b (stages.Acted call x replaced))))

-- Who goes on in place was neither blocked nor stopped.

abbrev Awake : Stage → Type 0
Awake stage = (s : Shared) (p : ℕ) (b : UserState) (task : Task UserState) → IsKept s p (Alive b stage) task

awake_born : Awake stages.Born
unfolding can_turn
awake_born s p b task = (λ e. absurd (cc e), λ e. absurd (cc e), λ e. absurd (cc e))

pub awake_run : Awake stages.Run
unfolding can_turn
awake_run s p b task = (λ e. absurd (cc e), λ e. absurd (cc e), λ e. absurd (cc e))

awake_finished : Awake stages.Finished
unfolding can_turn
awake_finished s p b task = (λ e. absurd (cc e), λ e. absurd (cc e), λ e. absurd (cc e))

awake_woken : Awake stages.Woken
unfolding can_turn
awake_woken s p b task = (λ e. absurd (cc e), λ e. absurd (cc e), λ e. absurd (cc e))

pub awake_entered : (joined : Option Signal) → Awake (stages.Entered joined)
unfolding can_turn
awake_entered joined s p b task = (λ e. absurd (cc e), λ e. absurd (cc e), λ e. absurd (cc e))

pub awake_acted : (call : Call) (x : ℕ) (replaced : Bool) → Awake (stages.Acted call x replaced)
unfolding can_turn
awake_acted call x replaced s p b task = (λ e. absurd (cc e), λ e. absurd (cc e), λ e. absurd (cc e))

pub awake_start : (stage : Stage) → Starts stage → Awake stage
awake_start stage (inl is) = subst Awake (sym is) awake_born
awake_start stage (inr (inl is)) = subst Awake (sym is) awake_finished
awake_start stage (inr (inr is)) = subst Awake (sym is) awake_woken

-- In the table

-- a process that isn't there
pub absent_leads : (k : Run) (p : ℕ) (tasks tasks' : Tasks) (item : Option Item) → k.running.tasks ≡ tasks → tasks' ≡ tasks → item ≡ None → Leads k p 0 item Plain (with_log (with_tasks k tasks') item)
absent_leads k p tasks tasks' item here same none =
    let put : tasks' ≡ k.running.tasks = same ∙ sym here in
    (none, refl, (λ i. with_log (with_tasks k (put i)) (none i)) ∙ λ i. record k { running = record k.running { log = append-nil k.running.log i } })

-- one whose part was changed in its place
pub put_leads : (t : Injection) (s : Shared) (child p n : ℕ) (task : Task UserState) (item : Option Item) (task' : Task UserState) → PartLeads t s child p n task item task'
    → (k : Run) → Fits k t s child p → (tasks tasks' : Tasks) → k.running.tasks ≡ tasks → Some task ≡ maps.get tasks p → tasks' ≡ maps.insert tasks p task' → Leads k p n item Plain (with_log (with_tasks k tasks') item)
put_leads t s child p n task item task' leads k fits tasks tasks' here there put =
    let same : maps.insert k.running.tasks p task' ≡ tasks' = ap (λ (m : Tasks). maps.insert m p task') here ∙ sym put in
    subst (Leads k p n item Plain) (λ i. with_log (with_tasks k (same i)) item)
    (leads k fits (ap (λ (m : Tasks). maps.get m p) here ∙ sym there))

pub kept_same : (s : Shared) (p : ℕ) (task : Task UserState) → IsKept s p task task
kept_same s p task = (λ e. e, λ e. e, λ e. refl)
