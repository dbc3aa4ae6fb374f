-- A script whose rule gives the failure comes to the same.
use Rattle.std.proofs.Common.{◌≡◌, Bool, ℕ, ◌<◌, ◌≤◌, true, false, cond, ◌&&◌, List, [], ◌∷◌, ◌++◌, length, filter, Option, Some, None, refl, sym, ap, ap₂, subst, ◌∙◌, arith}
use Rattle.std.specs.Prelude.{◌==◌}
use Rattle.std.specs.FinMap as maps
use Rattle.std.specs.Option.{option_to_list}
use Rattle.std.proofs.lemmas.Bool.Decides.{nat_tests}
use Rattle.lx_abi.specs.declared.errno.Errno.{Errno}
use Rattle.lx_abi.specs.declared.log.Call.{Call}
use Rattle.lx_abi.specs.declared.log.Item.{Item}
use Rattle.lx_abi.specs.declared.log.Mode.{Mode}
use Rattle.lx_abi.specs.declared.log.Mode.TheVariants as mode
use Rattle.lx_abi.specs.declared.script.Choice.{Choice}
use Rattle.lx_abi.specs.declared.script.Rule.{Rule}
use Rattle.lx_abi.specs.Log.{entries, is_entry}
use Rattle.lx_abi.specs.Scripts.{choice_of, no_choice}
use Rattle.lx_model.specs.Finite.{at, bore, item_of, ran, task_mode}
use Rattle.lx_model.specs.Kernel.{traces, choice_at}
use Rattle.lx_model.specs.Machine.{a7_of}
use Rattle.lx_model.specs.Turn.{Out, chosen, killed_or, lives, result_word, stage_mode, turn}
use Rattle.lx_model.specs.declared.stage.Stage.{Stage}
use Rattle.lx_model.specs.declared.stage.Stage.TheVariants as stages
use Rattle.lx_model.specs.declared.stage.Task.{Task}
use Rattle.lx_model.specs.declared.stage.Task.TheVariants.{Alive, Dying, Gone}
use Rattle.lx_proc.specs.declared.state.Shared.{Shared}
use Rattle.lx_proc.specs.declared.state.UserState.{UserState}
use Rattle.lx_turn.specs.Linux.{linux}
use Rattle.lx_turn.specs.Modes.{task_mode as kernel_mode}
use Rattle.lx_kernel.specs.Choices.{after_choosing, always, turn_choosing_in}
use Rattle.lx_kernel.specs.Runs.{Run, after_turn, turn_in}
use Rattle.lx_kernel.specs.Tracing.{regs_of}
use Rattle.pt_schedule.specs.declared.schedule.Schedule.{Schedule}
use Rattle.pt_schedule.specs.Modes.{is_finished, moves}
use Rattle.pt_schedule.specs.Schedules.{Readiness, next_turn_of}
use Rattle.pt_schedule.specs.Untraced.{readiness_of}
use Rattle.plain_run.specs.Runs.{IsRun}
use Rattle.plain_run.proofs.Turning.{bore_log}
use Rattle.sweep_rows.specs.Failures.{FailsAlone}
use Rattle.sweep_faults.specs.declared.faults.Fault.{Fault}
use Rattle.sweep_rows.specs.declared.kinds.Kind.{Kind}
use Rattle.sweep_rows.specs.declared.kinds.Kind.TheVariants as kind
use Rattle.sweep_faults.specs.Faults.{after_fault, asks_for, error_of, failing, is_at, is_entered, is_undone}
use Rattle.sweep_faults.specs.Runs.{IsFaulted, WordsGiveRuns, unless_ended}
use Rattle.sweep_faults.specs.Words.{failure_of}

-- A choice is asked for where a call was entered alone

abbrev enters : Stage → Bool
enters (stages.Entered joined) = true
enters _ = false

abbrev entering : Task UserState → Bool
entering (Alive b stage) = enters stage
entering (Dying w) = false
entering Gone = false

lives_alike : (c d : Choice) (s : Shared) (child p : ℕ) (b : UserState) (stage : Stage) → enters stage ≡ false → lives linux c s child p b stage ≡ lives linux d s child p b stage
lives_alike c d s child p b stages.Born h = refl
lives_alike c d s child p b stages.Run h = refl
lives_alike c d s child p b (stages.Faulting signal cause) h = refl
lives_alike c d s child p b (stages.Entered joined) h = absurd (cc h)
lives_alike c d s child p b (stages.Doing call) h = refl
lives_alike c d s child p b (stages.Replaced call x) h = refl
lives_alike c d s child p b (stages.Acted call x replaced) h = refl
lives_alike c d s child p b stages.Finished h = refl
lives_alike c d s child p b (stages.Taken signal cause) h = refl
lives_alike c d s child p b stages.Dropped h = refl
lives_alike c d s child p b (stages.Stopped signal) h = refl
lives_alike c d s child p b stages.Released h = refl
lives_alike c d s child p b stages.Woken h = refl

turns_alike : (c d : Choice) (s : Shared) (child p : ℕ) (task : Task UserState) → entering task ≡ false → turn linux c s child p task ≡ turn linux d s child p task
turns_alike c d s child p (Alive b stage) h = of (linux.killed s p)
  where
    of : (x : Bool) → killed_or x linux c s child p b stage ≡ killed_or x linux d s child p b stage
    of true = refl
    of false = lives_alike c d s child p b stage h
turns_alike c d s child p (Dying w) h = refl
turns_alike c d s child p Gone h = refl

turn_by : (c d : Choice) (s : Shared) (child p : ℕ) (task : Task UserState) → (entering task ≡ true → c ≡ d) → turn linux c s child p task ≡ turn linux d s child p task
turn_by c d s child p task same = of (entering task) refl
  where
    of : (x : Bool) → entering task ≡ x → turn linux c s child p task ≡ turn linux d s child p task
    of true e = ap (λ choice. turn linux choice s child p task) (same e)
    of false e = turns_alike c d s child p task e

-- Where it leaves the process is the same

chosen_mode : (call : Call) (x : Option ℕ) → stage_mode (chosen call x) ≡ mode.Doing
chosen_mode call None = refl
chosen_mode call (Some result) = refl

modes_alike : (c d : Choice) (s : Shared) (child p : ℕ) (task : Task UserState) → task_mode (turn linux c s child p task).task ≡ task_mode (turn linux d s child p task).task
modes_alike c d s child p (Alive b (stages.Entered joined)) = of (linux.killed s p)
  where
    of : (x : Bool) → task_mode (killed_or x linux c s child p b (stages.Entered joined)).task ≡ task_mode (killed_or x linux d s child p b (stages.Entered joined)).task
    of true = refl
    of false = ap (λ (m : Mode). Some m) (chosen_mode _ (result_word c) ∙ sym (chosen_mode _ (result_word d)))
modes_alike c d s child p (Dying w) = refl
modes_alike c d s child p Gone = refl
modes_alike c d s child p (Alive b stages.Born) = ap (λ (o : Out Shared UserState). task_mode o.task) (turns_alike c d s child p (Alive b stages.Born) refl)
modes_alike c d s child p (Alive b stages.Run) = ap (λ (o : Out Shared UserState). task_mode o.task) (turns_alike c d s child p (Alive b stages.Run) refl)
modes_alike c d s child p (Alive b (stages.Faulting signal cause)) = ap (λ (o : Out Shared UserState). task_mode o.task) (turns_alike c d s child p (Alive b (stages.Faulting signal cause)) refl)
modes_alike c d s child p (Alive b (stages.Doing call)) = ap (λ (o : Out Shared UserState). task_mode o.task) (turns_alike c d s child p (Alive b (stages.Doing call)) refl)
modes_alike c d s child p (Alive b (stages.Replaced call x)) = ap (λ (o : Out Shared UserState). task_mode o.task) (turns_alike c d s child p (Alive b (stages.Replaced call x)) refl)
modes_alike c d s child p (Alive b (stages.Acted call x replaced)) = ap (λ (o : Out Shared UserState). task_mode o.task) (turns_alike c d s child p (Alive b (stages.Acted call x replaced)) refl)
modes_alike c d s child p (Alive b stages.Finished) = ap (λ (o : Out Shared UserState). task_mode o.task) (turns_alike c d s child p (Alive b stages.Finished) refl)
modes_alike c d s child p (Alive b (stages.Taken signal cause)) = ap (λ (o : Out Shared UserState). task_mode o.task) (turns_alike c d s child p (Alive b (stages.Taken signal cause)) refl)
modes_alike c d s child p (Alive b stages.Dropped) = ap (λ (o : Out Shared UserState). task_mode o.task) (turns_alike c d s child p (Alive b stages.Dropped) refl)
modes_alike c d s child p (Alive b (stages.Stopped signal)) = ap (λ (o : Out Shared UserState). task_mode o.task) (turns_alike c d s child p (Alive b (stages.Stopped signal)) refl)
modes_alike c d s child p (Alive b stages.Released) = ap (λ (o : Out Shared UserState). task_mode o.task) (turns_alike c d s child p (Alive b stages.Released) refl)
modes_alike c d s child p (Alive b stages.Woken) = ap (λ (o : Out Shared UserState). task_mode o.task) (turns_alike c d s child p (Alive b stages.Woken) refl)

abbrev seen_by : Run → (ℕ → Bool) → Readiness
seen_by k able = record {
  ready = false;
  able = able;
  last_pid = k.running.shared.limits.last_pid;
  finished = λ p. is_finished (task_mode (at Gone k.running.tasks p));
}

ready_alike : (k : Run) (script : List Rule) → readiness_of (record k { script = script }) ≡ readiness_of k
ready_alike k script = ap (seen_by k) (λ i p. able_alike p i)
  where
    able_alike : (p : ℕ) → moves (task_mode (at Gone k.running.tasks p)) (task_mode (turn_in (record k { script = script }) p).task)
        ≡ moves (task_mode (at Gone k.running.tasks p)) (task_mode (turn_in k p).task)
    able_alike p = ap (λ m. moves (task_mode (at Gone k.running.tasks p)) m)
        (modes_alike (choice_at linux (choice_of script) (traces k.follow p) (λ n. entries p n k.running.log) (at Gone k.running.tasks p))
        (choice_at linux (choice_of k.script) (traces k.follow p) (λ n. entries p n k.running.log) (at Gone k.running.tasks p))
        k.running.shared k.running.child p (at Gone k.running.tasks p))

-- The choice of one turn

and_true : (b : Bool) → (b && (true && true)) ≡ b
and_true true = refl
and_true false = refl

and_false : (b : Bool) → (b && (true && false)) ≡ false
and_false true = refl
and_false false = refl

-- the failure with a call that isn't done
abbrev undone : Fault → Errno → Fault
undone g error = record g { kind = kind.Undone error }

module _ (f : Fault) (error : Errno) (script : List Rule) (alone : FailsAlone (failure_of f error) script) (k : Run) (p : ℕ) (empty : k.script ≡ []) (traced : traces k.follow f.pid ≡ true)
    (fewer : traces k.follow p ≡ true → (p ≡ f.pid → ⊥) → entries p f.call k.running.log < f.n) where
  own : ℕ
  own = entries f.pid f.call k.running.log

  abbrev at_in : Task UserState → Bool
  at_in task = (p == f.pid) && ((entries f.pid f.call k.running.log == f.n) && (is_entered (kernel_mode (maps.get k.running.shared.entries p) task) && asks_for f.call (regs_of task)))

  -- by the script's rule
  by_rule : (call : ℕ) (x y t : Bool) → (p == f.pid) ≡ x → (call == f.call) ≡ y → traces k.follow p ≡ t →
      cond t (cond (y && (entries p call k.running.log == f.n)) (failing error) no_choice) no_choice
      ≡ cond (x && ((entries f.pid f.call k.running.log == f.n) && (true && y))) (failing error) no_choice
  by_rule call true true true ex ey et =
      let same_pid : p ≡ f.pid = grind (arith, nat_tests, ex) in
      let same_call : call ≡ f.call = grind (arith, nat_tests, ey) in
      ap₂ (λ q c. cond (entries q c k.running.log == f.n) (failing error) no_choice) same_pid same_call
      ∙ ap (λ b. cond b (failing error) no_choice) (sym (and_true (entries f.pid f.call k.running.log == f.n)))
  by_rule call true false true ex ey et = sym (ap (λ b. cond b (failing error) no_choice) (and_false (entries f.pid f.call k.running.log == f.n)))
  by_rule call true y false ex ey et =
      let same_pid : p ≡ f.pid = grind (arith, nat_tests, ex) in
      absurd (cc (sym traced ∙ ap (λ q. traces k.follow q) (sym same_pid) ∙ et))
  by_rule call false y false ex ey et = refl
  by_rule call false false true ex ey et = refl
  by_rule call false true true ex ey et = ap (λ b. cond b (failing error) no_choice) (never (entries p call k.running.log == f.n) refl)
    where
      never : (b : Bool) → (entries p call k.running.log == f.n) ≡ b → b ≡ false
      never false e = refl
      never true e =
          let same_call : call ≡ f.call = grind (arith, nat_tests, ey) in
          let others : p ≡ f.pid → ⊥ = λ same. grind (arith, nat_tests, ex, same) in
          let less : entries p call k.running.log < f.n = subst (λ c. entries p c k.running.log < f.n) (sym same_call) (fewer et others) in
          absurd (grind (arith, nat_tests, e, less))

  rule_chosen : (task : Task UserState) → entering task ≡ true →
      choice_at linux (choice_of script) (traces k.follow p) (λ n. entries p n k.running.log) task ≡ cond (at_in task) (failing error) no_choice
  rule_chosen (Alive b (stages.Entered joined)) h =
      let call : ℕ = a7_of (linux.regs b) in
      ap (λ choice. cond (traces k.follow p) choice no_choice) (alone call (entries p call k.running.log))
      ∙ by_rule call (p == f.pid) (call == f.call) (traces k.follow p) refl refl refl
  rule_chosen (Alive b stages.Born) h = absurd (cc h)
  rule_chosen (Alive b stages.Run) h = absurd (cc h)
  rule_chosen (Alive b (stages.Faulting signal cause)) h = absurd (cc h)
  rule_chosen (Alive b (stages.Doing call)) h = absurd (cc h)
  rule_chosen (Alive b (stages.Replaced call x)) h = absurd (cc h)
  rule_chosen (Alive b (stages.Acted call x replaced)) h = absurd (cc h)
  rule_chosen (Alive b stages.Finished) h = absurd (cc h)
  rule_chosen (Alive b (stages.Taken signal cause)) h = absurd (cc h)
  rule_chosen (Alive b stages.Dropped) h = absurd (cc h)
  rule_chosen (Alive b (stages.Stopped signal)) h = absurd (cc h)
  rule_chosen (Alive b stages.Released) h = absurd (cc h)
  rule_chosen (Alive b stages.Woken) h = absurd (cc h)
  rule_chosen (Dying w) h = absurd (cc h)
  rule_chosen Gone h = absurd (cc h)

  -- by the failure
  fault_chosen : (c : Choice) (task : Task UserState) → entering task ≡ true → choice_at linux (always c) true (λ n. entries p n k.running.log) task ≡ c
  fault_chosen c (Alive b stage) h = refl
  fault_chosen c (Dying w) h = absurd (cc h)
  fault_chosen c Gone h = absurd (cc h)

  -- by no script
  none_chosen : (task : Task UserState) → choice_at linux (choice_of k.script) (traces k.follow p) (λ n. entries p n k.running.log) task ≡ no_choice
  unfolding choice_of
  none_chosen task = ap (λ rules. choice_at linux (choice_of rules) (traces k.follow p) (λ n. entries p n k.running.log) task) empty ∙ of (traces k.follow p) task
    where
      of : (t : Bool) (task : Task UserState) → choice_at linux (choice_of []) t (λ n. entries p n k.running.log) task ≡ no_choice
      of true (Alive b stage) = refl
      of true (Dying w) = refl
      of true Gone = refl
      of false task = refl

  abbrev left_by : Out Shared UserState → Run
  left_by o = record k { running = bore (ran k.running p o) o.event; script = script }

  is_in : is_at (undone f error) k p ≡ at_in (at Gone k.running.tasks p)
  unfolding is_at
  is_in = refl

  same_turn : after_turn (record k { script = script }) p ≡ record (after_fault (undone f error) k p) { script = script }
  same_turn = of (is_at (undone f error) k p) refl
    where
      task : Task UserState
      task = at Gone k.running.tasks p

      of : (b : Bool) → is_at (undone f error) k p ≡ b → after_turn (record k { script = script }) p ≡ record (cond b (after_choosing k p (failing error)) (after_turn k p)) { script = script }
      of true e = ap left_by
          (turn_by (choice_at linux (choice_of script) (traces k.follow p) (λ n. entries p n k.running.log) (at Gone k.running.tasks p))
          (choice_at linux (always (failing error)) true (λ n. entries p n k.running.log) (at Gone k.running.tasks p))
          k.running.shared k.running.child p (at Gone k.running.tasks p)
          (λ h. rule_chosen (at Gone k.running.tasks p) h ∙ ap (λ b. cond b (failing error) no_choice) (sym is_in ∙ e)
          ∙ sym (fault_chosen (failing error) (at Gone k.running.tasks p) h)))
      of false e = ap left_by
          (turn_by (choice_at linux (choice_of script) (traces k.follow p) (λ n. entries p n k.running.log) (at Gone k.running.tasks p))
          (choice_at linux (choice_of k.script) (traces k.follow p) (λ n. entries p n k.running.log) (at Gone k.running.tasks p))
          k.running.shared k.running.child p (at Gone k.running.tasks p)
          (λ h. rule_chosen (at Gone k.running.tasks p) h ∙ ap (λ b. cond b (failing error) no_choice) (sym is_in ∙ e)
          ∙ sym (none_chosen (at Gone k.running.tasks p))))

-- A log grows

pub more_still : (g : Item → Bool) (a b : List Item) → length (filter g a) ≤ length (filter g (a ++ b))
more_still g [] b = omega arith
more_still g (x ∷ a) b = of (g x) (more_still g a b)
  where
    of : (t : Bool) → length (filter g a) ≤ length (filter g (a ++ b)) → length (cond t (x ∷ filter g a) (filter g a)) ≤ length (cond t (x ∷ filter g (a ++ b)) (filter g (a ++ b)))
    of true e = omega (arith, e)
    of false e = e

turn_grows : (k : Run) (p : ℕ) (o : Out Shared UserState) (g : Item → Bool) → length (filter g k.running.log) ≤ length (filter g (bore (ran k.running p o) o.event).log)
turn_grows k p o g =
    subst (λ log. length (filter g k.running.log) ≤ length (filter g log)) (sym (bore_log (ran k.running p o) o.event))
    (more_still g k.running.log (option_to_list (item_of o)))

module _ (g : Fault) (error : Errno) where
  abbrev f : Fault
  f = undone g error

  fault_grows : (k : Run) (p : ℕ) (g : Item → Bool) → length (filter g k.running.log) ≤ length (filter g (after_fault f k p).running.log)
  fault_grows k p g = of (is_at f k p)
    where
      of : (b : Bool) → length (filter g k.running.log) ≤ length (filter g (cond b (after_choosing k p (failing error)) (after_turn k p)).running.log)
      of true = turn_grows k p (turn_choosing_in k p (failing error)) g
      of false = turn_grows k p (turn_in k p) g

  grows : (ps : List ℕ) (k : Run) (s : Schedule) (z : Run) (g : Item → Bool) → IsFaulted f k s ps z → length (filter g k.running.log) ≤ length (filter g z.running.log)
  grows [] k s z g h = subst (λ (x : Run). length (filter g k.running.log) ≤ length (filter g x.running.log)) (sym h.1) (at_most (length (filter g k.running.log)))
    where
      at_most : (n : ℕ) → n ≤ n
      at_most n = omega arith
  grows (p ∷ ps) k s z g h =
      let one = fault_grows k p g in
      let others = grows ps (after_fault f k p) (next_turn_of s (readiness_of k)).schedule z g h.1 in
      omega (arith, one, others)

  script_stays : (k : Run) (p : ℕ) → (after_fault f k p).script ≡ k.script
  script_stays k p = of (is_at f k p)
    where
      of : (b : Bool) → (cond b (after_choosing k p (failing error)) (after_turn k p)).script ≡ k.script
      of true = refl
      of false = refl

  follow_stays : (k : Run) (p : ℕ) → (after_fault f k p).follow ≡ k.follow
  follow_stays k p = of (is_at f k p)
    where
      of : (b : Bool) → (cond b (after_choosing k p (failing error)) (after_turn k p)).follow ≡ k.follow
      of true = refl
      of false = refl

  -- nothing ends
  next_alike : (k : Run) (o : Option ℕ) → unless_ended f k o ≡ o
  next_alike k None = refl
  next_alike k (Some p) = refl

  words_run : (script : List Rule) (follow : Bool) (ps : List ℕ) (k : Run) (s : Schedule) (z : Run) → FailsAlone (failure_of g error) script → k.script ≡ [] → k.follow ≡ follow → traces follow f.pid ≡ true
      → ((q : ℕ) → traces follow q ≡ true → (q ≡ f.pid → ⊥) → entries q f.call z.running.log < f.n) → IsFaulted f k s ps z → IsRun (record k { script = script }) s ps (record z { script = script })
  words_run script follow [] k s z alone empty same traced fewer h = (
    subst (λ (r : Readiness). (next_turn_of s r).pid ≡ None) (sym (ready_alike k script))
        (sym (next_alike k (next_turn_of s (readiness_of k)).pid) ∙ h.0),
    ap (λ (x : Run). record x { script = script }) h.1,
  )
  words_run script follow (p ∷ ps) k s z alone empty same traced fewer h =
      let here : traces k.follow p ≡ true → (p ≡ f.pid → ⊥) → entries p f.call k.running.log < f.n = λ t other.
      let less = fewer p (ap (λ x. traces x p) (sym same) ∙ t) other in
      let more = grows (p ∷ ps) k s z (is_entry p f.call) h in
      omega (arith, less, more) in (
        subst (λ (r : Readiness). (next_turn_of s r).pid ≡ Some p) (sym (ready_alike k script))
            (sym (next_alike k (next_turn_of s (readiness_of k)).pid) ∙ h.0),
        subst (λ (r : Readiness). IsRun (after_turn (record k { script = script }) p) (next_turn_of s r).schedule ps (record z { script = script })) (sym (ready_alike k script))
            (subst (λ (x : Run). IsRun x (next_turn_of s (readiness_of k)).schedule ps (record z { script = script }))
            (sym (same_turn g error script alone k p empty (ap (λ x. traces x f.pid) same ∙ traced) here))
            (words_run script follow ps (after_fault f k p) (next_turn_of s (readiness_of k)).schedule z alone (script_stays k p ∙ empty) (follow_stays k p ∙ same) traced fewer h.1)),
      )

same_error : (a b : Errno) → Some a ≡ Some b → b ≡ a
same_error a b e = sym (cc e)

words_by : (x : Kind) (f : Fault) (error : Errno) (script : List Rule) (ps : List ℕ) (k : Run) (s : Schedule) (z : Run) → is_undone x ≡ true → error_of x ≡ Some error → FailsAlone (failure_of f error) script → k.script ≡ [] → traces k.follow f.pid ≡ true
    → ((q : ℕ) → traces k.follow q ≡ true → (q ≡ f.pid → ⊥) → entries q f.call z.running.log < f.n) → IsFaulted (record f { kind = x }) k s ps z → IsRun (record k { script = script }) s ps (record z { script = script })
words_by (kind.Undone e) f error script ps k s z h is alone empty traced fewer run =
    words_run f e script k.follow ps k s z (subst (λ (x : Errno). FailsAlone (failure_of f x) script) (same_error e error is) alone)
    empty refl traced fewer run
words_by (kind.Done e) f error script ps k s z h is alone empty traced fewer run = absurd (cc h)
words_by (kind.Short count) f error script ps k s z h is alone empty traced fewer run = absurd (cc h)
words_by kind.Killed f error script ps k s z h is alone empty traced fewer run = absurd (cc h)
words_by kind.Stop f error script ps k s z h is alone empty traced fewer run = absurd (cc h)
words_by (kind.World w) f error script ps k s z h is alone empty traced fewer run = absurd (cc h)

pub words_give : WordsGiveRuns
words_give f error script k s z empty is alone words to = record {
  pids = to.pids;
  is_run = words_by f.kind f error script to.pids k s z words.undone is alone empty words.traced words.alone to.is_run;
}
