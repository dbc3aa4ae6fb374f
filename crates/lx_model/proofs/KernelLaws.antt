-- Whose turn does what, which pids there are, which occurrence a call is.
use Rattle.std.proofs.Common.{◌≡◌, ◌≢◌, ◌≤◌, ◌<◌, ℕ, suc, Bool, true, false, cond, not, List, [], ◌∷◌, ◌++◌, length, Option, Some, None, refl, sym, ap, ap₂, subst, ◌∙◌, arith, append-nil}
use Rattle.std.specs.Prelude.{◌==◌, ◌&&◌, filter}
use Rattle.std.specs.Option.{option_to_list}
use Rattle.std.proofs.lemmas.List.{map-append}
use Rattle.std.proofs.lemmas.List.Elements.{filter-append}
use Rattle.std.proofs.lemmas.Bool.Decides.{nat_tests}
use mathlib.Core.Path.{fun_ext}
use Rattle.lx_abi.specs.declared.log.Call.{Call}
use Rattle.lx_abi.specs.declared.log.Cause.{Cause}
use Rattle.lx_abi.specs.declared.log.Item.{Item}
use Rattle.lx_abi.specs.declared.log.Item.TheVariants as item
use Rattle.lx_abi.specs.declared.script.Choice.{Choice}
use Rattle.lx_abi.specs.declared.signal.Signal.{Signal}
use Rattle.lx_abi.specs.Log.{Noted, pid_of, is_entry, items_of, entries}
use Rattle.lx_model.specs.Machine.{Machine, Ran, Goes, Calls, Faults, Takes, Answer, Refused, Returns, Jumps, Execs, Bears, Blocks, Ends, Took, Passes, Stops, Kills}
use Rattle.lx_model.specs.Turn.{Stage, Born, Run, Faulting, Entered, Doing, Replaced, Acted, Finished, Taken, Dropped, Stopped, Released, Woken, Task, Alive, Dying, Gone, PtraceEvent, Plain, Execed, Forked, Out, turn, killed_or, lives, stepped, answered, halts, took, wakes}
use Rattle.lx_model.specs.Kernel.{Script, put, traces, choice_at, Kernel, after_turn, with_child, turn_of, kernel_turn, kernel_run, first_kernel, born}
use Rattle.lx_model.specs.KernelLaws.{NobodyTakesNoTurn, IsFresh, FirstIsFresh, RunsStayFresh, IsGiven, PidsAreGivenOnce, PidsRise, OthersCountNothing, ChoicesAreByOccurrence}

is_same : (p q : ℕ) → (p == q) ≡ true → p ≡ q
is_same p q e = grind (arith, nat_tests)

other : (p q : ℕ) → suc p ≤ q → (p == q) ≡ false
other p q l = grind (arith, nat_tests)

itself : (p : ℕ) → (p == p) ≡ true
itself p = grind (arith, nat_tests)

-- Whose an item is

abbrev IsOf : ℕ → Option Noted → Type 0
IsOf p None = Unit {0}
IsOf p (Some n) = pid_of n.item ≡ p

module _ {S B : Type 0} (m : Machine S B) (c : Choice) (s : S) (child p : ℕ) where
  of_step : (b : B) (r : Ran S B) → IsOf p (stepped m s p b r).item
  of_step b (Goes d) = tt
  of_step b Calls = refl
  of_step b (Faults signal cause) = tt
  of_step b (Takes t signal cause) = refl

  of_answer : (b : B) (call : Call) (a : Answer S B) → IsOf p (answered m s child p b call a).item
  of_answer b call (Refused e) = tt
  of_answer b call (Returns t d x) = tt
  of_answer b call (Jumps t d) = tt
  of_answer b call (Execs t d) = tt
  of_answer b call (Bears t d newborn) = tt
  of_answer b call Blocks = tt
  of_answer b call (Ends w) = refl

  of_halt : (b : B) (signal : Signal) (continued : Bool) → IsOf p (halts continued m s p b signal).item
  of_halt b signal true = tt
  of_halt b signal false = refl

  of_signal : (b : B) (signal : Signal) (cause : Cause) (t : Took S B) → IsOf p (took m s p b signal cause t).item
  of_signal b signal cause (Passes t d) = tt
  of_signal b signal cause Stops = of_halt b signal (m.continued s p)
  of_signal b signal cause (Kills w) = refl

  of_wake : (b : B) (signal : Signal) (continued : Bool) → IsOf p (wakes continued m s p b signal).item
  of_wake b signal true = tt
  of_wake b signal false = tt

  of_stage : (b : B) (stage : Stage) → IsOf p (lives m c s child p b stage).item
  of_stage b Born = tt
  of_stage b Run = of_step b (m.step s p b)
  of_stage b (Faulting signal cause) = refl
  of_stage b (Entered joined) = tt
  of_stage b (Doing call) = of_answer b call (m.call s child p call b)
  of_stage b (Replaced call x) = tt
  of_stage b (Acted call x replaced) = refl
  of_stage b Finished = tt
  of_stage b (Taken signal cause) = of_signal b signal cause (m.take s p signal cause b)
  of_stage b Dropped = tt
  of_stage b (Stopped signal) = of_wake b signal (m.continued s p)
  of_stage b Released = tt
  of_stage b Woken = tt

  of_alive : (b : B) (stage : Stage) (killed : Bool) → IsOf p (killed_or killed m c s child p b stage).item
  of_alive b stage true = refl
  of_alive b stage false = of_stage b stage

  of_turn : (task : Task B) → IsOf p (turn m c s child p task).item
  of_turn (Alive b stage) = of_alive b stage (m.killed s p)
  of_turn (Dying w) = tt
  of_turn Gone = tt

no_entry : (q call : ℕ) (i : Item) → q ≢ pid_of i → is_entry q call i ≡ false
no_entry q call (item.Enter p d) ne = go (q == p) refl
  where
    go : (b : Bool) → (q == p) ≡ b → (b && (call == d.number)) ≡ false
    go true e = absurd (ne (is_same q p e))
    go false e = refl
no_entry q call (item.Done p d x replaced) ne = refl
no_entry q call (item.Taken p signal cause) ne = refl
no_entry q call (item.Stopped p signal) ne = refl
no_entry q call (item.Exit p w left) ne = refl

-- what another logs is no entry of this process
none_of : (p q call : ℕ) (i : Option Noted) → IsOf p i → q ≢ p → filter (is_entry q call) (items_of (option_to_list i)) ≡ []
none_of p q call None is ne = refl
none_of p q call (Some n) is ne = rw (no_entry q call n.item (λ e. ne (e ∙ is))) refl

with_child_log : {S B : Type 0} (k : Kernel S B) (e : PtraceEvent B) → (with_child k e).log ≡ k.log
with_child_log k Plain = refl
with_child_log k Execed = refl
with_child_log k (Forked b) = refl

pub others_count_nothing : {S B : Type 0} → OthersCountNothing S B
others_count_nothing {S} {B} m script follow k p q call ne =
    let o : Out S B = turn_of m script follow k p in
    let is : IsOf p o.item = of_turn m (choice_at m script (traces follow p) (λ n. entries p n (items_of k.log)) (k.tasks p)) k.shared k.child p (k.tasks p) in
    ap (λ log. entries q call (items_of log)) (with_child_log (after_turn k p o) o.event)
    ∙ ap (λ items. entries q call items) (map-append (λ (n : Noted). n.item) k.log (option_to_list o.item))
    ∙ ap length (filter-append (is_entry q call) (items_of k.log) (items_of (option_to_list o.item)))
    ∙ ap (λ more. length (filter (is_entry q call) (items_of k.log) ++ more)) (none_of p q call o.item is ne)
    ∙ ap length (append-nil (filter (is_entry q call) (items_of k.log)))

pub choices_are_by_occurrence : {S B : Type 0} → ChoicesAreByOccurrence S B
choices_are_by_occurrence m script follow k p b stage e =
    ap (λ task. turn m (choice_at m script (traces follow p) (λ n. entries p n (items_of k.log)) task) k.shared k.child p task) e

-- Who isn't there

module _ {S B : Type 0} (m : Machine S B) (script : Script) (follow : Bool) (k : Kernel S B) (p : ℕ) where
  abbrev out : Task B → Out S B
  out task = turn m (choice_at m script (traces follow p) (λ n. entries p n (items_of k.log)) task) k.shared k.child p task

  abbrev after : Task B → Kernel S B
  after task = with_child (after_turn k p (out task)) (out task).event

  put_gone : k.tasks p ≡ Gone → (q : ℕ) → put k.tasks p Gone q ≡ k.tasks q
  put_gone gone q = go (p == q) refl
    where
      go : (b : Bool) → (p == q) ≡ b → cond b Gone (k.tasks q) ≡ k.tasks q
      go true e = sym (ap k.tasks (sym (is_same p q e)) ∙ gone)
      go false e = refl

  pub nobody_turns : k.tasks p ≡ Gone → kernel_turn m script follow k p ≡ k
  nobody_turns gone = ap after gone
      ∙ ap₂ (λ tasks log. record { shared = k.shared; tasks = tasks; child = k.child; log = log }) (fun_ext (put_gone gone)) (append-nil k.log)

  gone_stays : k.tasks p ≡ Gone → (out (k.tasks p)).task ≡ Gone
  gone_stays gone = ap (λ task. (out task).task) gone

  fresh_after : IsFresh k → IsFresh (after_turn k p (out (k.tasks p)))
  fresh_after fresh = λ q l. go q l (p == q) refl
    where
      go : (q : ℕ) → k.child ≤ q → (b : Bool) → (p == q) ≡ b → cond b (out (k.tasks p)).task (k.tasks q) ≡ Gone
      go q l true e = gone_stays (ap k.tasks (is_same p q e) ∙ fresh q l)
      go q l false e = fresh q l

below : (c q : ℕ) → suc c ≤ q → c ≤ q
below c q l = grind (arith)

fresh_born : {S B : Type 0} (k : Kernel S B) (e : PtraceEvent B) → IsFresh k → IsFresh (with_child k e)
fresh_born k Plain fresh = fresh
fresh_born k Execed fresh = fresh
fresh_born k (Forked b) fresh = λ q l. rw (other k.child q l) (fresh q (below k.child q l))

pub fresh_turn : {S B : Type 0} (m : Machine S B) (script : Script) (follow : Bool) (k : Kernel S B) (p : ℕ) → IsFresh k → IsFresh (kernel_turn m script follow k p)
fresh_turn m script follow k p fresh =
    fresh_born (after_turn k p (turn_of m script follow k p)) (turn_of m script follow k p).event (fresh_after m script follow k p fresh)

pub runs_stay_fresh : {S B : Type 0} → RunsStayFresh S B
runs_stay_fresh m script follow k fresh [] = fresh
runs_stay_fresh m script follow k fresh (p ∷ ps) = runs_stay_fresh m script follow (kernel_turn m script follow k p) (fresh_turn m script follow k p fresh) ps

alone : (q : ℕ) → 2 ≤ q → (q == 1) ≡ false
alone q l = grind (arith, nat_tests)

pub first_is_fresh : {S B : Type 0} → FirstIsFresh S B
first_is_fresh s b = λ q l. ap (λ c. born c b) (alone q l)

given : {S B : Type 0} (k before : Kernel S B) (e : PtraceEvent B) (b : B) → before.tasks before.child ≡ Gone → k.child ≡ before.child → e ≡ Forked b → IsGiven before (with_child k e) b
given k before e b free same is = subst (λ x. IsGiven before (with_child k x) b) (sym is) (record {
  free = free;
  taken = ap (λ q. put k.tasks k.child (Alive b Born) q) (sym same) ∙ rw (itself k.child) refl;
  rises = ap suc same;
})

same_pid : (n : ℕ) → n ≤ n
same_pid n = grind (arith)

pub pids_are_given_once : {S B : Type 0} → PidsAreGivenOnce S B
pids_are_given_once m script follow k p b fresh is =
    given (after_turn k p (turn_of m script follow k p)) k (turn_of m script follow k p).event b (fresh k.child (same_pid k.child)) refl is

rises : {S B : Type 0} (k : Kernel S B) (e : PtraceEvent B) → k.child ≤ (with_child k e).child
rises k Plain = same_pid k.child
rises k Execed = same_pid k.child
rises k (Forked b) = below k.child (suc k.child) (same_pid (suc k.child))

further : (a b c : ℕ) → a ≤ b → b ≤ c → a ≤ c
further a b c l h = grind (arith)

pub pids_rise : {S B : Type 0} → PidsRise S B
pids_rise m script follow k [] = same_pid k.child
pids_rise m script follow k (p ∷ ps) =
    further k.child (kernel_turn m script follow k p).child (kernel_run m script follow (kernel_turn m script follow k p) ps).child
    (rises (after_turn k p (turn_of m script follow k p)) (turn_of m script follow k p).event)
    (pids_rise m script follow (kernel_turn m script follow k p) ps)
