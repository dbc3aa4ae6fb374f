-- What a turn leaves as it was, and whom it reports.
use Rattle.std.proofs.Common.{◌≡◌, ◌≢◌, ⊎_elim, ℕ, suc, ◌+◌, ◌≤◌, ◌<◌, Bool, true, false, cond, not, ◌||◌, List, [], ◌∷◌, ◌++◌, Option, Some, None, length, length-append, filter, refl, sym, ap, ap₂, subst, ◌∙◌, add-zero, append_assoc, arith}
use Rattle.std.specs.Prelude.{◌==◌}
use Rattle.std.specs.Option.{option_to_list}
use Rattle.std.proofs.lemmas.Bool.Decides.{nat_tests}
use Rattle.std.proofs.lemmas.List.Elements.{filter-append}
use Rattle.lx_abi.specs.declared.log.Call.{Call}
use Rattle.lx_abi.specs.declared.log.Cause.{Cause}
use Rattle.lx_abi.specs.declared.script.Choice.{Choice}
use Rattle.lx_abi.specs.declared.signal.Signal.{Signal}
use Rattle.lx_abi.specs.declared.status.EventStop.TheVariants.{Fork as At_fork, Stop as At_start}
use Rattle.lx_abi.specs.declared.status.Stop.{Stop}
use Rattle.lx_abi.specs.declared.status.Stop.TheVariants.{Syscall as Syscall_stop, Signal as Signal_stop, Group as Group_stop, Event as Event_stop, Ended}
use Rattle.lx_abi.specs.Scripts.{no_choice}
use Rattle.lx_model.specs.Machine.{Machine, Ran, Goes, Calls, Faults, Takes, Answer, Refused, Returns, Jumps, Execs, Bears, Blocks, Ends, Took, Passes, Stops, Kills}
use Rattle.lx_model.specs.declared.event.PtraceEvent.{PtraceEvent}
use Rattle.lx_model.specs.declared.event.PtraceEvent.TheVariants.{Plain, Execed, Forked}
use Rattle.lx_model.specs.Turn.{Out, stepped, answered, halts, took, wakes, lives, killed_or, turn}
use Rattle.lx_model.specs.declared.stage.Stage.{Stage}
use Rattle.lx_model.specs.declared.stage.Stage.TheVariants.{Born, Run, Faulting, Entered, Doing, Replaced, Acted, Finished, Taken, Dropped, Stopped, Released, Woken}
use Rattle.lx_model.specs.declared.stage.Task.{Task}
use Rattle.lx_model.specs.declared.stage.Task.TheVariants.{Alive, Dying, Gone}
use Rattle.lx_model.specs.Kernel.{Script, put, Kernel, after_turn, with_child, turn_of, kernel_turn, kernel_run, first_kernel}
use Rattle.lx_abi.specs.declared.ptrace.TraceOptions.{TraceOptions}
use Rattle.pt_model.specs.Ptrace.{Proc, Report, Host, without, tracee_stop, stop_at, is_dying, is_there, reports_of, may_die, is_effective, proc_after, moved, newborn, inherits, bears, host_turn_of}
use Rattle.pt_model.specs.Requests.{take_report}
use Rattle.pt_model.specs.View.{has_exit}
use Rattle.pt_model.specs.Laws.{is_alive, reports_for, one_if, KernelTurnsApart, HostTurnsApart, TheDeadHaveEnded, TheHeldAreStill, TheHeldCanBeKilled, FirstReportIsTold, ForkIsToldFirst, OneReportAStop, NoOtherReport}
use Rattle.pt_model.proofs.Maps.{same_or_not, is_same, is_not_same, put_here, put_apart}
use Rattle.pt_model.proofs.Views.{has_exit-append}

-- Others

child_apart : {S B : Type 0} (k : Kernel S B) (e : PtraceEvent B) (q : ℕ) → k.child ≢ q → (with_child k e).tasks q ≡ k.tasks q
child_apart k Plain q d = refl
child_apart k Execed q d = refl
child_apart k (Forked b) q d = put_apart k.tasks k.child (Alive b Born) q d

pub kernel_turns_apart : {S B : Type 0} → KernelTurnsApart S B
kernel_turns_apart m script follow k p q d c = child_apart (after_turn k p (turn_of m script follow k p)) (turn_of m script follow k p).event q c ∙ put_apart k.tasks p (turn_of m script follow k p).task q d

newborn_apart : {S B : Type 0} (h : Host S B) (b : B) (w : Option TraceOptions) (q : ℕ) → h.child ≢ q → (newborn h b w).procs q ≡ h.procs q
newborn_apart h b None q d = put_apart h.procs h.child _ q d
newborn_apart h b (Some w) q d = put_apart h.procs h.child _ q d

bears_apart : {S B : Type 0} (h : Host S B) (w : Option TraceOptions) (e : PtraceEvent B) (q : ℕ) → h.child ≢ q → (bears h w e).procs q ≡ h.procs q
bears_apart h w Plain q d = refl
bears_apart h w Execed q d = refl
bears_apart h w (Forked b) q d = newborn_apart h b (inherits w) q d

-- what a turn of p leaves, where it reaches the kernel
abbrev pub turned_host : {S B : Type 0} → Machine S B → Host S B → ℕ → Host S B
turned_host m h p = bears (moved h p (h.procs p).options (host_turn_of m h p)) (h.procs p).options (host_turn_of m h p).event

pub host_turns_apart : {S B : Type 0} → HostTurnsApart S B
host_turns_apart {S} {B} m h p q d c = go (is_effective m h.shared p (h.procs p))
  where
    go : (b : Bool) → (cond b (turned_host m h p) h).procs q ≡ h.procs q
    go true = bears_apart (moved h p (h.procs p).options (host_turn_of m h p)) (h.procs p).options (host_turn_of m h p).event q c ∙ put_apart h.procs p _ q d
    go false = refl

-- Ends

module _ {S B : Type 0} (m : Machine S B) (s : S) (child p : ℕ) where
  -- a turn that ends a process logs its end
  abbrev Logs : Out S B → Type 0
  Logs o = is_alive o.task ≡ false → has_exit p (option_to_list o.item) ≡ true

  here : (p == p) || false ≡ true
  here = rw (is_same p) refl

  stepped_logs : (b : B) (r : Ran S B) → Logs (stepped m s p b r)
  stepped_logs b (Goes c) h = absurd (cc h)
  stepped_logs b Calls h = absurd (cc h)
  stepped_logs b (Faults n cause) h = absurd (cc h)
  stepped_logs b (Takes t n cause) h = absurd (cc h)

  answered_logs : (b : B) (c : Call) (a : Answer S B) → Logs (answered m s child p b c a)
  answered_logs b c (Refused e) h = absurd (cc h)
  answered_logs b c (Returns t d x) h = absurd (cc h)
  answered_logs b c (Jumps t d) h = absurd (cc h)
  answered_logs b c (Execs t d) h = absurd (cc h)
  answered_logs b c (Bears t d born) h = absurd (cc h)
  answered_logs b c Blocks h = absurd (cc h)
  answered_logs b c (Ends w) h = here

  halts_logs : (continued : Bool) (b : B) (n : Signal) → Logs (halts continued m s p b n)
  halts_logs true b n h = absurd (cc h)
  halts_logs false b n h = absurd (cc h)

  wakes_logs : (continued : Bool) (b : B) (n : Signal) → Logs (wakes continued m s p b n)
  wakes_logs true b n h = absurd (cc h)
  wakes_logs false b n h = absurd (cc h)

  took_logs : (b : B) (n : Signal) (cause : Cause) (t : Took S B) → Logs (took m s p b n cause t)
  took_logs b n cause (Passes t c) h = absurd (cc h)
  took_logs b n cause Stops h = halts_logs (m.continued s p) b n h
  took_logs b n cause (Kills w) h = here

  lives_logs : (c : Choice) (b : B) (stage : Stage) → Logs (lives m c s child p b stage)
  lives_logs c b Born h = absurd (cc h)
  lives_logs c b Run h = stepped_logs b (m.step s p b) h
  lives_logs c b (Faulting n cause) h = absurd (cc h)
  lives_logs c b (Entered joined) h = absurd (cc h)
  lives_logs c b (Doing call) h = answered_logs b call (m.call s child p call b) h
  lives_logs c b (Replaced call x) h = absurd (cc h)
  lives_logs c b (Acted call x replaced) h = absurd (cc h)
  lives_logs c b Finished h = absurd (cc h)
  lives_logs c b (Taken n cause) h = took_logs b n cause (m.take s p n cause b) h
  lives_logs c b Dropped h = absurd (cc h)
  lives_logs c b (Stopped n) h = wakes_logs (m.continued s p) b n h
  lives_logs c b Released h = absurd (cc h)
  lives_logs c b Woken h = absurd (cc h)

  killed_logs : (kk : Bool) (c : Choice) (b : B) (stage : Stage) → Logs (killed_or kk m c s child p b stage)
  killed_logs true c b stage h = here
  killed_logs false c b stage h = lives_logs c b stage h

  turn_logs : (c : Choice) (task : Task B) → is_alive task ≡ true → Logs (turn m c s child p task)
  turn_logs c (Alive b stage) a h = killed_logs (m.killed s p) c b stage h
  turn_logs c (Dying w) a h = absurd (cc a)
  turn_logs c Gone a h = absurd (cc a)

-- who was born and lives no more has logged its end
record Ended_all {S B : Type 0} (k : Kernel S B) : Type 0 where
  each : (q : ℕ) → 1 ≤ q → q < k.child → is_alive (k.tasks q) ≡ false → has_exit q k.log ≡ true

or_left : (a b : Bool) → a ≡ true → (a || b) ≡ true
or_left true b h = refl
or_left false b h = absurd (cc h)

or_right : (a b : Bool) → b ≡ true → (a || b) ≡ true
or_right true b h = refl
or_right false b h = h

module _ {S B : Type 0} (m : Machine S B) (script : Script) (follow : Bool) (k : Kernel S B) (p : ℕ) where
  task_turn : (alive : Bool) → is_alive (k.tasks p) ≡ alive → Ended_all k → 1 ≤ p → p < k.child → is_alive (turn_of m script follow k p).task ≡ false → has_exit p (k.log ++ option_to_list (turn_of m script follow k p).item) ≡ true
  task_turn true e t l g h = has_exit-append p k.log _ ∙ or_right (has_exit p k.log) _ (turn_logs m k.shared k.child p _ (k.tasks p) e h)
  task_turn false e t l g h = has_exit-append p k.log _ ∙ or_left (has_exit p k.log) _ (t.each p l g e)

  turned_ended : Ended_all k → Ended_all (after_turn k p (turn_of m script follow k p))
  turned_ended t = record {
    each = λ q l g h. ⊎_elim
        (λ (e : p ≡ q). subst (λ x. has_exit x (k.log ++ option_to_list (turn_of m script follow k p).item) ≡ true) e
        (task_turn (is_alive (k.tasks p)) refl t (subst (λ x. 1 ≤ x) (sym e) l) (subst (λ x. x < k.child) (sym e) g) (ap is_alive (sym (put_here k.tasks p (turn_of m script follow k p).task) ∙ ap (put k.tasks p (turn_of m script follow k p).task) e) ∙ h)))
        (λ (d : p ≢ q). has_exit-append q k.log _ ∙ or_left (has_exit q k.log) _ (t.each q l g (ap is_alive (sym (put_apart k.tasks p (turn_of m script follow k p).task q d)) ∙ h)))
        (same_or_not p q);
  }

born_ended : {S B : Type 0} (k : Kernel S B) (e : PtraceEvent B) → Ended_all k → Ended_all (with_child k e)
born_ended k Plain t = t
born_ended k Execed t = t
born_ended k (Forked b) t = record {
  each = λ q l g h. ⊎_elim
      (λ (e : k.child ≡ q). absurd (cc (h, ap is_alive (sym (put_here k.tasks k.child (Alive b Born)) ∙ ap (put k.tasks k.child (Alive b Born)) e))))
      (λ (d : k.child ≢ q). t.each q l (omega (arith, g, d)) (ap is_alive (sym (put_apart k.tasks k.child (Alive b Born) q d)) ∙ h))
      (same_or_not k.child q);
}

run_ended : {S B : Type 0} (m : Machine S B) (script : Script) (follow : Bool) (pids : List ℕ) (k : Kernel S B) → Ended_all k → Ended_all (kernel_run m script follow k pids)
run_ended m script follow [] k t = t
run_ended m script follow (p ∷ ps) k t = run_ended m script follow ps (kernel_turn m script follow k p) (born_ended (after_turn k p (turn_of m script follow k p)) (turn_of m script follow k p).event (turned_ended m script follow k p t))

alive_first : {S B : Type 0} (s : S) (b : B) (q : ℕ) → 1 ≡ q → is_alive ((first_kernel s b).tasks q) ≡ false → ⊥
alive_first s b q e h = let here : is_alive ((first_kernel s b).tasks 1) ≡ false = ap (λ x. is_alive ((first_kernel s b).tasks x)) e ∙ h in cc here

first_ended : {S B : Type 0} (s : S) (b : B) → Ended_all (first_kernel s b)
first_ended s b = record { each = λ q l g h. let e : 1 ≡ q = omega (arith, l, g) in absurd (alive_first s b q e h) }

pub the_dead_have_ended : {S B : Type 0} → TheDeadHaveEnded S B
the_dead_have_ended m script follow s b pids q = (run_ended m script follow pids (first_kernel s b) (first_ended s b)).each q

-- Held processes

no_kill : {S B : Type 0} (m : Machine S B) (s : S) (p : ℕ) (w : Option TraceOptions) (task : Task B) → m.killed s p ≡ false → may_die m s p w task ≡ false
no_kill m s p (Some w) (Alive b stage) h = h
no_kill m s p (Some w) (Dying v) h = refl
no_kill m s p (Some w) Gone h = refl
no_kill m s p None task h = refl

pub the_held_are_still : {S B : Type 0} → TheHeldAreStill S B
the_held_are_still m h p held alive = rw (held, no_kill m h.shared p (h.procs p).options (h.procs p).task alive) refl

pub the_held_can_be_killed : {S B : Type 0} → TheHeldCanBeKilled S B
the_held_can_be_killed m h p b stage w e killed = rw (e, killed) (put_here h.procs p _)

-- Reports

take_queue : {S B : Type 0} (h : Host S B) (rest : List Report) (p : ℕ) (stop : Stop) → (take_report h rest p stop).queue ≡ rest
take_queue h rest p (Syscall_stop good) = refl
take_queue h rest p (Signal_stop n) = refl
take_queue h rest p (Group_stop n) = refl
take_queue h rest p (Event_stop n) = refl
take_queue h rest p (Ended w) = refl

pub first_report_is_told : {S B : Type 0} → FirstReportIsTold S B
first_report_is_told m outcome h r rest e = rw e (refl, take_queue h rest r.pid r.stop)

module _ {S B : Type 0} (m : Machine S B) (w : TraceOptions) (s : S) (child p : ℕ) where
  -- a turn that bears a child leaves its process at the clone that did
  abbrev Clones : Out S B → Type 0
  Clones o = (born : B) → o.event ≡ Forked born → (is_dying o.task ≡ false) × (tracee_stop w o.task o.item (Forked born) ≡ cond w.forks (Some (Event_stop At_fork)) None)

  stepped_clones : (b : B) (r : Ran S B) → Clones (stepped m s p b r)
  stepped_clones b (Goes c) born h = absurd (cc h)
  stepped_clones b Calls born h = absurd (cc h)
  stepped_clones b (Faults n cause) born h = absurd (cc h)
  stepped_clones b (Takes t n cause) born h = absurd (cc h)

  answered_clones : (b : B) (c : Call) (a : Answer S B) → Clones (answered m s child p b c a)
  answered_clones b c (Refused e) born h = absurd (cc h)
  answered_clones b c (Returns t d x) born h = absurd (cc h)
  answered_clones b c (Jumps t d) born h = absurd (cc h)
  answered_clones b c (Execs t d) born h = absurd (cc h)
  answered_clones b c (Bears t d child_user) born h = (refl, refl)
  answered_clones b c Blocks born h = absurd (cc h)
  answered_clones b c (Ends v) born h = absurd (cc h)

  halts_clones : (continued : Bool) (b : B) (n : Signal) → Clones (halts continued m s p b n)
  halts_clones true b n born h = absurd (cc h)
  halts_clones false b n born h = absurd (cc h)

  wakes_clones : (continued : Bool) (b : B) (n : Signal) → Clones (wakes continued m s p b n)
  wakes_clones true b n born h = absurd (cc h)
  wakes_clones false b n born h = absurd (cc h)

  took_clones : (b : B) (n : Signal) (cause : Cause) (t : Took S B) → Clones (took m s p b n cause t)
  took_clones b n cause (Passes t c) born h = absurd (cc h)
  took_clones b n cause Stops born h = halts_clones (m.continued s p) b n born h
  took_clones b n cause (Kills v) born h = absurd (cc h)

  lives_clones : (c : Choice) (b : B) (stage : Stage) → Clones (lives m c s child p b stage)
  lives_clones c b Born born h = absurd (cc h)
  lives_clones c b Run born h = stepped_clones b (m.step s p b) born h
  lives_clones c b (Faulting n cause) born h = absurd (cc h)
  lives_clones c b (Entered joined) born h = absurd (cc h)
  lives_clones c b (Doing call) born h = answered_clones b call (m.call s child p call b) born h
  lives_clones c b (Replaced call x) born h = absurd (cc h)
  lives_clones c b (Acted call x replaced) born h = absurd (cc h)
  lives_clones c b Finished born h = absurd (cc h)
  lives_clones c b (Taken n cause) born h = took_clones b n cause (m.take s p n cause b) born h
  lives_clones c b Dropped born h = absurd (cc h)
  lives_clones c b (Stopped n) born h = wakes_clones (m.continued s p) b n born h
  lives_clones c b Released born h = absurd (cc h)
  lives_clones c b Woken born h = absurd (cc h)

  killed_clones : (kk : Bool) (c : Choice) (b : B) (stage : Stage) → Clones (killed_or kk m c s child p b stage)
  killed_clones true c b stage born h = absurd (cc h)
  killed_clones false c b stage born h = lives_clones c b stage born h

  turn_clones : (c : Choice) (task : Task B) → Clones (turn m c s child p task)
  turn_clones c (Alive b stage) born h = killed_clones (m.killed s p) c b stage born h
  turn_clones c (Dying v) born h = absurd (cc h)
  turn_clones c Gone born h = absurd (cc h)

fork_queue : {S B : Type 0} (h : Host S B) (p : ℕ) (w : TraceOptions) (o : Out S B) (born : B) → w.forks ≡ true → o.event ≡ Forked born → is_dying o.task ≡ false → tracee_stop w o.task o.item (Forked born) ≡ cond w.forks (Some (Event_stop At_fork)) None →
    (bears (moved h p (Some w) o) (Some w) o.event).queue ≡ h.queue ++ record { pid = p; stop = Event_stop At_fork } ∷ record { pid = h.child; stop = Event_stop At_start } ∷ []
fork_queue h p w o born f x dying stop = rw (x, dying, stop, f) (append_assoc h.queue (record { pid = p; stop = Event_stop At_fork } ∷ []) (record { pid = h.child; stop = Event_stop At_start } ∷ []))

pub fork_is_told_first : {S B : Type 0} → ForkIsToldFirst S B
fork_is_told_first m h p w born e f g x =
    let c : (is_dying (host_turn_of m h p).task ≡ false) × (tracee_stop w (host_turn_of m h p).task (host_turn_of m h p).item (Forked born) ≡ cond w.forks (Some (Event_stop At_fork)) None) = turn_clones m w h.shared h.child p no_choice (h.procs p).task born x in
    rw (g, e) (fork_queue h p w (host_turn_of m h p) born f x c.0 c.1)

reports_for-append : (q : ℕ) (xs ys : List Report) → reports_for q (xs ++ ys) ≡ reports_for q xs + reports_for q ys
reports_for-append q xs ys = ap length (filter-append (λ (r : Report). q == r.pid) xs ys) ∙ length-append (filter (λ (r : Report). q == r.pid) xs) (filter (λ (r : Report). q == r.pid) ys)

reports_for-without : (p : ℕ) (queue : List Report) → reports_for p (without p queue) ≡ 0
reports_for-without p [] = refl
reports_for-without p (r ∷ queue) = go (p == r.pid) refl (reports_for-without p queue)
  where
    go : (b : Bool) → (p == r.pid) ≡ b → reports_for p (without p queue) ≡ 0 → reports_for p (cond (not b) (r ∷ without p queue) (without p queue)) ≡ 0
    go true e again = again
    go false e again = rw e again

reports_for-apart : (p q : ℕ) → p ≢ q → (queue : List Report) → reports_for q (without p queue) ≡ reports_for q queue
reports_for-apart p q d [] = refl
reports_for-apart p q d (r ∷ queue) = go (p == r.pid) refl (reports_for-apart p q d queue)
  where
    go : (b : Bool) → (p == r.pid) ≡ b → reports_for q (without p queue) ≡ reports_for q queue → reports_for q (cond (not b) (r ∷ without p queue) (without p queue)) ≡ reports_for q (r ∷ queue)
    go true e again = let n : (q == r.pid) ≡ false = grind (arith, nat_tests) in rw n again
    go false e again = go_on (q == r.pid) again
      where
        go_on : (b : Bool) → reports_for q (without p queue) ≡ reports_for q queue → length (cond b (r ∷ filter (λ (x : Report). q == x.pid) (without p queue)) (filter (λ (x : Report). q == x.pid) (without p queue))) ≡ length (cond b (r ∷ filter (λ (x : Report). q == x.pid) queue) (filter (λ (x : Report). q == x.pid) queue))
        go_on true more = ap suc more
        go_on false more = more

reports_for_task : (p : ℕ) (stop : Option Stop) → reports_for p (reports_of p stop) ≡ one_if (is_there stop)
reports_for_task p (Some s) = rw (is_same p) refl
reports_for_task p None = refl

reports_for_other : (p q : ℕ) → p ≢ q → (stop : Option Stop) → reports_for q (reports_of p stop) ≡ 0
reports_for_other p q d (Some s) = rw (is_not_same q p (λ e. d (sym e))) refl
reports_for_other p q d None = refl

born_report : {S B : Type 0} (h : Host S B) (b : B) (w : Option TraceOptions) (q : ℕ) → h.child ≢ q → reports_for q (newborn h b w).queue ≡ reports_for q h.queue
born_report h b None q d = refl
born_report h b (Some w) q d = reports_for-append q h.queue _ ∙ ap (λ x. reports_for q h.queue + x) (reports_for_other h.child q d (Some (Event_stop At_start))) ∙ add-zero (reports_for q h.queue)

bears_report : {S B : Type 0} (h : Host S B) (w : Option TraceOptions) (e : PtraceEvent B) (q : ℕ) → h.child ≢ q → reports_for q (bears h w e).queue ≡ reports_for q h.queue
bears_report h w Plain q d = refl
bears_report h w Execed q d = refl
bears_report h w (Forked b) q d = born_report h b (inherits w) q d

task_reports : (p : ℕ) (queue : List Report) (dying : Bool) (stop : Option Stop) → reports_for p (cond dying (without p queue) queue ++ reports_of p stop) ≡ cond dying 0 (reports_for p queue) + one_if (is_there stop)
task_reports p queue true stop = reports_for-append p (without p queue) (reports_of p stop) ∙ ap₂ (λ x y. x + y) (reports_for-without p queue) (reports_for_task p stop)
task_reports p queue false stop = reports_for-append p queue (reports_of p stop) ∙ ap (λ x. reports_for p queue + x) (reports_for_task p stop)

other_reports : (p q : ℕ) → p ≢ q → (queue : List Report) (dying : Bool) (stop : Option Stop) → reports_for q (cond dying (without p queue) queue ++ reports_of p stop) ≡ reports_for q queue
other_reports p q d queue true stop = reports_for-append q (without p queue) (reports_of p stop) ∙ ap₂ (λ x y. x + y) (reports_for-apart p q d queue) (reports_for_other p q d stop) ∙ add-zero (reports_for q queue)
other_reports p q d queue false stop = reports_for-append q queue (reports_of p stop) ∙ ap (λ x. reports_for q queue + x) (reports_for_other p q d stop) ∙ add-zero (reports_for q queue)

pub one_report_a_stop : {S B : Type 0} → OneReportAStop S B
one_report_a_stop {S} {B} m h p d g =
    let w : Option TraceOptions = (h.procs p).options in
    let o : Out S B = host_turn_of m h p in
    let c : h.child ≢ p = λ e. d (sym e) in
    let left : (turned_host m h p).procs p ≡ proc_after w o.task o.item o.event = bears_apart (moved h p w o) w o.event p c ∙ put_here h.procs p (proc_after w o.task o.item o.event) in
    let told : reports_for p (turned_host m h p).queue ≡ cond (is_dying o.task) 0 (reports_for p h.queue) + one_if (is_there (stop_at w o.task o.item o.event)) = bears_report (moved h p w o) w o.event p c ∙ task_reports p h.queue (is_dying o.task) (stop_at w o.task o.item o.event) in
    rw g (told ∙ ap (λ (t : Proc B). cond (is_dying o.task) 0 (reports_for p h.queue) + one_if t.held) (sym left))

pub no_other_report : {S B : Type 0} → NoOtherReport S B
no_other_report {S} {B} m h p q d c = go (is_effective m h.shared p (h.procs p))
  where
    go : (b : Bool) → reports_for q (cond b (turned_host m h p) h).queue ≡ reports_for q h.queue
    go true = bears_report (moved h p (h.procs p).options (host_turn_of m h p)) (h.procs p).options (host_turn_of m h p).event q c ∙ other_reports p q d h.queue (is_dying (host_turn_of m h p).task) (stop_at (h.procs p).options (host_turn_of m h p).task (host_turn_of m h p).item (host_turn_of m h p).event)
    go false = refl
