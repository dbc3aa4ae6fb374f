-- Runs with a failure, by turns and by rows of turns.
use Rattle.std.proofs.Common.{◌≡◌, Bool, ℕ, zero, suc, ◌-◌, ◌+◌, ◌<◌, ◌≤◌, true, false, not, cond, ◌&&◌, List, [], ◌∷◌, ◌++◌, Option, Some, None, refl, sym, ap, ap₂, subst, ◌∙◌, append-nil, arith}
use Rattle.std.specs.Prelude.{slice_set}
use Rattle.std.specs.Option.{option_to_list}
use Rattle.lx_abi.specs.declared.errno.Errno.{Errno}
use Rattle.lx_abi.specs.declared.log.Call.{Call}
use Rattle.lx_abi.specs.declared.log.Item.{Item}
use Rattle.lx_abi.specs.declared.script.Choice.{Choice}
use Rattle.lx_model.specs.Finite.{item_of, ran}
use Rattle.lx_abi.specs.Errors.{error_word}
use Rattle.lx_model.specs.Machine.{Regs, call_of}
use Rattle.lx_model.specs.declared.stage.Task.{Task}
use Rattle.lx_proc.specs.declared.state.UserState.{UserState}
use Rattle.lx_model.specs.declared.event.PtraceEvent.{PtraceEvent}
use Rattle.lx_kernel.specs.Advances.{GoesOn, Leads}
use Rattle.lx_kernel.specs.Choices.{after_choosing, turn_choosing_in}
use Rattle.lx_kernel.specs.Laws.{after_all}
use Rattle.lx_kernel.specs.Runs.{Run, after_turn, mode_in, turn_in}
use Rattle.lx_kernel.specs.Tracing.{regs_of, task_in, with_part, with_regs}
use Rattle.pt_schedule.specs.declared.schedule.Schedule.{Schedule}
use Rattle.pt_schedule.specs.declared.schedule.TurnRun.{TurnRun}
use Rattle.pt_schedule.specs.Rows.{run_of, after_turns as left_after, Continues}
use Rattle.pt_schedule.specs.Schedules.{Given, GivenTurn, events_left, given_turn, next_by, next_turn_of, unserved}
use Rattle.pt_schedule.specs.Untraced.{readiness_of}
use Rattle.pt_schedule.proofs.Rowing.{runs_are_turns, none_after, more_after}
use Rattle.plain_run.specs.Watched.{Tells}
use Rattle.plain_run.specs.Runs.{IsCause}
use Rattle.plain_run.specs.declared.running.Halt.{Halt}
use Rattle.plain_run.specs.declared.running.Halt.TheVariants.{Memory, Weary}
use Rattle.plain_run.proofs.Turning.{continues, bore_log, after_unserved, told_unserved, turn_less}
use Rattle.sweep_rows.specs.Descriptors.{descriptor, uses_in, uses_of}
use Rattle.sweep_rows.specs.Known.{IsKnown}
use Rattle.sweep_rows.specs.Worlds.{error_in}
use Rattle.sweep_rows.specs.declared.descriptors.Use.{Use}
use Rattle.sweep_rows.specs.declared.known.Known.{Known}
use Rattle.sweep_rows.specs.declared.worlds.World.{World}
use Rattle.sweep_faults.specs.declared.faults.Fault.{Fault}
use Rattle.sweep_rows.specs.declared.kinds.Kind.{Kind}
use Rattle.sweep_rows.specs.declared.kinds.Kind.TheVariants as kind
use Rattle.sweep_faults.specs.Faults.{after_asking, after_failing, after_fault, counting, ends_at, error_asked, is_at, is_entered, is_stop, last_asked, with_register, writing}
use Rattle.sweep_faults.specs.InRows.{HasNext, InRow}
use Rattle.sweep_faults.specs.Runs.{IsFaulted, RunsFaulted, EndsAreSettled, RunsKeepLogs, StopsAreTurns, next_pid, unless_ended}
use Rattle.sweep_faults.proofs.Standing.{not_at}

-- What is told

pub choosing_log : (k k' : Run) (p : ℕ) (choice : Choice) (item : Option Item) → k' ≡ after_choosing k p choice → item ≡ item_of (turn_choosing_in k p choice) → k'.running.log ≡ k.running.log ++ option_to_list item
choosing_log k k' p choice item turned is =
    ap (λ (x : Run). x.running.log) turned
    ∙ bore_log (ran k.running p (turn_choosing_in k p choice)) (turn_choosing_in k p choice).event
    ∙ ap (λ o. k.running.log ++ option_to_list o) (sym is)

pub turned_log : (k k' : Run) (p : ℕ) (item : Option Item) → k' ≡ after_turn k p → item ≡ item_of (turn_in k p) → k'.running.log ≡ k.running.log ++ option_to_list item
turned_log k k' p item turned is =
    ap (λ (x : Run). x.running.log) turned
    ∙ bore_log (ran k.running p (turn_in k p)) (turn_in k p).event
    ∙ ap (λ o. k.running.log ++ option_to_list o) (sym is)

part_log : (k : Run) (p : ℕ) (part : Option (Task UserState)) → (with_part k p part).running.log ≡ k.running.log
part_log k p None = refl
part_log k p (Some task) = refl

pub written_log : (k k' : Run) (p : ℕ) (r : Regs) → k' ≡ with_part k p (with_regs r (task_in k p)) → k'.running.log ≡ k.running.log
written_log k k' p r part = ap (λ (x : Run). x.running.log) part ∙ part_log k p (with_regs r (task_in k p))

pub written_is : (k k' : Run) (p number value : ℕ) (r r' : Regs) → Some r ≡ regs_of (task_in k p) → r' ≡ slice_set r number value → k' ≡ with_part k p (with_regs r' (task_in k p)) → k' ≡ writing k p number value
written_is k k' p number value r r' had has part =
    part
    ∙ ap (λ x. with_part k p (with_regs x (task_in k p))) has
    ∙ ap (λ o. with_part k p (with_register number value o (task_in k p))) had

pub unwritten_is : (k : Run) (p number value : ℕ) → None ≡ regs_of (task_in k p) → k ≡ writing k p number value
unwritten_is k p number value none = ap (λ o. with_part k p (with_register number value o (task_in k p))) none

-- What a world has of a call

pub asked_is : (w : World) (log : List Item) (p : ℕ) (known : Known) (o : Option Regs) (r : Regs) (call : Call) (used : Use) (error : Option Errno) → IsKnown log known → Some r ≡ o → call ≡ call_of r → used ≡ uses_in known.descriptors p (descriptor call)
    → error ≡ error_in w call used.target → error ≡ error_asked w log p o
asked_is w log p known o r call used error h had is has found =
    found
    ∙ ap (λ u. error_in w call u.target) has
    ∙ ap (λ uses. error_in w call (uses p (descriptor call)).target) h.uses
    ∙ ap (λ c. error_in w c (uses_of log p (descriptor c)).target) is
    ∙ ap (λ x. error_asked w log p x) had

pub told_item : (k k' : Run) (item : Option Item) (told told' : List Item) → k'.running.log ≡ k.running.log ++ option_to_list item → told' ≡ told ++ option_to_list item → Tells k told k' told'
told_item k k' item told told' h g = record { items = option_to_list item; logged = h; are_told = g }

pub told_same : (k k' : Run) (told : List Item) → k'.running.log ≡ k.running.log → Tells k told k' told
told_same k k' told h = record { items = []; logged = h ∙ sym (append-nil k.running.log); are_told = sym (append-nil told) }

pub weary_by : (failed weary : Bool) (halt : Halt) → IsCause failed weary halt → halt ≡ Weary → weary ≡ true
weary_by failed weary Memory h e = absurd (cc e)
weary_by failed weary Weary h e = h

pub nothing_logged : (log : List Item) → log ≡ log ++ option_to_list None
nothing_logged log = sym (append-nil log)

-- A turn that is none of the entry that fails is the kernel's own

and_false : (b : Bool) → (b && false) ≡ false
and_false true = refl
and_false false = refl

no_end : (f : Fault) (k : Run) (p : ℕ) → GoesOn k p → ends_at f k p ≡ false
no_end f k p on = ap (λ b. is_stop f.kind && b) (not_at f k p on) ∙ and_false (is_stop f.kind)

after_other : (f : Fault) (k : Run) (p : ℕ) → is_at f k p ≡ false → after_fault f k p ≡ after_turn k p
after_other f k p e = ap (λ b. cond b (after_failing f.kind k p) (after_turn k p)) e

row_of : (f : Fault) (n : ℕ) (k k' : Run) (p : ℕ) (item : Option Item) (event : PtraceEvent ℕ) → is_at f k p ≡ false → Leads k p (suc n) item event k' → InRow f k p n k'
unfolding InRow
row_of f zero k k' p item event other leads =
    leads.2.turned ∙ ap (λ b. after_turn b p) leads.1 ∙ sym (after_other f k p other)
row_of f (suc n) k k' p item event other leads =
    subst (λ x. HasNext f x p × InRow f x p n k') (sym (after_other f k p other)) (
      (continues (after_turn k p) p leads.1.0.on, no_end f (after_turn k p) p leads.1.0.on),
      row_of f n (after_turn k p) k' p item event (not_at f (after_turn k p) p leads.1.0.on) (leads.0, leads.1.1, leads.2),
    )

pub row_of_others : (f : Fault) (turns : ℕ) (k k' : Run) (p : ℕ) (item : Option Item) (event : PtraceEvent ℕ) → 0 < turns → Leads k p turns item event k' → is_at f k p ≡ false → InRow f k p (turns - 1) k'
row_of_others f turns k k' p item event some leads other =
    let count : turns ≡ suc (turns - 1) = omega (arith, some) in
    row_of f (turns - 1) k k' p item event other (subst (λ n. Leads k p n item event k') count leads)

pub row_failing : (f : Fault) (turns : ℕ) (k k' : Run) (p : ℕ) → turns ≡ 1 → is_at f k p ≡ true → k' ≡ after_failing f.kind k p → InRow f k p (turns - 1) k'
unfolding InRow
row_failing f turns k k' p one at turned =
    let count : zero ≡ turns - 1 = omega (arith, one) in
    subst (λ n. InRow f k p n k') count
    (turned ∙ sym (ap (λ b. cond b (after_failing f.kind k p) (after_turn k p)) at))

module _ (f : Fault) where
  -- One turn more

  pub ended_is : (k : Run) (s : Schedule) → None ≡ next_pid f k s → RunsFaulted f k s k
  ended_is k s none = record { pids = []; is_run = (sym none, refl) }

  pub turn_is : (k : Run) (s : Schedule) (p : ℕ) (s' : Schedule) (z : Run) → Some p ≡ next_pid f k s → s' ≡ (next_turn_of s (readiness_of k)).schedule → RunsFaulted f (after_fault f k p) s' z → RunsFaulted f k s z
  turn_is k s p s' z next left rest = record {
    pids = p ∷ rest.pids;
    is_run = (sym next, subst (λ t. IsFaulted f (after_fault f k p) t rest.pids z) left rest.is_run);
  }

  -- Whose turn comes next

  pub nobody_next : (k : Run) (s s' : Schedule) → record { pid = None; schedule = s' } ≡ next_turn_of s (readiness_of k) → None ≡ next_pid f k s
  nobody_next k s s' g = ap (λ (x : GivenTurn). unless_ended f k x.pid) g

  pub ended_next : (k : Run) (s : Schedule) (p : ℕ) (s' : Schedule) → true ≡ ends_at f k p → record { pid = Some p; schedule = s' } ≡ next_turn_of s (readiness_of k) → None ≡ next_pid f k s
  ended_next k s p s' ends g = ap (λ b. cond b None (Some p)) ends ∙ ap (λ (x : GivenTurn). unless_ended f k x.pid) g

  pub next_is : (k : Run) (s : Schedule) (p : ℕ) (s' : Schedule) → false ≡ ends_at f k p → record { pid = Some p; schedule = s' } ≡ next_turn_of s (readiness_of k) → Some p ≡ next_pid f k s
  next_is k s p s' on g = ap (λ b. cond b None (Some p)) on ∙ ap (λ (x : GivenTurn). unless_ended f k x.pid) g

  given_by : (k : Run) (p : ℕ) (o : Option ℕ) → Some p ≡ unless_ended f k o → Some p ≡ o
  given_by k p None e = e
  given_by k p (Some q) e = of (ends_at f k q) e
    where
      of : (b : Bool) → Some p ≡ cond b None (Some q) → Some p ≡ Some q
      of true e = absurd (cc e)
      of false e = e

  -- a turn leaves fewer events
  pub next_less : (k : Run) (s : Schedule) (p : ℕ) (s' : Schedule) → Some p ≡ next_pid f k s → s' ≡ (next_turn_of s (readiness_of k)).schedule → events_left s' < events_left s
  next_less k s p s' next left =
      turn_less s (readiness_of k) p s'
      (ap₂ (λ o t. given o t) (given_by k p (next_turn_of s (readiness_of k)).pid next) left)
    where
      given : Option ℕ → Schedule → GivenTurn
      given o t = record { pid = o; schedule = t }

  pub has_next : (ends : Bool) (k : Run) (p : ℕ) → ends ≡ ends_at f k p → Continues (readiness_of k) p → not ends ≡ true → HasNext f k p
  has_next true k p e on h = absurd (cc h)
  has_next false k p e on h = (on, sym e)

  same_run : (ps : List ℕ) (k : Run) (s t : Schedule) (z : Run) → unserved s.order ≡ unserved t.order → IsFaulted f k s ps z → IsFaulted f k t ps z
  same_run [] k s t z e h = subst (λ o. (unless_ended f k (given_turn (next_by o (readiness_of k))).pid ≡ None) × (z ≡ k)) e h
  same_run (p ∷ ps) k s t z e h = subst (λ o. (unless_ended f k (given_turn (next_by o (readiness_of k))).pid ≡ Some p) × IsFaulted f (after_fault f k p) (given_turn (next_by o (readiness_of k))).schedule ps z) e h

  -- the row's next turn
  row_turn : (k : Run) (s : Schedule) (r : TurnRun) (z : Run) → run_of s ≡ Some r → 0 < r.turns → HasNext f k r.pid →
      RunsFaulted f (after_fault f k r.pid) (left_after s 1) z → RunsFaulted f k s z
  row_turn k s r z told some on later =
      let u : Schedule = record { order = unserved s.order } in
      let it = runs_are_turns u r (told_unserved s.order r told) some in
      let given : record { pid = Some r.pid; schedule = left_after u 1 } ≡ next_turn_of s (readiness_of k) =
      sym (ap (λ (g : Given Schedule). given_turn g) (it.next (readiness_of k) on.0)) in
      turn_is k s r.pid (left_after u 1) z (next_is k s r.pid (left_after u 1) (sym on.1) given)
      (ap (λ (x : GivenTurn). x.schedule) given)
      (record { pids = later.pids; is_run = same_run later.pids (after_fault f k r.pid) (left_after s 1) (left_after u 1) z (sym (after_unserved s.order 1)) later.is_run })

  row_more : (n m : ℕ) (k b k' : Run) (p : ℕ) → InRow f k p n b → HasNext f b p → InRow f b p m k' → InRow f k p (n + suc m) k'
  unfolding InRow
  row_more zero m k b k' p row on more =
      let count : suc m ≡ 0 + suc m = omega arith in
      subst (λ i. InRow f k p i k') count (subst (λ x. HasNext f x p × InRow f x p m k') row (on, more))
  row_more (suc n) m k b k' p row on more =
      let count : suc (n + suc m) ≡ suc n + suc m = omega arith in
      subst (λ i. InRow f k p i k') count (row.0, row_more n m (after_fault f k p) b k' p row.1 on more)

  -- so many were made, and there is another
  abbrev pub Made : Run → ℕ → ℕ → Run → Type 0
  Made k p zero k' = k' ≡ k
  Made k p (suc n) k' = InRow f k p n k' × HasNext f k' p

  joined : (made m : ℕ) (k b k' : Run) (p : ℕ) → Made k p made b → InRow f b p m k' → InRow f k p (made + m) k'
  joined zero m k b k' p same row =
      let count : m ≡ 0 + m = omega arith in
      subst (λ i. InRow f k p i k') count (subst (λ x. InRow f x p m k') same row)
  joined (suc n) m k b k' p made row =
      let count : n + suc m ≡ suc n + m = omega arith in
      subst (λ i. InRow f k p i k') count (row_more n m k b k' p made.0 made.1 row)

  pub made_more : (g : Fault) (made m : ℕ) (k b k' : Run) (p : ℕ) → g ≡ f → Made k p made b → InRow g b p m k' → InRow f k p (made + m) k'
  made_more g made m k b k' p same before row = joined made m k b k' p before (subst (λ x. InRow x b p m k') same row)

  pub made_now : (g : Fault) (n made : ℕ) (k k' : Run) (p : ℕ) → g ≡ f → n + 1 ≡ made → InRow f k p n k' → HasNext g k' p → Made k p made k'
  made_now g n made k k' p is count row on =
      let same : suc n ≡ made = omega (arith, count) in
      subst (λ i. Made k p i k') same (row, subst (λ x. HasNext x k' p) is on)

  pub row_run : (n : ℕ) (k k' : Run) (s : Schedule) (p more : ℕ) (z : Run) → InRow f k p n k' → n ≤ more →
      (0 < more → run_of s ≡ Some (record { pid = p; turns = more })) → RunsFaulted f k' (left_after s n) z → RunsFaulted f (after_fault f k p) s z
  unfolding InRow
  row_run zero k k' s p more z row l told rest =
      subst (λ x. RunsFaulted f x s z) row (subst (λ t. RunsFaulted f k' t z) (none_after s) rest)
  row_run (suc n) k k' s p more z row l told rest =
      let under_way = told (omega (arith, l)) in
      let its = runs_are_turns s (record { pid = p; turns = more }) under_way (omega (arith, l)) in
      let count : 1 + n ≡ suc n = omega arith in
      row_turn (after_fault f k p) s (record { pid = p; turns = more }) z under_way (omega (arith, l)) row.0
      (row_run n (after_fault f k p) k' (left_after s 1) p (more - 1) z row.1 (omega (arith, l)) (λ m. its.rest)
      (subst (λ t. RunsFaulted f k' t z) (sym (more_after s 1 n ∙ ap (left_after s) count)) rest))

-- The laws

goes_on_by : (f : Fault) (k : Run) (p : ℕ) (o : Option ℕ) → unless_ended f k o ≡ Some p → ends_at f k p ≡ false
goes_on_by f k p None e = absurd (cc e)
goes_on_by f k p (Some q) e = of (ends_at f k q) refl e
  where
    of : (b : Bool) → ends_at f k q ≡ b → cond b None (Some q) ≡ Some p → ends_at f k p ≡ false
    of true h e = absurd (cc e)
    of false h e =
        let same : q ≡ p = cc e in
        subst (λ x. ends_at f k x ≡ false) same h

second_false : (a b : Bool) → a ≡ true → (a && b) ≡ false → b ≡ false
second_false true b e h = h
second_false false b e h = absurd (cc e)

turns_lead : (f : Fault) → is_stop f.kind ≡ true → (ps : List ℕ) (k : Run) (s : Schedule) (z : Run) → IsFaulted f k s ps z → z ≡ after_all k ps
turns_lead f stop [] k s z h = h.1
turns_lead f stop (p ∷ ps) k s z h =
    let other : is_at f k p ≡ false =
    second_false (is_stop f.kind) (is_at f k p) stop (goes_on_by f k p (next_turn_of s (readiness_of k)).pid h.0) in
    turns_lead f stop ps (after_fault f k p) (next_turn_of s (readiness_of k)).schedule z h.1
    ∙ ap (λ x. after_all x ps) (after_other f k p other)

pub stops_turns : StopsAreTurns
stops_turns f k s z stop to = turns_lead f stop to.pids k s z to.is_run

same_pid : (p q : ℕ) (x : Option ℕ) → x ≡ Some p → x ≡ Some q → p ≡ q
same_pid p q x e f = cc (sym e ∙ f)

settled : (f : Fault) (ps qs : List ℕ) (k : Run) (s : Schedule) (y z : Run) → IsFaulted f k s ps y → IsFaulted f k s qs z → y ≡ z
settled f [] [] k s y z h g = h.1 ∙ sym g.1
settled f [] (q ∷ qs) k s y z h g = absurd (cc (sym h.0 ∙ g.0))
settled f (p ∷ ps) [] k s y z h g = absurd (cc (sym h.0 ∙ g.0))
settled f (p ∷ ps) (q ∷ qs) k s y z h g =
    let next : GivenTurn = next_turn_of s (readiness_of k) in
    settled f ps qs (after_fault f k p) next.schedule y z h.1
    (subst (λ x. IsFaulted f (after_fault f k x) next.schedule qs z) (sym (same_pid p q (next_pid f k s) h.0 g.0)) g.1)

pub ends_settled : EndsAreSettled
ends_settled f k s y z h g = settled f h.pids g.pids k s y z h.is_run g.is_run

keeps_by : (b : Bool) (x y k : Run) → x.keeps_log ≡ k.keeps_log → y.keeps_log ≡ k.keeps_log → (cond b x y).keeps_log ≡ k.keeps_log
keeps_by true x y k h g = h
keeps_by false x y k h g = g

part_keeps : (k : Run) (p : ℕ) (part : Option (Task UserState)) → (with_part k p part).keeps_log ≡ k.keeps_log
part_keeps k p None = refl
part_keeps k p (Some task) = refl

writing_keeps : (k : Run) (p number value : ℕ) → (writing k p number value).keeps_log ≡ k.keeps_log
writing_keeps k p number value = part_keeps k p (with_register number value (regs_of (task_in k p)) (task_in k p))

asking_keeps : (error : Option Errno) (k : Run) (p : ℕ) → (after_asking error k p).keeps_log ≡ k.keeps_log
asking_keeps None k p = refl
asking_keeps (Some error) k p = refl

failing_keeps : (x : Kind) (k : Run) (p : ℕ) → (after_failing x k p).keeps_log ≡ k.keeps_log
failing_keeps (kind.Undone error) k p = refl
failing_keeps (kind.Done error) k p = writing_keeps k p 10 (error_word error.number)
failing_keeps (kind.Short count) k p =
    keeps_by (is_entered (mode_in k p)) (after_turn (counting k p count) p) (after_turn (counting k p (last_asked p 0 k.running.log)) p) k
    (writing_keeps k p 12 count) (writing_keeps k p 12 (last_asked p 0 k.running.log))
failing_keeps kind.Killed k p = refl
failing_keeps kind.Stop k p = refl
failing_keeps (kind.World w) k p = asking_keeps (error_asked w k.running.log p (regs_of (task_in k p))) k p

fault_keeps : (f : Fault) (k : Run) (p : ℕ) → (after_fault f k p).keeps_log ≡ k.keeps_log
fault_keeps f k p = keeps_by (is_at f k p) (after_failing f.kind k p) (after_turn k p) k (failing_keeps f.kind k p) refl

keeps : (f : Fault) (k : Run) (s : Schedule) (pids : List ℕ) (z : Run) → IsFaulted f k s pids z → z.keeps_log ≡ k.keeps_log
keeps f k s [] z h = ap (λ (r : Run). r.keeps_log) h.1
keeps f k s (p ∷ ps) z h =
    keeps f (after_fault f k p) (next_turn_of s (readiness_of k)).schedule ps z h.1
    ∙ fault_keeps f k p

pub runs_keep_logs : RunsKeepLogs
runs_keep_logs f k s z to = keeps f k s to.pids z to.is_run
