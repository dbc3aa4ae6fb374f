-- Runs in which a call fails behind another that fails.
use Rattle.std.proofs.Common.{◌≡◌, Bool, ℕ, ◌-◌, ◌+◌, ◌<◌, ◌≤◌, true, false, cond, ◌&&◌, List, [], ◌∷◌, ◌++◌, length, filter, Option, Some, None, refl, sym, ap, ap₂, subst, ◌∙◌, arith}
use Rattle.std.specs.Prelude.{◌||◌, ◌==◌, nat_le}
use Rattle.std.specs.Option.{option_to_list}
use Rattle.std.proofs.lemmas.Bool.Decides.{nat_tests}
use Rattle.lx_abi.specs.declared.errno.Errno.{Errno}
use Rattle.lx_abi.specs.declared.log.Item.{Item}
use Rattle.lx_abi.specs.declared.script.Choice.{Choice}
use Rattle.lx_abi.specs.Errors.{error_word}
use Rattle.lx_abi.specs.Log.{entries, is_entry}
use Rattle.lx_model.specs.declared.stage.Task.{Task}
use Rattle.lx_model.specs.Finite.{bore, item_of, ran}
use Rattle.lx_model.specs.Turn.{Out}
use Rattle.lx_kernel.specs.Choices.{after_choosing, turn_choosing_in}
use Rattle.lx_kernel.specs.Runs.{Run, after_turn, mode_in, turn_in}
use Rattle.lx_kernel.specs.Tracing.{regs_of, task_in, with_part}
use Rattle.lx_proc.specs.declared.state.Shared.{Shared}
use Rattle.lx_proc.specs.declared.state.UserState.{UserState}
use Rattle.pt_schedule.specs.declared.schedule.Schedule.{Schedule}
use Rattle.pt_schedule.specs.Schedules.{events_left, next_turn_of, GivenTurn}
use Rattle.pt_schedule.specs.Untraced.{readiness_of}
use Rattle.sweep_faults.specs.declared.deep.Deep.{Deep}
use Rattle.sweep_faults.specs.declared.faults.Fault.{Fault}
use Rattle.sweep_rows.specs.declared.kinds.Kind.{Kind}
use Rattle.sweep_rows.specs.declared.kinds.Kind.TheVariants as kind
use Rattle.sweep_faults.specs.Deep.{after_deep, deep_ends_at, IsDeep, RunsDeep, DeepEndsAreSettled, DeepIsFaulted, next_deep, unless_deep_ended}
use Rattle.sweep_faults.specs.Faults.{after_asking, after_failing, after_fault, counting, ends_at, error_asked, failing, has_begun, is_at, is_due, is_entered, is_stop, is_world, killing, last_asked, with_register, writing}
use Rattle.sweep_faults.specs.Runs.{IsFaulted, RunsFaulted, next_pid, unless_ended}
use Rattle.plain_run.proofs.Turning.{bore_log, turn_less}
use Rattle.sweep_faults.proofs.Wording.{more_still}

-- An end is settled

same_pid : (p q : ℕ) (x : Option ℕ) → x ≡ Some p → x ≡ Some q → p ≡ q
same_pid p q x e f = cc (sym e ∙ f)

settled : (d : Deep) (ps qs : List ℕ) (k : Run) (s : Schedule) (y z : Run) → IsDeep d k s ps y → IsDeep d k s qs z → y ≡ z
settled d [] [] k s y z h g = h.1 ∙ sym g.1
settled d [] (q ∷ qs) k s y z h g = absurd (cc (sym h.0 ∙ g.0))
settled d (p ∷ ps) [] k s y z h g = absurd (cc (sym h.0 ∙ g.0))
settled d (p ∷ ps) (q ∷ qs) k s y z h g =
    settled d ps qs (after_deep d k p) (next_turn_of s (readiness_of k)).schedule y z h.1
    (subst (λ x. IsDeep d (after_deep d k x) (next_turn_of s (readiness_of k)).schedule qs z) (sym (same_pid p q (next_deep d k s) h.0 g.0)) g.1)

pub deep_settled : DeepEndsAreSettled
deep_settled d k s y z h g = settled d h.pids g.pids k s y z h.is_run g.is_run

-- One turn more

pub ended_is : (d : Deep) (k : Run) (s : Schedule) → None ≡ next_deep d k s → RunsDeep d k s k
ended_is d k s none = record { pids = []; is_run = (sym none, refl) }

pub turn_is : (d : Deep) (k : Run) (s : Schedule) (p : ℕ) (s' : Schedule) (k' z : Run) → Some p ≡ next_deep d k s → s' ≡ (next_turn_of s (readiness_of k)).schedule
    → k' ≡ after_deep d k p → RunsDeep d k' s' z → RunsDeep d k s z
turn_is d k s p s' k' z next left turned rest = record {
  pids = p ∷ rest.pids;
  is_run = (
    sym next,
    subst (λ t. IsDeep d (after_deep d k p) t rest.pids z) left (subst (λ x. IsDeep d x s' rest.pids z) turned rest.is_run),
  );
}

-- Whose turn comes next

pub nobody_next : (d : Deep) (k : Run) (s s' : Schedule) → record { pid = None; schedule = s' } ≡ next_turn_of s (readiness_of k) → None ≡ next_deep d k s
nobody_next d k s s' g = ap (λ (x : GivenTurn). unless_deep_ended d k x.pid) g

pub ended_next : (d : Deep) (k : Run) (s : Schedule) (p : ℕ) (s' : Schedule) → true ≡ deep_ends_at d k p → record { pid = Some p; schedule = s' } ≡ next_turn_of s (readiness_of k) → None ≡ next_deep d k s
ended_next d k s p s' ends g = ap (λ b. cond b None (Some p)) ends ∙ ap (λ (x : GivenTurn). unless_deep_ended d k x.pid) g

pub next_is : (d : Deep) (k : Run) (s : Schedule) (p : ℕ) (s' : Schedule) → false ≡ deep_ends_at d k p → record { pid = Some p; schedule = s' } ≡ next_turn_of s (readiness_of k) → Some p ≡ next_deep d k s
next_is d k s p s' on g = ap (λ b. cond b None (Some p)) on ∙ ap (λ (x : GivenTurn). unless_deep_ended d k x.pid) g

given_by : (d : Deep) (k : Run) (p : ℕ) (o : Option ℕ) → Some p ≡ unless_deep_ended d k o → Some p ≡ o
given_by d k p None e = e
given_by d k p (Some q) e = of (deep_ends_at d k q) e
  where
    of : (b : Bool) → Some p ≡ cond b None (Some q) → Some p ≡ Some q
    of true e = absurd (cc e)
    of false e = e

-- a turn leaves fewer events
pub next_less : (d : Deep) (k : Run) (s : Schedule) (p : ℕ) (s' : Schedule) → Some p ≡ next_deep d k s → s' ≡ (next_turn_of s (readiness_of k)).schedule → events_left s' < events_left s
next_less d k s p s' next left =
    turn_less s (readiness_of k) p s'
    (ap₂ (λ o t. given o t) (given_by d k p (next_turn_of s (readiness_of k)).pid next) left)
  where
    given : Option ℕ → Schedule → GivenTurn
    given o t = record { pid = o; schedule = t }

-- A log grows

abbrev Grows : (Item → Bool) → Run → Run → Type 0
Grows g k z = length (filter g k.running.log) ≤ length (filter g z.running.log)

at_most : (n : ℕ) → n ≤ n
at_most n = omega arith

turn_grows : (k : Run) (p : ℕ) (o : Out Shared UserState) (g : Item → Bool) → length (filter g k.running.log) ≤ length (filter g (bore (ran k.running p o) o.event).log)
turn_grows k p o g =
    subst (λ log. length (filter g k.running.log) ≤ length (filter g log)) (sym (bore_log (ran k.running p o) o.event))
    (more_still g k.running.log (option_to_list (item_of o)))

part_log : (k : Run) (p : ℕ) (part : Option (Task UserState)) → (with_part k p part).running.log ≡ k.running.log
part_log k p None = refl
part_log k p (Some task) = refl

writing_log : (k : Run) (p number value : ℕ) → (writing k p number value).running.log ≡ k.running.log
writing_log k p number value = part_log k p (with_register number value (regs_of (task_in k p)) (task_in k p))

written_grows : (g : Item → Bool) (k : Run) (p number value : ℕ) → Grows g k (after_turn (writing k p number value) p)
written_grows g k p number value =
    subst (λ log. length (filter g log) ≤ length (filter g (after_turn (writing k p number value) p).running.log)) (writing_log k p number value)
    (turn_grows (writing k p number value) p (turn_in (writing k p number value) p) g)

choosing_grows : (g : Item → Bool) (k : Run) (p : ℕ) → (choice : Choice) → Grows g k (after_choosing k p choice)
choosing_grows g k p choice = turn_grows k p (turn_choosing_in k p choice) g

asking_grows : (g : Item → Bool) (error : Option Errno) (k : Run) (p : ℕ) → Grows g k (after_asking error k p)
asking_grows g None k p = turn_grows k p (turn_in k p) g
asking_grows g (Some error) k p = choosing_grows g k p (failing error)

both_grow : (g : Item → Bool) (b : Bool) (k x y : Run) → Grows g k x → Grows g k y → Grows g k (cond b x y)
both_grow g true k x y h i = h
both_grow g false k x y h i = i

failing_grows : (g : Item → Bool) (x : Kind) (k : Run) (p : ℕ) → Grows g k (after_failing x k p)
failing_grows g (kind.Undone error) k p = choosing_grows g k p (failing error)
failing_grows g (kind.Done error) k p = written_grows g k p 10 (error_word error.number)
failing_grows g (kind.Short count) k p =
    both_grow g (is_entered (mode_in k p)) k (after_turn (counting k p count) p) (after_turn (counting k p (last_asked p 0 k.running.log)) p)
    (written_grows g k p 12 count) (written_grows g k p 12 (last_asked p 0 k.running.log))
failing_grows g kind.Killed k p = choosing_grows g k p killing
failing_grows g kind.Stop k p = at_most (length (filter g k.running.log))
failing_grows g (kind.World w) k p = asking_grows g (error_asked w k.running.log p (regs_of (task_in k p))) k p

fault_grows : (g : Item → Bool) (f : Fault) (k : Run) (p : ℕ) → Grows g k (after_fault f k p)
fault_grows g f k p =
    both_grow g (is_at f k p) k (after_failing f.kind k p) (after_turn k p) (failing_grows g f.kind k p) (turn_grows k p (turn_in k p) g)

deep_grows : (g : Item → Bool) (d : Deep) (k : Run) (p : ℕ) → Grows g k (after_deep d k p)
deep_grows g d k p =
    both_grow g (is_at d.second k p) k (after_failing d.second.kind k p) (after_fault d.first k p) (failing_grows g d.second.kind k p) (fault_grows g d.first k p)

grows : (g : Item → Bool) (d : Deep) (ps : List ℕ) (k : Run) (s : Schedule) (z : Run) → IsDeep d k s ps z → Grows g k z
grows g d [] k s z h = subst (λ (x : Run). Grows g k x) (sym h.1) (at_most (length (filter g k.running.log)))
grows g d (p ∷ ps) k s z h =
    let one = deep_grows g d k p in
    let others = grows g d ps (after_deep d k p) (next_turn_of s (readiness_of k)).schedule z h.1 in
    omega (arith, one, others)

-- Where the second doesn't come

never_at : (f : Fault) (k : Run) (p : ℕ) → entries f.pid f.call k.running.log < f.n → is_at f k p ≡ false
unfolding is_at
never_at f k p less = of (is_world f.kind)
  where
    begun : has_begun f k.running.log ≡ false
    begun = grind (arith, nat_tests, less)

    other : (entries f.pid f.call k.running.log == f.n) ≡ false
    other = grind (arith, nat_tests, less)

    and_none : (b : Bool) → (b && false) ≡ false
    and_none true = refl
    and_none false = refl

    of : (b : Bool) → cond b (has_begun f k.running.log && is_due f.kind f.call k p)
        ((p == f.pid) && ((entries f.pid f.call k.running.log == f.n) && is_due f.kind f.call k p)) ≡ false
    of true = ap (λ b. b && is_due f.kind f.call k p) begun
    of false = ap (λ b. (p == f.pid) && (b && is_due f.kind f.call k p)) other ∙ and_none (p == f.pid)

or_false : (a b : Bool) → b ≡ false → (a || b) ≡ a
or_false true b e = refl
or_false false b e = e

and_false : (a b : Bool) → b ≡ false → (a && b) ≡ false
and_false true b e = e
and_false false b e = refl

module _ (d : Deep) where
  same_turn : (k : Run) (p : ℕ) → is_at d.second k p ≡ false → after_deep d k p ≡ after_fault d.first k p
  same_turn k p e = ap (λ b. cond b (after_failing d.second.kind k p) (after_fault d.first k p)) e

  same_next : (k : Run) (o : Option ℕ) → ((p : ℕ) → is_at d.second k p ≡ false) → unless_deep_ended d k o ≡ unless_ended d.first k o
  same_next k None never = refl
  same_next k (Some p) never =
      ap (λ b. cond b None (Some p)) (or_false (ends_at d.first k p) (ends_at d.second k p)
      (and_false (is_stop d.second.kind) (is_at d.second k p) (never p)))

  never : (ps : List ℕ) (k : Run) (s : Schedule) (z : Run) → entries d.second.pid d.second.call z.running.log < d.second.n → IsDeep d k s ps z → (p : ℕ) → is_at d.second k p ≡ false
  never ps k s z less h p =
      let more = grows (is_entry d.second.pid d.second.call) d ps k s z h in
      never_at d.second k p (omega (arith, less, more))

  alone : (ps : List ℕ) (k : Run) (s : Schedule) (z : Run) → entries d.second.pid d.second.call z.running.log < d.second.n → IsDeep d k s ps z → IsFaulted d.first k s ps z
  alone [] k s z less h = (
    sym (same_next k (next_turn_of s (readiness_of k)).pid (never [] k s z less h)) ∙ h.0,
    h.1,
  )
  alone (p ∷ ps) k s z less h = (
    sym (same_next k (next_turn_of s (readiness_of k)).pid (never (p ∷ ps) k s z less h)) ∙ h.0,
    subst (λ x. IsFaulted d.first x (next_turn_of s (readiness_of k)).schedule ps z) (same_turn k p (never (p ∷ ps) k s z less h p))
        (alone ps (after_deep d k p) (next_turn_of s (readiness_of k)).schedule z less h.1),
  )

pub deep_faulted : DeepIsFaulted
deep_faulted d k s z less h = record { pids = h.pids; is_run = alone d h.pids k s z less h.is_run }
