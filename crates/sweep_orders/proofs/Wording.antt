-- The run by an order that is drawn is the run by its words.
use Rattle.std.proofs.Common.{◌≡◌, ◌<◌, ◌≤◌, ◌-◌, ◌+◌, ℕ, zero, suc, Bool, true, false, cond, not, List, [], ◌∷◌, Option, Some, None, refl, sym, ap, ap₂, subst, ◌∙◌, arith}
use Rattle.std.specs.Prelude.{◌==◌, ◌||◌, ◌&&◌, nat_lt, min, ⊤}
use Rattle.lx_abi.specs.declared.schedule.Word.{Word}
use Rattle.lx_abi.specs.declared.schedule.Word.TheVariants as word
use Rattle.lx_kernel.specs.Runs.{Run, after_turn}
use Rattle.pt_schedule.specs.Cycle.{first_able, found_or, next_able}
use Rattle.pt_schedule.specs.Schedules.{Given, end_of, turn_of, turn_with, by_word, go_on, next_row, left_in_row, goes_on, next_by, unserved, given_turn, next_turn_of, worded, most_events}
use Rattle.pt_schedule.specs.Untraced.{readiness_of}
use Rattle.pt_schedule.specs.declared.schedule.Order.TheVariants as order
use Rattle.pt_schedule.specs.declared.schedule.Schedule.{Schedule}
use Rattle.pt_schedule.specs.declared.worded.Returning.{Returning}
use Rattle.pt_schedule.specs.declared.worded.Row.{Row}
use Rattle.pt_schedule.specs.declared.worded.Worded.{Worded}
use Rattle.pt_schedule.proofs.Cycling.{first_able-none}
use Rattle.pt_schedule.proofs.Modes.{able_by_modes}
use Rattle.plain_run.specs.Runs.{RunsTo}
use Rattle.plain_run.proofs.Turning.{turn_is}
use Rattle.rand_pcg.specs.Lcg.{Lcg}
use Rattle.rand_pcg.specs.Pcg.{pcg32}
use Rattle.sweep_orders.specs.Draws.{chance_of, AreAble, IsDraw, IsDrawn, is_over, Turns}
use Rattle.turn_orders.specs.Plans.{words_of}
use Rattle.turn_orders.specs.declared.plans.Plan.{Plan}
use Rattle.turn_orders.specs.declared.plans.Plan.TheVariants.{ByChance}
use Rattle.turn_orders.specs.declared.plans.Source.{Source}
use Rattle.sweep_rows.specs.declared.setup.Setup.{Setup}
use Rattle.sweep_orders.specs.Trials.{first_of, IsPlanned, IsTrial, IsRunBy, IsRunDrawn}
use Rattle.sweep_orders.specs.declared.trials.Trial.{Trial}
use Rattle.sweep_orders.proofs.Able.{chosen_above}
use Rattle.sweep_orders.proofs.Stepping.{some_more}

-- Where nobody can go on

none_able : (able : ℕ → Bool) (last_pid last : ℕ) → ((q : ℕ) → 0 < q → able q ≡ false) → next_able able last_pid last ≡ None
unfolding next_able
none_able able last_pid last none =
    let low = min last last_pid in
    let within : low ≤ last_pid = omega arith in
    let above : (last_pid + 1) - (low + 1) ≡ last_pid - low = omega arith in
    let below : (low + 1) - 1 ≡ low = omega arith in
    ap₂ found_or
    (ap (first_able able (low + 1)) (sym above) ∙ first_able-none able (low + 1) (last_pid + 1) (omega (arith, within)) (λ n l m. none n (omega (arith, l))))
    (ap (first_able able 1) (sym below) ∙ first_able-none able 1 (low + 1) (omega arith) (λ n l m. none n (omega (arith, l))))

unable : (k : Run) → AreAble k 0 [] → (q : ℕ) → 0 < q → (readiness_of k).able q ≡ false
unable k none q l = sym (able_by_modes false _ _ (λ e. absurd (cc e)) (λ m. absurd (none q l m)))

-- A schedule by the words of some steps, at any moment

abbrev by : Worded → Schedule
by w = record { order = order.Worded w }

abbrev in_order : Given Worded → Given Schedule
in_order g = record { event = g.event; schedule = by g.schedule }

abbrev at_steps : List ℕ → Option Row → Option Returning → ℕ → Worded
at_steps ps row ret left = record { words = words_of ps; serving = true; returning = ret; row = row; left = left }

abbrev row_with : ℕ → Option Row → Option Row
row_with p row = Some (record { pid = p; left = left_in_row p row })

-- a turn of p began where it stands in k
abbrev begun : Run → ℕ → Returning
begun k p = record { pid = p; finished = (readiness_of k).finished p }

abbrev later : Run → ℕ → List ℕ → Option Row → ℕ → Schedule
later k p ps row left = by (at_steps ps (row_with p row) (Some (begun k p)) (left - 1))

abbrev Gives : Run → ℕ → List ℕ → Option Row → ℕ → Schedule → Type 0
Gives k p ps row left s = next_turn_of s (readiness_of k) ≡ record { pid = Some p; schedule = later k p ps row left }

-- the step goes on
goes : (k : Run) (p : ℕ) (f : Bool) (ps : List ℕ) (row : Option Row) (left : ℕ) → is_over left k p f ≡ false
    → Gives k p ps row left (by (at_steps ps row (Some (record { pid = p; finished = f })) left))
unfolding next_by unserved
goes k p f [] row left e = go (left == 0) (goes_on (readiness_of k) (record { pid = p; finished = f })) e
  where
    w : Worded
    w = at_steps [] row (Some (record { pid = p; finished = f })) left

    go : (z g : Bool) → (z || not g) ≡ false
        → given_turn (in_order (cond z (end_of w) (cond g (turn_of (record w { returning = Some (begun k p) }) p) (by_word w (readiness_of k) [])))) ≡ record { pid = Some p; schedule = later k p [] row left }
    go true g e = absurd (cc e)
    go false true e = refl
    go false false e = absurd (cc e)
goes k p f (q ∷ qs) row left e = go (left == 0) (goes_on (readiness_of k) (record { pid = p; finished = f })) e
  where
    w : Worded
    w = at_steps (q ∷ qs) row (Some (record { pid = p; finished = f })) left

    go : (z g : Bool) → (z || not g) ≡ false
        → given_turn (in_order (cond z (end_of w) (cond g (turn_of (record w { returning = Some (begun k p) }) p) (by_word w (readiness_of k) (words_of (q ∷ qs)))))) ≡ record { pid = Some p; schedule = later k p (q ∷ qs) row left }
    go true g e = absurd (cc e)
    go false true e = refl
    go false false e = absurd (cc e)

-- no step is under way
abbrev over : Run → Option Returning → Bool
over k None = true
over k (Some r) = not (goes_on (readiness_of k) r)

abbrev IsOver : ℕ → Run → Option Returning → Type 0
IsOver left k ret = ((left == 0) || over k ret) ≡ true

-- the next one begins
begins : (k : Run) (p : ℕ) (ps : List ℕ) (row : Option Row) (ret : Option Returning) (left : ℕ) → 0 < left → IsOver left k ret
    → Gives k p ps row left (by (at_steps (p ∷ ps) row ret left))
unfolding next_by unserved
begins k p ps row None left l e = go (left == 0) (some_more left l)
  where
    w : Worded
    w = at_steps (p ∷ ps) row None left

    go : (z : Bool) → z ≡ false
        → given_turn (in_order (cond z (end_of w) (by_word w (readiness_of k) (words_of (p ∷ ps))))) ≡ record { pid = Some p; schedule = later k p ps row left }
    go true e = absurd (cc e)
    go false e = refl
begins k p ps row (Some r) left l e = go (left == 0) (goes_on (readiness_of k) r) (some_more left l) e
  where
    w : Worded
    w = at_steps (p ∷ ps) row (Some r) left

    go : (z g : Bool) → z ≡ false → (z || not g) ≡ true
        → given_turn (in_order (cond z (end_of w) (cond g (turn_of (record w { returning = Some (record r { finished = (readiness_of k).finished r.pid }) }) r.pid) (by_word w (readiness_of k) (words_of (p ∷ ps)))))) ≡ record { pid = Some p; schedule = later k p ps row left }
    go true g e f = absurd (cc e)
    go false true e f = absurd (cc f)
    go false false e f = refl

-- the last turn was one of a process
abbrev HasPid : Option Row → Type 0
HasPid None = ⊤
HasPid (Some r) = 0 < r.pid

abbrev pid_of : Given Worded → Option ℕ
pid_of g = (given_turn (in_order g)).pid

idle : (k : Run) (w : Worded) (row : Option Row) → HasPid row → ((q : ℕ) → 0 < q → (readiness_of k).able q ≡ false)
    → pid_of (go_on w (readiness_of k) row) ≡ None
idle k w None has none = ap (λ o. pid_of (next_row w o)) (none_able (readiness_of k).able (readiness_of k).last_pid 0 none)
idle k w (Some r) has none =
    ap (λ b. pid_of (cond (b && nat_lt 0 r.left) (turn_with w r.pid (r.left - 1)) (next_row w (next_able (readiness_of k).able (readiness_of k).last_pid r.pid)))) (none r.pid has)
    ∙ ap (λ o. pid_of (next_row w o)) (none_able (readiness_of k).able (readiness_of k).last_pid r.pid none)

-- the run ends
stops : (k : Run) (row : Option Row) (ret : Option Returning) (left : ℕ) → HasPid row → IsOver left k ret → (0 < left → AreAble k 0 [])
    → (next_turn_of (by (at_steps [] row ret left)) (readiness_of k)).pid ≡ None
unfolding next_by unserved
stops k row ret zero has e none = refl
stops k row None (suc left) has e none = go (suc left == 0) (some_more (suc left) (omega arith))
  where
    w : Worded
    w = at_steps [] row None (suc left)

    go : (z : Bool) → z ≡ false → pid_of (cond z (end_of w) (go_on w (readiness_of k) row)) ≡ None
    go true e = absurd (cc e)
    go false e = idle k w row has (unable k (none (omega arith)))
stops k row (Some r) (suc left) has e none = go (suc left == 0) (goes_on (readiness_of k) r) (some_more (suc left) (omega arith)) e
  where
    w : Worded
    w = at_steps [] row (Some r) (suc left)

    go : (z g : Bool) → z ≡ false → (z || not g) ≡ true
        → pid_of (cond z (end_of w) (cond g (turn_of (record w { returning = Some (record r { finished = (readiness_of k).finished r.pid }) }) r.pid) (go_on (record w { returning = None }) (readiness_of k) row))) ≡ None
    go true g e f = absurd (cc e)
    go false true e f = absurd (cc f)
    go false false e f = idle k (record w { returning = None }) row has (unable k (none (omega arith)))

-- Step by step

abbrev GoesOn : Run → List ℕ → Run → ℕ → Type 0
GoesOn k ps z left = (row : Option Row) (r : Returning) → HasPid row → IsOver left k (Some r) → RunsTo k (by (at_steps ps row (Some r) left)) z

step_made : (n left : ℕ) (k k' z : Run) (p : ℕ) (ps : List ℕ) (row : Option Row) (s : Schedule) → 0 < p
    → Gives k p ps row left s → Turns n left k p k' → GoesOn k' ps z (left - suc n) → RunsTo k s z
step_made zero left k k' z p ps row s has gives t rest =
    turn_is k s p (later k p ps row left) k' z (sym gives) t.2
    (rest (row_with p row) (begun k p) has
    (subst (λ (x : Run). is_over (left - 1) x p ((readiness_of k).finished p) ≡ true) (sym t.2) t.1))
step_made (suc n) left k k' z p ps row s has gives t rest =
    let less : left - suc (suc n) ≡ (left - 1) - suc n = omega arith in
    turn_is k s p (later k p ps row left) (after_turn k p) z (sym gives) refl
    (step_made n (left - 1) (after_turn k p) k' z p ps (row_with p row) (later k p ps row left) has
    (goes (after_turn k p) p ((readiness_of k).finished p) ps (row_with p row) (left - 1) t.1) t.2
    (subst (GoesOn k' ps z) less rest))

turns_left : (n left : ℕ) (k k' : Run) (p : ℕ) → Turns n left k p k' → 0 < left
turns_left zero left k k' p t = t.0
turns_left (suc n) left k k' p t = t.0

drawn_from : (ps : List ℕ) (left : ℕ) (k z : Run) (chance : Lcg) (row : Option Row) (ret : Option Returning) → HasPid row
    → IsOver left k ret → IsDrawn ps left k chance z → RunsTo k (by (at_steps ps row ret left)) z
drawn_from [] left k z chance row ret has e d = record { pids = []; is_run = (stops k row ret left has e d.1, d.0) }
drawn_from (p ∷ ps) left k z chance row ret has e d =
    let k' : Run = d.1 in
    let draw : IsDraw left k chance p d.0 k' = d.2 in
    let n = draw.step.more in
    let pid : 0 < p = subst (λ q. 0 < q) (sym draw.drawn) (chosen_above k draw.able (pcg32 chance).0 draw.are_able draw.some) in
    let rest : IsDrawn ps (left - suc n) k' (pcg32 chance).1 z =
    subst (λ m. IsDrawn ps m k' (pcg32 chance).1 z) draw.step.after_is d.3 in
    step_made n left k k' z p ps row (by (at_steps (p ∷ ps) row ret left)) pid
    (begins k p ps row ret left (turns_left n left k k' p draw.step.turns) e) draw.step.turns
    (λ row' r has' over'. drawn_from ps (left - suc n) k' z (pcg32 chance).1 row' (Some r) has' over' rest)

-- a run by an order that is drawn
pub drawn_runs : (ps : List ℕ) (limit : ℕ) (k z : Run) (chance : Lcg) → IsDrawn ps (min limit most_events) k chance z
    → RunsTo k (worded (words_of ps) limit) z
drawn_runs ps limit k z chance d = drawn_from ps (min limit most_events) k z chance None None tt (any (min limit most_events == 0)) d
  where
    any : (b : Bool) → (b || true) ≡ true
    any true = refl
    any false = refl

-- .. is one by chance
pub drawn_trial : (setup : Setup) (o : Source) (n : ℕ) (t : Trial) → IsRunDrawn (first_of setup) setup.limit (chance_of o.seed n) t → IsTrial setup o (ByChance n) t
drawn_trial setup o n t d = record {
  kernel = d.kernel;
  run = subst (λ ws. RunsTo (first_of setup) (worded ws setup.limit) d.kernel) (sym d.words)
      (drawn_runs d.pids setup.limit (first_of setup) d.kernel (chance_of o.seed n) d.drawn);
  planned = (d.pids, d.words, d.drawn);
  left = d.left;
}

-- a run by the words of a plan is one by that plan
pub worded_trial : (setup : Setup) (o : Source) (p : Plan) (words : List Word) (t : Trial) → t.words ≡ words → IsRunBy setup words t
    → ((k : Run) → IsPlanned setup o p t.words k) → IsTrial setup o p t
worded_trial setup o p words t e r planned = record {
  kernel = r.kernel;
  run = subst (λ (ws : List Word). RunsTo (first_of setup) (worded ws setup.limit) r.kernel) (sym e) r.run;
  planned = planned r.kernel;
  left = r.left;
}
