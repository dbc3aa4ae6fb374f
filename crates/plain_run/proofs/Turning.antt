-- Runs by a schedule, turn by turn.
use Rattle.std.proofs.Common.{◌≡◌, Bool, ℕ, zero, suc, ◌-◌, ◌+◌, ◌<◌, ◌≤◌, true, false, Result, Ok, Err, List, [], ◌∷◌, ◌++◌, Option, Some, None, refl, sym, ap, ap₂, subst, ◌∙◌, append-nil, append_assoc, arith}
use Rattle.std.specs.Prelude.{OnOk, ◌||◌, not}
use Rattle.std.specs.Option.{option_to_list}
use Rattle.std.specs.FinMap as maps
use Rattle.lx_abi.specs.declared.log.Item.{Item}
use Rattle.lx_abi.specs.declared.log.Mode.{Mode}
use Rattle.lx_abi.specs.declared.log.Mode.TheVariants as mode
use Rattle.lx_abi.specs.declared.schedule.Event.{Event}
use Rattle.lx_abi.specs.declared.schedule.Event.TheVariants.{Turn, Serve}
use Rattle.lx_abi.specs.declared.schedule.Word.{Word}
use Rattle.lx_abi.specs.declared.schedule.Word.TheVariants as word
use Rattle.lx_model.specs.declared.event.PtraceEvent.{PtraceEvent}
use Rattle.lx_model.specs.declared.event.PtraceEvent.TheVariants as events
use Rattle.lx_model.specs.declared.stage.Stage.{Stage}
use Rattle.lx_model.specs.declared.stage.Stage.TheVariants as stages
use Rattle.lx_model.specs.declared.stage.Task.{Task}
use Rattle.lx_model.specs.declared.stage.Task.TheVariants.{Alive, Dying, Gone}
use Rattle.lx_model.specs.Turn.{stage_mode}
use Rattle.lx_model.specs.Finite.{Running, at, bore, item_of, ran}
use Rattle.lx_proc.specs.declared.state.UserState.{UserState}
use Rattle.lx_proc.specs.declared.state.Entry.{Entry}
use Rattle.lx_proc.specs.declared.state.Life.{Life}
use Rattle.lx_proc.specs.declared.state.Life.TheVariants as life
use Rattle.lx_proc.specs.declared.state.Shared.{Shared}
use Rattle.lx_turn.specs.Modes.{life_mode, task_mode as kernel_mode}
use Rattle.lx_turn.specs.Reactions.{is_killed}
use Rattle.lx_kernel.specs.Advances.{is_under_way, GoesOn, Quietly, Leads}
use Rattle.lx_kernel.specs.Blocking.{can_turn, waits}
use Rattle.lx_kernel.specs.Runs.{Run, turn_in, after_turn, mode_in, is_able_in}
use Rattle.lx_kernel.specs.Laws.{after_all}
use Rattle.pt_schedule.specs.declared.schedule.Order.{Order}
use Rattle.pt_schedule.specs.declared.schedule.Order.TheVariants as order
use Rattle.pt_schedule.specs.declared.schedule.Schedule.{Schedule}
use Rattle.pt_schedule.specs.declared.schedule.TurnRun.{TurnRun}
use Rattle.pt_schedule.specs.declared.worded.Returning.{Returning}
use Rattle.pt_schedule.specs.declared.worded.Row.{Row}
use Rattle.pt_schedule.specs.Modes.{is_finished}
use Rattle.pt_schedule.specs.Rows.{by_last, run_by, run_of, worded_after, order_after, after_turns as left_after, Continues}
use Rattle.pt_schedule.specs.Schedules.{Readiness, Given, GivenTurn, turn_given, given_turn, next_by, next_turn_of, unserved, left_in, events_left}
use Rattle.pt_schedule.specs.Turns.{from_turn, turns_from}
use Rattle.pt_schedule.specs.Untraced.{readiness_of}
use Rattle.lx_kernel.proofs.Moving.{able_where_turns}
use Rattle.pt_schedule.proofs.Modes.{able_by_modes, finished_by_mode}
use Rattle.pt_schedule.proofs.Rowing.{runs_are_turns, none_after, more_after}
use Rattle.pt_schedule.proofs.Spending.{next_less}
use Rattle.plain_run.specs.InRows.{InRow, ends_row, may_rest}
use Rattle.plain_run.specs.Watched.{Tells}
use Rattle.plain_run.specs.Runs.{IsRun, RunsTo, EndsAreSettled, RunsAreTurns, RunsKeepLogs, RunsGoAlike}

-- One turn more

module _ (k : Run) (s : Schedule) where
  abbrev given : GivenTurn
  given = next_turn_of s (readiness_of k)

  pub ended_is : (s' : Schedule) → record { pid = None; schedule = s' } ≡ given → RunsTo k s k
  ended_is s' g = record { pids = []; is_run = (sym (ap (λ (x : GivenTurn). x.pid) g), refl) }

  pub turn_is : (p : ℕ) (s' : Schedule) (k' z : Run) → record { pid = Some p; schedule = s' } ≡ given → k' ≡ after_turn k p → RunsTo k' s' z → RunsTo k s z
  turn_is p s' k' z g e rest = record {
    pids = p ∷ rest.pids;
    is_run = (
      sym (ap (λ (x : GivenTurn). x.pid) g),
      subst (λ x. IsRun x given.schedule rest.pids z) e (subst (λ (x : GivenTurn). IsRun k' x.schedule rest.pids z) g rest.is_run),
    );
  }

-- Each turn leaves fewer events

unserved_left : (o : Order) → left_in (unserved o) ≡ left_in o
unfolding unserved
unserved_left (order.Listed l) = refl
unserved_left (order.Worded w) = refl

given_less : (o : Order) (g : Given Schedule) (seen : Readiness) (p : ℕ) (e : Option Event) → next_by o seen ≡ g → g.event ≡ e → turn_given e ≡ Some p → events_left g.schedule < left_in o
given_less o g seen p None is e f = absurd (cc f)
given_less o g seen p (Some Serve) is e f = absurd (cc f)
given_less o g seen p (Some (Turn q)) is e f = next_less (record { order = o }) seen (Turn q) g.schedule (ap (λ (x : Option Event). record { event = x; schedule = g.schedule }) (sym e) ∙ sym is)

pub turn_less : (s : Schedule) (seen : Readiness) (p : ℕ) (s' : Schedule) → record { pid = Some p; schedule = s' } ≡ next_turn_of s seen → events_left s' < events_left s
turn_less s seen p s' h =
    let g : Given Schedule = next_by (unserved s.order) seen in
    subst (λ n. events_left s' < n) (unserved_left s.order)
    (subst (λ (x : Schedule). events_left x < left_in (unserved s.order)) (sym (ap (λ (x : GivenTurn). x.schedule) h))
    (given_less (unserved s.order) g seen p g.event refl refl (sym (ap (λ (x : GivenTurn). x.pid) h))))

-- The words that are passed over

words_twice : (ws : List Word) → from_turn (from_turn ws) ≡ from_turn ws
words_twice [] = refl
words_twice (word.Turn p ∷ ws) = refl
words_twice (word.TurnAlone p ∷ ws) = refl
words_twice (word.Serve ∷ ws) = words_twice ws
words_twice (word.UntilReturn p ∷ ws) = refl

events_twice : (es : List Event) → turns_from (turns_from es) ≡ turns_from es
events_twice [] = refl
events_twice (Turn p ∷ es) = refl
events_twice (Serve ∷ es) = events_twice es

pub after_unserved : (o : Order) (n : ℕ) → unserved (order_after (unserved o) n) ≡ unserved (order_after o n)
unfolding unserved order_after
after_unserved (order.Listed l) n = ap (λ es. order.Listed (record { events = es; left = l.left })) (events_twice l.events)
after_unserved (order.Worded w) n = ap (λ ws. unserved_with ws) (words_twice w.words)
  where
    unserved_with : List Word → Order
    unserved_with ws = order.Worded (record (worded_after w n) { words = ws })

pub told_unserved : (o : Order) (r : TurnRun) → run_by o ≡ Some r → run_by (unserved o) ≡ Some r
unfolding run_by unserved
told_unserved (order.Listed l) r e = e
told_unserved (order.Worded w) r e = of w.row w.returning w.words e
  where
    of : (row : Option Row) (returning : Option Returning) (words : List Word) → by_last (record w { words = words; returning = returning }) row ≡ Some r → by_last (record w { words = from_turn words; returning = returning }) row ≡ Some r
    of None returning words e = e
    of (Some x) (Some t) words e = e
    of (Some x) None [] e = e
    of (Some x) None (y ∷ ys) e = absurd (cc e)

pub same_run : (ps : List ℕ) (k : Run) (s t : Schedule) (z : Run) → unserved s.order ≡ unserved t.order → IsRun k s ps z → IsRun k t ps z
same_run [] k s t z e h = subst (λ o. ((given_turn (next_by o (readiness_of k))).pid ≡ None) × (z ≡ k)) e h
same_run (p ∷ ps) k s t z e h = subst (λ o. ((given_turn (next_by o (readiness_of k))).pid ≡ Some p) × IsRun (after_turn k p) (given_turn (next_by o (readiness_of k))).schedule ps z) e h

-- A process that is under way can have another turn

unfinished : (m : Mode) → is_under_way m ≡ true → is_finished (Some m) ≡ false
unfinished mode.Born h = refl
unfinished mode.Run h = refl
unfinished mode.Faulting h = refl
unfinished mode.Entered h = refl
unfinished mode.Doing h = refl
unfinished mode.Acted h = refl
unfinished mode.Finished h = absurd (cc h)
unfinished mode.Taken h = refl
unfinished mode.Stopped h = refl
unfinished mode.Woken h = refl
unfinished mode.Dying h = refl
unfinished mode.Zombie h = refl

pub continues : (k : Run) (p : ℕ) → GoesOn k p → Continues (readiness_of k) p
continues k p on = record {
  waits = refl;
  able = sym (able_by_modes true _ _ (λ e. on.0) (λ e. refl));
  within = sym (finished_by_mode (maps.get k.running.shared.entries p) (at Gone k.running.tasks p))
      ∙ ap is_finished on.1.1.0 ∙ unfinished on.1.0 on.1.1.1;
}

-- the row's next turn
row_turn : (k : Run) (s : Schedule) (r : TurnRun) (z : Run) → run_of s ≡ Some r → 0 < r.turns → Continues (readiness_of k) r.pid →
    RunsTo (after_turn k r.pid) (left_after s 1) z → RunsTo k s z
row_turn k s r z told some on later =
    let u : Schedule = record { order = unserved s.order } in
    let it = runs_are_turns u r (told_unserved s.order r told) some in
    turn_is k s r.pid (left_after u 1) (after_turn k r.pid) z
    (sym (ap (λ (g : Given Schedule). given_turn g) (it.next (readiness_of k) on))) refl
    (record { pids = later.pids; is_run = same_run later.pids (after_turn k r.pid) (left_after s 1) (left_after u 1) z (sym (after_unserved s.order 1)) later.is_run })

-- turns in a row
pub leads_row : (n : ℕ) (k k' : Run) (p : ℕ) (item : Option Item) (event : PtraceEvent ℕ) → Leads k p (suc n) item event k' → InRow k p n k'
unfolding InRow
leads_row zero k k' p item event leads = subst (λ b. k' ≡ after_turn b p) leads.1 leads.2.turned
leads_row (suc n) k k' p item event leads =
    (continues (after_turn k p) p leads.1.0.on, leads_row n (after_turn k p) k' p item event (leads.0, leads.1.1, leads.2))

row_more : (n m : ℕ) (k b k' : Run) (p : ℕ) → InRow k p n b → Continues (readiness_of b) p → InRow b p m k' → InRow k p (n + suc m) k'
unfolding InRow
row_more zero m k b k' p row on more =
    let count : suc m ≡ 0 + suc m = omega arith in
    subst (λ i. InRow k p i k') count (subst (λ x. Continues (readiness_of x) p × InRow x p m k') row (on, more))
row_more (suc n) m k b k' p row on more =
    let count : suc (n + suc m) ≡ suc n + suc m = omega arith in
    subst (λ i. InRow k p i k') count (row.0, row_more n m (after_turn k p) b k' p row.1 on more)

-- so many were made, and there is another
abbrev pub Made : Run → ℕ → ℕ → Run → Type 0
Made k p zero k' = k' ≡ k
Made k p (suc n) k' = InRow k p n k' × Continues (readiness_of k') p

pub made_more : (made m : ℕ) (k b k' : Run) (p : ℕ) → Made k p made b → InRow b p m k' → InRow k p (made + m) k'
made_more zero m k b k' p same row =
    let count : m ≡ 0 + m = omega arith in
    subst (λ i. InRow k p i k') count (subst (λ x. InRow x p m k') same row)
made_more (suc n) m k b k' p made row =
    let count : n + suc m ≡ suc n + m = omega arith in
    subst (λ i. InRow k p i k') count (row_more n m k b k' p made.0 made.1 row)

pub made_now : (n made : ℕ) (k k' : Run) (p : ℕ) → n + 1 ≡ made → InRow k p n k' → Continues (readiness_of k') p → Made k p made k'
made_now n made k k' p count row on =
    let same : suc n ≡ made = omega (arith, count) in
    subst (λ i. Made k p i k') same (row, on)

pub row_run : (n : ℕ) (k k' : Run) (s : Schedule) (p more : ℕ) (z : Run) → InRow k p n k' → n ≤ more →
    (0 < more → run_of s ≡ Some (record { pid = p; turns = more })) → RunsTo k' (left_after s n) z → RunsTo (after_turn k p) s z
unfolding InRow
row_run zero k k' s p more z row l told rest =
    subst (λ x. RunsTo x s z) row (subst (λ t. RunsTo k' t z) (none_after s) rest)
row_run (suc n) k k' s p more z row l told rest =
    let under_way = told (omega (arith, l)) in
    let its = runs_are_turns s (record { pid = p; turns = more }) under_way (omega (arith, l)) in
    let count : 1 + n ≡ suc n = omega arith in
    row_turn (after_turn k p) s (record { pid = p; turns = more }) z under_way (omega (arith, l)) row.0
    (row_run n (after_turn k p) k' (left_after s 1) p (more - 1) z row.1 (omega (arith, l)) (λ m. its.rest)
    (subst (λ t. RunsTo k' t z) (sym (more_after s 1 n ∙ ap (left_after s) count)) rest))

-- Who has the next turn of its row

waits_none : (s : Shared) (p : ℕ) (b : UserState) (stage : Stage) → may_rest (stage_mode stage) ≡ false → waits s p b stage ≡ false
waits_none s p b stages.Born h = refl
waits_none s p b stages.Run h = refl
waits_none s p b (stages.Faulting signal cause) h = refl
waits_none s p b (stages.Entered joined) h = refl
waits_none s p b (stages.Doing call) h = absurd (cc h)
waits_none s p b (stages.Replaced call x) h = refl
waits_none s p b (stages.Acted call x replaced) h = refl
waits_none s p b stages.Finished h = refl
waits_none s p b (stages.Taken signal cause) h = refl
waits_none s p b stages.Dropped h = refl
waits_none s p b (stages.Stopped signal) h = absurd (cc h)
waits_none s p b stages.Released h = refl
waits_none s p b stages.Woken h = refl

abbrev rests_in : Option Mode → Bool
rests_in None = true
rests_in (Some m) = may_rest m

abbrev ends_in : Option Mode → Bool
ends_in None = true
ends_in (Some m) = ends_row m

buried_ends : (e : Entry) (l : Life) → ends_in (life_mode (Some (record e { life = l }))) ≡ true
buried_ends e life.Alive = refl
buried_ends e (life.Dying w) = refl
buried_ends e (life.Zombie w) = refl

gone_ends : (e : Option Entry) → ends_in (life_mode e) ≡ true
gone_ends None = refl
gone_ends (Some e) = buried_ends e e.life

not_both : (b : Bool) → b ≡ true → b ≡ false → ⊥
not_both b e f = cc (sym e ∙ f)

turns_where : (s : Shared) (p : ℕ) (task : Task UserState) → rests_in (kernel_mode (maps.get s.entries p) task) ≡ false → ends_in (kernel_mode (maps.get s.entries p) task) ≡ false → can_turn s p task ≡ true
unfolding can_turn
turns_where s p (Alive b stage) rests ends = ap (λ w. not w || is_killed (maps.get s.entries p)) (waits_none s p b stage rests)
turns_where s p (Dying w) rests ends = refl
turns_where s p Gone rests ends = absurd (not_both _ (gone_ends (maps.get s.entries p)) ends)

unfinished_row : (m : Mode) → ends_row m ≡ false → is_finished (Some m) ≡ false
unfinished_row mode.Born h = refl
unfinished_row mode.Run h = refl
unfinished_row mode.Faulting h = refl
unfinished_row mode.Entered h = refl
unfinished_row mode.Doing h = refl
unfinished_row mode.Acted h = refl
unfinished_row mode.Finished h = absurd (cc h)
unfinished_row mode.Taken h = refl
unfinished_row mode.Stopped h = refl
unfinished_row mode.Woken h = refl
unfinished_row mode.Dying h = refl
unfinished_row mode.Zombie h = absurd (cc h)

pub continues_able : (k : Run) (p : ℕ) (m : Mode) → Some m ≡ mode_in k p → ends_row m ≡ false → is_able_in k p → Continues (readiness_of k) p
continues_able k p m stands ends able = record {
  waits = refl;
  able = sym (able_by_modes true _ _ (λ e. able) (λ e. refl));
  within = sym (finished_by_mode (maps.get k.running.shared.entries p) (at Gone k.running.tasks p))
      ∙ ap is_finished (sym stands) ∙ unfinished_row m ends;
}

pub continues_awake : (k : Run) (p : ℕ) (m : Mode) → Some m ≡ mode_in k p → ends_row m ≡ false → may_rest m ≡ false → Continues (readiness_of k) p
continues_awake k p m stands ends rests =
    continues_able k p m stands ends
    ((able_where_turns k p).0 (turns_where k.running.shared p (at Gone k.running.tasks p) (ap rests_in (sym stands) ∙ rests) (ap ends_in (sym stands) ∙ ends)))

-- What they log

pub bore_log : (v : Running Shared UserState) (e : PtraceEvent UserState) → (bore v e).log ≡ v.log
bore_log v events.Plain = refl
bore_log v events.Execed = refl
bore_log v (events.Forked b) = refl

log_after : (k : Run) (p : ℕ) → (after_turn k p).running.log ≡ k.running.log ++ option_to_list (item_of (turn_in k p))
log_after k p = bore_log (ran k.running p (turn_in k p)) (turn_in k p).event

quietly_logs : (n : ℕ) (k : Run) (p : ℕ) (b : Run) → Quietly k p n b → b.running.log ≡ k.running.log
quietly_logs zero k p b h = ap (λ (x : Run). x.running.log) h
quietly_logs (suc n) k p b h =
    quietly_logs n (after_turn k p) p b h.1 ∙ log_after k p
    ∙ ap (λ o. k.running.log ++ option_to_list o) h.0.item_is ∙ append-nil k.running.log

pub leads_log : (n : ℕ) (k k' : Run) (p : ℕ) (item : Option Item) (event : PtraceEvent ℕ) → Leads k p n item event k' → k'.running.log ≡ k.running.log ++ option_to_list item
leads_log zero k k' p item event h =
    ap (λ (x : Run). x.running.log) h.2 ∙ sym (append-nil k.running.log) ∙ ap (λ o. k.running.log ++ option_to_list o) (sym h.0)
leads_log (suc n) k k' p item event h =
    ap (λ (x : Run). x.running.log) h.2.turned ∙ log_after h.0 p
    ∙ ap₂ (λ log o. log ++ option_to_list o) (quietly_logs n k p h.0 h.1) (sym h.2.item_is)

-- What was told

pub told_nothing : (k : Run) (told : List Item) → Tells k told k told
told_nothing k told = record { items = []; logged = sym (append-nil k.running.log); are_told = sym (append-nil told) }

pub told_row : (n : ℕ) (k k' : Run) (p : ℕ) (item : Option Item) (event : PtraceEvent ℕ) (told told' : List Item) → Leads k p n item event k' → told' ≡ told ++ option_to_list item → Tells k told k' told'
told_row n k k' p item event told told' leads e = record { items = option_to_list item; logged = leads_log n k k' p item event leads; are_told = e }

pub told_both : (k l m : Run) (a b c : List Item) → Tells k a l b → Tells l b m c → Tells k a m c
told_both k l m a b c h g = record {
  items = h.items ++ g.items;
  logged = g.logged ∙ ap (λ x. x ++ g.items) h.logged ∙ append_assoc k.running.log h.items g.items;
  are_told = g.are_told ∙ ap (λ x. x ++ g.items) h.are_told ∙ append_assoc a h.items g.items;
}

pub fewer_still : (a b c : ℕ) → a ≤ b → b < c → a < c
fewer_still a b c h g = omega (arith, h, g)

pub where_ok : {T E : Type 0} {P : Type 0} (result : Result T E) → P → OnOk result P
where_ok (Ok x) p = p
where_ok (Err e) p = search

-- The laws

same_pid : (p q : ℕ) (x : Option ℕ) → x ≡ Some p → x ≡ Some q → p ≡ q
same_pid p q x e f = cc (sym e ∙ f)

settled : (ps qs : List ℕ) (k : Run) (s : Schedule) (y z : Run) → IsRun k s ps y → IsRun k s qs z → y ≡ z
settled [] [] k s y z h g = h.1 ∙ sym g.1
settled [] (q ∷ qs) k s y z h g = absurd (cc (sym h.0 ∙ g.0))
settled (p ∷ ps) [] k s y z h g = absurd (cc (sym h.0 ∙ g.0))
settled (p ∷ ps) (q ∷ qs) k s y z h g =
    let next : GivenTurn = next_turn_of s (readiness_of k) in
    settled ps qs (after_turn k p) next.schedule y z h.1
    (subst (λ x. IsRun (after_turn k x) next.schedule qs z) (sym (same_pid p q next.pid h.0 g.0)) g.1)

pub ends_settled : EndsAreSettled
ends_settled k s y z h g = settled h.pids g.pids k s y z h.is_run g.is_run

turns_lead : (ps : List ℕ) (k : Run) (s : Schedule) (z : Run) → IsRun k s ps z → z ≡ after_all k ps
turns_lead [] k s z h = h.1
turns_lead (p ∷ ps) k s z h = turns_lead ps (after_turn k p) (next_turn_of s (readiness_of k)).schedule z h.1

pub runs_turns : RunsAreTurns
runs_turns k s z to = turns_lead to.pids k s z to.is_run

-- Whether the log is kept

keeps : (k : Run) (s : Schedule) (pids : List ℕ) (z : Run) → IsRun k s pids z → z.keeps_log ≡ k.keeps_log
keeps k s [] z h = ap (λ (r : Run). r.keeps_log) h.1
keeps k s (p ∷ ps) z h = keeps (after_turn k p) (next_turn_of s (readiness_of k)).schedule ps z h.1

pub runs_keep_logs : RunsKeepLogs
runs_keep_logs k s z to = keeps k s to.pids z to.is_run

alike : (keeps : Bool) (k : Run) (s : Schedule) (pids : List ℕ) (z : Run) → IsRun k s pids z → IsRun (record k { keeps_log = keeps }) s pids (record z { keeps_log = keeps })
alike keeps k s [] z h = (h.0, ap (λ (r : Run). record r { keeps_log = keeps }) h.1)
alike keeps k s (p ∷ ps) z h = (h.0, alike keeps (after_turn k p) (next_turn_of s (readiness_of k)).schedule ps z h.1)

pub with_log : RunsGoAlike
with_log keeps k s z to = record { pids = to.pids; is_run = alike keeps k s to.pids z to.is_run }
