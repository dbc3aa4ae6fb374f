-- What the host's own replies say.
use Rattle.std.proofs.Common.{◌≡◌, ℕ, ◌⊎◌, inl, inr, ⊎_elim, Bool, true, false, List, [], ◌∷◌, ◌++◌, map, Option, Some, None, refl, sym, ap, ap₂, subst, ◌∙◌, append-nil, append_assoc}
use Rattle.std.specs.Option.{option_to_list}
use Rattle.lx_abi.specs.declared.outcome.Outcome.{Outcome}
use Rattle.lx_abi.specs.declared.ptrace.Reply.{Reply}
use Rattle.lx_abi.specs.declared.ptrace.Reply.TheVariants.{Done as Agreed, OutOfTurns as Out_of_turns}
use Rattle.lx_abi.specs.declared.ptrace.Request.{Request}
use Rattle.lx_abi.specs.declared.schedule.Event.{Event}
use Rattle.lx_model.specs.Machine.{Machine, IsMachine}
use Rattle.lx_model.specs.Kernel.{Script, Kernel}
use Rattle.pt_model.specs.Ptrace.{Host, is_there}
use Rattle.pt_model.specs.Parts.{Options, Part}
use Rattle.pt_model.specs.Admissible.{admits_answer}
use Rattle.pt_model.specs.Tracer.{Awaiting, Seizing, Entry_regs, Entry_peek, Entry_set, Exit_regs, Exit_set, Exit_peek, Signal_info, Resuming, Listening, asks, Focus, Booting, Waiting, Serving, Asking_outcome, Over, Turns_over, Faulted, Tracer, next_from, next, Moved, request, new_tracer}
use Rattle.pt_model.specs.World.{World, met, world_run, effective, first_world}
use Rattle.pt_model.specs.Attending.{Schedules, event, turned, Called, answered_by, called, reply_or}
use Rattle.pt_model.specs.Headline.{IsTold, IsTexts, Headline, traced_run, plain_run}
use Rattle.pt_model.specs.Replies.{after, told_by, replies}
use Rattle.pt_model.specs.Calls.{CallsOver, TalksOver, SchedulesAreLists, IsCall, Used, out_of_turns_if, world_replies, IsOwn, Talks, TalksAreAnswers, TalksAreOwn, OutOfTurnsShowsNothing, OwnRun, OwnRepliesTell, FailuresLeaveAPrefix}
use Rattle.pt_model.proofs.Final.{transparent}
use Rattle.pt_model.proofs.Composition.{after_all-append, replies_tell_all, traces_grow}
use Rattle.pt_model.proofs.Called.{worlds_call, runs_append, over_is_for_good, events_of_replies}

always_out : (o : Options) (place : Awaiting) → admits_answer (asks o place) Out_of_turns ≡ true
always_out o Seizing = refl
always_out o Entry_regs = refl
always_out o (Entry_peek r got w) = refl
always_out o (Entry_set r n) = refl
always_out o Exit_regs = refl
always_out o (Exit_set r x) = refl
always_out o (Exit_peek x replaced got w) = refl
always_out o (Signal_info n) = refl
always_out o (Resuming n) = refl
always_out o Listening = refl

pub out_of_turns_shows_nothing : OutOfTurnsShowsNothing
out_of_turns_shows_nothing o script t h = go t.focus h
  where
    go : (f : Focus) → is_there (request o f) ≡ true → ((next_from o script t f Out_of_turns).printed ≡ []) × ((next_from o script t f Out_of_turns).tracer.focus ≡ Turns_over)
    go Booting h = absurd (cc h)
    go Waiting h = (refl, refl)
    go (Serving p place) h = rw (always_out o place) (refl, refl)
    go Asking_outcome h = (refl, refl)
    go (Over x) h = absurd (cc h)
    go Turns_over h = absurd (cc h)
    go Faulted h = absurd (cc h)

module _ {S B : Type 0} (m : Machine S B) (outcome : S → Outcome) (o : Options) (script : Script) where
  -- a call that isn't answered has used up the events
  none_left : (events : List Event) (h : Host S B) (q : Request) → (called m outcome h q events).reply ≡ None → (called m outcome h q events).left ≡ []
  none_left [] h q e = refl
  none_left (x ∷ es) h q e = go (event m outcome (record { host = h; pending = Some q }) x).reply (event m outcome (record { host = h; pending = Some q }) x).attending.host (λ g. none_left es g q) e
    where
      go : (r : Option Reply) (g : Host S B) → ((g : Host S B) → (called m outcome g q es).reply ≡ None → (called m outcome g q es).left ≡ []) → (answered_by r g (turned m h x) es (λ g. called m outcome g q es)).reply ≡ None → (answered_by r g (turned m h x) es (λ g. called m outcome g q es)).left ≡ []
      go (Some r) g again e = absurd (cc e)
      go None g again e = again g e

  abbrev OwnFrom : World S B → List Event → List Reply → Type 0
  OwnFrom w events rs = (more : List Reply) × (rs ++ more ≡ world_replies m outcome o script w events)

  one_more : (w : World S B) (events : List Event) (c : Called S B) (r : Reply) (rs : List Reply) → c.reply ≡ Some r → IsCall m outcome o script w events c (met o script w w.tracer.focus c.host c.reply) → OwnFrom (met o script w w.tracer.focus c.host (Some r)) c.left rs → OwnFrom w events (r ∷ rs)
  one_more w events c r rs e call a =
      let v : World S B = met o script w w.tracer.focus c.host (Some r) in
      let ran : world_run m outcome o script w events ≡ world_run m outcome o script v c.left = subst (λ y. world_run m outcome o script w events ≡ world_run m outcome o script (met o script w w.tracer.focus c.host y) c.left) e call.ran in
      let replied : replies m outcome o script w events ≡ r ∷ replies m outcome o script v c.left = subst (λ y. replies m outcome o script w events ≡ option_to_list y ++ replies m outcome o script (met o script w w.tracer.focus c.host y) c.left) e call.replied in
      (a.0, ap (λ l. r ∷ l) a.1 ∙ sym (ap₂ (λ l (x : World S B). l ++ out_of_turns_if (is_there (request o x.tracer.focus))) replied ran))

  last_one : (w : World S B) (events : List Event) (q : Request) (c : Called S B) → request o w.tracer.focus ≡ Some q → c.reply ≡ None → c.left ≡ [] → IsCall m outcome o script w events c (met o script w w.tracer.focus c.host c.reply) → world_replies m outcome o script w events ≡ Out_of_turns ∷ []
  last_one w events q c f e g call =
      let v : World S B = met o script w w.tracer.focus c.host None in
      let ran : world_run m outcome o script w events ≡ v = subst (λ l. world_run m outcome o script w events ≡ world_run m outcome o script v l) g (subst (λ y. world_run m outcome o script w events ≡ world_run m outcome o script (met o script w w.tracer.focus c.host y) c.left) e call.ran) in
      let replied : replies m outcome o script w events ≡ [] = subst (λ l. replies m outcome o script w events ≡ replies m outcome o script v l) g (subst (λ y. replies m outcome o script w events ≡ option_to_list y ++ replies m outcome o script (met o script w w.tracer.focus c.host y) c.left) e call.replied) in
      ap₂ (λ l (x : World S B). l ++ out_of_turns_if (is_there (request o x.tracer.focus))) replied ran ∙ ap (λ x. out_of_turns_if (is_there x)) f

  -- out of turns, nothing more is said
  no_more : (t : Tracer) (r : Reply) (h : Host S B) (es : List Event) (xs : List (Request × Reply)) → is_there (request o t.focus) ≡ true → r ≡ Out_of_turns → Talks m outcome o script (next o script t r).tracer h es xs → xs ≡ []
  no_more t r h es [] f e k = refl
  no_more t r h es (x ∷ xs) f e k =
      let out : (next o script t r).tracer.focus ≡ Turns_over = ap (λ y. (next o script t y).tracer.focus) e ∙ (out_of_turns_shows_nothing o script t f).1 in
      absurd (cc (ap (request o) out, k.0))

  talked : (w : World S B) (events : List Event) (x : Request × Reply) (xs : List (Request × Reply)) → Talks m outcome o script w.tracer w.host events (x ∷ xs) → ((v : World S B) (es : List Event) → Talks m outcome o script v.tracer v.host es xs → OwnFrom v es (map (λ y. y.1) xs)) →
      (y : Option Reply) → (called m outcome w.host x.0 events).reply ≡ y → OwnFrom w events (x.1 ∷ map (λ y. y.1) xs)
  talked w events x xs k again (Some r) e =
      let c : Called S B = called m outcome w.host x.0 events in
      let said : x.1 ≡ r = k.1 ∙ ap reply_or e in
      let rest : Talks m outcome o script (next o script w.tracer r).tracer c.host c.left xs = subst (λ y. Talks m outcome o script (next o script w.tracer y).tracer c.host c.left xs) said k.2 in
      subst (λ y. OwnFrom w events (y ∷ map (λ y. y.1) xs)) (sym said) (one_more w events c r (map (λ y. y.1) xs) e (worlds_call m outcome o script w x.0 events k.0) (again (met o script w w.tracer.focus c.host (Some r)) c.left rest))
  talked w events x xs k again None e =
      let c : Called S B = called m outcome w.host x.0 events in
      let said : x.1 ≡ Out_of_turns = k.1 ∙ ap reply_or e in
      let none : xs ≡ [] = no_more w.tracer x.1 c.host c.left xs (ap is_there k.0) said k.2 in
      ([], ap₂ (λ y l. (y ∷ map (λ y. y.1) l) ++ []) said none ∙ sym (last_one w events x.0 c k.0 e (none_left events w.host x.0 e) (worlds_call m outcome o script w x.0 events k.0)))

  task_from : (xs : List (Request × Reply)) (w : World S B) (events : List Event) → Talks m outcome o script w.tracer w.host events xs → OwnFrom w events (map (λ x. x.1) xs)
  task_from [] w events k = (world_replies m outcome o script w events, refl)
  task_from (x ∷ xs) w events k = talked w events x xs k (task_from xs) (called m outcome w.host x.0 events).reply refl

module _ {S B : Type 0} (m : Machine S B) (outcome : S → Outcome) where
  -- what a list of events does before others
  abbrev fed_by : Option Reply → Host S B → List ℕ → List Event → Request → Called S B
  fed_by r g turns es q = answered_by r g turns es (λ k. called m outcome k q es)

  Before : Called S B → Called S B → List Event → Type 0
  Before long short rest = (long.host ≡ short.host) × (long.reply ≡ short.reply) × (long.left ≡ rest)

  one_before : (q : Request) (es rest : List Event) (turns : List ℕ) (r : Option Reply) (g : Host S B) →
      (is_there (called m outcome g q es).reply ≡ true → (called m outcome g q es).left ≡ [] → Before (called m outcome g q (es ++ rest)) (called m outcome g q es) rest) →
      is_there (fed_by r g turns es q).reply ≡ true → (fed_by r g turns es q).left ≡ [] → Before (fed_by r g turns (es ++ rest) q) (fed_by r g turns es q) rest
  unfolding Before
  one_before q es rest turns (Some r) g again e l = (refl, refl, ap (λ x. x ++ rest) l)
  one_before q es rest turns None g again e l = again e l

  before_others : (fed rest : List Event) (h : Host S B) (q : Request) → is_there (called m outcome h q fed).reply ≡ true → (called m outcome h q fed).left ≡ [] → Before (called m outcome h q (fed ++ rest)) (called m outcome h q fed) rest
  before_others [] rest h q e l = absurd (cc e)
  before_others (x ∷ es) rest h q e l = one_before q es rest (turned m h x) (event m outcome (record { host = h; pending = Some q }) x).reply (event m outcome (record { host = h; pending = Some q }) x).attending.host (before_others es rest (event m outcome (record { host = h; pending = Some q }) x).attending.host q) e l

module _ {X S B : Type 0} (choose : Schedules X S B) (m : Machine S B) (outcome : S → Outcome) (o : Options) (script : Script) where
  none_over : (t : Tracer) (r : Reply) (x : X) (h : Host S B) (events : List Event) (xs : List (Request × Reply)) → is_there (request o t.focus) ≡ true → r ≡ Out_of_turns → TalksOver choose m outcome o script (next o script t r).tracer x h events xs → (events ≡ []) × (xs ≡ [])
  none_over t r x h events [] f e k = (k, refl)
  none_over t r x h events (y ∷ xs) f e k =
      let out : (next o script t r).tracer.focus ≡ Turns_over = ap (λ y. (next o script t y).tracer.focus) e ∙ (out_of_turns_shows_nothing o script t f).1 in
      absurd (cc (ap (request o) out, k.1.1.1.1.1))

  one_over : (t : Tracer) (x y : X) (h g : Host S B) (fed rest : List Event) (e : Request × Reply) (xs : List (Request × Reply)) → request o t.focus ≡ Some e.0 → CallsOver choose m outcome x h e.0 fed e.1 y g →
      TalksOver choose m outcome o script (next o script t e.1).tracer y g rest xs → Talks m outcome o script (next o script t e.1).tracer g rest xs →
      (z : Option Reply) → (called m outcome h e.0 fed).reply ≡ z → Talks m outcome o script t h (fed ++ rest) (e ∷ xs)
  unfolding Before
  one_over t x y h g fed rest e xs asked c k again (Some r) f =
      let b : Before m outcome (called m outcome h e.0 (fed ++ rest)) (called m outcome h e.0 fed) rest = before_others m outcome fed rest h e.0 (ap is_there f) c.left in (
        asked,
        c.reply ∙ ap reply_or (sym b.1),
        subst (λ z. Talks m outcome o script (next o script t e.1).tracer z (called m outcome h e.0 (fed ++ rest)).left xs) (sym (b.0 ∙ c.host))
            (subst (λ l. Talks m outcome o script (next o script t e.1).tracer g l xs) (sym b.2) again),
      )
  one_over t x y h g fed rest e xs asked c k again None f =
      let none : (rest ≡ []) × (xs ≡ []) = none_over t e.1 y g rest xs (ap is_there asked) (c.reply ∙ ap reply_or f) k in
      subst (λ l. Talks m outcome o script t h (fed ++ rest) (e ∷ l)) (sym none.1)
      (subst (λ v. Talks m outcome o script t h v (e ∷ [])) (sym (ap (λ l. fed ++ l) none.0 ∙ append-nil fed)) (asked, c.reply, tt))

  over_list : (xs : List (Request × Reply)) (t : Tracer) (x : X) (h : Host S B) (events : List Event) → TalksOver choose m outcome o script t x h events xs → Talks m outcome o script t h events xs
  over_list [] t x h events k = tt
  over_list (e ∷ xs) t x h events k =
      subst (λ v. Talks m outcome o script t h v (e ∷ xs)) (sym k.1.1.1.1.0)
      (one_over t x k.1.1.0 h k.1.1.1.0 k.0 k.1.0 e xs k.1.1.1.1.1 k.1.1.1.1.2 k.1.1.1.1.3 (over_list xs (next o script t e.1).tracer k.1.1.0 k.1.1.1.0 k.1.0 k.1.1.1.1.3) (called m outcome h e.0 k.0).reply refl)

pub schedules_are_lists : {X S B : Type 0} → SchedulesAreLists X S B
schedules_are_lists choose m outcome o script t x h events xs k = over_list choose m outcome o script xs t x h events k

pub talks_are_own : {S B : Type 0} → TalksAreOwn S B
talks_are_own {S} {B} m outcome o script s b events xs k =
    let a : OwnFrom m outcome o script (first_world s b) events (map (λ x. x.1) xs) = task_from m outcome o script xs (first_world s b) events k in
    record { more = a.0; begins = a.1 }

pub talks_are_answers : {S B : Type 0} → TalksAreAnswers S B
talks_are_answers m outcome o script t h events [] k = refl
talks_are_answers m outcome o script t h events (x ∷ xs) k = ap₂ (λ y l. y ∷ l) k.1 (talks_are_answers m outcome o script (next o script t x.1).tracer (called m outcome h x.0 events).host (called m outcome h x.0 events).left xs k.2)

heads : {y z : Reply} {ys zs : List Reply} → y ∷ ys ≡ z ∷ zs → y ≡ z
heads h = cc

tails : {y z : Reply} {ys zs : List Reply} → y ∷ ys ≡ z ∷ zs → ys ≡ zs
tails h = cc

-- the beginning of a list with one element more, or that whole list
begins_or_is : (rs more xs : List Reply) (y : Bool) → rs ++ more ≡ xs ++ out_of_turns_if y → ((rest : List Reply) × (xs ≡ rs ++ rest)) ⊎ ((y ≡ true) × (rs ≡ xs ++ Out_of_turns ∷ []))
begins_or_is [] more xs y e = inl (xs, refl)
begins_or_is (r ∷ rs) more [] false e = absurd (cc e)
begins_or_is (r ∷ rs) more [] true e = one r rs more e
  where
    one : (r : Reply) (rs more : List Reply) → r ∷ (rs ++ more) ≡ Out_of_turns ∷ [] → ((rest : List Reply) × ([] ≡ r ∷ (rs ++ rest))) ⊎ ((true ≡ true) × (r ∷ rs ≡ Out_of_turns ∷ []))
    one r [] more e = inr (refl, ap (λ x. x ∷ []) (heads e))
    one r (x ∷ rs) more e = absurd (cc e)
begins_or_is (r ∷ rs) more (x ∷ xs) y e = behind (begins_or_is rs more xs y (tails e)) (heads e)
  where
    behind : ((rest : List Reply) × (xs ≡ rs ++ rest)) ⊎ ((y ≡ true) × (rs ≡ xs ++ Out_of_turns ∷ [])) → r ≡ x → ((rest : List Reply) × (x ∷ xs ≡ r ∷ (rs ++ rest))) ⊎ ((y ≡ true) × (r ∷ rs ≡ x ∷ (xs ++ Out_of_turns ∷ [])))
    behind (inl a) h = inl (a.0, ap₂ (λ z l. z ∷ l) (sym h) a.1)
    behind (inr a) h = inr (a.0, ap₂ (λ z l. z ∷ l) h a.1)

module _ {S B : Type 0} (m : Machine S B) (laws : IsMachine m) (words : IsTold m) (outcome : S → Outcome) (o : Options) (texts : IsTexts o.texts) (script : Script) (s : S) (b : B) (events : List Event) (rs : List Reply) where
  -- they are the replies of the first events
  by_events : Used m outcome o script (first_world s b) events rs → OwnRun m outcome o script s b events rs
  by_events u =
      let w : World S B = traced_run m outcome o script s b u.used in
      let same : told_by o script (Agreed ∷ rs) ≡ record { tracer = w.tracer; printed = w.printed } = ap (λ x. told_by o script (Agreed ∷ x)) (sym u.replied) ∙ replies_tell_all m outcome o script s b u.used in
      let h : Headline outcome o w (plain_run m outcome o script s b u.used) = transparent m laws words outcome o texts script s b u.used in
      let focus : (told_by o script (Agreed ∷ rs)).tracer.focus ≡ w.tracer.focus = ap (λ (x : Moved). x.tracer.focus) same in
      record {
        used = u.used;
        unused = u.unused;
        split = u.split;
        headline = h;
        shown = ap (λ (x : Moved). x.printed) same;
        whole = λ x e. sym focus ∙ e;
        used_up = λ e. absurd (h.in_turns (sym focus ∙ e));
        admitted = λ e. h.admitted (sym focus ∙ e);
        done = λ e. ended u (ap (request o) (sym focus) ∙ e);
      }
    where
      ended : (u : Used m outcome o script (first_world s b) events rs) → request o (traced_run m outcome o script s b u.used).tracer.focus ≡ None →
          (traced_run m outcome o script s b u.used ≡ traced_run m outcome o script s b events)
          × (effective m outcome o script (first_world s b) u.used ≡ effective m outcome o script (first_world s b) events)
      ended u e =
          let w : World S B = traced_run m outcome o script s b u.used in
          let over = over_is_for_good m outcome o script w u.unused e in
          let app = runs_append m outcome o script (first_world s b) u.used u.unused in (
            sym (ap (world_run m outcome o script (first_world s b)) u.split ∙ app.0 ∙ over.0),
            sym (ap (effective m outcome o script (first_world s b)) u.split ∙ app.2 ∙ ap (λ x. effective m outcome o script (first_world s b) u.used ++ x) over.2 ∙ append-nil (effective m outcome o script (first_world s b) u.used)),
          )

  -- they are those of all the events, and OutOfTurns
  by_all : is_there (request o (traced_run m outcome o script s b events).tracer.focus) ≡ true → rs ≡ replies m outcome o script (first_world s b) events ++ Out_of_turns ∷ [] → OwnRun m outcome o script s b events rs
  by_all f e =
      let w : World S B = traced_run m outcome o script s b events in
      let out = out_of_turns_shows_nothing o script w.tracer f in
      let same : told_by o script (Agreed ∷ rs) ≡ after o script (record { tracer = w.tracer; printed = w.printed }) Out_of_turns =
      ap (λ x. told_by o script (Agreed ∷ x)) e
      ∙ after_all-append o script (record { tracer = new_tracer; printed = [] }) (Agreed ∷ replies m outcome o script (first_world s b) events) (Out_of_turns ∷ [])
      ∙ ap (λ x. after o script x Out_of_turns) (replies_tell_all m outcome o script s b events) in
      let focus : (told_by o script (Agreed ∷ rs)).tracer.focus ≡ Turns_over = ap (λ (x : Moved). x.tracer.focus) same ∙ out.1 in
      record {
        used = events;
        unused = [];
        split = sym (append-nil events);
        headline = transparent m laws words outcome o texts script s b events;
        shown = ap (λ (x : Moved). x.printed) same ∙ ap (λ x. w.printed ++ x) out.0 ∙ append-nil w.printed;
        whole = λ x g. absurd (cc (focus, g));
        used_up = λ g. (refl, f);
        admitted = λ g. cc (focus, g);
        done = λ g. (refl, refl);
      }

  task_run : IsOwn m outcome o script s b events rs → OwnRun m outcome o script s b events rs
  task_run task = ⊎_elim
      (λ (a : (rest : List Reply) × (replies m outcome o script (first_world s b) events ≡ rs ++ rest)). by_events (events_of_replies m outcome o script (first_world s b) events rs a.0 a.1))
      (λ (a : (is_there (request o (traced_run m outcome o script s b events).tracer.focus) ≡ true) × (rs ≡ replies m outcome o script (first_world s b) events ++ Out_of_turns ∷ [])). by_all a.0 a.1)
      (begins_or_is rs task.more (replies m outcome o script (first_world s b) events) (is_there (request o (traced_run m outcome o script s b events).tracer.focus)) task.begins)

pub own_replies_tell : {S B : Type 0} → OwnRepliesTell S B
own_replies_tell m laws words outcome o texts script s b events rs task = task_run m laws words outcome o texts script s b events rs task

pub failures_leave_a_prefix : {S B : Type 0} → FailuresLeaveAPrefix S B
unfolding by_all
failures_leave_a_prefix {S} {B} m laws words outcome o texts script s b events rs task =
    let w : World S B = traced_run m outcome o script s b events in
    let k : Kernel S B = plain_run m outcome o script s b events in
    let h : Headline outcome o w k = transparent m laws words outcome o texts script s b events in
    let g : (later : List Part) × ((told_by o script (Agreed ∷ rs ++ task.more)).printed ≡ (told_by o script (Agreed ∷ rs)).printed ++ later) = traces_grow o script (Agreed ∷ rs) task.more in
    let all : (told_by o script (Agreed ∷ rs ++ task.more)).printed ≡ w.printed = ap (λ x. (told_by o script (Agreed ∷ x)).printed) task.begins ∙ shown_by (is_there (request o w.tracer.focus)) refl in
    (h.lost, (g.0 ++ h.tells.later, sym (append_assoc (told_by o script (Agreed ∷ rs)).printed g.0 h.tells.later) ∙ ap (λ x. x ++ h.tells.later) (sym g.1 ∙ all) ∙ h.tells.begins))
  where
    shown_by : (y : Bool) → is_there (request o (traced_run m outcome o script s b events).tracer.focus) ≡ y → (told_by o script (Agreed ∷ (replies m outcome o script (first_world s b) events ++ out_of_turns_if y))).printed ≡ (traced_run m outcome o script s b events).printed
    shown_by false e = ap (λ x. (told_by o script (Agreed ∷ x)).printed) (append-nil (replies m outcome o script (first_world s b) events)) ∙ ap (λ (x : Moved). x.printed) (replies_tell_all m outcome o script s b events)
    shown_by true e = (by_all m laws words outcome o texts script s b events (replies m outcome o script (first_world s b) events ++ Out_of_turns ∷ []) e refl).shown
