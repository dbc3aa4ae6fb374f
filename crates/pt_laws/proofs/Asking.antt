-- A request that is served keeps what is listed, reported and told.
use Rattle.std.proofs.Common.{◌≡◌, ◌≢◌, ⊎_elim, ℕ, ◌≤◌, inl, Bool, true, false, cond, not, ◌&&◌, List, [], ◌∷◌, ◌++◌, append-nil, Option, Some, None, refl, sym, ap, subst, ◌∙◌}
use Rattle.std.specs.Prelude.{◌==◌, filter}
use Rattle.lx_abi.specs.declared.ptrace.Ask.{Ask}
use Rattle.lx_abi.specs.declared.ptrace.Ask.TheVariants.{Seize, SetOptions, GetRegs, SetRegs, Peek, Syscall, EventMsg, SigInfo, Listen}
use Rattle.lx_abi.specs.declared.ptrace.Reply.{Reply}
use Rattle.lx_abi.specs.declared.ptrace.Request.TheVariants.{Boot as Boot_with, Wait, To, Outcome as Ask_outcome}
use Rattle.lx_abi.specs.declared.ptrace.TraceOptions.{TraceOptions}
use Rattle.lx_abi.specs.declared.status.EventStop.TheVariants.{Stop as At_start}
use Rattle.lx_abi.specs.declared.status.Stop.{Stop}
use Rattle.lx_abi.specs.declared.status.Stop.TheVariants.{Syscall as Syscall_stop, Signal as Signal_stop, Group as Group_stop, Event as Event_stop, Ended}
use Rattle.lx_abi.specs.Options.{trace_options}
use Rattle.lx_model.specs.Machine.{Machine}
use Rattle.lx_model.specs.Rows.{row}
use Rattle.lx_model.specs.Kernel.{put}
use Rattle.lx_model.specs.declared.stage.Stage.{Stage}
use Rattle.lx_model.specs.declared.stage.Stage.TheVariants.{Born}
use Rattle.lx_model.specs.declared.stage.Task.{Task}
use Rattle.lx_model.specs.declared.stage.Task.TheVariants.{Alive, Dying, Gone}
use Rattle.pt_model.specs.declared.ptrace.Report.{Report}
use Rattle.pt_model.specs.Ptrace.{Proc, Host, is_there}
use Rattle.pt_model.specs.Requests.{Answered, says, goes_from, set_options, stopped, seize, unseized, answer_at, answer, answered, take_report, serve_wait, esrch}
use Rattle.pt_model.proofs.Maps.{same_or_not, is_same, is_not_same, put_here, put_apart}
use Rattle.pt_laws.specs.Stops.{is_tracee, listings, reports_of, LastStands, is_end, EndsFit, Fits, lets_go, is_agreed, minds, AreStops, RequestsKeepStops}
use Rattle.pt_laws.proofs.Lists.{own_stops, other_stops, reports-append, listings-append, own_listing, other_listing, own_left, other_left, later_stands}
use Rattle.pt_laws.proofs.Turning.{Property, Each, holds_as}

-- A request to one process.

-- what a request leaves of it
abbrev pub Leaves : {B : Type 0} → Property B → ℕ → List ℕ → List Report → Bool → Ask → Answered B → Type 0
Leaves P p listed reports told q a =
    P p a.proc (cond a.seized (listed ++ p ∷ []) listed) (cond a.seized (reports ++ record { pid = p; stop = Event_stop At_start } ∷ []) reports)
    (cond (lets_go q && is_agreed (Some a.reply)) false told)

abbrev Left : {B : Type 0} → ℕ → List ℕ → List Report → Bool → Ask → Answered B → Type 0
Left = Leaves Fits

module _ {S B : Type 0} (m : Machine S B) (p : ℕ) (message : ℕ) (listed : List ℕ) (reports : List Report) (told : Bool) where
  -- a refusal, or a question, leaves all as it was
  module _ (t : Proc B) (fits : Fits p t listed reports told) where
    asks : (q : Ask) (r : Reply) → lets_go q ≡ false → Left p listed reports told q (says t r)
    asks q r other = subst (λ b. Fits p t listed reports (cond (b && is_agreed (Some r)) false told)) (sym other) fits

    refuses : (q : Ask) (r : Reply) → is_agreed (Some r) ≡ false → Left p listed reports told q (says t r)
    refuses q r other = subst (λ b. Fits p t listed reports (cond b false told)) (sym (ap (λ b. lets_go q && b) other ∙ neither (lets_go q))) fits
      where
        neither : (b : Bool) → (b && false) ≡ false
        neither true = refl
        neither false = refl

  module _ (b : B) (stage : Stage) (w : TraceOptions) where
    abbrev it : Proc B
    it = record { task = Alive b stage; held = true; options = Some w }

    module _ (fits : Fits p it listed reports told) where
      options_left : (options : ℕ) (x : Option TraceOptions) → Left p listed reports told (SetOptions options) (set_options it x)
      options_left options None = fits
      options_left options (Some y) = record { once = fits.once; reported = λ h. absurd (cc h); newest = fits.newest; ends = fits.ends; heard = fits.heard; held = λ h none. absurd (cc none) }

      goes_left : (q : Ask) → lets_go q ≡ true → (x : Option Stage) → Left p listed reports told q (goes_from it b x)
      goes_left q going None = subst (λ t. Fits p it listed reports (cond (t && false) false told)) (sym going) fits
      goes_left q going (Some next) = record { once = fits.once; reported = λ h. absurd (cc h); newest = λ h. absurd (cc h); ends = fits.ends; heard = λ h. absurd (cc h); held = λ h. absurd (cc h) }

      stopped_left : (q : Ask) → Left p listed reports told q (stopped m it b stage message q)
      stopped_left (Seize options) = fits
      stopped_left (SetOptions options) = options_left options (trace_options options)
      stopped_left GetRegs = fits
      stopped_left (SetRegs r) = record { once = fits.once; reported = λ h. absurd (cc h); newest = λ h. again reports (fits.newest refl); ends = fits.ends; heard = fits.heard; held = λ h none. absurd (cc none) }
        where
          again : (reports : List Report) → LastStands (Alive b stage) reports → LastStands (Alive (m.with_regs b r) stage) reports
          again [] h = tt
          again (x ∷ []) h = h
          again (x ∷ y ∷ rest) h = again (y ∷ rest) h
      stopped_left (Peek address length) = fits
      stopped_left (Syscall n) = goes_left (Syscall n) refl ((row stage).resume n)
      stopped_left EventMsg = fits
      stopped_left SigInfo = fits
      stopped_left Listen = goes_left Listen refl (row stage).listen

  -- process 1 before it is seized
  module _ (x : Task B) where
    abbrev first : Proc B
    first = record { task = x; held = true; options = None }

    module _ (fits : Fits p first listed reports told) where
      seized : (options : ℕ) (w : TraceOptions) → (y : Task B) → x ≡ y → ((b : B) × (y ≡ Alive b Born)) → listed ≡ [] → reports ≡ [] → Left p listed reports told (Seize options) (seize first (Some w))
      seized options w y is born ls rs = rw (ls, rs, is, born.1) (record {
        once = refl;
        reported = λ h. absurd (cc h);
        newest = λ h. refl;
        ends = (refl, tt);
        heard = λ h tracee none. absurd (cc none);
        held = λ h none. absurd (cc none);
      })

      seizes_left : (options : ℕ) (w : Option TraceOptions) → Left p listed reports told (Seize options) (seize first w)
      seizes_left options None = fits
      seizes_left options (Some w) = seized options w x refl (fits.held refl refl).2 fits.once (fits.reported refl)

      unseized_left : (q : Ask) → Left p listed reports told q (unseized first q)
      unseized_left (Seize options) = seizes_left options (trace_options options)
      unseized_left (SetOptions options) = fits
      unseized_left GetRegs = fits
      unseized_left (SetRegs r) = fits
      unseized_left (Peek address length) = fits
      unseized_left (Syscall n) = fits
      unseized_left EventMsg = fits
      unseized_left SigInfo = fits
      unseized_left Listen = fits

  answer_left : (t : Proc B) (held : Bool) (w : Option TraceOptions) (x : Task B) (q : Ask) → t ≡ record { task = x; held = held; options = w } → Fits p t listed reports told → Left p listed reports told q (answer_at m message t held w x q)
  answer_left t true (Some w) (Alive b stage) q is fits =
      subst (λ u. Left p listed reports told q (answer_at m message u true (Some w) (Alive b stage) q)) (sym is) (stopped_left b stage w (subst (λ u. Fits p u listed reports told) is fits) q)
  answer_left t true (Some w) (Dying word) q is fits = refuses t fits q esrch refl
  answer_left t true (Some w) Gone q is fits = refuses t fits q esrch refl
  answer_left t true None x q is fits =
      subst (λ u. Left p listed reports told q (answer_at m message u true None x q)) (sym is) (unseized_left x (subst (λ u. Fits p u listed reports told) is fits) q)
  answer_left t false w x q is fits = refuses t fits q esrch refl

-- The host after it.

module _ {S B : Type 0} (P : Property B) (h : Host S B) (told : ℕ → Bool) (p : ℕ) (q : Ask) (a : Answered B) (each : Each P h told)
    (left : Leaves P p (listings p h.tracees) (reports_of p h.queue) (told p) q a) where
  abbrev report : Report
  report = record { pid = p; stop = Event_stop At_start }

  own_listed : (s : Bool) → listings p (cond s (h.tracees ++ p ∷ []) h.tracees) ≡ cond s (listings p h.tracees ++ p ∷ []) (listings p h.tracees)
  own_listed true = listings-append p h.tracees (p ∷ []) ∙ ap (λ l. listings p h.tracees ++ l) (own_listing p)
  own_listed false = refl

  own_reported : (s : Bool) → reports_of p (cond s (h.queue ++ report ∷ []) h.queue) ≡ cond s (reports_of p h.queue ++ report ∷ []) (reports_of p h.queue)
  own_reported true = reports-append p h.queue (report ∷ []) ∙ ap (λ r. reports_of p h.queue ++ r) (own_stops p (Some (Event_stop At_start)))
  own_reported false = refl

  other_listed : (i : ℕ) → p ≢ i → (s : Bool) → listings i (cond s (h.tracees ++ p ∷ []) h.tracees) ≡ listings i h.tracees
  other_listed i ne true = listings-append i h.tracees (p ∷ []) ∙ ap (λ l. listings i h.tracees ++ l) (other_listing p i ne) ∙ append-nil (listings i h.tracees)
  other_listed i ne false = refl

  other_reported : (i : ℕ) → p ≢ i → (s : Bool) → reports_of i (cond s (h.queue ++ report ∷ []) h.queue) ≡ reports_of i h.queue
  other_reported i ne true = reports-append i h.queue (report ∷ []) ∙ ap (λ r. reports_of i h.queue ++ r) (other_stops p i (Some (Event_stop At_start)) ne) ∙ append-nil (reports_of i h.queue)
  other_reported i ne false = refl

  abbrev minded : ℕ → Bool
  minded = cond (lets_go q && is_agreed (Some a.reply)) (put told p false) told

  own_told : (b : Bool) → cond b (put told p false) told p ≡ cond b false (told p)
  own_told true = put_here told p false
  own_told false = refl

  other_told : (i : ℕ) → p ≢ i → (b : Bool) → cond b (put told p false) told i ≡ told i
  other_told i ne true = put_apart told p false i ne
  other_told i ne false = refl

  pub answered_each : Each P (answered h p a) minded
  answered_each i = ⊎_elim
      (λ (e : p ≡ i). subst (λ j. P j ((answered h p a).procs j) (listings j (answered h p a).tracees) (reports_of j (answered h p a).queue) (minded j)) e
      (holds_as P p a.proc _ _ (listings p (answered h p a).tracees) _ (reports_of p (answered h p a).queue) _ (minded p) (put_here h.procs p a.proc) (own_listed a.seized) (own_reported a.seized) (own_told (lets_go q && is_agreed (Some a.reply))) left))
      (λ (ne : p ≢ i). holds_as P i (h.procs i) _ (listings i h.tracees) (listings i (answered h p a).tracees) (reports_of i h.queue) (reports_of i (answered h p a).queue) (told i) (minded i)
      (put_apart h.procs p a.proc i ne) (other_listed i ne a.seized) (other_reported i ne a.seized) (other_told i ne (lets_go q && is_agreed (Some a.reply))) (each i))
      (same_or_not p i)

-- nobody is seized, let go or given registers who isn't there
fresh_answer : {S B : Type 0} (m : Machine S B) (message : ℕ) (t : Proc B) (held : Bool) (w : Option TraceOptions) (q : Ask) → t.task ≡ Gone → (answer_at m message t held w Gone q).proc.task ≡ Gone
fresh_answer m message t true (Some w) q is = is
fresh_answer m message t false w q is = is
fresh_answer m message t true None (Seize options) is = go (trace_options options)
  where
    go : (x : Option TraceOptions) → (seize t x).proc.task ≡ Gone
    go None = is
    go (Some w) = is
fresh_answer m message t true None (SetOptions options) is = is
fresh_answer m message t true None GetRegs is = is
fresh_answer m message t true None (SetRegs r) is = is
fresh_answer m message t true None (Peek address length) is = is
fresh_answer m message t true None (Syscall n) is = is
fresh_answer m message t true None EventMsg is = is
fresh_answer m message t true None SigInfo is = is
fresh_answer m message t true None Listen is = is

to_fresh : {S B : Type 0} (m : Machine S B) (h : Host S B) (p : ℕ) (q : Ask) (i : ℕ) → (h.procs i).task ≡ Gone → ((answered h p (answer m (h.messages p) (h.procs p) q)).procs i).task ≡ Gone
to_fresh {S} {B} m h p q i is = ⊎_elim
    (λ (e : p ≡ i). ap (λ (t : Proc B). t.task) (ap (put h.procs p (answer m (h.messages p) (h.procs p) q).proc) (sym e) ∙ put_here h.procs p _) ∙ go (ap (λ j. (h.procs j).task) e ∙ is))
    (λ (ne : p ≢ i). ap (λ (t : Proc B). t.task) (put_apart h.procs p _ i ne) ∙ is)
    (same_or_not p i)
  where
    t : Proc B
    t = h.procs p

    go : t.task ≡ Gone → (answer m (h.messages p) t q).proc.task ≡ Gone
    go gone = subst (λ x. (answer_at m (h.messages p) t t.held t.options x q).proc.task ≡ Gone) (sym gone) (fresh_answer m (h.messages p) t t.held t.options q gone)

-- Wait.

-- what was told of isn't reported any more, and the rest is as it was
module _ {B : Type 0} (p : ℕ) (t : Proc B) (listed : List ℕ) (r : Report) (rest : List Report) (told : Bool) (fits : Fits p t listed (r ∷ rest) told) where
  is_one : is_tracee t ≡ true
  is_one = go (is_tracee t) refl
    where
      go : (b : Bool) → is_tracee t ≡ b → is_tracee t ≡ true
      go true is = is
      go false is = let none = fits.reported is in absurd (cc none)

  stop_taken : is_end r.stop ≡ false → Fits p t listed rest true
  stop_taken other = record {
    once = fits.once;
    reported = λ none. absurd (cc (none, is_one));
    newest = λ held. later_stands t.task r rest (fits.newest held);
    ends = ends t.task fits.ends;
    heard = λ held tracee none. refl;
    held = fits.held;
  }
    where
      ends : (x : Task B) → EndsFit p x (r ∷ rest) → EndsFit p x rest
      ends (Alive b stage) h = h.1
      ends (Dying w) h = ⊎_elim (λ none. absurd (cc none)) (λ one. inl (cc one)) h
      ends Gone h = absurd (cc h)

  end_taken : is_end r.stop ≡ true → Fits p (record { task = t.task; held = false; options = t.options }) [] rest true
  end_taken end = go t.task refl fits.ends
    where
      off : (b : Bool) → (b && false) ≡ false
      off true = refl
      off false = refl

      tail_of : (xs : List Report) (y : Report) → (r ∷ xs) ≡ (y ∷ []) → xs ≡ []
      tail_of xs y one = cc one

      ended : (w : ℕ) → Fits {B = B} p (record { task = Dying w; held = false; options = t.options }) [] [] true
      ended w = record {
        once = sym (ap (λ b. cond b (p ∷ []) []) (off (is_there t.options)));
        reported = λ none. refl;
        newest = λ held. absurd (cc held);
        ends = inl refl;
        heard = λ held. absurd (cc held);
        held = λ held. absurd (cc held);
      }

      go : (x : Task B) → t.task ≡ x → EndsFit p x (r ∷ rest) → Fits p (record { task = t.task; held = false; options = t.options }) [] rest true
      go (Alive b stage) is h = absurd (cc (h.0, end))
      go Gone is h = absurd (cc h)
      go (Dying w) is h = ⊎_elim (λ none. absurd (cc none)) (λ one. rw (is, tail_of rest (record { pid = p; stop = Ended w }) one) (ended w)) h

module _ {S B : Type 0} (P : Property B) (h : Host S B) (told : ℕ → Bool) (r : Report) (rest : List Report) (queue : h.queue ≡ r ∷ rest) (each : Each P h told) where
  own_queue : reports_of r.pid h.queue ≡ r ∷ reports_of r.pid rest
  own_queue = ap (reports_of r.pid) queue ∙ ap (λ b. cond b (r ∷ reports_of r.pid rest) (reports_of r.pid rest)) (is_same r.pid)

  other_queue : (i : ℕ) → r.pid ≢ i → reports_of i rest ≡ reports_of i h.queue
  other_queue i ne = sym (ap (reports_of i) queue ∙ ap (λ b. cond b (r ∷ reports_of i rest) (reports_of i rest)) (is_not_same i r.pid (λ e. ne (sym e))))

  abbrev let_off : Proc B
  let_off = record { task = (h.procs r.pid).task; held = false; options = (h.procs r.pid).options }

  -- what is shown of the process, before and after
  abbrev pub Before : Type 0
  Before = P r.pid (h.procs r.pid) (listings r.pid h.tracees) (r ∷ reports_of r.pid rest) (told r.pid)

  abbrev pub AfterStop : Type 0
  AfterStop = P r.pid (h.procs r.pid) (listings r.pid h.tracees) (reports_of r.pid rest) true

  abbrev pub AfterEnd : Type 0
  AfterEnd = P r.pid let_off [] (reports_of r.pid rest) true

  mine : Before
  mine = subst (λ x. P r.pid (h.procs r.pid) (listings r.pid h.tracees) x (told r.pid)) own_queue (each r.pid)

  taken_each : AfterStop → (i : ℕ) → P i (h.procs i) (listings i h.tracees) (reports_of i rest) (put told r.pid true i)
  taken_each after i = ⊎_elim
      (λ (e : r.pid ≡ i). subst (λ j. P j (h.procs j) (listings j h.tracees) (reports_of j rest) (put told r.pid true j)) e
      (holds_as P r.pid _ _ _ _ _ _ true _ refl refl refl (put_here told r.pid true) after))
      (λ (ne : r.pid ≢ i). holds_as P i _ _ _ _ (reports_of i h.queue) _ (told i) _ refl refl (other_queue i ne) (put_apart told r.pid true i ne) (each i))
      (same_or_not r.pid i)

  ended_each : AfterEnd → (i : ℕ) → P i (put h.procs r.pid let_off i) (listings i (filter (λ q. not (r.pid == q)) h.tracees)) (reports_of i rest) (put told r.pid true i)
  ended_each after i = ⊎_elim
      (λ (e : r.pid ≡ i). subst (λ j. P j (put h.procs r.pid let_off j) (listings j (filter (λ q. not (r.pid == q)) h.tracees)) (reports_of j rest) (put told r.pid true j)) e
      (holds_as P r.pid let_off _ [] _ (reports_of r.pid rest) _ true _ (put_here h.procs r.pid let_off) (own_left r.pid h.tracees) refl (put_here told r.pid true) after))
      (λ (ne : r.pid ≢ i). holds_as P i (h.procs i) _ (listings i h.tracees) _ (reports_of i h.queue) _ (told i) _ (put_apart h.procs r.pid let_off i ne) (other_left r.pid i h.tracees ne) (other_queue i ne) (put_apart told r.pid true i ne) (each i))
      (same_or_not r.pid i)

  pub took_each : (is_end r.stop ≡ false → Before → AfterStop) → (is_end r.stop ≡ true → Before → AfterEnd) → (stop : Stop) → r.stop ≡ stop → Each P (take_report h rest r.pid stop) (put told r.pid true)
  took_each stays ends (Syscall_stop good) is = taken_each (stays (ap is_end is) mine)
  took_each stays ends (Signal_stop signal) is = taken_each (stays (ap is_end is) mine)
  took_each stays ends (Group_stop signal) is = taken_each (stays (ap is_end is) mine)
  took_each stays ends (Event_stop event) is = taken_each (stays (ap is_end is) mine)
  took_each stays ends (Ended word) is = ended_each (ends (ap is_end is) mine)

module _ {S B : Type 0} (h : Host S B) (r : Report) (rest : List Report) where
  abbrev off : Proc B
  off = record { task = (h.procs r.pid).task; held = false; options = (h.procs r.pid).options }

  took_fresh : ((i : ℕ) → h.child ≤ i → (h.procs i).task ≡ Gone) → (stop : Stop) → (i : ℕ) → (take_report h rest r.pid stop).child ≤ i → ((take_report h rest r.pid stop).procs i).task ≡ Gone
  took_fresh fresh (Syscall_stop good) i le = fresh i le
  took_fresh fresh (Signal_stop signal) i le = fresh i le
  took_fresh fresh (Group_stop signal) i le = fresh i le
  took_fresh fresh (Event_stop event) i le = fresh i le
  took_fresh fresh (Ended word) i le = ⊎_elim
      (λ (e : r.pid ≡ i). ap (λ (t : Proc B). t.task) (ap (put h.procs r.pid off) (sym e) ∙ put_here h.procs r.pid off) ∙ ap (λ j. (h.procs j).task) e ∙ fresh i le)
      (λ (ne : r.pid ≢ i). ap (λ (t : Proc B). t.task) (put_apart h.procs r.pid off i ne) ∙ fresh i le)
      (same_or_not r.pid i)

-- Any request.

wait_keeps : {S B : Type 0} (h : Host S B) (told : ℕ → Bool) → AreStops (record { host = h; told = told }) → (queue : List Report) → h.queue ≡ queue → (tracees : List ℕ) →
    AreStops (record { host = (serve_wait h queue tracees).host; told = minds told Wait (serve_wait h queue tracees).reply })
wait_keeps h told all [] is [] = all
wait_keeps h told all [] is (q ∷ qs) = all
wait_keeps h told all (r ∷ rest) is qs = record {
  each = took_each Fits h told r rest is all.each
      (λ other fits. stop_taken r.pid (h.procs r.pid) (listings r.pid h.tracees) r (reports_of r.pid rest) (told r.pid) fits other)
      (λ end fits. end_taken r.pid (h.procs r.pid) (listings r.pid h.tracees) r (reports_of r.pid rest) (told r.pid) fits end)
      r.stop refl;
  fresh = took_fresh h r rest all.fresh r.stop;
}

pub requests_keep_stops : {S B : Type 0} → RequestsKeepStops S B
requests_keep_stops m outcome w (Boot_with boot limit words) all = all
requests_keep_stops m outcome w Wait all = wait_keeps w.host w.told all w.host.queue refl w.host.tracees
requests_keep_stops m outcome w (To p q) all = record {
  each = answered_each Fits w.host w.told p q (answer m (w.host.messages p) (w.host.procs p) q) all.each
      (answer_left m p (w.host.messages p) (listings p w.host.tracees) (reports_of p w.host.queue) (w.told p) (w.host.procs p) (w.host.procs p).held (w.host.procs p).options (w.host.procs p).task q refl (all.each p));
  fresh = λ i le. to_fresh m w.host p q i (all.fresh i le);
}
requests_keep_stops m outcome w Ask_outcome all = all
