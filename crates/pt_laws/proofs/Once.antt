-- A polite client is told of each stop once, while its process is held there.
use Rattle.std.proofs.Common.{◌≡◌, ◌≢◌, ℕ, suc, ◌≤◌, Bool, true, false, cond, ◌&&◌, List, [], ◌∷◌, ◌++◌, Option, Some, None, refl, sym, ap, subst, ◌∙◌, arith}
use Rattle.std.specs.Prelude.{◌==◌}
use Rattle.lx_abi.specs.declared.outcome.Outcome.{Outcome}
use Rattle.lx_abi.specs.declared.ptrace.Ask.{Ask}
use Rattle.lx_abi.specs.declared.ptrace.Ask.TheVariants.{Seize, SetOptions, GetRegs, SetRegs, Peek, Syscall, EventMsg, SigInfo, Listen}
use Rattle.lx_abi.specs.declared.ptrace.Reply.{Reply}
use Rattle.lx_abi.specs.declared.ptrace.Request.TheVariants.{Boot as Boot_with, Wait, To, Outcome as Ask_outcome}
use Rattle.lx_abi.specs.declared.ptrace.TraceOptions.{TraceOptions}
use Rattle.lx_abi.specs.declared.status.EventStop.TheVariants.{Stop as At_start}
use Rattle.lx_abi.specs.declared.status.Stop.{Stop}
use Rattle.lx_abi.specs.declared.status.Stop.TheVariants.{Syscall as Syscall_stop, Signal as Signal_stop, Group as Group_stop, Event as Event_stop, Ended}
use Rattle.lx_abi.specs.Log.{Noted}
use Rattle.lx_abi.specs.Options.{trace_options}
use Rattle.lx_abi.specs.Scripts.{no_choice}
use Rattle.lx_model.specs.Machine.{Machine}
use Rattle.lx_model.specs.Rows.{row}
use Rattle.lx_model.specs.Kernel.{put}
use Rattle.lx_model.specs.Turn.{Out, killed_or, turn}
use Rattle.lx_model.specs.declared.event.PtraceEvent.{PtraceEvent}
use Rattle.lx_model.specs.declared.event.PtraceEvent.TheVariants.{Plain, Execed, Forked}
use Rattle.lx_model.specs.declared.stage.Stage.{Stage}
use Rattle.lx_model.specs.declared.stage.Task.{Task}
use Rattle.lx_model.specs.declared.stage.Task.TheVariants.{Alive, Dying, Gone}
use Rattle.pt_model.specs.declared.ptrace.Report.{Report}
use Rattle.pt_model.specs.Laws.{is_alive}
use Rattle.pt_model.specs.Ptrace.{Proc, Host, stop_at, is_there, reports_of as stops_of, may_die, is_effective, proc_after, moved, newborn, inherits, bears, host_turn_of}
use Rattle.pt_model.specs.Requests.{Answered, says, goes_from, set_options, stopped, seize, unseized, answer_at, answer, take_report, serve_wait, esrch}
use Rattle.pt_model.proofs.Maps.{is_same, put_apart}
use Rattle.pt_laws.specs.Stops.{is_tracee, is_to_tell, listings, reports_of, is_end, EndsFit, Fits, Watched, lets_go, is_agreed, minds, AreStops, Deed, Turns, Asks, done, all_done}
use Rattle.pt_laws.specs.Polite.{AtMostOne, IsOnce, AreOnce, TurnsKeepOnce, RequestsKeepOnce, IsPoliteDeed, ArePolite, first_watched, StopsAreToldOnce}
use Rattle.pt_laws.proofs.Turning.{Property, Each, with_stop, moved_each, born_proc, born_reports, newborn_each, nowhere_listed, nowhere_reported, turned_fits, now_fresh}
use Rattle.pt_laws.proofs.Asking.{Leaves, answered_each, took_each}
use Rattle.pt_laws.proofs.Stops.{done_keeps, first_stops}

abbrev Once : {B : Type 0} → Property B
Once p t listed reports told = IsOnce t reports told

-- A turn.

none_left : (reports : List Report) → AtMostOne false reports → reports ≡ []
none_left [] h = refl
none_left (r ∷ []) h = absurd (cc h)
none_left (r ∷ s ∷ rest) h = absurd h

one_stop : (p : ℕ) (s : Option Stop) → AtMostOne (is_there s) (stops_of p s)
one_stop p None = tt
one_stop p (Some stop) = refl

-- after a turn of who had no report
free_once : {B : Type 0} (p : ℕ) (told : Bool) (w : Option TraceOptions) (x : Task B) (i : Option Noted) (e : PtraceEvent B) → (told ≡ true → is_alive x ≡ true → ⊥) → IsOnce (proc_after w x i e) (with_stop p w x i e []) told
free_once {B = B} p told w x i e never = record { one = one x; still = λ was lives. absurd (never was lives) }
  where
    one : (x : Task B) → AtMostOne (is_there (stop_at w x i e)) (with_stop p w x i e [])
    one (Alive b stage) = one_stop p (stop_at w (Alive b stage) i e)
    one (Dying word) = one_stop p (stop_at w (Dying word) i e)
    one Gone = one_stop p (stop_at w Gone i e)

module _ {S B : Type 0} (m : Machine S B) (s : S) (child p : ℕ) (told : Bool) where
  abbrev own : Task B → Out S B
  own x = turn m no_choice s child p x

  abbrev After : Option TraceOptions → Out S B → List Report → Type 0
  After w o reports = IsOnce (proc_after w o.task o.item o.event) (with_stop p w o.task o.item o.event reports) told

  -- who isn't held, and was told of, doesn't live
  not_told : (x : Task B) (w : Option TraceOptions) (reports : List Report) → IsOnce (record { task = x; held = false; options = w }) reports told → told ≡ true → is_alive (own x).task ≡ true → ⊥
  not_told (Alive b stage) w reports once was lives = let held = (once.still was refl).held in cc held
  not_told (Dying word) w reports once was lives = cc lives
  not_told Gone w reports once was lives = cc lives

  own_once : (x : Task B) (held : Bool) (w : Option TraceOptions) (reports : List Report) → IsOnce (record { task = x; held = held; options = w }) reports told → cond held (may_die m s p w x) true ≡ true → After w (own x) reports
  own_once x false w reports once going =
      subst (λ r. After w (own x) r) (sym (none_left reports once.one)) (free_once p told w (own x).task (own x).item (own x).event (not_told x w reports once))
  own_once x true None reports once going = absurd (cc going)
  own_once (Alive b stage) true (Some w) reports once killed =
      subst (λ k. After (Some w) (killed_or k m no_choice s child p b stage) reports) (sym killed) (record { one = refl; still = λ was lives. absurd (cc lives) })
  own_once (Dying word) true (Some w) reports once going = absurd (cc going)
  own_once Gone true (Some w) reports once going = absurd (cc going)

born_once : {B : Type 0} (p : ℕ) (b : B) (w : Option TraceOptions) (told : Bool) → told ≡ false → IsOnce (born_proc b w) (born_reports p w) told
born_once p b None told none = record { one = tt; still = λ was lives. absurd (cc (none, was)) }
born_once p b (Some w) told none = record { one = refl; still = λ was lives. absurd (cc (none, was)) }

module _ {S B : Type 0} (m : Machine S B) (h : Host S B) (told : ℕ → Bool) (p : ℕ) (all : AreStops (record { host = h; told = told })) (once : AreOnce (record { host = h; told = told })) where
  abbrev o : Out S B
  o = host_turn_of m h p

  abbrev now : Host S B
  now = moved h p (h.procs p).options o

  abbrev OnceIn : Property B
  OnceIn = Once {B = B}

  turned_once : is_effective m h.shared p (h.procs p) ≡ true → Each OnceIn now told
  turned_once going = moved_each OnceIn h told p o once.each
      (own_once m h.shared h.child p (told p) (h.procs p).task (h.procs p).held (h.procs p).options (reports_of p h.queue) (once.each p) going)

  newborn_child : (b : B) (w : Option TraceOptions) → (newborn now b w).child ≡ suc h.child
  newborn_child b None = refl
  newborn_child b (Some x) = refl

  event_once : is_effective m h.shared p (h.procs p) ≡ true → (e : PtraceEvent B) → AreOnce (record { host = bears now (h.procs p).options e; told = told })
  event_once going Plain = record { each = turned_once going; fresh = once.fresh }
  event_once going Execed = record { each = turned_once going; fresh = once.fresh }
  event_once going (Forked b) = record {
    each =
        let fits : Fits h.child (now.procs h.child) (listings h.child now.tracees) (reports_of h.child now.queue) (told h.child) = turned_fits m h told p all going h.child in
        let gone : (now.procs h.child).task ≡ Gone = now_fresh m h told p all h.child (omega arith) in
        newborn_each OnceIn now told b (turned_once going) (nowhere_listed h.child _ _ _ (told h.child) fits gone) (nowhere_reported h.child _ _ _ (told h.child) fits gone) (inherits (h.procs p).options)
        (born_once h.child b (inherits (h.procs p).options) (told h.child) (once.fresh h.child (omega arith)));
    fresh = λ q le. let later : suc h.child ≤ q = subst (λ n. n ≤ q) (newborn_child b (inherits (h.procs p).options)) le in once.fresh q (omega (arith, later));
  }

pub turns_keep_once : {S B : Type 0} → TurnsKeepOnce S B
turns_keep_once {S} {B} m w p all once = go (is_effective m w.host.shared p (w.host.procs p)) refl
  where
    o : Out S B
    o = host_turn_of m w.host p

    go : (t : Bool) → is_effective m w.host.shared p (w.host.procs p) ≡ t → AreOnce (record { host = cond t (bears (moved w.host p (w.host.procs p).options (host_turn_of m w.host p)) (w.host.procs p).options (host_turn_of m w.host p).event) w.host; told = w.told })
    go true going = event_once m w.host w.told p all once going (host_turn_of m w.host p).event
    go false still = once

-- A request to one process.

module _ {S B : Type 0} (m : Machine S B) (p : ℕ) (message : ℕ) (listed : List ℕ) (reports : List Report) (told : Bool) where
  abbrev Left : Ask → Answered B → Type 0
  Left q a = Leaves (Once {B = B}) p listed reports told q a

  same_once : (t : Proc B) (q : Ask) (r : Reply) → is_agreed (Some r) ≡ false → IsOnce t reports told → Left q (says t r)
  same_once t q r other once = subst (λ b. IsOnce t reports (cond b false told)) (sym (ap (λ b. lets_go q && b) other ∙ neither (lets_go q))) once
    where
      neither : (b : Bool) → (b && false) ≡ false
      neither true = refl
      neither false = refl

  module _ (b : B) (stage : Stage) (w : TraceOptions) where
    abbrev it : Proc B
    it = record { task = Alive b stage; held = true; options = Some w }

    module _ (once : IsOnce it reports told) where
      options_once : (options : ℕ) (x : Option TraceOptions) → Left (SetOptions options) (set_options it x)
      options_once options None = once
      options_once options (Some y) = record { one = once.one; still = λ was lives. record { held = refl; traced = refl; told = (once.still was refl).told } }

      -- it was told of, so no report of it is left
      goes_once : (q : Ask) → lets_go q ≡ true → told ≡ true → (x : Option Stage) → Left q (goes_from it b x)
      goes_once q going was None = subst (λ t. IsOnce it reports (cond (t && false) false told)) (sym going) once
      goes_once q going was (Some next) =
          subst (λ t. IsOnce (record { task = Alive b next; held = false; options = Some w }) reports (cond (t && true) false told)) (sym going)
          (subst (λ r. IsOnce (record { task = Alive b next; held = false; options = Some w }) r false) (sym (once.still was refl).told) (record { one = tt; still = λ no lives. absurd (cc no) }))

      stopped_once : (q : Ask) → (lets_go q ≡ true → told ≡ true) → Left q (stopped m it b stage message q)
      stopped_once (Seize options) polite = once
      stopped_once (SetOptions options) polite = options_once options (trace_options options)
      stopped_once GetRegs polite = once
      stopped_once (SetRegs r) polite = record { one = once.one; still = λ was lives. record { held = refl; traced = refl; told = (once.still was refl).told } }
      stopped_once (Peek address length) polite = once
      stopped_once (Syscall n) polite = goes_once (Syscall n) refl (polite refl) ((row stage).resume n)
      stopped_once EventMsg polite = once
      stopped_once SigInfo polite = once
      stopped_once Listen polite = goes_once Listen refl (polite refl) (row stage).listen

  -- process 1 before it is seized: nothing was told of it
  module _ (x : Task B) (fits : Fits p (record { task = x; held = true; options = None }) listed reports told) (once : IsOnce (record { task = x; held = true; options = None }) reports told) where
    abbrev first : Proc B
    first = record { task = x; held = true; options = None }

    not_yet : told ≡ true → ⊥
    not_yet was =
        let alive : is_alive x ≡ true = ap is_alive (fits.held refl refl).2.1 in
        let traced = (once.still was alive).traced in cc traced

    seizes_once : (options : ℕ) (w : Option TraceOptions) → Left (Seize options) (seize first w)
    seizes_once options None = once
    seizes_once options (Some w) = subst (λ r. IsOnce (record { task = x; held = true; options = Some w }) (r ++ record { pid = p; stop = Event_stop At_start } ∷ []) told) (sym (fits.reported refl)) (record { one = refl; still = λ was lives. absurd (not_yet was) })

    unseized_once : (q : Ask) → Left q (unseized first q)
    unseized_once (Seize options) = seizes_once options (trace_options options)
    unseized_once (SetOptions options) = once
    unseized_once GetRegs = once
    unseized_once (SetRegs r) = once
    unseized_once (Peek address length) = once
    unseized_once (Syscall n) = once
    unseized_once EventMsg = once
    unseized_once SigInfo = once
    unseized_once Listen = once

  answer_once : (t : Proc B) (held : Bool) (w : Option TraceOptions) (x : Task B) (q : Ask) → t ≡ record { task = x; held = held; options = w } → (lets_go q ≡ true → told ≡ true) → Fits p t listed reports told → IsOnce t reports told → Left q (answer_at m message t held w x q)
  answer_once t true (Some w) (Alive b stage) q is polite fits once =
      subst (λ u. Left q (answer_at m message u true (Some w) (Alive b stage) q)) (sym is) (stopped_once b stage w (subst (λ u. IsOnce u reports told) is once) q polite)
  answer_once t true (Some w) (Dying word) q is polite fits once = same_once t q esrch refl once
  answer_once t true (Some w) Gone q is polite fits once = same_once t q esrch refl once
  answer_once t true None x q is polite fits once =
      subst (λ u. Left q (answer_at m message u true None x q)) (sym is)
      (unseized_once x (subst (λ u. Fits p u listed reports told) is fits) (subst (λ u. IsOnce u reports told) is once) q)
  answer_once t false w x q is polite fits once = same_once t q esrch refl once

-- Wait.

module _ {B : Type 0} (p : ℕ) (t : Proc B) (listed : List ℕ) (r : Report) (rest : List Report) (told : Bool) (fits : Fits p t listed (r ∷ rest) told) (once : IsOnce t (r ∷ rest) told) where
  one_only : (rest : List Report) → AtMostOne t.held (r ∷ rest) → (t.held ≡ true) × (rest ≡ [])
  one_only [] h = (h, refl)
  one_only (s ∷ rest) h = absurd h

  traced : is_there t.options ≡ true
  traced = go (is_tracee t) refl
    where
      left : (a b : Bool) → (a && b) ≡ true → a ≡ true
      left true b h = refl
      left false b h = absurd (cc h)

      go : (b : Bool) → is_tracee t ≡ b → is_there t.options ≡ true
      go true is = left (is_there t.options) (is_to_tell t.task t.held) is
      go false is = let none = fits.reported is in absurd (cc none)

  taken_once : IsOnce t rest true
  taken_once = let it = one_only rest once.one in
      subst (λ r. IsOnce t r true) (sym it.1) (record { one = tt; still = λ was lives. record { held = it.0; traced = traced; told = refl } })

  ended_once : (is_alive t.task ≡ true → ⊥) → IsOnce (record { task = t.task; held = false; options = t.options }) rest true
  ended_once dead = let it = one_only rest once.one in
      subst (λ r. IsOnce (record { task = t.task; held = false; options = t.options }) r true) (sym it.1) (record { one = tt; still = λ was lives. absurd (dead lives) })

-- an end is told of who is dying
end_dead : {B : Type 0} (p : ℕ) (t : Proc B) (listed : List ℕ) (r : Report) (rest : List Report) (told : Bool) → Fits p t listed (r ∷ rest) told → is_end r.stop ≡ true → is_alive t.task ≡ true → ⊥
end_dead {B = B} p t listed r rest told fits end lives = go t.task refl
  where
    go : (x : Task B) → t.task ≡ x → ⊥
    go (Alive b stage) is = let ends : EndsFit p (Alive b stage) (r ∷ rest) = subst (λ y. EndsFit p y (r ∷ rest)) is fits.ends in cc (ends.0, end)
    go (Dying w) is = cc (ap is_alive is, lives)
    go Gone is = cc (ap is_alive is, lives)

module _ {S B : Type 0} (h : Host S B) (told : ℕ → Bool) (all : AreStops (record { host = h; told = told })) (once : AreOnce (record { host = h; told = told })) where
  abbrev OnceOf : Property B
  OnceOf = Once {B = B}

  mine : (r : Report) (rest : List Report) → h.queue ≡ r ∷ rest → reports_of r.pid h.queue ≡ r ∷ reports_of r.pid rest
  mine r rest is = ap (reports_of r.pid) is ∙ ap (λ b. cond b (r ∷ reports_of r.pid rest) (reports_of r.pid rest)) (is_same r.pid)

  fits_of : (r : Report) (rest : List Report) → h.queue ≡ r ∷ rest → Fits r.pid (h.procs r.pid) (listings r.pid h.tracees) (r ∷ reports_of r.pid rest) (told r.pid)
  fits_of r rest is = subst (λ x. Fits r.pid (h.procs r.pid) (listings r.pid h.tracees) x (told r.pid)) (mine r rest is) (all.each r.pid)

  -- who has a report is there
  there : (r : Report) (rest : List Report) → h.queue ≡ r ∷ rest → (q : ℕ) → h.child ≤ q → r.pid ≢ q
  there r rest is q le same =
      let none : reports_of r.pid h.queue ≡ [] = nowhere_reported r.pid (h.procs r.pid) (listings r.pid h.tracees) (reports_of r.pid h.queue) (told r.pid) (all.each r.pid) (ap (λ i. (h.procs i).task) same ∙ all.fresh q le) in
      let some : reports_of r.pid h.queue ≡ r ∷ reports_of r.pid rest = mine r rest is in
      cc (none, some)

  child : (rest : List Report) (p : ℕ) (stop : Stop) → (take_report h rest p stop).child ≡ h.child
  child rest p (Syscall_stop good) = refl
  child rest p (Signal_stop signal) = refl
  child rest p (Group_stop signal) = refl
  child rest p (Event_stop event) = refl
  child rest p (Ended word) = refl

  wait_once : (queue : List Report) → h.queue ≡ queue → (tracees : List ℕ) → AreOnce (record { host = (serve_wait h queue tracees).host; told = minds told Wait (serve_wait h queue tracees).reply })
  wait_once [] is [] = once
  wait_once [] is (q ∷ qs) = once
  wait_once (r ∷ rest) is qs = record {
    each = took_each OnceOf h told r rest is once.each
        (λ other it. taken_once r.pid (h.procs r.pid) (listings r.pid h.tracees) r (reports_of r.pid rest) (told r.pid) (fits_of r rest is) it)
        (λ end it. ended_once r.pid (h.procs r.pid) (listings r.pid h.tracees) r (reports_of r.pid rest) (told r.pid) (fits_of r rest is) it
        (end_dead r.pid (h.procs r.pid) (listings r.pid h.tracees) r (reports_of r.pid rest) (told r.pid) (fits_of r rest is) end))
        r.stop refl;
    fresh = λ q le. let above : h.child ≤ q = subst (λ n. n ≤ q) (child rest r.pid r.stop) le in put_apart told r.pid true q (there r rest is q above) ∙ once.fresh q above;
  }

-- whom the client lets go is there
told_fresh : (told : ℕ → Bool) (p i : ℕ) (b : Bool) → told i ≡ false → cond b (put told p false) told i ≡ false
told_fresh told p i true none = go (p == i)
  where
    go : (c : Bool) → cond c false (told i) ≡ false
    go true = refl
    go false = none
told_fresh told p i false none = none

pub requests_keep_once : {S B : Type 0} → RequestsKeepOnce S B
requests_keep_once m outcome w (Boot_with boot limit words) polite all once = once
requests_keep_once m outcome w Wait polite all once = wait_once w.host w.told all once w.host.queue refl w.host.tracees
requests_keep_once m outcome w (To p q) polite all once = record {
  each = answered_each Once w.host w.told p q (answer m (w.host.messages p) (w.host.procs p) q) once.each
      (answer_once m p (w.host.messages p) (listings p w.host.tracees) (reports_of p w.host.queue) (w.told p) (w.host.procs p) (w.host.procs p).held (w.host.procs p).options (w.host.procs p).task q refl polite (all.each p) (once.each p));
  fresh = λ i le. told_fresh w.told p i (lets_go q && is_agreed (Some (answer m (w.host.messages p) (w.host.procs p) q).reply)) (once.fresh i le);
}
requests_keep_once m outcome w Ask_outcome polite all once = once

-- From the first on.

pub first_once : {S B : Type 0} (s : S) (b : B) → AreOnce (first_watched s b)
first_once s b = record { each = λ p. record { one = tt; still = λ was lives. absurd (cc was) }; fresh = λ p le. refl }

done_once : {S B : Type 0} (m : Machine S B) (outcome : S → Outcome) (w : Watched S B) (d : Deed) → IsPoliteDeed w.told d → AreStops w → AreOnce w → AreOnce (done m outcome w d)
done_once m outcome w (Turns p) polite all once = turns_keep_once m w p all once
done_once m outcome w (Asks q) polite all once = requests_keep_once m outcome w q polite all once

deeds_once : {S B : Type 0} (m : Machine S B) (outcome : S → Outcome) (w : Watched S B) (ds : List Deed) → ArePolite m outcome w ds → AreStops w → AreOnce w → AreOnce (all_done m outcome w ds)
deeds_once m outcome w [] polite all once = once
deeds_once m outcome w (d ∷ ds) polite all once = deeds_once m outcome (done m outcome w d) ds polite.1 (done_keeps m outcome w d all) (done_once m outcome w d polite.0 all once)

pub stops_are_told_once : {S B : Type 0} → StopsAreToldOnce S B
stops_are_told_once m outcome s b deeds polite = deeds_once m outcome (first_watched s b) deeds polite (first_stops s b) (first_once s b)
