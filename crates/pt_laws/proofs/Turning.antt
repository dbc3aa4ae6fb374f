-- A turn keeps what is listed, reported and told.
use Rattle.std.proofs.Common.{◌≡◌, ◌≢◌, ⊎_elim, ℕ, suc, ◌≤◌, inl, inr, Bool, true, false, cond, ◌&&◌, List, [], ◌∷◌, ◌++◌, append-nil, Option, Some, None, refl, sym, ap, subst, ◌∙◌, arith}
use Rattle.lx_abi.specs.declared.log.Call.{Call}
use Rattle.lx_abi.specs.declared.log.Cause.{Cause}
use Rattle.lx_abi.specs.declared.script.Choice.{Choice}
use Rattle.lx_abi.specs.declared.signal.Signal.{Signal}
use Rattle.lx_abi.specs.declared.status.EventStop.TheVariants.{Fork as At_fork, Exec as At_exec, Stop as At_start}
use Rattle.lx_abi.specs.declared.status.Stop.{Stop}
use Rattle.lx_abi.specs.declared.status.Stop.TheVariants.{Group as Group_stop, Event as Event_stop, Ended}
use Rattle.lx_abi.specs.declared.ptrace.TraceOptions.{TraceOptions}
use Rattle.lx_abi.specs.Log.{Noted}
use Rattle.lx_abi.specs.Scripts.{no_choice}
use Rattle.lx_model.specs.Machine.{Machine, Ran, Goes, Calls, Faults, Takes, Answer, Refused, Returns, Jumps, Execs, Bears, Blocks, Ends, Took, Passes, Stops, Kills}
use Rattle.lx_model.specs.Rows.{row}
use Rattle.lx_model.specs.declared.event.PtraceEvent.{PtraceEvent}
use Rattle.lx_model.specs.declared.event.PtraceEvent.TheVariants.{Plain, Execed, Forked}
use Rattle.lx_model.specs.Turn.{Out, stepped, answered, halts, took, wakes, lives, killed_or, turn}
use Rattle.lx_model.specs.declared.stage.Stage.{Stage}
use Rattle.lx_model.specs.declared.stage.Stage.TheVariants.{Born, Run, Faulting, Entered, Doing, Replaced, Acted, Finished, Taken, Dropped, Stopped, Released, Woken}
use Rattle.lx_model.specs.declared.stage.Task.{Task}
use Rattle.lx_model.specs.declared.stage.Task.TheVariants.{Alive, Dying, Gone}
use Rattle.lx_model.specs.Kernel.{put}
use Rattle.pt_model.specs.declared.ptrace.Report.{Report}
use Rattle.pt_model.specs.Ptrace.{Proc, Host, without, event_stop, tracee_stop, stop_at, is_dying, is_there, reports_of as stops_of, may_die, is_effective, proc_after, moved, newborn, inherits, bears, host_turn_of}
use Rattle.pt_model.proofs.Maps.{same_or_not, put_here, put_apart}
use Rattle.pt_laws.specs.Stops.{StopAt, is_to_tell, is_tracee, listings, reports_of, is_end, NoEnds, EndsFit, Fits, AreStops, TurnsKeepStops}
use Rattle.pt_laws.proofs.Lists.{own_without, other_without, own_stops, other_stops, reports-append, listings-append, own_listing, other_listing, last_stands, no_ends-append, some_last}

-- A process that lives is dying after its turn, or lives; and nobody else bears a child.

abbrev pub is_gone : {B : Type 0} → Task B → Bool
is_gone (Alive b stage) = false
is_gone (Dying w) = false
is_gone Gone = true

module _ {S B : Type 0} (m : Machine S B) (s : S) (child p : ℕ) where
  abbrev Stays : Out S B → Type 0
  Stays o = is_gone o.task ≡ false

  stepped_stays : (b : B) (r : Ran S B) → Stays (stepped m s p b r)
  stepped_stays b (Goes c) = refl
  stepped_stays b Calls = refl
  stepped_stays b (Faults n cause) = refl
  stepped_stays b (Takes t n cause) = refl

  answered_stays : (b : B) (c : Call) (a : Answer S B) → Stays (answered m s child p b c a)
  answered_stays b c (Refused e) = refl
  answered_stays b c (Returns t d x) = refl
  answered_stays b c (Jumps t d) = refl
  answered_stays b c (Execs t d) = refl
  answered_stays b c (Bears t d born) = refl
  answered_stays b c Blocks = refl
  answered_stays b c (Ends w) = refl

  halts_stays : (continued : Bool) (b : B) (n : Signal) → Stays (halts continued m s p b n)
  halts_stays true b n = refl
  halts_stays false b n = refl

  wakes_stays : (continued : Bool) (b : B) (n : Signal) → Stays (wakes continued m s p b n)
  wakes_stays true b n = refl
  wakes_stays false b n = refl

  took_stays : (b : B) (n : Signal) (cause : Cause) (t : Took S B) → Stays (took m s p b n cause t)
  took_stays b n cause (Passes t c) = refl
  took_stays b n cause Stops = halts_stays (m.continued s p) b n
  took_stays b n cause (Kills w) = refl

  lives_stays : (c : Choice) (b : B) (stage : Stage) → Stays (lives m c s child p b stage)
  lives_stays c b Born = refl
  lives_stays c b Run = stepped_stays b (m.step s p b)
  lives_stays c b (Faulting n cause) = refl
  lives_stays c b (Entered joined) = refl
  lives_stays c b (Doing call) = answered_stays b call (m.call s child p call b)
  lives_stays c b (Replaced call x) = refl
  lives_stays c b (Acted call x replaced) = refl
  lives_stays c b Finished = refl
  lives_stays c b (Taken n cause) = took_stays b n cause (m.take s p n cause b)
  lives_stays c b Dropped = refl
  lives_stays c b (Stopped n) = wakes_stays (m.continued s p) b n
  lives_stays c b Released = refl
  lives_stays c b Woken = refl

  killed_stays : (killed : Bool) (c : Choice) (b : B) (stage : Stage) → Stays (killed_or killed m c s child p b stage)
  killed_stays true c b stage = refl
  killed_stays false c b stage = lives_stays c b stage

  pub alive_stays : (c : Choice) (b : B) (stage : Stage) → Stays (turn m c s child p (Alive b stage))
  alive_stays c b stage = killed_stays (m.killed s p) c b stage

  pub forks_alive : (c : Choice) (x : Task B) (born : B) → (turn m c s child p x).event ≡ Forked born → is_gone x ≡ false
  forks_alive c (Alive b stage) born h = refl
  forks_alive c (Dying w) born h = refl
  forks_alive c Gone born h = absurd (cc h)

-- The stop of a turn is one of where its process stands now.

event_at : {B : Type 0} (w : TraceOptions) (e : PtraceEvent B) (stop : Stop) (b : B) (call : Call) (x : ℕ) (replaced : Bool) → event_stop w e ≡ Some stop → StopAt (Acted call x replaced) stop
event_at w Plain stop b call x replaced h = absurd (cc h)
event_at w Execed stop b call x replaced h = go w.execs h
  where
    go : (t : Bool) → cond t (Some (Event_stop At_exec)) None ≡ Some stop → StopAt (Acted call x replaced) stop
    go true h = inr (cc h)
    go false h = absurd (cc h)
event_at w (Forked born) stop b call x replaced h = go w.forks h
  where
    go : (t : Bool) → cond t (Some (Event_stop At_fork)) None ≡ Some stop → StopAt (Acted call x replaced) stop
    go true h = inl (cc h)
    go false h = absurd (cc h)

once_at : (signal : Signal) (logged : Bool) (stop : Stop) → cond logged (Some (Group_stop signal)) None ≡ Some stop → stop ≡ Group_stop signal
once_at signal true stop h = cc h
once_at signal false stop h = absurd (cc h)

alive_at : {B : Type 0} (w : TraceOptions) (b : B) (stage : Stage) (i : Option Noted) (e : PtraceEvent B) (stop : Stop) → (row stage).stop w.good (event_stop w e) (is_there i) ≡ Some stop → StopAt stage stop
alive_at w b Born i e stop h = absurd (cc h)
alive_at w b Run i e stop h = absurd (cc h)
alive_at w b (Faulting signal cause) i e stop h = absurd (cc h)
alive_at w b (Entered joined) i e stop h = (w.good, cc h)
alive_at w b (Doing call) i e stop h = absurd (cc h)
alive_at w b (Replaced call x) i e stop h = absurd (cc h)
alive_at w b (Acted call x replaced) i e stop h = event_at w e stop b call x replaced h
alive_at w b Finished i e stop h = (w.good, cc h)
alive_at w b (Taken signal cause) i e stop h = cc h
alive_at w b Dropped i e stop h = absurd (cc h)
alive_at w b (Stopped signal) i e stop h = once_at signal (is_there i) stop h
alive_at w b Released i e stop h = absurd (cc h)
alive_at w b Woken i e stop h = cc h

no_end : (stage : Stage) (stop : Stop) → StopAt stage stop → is_end stop ≡ false
no_end Born stop h = ap is_end h
no_end Run stop h = absurd h
no_end (Faulting signal cause) stop h = absurd h
no_end (Entered joined) stop h = ap is_end h.1
no_end (Doing call) stop h = absurd h
no_end (Replaced call x) stop h = absurd h
no_end (Acted call x replaced) stop h = ⊎_elim (λ is. ap is_end is) (λ is. ap is_end is) h
no_end Finished stop h = ap is_end h.1
no_end (Taken signal cause) stop h = ap is_end h
no_end Dropped stop h = absurd h
no_end (Stopped signal) stop h = ap is_end h
no_end Released stop h = absurd h
no_end Woken stop h = ap is_end h

-- The process whose turn it was.

-- its reports, and the one more
abbrev pub with_stop : {B : Type 0} → ℕ → Option TraceOptions → Task B → Option Noted → PtraceEvent B → List Report → List Report
with_stop p w x i e old = cond (is_dying x) [] old ++ stops_of p (stop_at w x i e)

untraced_fits : {B : Type 0} (p : ℕ) (told : Bool) (x : Task B) (i : Option Noted) (e : PtraceEvent B) → Fits p (proc_after None x i e) [] (with_stop p None x i e []) told
untraced_fits {B = B} p told x i e = record {
  once = refl;
  reported = λ h. none x;
  newest = λ h. absurd (cc h);
  ends = ends x;
  heard = λ h. absurd (cc h);
  held = λ h. absurd (cc h);
}
  where
    none : (x : Task B) → with_stop p None x i e [] ≡ []
    none (Alive b stage) = refl
    none (Dying w) = refl
    none Gone = refl

    ends : (x : Task B) → EndsFit p x (with_stop p None x i e [])
    ends (Alive b stage) = tt
    ends (Dying w) = inl refl
    ends Gone = refl

-- a tracee that lives on, in a stop or not
module _ {B : Type 0} (p : ℕ) (told : Bool) (w : TraceOptions) (old : List Report) (clean : NoEnds old) (b : B) (stage : Stage) where
  alive_fits : (s : Option Stop) → ((stop : Stop) → s ≡ Some stop → StopAt stage stop) → Fits p (record { task = Alive b stage; held = is_there s; options = Some w }) (p ∷ []) (old ++ stops_of p s) told
  alive_fits None stands = record {
    once = refl;
    reported = λ h. absurd (cc h);
    newest = λ h. absurd (cc h);
    ends = subst NoEnds (sym (append-nil old)) clean;
    heard = λ h. absurd (cc h);
    held = λ h. absurd (cc h);
  }
  alive_fits (Some stop) stands = record {
    once = refl;
    reported = λ h. absurd (cc h);
    newest = λ h. last_stands (Alive b stage) old (record { pid = p; stop = stop }) (stands stop refl);
    ends = no_ends-append old (record { pid = p; stop = stop }) clean (no_end stage stop (stands stop refl));
    heard = λ h tracee none. absurd (some_last old (record { pid = p; stop = stop }) none);
    held = λ h none. absurd (cc none);
  }

dying_fits : {B : Type 0} (p : ℕ) (told : Bool) (w : TraceOptions) (word : ℕ) → Fits {B = B} p (record { task = Dying word; held = true; options = Some w }) (p ∷ []) (record { pid = p; stop = Ended word } ∷ []) told
dying_fits p told w word = record {
  once = refl;
  reported = λ h. absurd (cc h);
  newest = λ h. refl;
  ends = inr refl;
  heard = λ h tracee none. absurd (cc none);
  held = λ h none. absurd (cc none);
}

gone_fits : {B : Type 0} (p : ℕ) (told : Bool) (w : Option TraceOptions) → Fits {B = B} p (record { task = Gone; held = false; options = w }) [] [] told
gone_fits p told w = record {
  once = either w;
  reported = λ h. refl;
  newest = λ h. absurd (cc h);
  ends = refl;
  heard = λ h. absurd (cc h);
  held = λ h. absurd (cc h);
}
  where
    either : (w : Option TraceOptions) → [] ≡ cond (is_there w && false) (p ∷ []) []
    either None = refl
    either (Some w) = refl

module _ {S B : Type 0} (m : Machine S B) (s : S) (child p : ℕ) (told : Bool) where
  abbrev own : Task B → Out S B
  own x = turn m no_choice s child p x

  -- what is listed and reported of it, and its own part, after its turn
  abbrev After : Option TraceOptions → Out S B → List ℕ → List Report → Type 0
  After w o listed reports = Fits p (proc_after w o.task o.item o.event) listed (with_stop p w o.task o.item o.event reports) told

  lived : (w : TraceOptions) (o : Out S B) (x : Task B) → o.task ≡ x → is_gone x ≡ false → (reports : List Report) → NoEnds reports → After (Some w) o (p ∷ []) reports
  lived w o (Alive b stage) is here reports clean =
      subst (λ x. Fits p (proc_after (Some w) x o.item o.event) (p ∷ []) (with_stop p (Some w) x o.item o.event reports) told) (sym is)
      (alive_fits p told w reports clean b stage (tracee_stop w (Alive b stage) o.item o.event) (λ stop at. alive_at w b stage o.item o.event stop at))
  lived w o (Dying word) is here reports clean =
      subst (λ x. Fits p (proc_after (Some w) x o.item o.event) (p ∷ []) (with_stop p (Some w) x o.item o.event reports) told) (sym is) (dying_fits p told w word)
  lived w o Gone is here reports clean = absurd (cc here)

  -- of whom nothing is listed nor reported
  gone : (w : Option TraceOptions) (x : Task B) → own x ≡ record { shared = (own x).shared; task = Gone; item = None; event = Plain } → After w (own x) [] []
  gone None x is = untraced_fits p told (own x).task (own x).item (own x).event
  gone (Some w) x is = subst (λ (o : Out S B). After (Some w) o [] []) (sym is) (gone_fits p told (Some w))

  own_fits : (x : Task B) (held : Bool) (w : Option TraceOptions) (listed : List ℕ) (reports : List Report) → Fits p (record { task = x; held = held; options = w }) listed reports told → cond held (may_die m s p w x) true ≡ true → After w (own x) listed reports
  own_fits x held None listed reports fits going =
      subst (λ l. After None (own x) l reports) (sym fits.once) (subst (λ r. After None (own x) [] r) (sym (fits.reported refl)) (untraced_fits p told (own x).task (own x).item (own x).event))
  own_fits (Alive b stage) held (Some w) listed reports fits going =
      subst (λ l. After (Some w) (own (Alive b stage)) l reports) (sym fits.once)
      (lived w (own (Alive b stage)) (own (Alive b stage)).task refl (alive_stays m s child p no_choice b stage) reports fits.ends)
  own_fits (Dying word) true (Some w) listed reports fits going = absurd (cc going)
  own_fits (Dying word) false (Some w) listed reports fits going =
      subst (λ l. After (Some w) (own (Dying word)) l reports) (sym fits.once) (subst (λ r. After (Some w) (own (Dying word)) [] r) (sym (fits.reported refl)) (gone_fits p told (Some w)))
  own_fits Gone true (Some w) listed reports fits going = absurd (cc going)
  own_fits Gone false (Some w) listed reports fits going =
      subst (λ l. After (Some w) (own Gone) l reports) (sym fits.once) (subst (λ r. After (Some w) (own Gone) [] r) (sym (fits.reported refl)) (gone_fits p told (Some w)))

-- A host after the turn: what holds of each process before, and of the one whose turn it was, holds of each.

-- of a pid, its own part, what is listed and reported of it, and whether its client was told
abbrev pub Property : Type 0 → Type 1
Property B = ℕ → Proc B → List ℕ → List Report → Bool → Type 0

-- other parts that are equal
pub holds_as : {B : Type 0} (P : Property B) (p : ℕ) (t t' : Proc B) (l l' : List ℕ) (r r' : List Report) (b b' : Bool) → t' ≡ t → l' ≡ l → r' ≡ r → b' ≡ b → P p t l r b → P p t' l' r' b'
holds_as P p t t' l l' r r' b b' ts ls rs bs h = rw (ts, ls, rs, bs) h

abbrev pub Each : {S B : Type 0} → Property B → Host S B → (ℕ → Bool) → Type 0
Each P h told = (q : ℕ) → P q (h.procs q) (listings q h.tracees) (reports_of q h.queue) (told q)

module _ {S B : Type 0} (P : Property B) (h : Host S B) (told : ℕ → Bool) (p : ℕ) (o : Out S B) where
  abbrev its : Option TraceOptions
  its = (h.procs p).options

  abbrev there : Host S B
  there = moved h p its o

  own_reports : (dying : Bool) → reports_of p (cond dying (without p h.queue) h.queue ++ stops_of p (stop_at its o.task o.item o.event)) ≡ cond dying [] (reports_of p h.queue) ++ stops_of p (stop_at its o.task o.item o.event)
  own_reports true = reports-append p (without p h.queue) _ ∙ ap (λ r. r ++ reports_of p (stops_of p (stop_at its o.task o.item o.event))) (own_without p h.queue) ∙ own_stops p (stop_at its o.task o.item o.event)
  own_reports false = reports-append p h.queue _ ∙ ap (λ r. reports_of p h.queue ++ r) (own_stops p (stop_at its o.task o.item o.event))

  other_reports : (q : ℕ) → p ≢ q → (dying : Bool) → reports_of q (cond dying (without p h.queue) h.queue ++ stops_of p (stop_at its o.task o.item o.event)) ≡ reports_of q h.queue
  other_reports q ne true =
      reports-append q (without p h.queue) _ ∙ ap (λ r. reports_of q (without p h.queue) ++ r) (other_stops p q (stop_at its o.task o.item o.event) ne) ∙ append-nil (reports_of q (without p h.queue)) ∙ other_without p q h.queue ne
  other_reports q ne false = reports-append q h.queue _ ∙ ap (λ r. reports_of q h.queue ++ r) (other_stops p q (stop_at its o.task o.item o.event) ne) ∙ append-nil (reports_of q h.queue)

  pub moved_each : Each P h told → P p (proc_after its o.task o.item o.event) (listings p h.tracees) (with_stop p its o.task o.item o.event (reports_of p h.queue)) (told p) → Each P there told
  moved_each each own q = ⊎_elim
      (λ (e : p ≡ q). subst (λ i. P i (there.procs i) (listings i there.tracees) (reports_of i there.queue) (told i)) e
      (holds_as P p _ (there.procs p) _ (listings p there.tracees) _ (reports_of p there.queue) (told p) (told p) (put_here h.procs p _) refl (own_reports (is_dying o.task)) refl own))
      (λ (ne : p ≢ q). holds_as P q (h.procs q) (there.procs q) (listings q h.tracees) (listings q there.tracees) (reports_of q h.queue) (reports_of q there.queue) (told q) (told q) (put_apart h.procs p _ q ne) refl (other_reports q ne (is_dying o.task)) refl (each q))
      (same_or_not p q)

-- A child, of whom nothing was listed and nothing reported.

-- what is listed and reported of it now
abbrev pub born_listed : ℕ → Option TraceOptions → List ℕ
born_listed p None = []
born_listed p (Some w) = p ∷ []

abbrev pub born_reports : ℕ → Option TraceOptions → List Report
born_reports p None = []
born_reports p (Some w) = record { pid = p; stop = Event_stop At_start } ∷ []

abbrev pub born_proc : {B : Type 0} → B → Option TraceOptions → Proc B
born_proc b w = record { task = Alive b Born; held = is_there w; options = w }

module _ {S B : Type 0} (P : Property B) (g : Host S B) (told : ℕ → Bool) (born : B) (each : Each P g told) (unlisted : listings g.child g.tracees ≡ []) (unreported : reports_of g.child g.queue ≡ []) where
  abbrev report : Report
  report = record { pid = g.child; stop = Event_stop At_start }

  pub newborn_each : (w : Option TraceOptions) → P g.child (born_proc born w) (born_listed g.child w) (born_reports g.child w) (told g.child) → Each P (newborn g born w) told
  newborn_each None own q = ⊎_elim
      (λ (e : g.child ≡ q). subst (λ i. P i (put g.procs g.child (born_proc born None) i) (listings i g.tracees) (reports_of i g.queue) (told i)) e
      (holds_as P g.child _ (put g.procs g.child (born_proc born None) g.child) [] (listings g.child g.tracees) [] (reports_of g.child g.queue) (told g.child) (told g.child) (put_here g.procs g.child _) unlisted unreported refl own))
      (λ (ne : g.child ≢ q). holds_as P q (g.procs q) _ (listings q g.tracees) _ (reports_of q g.queue) _ (told q) _ (put_apart g.procs g.child _ q ne) refl refl refl (each q))
      (same_or_not g.child q)
  newborn_each (Some x) own q = ⊎_elim
      (λ (e : g.child ≡ q). subst (λ i. P i (put g.procs g.child (born_proc born (Some x)) i) (listings i (g.tracees ++ g.child ∷ [])) (reports_of i (g.queue ++ report ∷ [])) (told i)) e
      (holds_as P g.child _ (put g.procs g.child (born_proc born (Some x)) g.child) (g.child ∷ []) (listings g.child (g.tracees ++ g.child ∷ [])) (report ∷ []) (reports_of g.child (g.queue ++ report ∷ [])) (told g.child) (told g.child) (put_here g.procs g.child _)
      (listings-append g.child g.tracees (g.child ∷ []) ∙ ap (λ l. l ++ listings g.child (g.child ∷ [])) unlisted ∙ own_listing g.child)
      (reports-append g.child g.queue (report ∷ []) ∙ ap (λ r. r ++ reports_of g.child (report ∷ [])) unreported ∙ own_stops g.child (Some (Event_stop At_start)))
      refl own))
      (λ (ne : g.child ≢ q). holds_as P q (g.procs q) _ (listings q g.tracees) (listings q (g.tracees ++ g.child ∷ [])) (reports_of q g.queue) (reports_of q (g.queue ++ report ∷ [])) (told q) _ (put_apart g.procs g.child _ q ne)
      (listings-append q g.tracees (g.child ∷ []) ∙ ap (λ l. listings q g.tracees ++ l) (other_listing g.child q ne) ∙ append-nil (listings q g.tracees))
      (reports-append q g.queue (report ∷ []) ∙ ap (λ r. reports_of q g.queue ++ r) (other_stops g.child q (Some (Event_stop At_start)) ne) ∙ append-nil (reports_of q g.queue))
      refl (each q))
      (same_or_not g.child q)

born_fits : {B : Type 0} (p : ℕ) (b : B) (w : Option TraceOptions) (told : Bool) → Fits p (born_proc b w) (born_listed p w) (born_reports p w) told
born_fits p b None told = record { once = refl; reported = λ h. refl; newest = λ h. absurd (cc h); ends = tt; heard = λ h. absurd (cc h); held = λ h. absurd (cc h) }
born_fits p b (Some w) told = record { once = refl; reported = λ h. absurd (cc h); newest = λ h. refl; ends = (refl, tt); heard = λ h tracee none. absurd (cc none); held = λ h none. absurd (cc none) }

-- who isn't there yet is listed and reported nowhere
module _ {B : Type 0} (p : ℕ) (t : Proc B) (listed : List ℕ) (reports : List Report) (told : Bool) (fits : Fits p t listed reports told) (gone : t.task ≡ Gone) where
  no_tracee : is_tracee t ≡ false
  no_tracee = ap (λ x. is_there t.options && is_to_tell x t.held) gone ∙ go (is_there t.options)
    where
      go : (b : Bool) → (b && false) ≡ false
      go true = refl
      go false = refl

  pub nowhere_listed : listed ≡ []
  nowhere_listed = fits.once ∙ ap (λ b. cond b (p ∷ []) []) no_tracee

  pub nowhere_reported : reports ≡ []
  nowhere_reported = fits.reported no_tracee

-- All of it.

module _ {S B : Type 0} (m : Machine S B) (h : Host S B) (told : ℕ → Bool) (p : ℕ) (all : AreStops (record { host = h; told = told })) where
  abbrev pub o : Out S B
  o = host_turn_of m h p

  abbrev pub now : Host S B
  now = moved h p (h.procs p).options o

  abbrev FitsIn : Property B
  FitsIn = Fits {B = B}

  pub turned_fits : is_effective m h.shared p (h.procs p) ≡ true → Each FitsIn now told
  turned_fits going = moved_each FitsIn h told p o all.each
      (own_fits m h.shared h.child p (told p) (h.procs p).task (h.procs p).held (h.procs p).options (listings p h.tracees) (reports_of p h.queue) (all.each p) going)

  stays_gone : (x : Task B) → x ≡ Gone → (turn m no_choice h.shared h.child p x).task ≡ Gone
  stays_gone x is = ap (λ y. (turn m no_choice h.shared h.child p y).task) is

  pub now_fresh : (q : ℕ) → h.child ≤ q → (now.procs q).task ≡ Gone
  now_fresh q le = ⊎_elim
      (λ (e : p ≡ q). ap (λ (t : Proc B). t.task) (ap now.procs (sym e) ∙ put_here h.procs p _) ∙ stays_gone (h.procs p).task (ap (λ i. (h.procs i).task) e ∙ all.fresh q le))
      (λ (ne : p ≢ q). ap (λ (t : Proc B). t.task) (put_apart h.procs p _ q ne) ∙ all.fresh q le)
      (same_or_not p q)

  -- a child's part alone is new
  newborn_fresh : (born : B) (w : Option TraceOptions) (q : ℕ) → suc h.child ≤ q → ((newborn now born w).procs q).task ≡ Gone
  newborn_fresh born None q le = ap (λ (t : Proc B). t.task) (put_apart now.procs h.child _ q (λ same. absurd (omega (arith, same, le)))) ∙ now_fresh q (omega (arith, le))
  newborn_fresh born (Some x) q le = ap (λ (t : Proc B). t.task) (put_apart now.procs h.child _ q (λ same. absurd (omega (arith, same, le)))) ∙ now_fresh q (omega (arith, le))

  newborn_child : (born : B) (w : Option TraceOptions) → (newborn now born w).child ≡ suc h.child
  newborn_child born None = refl
  newborn_child born (Some x) = refl

  pub after_event : is_effective m h.shared p (h.procs p) ≡ true → (e : PtraceEvent B) → AreStops (record { host = bears now (h.procs p).options e; told = told })
  after_event going Plain = record { each = turned_fits going; fresh = now_fresh }
  after_event going Execed = record { each = turned_fits going; fresh = now_fresh }
  after_event going (Forked born) = record {
    each =
        let fits : Fits h.child (now.procs h.child) (listings h.child now.tracees) (reports_of h.child now.queue) (told h.child) = turned_fits going h.child in
        let gone : (now.procs h.child).task ≡ Gone = now_fresh h.child (omega arith) in
        newborn_each FitsIn now told born (turned_fits going) (nowhere_listed h.child _ _ _ (told h.child) fits gone) (nowhere_reported h.child _ _ _ (told h.child) fits gone) (inherits (h.procs p).options)
        (born_fits h.child born (inherits (h.procs p).options) (told h.child));
    fresh = λ q le. newborn_fresh born (inherits (h.procs p).options) q (subst (λ n. n ≤ q) (newborn_child born (inherits (h.procs p).options)) le);
  }

pub turns_keep_stops : {S B : Type 0} → TurnsKeepStops S B
turns_keep_stops {S} {B} m w p all = go (is_effective m w.host.shared p (w.host.procs p)) refl
  where
    o : Out S B
    o = host_turn_of m w.host p

    go : (t : Bool) → is_effective m w.host.shared p (w.host.procs p) ≡ t → AreStops (record { host = cond t (bears (moved w.host p (w.host.procs p).options o) (w.host.procs p).options o.event) w.host; told = w.told })
    go true going = after_event m w.host w.told p all going o.event
    go false still = all
