-- A host's replies, through all that it reaches.
use Rattle.std.proofs.Common.{◌≡◌, ℕ, ◌+◌, Bool, true, false, cond, List, [], ◌∷◌, ◌++◌, length, Option, Some, None, Ok, refl, ap, sym, subst, ◌∙◌, inl, inr}
use Rattle.std.specs.Option.{unwrap_or}
use Rattle.lx_abi.specs.declared.boot.Boot.{Boot}
use Rattle.lx_abi.specs.declared.ptrace.Ask.{Ask}
use Rattle.lx_abi.specs.declared.ptrace.Ask.TheVariants.{Seize, SetOptions, GetRegs, SetRegs, Peek, Syscall, EventMsg, SigInfo, Listen}
use Rattle.lx_abi.specs.declared.ptrace.Reply.{Reply}
use Rattle.lx_abi.specs.declared.ptrace.Request.{Request}
use Rattle.lx_abi.specs.declared.ptrace.Request.TheVariants.{Boot as Boot_with, Wait, To, Outcome as Ask_outcome}
use Rattle.lx_abi.specs.declared.ptrace.TraceOptions.{TraceOptions}
use Rattle.lx_abi.specs.declared.schedule.Event.{Event}
use Rattle.lx_abi.specs.declared.schedule.Event.TheVariants.{Turn, Serve}
use Rattle.lx_abi.specs.declared.schedule.Word.{Word}
use Rattle.lx_abi.specs.declared.signal.Signal.{Signal}
use Rattle.lx_abi.specs.declared.log.Cause.{Cause}
use Rattle.lx_abi.specs.Options.{trace_options}
use Rattle.lx_model.specs.declared.stage.Stage.{Stage}
use Rattle.lx_model.specs.declared.stage.Task.{Task}
use Rattle.lx_model.specs.declared.stage.Task.TheVariants.{Alive, Dying, Gone}
use Rattle.lx_model.specs.Finite.{at}
use Rattle.lx_model.specs.Rows.{row}
use Rattle.lx_proc.specs.declared.state.Shared.{Shared}
use Rattle.lx_proc.specs.declared.state.UserState.{UserState}
use Rattle.lx_boot.specs.Boots.{fault_of}
use Rattle.lx_turn.specs.Linux.{linux}
use Rattle.lx_kernel.specs.Outcomes.{outcome_in}
use Rattle.pt_model.specs.Ptrace.{Proc}
use Rattle.pt_model.specs.declared.ptrace.Report.{Report}
use Rattle.pt_model.specs.Requests.{einval, goes_from, info_reply, may_peek, peeked, seize, set_options, stopped, unseized}
use Rattle.pt_model.specs.Hosting.{Hosting, hosting_asked, hosting_event, hosting_pending, hosting_serve, hosting_to, hosting_wait, proc_in, traced_at}
use Rattle.pt_schedule.specs.declared.schedule.Schedule.{Schedule}
use Rattle.pt_schedule.specs.Schedules.{next_of}
use Rattle.pt_kernel.specs.Attends.{Attended, GoesOn, IsFed}
use Rattle.pt_kernel.specs.AfterEvents.{after as host_then}
use Rattle.pt_kernel.specs.Hosts.{HostState, event_of, readiness_of}
use Rattle.pt_sound.specs.Traced.{Deed, Puts, Comes, after, after_all}
use Rattle.host_frame.specs.Reading.{frame_at}
use Rattle.host_frame.specs.Spelling.{CanBeSpelled, HasOrder, ReadsBack, IsInOrder, reply_frame, spelled}
use Rattle.host_frame.specs.declared.frame.Frame.{Frame}
use Rattle.host_frame.specs.declared.frame.Payload.TheVariants.{Reply as Of_reply}
use Rattle.host_link.specs.LocalLinks.{Calls, host_of, schedule_of}
use Rattle.host_link.specs.Locals.{Serves, reply_or_over}
use Rattle.host_link.specs.declared.local.LocalLink.{LocalLink}
use Rattle.host_serve.specs.Hosted.{Answers_by, Boots_by, first_host}
use Rattle.host_serve.specs.Serving.{Answered, AreSpelled, BootAnswered, Exchanges, Leads, SessionAnswered}
use Rattle.host_serve.specs.declared.session.Phase.{Phase}
use Rattle.host_serve.specs.declared.session.Phase.TheVariants.{Waiting, Refused as Refusing, Serving}
use Rattle.host_ends.specs.Recorded.{AreInOrder}
use Rattle.honest_hosts.specs.Outcomes.{HostsLeaveOrder, host_after}
use Rattle.honest_hosts.specs.Replies.{HostFramesReadBack, HostsReplyInOrder, ReadBack, RepliesAreInOrder, RepliesReadBack}

-- ---- one reply

abbrev Ordered : Option Reply → Type 0
Ordered None = Unit {0}
Ordered (Some r) = HasOrder (Of_reply r)

abbrev Replies : Reply → Type 0
Replies r = HasOrder (Of_reply r)

peeked_ordered : (bytes : List ℕ) → Replies (peeked bytes)
peeked_ordered [] = tt
peeked_ordered (b ∷ bytes) = tt

info_ordered : (i : Option (Signal × Cause)) → Replies (info_reply i)
info_ordered None = tt
info_ordered (Some i) = tt

module _ (t : Proc UserState) where
  goes_ordered : (b : UserState) (next : Option Stage) → Replies (goes_from t b next).reply
  goes_ordered b None = tt
  goes_ordered b (Some stage) = tt

  options_ordered : (w : Option TraceOptions) → Replies (set_options t w).reply
  options_ordered None = tt
  options_ordered (Some w) = tt

  seize_ordered : (w : Option TraceOptions) → Replies (seize t w).reply
  seize_ordered None = tt
  seize_ordered (Some w) = tt

  stopped_ordered : (b : UserState) (stage : Stage) (message : ℕ) (q : Ask) → Replies (stopped linux t b stage message q).reply
  stopped_ordered b stage message (Seize options) = tt
  stopped_ordered b stage message (SetOptions options) = options_ordered (trace_options options)
  stopped_ordered b stage message GetRegs = tt
  stopped_ordered b stage message (SetRegs r) = tt
  stopped_ordered b stage message (Peek address count) = go (may_peek count)
    where
      go : (c : Bool) → Replies (cond c (peeked (linux.peek b address count)) einval)
      go true = peeked_ordered (linux.peek b address count)
      go false = tt
  stopped_ordered b stage message (Syscall n) = goes_ordered b ((row stage).resume n)
  stopped_ordered b stage message EventMsg = tt
  stopped_ordered b stage message SigInfo = info_ordered (row stage).info
  stopped_ordered b stage message Listen = goes_ordered b (row stage).listen

  unseized_ordered : (q : Ask) → Replies (unseized t q).reply
  unseized_ordered (Seize options) = seize_ordered (trace_options options)
  unseized_ordered (SetOptions options) = tt
  unseized_ordered GetRegs = tt
  unseized_ordered (SetRegs r) = tt
  unseized_ordered (Peek address count) = tt
  unseized_ordered (Syscall n) = tt
  unseized_ordered EventMsg = tt
  unseized_ordered SigInfo = tt
  unseized_ordered Listen = tt

abbrev TheHosting : Type 0
TheHosting = Hosting Shared UserState

abbrev LeavesOrder : TheHosting → Type 0
LeavesOrder v = IsInOrder (outcome_in v.running.shared)

module _ (v : TheHosting) where
  to_ordered : (p message : ℕ) (t : Proc UserState) (held : Bool) (w : Option TraceOptions) (task : Task UserState) (q : Ask) → Ordered (hosting_to linux v p message t held w task q).reply
  to_ordered p message t true (Some w) (Alive b stage) q = stopped_ordered t b stage message q
  to_ordered p message t true (Some w) (Dying word) q = tt
  to_ordered p message t true (Some w) Gone q = tt
  to_ordered p message t true None task q = unseized_ordered t q
  to_ordered p message t false w task q = tt

  wait_ordered : (queue : List Report) (tracees : List ℕ) → Ordered (hosting_wait v queue tracees).reply
  wait_ordered [] [] = tt
  wait_ordered [] (q ∷ qs) = tt
  wait_ordered (r ∷ rest) qs = tt

  serve_ordered : LeavesOrder v → (q : Request) → Ordered (hosting_serve linux outcome_in v q).reply
  serve_ordered order (Boot_with boot limit words) = tt
  serve_ordered order Wait = wait_ordered v.queue v.tracees
  serve_ordered order (To p q) = to_ordered p (traced_at v p).message (proc_in v p) (traced_at v p).held (traced_at v p).options (at Gone v.running.tasks p) q
  serve_ordered order Ask_outcome = order

  event_ordered : LeavesOrder v → (follow : Bool) (e : Event) → Ordered (hosting_event linux outcome_in follow v e).reply
  event_ordered order follow (Turn p) = tt
  event_ordered order follow Serve = go v.pending
    where
      go : (o : Option Request) → Ordered (hosting_pending linux outcome_in v o).reply
      go None = tt
      go (Some q) = serve_ordered order q

pub replies_in_order : HostsLeaveOrder → HostsReplyInOrder
replies_in_order leave follow boot deeds e r taken is = subst Ordered is (event_ordered (host_after outcome_in follow boot deeds) (leave outcome_in follow boot deeds taken) follow e)

-- ---- its frame

abbrev AllReadBack : Type 0
AllReadBack = (f : Frame) → CanBeSpelled f → ReadsBack f

frame_back : (f : Frame) → HasOrder f.body → ReadsBack f → frame_at (spelled f) ≡ Some f
frame_back f order (inl back) = back.1
frame_back f order (inr none) = absurd (none.0 order)

pub frames_read_back : HostsLeaveOrder → AllReadBack → HostFramesReadBack
frames_read_back leave back follow boot deeds e r number taken is can =
    let f = reply_frame number r in
    frame_back f (replies_in_order leave follow boot deeds e r taken is) (back f can)

-- ---- what a link to a host reaches

record IsReached (h : HostState) : Type 0 where
  boot : Boot
  taken : fault_of boot ≡ None
  deeds : List Deed
  is : h.hosting ≡ host_after outcome_in h.follow boot deeds

one_more : (follow : Bool) (v : TheHosting) (deeds : List Deed) (d : Deed) → after_all outcome_in follow v (deeds ++ d ∷ []) ≡ after outcome_in follow (after_all outcome_in follow v deeds) d
one_more follow v [] d = refl
one_more follow v (e ∷ deeds) d = one_more follow (after outcome_in follow v e) deeds d

reached_then : (h h' : HostState) (d : Deed) → IsReached h → h'.follow ≡ h.follow → h'.hosting ≡ after outcome_in h.follow h.hosting d → IsReached h'
reached_then h h' d r same is = record {
  boot = r.boot;
  taken = r.taken;
  deeds = r.deeds ++ d ∷ [];
  is =
      is ∙ ap (λ (v : TheHosting). after outcome_in h.follow v d) r.is ∙ sym (one_more h.follow (host_after outcome_in h.follow r.boot []) r.deeds d)
      ∙ ap (λ (follow : Bool). host_after outcome_in follow r.boot (r.deeds ++ d ∷ [])) (sym same);
}

module _ (leave : HostsLeaveOrder) where
  reply_ordered : (h : HostState) (e : Event) → IsReached h → Ordered (event_of h e).reply
  reply_ordered h e r = event_ordered h.hosting (subst LeavesOrder (sym r.is) (leave outcome_in h.follow r.boot r.deeds r.taken)) h.follow e

  record Leaves (z : Attended) : Type 0 where
    host : IsReached z.host
    reply : Ordered z.reply

  answered_or : (next : HostState) (rest : Schedule) (es : List Event) (z : Attended) (reply : Option Reply) → IsReached next → Ordered reply
      → GoesOn next rest es z reply (IsFed next rest es z) → (IsFed next rest es z → Leaves z) → Leaves z
  answered_or next rest es z (Some x) reached order on later = subst Leaves (sym on.1) (record { host = reached; reply = order })
  answered_or next rest es z None reached order on later = later on

  fed_reached : (h : HostState) (s : Schedule) (es : List Event) (z : Attended) → IsReached h → IsFed h s es z → Leaves z
  fed_reached h s [] z r fed = subst Leaves (sym fed.1) (record { host = r; reply = tt })
  fed_reached h s (e ∷ es) z r fed =
      let next = host_then h e in
      let reached : IsReached next = reached_then h next (Comes e) r refl refl in
      let rest = (next_of s (readiness_of h)).schedule in
      answered_or next rest es z (event_of h e).reply reached (reply_ordered h e r) fed.1 (fed_reached next rest es z reached)

  over_ordered : (x : Option Reply) → Ordered x → Replies (reply_or_over x)
  over_ordered None h = tt
  over_ordered (Some r) h = h

  put_is : (v w : TheHosting) (q : Request) → hosting_asked v q v.pending ≡ Some w → w ≡ after outcome_in true v (Puts q)
  put_is v w q put = sym (ap (λ (o : Option TheHosting). unwrap_or o v) put)

  served_reached : (a : HostState) (s : Schedule) (q : Request) (z : Attended) → IsReached a → Serves a s q z → Leaves z
  served_reached a s q z r h = fed_reached h.asked s h.attends.fed z
      (reached_then a h.asked (Puts q) r (ap (λ (x : HostState). x.follow) h.rest) (put_is a.hosting h.asked.hosting q h.put)) h.attends.is_fed

  record LinkLeaves (r : Reply) (b : LocalLink) : Type 0 where
    host : IsReached (host_of b)
    reply : Replies r

  called_reached : (a b : LocalLink) (q : Request) (r : Reply) → IsReached (host_of a) → Calls a q (Ok r) b → LinkLeaves r b
  unfolding Calls
  called_reached a b q r reached (inl c) = record {
    host = subst IsReached (sym c.1.1.0) reached;
    reply = subst Replies (sym c.1.0) tt;
  }
  called_reached a b q r reached (inr c) =
      let x = c.1.1.0 in
      let z = served_reached (host_of a) (schedule_of a) q (record { host = host_of b; schedule = schedule_of b; reply = x }) reached c.1.1.1.0 in
      record { host = z.host; reply = subst Replies (sym c.1.1.1.1.0) (over_ordered x z.reply) }

  -- ---- a conversation

  abbrev Reaches : Phase LocalLink → Type 0
  Reaches Waiting = Unit {0}
  Reaches Refusing = Unit {0}
  Reaches (Serving l) = IsReached (host_of l)

  record PhaseLeaves (r : Reply) (phase : Phase LocalLink) : Type 0 where
    host : Reaches phase
    reply : Replies r

  first_reached : (boot : Boot) (l : LocalLink) → fault_of boot ≡ None → host_of l ≡ first_host boot → IsReached (host_of l)
  first_reached boot l taken is = record {
    boot = boot;
    taken = taken;
    deeds = [];
    is = ap (λ (h : HostState). h.hosting) is;
  }

  boot_reached : (boot : Boot) (limit : ℕ) (words : List Word) (r : Reply) (next : Phase LocalLink) → BootAnswered Boots_by boot limit words r next → PhaseLeaves r next
  boot_reached boot limit words r Waiting h = absurd h
  boot_reached boot limit words r Refusing h = record { host = tt; reply = subst Replies (sym h.1.0) tt }
  boot_reached boot limit words r (Serving l) h = record { host = first_reached boot l h.1.accepted h.1.host; reply = subst Replies (sym h.0) tt }

  session_reached : (l : LocalLink) (q : Request) (r : Reply) (next : Phase LocalLink) → IsReached (host_of l) → SessionAnswered Answers_by l q r next → PhaseLeaves r next
  session_reached l q r Waiting reached h = absurd h
  session_reached l q r Refusing reached h = absurd h
  session_reached l q r (Serving t) reached h = let left = called_reached l t q r reached h.1.0 in record { host = left.host; reply = left.reply }

  answered_reached : (before : Phase LocalLink) (q : Request) (r : Reply) (next : Phase LocalLink) → Reaches before → Answered Boots_by Answers_by before q r next → PhaseLeaves r next
  answered_reached Waiting q r next reached h = boot_reached h.0 h.1.0 h.1.1.0 r next h.1.1.1.1
  answered_reached Refusing q r next reached h = absurd h
  answered_reached (Serving l) q r next reached h = session_reached l q r next reached h

  led_reached : (xs : Exchanges) (phase : Phase LocalLink) → Leads Boots_by Answers_by xs phase → Reaches phase × AreInOrder xs
  led_reached [] phase led = (subst Reaches (sym led) tt, tt)
  led_reached (x ∷ xs) phase led =
      let before = led_reached xs led.0 led.1.0 in
      let now = answered_reached led.0 x.0 x.1 phase before.0 led.1.1 in
      (now.host, (now.reply, before.1))

pub served_in_order : HostsLeaveOrder → RepliesAreInOrder
served_in_order leave xs phase led = (led_reached leave xs phase led).1

-- ---- its frames

all_back : AllReadBack → (xs : Exchanges) → AreInOrder xs → AreSpelled xs → ReadBack xs
all_back back [] order fit = tt
all_back back (x ∷ xs) order fit = let f = reply_frame (length xs + 1) x.1 in (frame_back f order.0 (back f fit.0), all_back back xs order.1 fit.1)

pub read_back : HostsLeaveOrder → AllReadBack → RepliesReadBack
read_back leave back xs phase led fit = all_back back xs (served_in_order leave xs phase led) fit
