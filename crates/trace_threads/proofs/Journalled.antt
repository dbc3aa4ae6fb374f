-- From the journal under the lock to what a run is.
use Rattle.std.specs.Prelude.{IfOk, IfErr, OnOk}
use Rattle.std.proofs.Math.Bridge.{le_prop}
use Rattle.std.proofs.Common.{◌⊎◌, inl, Option, None, false, Result, Err, ◌≡◌, ℕ, ◌≤◌, ◌<◌, Bool, true, List, [], ◌∷◌, ◌++◌, length, map, Some, Ok, refl, sym, ap, subst, ◌∙◌, inr, append-nil}
use Rattle.lx_abi.specs.declared.boot.Boot.{Boot}
use Rattle.lx_abi.specs.declared.outcome.Outcome.{Outcome}
use Rattle.lx_abi.specs.declared.ptrace.Reply.{Reply}
use Rattle.lx_abi.specs.declared.ptrace.Request.{Request}
use Rattle.lx_abi.specs.declared.schedule.Event.{Event}
use Rattle.lx_abi.specs.declared.script.Rule.{Rule}
use Rattle.lx_abi.specs.Scripts.{choice_of}
use Rattle.lx_boot.specs.Boots.{fault_of}
use Rattle.lx_boot.specs.First.{first_shared}
use Rattle.lx_exec.specs.Programs.{booted}
use Rattle.lx_kernel.specs.Outcomes.{outcome_in}
use Rattle.lx_model.specs.Kernel.{Script, traces}
use Rattle.lx_model.specs.Machine.{Machine, IsMachine}
use Rattle.lx_proc.specs.declared.state.Shared.{Shared}
use Rattle.lx_proc.specs.declared.state.UserState.{UserState}
use Rattle.lx_turn.specs.Linux.{linux}
use Rattle.pt_model.specs.Attending.{listed}
use Rattle.pt_model.specs.Headline.{IsTold, IsTransparent, traced_run, plain_run}
use Rattle.pt_model.specs.Parts as parts_of
use Rattle.pt_model.specs.Ptrace.{Host, is_there}
use Rattle.pt_model.specs.Tracer.{Over, request, first_tracer}
use Rattle.pt_model.specs.View.{has_exit}
use Rattle.pt_model.specs.World.{World, happens, effective, first_world}
use Rattle.pt_journal.specs.Journals.{events_of, Replays}
use Rattle.pt_journal.specs.Told.{Told}
use Rattle.pt_journal.specs.Telling.{Asks, AsksAtEach, JournalsTell}
use Rattle.pt_journal.specs.declared.entry.Entry.{Entry}
use Rattle.pt_model.specs.Calls.{IsOwn}
use Rattle.pt_model.specs.Hosting.{Hosting, first_hosting}
use Rattle.host_shared.specs.HeldStates.{HeldState, Kept, first_of, host_by, InCycle, IsCut, IsStuck}
use Rattle.host_shared.specs.Noting.{noted_of}
use Rattle.host_shared.specs.declared.cut.Cut.{Cut}
use Rattle.host_shared.specs.declared.cut.Cut.TheVariants.{Limit, Nobody, Gate}
use Rattle.pt_journal.specs.Journals.{last_turn}
use Rattle.pt_kernel.specs.Hosts.{HostState}
use Rattle.tr_core.specs.Laws.{TextsAreWhole}
use Rattle.tr_core.specs.Settings.{options_by}
use Rattle.tr_core.specs.declared.settings.Options.{Options}
use Rattle.trace_run.specs.BootedRuns.{following}
use Rattle.trace_run.specs.Local.{Feeds, LocalRun}
use Rattle.trace_run.specs.Tells.{view_text, Tells}
use Rattle.trace_run.specs.declared.local.Run.{Run}
use Rattle.trace_run.specs.declared.running.Ended.{Ended}
use Rattle.trace_run.specs.declared.running.Ended.TheVariants.{Whole, OutOfTurns}
use Rattle.trace_run.specs.declared.running.RunFault.{RunFault}
use Rattle.host_link.specs.declared.fault.LinkFault.{LinkFault}
use Rattle.host_link.specs.declared.fault.LinkFault.TheVariants as cause
use Rattle.tr_core.specs.declared.tracing.TraceFault.TheVariants.{Inadmissible, Memory}
use Rattle.trace_run.specs.declared.running.RunFault.TheVariants.{Link, Trace, Output}
use Rattle.trace_threads.specs.ThreadRuns.{IsCutBy, Faults, fault_by, IsFaultOf, IsFinished, IsNotedRun, IsTraced, ThreadRun}
use Rattle.trace_threads.specs.declared.noted.NotedRun.{NotedRun}
use Rattle.trace_threads.specs.declared.fault.ThreadsFault.{ThreadsFault}

module _ {S B : Type 0} (m : Machine S B) (outcome : S → Outcome) where
  -- events at each of which something is asked are all that their list gives
  feeds : (o : parts_of.Options) (script : Script) (es : List Event) (w : World S B) → AsksAtEach m outcome o script w es → Feeds listed m outcome o script es w es
  feeds o script [] w a = inr refl
  feeds o script (e ∷ es) w a = (es, (a.0, refl, feeds o script es (happens m outcome o script w e) a.1))

module _ {S B : Type 0} (m : Machine S B) (outcome : S → Outcome) (o : Options) (script : Script) (s : S) (b : B) (events : List Event) where
  -- what was shown, by how the run ended
  record Shown (ended : Ended) (trace : List ℕ) (left : Outcome) : Type 0 where
    pub lost : ℕ → Bool
    pub later : List ℕ
    pub begins : trace ++ later ≡ view_text m outcome o script s b events lost
    pub whole : (y : Outcome) → ended ≡ Whole y → (y ≡ left) × (later ≡ [])
        × ((q : ℕ) → 1 ≤ q → q < (plain_run m outcome (options_by o) script s b events).child
        → traces o.follow q ≡ true → has_exit q (plain_run m outcome (options_by o) script s b events).log ≡ true)
    pub told : (y : Outcome) → ended ≡ Whole y → (traced_run m outcome (options_by o) script s b events).tracer.focus ≡ Over y
    pub out_of_turns : ended ≡ OutOfTurns → is_there (request (options_by o) (traced_run m outcome (options_by o) script s b events).tracer.focus) ≡ true

  shown : (ended : Ended) (trace : List ℕ) (left : Outcome) → left ≡ outcome (plain_run m outcome (options_by o) script s b events).shared → Tells m outcome o script s b events (Ok ended) (Some []) (Some trace) → Shown ended trace left
  shown (Whole x) trace left same t =
      let k = t.whole x refl in
      record {
        lost = k.lost;
        later = [];
        begins = append-nil trace ∙ k.all;
        whole = λ y e. (cc e ∙ k.same_outcome ∙ sym same, refl, k.all_ended);
        told = λ y e. k.told ∙ ap (λ z. Over z) (cc e);
        out_of_turns = λ e. absurd (cc e);
      }
  shown OutOfTurns trace left same t = record {
    lost = t.lost;
    later = t.begins.1.0;
    begins = ap (λ l. l ++ t.begins.1.0) t.begins.1.1.1 ∙ t.begins.1.1.0;
    whole = λ y e. absurd (cc e);
    told = λ y e. absurd (cc e);
    out_of_turns = λ e. t.out_of_turns refl;
  }

  -- a run by these events
  run_by : (trace : List ℕ) (ended : Ended) (left : Outcome) (turns : List ℕ)
      → left ≡ outcome (plain_run m outcome (options_by o) script s b events).shared
      → turns ≡ effective m outcome (options_by o) script (first_world s b) events
      → AsksAtEach m outcome (options_by o) script (first_world s b) events
      → Tells m outcome o script s b events (Ok ended) (Some []) (Some trace)
      → LocalRun listed m outcome o script events s b ended trace left turns
  run_by trace ended left turns same turned asked t =
      let x = shown ended trace left same t in
      record {
        events = events;
        given = feeds m outcome (options_by o) script events (first_world s b) asked;
        turned = turned;
        same_outcome = same;
        lost = x.lost;
        later = x.later;
        begins = x.begins;
        shown = t.shown;
        whole = x.whole;
        told = x.told;
        out_of_turns = x.out_of_turns;
      }

-- a run whose host's journal tells of its requests and replies
told_run : {S B : Type 0} → JournalsTell S B → IsTransparent S B → TextsAreWhole → (m : Machine S B) → IsMachine m → IsTold m → (outcome : S → Outcome) (follow : Bool)
    (o : Options) (script : Script) (s : S) (b : B) (journal : List Entry) (g : Hosting S B) (given : List (Request × Reply))
    (trace : List ℕ) (ended : Ended) (left : Outcome) (turns : List ℕ)
    → Replays m outcome follow (first_hosting s b) journal g → Told journal given → Asks (options_by o) script first_tracer given
    → ((events : List Event) → IsOwn m outcome (options_by o) script s b events (map (λ x. x.1) given) → Tells m outcome o script s b events (Ok ended) (Some []) (Some trace))
    → left ≡ outcome g.running.shared → turns ≡ g.turns
    → LocalRun listed m outcome o script (events_of journal) s b ended trace left turns
told_run {S} {B} journals transparent texts m is_m is_told outcome follow o script s b journal g given trace ended left turns replayed told asked tells left_is turned =
    let j = journals m outcome follow (options_by o) script s b journal g given replayed told asked in
    let same : left ≡ outcome (plain_run m outcome (options_by o) script s b (events_of journal)).shared =
    left_is ∙ ap (λ (h : Host S B). outcome h.shared) (sym j.host)
    ∙ (transparent m is_m is_told outcome (options_by o) (texts o.string_limit o.limit_in_range) script s b (events_of journal)).same_outcome in
    run_by m outcome o script s b (events_of journal) trace ended left turns same (turned ∙ j.turned) j.asked (tells (events_of journal) j.own)

-- what is cited of journals and of tracing
pub record Cited : Type 0 where
  pub journals : JournalsTell Shared UserState
  pub transparent : IsTransparent Shared UserState
  pub texts : TextsAreWhole
  pub machine : IsMachine linux
  pub told : IsTold linux

-- what is under the lock, of a boot that is this one
pub record Lies_under (boot : Boot) (limit : ℕ) (shuts : Bool) (ended : Ended) (given : List (Request × Reply)) (held : HeldState) : Type 0 where
  pub cut : ended ≡ OutOfTurns → IsCutBy shuts held.cut
  pub kept : Kept held
  pub boot_is : held.boot ≡ boot
  pub limit_is : held.limit ≡ limit
  pub told : Told held.journal given

-- the host under the lock is that one
same_host : (h : HostState) (follow : Bool) → h.follow ≡ follow → h.failed ≡ false → host_by h.hosting follow ≡ h
same_host h follow e f = ap (λ (b : Bool). host_by h.hosting b) (sym e) ∙ ap (λ (b : Bool). record { hosting = h.hosting; follow = h.follow; failed = b }) (sym f)

-- why it is out of turns
reason : (h : HeldState) (limit : ℕ) (shuts : Bool) (host : HostState) (c : Option Cut) → h.limit ≡ limit → host ≡ h.host → IsCut h c → IsCutBy shuts c
    → (length (events_of h.journal) ≡ limit) ⊎ (IsStuck host (last_turn h.journal) ⊎ (shuts ≡ true))
reason h limit shuts host None l e so by = absurd by
reason h limit shuts host (Some Limit) l e so by = inl (so ∙ l)
reason h limit shuts host (Some Nobody) l e so by = inr (inl (subst (λ x. IsStuck x (last_turn h.journal)) (sym e) so))
reason h limit shuts host (Some Gate) l e so by = inr (inr by)

pub thread_run : Cited → (boot : Boot) (limit : ℕ) (script : List Rule) (o : Options) (shuts : Bool) (given : List (Request × Reply)) (run : Run) (held : HeldState) → Lies_under boot limit shuts run.ended given held
    → IsTraced script (following o boot.follow) run.ended given run.trace
    → run.outcome ≡ outcome_in held.host.hosting.running.shared → run.turns ≡ held.host.hosting.turns
    → (t : ThreadRun boot limit script o shuts run) × (t.entries ≡ held.journal)
thread_run cited boot limit script o shuts given run held lies traced left turned = (
  record {
    accepted = subst (λ (x : Boot). fault_of x ≡ None) lies.boot_is lies.kept.accepted;
    entries = held.journal;
    hosting = held.host.hosting;
    given = given;
    replayed = subst (λ (x : Boot). Replays linux outcome_in x.follow (first_of x) held.journal held.host.hosting) lies.boot_is lies.kept.replayed;
    cycled = subst (λ (x : Boot). InCycle x.follow (first_of x) 0 held.journal) lies.boot_is lies.kept.cycled;
    told = lies.told;
    asked = traced.asked;
    cut = λ out. reason held limit shuts (host_by held.host.hosting boot.follow) held.cut lies.limit_is
        (same_host held.host boot.follow (lies.kept.follow ∙ ap (λ (x : Boot). x.follow) lies.boot_is) lies.kept.whole) lies.kept.cut_so (lies.cut out);
    few = subst (λ n. length (events_of held.journal) ≤ n) lies.limit_is lies.kept.few;
    run_of =
        told_run cited.journals cited.transparent cited.texts linux cited.machine cited.told outcome_in boot.follow (following o boot.follow) (choice_of script)
        (first_shared boot.limits boot.files boot.input) (booted boot.argv boot.env) held.journal held.host.hosting given run.trace run.ended run.outcome run.turns
        (subst (λ (x : Boot). Replays linux outcome_in x.follow (first_of x) held.journal held.host.hosting) lies.boot_is lies.kept.replayed)
        lies.told traced.asked (λ events own. traced.tells boot events own) left turned;
  },
  refl,
)

pub finished : Cited → (boot kept : Boot) (limit : ℕ) (script : List Rule) (o : Options) (shuts notes : Bool) (held : HeldState) (given : List (Request × Reply)) (trace : List ℕ) (ended : Result Ended RunFault)
    → kept ≡ boot → IfOk ended (λ e. IsTraced script (following o boot.follow) e given trace)
    → (result : Result NotedRun ThreadsFault) → IfOk result (λ n. IsFinished kept limit shuts held given trace ended n.run)
    → IfOk result (λ n. n.events ≡ noted_of notes held.journal) → IfOk result (IsNotedRun boot limit script o shuts notes)
finished cited boot kept limit script o shuts notes held given trace ended same traced (Ok n) f are =
    let it =
    thread_run cited boot limit script o shuts given n.run held
    (record {
      cut = f.cut;
      kept = f.kept;
      boot_is = f.boot_is ∙ same;
      limit_is = f.limit_is;
      told = f.told;
    })
    (subst (λ t. IsTraced script (following o boot.follow) n.run.ended given t) (sym f.trace_is)
    (subst (λ e. IfOk e (λ x. IsTraced script (following o boot.follow) x given trace)) f.ended_is traced))
    f.left f.turned in
    (it.0, are ∙ ap (λ (l : List Entry). noted_of notes l) (sym it.1))
finished cited boot kept limit script o shuts notes held given trace ended same traced (Err fault) f are = tt

-- a fault of the copy is the boot's
pub same_faults : (boot kept : Boot) → kept ≡ boot → (result : Result Run ThreadsFault) → IfErr result (λ fault. Faults kept fault) → IfErr result (λ fault. Faults boot fault)
same_faults boot kept same result h = subst (λ (x : Boot). IfErr result (λ fault. Faults x fault)) same h

-- a run's own fault is none of the boot
pub run_fault : (boot : Boot) (fault : RunFault) → Faults boot (fault_by fault)
run_fault boot (Link fault) = by_link fault where
  by_link : (f : LinkFault) → Faults boot (fault_by (Link f))
  by_link cause.Memory = λ other. absurd (other refl)
  by_link cause.TooMany = tt
  by_link cause.Ended = tt
  by_link cause.Sequence = tt
  by_link cause.Read = tt
  by_link cause.Write = tt
  by_link cause.Malformed = tt
  by_link cause.Inadmissible = tt
run_fault boot (Trace Inadmissible) = tt
run_fault boot (Trace Memory) = λ other. absurd (other refl)
run_fault boot Output = λ other. absurd (other refl)

-- how the end is put together
pub record Left (boot : Boot) (limit : ℕ) (shuts : Bool) (held : HeldState) (given : List (Request × Reply)) (ended : Result Ended RunFault) (left : Result Outcome ThreadsFault) : Type 0 where
  pub outcome : IfOk left (λ outcome. outcome ≡ outcome_in held.host.hosting.running.shared)
  pub kept : OnOk left (Kept held)
  pub boot_is : OnOk left (held.boot ≡ boot)
  pub limit_is : OnOk left (held.limit ≡ limit)
  pub told : OnOk left (Told held.journal given)
  pub cut : OnOk left (ended ≡ Ok OutOfTurns → IsCutBy shuts held.cut)
  pub fault : IfErr left (λ fault. Faults boot fault)

pub record Put_together (ended : Result Ended RunFault) (left : Result Outcome ThreadsFault) (trace turns : List ℕ) (result : Result Run ThreadsFault) : Type 0 where
  pub ended_is : IfOk result (λ run. ended ≡ Ok run.ended)
  pub outcome : IfOk result (λ run. left ≡ Ok run.outcome)
  pub trace_is : IfOk result (λ run. run.trace ≡ trace)
  pub turns_are : IfOk result (λ run. run.turns ≡ turns)
  pub fault : IfErr result (IsFaultOf ended left)

pub is_finished : (boot : Boot) (limit : ℕ) (shuts : Bool) (held : HeldState) (given : List (Request × Reply)) (trace turns : List ℕ) (ended : Result Ended RunFault) (left : Result Outcome ThreadsFault)
    → turns ≡ held.host.hosting.turns → Left boot limit shuts held given ended left → (result : Result Run ThreadsFault) → Put_together ended left trace turns result
    → IfOk result (IsFinished boot limit shuts held given trace ended)
is_finished boot limit shuts held given trace turns ended left same l (Ok run) p =
    let at : Left boot limit shuts held given ended (Ok run.outcome) = subst (λ x. Left boot limit shuts held given ended x) p.outcome l in
    record {
      ended_is = p.ended_is;
      trace_is = p.trace_is;
      left = at.outcome;
      turned = p.turns_are ∙ same;
      kept = at.kept;
      boot_is = at.boot_is;
      limit_is = at.limit_is;
      told = at.told;
      cut = λ out. at.cut (p.ended_is ∙ ap (λ (e : Ended). Ok e) out);
    }
is_finished boot limit shuts held given trace turns ended left same l (Err fault) p = tt

pub is_a_fault : (boot : Boot) (limit : ℕ) (shuts : Bool) (held : HeldState) (given : List (Request × Reply)) (trace turns : List ℕ) (ended : Result Ended RunFault) (left : Result Outcome ThreadsFault)
    → Left boot limit shuts held given ended left → (result : Result Run ThreadsFault) → Put_together ended left trace turns result
    → IfErr result (λ fault. Faults boot fault)
is_a_fault boot limit shuts held given trace turns ended left l (Ok run) p = tt
is_a_fault boot limit shuts held given trace turns (Ok e) left l (Err fault) p = (subst (λ x. Left boot limit shuts held given (Ok e) x) p.fault l).fault
is_a_fault boot limit shuts held given trace turns (Err f) left l (Err fault) p = subst (λ x. Faults boot x) (sym p.fault) (run_fault boot f)

pub on_ok : {A E P : Type 0} (result : Result A E) → P → OnOk result P
on_ok (Ok x) p = p
on_ok (Err e) p = tt

-- options are the same whatever shows that their limit is in range
pub limits_are_one : (o : Options) (p : o.string_limit ≤ 4096) → record o { limit_in_range = p } ≡ o
limits_are_one o p = ap (λ (q : o.string_limit ≤ 4096). record o { limit_in_range = q }) (le_prop p o.limit_in_range)
