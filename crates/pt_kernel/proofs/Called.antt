-- A request that is attended to over finite maps is a call of the ptrace machine, event by event.
use Rattle.std.proofs.Common.{◌≡◌, ℕ, Bool, true, false, not, List, [], ◌∷◌, ◌++◌, Option, Some, None, refl, sym, ap, ap₂, subst, ◌∙◌, append-nil, append_assoc}
use Rattle.std.specs.Prelude.{◌&&◌}
use Rattle.std.specs.Option.{option_map}
use mathlib.Core.Path.{fun_ext}
use Rattle.lx_abi.specs.declared.ptrace.Reply.{Reply}
use Rattle.lx_abi.specs.declared.ptrace.Request.{Request}
use Rattle.lx_abi.specs.declared.schedule.Event.{Event}
use Rattle.lx_abi.specs.declared.schedule.Event.TheVariants.{Turn, Serve}
use Rattle.lx_abi.specs.Log.{entries}
use Rattle.lx_abi.specs.Scripts.{no_choice}
use Rattle.lx_model.specs.Finite.{at, task_mode, turn_out}
use Rattle.lx_model.specs.Kernel.{traces, choice_at}
use Rattle.lx_model.specs.Machine.{Machine}
use Rattle.lx_model.specs.Turn.{Out, turn}
use Rattle.lx_model.specs.declared.stage.Task.{Task}
use Rattle.lx_model.specs.declared.stage.Task.TheVariants.{Alive, Dying, Gone}
use Rattle.lx_proc.specs.declared.state.Shared.{Shared}
use Rattle.lx_proc.specs.declared.state.UserState.{UserState}
use Rattle.lx_turn.specs.Linux.{linux}
use Rattle.lx_kernel.specs.Outcomes.{outcome_in}
use Rattle.pt_model.specs.Attending.{Attending, Called, event, turned, answered_by, called, left_pending}
use Rattle.pt_model.specs.Attending.{Gives}
use Rattle.pt_model.specs.Hosting.{Hosting, Hosted, proc_in, host_in, attending_in, IsFresh, no_script, hosting_event}
use Rattle.pt_model.specs.HostLaws.{HostsAttendAlike, HostsAreReady}
use Rattle.pt_model.specs.Ptrace.{Host, is_effective, host_turn_of}
use Rattle.pt_schedule.specs.Modes.{is_finished, moves}
use Rattle.pt_schedule.specs.Schedules.{Readiness, next_of}
use Rattle.pt_schedule.specs.declared.schedule.Schedule.{Schedule}
use Rattle.pt_kernel.specs.Attends.{Attended, GoesOn, IsFed}
use Rattle.pt_kernel.specs.AfterEvents.{after}
use Rattle.pt_kernel.specs.Hosts.{HostState, able_in, readiness_of, event_of}
use Rattle.pt_kernel.specs.Seen.{is_able, sees, given, next_of_host, IsCalled, HostsAreCalled}

-- What a schedule sees

no_chosen : {S B : Type 0} (m : Machine S B) (traced : Bool) (count : ℕ → ℕ) (task : Task B) → choice_at m no_script traced count task ≡ no_choice
no_chosen m true count (Alive b stage) = refl
no_chosen m true count (Dying w) = refl
no_chosen m true count Gone = refl
no_chosen m false count task = refl

out_is : {S B : Type 0} (m : Machine S B) (follow : Bool) (v : Hosting S B) (p : ℕ) → turn_out m no_script follow v.running p ≡ host_turn_of m (host_in v) p
out_is m follow v p = ap (λ c. turn m c v.running.shared v.running.child p (at Gone v.running.tasks p)) (no_chosen m (traces follow p) (λ n. entries p n v.running.log) (at Gone v.running.tasks p))

able_is : (h : HostState) → h.failed ≡ false → (p : ℕ) → (readiness_of h).able p ≡ is_able linux (host_in h.hosting) p
able_is h whole p =
    let v : Hosting Shared UserState = h.hosting in
    ap (λ b. not b && able_in v h.follow p) whole
    ∙ ap (λ (o : Out Shared UserState). is_effective linux v.running.shared p (proc_in v p) && moves (task_mode (at Gone v.running.tasks p)) (task_mode o.task)) (out_is linux h.follow v p)

abbrev readiness_by : Bool → (ℕ → Bool) → ℕ → (ℕ → Bool) → Readiness
readiness_by ready able last_pid finished = record { ready = ready; able = able; last_pid = last_pid; finished = finished }

pub readiness_is : HostsAreReady Shared UserState → (h : HostState) → h.failed ≡ false → readiness_of h ≡ sees (attending_in h.hosting)
readiness_is ready h whole =
    ap₂ (λ r a. readiness_by r a h.hosting.running.shared.limits.last_pid (λ p. is_finished (task_mode (at Gone h.hosting.running.tasks p)))) (ready linux outcome_in h.hosting) (fun_ext (able_is h whole))

-- An event

left_by : (h : Host Shared UserState) (q : Request) (e : Event) → (event linux outcome_in (record { host = h; pending = Some q }) e).attending.pending ≡ left_pending q (event linux outcome_in (record { host = h; pending = Some q }) e).reply
left_by h q (Turn p) = refl
left_by h q Serve = refl

abbrev attending_by : Host Shared UserState → Option Request → Attending Shared UserState
attending_by h q = record { host = h; pending = q }

-- what an event of the host over finite maps is over functions
record Went (h : HostState) (q : Request) (e : Event) (x : Hosted Shared UserState) : Type 0 where
  attending : (event linux outcome_in (attending_by (host_in h.hosting) (Some q)) e).attending ≡ attending_in x.hosting
  reply : (event linux outcome_in (attending_by (host_in h.hosting) (Some q)) e).reply ≡ x.reply
  turned : x.hosting.turns ≡ h.hosting.turns ++ turned linux (host_in h.hosting) e
  fresh : IsFresh x.hosting
  pending : x.hosting.pending ≡ left_pending q x.reply

went : HostsAttendAlike Shared UserState → (h : HostState) (q : Request) (e : Event) → IsFresh h.hosting → h.hosting.pending ≡ Some q
    → Went h q e (hosting_event linux outcome_in h.follow h.hosting e)
went alike h q e fresh asked =
    let a = alike linux outcome_in h.follow h.hosting e fresh in
    let here : attending_in h.hosting ≡ attending_by (host_in h.hosting) (Some q) = ap (attending_by (host_in h.hosting)) asked in
    let there : (event linux outcome_in (attending_by (host_in h.hosting) (Some q)) e).attending ≡ attending_in (hosting_event linux outcome_in h.follow h.hosting e).hosting =
    sym (a.0 ∙ ap (λ (x : Attending Shared UserState). (event linux outcome_in x e).attending) here) in
    let said : (event linux outcome_in (attending_by (host_in h.hosting) (Some q)) e).reply ≡ (hosting_event linux outcome_in h.follow h.hosting e).reply =
    sym (a.1 ∙ ap (λ (x : Attending Shared UserState). (event linux outcome_in x e).reply) here) in
    record {
      attending = there;
      reply = said;
      turned = a.2;
      fresh = a.3;
      pending = ap (λ (x : Attending Shared UserState). x.pending) (sym there) ∙ left_by (host_in h.hosting) q e ∙ ap (left_pending q) said;
    }

-- Events until the request is answered

module _ (ready : HostsAreReady Shared UserState) (alike : HostsAttendAlike Shared UserState) where
  went_so : (h : HostState) (q : Request) (e : Event) → IsFresh h.hosting → h.hosting.pending ≡ Some q → Went h q e (event_of h e)
  went_so h q e fresh asked = went alike h q e fresh asked

  chosen : (h : HostState) (s : Schedule) (q : Request) (e : Option Event) → h.failed ≡ false → h.hosting.pending ≡ Some q → (next_of s (readiness_of h)).event ≡ e
      → next_of_host s (attending_by (host_in h.hosting) (Some q)) ≡ option_map (λ e. (e, (next_of s (readiness_of h)).schedule)) e
  chosen h s q e whole asked is =
      ap (λ r. next_of_host s (attending_by (host_in h.hosting) r)) (sym asked)
      ∙ ap (λ x. given (next_of s x)) (sym (readiness_is ready h whole))
      ∙ ap (option_map (λ e. (e, (next_of s (readiness_of h)).schedule))) is

  abbrev before : HostState → Request → Event → List Event → Option Reply → Host Shared UserState → Called Shared UserState
  before h q e es r g = answered_by r g (turned linux (host_in h.hosting) e) es (λ k. called linux outcome_in k q es)

  over : (h : HostState) (s : Schedule) (q : Request) → IsFresh h.hosting → h.failed ≡ false → h.hosting.pending ≡ Some q → (next_of s (readiness_of h)).event ≡ None
      → IsCalled h.hosting s q (record { host = h; schedule = (next_of s (readiness_of h)).schedule; reply = None }) []
  over h s q fresh whole asked none = record {
    left = s;
    gives = refl;
    host = refl;
    used = refl;
    reply = refl;
    turned = sym (append-nil h.hosting.turns);
    pending = asked;
    fresh = fresh;
    whole = whole;
    goes_on = λ e. absurd (cc e);
    ended = λ e. chosen h s q None whole asked none;
  }

  answered_here : (h : HostState) (s : Schedule) (q : Request) (e : Event) (r : Reply) → IsFresh h.hosting → h.failed ≡ false → h.hosting.pending ≡ Some q → (next_of s (readiness_of h)).event ≡ Some e → (event_of h e).reply ≡ Some r
      → IsCalled h.hosting s q (record { host = after h e; schedule = (next_of s (readiness_of h)).schedule; reply = Some r }) (e ∷ [])
  answered_here h s q e r fresh whole asked some is =
      let w : Went h q e (event_of h e) = went_so h q e fresh asked in
      let c : called linux outcome_in (host_in h.hosting) q (e ∷ []) ≡ before h q e [] (Some r) (host_in (after h e).hosting) =
      ap₂ (before h q e []) (w.reply ∙ is) (ap (λ (x : Attending Shared UserState). x.host) w.attending) in
      record {
        left = (next_of s (readiness_of h)).schedule;
        gives = ((next_of s (readiness_of h)).schedule, (chosen h s q (Some e) whole asked some, refl));
        host = ap (λ (x : Called Shared UserState). x.host) c;
        used = ap (λ (x : Called Shared UserState). x.left) c;
        reply = ap (λ (x : Called Shared UserState). x.reply) c;
        turned = w.turned ∙ ap (λ l. h.hosting.turns ++ l) (sym (ap (λ (x : Called Shared UserState). x.turns) c));
        pending = w.pending ∙ ap (left_pending q) is;
        fresh = w.fresh;
        whole = refl;
        goes_on = λ e. refl;
        ended = λ e. absurd (cc e);
      }

  goes_on_to : (h : HostState) (s : Schedule) (q : Request) (e : Event) (es : List Event) (z : Attended) → IsFresh h.hosting → h.failed ≡ false → h.hosting.pending ≡ Some q → (next_of s (readiness_of h)).event ≡ Some e → (event_of h e).reply ≡ None
      → IsCalled (after h e).hosting (next_of s (readiness_of h)).schedule q z es
      → IsCalled h.hosting s q z (e ∷ es)
  goes_on_to h s q e es z fresh whole asked some is k =
      let w : Went h q e (event_of h e) = went_so h q e fresh asked in
      let c : called linux outcome_in (host_in h.hosting) q (e ∷ es) ≡ before h q e es None (host_in (after h e).hosting) =
      ap₂ (before h q e es) (w.reply ∙ is) (ap (λ (x : Attending Shared UserState). x.host) w.attending) in
      let there : (event linux outcome_in (attending_by (host_in h.hosting) (Some q)) e).attending ≡ attending_by (host_in (after h e).hosting) (Some q) =
      w.attending ∙ ap (attending_by (host_in (after h e).hosting)) (w.pending ∙ ap (left_pending q) is) in
      record {
        left = k.left;
        gives = ((next_of s (readiness_of h)).schedule, (chosen h s q (Some e) whole asked some, subst (λ x. Gives next_of_host linux outcome_in (next_of s (readiness_of h)).schedule x es k.left) (sym there) k.gives));
        host = ap (λ (x : Called Shared UserState). x.host) c ∙ k.host;
        used = ap (λ (x : Called Shared UserState). x.left) c ∙ k.used;
        reply = ap (λ (x : Called Shared UserState). x.reply) c ∙ k.reply;
        turned =
            k.turned
            ∙ ap (λ l. l ++ (called linux outcome_in (host_in (after h e).hosting) q es).turns) w.turned
            ∙ append_assoc h.hosting.turns (turned linux (host_in h.hosting) e) (called linux outcome_in (host_in (after h e).hosting) q es).turns
            ∙ ap (λ l. h.hosting.turns ++ l) (sym (ap (λ (x : Called Shared UserState). x.turns) c));
        pending = k.pending;
        fresh = k.fresh;
        whole = k.whole;
        goes_on = k.goes_on;
        ended = k.ended;
      }

  by_reply : (es : List Event) (h : HostState) (s : Schedule) (q : Request) (e : Event) (z : Attended) → IsFresh h.hosting → h.failed ≡ false → h.hosting.pending ≡ Some q → (next_of s (readiness_of h)).event ≡ Some e
      → ((after h e).hosting.pending ≡ Some q → IsFed (after h e) (next_of s (readiness_of h)).schedule es z → IsCalled (after h e).hosting (next_of s (readiness_of h)).schedule q z es)
      → (r : Option Reply) → (event_of h e).reply ≡ r → GoesOn (after h e) (next_of s (readiness_of h)).schedule es z r (IsFed (after h e) (next_of s (readiness_of h)).schedule es z) → IsCalled h.hosting s q z (e ∷ es)
  by_reply es h s q e z fresh whole asked some again (Some r) is g =
      subst (λ x. IsCalled h.hosting s q x (e ∷ es)) (sym g.1)
      (subst (λ l. IsCalled h.hosting s q (record { host = after h e; schedule = (next_of s (readiness_of h)).schedule; reply = Some r }) (e ∷ l)) (sym g.0) (answered_here h s q e r fresh whole asked some is))
  by_reply es h s q e z fresh whole asked some again None is g =
      goes_on_to h s q e es z fresh whole asked some is (again ((went_so h q e fresh asked).pending ∙ ap (left_pending q) is) g)

  pub is_called : (es : List Event) (h : HostState) (s : Schedule) (q : Request) (z : Attended) → IsFresh h.hosting → h.failed ≡ false → h.hosting.pending ≡ Some q → IsFed h s es z → IsCalled h.hosting s q z es
  is_called [] h s q z fresh whole asked f =
      subst (λ x. IsCalled h.hosting s q x []) (sym f.1) (over h s q fresh whole asked f.0)
  is_called (e ∷ es) h s q z fresh whole asked f =
      by_reply es h s q e z fresh whole asked f.0
      (λ pending g. is_called es (after h e) (next_of s (readiness_of h)).schedule q z (went_so h q e fresh asked).fresh refl pending g)
      (event_of h e).reply refl f.1

pub hosts_are_called : HostsAreReady Shared UserState → HostsAttendAlike Shared UserState → HostsAreCalled
hosts_are_called ready alike h s q z fresh whole asked a = is_called ready alike a.fed h s q z fresh whole asked a.is_fed
