-- The turns of a traced run by words `p` and `p.`.
use Rattle.std.proofs.Common.{◌≡◌, ℕ, ◌-◌, ◌≤◌, ◌<◌, Bool, true, false, cond, List, [], ◌∷◌, ◌++◌, length, Option, Some, None, refl, sym, ap, subst, ◌∙◌, arith}
use Rattle.std.specs.Prelude.{◌==◌, ◌&&◌, min}
use Rattle.std.specs.Option.{option_map}
use Rattle.std.proofs.lemmas.Bool.Decides.{nat_tests}
use Rattle.lx_abi.specs.declared.ptrace.Request.{Request}
use Rattle.lx_abi.specs.declared.schedule.Event.{Event}
use Rattle.lx_abi.specs.declared.schedule.Event.TheVariants.{Turn, Serve}
use Rattle.lx_abi.specs.declared.schedule.Word.{Word}
use Rattle.lx_abi.specs.Scripts.{choice_of}
use Rattle.lx_model.specs.Machine.{IsMachine}
use Rattle.lx_model.specs.Finite.{Is, running_turn}
use Rattle.lx_model.specs.Kernel.{Script, Kernel, kernel_turn, kernel_run, first_kernel}
use Rattle.lx_model.proofs.Bridge.{turn_is, kernels_begin_alike}
use Rattle.lx_proc.specs.declared.state.Shared.{Shared}
use Rattle.lx_proc.specs.declared.state.UserState.{UserState}
use Rattle.lx_turn.specs.Linux.{linux}
use Rattle.lx_kernel.specs.Outcomes.{outcome_in}
use Rattle.lx_kernel.specs.Runs.{Run, after_turn}
use Rattle.lx_kernel.specs.Laws.{after_all}
use Rattle.pt_model.specs.Calls.{attends}
use Rattle.lx_abi.specs.Log.{Noted, pid_of}
use Rattle.pt_model.specs.Headline.{IsTexts, IsTold, IsPast, NothingKeptBack}
use Rattle.pt_model.specs.View.{view, traced, parts, kills, first_of, items_in}
use Rattle.pt_model.specs.Parts.{Options}
use Rattle.pt_model.specs.Ptrace.{is_there, is_effective}
use Rattle.pt_model.specs.Tracer.{request, Focus, Booting, Waiting, Serving, Asking_outcome, Over, Turns_over, Faulted}
use Rattle.pt_model.specs.World.{World, happens, world_run, turns_of, effective, first_world}
use Rattle.pt_model.proofs.Ties.{Tied, hand_at, is_past}
use Rattle.pt_model.proofs.Whole.{happens_tied, all_told, none_kept_back, told_so_far, none_left}
use Rattle.pt_model.proofs.Final.{first_tied}
use Rattle.pt_schedule.specs.Turns.{from_turn}
use Rattle.pt_schedule.specs.declared.worded.Worded.{Worded}
use Rattle.pt_schedule.specs.declared.schedule.Order.TheVariants as order
use Rattle.pt_schedule.specs.declared.schedule.Schedule.{Schedule}
use Rattle.pt_schedule.specs.Schedules.{Readiness, Given, GivenTurn, serve_of, next_worded, next_by, next_of, unserved, turn_given, given_turn, next_turn_of, most_events, events_left}
use Rattle.pt_schedule.specs.Untraced.{readiness_of}
use Rattle.pt_kernel.specs.Seen.{sees, given, next_of_host}
use Rattle.pt_schedule.specs.Eager.{IsEager, GivesTurn, GivesTurns}
use Rattle.pt_kernel.specs.Eager.{GivesEvents, ShowsLog, EagerTurnsArePlain}
use Rattle.pt_schedule.proofs.Cursors.{relimit, still, limited, from_eager, gives_turn, gives_serve, gives_none}
use Rattle.pt_kernel.proofs.Sights.{idle, effective_so, owes_nothing, sight, waits}

-- Schedules of words

abbrev by : Worded → Schedule
by u = record { order = order.Worded u }

abbrev in_order : Given Worded → Given Schedule
in_order g = record { event = g.event; schedule = by g.schedule }

next_is : (u : Worded) (seen : Readiness) → next_of (by u) seen ≡ in_order (next_worded u seen)
unfolding next_by
next_is u seen = refl

-- words without `s` are passed over none
turn_is_next : (u : Worded) (seen : Readiness) → from_turn u.words ≡ u.words → next_turn_of (by u) seen ≡ given_turn (in_order (next_worded u seen))
unfolding next_by unserved
turn_is_next u seen e = ap (λ ws. given_turn (in_order (next_worded (record u { words = ws }) seen))) e

pub first_turn : (u : Worded) (seen : Readiness) → IsEager u → next_turn_of (by u) seen ≡ given_turn (in_order (next_worded u seen))
first_turn u seen h = turn_is_next u seen (from_eager u.words h.words)

-- what is given was given
record Gave (u : Worded) (seen : Readiness) (e : Event) (z : Schedule) : Type 0 where
  event : (next_worded u seen).event ≡ Some e
  left : z ≡ by (next_worded u seen).schedule

one_pair : (a b : Event × Schedule) → Some a ≡ Some b → a ≡ b
one_pair a b h = cc h

gave_by : (g : Given Worded) (x : Option Event) (e : Event) (z : Schedule) → option_map {U = Event × Schedule} (λ e. (e, by g.schedule)) x ≡ Some (e, z) → (x ≡ Some e) × (z ≡ by g.schedule)
gave_by g None e z h = absurd (cc h)
gave_by g (Some x) e z h =
    let pair : ◌≡◌ {A = Event × Schedule} (x, by g.schedule) (e, z) = one_pair (x, by g.schedule) (e, z) h in
    (ap (λ (a : Event × Schedule). Some a.0) pair, sym (ap (λ (a : Event × Schedule). a.1) pair))

gave : (u : Worded) (seen : Readiness) (e : Event) (z : Schedule) → given (next_of (by u) seen) ≡ Some (e, z) → Gave u seen e z
gave u seen e z h =
    let it = gave_by (next_worded u seen) (next_worded u seen).event e z (ap given (sym (next_is u seen)) ∙ h) in
    record { event = it.0; left = it.1 }

none_event : (g : Given Worded) (x : Option Event) → option_map {U = Event × Schedule} (λ e. (e, by g.schedule)) x ≡ None → x ≡ None
none_event g None h = refl
none_event g (Some x) h = absurd (cc h)

gave_none : (u : Worded) (seen : Readiness) → given (next_of (by u) seen) ≡ None → (next_worded u seen).event ≡ None
gave_none u seen h = none_event (next_worded u seen) (next_worded u seen).event (ap given (sym (next_is u seen)) ∙ h)

same_event : (x : Option Event) (e f : Event) → x ≡ Some e → x ≡ Some f → e ≡ f
same_event x e f h k = cc (sym h ∙ k)

none_some : (x : Option Event) (e : Event) → x ≡ None → x ≡ Some e → ⊥
none_some x e h k = cc (sym h ∙ k)

some_more : (n : ℕ) → 0 < n → (n == 0) ≡ false
some_more n l = grind (arith, nat_tests)

module _ (laws : IsMachine linux) (words : IsTold linux) (o : Options) (texts : IsTexts o.texts) where
  -- world, kernel and schedule stand so
  record Stands (w : World Shared UserState) (k : Run) (u : Worded) : Type 0 where
    kernel : Kernel Shared UserState
    tied : Tied linux o (choice_of k.script) false w kernel
    is : Is k.running kernel
    follow : k.follow ≡ o.follow
    eager : IsEager u

  -- what is to be shown
  record Ran (script : Script) (k : Run) (u : Worded) (n : ℕ) (w : World Shared UserState) (turns : List ℕ) (y : Schedule) (kernel : Kernel Shared UserState) : Type 0 where
    last : Worded
    more : ℕ
    gives : GivesTurns k (by (relimit n u)) turns (after_all k turns) (by (relimit more last))
    left : y ≡ by last
    stands : Stands w (after_all k turns) last
    counted : stands.kernel ≡ kernel_run linux script o.follow kernel turns

  some_left : (z : Bool) (u : Worded) (seen : Readiness) (e : Event) → (u.left == 0) ≡ z → (next_worded u seen).event ≡ Some e → z ≡ false
  some_left true u seen e h g = absurd (none_some (next_worded u seen).event e (ap (λ (x : Given Worded). x.event) (gives_none u seen h)) g)
  some_left false u seen e h g = refl

  -- a turn is made
  turn_made : (w : World Shared UserState) (q : Option Request) (p : ℕ) → is_there q ≡ true → is_effective linux w.host.shared p (w.host.procs p) ≡ true → turns_of linux w q (Turn p) ≡ p ∷ []
  turn_made w None p a e = absurd (cc a)
  turn_made w (Some q) p a e = rw e refl

  no_turn_made : (w : World Shared UserState) (q : Option Request) → turns_of linux w q Serve ≡ []
  no_turn_made w None = refl
  no_turn_made w (Some q) = refl

  -- a request is served
  abbrev after_serve : (w : World Shared UserState) (k : Run) (u : Worded) → Stands w k u → Stands (happens linux outcome_in o (choice_of k.script) w Serve) k (record u { left = u.left - 1 })
  after_serve w k u s = record {
    kernel = s.kernel;
    tied = subst (λ ps. Tied linux o (choice_of k.script) false (happens linux outcome_in o (choice_of k.script) w Serve) (kernel_run linux (choice_of k.script) o.follow s.kernel ps)) (no_turn_made w (request o w.tracer.focus)) (happens_tied linux o (choice_of k.script) false w s.kernel outcome_in laws words texts s.tied Serve tt);
    is = s.is;
    follow = s.follow;
    eager = record { serving = s.eager.serving; words = s.eager.words };
  }

  abbrev after_turned : (w : World Shared UserState) (k : Run) (u v : Worded) (s : Stands w k u) (p : ℕ) → turns_of linux w (request o w.tracer.focus) (Turn p) ≡ p ∷ [] → waits o k w s.kernel s.tied s.is s.follow → IsEager v → Stands (happens linux outcome_in o (choice_of k.script) w (Turn p)) (after_turn k p) v
  after_turned w k u v s p made idle eager = record {
    kernel = kernel_turn linux (choice_of k.script) o.follow s.kernel p;
    tied = subst (λ ps. Tied linux o (choice_of k.script) false (happens linux outcome_in o (choice_of k.script) w (Turn p)) (kernel_run linux (choice_of k.script) o.follow s.kernel ps)) made (happens_tied linux o (choice_of k.script) false w s.kernel outcome_in laws words texts s.tied (Turn p) (λ e. owes_nothing o k w s.kernel s.tied s.is s.follow idle p));
    is = subst (λ f. Is (running_turn linux (choice_of k.script) k.follow k.running p) (kernel_turn linux (choice_of k.script) f s.kernel p)) s.follow (turn_is linux (choice_of k.script) k.follow k.running s.kernel s.is p);
    follow = s.follow;
    eager = eager;
  }

  abbrev turns_by : Run → World Shared UserState → List Event → List ℕ
  turns_by k w es = effective linux outcome_in o (choice_of k.script) w es

  abbrev Again : List Event → Type 0
  Again es =
      (w : World Shared UserState) (k : Run) (u : Worded) (n : ℕ) (y : Schedule) → (s : Stands w k u) → GivesEvents o (choice_of k.script) (by u) w es y → length (turns_by k w es) ≤ n
      → Ran (choice_of k.script) k u n (world_run linux outcome_in o (choice_of k.script) w es) (turns_by k w es) y s.kernel

  -- an event while a request is ready
  on_serve : (es : List Event) → Again es → (w : World Shared UserState) (k : Run) (u : Worded) (n : ℕ) (y : Schedule) → (s : Stands w k u) → (e : Event) → e ≡ Serve
      → GivesEvents o (choice_of k.script) (by (record u { left = u.left - 1 })) (happens linux outcome_in o (choice_of k.script) w e) es y
      → length (turns_by k w (e ∷ es)) ≤ n
      → Ran (choice_of k.script) k u n (world_run linux outcome_in o (choice_of k.script) w (e ∷ es)) (turns_by k w (e ∷ es)) y s.kernel
  on_serve es again w k u n y s Serve f g l =
      let none : turns_of linux w (request o w.tracer.focus) Serve ≡ [] = no_turn_made w (request o w.tracer.focus) in
      let same : turns_by k w (Serve ∷ es) ≡ turns_by k (happens linux outcome_in o (choice_of k.script) w Serve) es = ap (λ ps. ps ++ turns_by k (happens linux outcome_in o (choice_of k.script) w Serve) es) none in
      subst (λ ps. Ran (choice_of k.script) k u n (world_run linux outcome_in o (choice_of k.script) w (Serve ∷ es)) ps y s.kernel) (sym same)
      (widened (again (happens linux outcome_in o (choice_of k.script) w Serve) k (record u { left = u.left - 1 }) n y (after_serve w k u s) g (subst (λ ps. length ps ≤ n) same l)))
    where
      widened : {ps : List ℕ} {v : World Shared UserState} → Ran (choice_of k.script) k (record u { left = u.left - 1 }) n v ps y s.kernel → Ran (choice_of k.script) k u n v ps y s.kernel
      widened r = record { last = r.last; more = r.more; gives = r.gives; left = r.left; stands = r.stands; counted = r.counted }
  on_serve es again w k u n y s (Turn p) f g l = absurd (cc f)

  -- and while none is
  on_turn : (es : List Event) → Again es → (w : World Shared UserState) (k : Run) (u v : Worded) (n : ℕ) (y : Schedule) → (s : Stands w k u) → IsEager v → (p : ℕ) → waits o k w s.kernel s.tied s.is s.follow
      → turns_of linux w (request o w.tracer.focus) (Turn p) ≡ p ∷ []
      → ((i : ℕ) → (i == 0) ≡ false → next_turn_of (by (relimit i u)) (readiness_of k) ≡ record { pid = Some p; schedule = by (relimit (i - 1) v) })
      → GivesEvents o (choice_of k.script) (by v) (happens linux outcome_in o (choice_of k.script) w (Turn p)) es y
      → length (turns_by k w (Turn p ∷ es)) ≤ n
      → Ran (choice_of k.script) k u n (world_run linux outcome_in o (choice_of k.script) w (Turn p ∷ es)) (turns_by k w (Turn p ∷ es)) y s.kernel
  on_turn es again w k u v n y s eager p idle made next g l =
      let rest : List ℕ = turns_by k (happens linux outcome_in o (choice_of k.script) w (Turn p)) es in
      let same : turns_by k w (Turn p ∷ es) ≡ p ∷ rest = ap (λ ps. ps ++ rest) made in
      subst (λ ps. Ran (choice_of k.script) k u n (world_run linux outcome_in o (choice_of k.script) w (Turn p ∷ es)) ps y s.kernel) (sym same)
      (turned n (subst (λ ps. length ps ≤ n) same l))
    where
      later : (i : ℕ) → length (turns_by k (happens linux outcome_in o (choice_of k.script) w (Turn p)) es) ≤ i → Ran (choice_of k.script) (after_turn k p) v i (world_run linux outcome_in o (choice_of k.script) (happens linux outcome_in o (choice_of k.script) w (Turn p)) es) (turns_by k (happens linux outcome_in o (choice_of k.script) w (Turn p)) es) y (kernel_turn linux (choice_of k.script) o.follow s.kernel p)
      later i l = again (happens linux outcome_in o (choice_of k.script) w (Turn p)) (after_turn k p) v i y (after_turned w k u v s p made idle eager) g l

      turned : (n : ℕ) → length (p ∷ turns_by k (happens linux outcome_in o (choice_of k.script) w (Turn p)) es) ≤ n → Ran (choice_of k.script) k u n (world_run linux outcome_in o (choice_of k.script) w (Turn p ∷ es)) (p ∷ turns_by k (happens linux outcome_in o (choice_of k.script) w (Turn p)) es) y s.kernel
      turned i l =
          let rest : List ℕ = turns_by k (happens linux outcome_in o (choice_of k.script) w (Turn p)) es in
          let some : (i == 0) ≡ false = some_more i (omega (arith, l)) in
          let r : Ran (choice_of k.script) (after_turn k p) v (i - 1) (world_run linux outcome_in o (choice_of k.script) (happens linux outcome_in o (choice_of k.script) w (Turn p)) es) rest y (kernel_turn linux (choice_of k.script) o.follow s.kernel p) = later (i - 1) (omega (arith, l)) in
          record {
            last = r.last;
            more = r.more;
            gives = (
              ap (λ (x : GivenTurn). x.pid) (next i some),
              subst (λ (x : Schedule). GivesTurns (after_turn k p) x rest (after_all (after_turn k p) rest) (by (relimit r.more r.last))) (sym (ap (λ (x : GivenTurn). x.schedule) (next i some))) r.gives,
            );
            left = r.left;
            stands = r.stands;
            counted = r.counted;
          }

  -- the turn of the kernel is the one that the schedule gave the world
  next_here : (w : World Shared UserState) (k : Run) (u : Worded) (s : Stands w k u) (seen : Readiness) → seen ≡ readiness_of k → (u.left == 0) ≡ false → (p : ℕ) → (next_worded u seen).event ≡ Some (Turn p)
      → (i : ℕ) → (i == 0) ≡ false → next_turn_of (by (relimit i u)) (readiness_of k) ≡ record { pid = Some p; schedule = by (relimit (i - 1) (next_worded u seen).schedule) }
  next_here w k u s seen e z p g i some =
      ap (next_turn_of (by (relimit i u))) (sym e)
      ∙ first_turn (relimit i u) seen (record { serving = s.eager.serving; words = s.eager.words })
      ∙ ap (λ x. given_turn (in_order x)) (limited i seen u some z)
      ∙ ap given_as g
    where
      given_as : Option Event → GivenTurn
      given_as x = record { pid = turn_given x; schedule = by (relimit (still x (i - 1)) (next_worded u seen).schedule) }

  at_event : (es : List Event) → Again es → (w : World Shared UserState) (k : Run) (u : Worded) (n : ℕ) (y : Schedule) (s : Stands w k u) (e : Event) (z : Schedule)
      → is_there (request o w.tracer.focus) ≡ true → Gave u (sees (attends o w)) e z
      → GivesEvents o (choice_of k.script) z (happens linux outcome_in o (choice_of k.script) w e) es y
      → length (turns_by k w (e ∷ es)) ≤ n
      → (ready : Bool) → (sees (attends o w)).ready ≡ ready
      → Ran (choice_of k.script) k u n (world_run linux outcome_in o (choice_of k.script) w (e ∷ es)) (turns_by k w (e ∷ es)) y s.kernel
  at_event es again w k u n y s e z asks h g l true r =
      let some : (u.left == 0) ≡ false = some_left (u.left == 0) u (sees (attends o w)) e refl h.event in
      let it : next_worded u (sees (attends o w)) ≡ serve_of u = gives_serve u (sees (attends o w)) s.eager r some in
      on_serve es again w k u n y s e (same_event (next_worded u (sees (attends o w))).event e Serve h.event (ap (λ (x : Given Worded). x.event) it))
      (subst (λ x. GivesEvents o (choice_of k.script) x (happens linux outcome_in o (choice_of k.script) w e) es y) (h.left ∙ ap (λ (x : Given Worded). by x.schedule) it) g) l
  at_event es again w k u n y s e z asks h g l false r =
      let some : (u.left == 0) ≡ false = some_left (u.left == 0) u (sees (attends o w)) e refl h.event in
      let it : GivesTurn (next_worded u (sees (attends o w))) = gives_turn u (sees (attends o w)) s.eager r some in
      let turn : (p : ℕ) × (e ≡ Turn p) = it.turns e h.event in
      let i = idle o k w s.kernel s.tied s.is s.follow asks r in
      let seen : sees (attends o w) ≡ readiness_of k = sight o k w s.kernel s.tied s.is s.follow laws words i r in
      subst (λ x. GivesEvents o (choice_of k.script) z (happens linux outcome_in o (choice_of k.script) w x) es y → length (turns_by k w (x ∷ es)) ≤ n → Ran (choice_of k.script) k u n (world_run linux outcome_in o (choice_of k.script) w (x ∷ es)) (turns_by k w (x ∷ es)) y s.kernel) (sym turn.1)
      (λ g l. on_turn es again w k u (next_worded u (sees (attends o w))).schedule n y s it.eager turn.0 i
      (turn_made w (request o w.tracer.focus) turn.0 asks (effective_so o k w s.kernel s.tied s.is s.follow i turn.0))
      (next_here w k u s (sees (attends o w)) seen some turn.0 (h.event ∙ ap (λ x. Some x) turn.1))
      (subst (λ x. GivesEvents o (choice_of k.script) x (happens linux outcome_in o (choice_of k.script) w (Turn turn.0)) es y) h.left g) l)
      g l

  all_events : (es : List Event) → Again es
  all_events [] w k u n y s g l = record { last = u; more = n; gives = (refl, refl); left = g; stands = s; counted = refl }
  all_events (e ∷ es) w k u n y s g l =
      at_event es (all_events es) w k u n y s e g.0 g.1.0 (gave u (sees (attends o w)) e g.0 g.1.1) g.1.2 l (sees (attends o w)).ready refl

  -- the end
  none_more : (u : Worded) (seen : Readiness) → IsEager u → (u.left == 0) ≡ false → (next_worded u seen).event ≡ None → (n : ℕ) → (next_turn_of (by (relimit n u)) seen).pid ≡ None
  none_more u seen h z e n = go (n == 0) refl
    where
      go : (y : Bool) → (n == 0) ≡ y → (next_turn_of (by (relimit n u)) seen).pid ≡ None
      go true d =
          ap (λ (x : GivenTurn). x.pid) (first_turn (relimit n u) seen (record { serving = h.serving; words = h.words }))
          ∙ ap (λ (x : Given Worded). turn_given x.event) (gives_none (relimit n u) seen d)
      go false d =
          ap (λ (x : GivenTurn). x.pid) (first_turn (relimit n u) seen (record { serving = h.serving; words = h.words }))
          ∙ ap (λ (x : Given Worded). turn_given x.event) (limited n seen u d z)
          ∙ ap turn_given e

  not_ready : (u : Worded) (seen : Readiness) (r : Bool) → IsEager u → (u.left == 0) ≡ false → (next_worded u seen).event ≡ None → seen.ready ≡ r → r ≡ false
  not_ready u seen true h z e r = absurd (none_some (next_worded u seen).event Serve e (ap (λ (x : Given Worded). x.event) (gives_serve u seen h r z)))
  not_ready u seen false h z e r = refl

  ends_so : (w : World Shared UserState) (k : Run) (u : Worded) (s : Stands w k u) → is_there (request o w.tracer.focus) ≡ true → 0 < u.left → next_of_host (by u) (attends o w) ≡ None → (n : ℕ) → (next_turn_of (by (relimit n u)) (readiness_of k)).pid ≡ None
  ends_so w k u s asks l none n =
      let z : (u.left == 0) ≡ false = some_more u.left l in
      let e : (next_worded u (sees (attends o w))).event ≡ None = gave_none u (sees (attends o w)) none in
      let r : (sees (attends o w)).ready ≡ false = not_ready u (sees (attends o w)) (sees (attends o w)).ready s.eager z e refl in
      let i = idle o k w s.kernel s.tied s.is s.follow asks r in
      subst (λ x. (next_turn_of (by (relimit n u)) x).pid ≡ None) (sight o k w s.kernel s.tied s.is s.follow laws words i r)
      (none_more u (sees (attends o w)) s.eager z e n)

-- what is shown

one_spared : (b c : Bool) (x y : List Noted) → b ≡ false → cond (b && c) x y ≡ y
one_spared true c x y e = absurd (cc e)
one_spared false c x y e = refl

view_spared : (lost : ℕ → Bool) → ((q : ℕ) → lost q ≡ false) → (log : List Noted) → view lost log ≡ log
view_spared lost h [] = refl
view_spared lost h (n ∷ log) =
    one_spared (lost (pid_of n.item)) (kills (first_of (pid_of n.item) log)) (view lost log) (n ∷ view lost log) (h (pid_of n.item)) ∙ ap (λ l. n ∷ l) (view_spared lost h log)

past_if : (focus : Focus) → IsPast focus → is_past focus ≡ true
past_if Booting h = absurd h
past_if Waiting h = absurd h
past_if (Serving p st) h = absurd h
past_if Asking_outcome h = refl
past_if (Over x) h = refl
past_if Turns_over h = absurd h
past_if Faulted h = absurd h

shown_at : (o : Options) (script : Script) (w : World Shared UserState) (kernel : Kernel Shared UserState) → Tied linux o script false w kernel → ShowsLog o w kernel
shown_at o script w kernel t =
    let log : List Noted = traced o.follow kernel.log in
    let all : view t.lost log ≡ log = view_spared t.lost (t.spared refl) log in
    record {
      tells = record {
        later = parts o (hand_at linux t.phases w.tracer.focus ++ items_in t.rest);
        begins = told_so_far linux o script false w kernel t ∙ ap (parts o) all;
        whole = λ h. all_told linux o script false w kernel t (past_if w.tracer.focus h) ∙ ap (parts o) all;
      };
      kept_back = λ e. subst (λ v. NothingKeptBack o w.host.queue w.printed v) all (none_kept_back linux o script false w kernel t e);
      ended = λ h q tr. none_left linux o script false w kernel t (past_if w.tracer.focus h) q tr;
    }

script_kept : (ps : List ℕ) (k : Run) → (after_all k ps).script ≡ k.script
script_kept [] k = refl
script_kept (p ∷ ps) k = script_kept ps (after_turn k p)

abbrev at_first : List Word → ℕ → Worded
at_first ws n = record { words = ws; serving = true; returning = None; row = None; left = n }

pub eager_plain : IsMachine linux → IsTold linux → EagerTurnsArePlain
unfolding EagerTurnsArePlain
eager_plain laws words o texts k s b begun follow ws eager limit n events y g l most =
    let script : Script = choice_of k.script in
    let u : Worded = at_first ws (min limit most_events) in
    let stands : Stands laws words o texts (first_world s b) k u = record {
      kernel = first_kernel s b;
      tied = first_tied linux o script s b false;
      is = subst (λ v. Is v (first_kernel s b)) (sym begun) (kernels_begin_alike s b);
      follow = follow;
      eager = record { serving = refl; words = eager };
    } in
    let ran : Ran laws words o texts script k u n (world_run linux outcome_in o script (first_world s b) events) (effective linux outcome_in o script (first_world s b) events) y (first_kernel s b) = all_events laws words o texts events (first_world s b) k u n y stands g l in
    let enough : min n most_events ≡ n = omega (arith, most) in
    record {
      left = by (relimit ran.more ran.last);
      given = subst (λ i. GivesTurns k (by (at_first ws i)) (effective linux outcome_in o script (first_world s b) events) (after_all k (effective linux outcome_in o script (first_world s b) events)) (by (relimit ran.more ran.last))) (sym enough) ran.gives;
      ended = λ h. ends_so laws words o texts (world_run linux outcome_in o script (first_world s b) events) (after_all k (effective linux outcome_in o script (first_world s b) events)) ran.last ran.stands h.asks
          (subst (λ x. 0 < events_left x) ran.left h.more) (subst (λ x. next_of_host x (attends o (world_run linux outcome_in o script (first_world s b) events)) ≡ None) ran.left h.none) ran.more;
      shows = shown_at o script (world_run linux outcome_in o script (first_world s b) events) (kernel_run linux script o.follow (first_kernel s b) (effective linux outcome_in o script (first_world s b) events)) (subst (λ x. Tied linux o script false (world_run linux outcome_in o script (first_world s b) events) x) ran.counted (subst (λ c. Tied linux o (choice_of c) false (world_run linux outcome_in o script (first_world s b) events) ran.stands.kernel) (script_kept (effective linux outcome_in o script (first_world s b) events) k) ran.stands.tied));
    }
