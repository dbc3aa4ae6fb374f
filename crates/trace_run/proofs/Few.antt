-- A link in memory gives no more replies than its schedule has events, but for one OutOfTurns.
use Rattle.std.proofs.Common.{◌≡◌, ◌+◌, ◌≤◌, true, List, [], ◌∷◌, ◌++◌, Option, Some, None, refl, sym, ap, ◌∙◌, arith}
use Rattle.std.specs.Prelude.{length}
use Rattle.std.specs.Option.{option_map}
use Rattle.lx_abi.specs.declared.ptrace.Reply.{Reply}
use Rattle.lx_abi.specs.declared.ptrace.Reply.TheVariants.{OutOfTurns as Out_of_turns}
use Rattle.lx_abi.specs.declared.ptrace.Request.{Request}
use Rattle.lx_abi.specs.declared.schedule.Event.{Event}
use Rattle.lx_proc.specs.declared.state.Shared.{Shared}
use Rattle.lx_proc.specs.declared.state.UserState.{UserState}
use Rattle.lx_turn.specs.Linux.{linux}
use Rattle.lx_kernel.specs.Outcomes.{outcome_in}
use Rattle.lx_model.specs.Kernel.{Script}
use Rattle.pt_model.specs.Attending.{Attending, event, called, reply_or, Gives}
use Rattle.pt_model.specs.Calls.{CallsOver, TalksOver, OutOfTurnsShowsNothing}
use Rattle.pt_model.specs.Parts.{Options}
use Rattle.pt_model.specs.Ptrace.{Host, is_there}
use Rattle.pt_model.specs.Tracer.{Tracer, Turns_over, request, next}
use Rattle.pt_kernel.specs.Seen.{sees, next_of_host}
use Rattle.pt_schedule.specs.Few.{EventsAreFew}
use Rattle.pt_schedule.specs.Schedules.{Given, next_of, events_left}
use Rattle.pt_schedule.specs.declared.schedule.Schedule.{Schedule}
use Rattle.host_link.specs.LocalLinks.{given_of}
use Rattle.host_link.specs.declared.local.LocalLink.{LocalLink}
use Rattle.trace_run.specs.LocalRuns.{local_answers}
use Rattle.trace_run.specs.Runs.{Leads}

-- a link counts its replies
pub replies_counted : (xs : List (Request × Reply)) (a b : LocalLink) → Leads local_answers a xs b → given_of b ≡ given_of a + length xs
replies_counted [] a b h = omega (arith, ap given_of h)
replies_counted (x ∷ xs) a b h =
    let one : given_of h.0 ≡ given_of a + 1 = h.1.0.counted in
    omega (arith, one, replies_counted xs h.0 b h.1.1)

-- an event that is given, and what is left then
record IsGiven (g : Given Schedule) (e : Event) (y : Schedule) : Type 0 where
  gave : g.event ≡ Some e
  left : g.schedule ≡ y

the_event : Event → Option (Event × Schedule) → Event
the_event e None = e
the_event e (Some x) = x.0

the_rest : Schedule → Option (Event × Schedule) → Schedule
the_rest y None = y
the_rest y (Some x) = x.1

is_given : (g : Given Schedule) (o : Option Event) → g.event ≡ o → (e : Event) (y : Schedule) → option_map {U = Event × Schedule} (λ z. (z, g.schedule)) o ≡ Some (e, y) → IsGiven g e y
unfolding the_event the_rest
is_given g None p e y h = absurd (cc h)
is_given g (Some z) p e y h = record { gave = p ∙ ap (λ v. Some v) (ap (the_event e) h); left = ap (the_rest y) h }

length_of : {A : Type 0} (xs ys : List A) → length (xs ++ ys) ≡ length xs + length ys
length_of [] ys = omega arith
length_of (x ∷ xs) ys = omega (arith, length_of xs ys)

-- a request is answered by an event at least
one_event : (h : Host Shared UserState) (q : Request) (fed : List Event) → is_there (called linux outcome_in h q fed).reply ≡ true → 1 ≤ length fed
one_event h q [] e = absurd (cc e)
one_event h q (x ∷ fed) e = omega arith

module _ (few : EventsAreFew) where
  given_few : (x : Schedule) (a : Attending Shared UserState) (e : Event) (y : Schedule) → next_of_host x a ≡ Some (e, y) → events_left y + 1 ≡ events_left x
  given_few x a e y h =
      let is : IsGiven (next_of x (sees a)) e y = is_given (next_of x (sees a)) (next_of x (sees a)).event refl e y h in
      ap (λ s. events_left s + 1) (sym is.left) ∙ few x (sees a) e is.gave

  gives_few : (fed : List Event) (x y : Schedule) (a : Attending Shared UserState) → Gives next_of_host linux outcome_in x a fed y → length fed + events_left y ≡ events_left x
  gives_few [] x y a g = omega (arith, ap events_left g)
  gives_few (e ∷ es) x y a g = omega (arith, given_few x a e g.0 g.1.0, gives_few es g.0 y (event linux outcome_in a e).attending g.1.1)

  module _ (shows_nothing : OutOfTurnsShowsNothing) (o : Options) (script : Script) where
    over : (xs : List (Request × Reply)) (t : Tracer) (x : Schedule) (h : Host Shared UserState) (events : List Event) → t.focus ≡ Turns_over
        → TalksOver next_of_host linux outcome_in o script t x h events xs → length xs ≤ 0
    over [] t x h events f k = omega arith
    over (e ∷ xs) t x h events f k = absurd (cc (sym k.1.1.1.1.1 ∙ ap (request o) f))

    pub record AreFew (xs : List (Request × Reply)) (events : List Event) (x : Schedule) : Type 0 where
      pub replies : length xs ≤ length events + 1
      pub given : length events ≤ events_left x

    -- one more reply, by the events that it took
    one_more : (xs : List (Request × Reply)) (t : Tracer) (x y : Schedule) (h g : Host Shared UserState) (q : Request) (r : Reply) (fed rest events : List Event)
        → length events ≡ length fed + length rest → request o t.focus ≡ Some q → CallsOver next_of_host linux outcome_in x h q fed r y g
        → TalksOver next_of_host linux outcome_in o script (next o script t r).tracer y g rest xs → length xs ≤ length rest + 1
        → (reply : Option Reply) → (called linux outcome_in h q fed).reply ≡ reply → length xs + 1 ≤ length events + 1
    one_more xs t x y h g q r fed rest events all asked c talk few (Some s) p = omega (arith, one_event h q fed (ap is_there p), few, all)
    one_more xs t x y h g q r fed rest events all asked c talk few None p =
        let out : r ≡ Out_of_turns = c.reply ∙ ap reply_or p in
        let ended : (next o script t r).tracer.focus ≡ Turns_over = ap (λ z. (next o script t z).tracer.focus) out ∙ (shows_nothing o script t (ap is_there asked)).1 in
        omega (arith, over xs (next o script t r).tracer y g rest ended talk)

    pub talk_few : (xs : List (Request × Reply)) (t : Tracer) (x : Schedule) (h : Host Shared UserState) (events : List Event)
        → TalksOver next_of_host linux outcome_in o script t x h events xs → AreFew xs events x
    talk_few [] t x h events k = record { replies = omega arith; given = omega (arith, ap length k) }
    talk_few (e ∷ xs) t x h events k =
        let used : length k.0 + events_left k.1.1.0 ≡ events_left x = gives_few k.0 x k.1.1.0 (record { host = h; pending = Some e.0 }) k.1.1.1.1.2.gives in
        let all : length events ≡ length k.0 + length k.1.0 = ap length k.1.1.1.1.0 ∙ length_of k.0 k.1.0 in
        let again : AreFew xs k.1.0 k.1.1.0 = talk_few xs (next o script t e.1).tracer k.1.1.0 k.1.1.1.0 k.1.0 k.1.1.1.1.3 in
        record {
          replies = omega (arith, one_more xs t x k.1.1.0 h k.1.1.1.0 e.0 e.1 k.0 k.1.0 events all k.1.1.1.1.1 k.1.1.1.1.2 k.1.1.1.1.3 again.replies (called linux outcome_in h e.0 k.0).reply refl);
          given = omega (arith, used, again.given, all);
        }
