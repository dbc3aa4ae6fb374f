-- What a world comes to while no turn is made.
use Rattle.std.proofs.Common.{◌≡◌, ◌≤◌, ℕ, ◌+◌, Bool, true, false, cond, List, [], ◌∷◌, ◌++◌, length, Option, Some, None, refl, sym, ap, subst, ◌∙◌, arith}
use Rattle.std.proofs.lemmas.List.{length-append}
use Rattle.std.specs.Prelude.{◌&&◌, ◌||◌}
use Rattle.std.specs.Option.{option_to_list}
use Rattle.lx_abi.specs.declared.outcome.Outcome.{Outcome}
use Rattle.lx_abi.specs.declared.ptrace.Ask.TheVariants.{Seize}
use Rattle.lx_abi.specs.declared.ptrace.Reply.{Reply}
use Rattle.lx_abi.specs.declared.ptrace.Reply.TheVariants.{Done as Agreed}
use Rattle.lx_abi.specs.declared.schedule.Event.{Event}
use Rattle.lx_abi.specs.declared.schedule.Event.TheVariants.{Turn, Serve}
use Rattle.lx_abi.specs.declared.status.EventStop.TheVariants.{Stop as At_start}
use Rattle.lx_abi.specs.declared.status.Stop.{Stop}
use Rattle.lx_abi.specs.declared.status.Stop.TheVariants.{Event as Event_stop}
use Rattle.lx_abi.specs.Status.{stop_of, word_of}
use Rattle.lx_model.specs.Kernel.{Script}
use Rattle.lx_model.specs.Machine.{Machine}
use Rattle.lx_model.specs.declared.stage.Stage.TheVariants.{Born}
use Rattle.lx_model.specs.declared.stage.Task.TheVariants.{Alive}
use Rattle.pt_model.specs.Calls.{world_replies, out_of_turns_if}
use Rattle.pt_model.specs.Hosting.{Hosting, host_in, ready_in}
use Rattle.pt_model.specs.Parts.{Options}
use Rattle.pt_model.specs.Ptrace.{Host, Proc, is_there}
use Rattle.pt_model.specs.Replies.{reply_to, replies}
use Rattle.pt_model.specs.Requests.{Answered, answer, answered, take_report, told}
use Rattle.pt_model.specs.Tracer.{Seizing, Resuming, Serving, Waiting, Moved, asked_options, options_word, admits_stop, faults, request, takes, took_status}
use Rattle.pt_model.specs.World.{World, first_world, happens, met, world_run}

-- none of the events is a turn
abbrev pub AreServes : List Event → Type 0
AreServes [] = Unit {0}
AreServes (Serve ∷ es) = AreServes es
AreServes (Turn p ∷ es) = ⊥

start_back : stop_of (word_of (Event_stop At_start)) ≡ Some (Event_stop At_start)
unfolding stop_of
start_back = refl

one_more : (r : Option Reply) (rs : List Reply) (n : ℕ) → length rs ≤ n → length (option_to_list r ++ rs) ≤ n + 1
one_more None rs n l = omega (arith, l)
one_more (Some r) rs n l = omega (arith, l)

one_at_most : (b : Bool) → length (out_of_turns_if b) ≤ 1
one_at_most true = omega arith
one_at_most false = omega arith

module _ {S B : Type 0} (m : Machine S B) (outcome : S → Outcome) (o : Options) (script : Script) (s : S) (b : B) where
  abbrev pub first : World S B
  first = first_world s b

  -- process 1 is seized
  abbrev held_by : Bool → Answered B
  held_by follow = record { proc = record { task = Alive b Born; held = true; options = Some (asked_options follow) }; reply = Agreed; seized = true }

  abbrev pub second : World S B
  second = met o script first (Serving 1 Seizing) (answered first.host 1 (held_by o.follow)) (Some Agreed)

  seizes : (follow : Bool) → answer m 0 (record { task = Alive b Born; held = true; options = None }) (Seize (options_word follow)) ≡ held_by follow
  seizes true = refl
  seizes false = refl

  pub to_second : happens m outcome o script first Serve ≡ second
  to_second = ap (λ (a : Answered B). met o script first (Serving 1 Seizing) (answered first.host 1 a) (Some a.reply)) (seizes o.follow)

  -- its start is told
  abbrev start : Reply
  start = told 1 (Event_stop At_start)

  abbrev heard_start : Option Stop → Moved
  heard_start stop = takes second.tracer Waiting start (took_status o second.tracer.known 1 stop)

  abbrev with_moved : Moved → World S B
  with_moved x = record { host = take_report second.host [] 1 (Event_stop At_start); tracer = x.tracer; printed = second.printed ++ x.printed }

  abbrev pub third : World S B
  third = with_moved (heard_start (Some (Event_stop At_start)))

  admitted : (stop : Option Stop) → stop ≡ Some (Event_stop At_start)
      → cond (admits_stop o 1 (second.tracer.known 1) stop) (heard_start stop) (faults second.tracer) ≡ heard_start (Some (Event_stop At_start))
  admitted stop e =
      subst (λ (x : Option Stop). cond (admits_stop o 1 (second.tracer.known 1) x) (heard_start x) (faults second.tracer) ≡ heard_start (Some (Event_stop At_start))) (sym e) (go o.follow)
    where
      go : (follow : Bool) → cond ((follow || true) && true) (heard_start (Some (Event_stop At_start))) (faults second.tracer) ≡ heard_start (Some (Event_stop At_start))
      go true = refl
      go false = refl

  pub to_third : happens m outcome o script second Serve ≡ third
  to_third = ap (λ (x : Moved). with_moved x) (admitted (stop_of (word_of (Event_stop At_start))) start_back)

  -- it is let go
  abbrev free : Proc B
  free = record { task = Alive b Born; held = false; options = Some (asked_options o.follow) }

  abbrev pub fourth : World S B
  fourth = met o script third (Serving 1 (Resuming 0)) (answered third.host 1 (record { proc = free; reply = Agreed; seized = false })) (Some Agreed)

  to_fourth : happens m outcome o script third Serve ≡ fourth
  to_fourth = refl

  -- and there it stays
  stays : (es : List Event) → AreServes es → (world_run m outcome o script fourth es ≡ fourth) × (replies m outcome o script fourth es ≡ [])
  stays [] a = (refl, refl)
  stays (Serve ∷ es) a = stays es a
  stays (Turn p ∷ es) a = absurd a

  -- so few replies come

  more : (w w' : World S B) (es : List Event) (n : ℕ) → happens m outcome o script w Serve ≡ w' → length (replies m outcome o script w' es) ≤ n
      → length (replies m outcome o script w (Serve ∷ es)) ≤ n + 1
  more w w' es n e l =
      one_more (reply_to m outcome w (request o w.tracer.focus) Serve) (replies m outcome o script (happens m outcome o script w Serve) es) n
      (subst (λ (u : World S B). length (replies m outcome o script u es) ≤ n) (sym e) l)

  few_of_fourth : (es : List Event) → AreServes es → length (replies m outcome o script fourth es) ≤ 0
  few_of_fourth es a = let none : length (replies m outcome o script fourth es) ≡ 0 = ap length (stays es a).1 in omega (arith, none)

  few_of_third : (es : List Event) → AreServes es → length (replies m outcome o script third es) ≤ 1
  few_of_third [] a = omega arith
  few_of_third (Serve ∷ es) a = more third fourth es 0 to_fourth (few_of_fourth es a)
  few_of_third (Turn p ∷ es) a = absurd a

  few_of_second : (es : List Event) → AreServes es → length (replies m outcome o script second es) ≤ 2
  few_of_second [] a = omega arith
  few_of_second (Serve ∷ es) a = more second third es 1 to_third (few_of_third es a)
  few_of_second (Turn p ∷ es) a = absurd a

  few_of_first : (es : List Event) → AreServes es → length (replies m outcome o script first es) ≤ 3
  few_of_first [] a = omega arith
  few_of_first (Serve ∷ es) a = more first second es 2 to_second (few_of_second es a)
  few_of_first (Turn p ∷ es) a = absurd a

  pub few_replies : (es : List Event) → AreServes es → length (world_replies m outcome o script first es) ≤ 4
  few_replies es a =
      let few = few_of_first es a in
      let last = one_at_most (is_there (request o (world_run m outcome o script first es).tracer.focus)) in
      let all = length-append (replies m outcome o script first es) (out_of_turns_if (is_there (request o (world_run m outcome o script first es).tracer.focus))) in
      omega (arith, few, last, all)

  -- and where a request waits, process 1 is free

  module _ (g : Hosting S B) where
    abbrev Frees : World S B → Type 0
    Frees w = w.host ≡ host_in g → g.pending ≡ request o w.tracer.focus → ready_in g.pending g.queue g.tracees ≡ false → host_in g ≡ fourth.host

    at_first : Frees first
    at_first h p waits = let bad : false ≡ true = sym waits ∙ ap (λ q. ready_in q g.queue g.tracees) p in absurd (cc bad)

    at_second : Frees second
    at_second h p waits =
        let queue : second.host.queue ≡ g.queue = ap (λ (x : Host S B). x.queue) h in
        let bad : false ≡ true = sym waits ∙ ap (λ q. ready_in q g.queue g.tracees) p ∙ ap (λ l. ready_in (request o second.tracer.focus) l g.tracees) (sym queue) in
        absurd (cc bad)

    at_third : Frees third
    at_third h p waits = let bad : false ≡ true = sym waits ∙ ap (λ q. ready_in q g.queue g.tracees) p in absurd (cc bad)

    at_fourth : Frees fourth
    at_fourth h p waits = sym h

    later : (w w' : World S B) (es : List Event) → happens m outcome o script w Serve ≡ w' → Frees (world_run m outcome o script w' es) → Frees (world_run m outcome o script w (Serve ∷ es))
    later w w' es e f = subst (λ (u : World S B). Frees (world_run m outcome o script u es)) (sym e) f

    from_fourth : (es : List Event) → AreServes es → Frees (world_run m outcome o script fourth es)
    from_fourth es a = subst (λ (u : World S B). Frees u) (sym (stays es a).0) at_fourth

    from_third : (es : List Event) → AreServes es → Frees (world_run m outcome o script third es)
    from_third [] a = at_third
    from_third (Serve ∷ es) a = later third fourth es to_fourth (from_fourth es a)
    from_third (Turn p ∷ es) a = absurd a

    from_second : (es : List Event) → AreServes es → Frees (world_run m outcome o script second es)
    from_second [] a = at_second
    from_second (Serve ∷ es) a = later second third es to_third (from_third es a)
    from_second (Turn p ∷ es) a = absurd a

    pub frees : (es : List Event) → AreServes es → Frees (world_run m outcome o script first es)
    frees [] a = at_first
    frees (Serve ∷ es) a = later first second es to_second (from_second es a)
    frees (Turn p ∷ es) a = absurd a
