-- The world runs by a journal's events as the journal's host does.
use Rattle.std.proofs.Common.{◌≡◌, ℕ, Bool, true, List, [], ◌∷◌, ◌++◌, Option, Some, None, refl, sym, ap, subst, ◌∙◌, inl, inr, append_assoc, append-nil}
use Rattle.std.specs.Prelude.{◌⊎◌, map}
use Rattle.std.specs.Option.{option_to_list}
use Rattle.lx_abi.specs.declared.outcome.Outcome.{Outcome}
use Rattle.lx_abi.specs.declared.ptrace.Reply.{Reply}
use Rattle.lx_abi.specs.declared.ptrace.Reply.TheVariants.{OutOfTurns as Out_of_turns}
use Rattle.lx_abi.specs.declared.ptrace.Request.{Request}
use Rattle.lx_abi.specs.declared.schedule.Event.{Event}
use Rattle.lx_abi.specs.declared.schedule.Event.TheVariants.{Turn, Serve}
use Rattle.lx_model.specs.Kernel.{Script}
use Rattle.lx_model.specs.Machine.{Machine}
use Rattle.pt_model.specs.Attending.{Attending, serve_pending, left_pending, turned}
use Rattle.pt_model.specs.Calls.{world_replies, out_of_turns_if}
use Rattle.pt_model.specs.Hosting.{Hosting, host_in, IsFresh, with_pending, hosting_event, hosting_turn, first_hosting}
use Rattle.pt_model.specs.HostLaws.{HostsAttendAlike, HostsBeginAlike}
use Rattle.pt_model.specs.Parts.{Options}
use Rattle.pt_model.specs.Ptrace.{Host, host_turn, is_there}
use Rattle.pt_model.specs.Replies.{reply_to, replies}
use Rattle.pt_model.specs.Requests.{serve}
use Rattle.pt_model.specs.Tracer.{request, next}
use Rattle.pt_model.specs.World.{World, met, happens, happens_asked, world_run, turns_of, effective, first_world}
use Rattle.pt_journal.specs.Journals.{events_of, Replays}
use Rattle.pt_journal.specs.Told.{Told}
use Rattle.pt_journal.specs.Telling.{Asks, AsksAtEach, JournalsTell}
use Rattle.pt_journal.specs.declared.entry.Entry.{Entry}
use Rattle.pt_journal.specs.declared.entry.Entry.TheVariants.{Ask, Did}

abbrev answers_in : List (Request × Reply) → List Reply
answers_in xs = map (λ x. x.1) xs

-- the request that is pending is the one that is answered next
abbrev pub IsNext : Option Request → List (Request × Reply) → Type 0
IsNext None xs = Unit {0}
IsNext (Some q) [] = ⊥
IsNext (Some q) (x ∷ xs) = q ≡ x.0

pub next_of : (p : Option Request) (x : Request × Reply) (xs : List (Request × Reply)) → is_there p ≡ true → IsNext p (x ∷ xs) → p ≡ Some x.0
next_of None x xs there due = absurd (cc there)
next_of (Some q) x xs there due = ap (λ z. Some z) due

module _ {S B : Type 0} (m : Machine S B) (outcome : S → Outcome) (follow : Bool) (o : Options) (script : Script)
    (alike : HostsAttendAlike S B) where
  -- what is shown of entries that lead from v to g, where the world stands at w
  record Ran (v : Hosting S B) (w : World S B) (events : List Event) (g : Hosting S B) (rs : List Reply) : Type 0 where
    pub host : (world_run m outcome o script w events).host ≡ host_in g
    pub turned : g.turns ≡ v.turns ++ effective m outcome o script w events
    pub more : List Reply
    pub own : rs ++ more ≡ world_replies m outcome o script w events
    pub asked : AsksAtEach m outcome o script w events
    pub pending : is_there g.pending ≡ true → g.pending ≡ request o (world_run m outcome o script w events).tracer.focus

  -- an event of both
  pub record Stepped (v v' : Hosting S B) (w w' : World S B) (e : Event) (r : Option Reply) : Type 0 where
    pub went : happens m outcome o script w e ≡ w'
    pub host : w'.host ≡ host_in v'
    pub replied : reply_to m outcome w (request o w.tracer.focus) e ≡ r
    pub turned : v'.turns ≡ v.turns ++ turns_of m w (request o w.tracer.focus) e
    pub asked : is_there (request o w.tracer.focus) ≡ true

  ran_on : (v v' g : Hosting S B) (w w' : World S B) (e : Event) (r : Option Reply) (es : List Event) (rs rs' : List Reply)
      → Stepped v v' w w' e r → Ran v' w' es g rs' → rs ≡ option_to_list r ++ rs' → Ran v w (e ∷ es) g rs
  ran_on v v' g w w' e r es rs rs' s x same =
      let t : List ℕ = turns_of m w (request o w.tracer.focus) e in
      let out : World S B → List Reply = λ u. out_of_turns_if (is_there (request o (world_run m outcome o script u es).tracer.focus)) in
      record {
        host = ap (λ (u : World S B). (world_run m outcome o script u es).host) s.went ∙ x.host;
        turned =
            x.turned ∙ ap (λ l. l ++ effective m outcome o script w' es) s.turned
            ∙ append_assoc v.turns t (effective m outcome o script w' es)
            ∙ ap (λ (u : World S B). v.turns ++ (t ++ effective m outcome o script u es)) (sym s.went);
        more = x.more;
        own =
            ap (λ l. l ++ x.more) same
            ∙ append_assoc (option_to_list r) rs' x.more
            ∙ ap (λ l. option_to_list r ++ l) x.own
            ∙ ap (λ (u : World S B). option_to_list r ++ world_replies m outcome o script u es) (sym s.went)
            ∙ ap (λ z. option_to_list z ++ world_replies m outcome o script (happens m outcome o script w e) es) (sym s.replied)
            ∙ sym (append_assoc (option_to_list (reply_to m outcome w (request o w.tracer.focus) e)) (replies m outcome o script (happens m outcome o script w e) es) (out (happens m outcome o script w e)));
        asked = (s.asked, subst (λ (u : World S B). AsksAtEach m outcome o script u es) (sym s.went) x.asked);
        pending = λ there. x.pending there ∙ ap (λ (u : World S B). request o (world_run m outcome o script u es).tracer.focus) (sym s.went);
      }

  abbrev pub after_turn : World S B → ℕ → World S B
  after_turn w p = record { host = host_turn m w.host p; tracer = w.tracer; printed = w.printed }

  pub step_turn : (v : Hosting S B) (w : World S B) (p : ℕ) (q : Request) → IsFresh v → w.host ≡ host_in v → request o w.tracer.focus ≡ Some q
      → Stepped v (hosting_turn m follow v p) w (after_turn w p) (Turn p) None
  step_turn v w p q fresh h f =
      let like = alike m outcome follow v (Turn p) fresh in
      record {
        went = ap (λ z. happens_asked m outcome o script w w.tracer.focus z (Turn p)) f;
        host = ap (λ (g : Host S B). host_turn m g p) h ∙ sym (ap (λ (a : Attending S B). a.host) like.0);
        replied = ap (λ z. reply_to m outcome w z (Turn p)) f;
        turned = like.2 ∙ ap (λ (g : Host S B). v.turns ++ turned m g (Turn p)) (sym h) ∙ ap (λ z. v.turns ++ turns_of m w z (Turn p)) (sym f);
        asked = ap is_there f;
      }

  abbrev pub after_serve : World S B → Request → Option Reply → World S B
  after_serve w q r = met o script w w.tracer.focus (serve m outcome w.host q).host r

  met_host : (w : World S B) (h : Host S B) (r : Option Reply) → (met o script w w.tracer.focus h r).host ≡ h
  met_host w h None = refl
  met_host w h (Some r) = refl

  -- what a Serve leaves, where this request is pending
  pub record Served (v : Hosting S B) (q : Request) (h : Host S B) : Type 0 where
    pub host : (serve m outcome h q).host ≡ host_in (hosting_event m outcome follow v Serve).hosting
    pub reply : (serve m outcome h q).reply ≡ (hosting_event m outcome follow v Serve).reply
    pub pending : (hosting_event m outcome follow v Serve).hosting.pending ≡ left_pending q (hosting_event m outcome follow v Serve).reply
    pub turned : (hosting_event m outcome follow v Serve).hosting.turns ≡ v.turns
    pub fresh : IsFresh (hosting_event m outcome follow v Serve).hosting

  pub served : (v : Hosting S B) (q : Request) (h : Host S B) → IsFresh v → h ≡ host_in v → v.pending ≡ Some q → Served v q h
  served v q h fresh same pend =
      let like = alike m outcome follow v Serve fresh in
      let at = ap (λ z. serve_pending m outcome (host_in v) z) pend in
      let told : (hosting_event m outcome follow v Serve).reply ≡ (serve m outcome (host_in v) q).reply = like.1 ∙ ap (λ z. z.reply) at in
      record {
        host = ap (λ (g : Host S B). (serve m outcome g q).host) same ∙ sym (ap (λ (a : Attending S B). a.host) like.0 ∙ ap (λ z. z.attending.host) at);
        reply = ap (λ (g : Host S B). (serve m outcome g q).reply) same ∙ sym told;
        pending = ap (λ (a : Attending S B). a.pending) like.0 ∙ ap (λ z. z.attending.pending) at ∙ ap (λ z. left_pending q z) (sym told);
        turned = like.2 ∙ append-nil v.turns;
        fresh = like.3;
      }

  pub step_serve : (v : Hosting S B) (w : World S B) (q : Request) (r : Option Reply) → w.host ≡ host_in v → request o w.tracer.focus ≡ Some q
      → Served v q w.host → r ≡ (hosting_event m outcome follow v Serve).reply
      → Stepped v (hosting_event m outcome follow v Serve).hosting w (after_serve w q r) Serve r
  step_serve v w q r h f s is =
      let told : (serve m outcome w.host q).reply ≡ r = s.reply ∙ sym is in
      record {
        went = ap (λ z. happens_asked m outcome o script w w.tracer.focus z Serve) f ∙ ap (λ z. after_serve w q z) told;
        host = met_host w (serve m outcome w.host q).host r ∙ s.host;
        replied = ap (λ z. reply_to m outcome w z Serve) f ∙ told;
        turned = s.turned ∙ sym (append-nil v.turns) ∙ ap (λ z. v.turns ++ turns_of m w z Serve) (sym f);
        asked = ap is_there f;
      }

  pub none_next : (v : Hosting S B) (xs : List (Request × Reply)) → v.pending ≡ None → IsNext v.pending xs
  none_next v xs e = subst (λ z. IsNext z xs) (sym e) tt

  -- what is pending is asked
  pending_asked : (w : World S B) (p : Option Request) (xs : List (Request × Reply)) → IsNext p xs → Asks o script w.tracer xs → is_there p ≡ true → p ≡ request o w.tracer.focus
  pending_asked w None xs due asks there = absurd (cc there)
  pending_asked w (Some q) [] due asks there = absurd due
  pending_asked w (Some q) (x ∷ xs) due asks there = ap (λ z. Some z) due ∙ sym asks.0

  pub pending_at : (v g : Hosting S B) (w : World S B) (xs : List (Request × Reply)) → g ≡ v → IsNext v.pending xs → Asks o script w.tracer xs → is_there g.pending ≡ true → g.pending ≡ request o w.tracer.focus
  pending_at v g w xs same due asks there =
      let is = ap (λ (u : Hosting S B). u.pending) same in
      is ∙ pending_asked w v.pending xs due asks (ap is_there (sym is) ∙ there)

  at_end : (v g : Hosting S B) (w : World S B) (xs : List (Request × Reply)) → w.host ≡ host_in v → g ≡ v → IsNext v.pending xs → Asks o script w.tracer xs
      → (xs ≡ []) ⊎ ((q : Request) × (xs ≡ (q, Out_of_turns) ∷ [])) → Ran v w [] g (answers_in xs)
  at_end v g w xs h same due asks (inl none) = record {
    host = h ∙ ap host_in (sym same);
    turned = ap (λ (u : Hosting S B). u.turns) same ∙ sym (append-nil v.turns);
    more = world_replies m outcome o script w [];
    own = ap (λ l. answers_in l ++ world_replies m outcome o script w []) none;
    asked = tt;
    pending = pending_at v g w xs same due asks;
  }
  at_end v g w xs h same due asks (inr out) =
      let asked : request o w.tracer.focus ≡ Some out.0 = (subst (λ l. Asks o script w.tracer l) out.1 asks).0 in
      record {
        host = h ∙ ap host_in (sym same);
        turned = ap (λ (u : Hosting S B). u.turns) same ∙ sym (append-nil v.turns);
        more = [];
        own = ap (λ l. answers_in l ++ []) out.1 ∙ ap (λ z. out_of_turns_if (is_there z)) (sym asked);
        asked = tt;
        pending = pending_at v g w xs same due asks;
      }

  run : (es : List Entry) (v g : Hosting S B) (w : World S B) (xs : List (Request × Reply)) → IsFresh v → w.host ≡ host_in v → IsNext v.pending xs
      → Replays m outcome follow v es g → Told es xs → Asks o script w.tracer xs → Ran v w (events_of es) g (answers_in xs)
  run [] v g w xs fresh h due rep told asks = at_end v g w xs h rep due asks told
  run (Ask q ∷ es) v g w [] fresh h due rep told asks = absurd told
  run (Ask q ∷ es) v g w (x ∷ xs) fresh h due rep told asks =
      let again : Ran (with_pending v (Some q)) w (events_of es) g (answers_in (x ∷ xs)) = run es (with_pending v (Some q)) g w (x ∷ xs) fresh h told.0 rep.2 told.1 asks in
      record { host = again.host; turned = again.turned; more = again.more; own = again.own; asked = again.asked; pending = again.pending }
  run (Did (Turn p) None ∷ es) v g w [] fresh h due rep told asks = absurd told
  run (Did (Turn p) None ∷ es) v g w (x ∷ xs) fresh h due rep told asks =
      let like = alike m outcome follow v (Turn p) fresh in
      let s = step_turn v w p x.0 fresh h asks.0 in
      let still : (hosting_turn m follow v p).pending ≡ v.pending = ap (λ (a : Attending S B). a.pending) like.0 in
      ran_on v (hosting_turn m follow v p) g w (after_turn w p) (Turn p) None (events_of es) (answers_in (x ∷ xs)) (answers_in (x ∷ xs)) s
      (run es (hosting_turn m follow v p) g (after_turn w p) (x ∷ xs) like.3 s.host (subst (λ z. IsNext z (x ∷ xs)) (sym still) due) rep.2 told asks)
      refl
  run (Did (Turn p) (Some r) ∷ es) v g w xs fresh h due rep told asks = absurd (cc (rep.0.1))
  run (Did Serve None ∷ es) v g w [] fresh h due rep told asks = absurd told
  run (Did Serve None ∷ es) v g w (x ∷ xs) fresh h due rep told asks =
      let sv = served v x.0 w.host fresh h (next_of v.pending x xs rep.0.0 due) in
      let s = step_serve v w x.0 None h asks.0 sv rep.0.1 in
      let v' : Hosting S B = (hosting_event m outcome follow v Serve).hosting in
      let still : v'.pending ≡ Some x.0 = sv.pending ∙ ap (λ z. left_pending x.0 z) (sym rep.0.1) in
      ran_on v v' g w (after_serve w x.0 None) Serve None (events_of es) (answers_in (x ∷ xs)) (answers_in (x ∷ xs)) s
      (run es v' g (after_serve w x.0 None) (x ∷ xs) sv.fresh s.host (subst (λ z. IsNext z (x ∷ xs)) (sym still) refl) rep.2 told asks)
      refl
  run (Did Serve (Some r) ∷ es) v g w [] fresh h due rep told asks = absurd told
  run (Did Serve (Some r) ∷ es) v g w (x ∷ xs) fresh h due rep told asks =
      let sv = served v x.0 w.host fresh h (next_of v.pending x xs rep.0.0 due) in
      let s = step_serve v w x.0 (Some r) h asks.0 sv rep.0.1 in
      let v' : Hosting S B = (hosting_event m outcome follow v Serve).hosting in
      let free : v'.pending ≡ None = sv.pending ∙ ap (λ z. left_pending x.0 z) (sym rep.0.1) in
      ran_on v v' g w (after_serve w x.0 (Some r)) Serve (Some r) (events_of es) (answers_in (x ∷ xs)) (answers_in xs) s
      (run es v' g (after_serve w x.0 (Some r)) xs sv.fresh s.host (none_next v' xs free) rep.2 told.1 (subst (λ z. Asks o script (next o script w.tracer z).tracer xs) (sym told.0) asks.1))
      (ap (λ z. z ∷ answers_in xs) (sym told.0))

pub journals_tell : {S B : Type 0} → HostsAttendAlike S B → HostsBeginAlike S B → JournalsTell S B
journals_tell {S} {B} alike begin m outcome follow o script s b journal g xs rep told asks =
    let x = run m outcome follow o script alike journal (first_hosting s b) g (first_world s b) xs (begin s b).1 (sym (begin s b).0) tt rep told asks in
    record { own = record { more = x.more; begins = x.own }; host = x.host; turned = x.turned; asked = x.asked; pending = x.pending }
