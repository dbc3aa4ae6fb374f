-- The world as a host that attends, event by event and call by call.
use Rattle.std.proofs.Common.{◌≡◌, true, List, [], ◌∷◌, ◌++◌, Option, Some, None, refl, sym, ap, ap₂, ◌∙◌, append_assoc}
use Rattle.std.specs.Option.{option_to_list}
use Rattle.lx_abi.specs.declared.outcome.Outcome.{Outcome}
use Rattle.lx_abi.specs.declared.ptrace.Reply.{Reply}
use Rattle.lx_abi.specs.declared.ptrace.Request.{Request}
use Rattle.lx_abi.specs.declared.schedule.Event.{Event}
use Rattle.lx_abi.specs.declared.schedule.Event.TheVariants.{Turn, Serve}
use Rattle.lx_model.specs.Machine.{Machine}
use Rattle.lx_model.specs.Kernel.{Script}
use Rattle.pt_model.specs.Ptrace.{Host, host_turn, is_there}
use Rattle.pt_model.specs.Requests.{serve}
use Rattle.pt_model.specs.Parts.{Options}
use Rattle.pt_model.specs.Tracer.{Focus, request}
use Rattle.pt_model.specs.World.{World, met, happens_asked, happens, world_run, turns_of, effective}
use Rattle.pt_model.specs.Attending.{event, turned, Called, answered_by, called}
use Rattle.pt_model.specs.Replies.{reply_to, replies}
use Rattle.pt_model.specs.Calls.{Used, WorldsAttend, IsCall, WorldsCall, RunsAppend, OverIsForGood, ListsGiveThemselves, EventsOfReplies}

module _ {S B : Type 0} (m : Machine S B) (outcome : S → Outcome) (o : Options) (script : Script) where
  met_host : (w : World S B) (focus : Focus) (h : Host S B) (r : Option Reply) → (met o script w focus h r).host ≡ h
  met_host w focus h None = refl
  met_host w focus h (Some r) = refl

  attends_asked : (w : World S B) (focus : Focus) (q : Option Request) (e : Event) → is_there q ≡ true →
      ((happens_asked m outcome o script w focus q e).host ≡ (event m outcome (record { host = w.host; pending = q }) e).attending.host)
      × (reply_to m outcome w q e ≡ (event m outcome (record { host = w.host; pending = q }) e).reply)
      × (turns_of m w q e ≡ turned m w.host e)
  attends_asked w focus None e h = absurd (cc h)
  attends_asked w focus (Some q) (Turn p) h = (refl, refl, refl)
  attends_asked w focus (Some q) Serve h = (met_host w focus (serve m outcome w.host q).host (serve m outcome w.host q).reply, refl, refl)

  abbrev at_host : World S B → Host S B → World S B
  at_host w h = record { host = h; tracer = w.tracer; printed = w.printed }

  -- a request that was served is answered, or stays pending
  record Goes (w : World S B) (es : List Event) (r : Option Reply) (h : Host S B) (c : Called S B) (v : World S B) : Type 0 where
    ran : world_run m outcome o script (met o script w w.tracer.focus h r) es ≡ world_run m outcome o script v c.left
    replied : option_to_list r ++ replies m outcome o script (met o script w w.tracer.focus h r) es ≡ option_to_list c.reply ++ replies m outcome o script v c.left
    turned : effective m outcome o script (met o script w w.tracer.focus h r) es ≡ c.turns ++ effective m outcome o script v c.left

  goes_on : (w : World S B) (q : Request) (es : List Event) (r : Option Reply) (h : Host S B) → IsCall m outcome o script (at_host w h) es (called m outcome h q es) (met o script w w.tracer.focus (called m outcome h q es).host (called m outcome h q es).reply) →
      Goes w es r h (answered_by r h [] es (λ g. called m outcome g q es)) (met o script w w.tracer.focus (answered_by r h [] es (λ g. called m outcome g q es)).host (answered_by r h [] es (λ g. called m outcome g q es)).reply)
  goes_on w q es (Some r) h again = record { ran = refl; replied = refl; turned = refl }
  goes_on w q es None h again = record { ran = again.ran; replied = again.replied; turned = again.turned }

  is_call : (events : List Event) (w : World S B) (q : Request) → request o w.tracer.focus ≡ Some q → IsCall m outcome o script w events (called m outcome w.host q events) (met o script w w.tracer.focus (called m outcome w.host q events).host (called m outcome w.host q events).reply)
  is_call [] w q f = record { ran = refl; replied = refl; turned = refl }
  is_call (Turn p ∷ es) w q f =
      let v : World S B = at_host w (host_turn m w.host p) in
      let went : happens m outcome o script w (Turn p) ≡ v = rw f refl in
      let again : IsCall m outcome o script v es (called m outcome v.host q es) (met o script v v.tracer.focus (called m outcome v.host q es).host (called m outcome v.host q es).reply) = is_call es v q f in
      let asked : reply_to m outcome w (request o w.tracer.focus) (Turn p) ≡ None = rw f refl in
      let turns : turns_of m w (request o w.tracer.focus) (Turn p) ≡ turned m w.host (Turn p) = rw f refl in
      record {
        ran = ap (λ x. world_run m outcome o script x es) went ∙ again.ran;
        replied = ap₂ (λ x y. option_to_list x ++ replies m outcome o script y es) asked went ∙ again.replied;
        turned = ap₂ (λ x y. x ++ effective m outcome o script y es) turns went ∙ ap (λ x. turned m w.host (Turn p) ++ x) again.turned ∙ sym (append_assoc (turned m w.host (Turn p)) (called m outcome v.host q es).turns _);
      }
  is_call (Serve ∷ es) w q f =
      let h : Host S B = (serve m outcome w.host q).host in
      let r : Option Reply = (serve m outcome w.host q).reply in
      let went : happens m outcome o script w Serve ≡ met o script w w.tracer.focus h r = rw f refl in
      let asked : reply_to m outcome w (request o w.tracer.focus) Serve ≡ r = rw f refl in
      let turns : turns_of m w (request o w.tracer.focus) Serve ≡ [] = rw f refl in
      let c : Called S B = answered_by r h [] es (λ g. called m outcome g q es) in
      let goes : Goes w es r h c (met o script w w.tracer.focus c.host c.reply) = goes_on w q es r h (is_call es (at_host w h) q f) in
      record {
        ran = ap (λ x. world_run m outcome o script x es) went ∙ goes.ran;
        replied = ap₂ (λ x y. option_to_list x ++ replies m outcome o script y es) asked went ∙ goes.replied;
        turned = ap₂ (λ x y. x ++ effective m outcome o script y es) turns went ∙ goes.turned;
      }

pub worlds_attend : {S B : Type 0} → WorldsAttend S B
worlds_attend m outcome o script w e h = attends_asked m outcome o script w w.tracer.focus (request o w.tracer.focus) e h

pub worlds_call : {S B : Type 0} → WorldsCall S B
worlds_call m outcome o script w q events f = is_call m outcome o script events w q f

pub runs_append : {S B : Type 0} → RunsAppend S B
runs_append m outcome o script w [] fs = (refl, refl, refl)
runs_append {S} {B} m outcome o script w (e ∷ es) fs =
    let v : World S B = happens m outcome o script w e in
    let again = runs_append m outcome o script v es fs in (
      again.0,
      ap (λ x. option_to_list (reply_to m outcome w (request o w.tracer.focus) e) ++ x) again.1 ∙ sym (append_assoc (option_to_list (reply_to m outcome w (request o w.tracer.focus) e)) (replies m outcome o script v es) _),
      ap (λ x. turns_of m w (request o w.tracer.focus) e ++ x) again.2 ∙ sym (append_assoc (turns_of m w (request o w.tracer.focus) e) (effective m outcome o script v es) _),
    )

pub over_is_for_good : {S B : Type 0} → OverIsForGood S B
over_is_for_good m outcome o script w [] f = (refl, refl, refl)
over_is_for_good m outcome o script w (e ∷ es) f =
    let went : happens m outcome o script w e ≡ w = rw f refl in
    let asked : reply_to m outcome w (request o w.tracer.focus) e ≡ None = rw f refl in
    let turns : turns_of m w (request o w.tracer.focus) e ≡ [] = rw f refl in
    let again = over_is_for_good m outcome o script w es f in (
      ap (λ x. world_run m outcome o script x es) went ∙ again.0,
      ap₂ (λ x y. option_to_list x ++ replies m outcome o script y es) asked went ∙ again.1,
      ap₂ (λ x y. x ++ effective m outcome o script y es) turns went ∙ again.2,
    )

module _ {S B : Type 0} (m : Machine S B) (outcome : S → Outcome) (o : Options) (script : Script) where
  one_more : (w : World S B) (e : Event) (es : List Event) (x : Option Reply) → reply_to m outcome w (request o w.tracer.focus) e ≡ x → (rs more : List Reply) → option_to_list x ++ replies m outcome o script (happens m outcome o script w e) es ≡ rs ++ more →
      ((rs more : List Reply) → replies m outcome o script (happens m outcome o script w e) es ≡ rs ++ more → Used m outcome o script (happens m outcome o script w e) es rs) → Used m outcome o script w (e ∷ es) rs
  one_more w e es None f rs more g again =
      let a : Used m outcome o script (happens m outcome o script w e) es rs = again rs more g in
      record { used = e ∷ a.used; unused = a.unused; split = ap (λ l. e ∷ l) a.split; replied = ap (λ x. option_to_list x ++ replies m outcome o script (happens m outcome o script w e) a.used) f ∙ a.replied }
  one_more w e es (Some r) f [] more g again = record { used = []; unused = e ∷ es; split = refl; replied = refl }
  one_more w e es (Some r) f (x ∷ rs) more g again =
      let a : Used m outcome o script (happens m outcome o script w e) es rs = again rs more (tails g) in
      record { used = e ∷ a.used; unused = a.unused; split = ap (λ l. e ∷ l) a.split; replied = ap (λ y. option_to_list y ++ replies m outcome o script (happens m outcome o script w e) a.used) f ∙ ap₂ (λ y l. y ∷ l) (heads g) a.replied }
    where
      heads : {y z : Reply} {ys zs : List Reply} → y ∷ ys ≡ z ∷ zs → y ≡ z
      heads h = cc

      tails : {y z : Reply} {ys zs : List Reply} → y ∷ ys ≡ z ∷ zs → ys ≡ zs
      tails h = cc

  events_of : (w : World S B) (events : List Event) (rs more : List Reply) → replies m outcome o script w events ≡ rs ++ more → Used m outcome o script w events rs
  events_of w [] [] more g = record { used = []; unused = []; split = refl; replied = refl }
  events_of w [] (x ∷ rs) more g = absurd (cc g)
  events_of w (e ∷ es) rs more g = one_more w e es (reply_to m outcome w (request o w.tracer.focus) e) refl rs more g (events_of (happens m outcome o script w e) es)

pub events_of_replies : {S B : Type 0} → EventsOfReplies S B
events_of_replies m outcome o script w events rs more g = events_of m outcome o script w events rs more g

pub lists_give_themselves : {S B : Type 0} → ListsGiveThemselves S B
lists_give_themselves m outcome a [] left = refl
lists_give_themselves m outcome a (e ∷ es) left = (es ++ left, (refl, lists_give_themselves m outcome (event m outcome a e).attending es left))
