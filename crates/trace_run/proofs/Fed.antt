-- The events that a schedule gives to a host in memory, call by call, are those that it gives to the world.
use Rattle.std.proofs.Common.{◌≡◌, true, List, [], ◌∷◌, ◌++◌, Option, Some, None, Ok, refl, sym, ap, ap₂, subst, ◌∙◌, inl, inr, append_assoc}
use Rattle.std.proofs.lemmas.List.{append-nil}
use Rattle.lx_abi.specs.declared.outcome.Outcome.{Outcome}
use Rattle.lx_abi.specs.declared.ptrace.Reply.{Reply}
use Rattle.lx_abi.specs.declared.ptrace.Reply.TheVariants.{OutOfTurns as Out_of_turns}
use Rattle.lx_abi.specs.declared.ptrace.Request.{Request}
use Rattle.lx_abi.specs.declared.schedule.Event.{Event}
use Rattle.lx_abi.specs.declared.schedule.Event.TheVariants.{Turn, Serve}
use Rattle.lx_model.specs.Kernel.{Script}
use Rattle.lx_model.specs.Machine.{Machine}
use Rattle.pt_kernel.specs.Noted.{noting}
use Rattle.pt_kernel.proofs.Noting.{noting_nothing, noting_on}
use Rattle.pt_model.specs.Attending.{answered_by, called, reply_or, left_pending, Schedules, Gives}
use Rattle.pt_model.specs.Calls.{attends, TalksOver, WorldsCall, RunsAppend, OutOfTurnsShowsNothing}
use Rattle.pt_model.specs.Parts as parts
use Rattle.pt_model.specs.Parts.{Part}
use Rattle.pt_model.specs.Ptrace.{Host, host_turn, is_there}
use Rattle.pt_model.specs.Requests.{serve}
use Rattle.pt_model.specs.Tracer.{Turns_over, request, next}
use Rattle.pt_model.specs.World.{World, met, happens, happens_asked, world_run, effective}
use Rattle.tr_core.specs.States.{State, heard, moved as moved_by, request_of, told}
use Rattle.trace_run.specs.Runs.{Answers, Asked, Leads, replies_of}
use Rattle.trace_run.specs.Local.{InMemory, CallServed, SoundCall, Feeds}

module _ {X S B : Type 0} (choose : Schedules X S B) (m : Machine S B) (outcome : S → Outcome) (o : parts.Options) (script : Script) where
  abbrev at_host : World S B → Host S B → World S B
  at_host w h = record { host = h; tracer = w.tracer; printed = w.printed }

  -- the rest of a call, after an event
  on : (w : World S B) (q : Request) (es more : List Event) (x y : X) (r : Option Reply) (h : Host S B)
      → (Gives choose m outcome x (record { host = h; pending = Some q }) es y → (called m outcome h q es).left ≡ [] → Feeds choose m outcome o script y (met o script w w.tracer.focus (called m outcome h q es).host (called m outcome h q es).reply) more → Feeds choose m outcome o script x (at_host w h) (es ++ more))
      → Gives choose m outcome x (record { host = h; pending = left_pending q r }) es y
      → (answered_by r h [] es (λ g. called m outcome g q es)).left ≡ []
      → Feeds choose m outcome o script y (met o script w w.tracer.focus (answered_by r h [] es (λ g. called m outcome g q es)).host (answered_by r h [] es (λ g. called m outcome g q es)).reply) more
      → Feeds choose m outcome o script x (met o script w w.tracer.focus h r) (es ++ more)
  on w q [] more x y (Some r) h ih g l k = subst (λ z. Feeds choose m outcome o script z (met o script w w.tracer.focus h (Some r)) more) (sym g) k
  on w q (e ∷ es) more x y (Some r) h ih g l k = absurd (cc l)
  on w q es more x y None h ih g l k = ih g l k

  asks_on : (w : World S B) (q : Request) → request o w.tracer.focus ≡ Some q → is_there (request o w.tracer.focus) ≡ true
  asks_on w q f = ap is_there f

  pub feeds_on : (w : World S B) (q : Request) → request o w.tracer.focus ≡ Some q → (fed more : List Event) (x y : X)
      → Gives choose m outcome x (record { host = w.host; pending = Some q }) fed y
      → (called m outcome w.host q fed).left ≡ []
      → Feeds choose m outcome o script y (met o script w w.tracer.focus (called m outcome w.host q fed).host (called m outcome w.host q fed).reply) more
      → Feeds choose m outcome o script x w (fed ++ more)
  feeds_on w q f [] more x y g l k = subst (λ z. Feeds choose m outcome o script z w more) (sym g) k
  feeds_on w q f (Turn p ∷ es) more x y g l k =
      let v : World S B = at_host w (host_turn m w.host p) in
      let again : Feeds choose m outcome o script g.0 v (es ++ more) = feeds_on v q f es more g.0 y g.1.1 l k in
      let went : happens m outcome o script w (Turn p) ≡ v = ap (λ z. happens_asked m outcome o script w w.tracer.focus z (Turn p)) f in
      (g.0, (asks_on w q f, ap (λ z. choose x (record { host = w.host; pending = z })) f ∙ g.1.0, subst (λ z. Feeds choose m outcome o script g.0 z (es ++ more)) (sym went) again))
  feeds_on w q f (Serve ∷ es) more x y g l k =
      let h : Host S B = (serve m outcome w.host q).host in
      let r : Option Reply = (serve m outcome w.host q).reply in
      let again : Feeds choose m outcome o script g.0 (met o script w w.tracer.focus h r) (es ++ more) = on w q es more g.0 y r h (feeds_on (at_host w h) q f es more g.0 y) g.1.1 l k in
      let went : happens m outcome o script w Serve ≡ met o script w w.tracer.focus h r = ap (λ z. happens_asked m outcome o script w w.tracer.focus z Serve) f in
      (g.0, (asks_on w q f, ap (λ z. choose x (record { host = w.host; pending = z })) f ∙ g.1.0, subst (λ z. Feeds choose m outcome o script g.0 z (es ++ more)) (sym went) again))

module _ {L X S B : Type 0} (answers : Answers L) (i : InMemory L X S B) (choose : Schedules X S B) (m : Machine S B) (outcome : S → Outcome)
    (sound : L → Type 0) (serves : (a : L) (q : Request) (r : Reply) (b : L) → sound a → answers a q (Ok r) b → SoundCall sound i choose m outcome a q r b)
    (calls : WorldsCall S B) (appends : RunsAppend S B) (shows_nothing : OutOfTurnsShowsNothing) where
  -- the world with this tracer, over the link's host
  abbrev at_link : State → L → List Part → World S B
  at_link t a printed = record { host = i.host a; tracer = t.tracer; printed = printed }

  -- what exchanges that end the tracer say
  pub record IsFed (t : State) (a b : L) (printed : List Part) (xs : List (Request × Reply)) : Type 0 where
    pub events : List Event
    pub given : Feeds choose m outcome t.options t.script (i.schedule a) (at_link t a printed) events
    pub host : (world_run m outcome t.options t.script (at_link t a printed) events).host ≡ i.host b
    pub turned : i.turns b ≡ i.turns a ++ effective m outcome t.options t.script (at_link t a printed) events
    pub noted : i.noted b ≡ noting (i.noted a) events
    pub over : TalksOver choose m outcome t.options t.script t.tracer (i.schedule a) (i.host a) events xs

  -- a call, and what comes after it
  record Ran (t : State) (a mid : L) (printed : List Part) (fed : List Event) (v : World S B) : Type 0 where
    ran : world_run m outcome t.options t.script (at_link t a printed) fed ≡ v
    gave : i.turns mid ≡ i.turns a ++ effective m outcome t.options t.script (at_link t a printed) fed

  call_ran : (t : State) (a mid : L) (printed : List Part) (q : Request) (r : Reply) (c : CallServed i choose m outcome a q r mid) → request t.options t.tracer.focus ≡ Some q
      → Ran t a mid printed c.fed (met t.options t.script (at_link t a printed) t.tracer.focus (called m outcome (i.host a) q c.fed).host (called m outcome (i.host a) q c.fed).reply)
  call_ran t a mid printed q r c f =
      let w : World S B = at_link t a printed in
      let is = calls m outcome t.options t.script w q c.fed f in
      let v : World S B = met t.options t.script w t.tracer.focus (called m outcome (i.host a) q c.fed).host (called m outcome (i.host a) q c.fed).reply in
      record {
        ran = is.ran ∙ ap (world_run m outcome t.options t.script v) c.call.left;
        gave = c.turned ∙ ap (λ l. i.turns a ++ l) (sym (is.turned ∙ ap (λ es. (called m outcome (i.host a) q c.fed).turns ++ effective m outcome t.options t.script v es) c.call.left ∙ append-nil (called m outcome (i.host a) q c.fed).turns));
      }

  -- after a reply the world goes on at the link that gave it
  replied : (t : State) (a mid : L) (printed : List Part) (q : Request) (r : Reply) (c : CallServed i choose m outcome a q r mid) (reply : Option Reply) → (called m outcome (i.host a) q c.fed).reply ≡ reply → is_there reply ≡ true
      → met t.options t.script (at_link t a printed) t.tracer.focus (called m outcome (i.host a) q c.fed).host (called m outcome (i.host a) q c.fed).reply ≡ at_link (heard t r) mid (printed ++ (next t.options t.script t.tracer r).printed)
  unfolding heard moved_by
  replied t a mid printed q r c None e h = absurd (cc h)
  replied t a mid printed q r c (Some s) e h =
      let same : r ≡ s = c.call.reply ∙ ap reply_or e in
      ap₂ (λ g z. met t.options t.script (at_link t a printed) t.tracer.focus g z) c.call.host e
      ∙ ap (λ z. met t.options t.script (at_link t a printed) t.tracer.focus (i.host mid) (Some z)) (sym same)

  -- nothing is asked once the answer was OutOfTurns
  none_after : (t : State) (q : Request) (r : Reply) (xs : List (Request × Reply)) → request t.options t.tracer.focus ≡ Some q → r ≡ Out_of_turns → Asked (heard t r) xs → xs ≡ []
  unfolding heard moved_by request_of
  none_after t q r [] f e asked = refl
  none_after t q r (x ∷ xs) f e asked =
      let out : (next t.options t.script t.tracer r).tracer.focus ≡ Turns_over = ap (λ z. (next t.options t.script t.tracer z).tracer.focus) e ∙ (shows_nothing t.options t.script t.tracer (ap is_there f)).1 in
      absurd (cc (sym (asked.0) ∙ ap (request t.options) out))

  more : (xs : List (Request × Reply)) (t : State) (a mid b : L) (printed : List Part) (q : Request) (r : Reply) (c : CallServed i choose m outcome a q r mid) → request t.options t.tracer.focus ≡ Some q
      → (reply : Option Reply) → (called m outcome (i.host a) q c.fed).reply ≡ reply
      → Leads answers mid xs b → Asked (heard t r) xs
      → IsFed (heard t r) mid b (printed ++ (next t.options t.script t.tracer r).printed) xs
      → is_there reply ≡ true
      → IsFed t a b printed ((q, r) ∷ xs)
  unfolding heard moved_by
  more xs t a mid b printed q r c f reply e led asked ih h =
      let w : World S B = at_link t a printed in
      let w2 : World S B = at_link (heard t r) mid (printed ++ (next t.options t.script t.tracer r).printed) in
      let ran = call_ran t a mid printed q r c f in
      let on_to = replied t a mid printed q r c reply e h in
      let app = appends m outcome t.options t.script w c.fed ih.events in
      let there : world_run m outcome t.options t.script w c.fed ≡ w2 = ran.ran ∙ on_to in
      let on_from : i.schedule mid ≡ c.left = c.goes_on (ap is_there e ∙ h) in
      record {
        events = c.fed ++ ih.events;
        given =
            feeds_on choose m outcome t.options t.script w q f c.fed ih.events (i.schedule a) c.left c.call.gives c.call.left
            (subst (λ x. Feeds choose m outcome t.options t.script x (met t.options t.script w t.tracer.focus (called m outcome (i.host a) q c.fed).host (called m outcome (i.host a) q c.fed).reply) ih.events) on_from
            (subst (λ z. Feeds choose m outcome t.options t.script (i.schedule mid) z ih.events) (sym on_to) ih.given));
        host = ap (λ (z : World S B). z.host) (app.0 ∙ ap (λ z. world_run m outcome t.options t.script z ih.events) there) ∙ ih.host;
        turned =
            ih.turned ∙ ap (λ l. l ++ effective m outcome t.options t.script w2 ih.events) ran.gave
            ∙ append_assoc (i.turns a) (effective m outcome t.options t.script w c.fed) (effective m outcome t.options t.script w2 ih.events)
            ∙ ap (λ l. i.turns a ++ l) (sym (app.2 ∙ ap (λ z. effective m outcome t.options t.script w c.fed ++ effective m outcome t.options t.script z ih.events) there));
        noted = ih.noted ∙ ap (λ l. noting l ih.events) c.noted ∙ noting_on (i.noted a) c.fed ih.events;
        over = (c.fed, (ih.events, (c.left, (i.host mid, (refl, f, c.call, subst (λ x. TalksOver choose m outcome t.options t.script (heard t r).tracer x (i.host mid) ih.events xs) on_from ih.over)))));
      }

  last : (t : State) (a mid b : L) (printed : List Part) (q : Request) (r : Reply) (c : CallServed i choose m outcome a q r mid) → request t.options t.tracer.focus ≡ Some q
      → (called m outcome (i.host a) q c.fed).reply ≡ None → b ≡ mid → IsFed t a b printed ((q, r) ∷ [])
  last t a mid b printed q r c f e here =
      let w : World S B = at_link t a printed in
      let ran = call_ran t a mid printed q r c f in
      let v : World S B = record { host = (called m outcome (i.host a) q c.fed).host; tracer = t.tracer; printed = printed } in
      let stays : met t.options t.script w t.tracer.focus (called m outcome (i.host a) q c.fed).host (called m outcome (i.host a) q c.fed).reply ≡ at_link t mid printed =
      ap₂ (λ g z. met t.options t.script w t.tracer.focus g z) c.call.host e in
      let over : choose c.left (attends t.options (at_link t mid printed)) ≡ None = ap (λ z. choose c.left (record { host = i.host mid; pending = z })) f ∙ c.call.ended e in
      let app = append-nil c.fed in
      record {
        events = c.fed ++ [];
        given = feeds_on choose m outcome t.options t.script w q f c.fed [] (i.schedule a) c.left c.call.gives c.call.left (subst (λ z. Feeds choose m outcome t.options t.script c.left z []) (sym stays) (inr over));
        host = ap (λ (z : World S B). z.host) (ap (world_run m outcome t.options t.script w) app ∙ ran.ran ∙ stays) ∙ ap i.host (sym here);
        turned = ap i.turns here ∙ ran.gave ∙ ap (λ l. i.turns a ++ effective m outcome t.options t.script w l) (sym app);
        noted = ap i.noted here ∙ c.noted ∙ ap (noting (i.noted a)) (sym app);
        over = (c.fed, ([], (c.left, (i.host mid, (refl, f, c.call, refl)))));
      }

  by_reply : (xs : List (Request × Reply)) (t : State) (a mid b : L) (printed : List Part) (q : Request) (r : Reply) (c : CallServed i choose m outcome a q r mid) → request t.options t.tracer.focus ≡ Some q
      → (reply : Option Reply) → (called m outcome (i.host a) q c.fed).reply ≡ reply
      → Leads answers mid xs b → Asked (heard t r) xs
      → (is_there reply ≡ true → IsFed (heard t r) mid b (printed ++ (next t.options t.script t.tracer r).printed) xs)
      → IsFed t a b printed ((q, r) ∷ xs)
  by_reply xs t a mid b printed q r c f (Some s) e led asked ih = more xs t a mid b printed q r c f (Some s) e led asked (ih refl) refl
  by_reply xs t a mid b printed q r c f None e led asked ih =
      let none : xs ≡ [] = none_after t q r xs f (c.call.reply ∙ ap reply_or e) asked in
      subst (λ l. Leads answers mid l b → IsFed t a b printed ((q, r) ∷ l)) (sym none) (λ here. last t a mid b printed q r c f e here) led

  pub is_fed : (xs : List (Request × Reply)) (t : State) (a b : L) (printed : List Part) → sound a → Leads answers a xs b → Asked t xs → request_of (told t (replies_of xs)) ≡ None → IsFed t a b printed xs
  unfolding request_of
  is_fed [] t a b printed is_sound led asked over = record {
    events = [];
    given = inl over;
    host = ap i.host (sym led);
    turned = ap i.turns led ∙ sym (append-nil (i.turns a));
    noted = ap i.noted led ∙ sym (noting_nothing (i.noted a));
    over = refl;
  }
  is_fed (x ∷ xs) t a b printed is_sound led asked over =
      let mid : L = led.0 in
      let c : SoundCall sound i choose m outcome a x.0 x.1 mid = serves a x.0 x.1 mid is_sound led.1.0 in
      by_reply xs t a mid b printed x.0 x.1 c.served asked.0 (called m outcome (i.host a) x.0 c.served.fed).reply refl led.1.1 asked.1
      (λ answered. is_fed xs (heard t x.1) mid b (printed ++ (next t.options t.script t.tracer x.1).printed) (c.stays answered) led.1.1 asked.1 over)

  -- the exchanges of any run are a talk over the schedule
  abbrev pub Talk : State → L → List (Request × Reply) → Type 0
  Talk t a xs = (events : List Event) × TalksOver choose m outcome t.options t.script t.tracer (i.schedule a) (i.host a) events xs

  talk_on : (xs : List (Request × Reply)) (t : State) (a mid : L) (q : Request) (r : Reply) (c : CallServed i choose m outcome a q r mid) → request t.options t.tracer.focus ≡ Some q
      → (reply : Option Reply) → (called m outcome (i.host a) q c.fed).reply ≡ reply
      → Asked (heard t r) xs → (is_there reply ≡ true → Talk (heard t r) mid xs)
      → Talk t a ((q, r) ∷ xs)
  unfolding heard moved_by
  talk_on xs t a mid q r c f (Some s) e asked again =
      let rest : Talk (heard t r) mid xs = again refl in
      let on_from : i.schedule mid ≡ c.left = c.goes_on (ap is_there e) in
      (c.fed ++ rest.0, (c.fed, (rest.0, (c.left, (i.host mid, (refl, f, c.call, subst (λ x. TalksOver choose m outcome t.options t.script (heard t r).tracer x (i.host mid) rest.0 xs) on_from rest.1))))))
  talk_on xs t a mid q r c f None e asked again =
      let none : xs ≡ [] = none_after t q r xs f (c.call.reply ∙ ap reply_or e) asked in
      subst (λ l. Talk t a ((q, r) ∷ l)) (sym none) (c.fed ++ [], (c.fed, ([], (c.left, (i.host mid, (refl, f, c.call, refl))))))

  pub talk : (xs : List (Request × Reply)) (t : State) (a b : L) → sound a → Leads answers a xs b → Asked t xs → Talk t a xs
  unfolding request_of
  talk [] t a b is_sound led asked = ([], refl)
  talk (x ∷ xs) t a b is_sound led asked =
      let mid : L = led.0 in
      let c : SoundCall sound i choose m outcome a x.0 x.1 mid = serves a x.0 x.1 mid is_sound led.1.0 in
      talk_on xs t a mid x.0 x.1 c.served asked.0 (called m outcome (i.host a) x.0 c.served.fed).reply refl asked.1
      (λ answered. talk xs (heard t x.1) mid b (c.stays answered) led.1.1 asked.1)

  -- a link that is asked once more after these exchanges is sound
  stays_on : (xs : List (Request × Reply)) (t : State) (a mid b : L) (q : Request) (r : Reply) (c : CallServed i choose m outcome a q r mid) → request t.options t.tracer.focus ≡ Some q
      → (reply : Option Reply) → (called m outcome (i.host a) q c.fed).reply ≡ reply
      → Asked (heard t r) xs → (p : Request) → request_of (told (heard t r) (replies_of xs)) ≡ Some p
      → (is_there reply ≡ true → sound b) → sound b
  unfolding heard moved_by request_of
  stays_on xs t a mid b q r c f (Some s) e asked p k ih = ih refl
  stays_on xs t a mid b q r c f None e asked p k ih =
      let over : r ≡ Out_of_turns = c.call.reply ∙ ap reply_or e in
      let none : xs ≡ [] = none_after t q r xs f over asked in
      let last : request_of (heard t r) ≡ Some p = subst (λ l. request_of (told (heard t r) (replies_of l)) ≡ Some p) none k in
      let out : (next t.options t.script t.tracer r).tracer.focus ≡ Turns_over = ap (λ z. (next t.options t.script t.tracer z).tracer.focus) over ∙ (shows_nothing t.options t.script t.tracer (ap is_there f)).1 in
      absurd (cc (sym last ∙ ap (request t.options) out))

  pub stays : (xs : List (Request × Reply)) (t : State) (a b : L) (p : Request) → sound a → Leads answers a xs b → Asked t xs → request_of (told t (replies_of xs)) ≡ Some p → sound b
  unfolding request_of
  stays [] t a b p is_sound led asked k = subst sound (sym led) is_sound
  stays (x ∷ xs) t a b p is_sound led asked k =
      let mid : L = led.0 in
      let c : SoundCall sound i choose m outcome a x.0 x.1 mid = serves a x.0 x.1 mid is_sound led.1.0 in
      stays_on xs t a mid b x.0 x.1 c.served asked.0 (called m outcome (i.host a) x.0 c.served.fed).reply refl asked.1 p k
      (λ answered. stays xs (heard t x.1) mid b p (c.stays answered) led.1.1 asked.1 k)
