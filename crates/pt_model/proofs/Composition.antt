-- What the tracer shows, by its replies.
use Rattle.std.proofs.Common.{◌≡◌, suc, ◌+◌, length, add-zero, arith, Bool, true, false, List, [], ◌∷◌, ◌++◌, Option, Some, None, refl, sym, ap, subst, ◌∙◌, append-nil, append_assoc}
use Rattle.std.specs.Option.{option_to_list}
use Rattle.lx_abi.specs.declared.outcome.Outcome.{Outcome}
use Rattle.lx_abi.specs.declared.ptrace.Reply.{Reply}
use Rattle.lx_abi.specs.declared.ptrace.Request.{Request}
use Rattle.lx_abi.specs.declared.schedule.Event.{Event as Step}
use Rattle.lx_abi.specs.declared.schedule.Event.TheVariants.{Turn, Serve}
use Rattle.lx_model.specs.Machine.{Machine}
use Rattle.lx_model.specs.Kernel.{Script}
use Rattle.pt_model.specs.Ptrace.{Host}
use Rattle.pt_model.specs.Requests.{serve}
use Rattle.pt_model.specs.Parts.{Options, Part}
use Rattle.pt_model.specs.Tracer.{Faulted, Moved, request, admits_at, next, new_tracer}
use Rattle.pt_model.specs.World.{World, met, happens_asked, happens, world_run, first_world}
use Rattle.pt_model.specs.Replies.{after, after_all, told_by, reply_to, replies, RepliesTellAll, BootComesFirst, admits, TracesGrow, FaultsAreForGood, TakenIsCounted}

pub after_all-append : (o : Options) (script : Script) (x : Moved) (rs more : List Reply) → after_all o script x (rs ++ more) ≡ after_all o script (after_all o script x rs) more
after_all-append o script x [] more = refl
after_all-append o script x (r ∷ rs) more = after_all-append o script (after o script x r) rs more

module _ {S B : Type 0} (m : Machine S B) (outcome : S → Outcome) (o : Options) (script : Script) where
  abbrev seen : World S B → Moved
  seen w = record { tracer = w.tracer; printed = w.printed }

  one_reply : (w : World S B) (h : Host S B) (r : Option Reply) → after_all o script (seen w) (option_to_list r) ≡ seen (met o script w w.tracer.focus h r)
  one_reply w h None = refl
  one_reply w h (Some r) = refl

  one_event : (w : World S B) (q : Option Request) (e : Step) → after_all o script (seen w) (option_to_list (reply_to m outcome w q e)) ≡ seen (happens_asked m outcome o script w w.tracer.focus q e)
  one_event w None e = refl
  one_event w (Some q) (Turn p) = refl
  one_event w (Some q) Serve = one_reply w (serve m outcome w.host q).host (serve m outcome w.host q).reply

  all_events : (events : List Step) (w : World S B) → after_all o script (seen w) (replies m outcome o script w events) ≡ seen (world_run m outcome o script w events)
  all_events [] w = refl
  all_events (e ∷ es) w =
      after_all-append o script (seen w) (option_to_list (reply_to m outcome w (request o w.tracer.focus) e)) (replies m outcome o script (happens m outcome o script w e) es)
      ∙ ap (λ x. after_all o script x (replies m outcome o script (happens m outcome o script w e) es)) (one_event w (request o w.tracer.focus) e)
      ∙ all_events es (happens m outcome o script w e)

pub replies_tell_all : {S B : Type 0} → RepliesTellAll S B
replies_tell_all m outcome o script s b events = all_events m outcome o script events (first_world s b)

grows : (o : Options) (script : Script) (x : Moved) (more : List Reply) → (later : List Part) × ((after_all o script x more).printed ≡ x.printed ++ later)
grows o script x [] = ([], sym (append-nil x.printed))
grows o script x (r ∷ rs) =
    let again : (later : List Part) × ((after_all o script (after o script x r) rs).printed ≡ (after o script x r).printed ++ later) = grows o script (after o script x r) rs in
    ((next o script x.tracer r).printed ++ again.0, again.1 ∙ append_assoc x.printed (next o script x.tracer r).printed again.0)

pub boot_comes_first : BootComesFirst
boot_comes_first o script = refl

pub traces_grow : TracesGrow
traces_grow o script rs more =
    let g : (later : List Part) × ((after_all o script (told_by o script rs) more).printed ≡ (told_by o script rs).printed ++ later) = grows o script (told_by o script rs) more in
    (g.0, ap (λ (x : Moved). x.printed) (after_all-append o script (record { tracer = new_tracer; printed = [] }) rs more) ∙ g.1)

-- a tracer that has met a fault
pub record Stuck (x y : Moved) : Type 0 where
  pub shown : y.printed ≡ x.printed
  pub focus : y.tracer.focus ≡ Faulted
  pub taken : y.tracer.taken ≡ x.tracer.taken

pub stays_stuck : (o : Options) (script : Script) (x y : Moved) (rs : List Reply) → Stuck x y → Stuck x (after_all o script y rs)
stays_stuck o script x y [] h = h
stays_stuck o script x y (r ∷ rs) h = stays_stuck o script x (after o script y r) rs (go (admits o y.tracer r) refl)
  where
    go : (b : Bool) → admits o y.tracer r ≡ b → Stuck x (after o script y r)
    go true e = absurd (cc (ap (λ f. admits_at o y.tracer.known y.tracer.tracees f r) h.focus, e))
    go false e = rw e (record { shown = append-nil y.printed ∙ h.shown; focus = refl; taken = h.taken })

pub first_fault : (o : Options) (script : Script) (x : Moved) (bad : Reply) → admits o x.tracer bad ≡ false → Stuck x (after o script x bad)
first_fault o script x bad e = rw e (record { shown = append-nil x.printed; focus = refl; taken = refl })

pub faults_are_for_good : FaultsAreForGood
faults_are_for_good o script rs more bad e =
    let x : Moved = told_by o script rs in
    let s : Stuck x (after_all o script x (bad ∷ more)) = stays_stuck o script x (after o script x bad) more (first_fault o script x bad e) in
    let t : Stuck x (told_by o script (rs ++ bad ∷ more)) = subst (λ y. Stuck x y) (sym (after_all-append o script (record { tracer = new_tracer; printed = [] }) rs (bad ∷ more))) s in
    (t.shown, t.focus, t.taken)

taken_more : (o : Options) (script : Script) (x : Moved) (rs : List Reply) → ((after_all o script x rs).tracer.focus ≡ Faulted → ⊥) → (after_all o script x rs).tracer.taken ≡ x.tracer.taken + length rs
taken_more o script x [] h = sym (add-zero x.tracer.taken)
taken_more o script x (r ∷ rs) h = go (admits o x.tracer r) refl (taken_more o script (after o script x r) rs h)
  where
    go : (b : Bool) → admits o x.tracer r ≡ b → (after_all o script (after o script x r) rs).tracer.taken ≡ (after o script x r).tracer.taken + length rs → (after_all o script (after o script x r) rs).tracer.taken ≡ x.tracer.taken + length (r ∷ rs)
    go true e again =
        let one : (after o script x r).tracer.taken ≡ suc x.tracer.taken = rw e refl in
        omega (arith, again, one)
    go false e again = absurd (h (stays_stuck o script x (after o script x r) rs (first_fault o script x r e)).focus)

pub taken_is_counted : TakenIsCounted
taken_is_counted o script rs h = let e : (told_by o script rs).tracer.taken ≡ 0 + length rs = taken_more o script (record { tracer = new_tracer; printed = [] }) rs h in omega (arith, e)
