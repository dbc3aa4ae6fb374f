-- A whole step, from what its parts did.
use Rattle.std.proofs.Common.{◌≡◌, ℕ, suc, ◌+◌, Bool, true, false, cond, ◌&&◌, List, Option, Some, None, Result, Ok, Err, refl, sym, ap, subst, ◌∙◌, add-one, unwrap_or}
use Rattle.std.specs.Ordering.{nat_cmp}
use Rattle.std.specs.FinMap as maps
use Rattle.std.specs.Prelude.{IfOk, OnErr}
use mathlib.Core.Path.{fun_ext}
use Rattle.lx_abi.specs.declared.ptrace.Reply.{Reply}
use Rattle.lx_abi.specs.declared.status.Stop.{Stop}
use Rattle.lx_abi.specs.declared.status.Stop.TheVariants.{Syscall as Syscall_stop, Signal as Signal_stop, Group as Group_stop, Event as Event_stop, Ended}
use Rattle.lx_model.specs.Kernel.{Script}
use Rattle.pt_model.specs.Parts.{Options}
use Rattle.lx_model.specs.Finite.{at}
use Rattle.pt_model.specs.Tracer.{Known, Next, Awaiting, Moved, Tracer, focus_on, next_at, tracees_after, admits_at, takes, faults, new_known, says_done, stays, took_status, took_stop}
use Rattle.pt_model.specs.Tracer as tracer
use Rattle.tr_core.specs.Hearings.{counts_at}
use Rattle.tr_core.specs.Settings.{options_of, script_of}
use Rattle.tr_core.specs.Known.{known_of, new_tracee, place_of}
use Rattle.lx_abi.specs.Occurrences.{count_of}
use Rattle.tr_core.specs.Pens.{wrote, pen_after}
use Rattle.tr_line.specs.Printing.{open_call}
use Rattle.tr_core.specs.States.{moved, said, heard, is_faulted, is_faulted_at, admitted, act_of, request_of, may_rest, rests_at, taken_of, Hears}
use Rattle.tr_core.specs.Admitted.{told_status, says_childless, says_out, told_outcome, waits_by, serves_by, ends_by, next_by, tracees_by, tracees_by_reply}
use Rattle.tr_core.specs.Admitted.{waits, resumes, resumed, focus_after_resuming, lets_go, is_seizing}
use Rattle.tr_core.specs.Tracers.{Goes, Steps, focus_of, known_in, tracer_in, admits_in, state_in}
use Rattle.lx_abi.specs.declared.occurrences.Occurrences.{Occurrences}
use Rattle.tr_core.specs.declared.place.Focus.{Focus}
use Rattle.tr_core.specs.declared.place.Focus.TheVariants as focus
use Rattle.tr_core.specs.declared.place.Tracee.{Tracee}
use Rattle.tr_core.specs.declared.stepping.Core.{Core}
use Rattle.tr_core.specs.declared.tracing.Act.{Act}
use Rattle.tr_core.specs.declared.tracing.TraceFault.TheVariants.{Inadmissible, Memory}
use Rattle.tr_core.proofs.Admitting.{next-is, tracees-is}
use Rattle.tr_core.proofs.Kept.{goes_on}

-- an admitted reply is no fault

on_fine : (p : ℕ) (o : Option Awaiting) → is_faulted_at (focus_on p o) ≡ false
on_fine p None = refl
on_fine p (Some place) = refl

stop_fine : (o : Options) (known : ℕ → Known) (p : ℕ) (s : Option Stop) → is_faulted_at (took_status o known p s).focus ≡ false
stop_fine o known p None = refl
stop_fine o known p (Some (Syscall_stop good)) = refl
stop_fine o known p (Some (Signal_stop signal)) = refl
stop_fine o known p (Some (Group_stop signal)) = refl
stop_fine o known p (Some (Event_stop event)) = refl
stop_fine o known p (Some (Ended word)) = refl

wait_fine : (o : Options) (known : ℕ → Known) (t : Option (ℕ × Option Stop)) (c u : Bool) → is_faulted_at (waits_by o known t c u).focus ≡ false
wait_fine o known None true u = refl
wait_fine o known None false true = refl
wait_fine o known None false false = refl
wait_fine o known (Some t) c u = stop_fine o known t.0 t.1

serve_fine : (o : Options) (script : Script) (known : ℕ → Known) (p : ℕ) (place : Awaiting) (r : Reply) (u : Bool) → is_faulted_at (serves_by o script known p place r u).focus ≡ false
serve_fine o script known p place r true = refl
serve_fine o script known p place r false = on_fine p _

end_fine : (known : ℕ → Known) (t : Option _) (u : Bool) → is_faulted_at (ends_by known t u).focus ≡ false
end_fine known None true = refl
end_fine known None false = refl
end_fine known (Some x) u = refl

fine : (o : Options) (script : Script) (known : ℕ → Known) (tracees : List ℕ) (f : Focus) (r : Reply) → admits_at o known tracees (focus_of f) r ≡ true → is_faulted_at (next_by o script known f r).focus ≡ false
fine o script known tracees focus.Booting r e = refl
fine o script known tracees focus.Waiting r e = wait_fine o known (told_status r) (says_childless r) (says_out r)
fine o script known tracees (focus.Serving p place) r e = serve_fine o script known p (place_of place) r (says_out r)
fine o script known tracees focus.AskingOutcome r e = end_fine known (told_outcome r) (says_out r)
fine o script known tracees (focus.Over x) r e = absurd (cc e)
fine o script known tracees focus.TurnsOver r e = absurd (cc e)
fine o script known tracees focus.Faulted r e = absurd (cc e)

-- what a step of the definition is, once the reply is known to be admitted
took : ℕ → Core → Reply → Moved
took taken c r = record {
  tracer = record {
    known = (next_by (options_of c.session.settings) (script_of c.session.settings) (known_in c) c.focus r).known;
    tracees = tracees_by c.living c.focus r;
    focus = (next_by (options_of c.session.settings) (script_of c.session.settings) (known_in c) c.focus r).focus;
    taken = suc taken;
  };
  printed = (next_by (options_of c.session.settings) (script_of c.session.settings) (known_in c) c.focus r).printed;
}

took-is : (taken : ℕ) (c : Core) (r : Reply) → admits_in c r ≡ true
    → tracer.next (options_of c.session.settings) (script_of c.session.settings) (tracer_in c taken) r ≡ took taken c r
unfolding took
took-is taken c r e =
    let o = options_of c.session.settings in
    let script = script_of c.session.settings in
    let t = tracer_in c taken in
    ap (λ x. cond x (takes t t.focus r (next_at o script t.known t.focus r)) (faults t)) e
    ∙ (λ i. record {
      tracer = record {
        known = (next-is o script (known_in c) c.living c.focus r e i).known;
        tracees = tracees-is o (known_in c) c.living c.focus r e i;
        focus = (next-is o script (known_in c) c.living c.focus r e i).focus;
        taken = suc taken;
      };
      printed = (next-is o script (known_in c) c.living c.focus r e i).printed;
    })

pub stepped : (taken : ℕ) (old new : Core) (r : Reply) (bytes : List ℕ) → admits_in old r ≡ true
    → Goes (next_by (options_of old.session.settings) (script_of old.session.settings) (known_in old) old.focus r)
    (tracees_by old.living old.focus r) bytes old new
    → Steps taken old r (Some bytes) new
unfolding heard said moved admitted is_faulted took
stepped taken old new r bytes e g =
    let m = took-is taken old r e in
    let now : tracer_in new (taken + 1) ≡ (took taken old r).tracer =
    λ i. record { known = g.known i; tracees = g.living i; focus = g.focus i; taken = add-one taken i } in (
      (λ i. record {
        options = options_of (g.settings i);
        script = script_of (g.settings i);
        tracer = (now ∙ ap (λ (x : Moved). x.tracer) (sym m)) i;
        pen = (g.pen ∙ ap (λ (x : Moved). pen_after old.session.printer x.printed) (sym m)) i;
        failed = false;
      }),
      e,
      ap (λ (t : Tracer). is_faulted_at t.focus) now
          ∙ fine (options_of old.session.settings) (script_of old.session.settings) (known_in old) old.living old.focus r e,
      g.text ∙ ap (λ (x : Moved). wrote old.session.printer x.printed) (sym m),
    )

pub refused_step : (taken : ℕ) (old : Core) (r : Reply) → admits_in old r ≡ false
    → Steps taken old r None (record old { focus = focus.Faulted })
unfolding heard said moved admitted pen_after
refused_step taken old r e =
    let o = options_of old.session.settings in
    let script = script_of old.session.settings in
    let t = tracer_in old taken in
    let m : tracer.next o script t r ≡ faults t =
    ap (λ x. cond x (takes t t.focus r (next_at o script t.known t.focus r)) (faults t)) e in (
      (λ i. record {
        options = o;
        script = script;
        tracer = ap (λ (x : Moved). x.tracer) (sym m) i;
        pen = ap (λ (x : Moved). pen_after old.session.printer x.printed) (sym m) i;
        failed = false;
      }),
      e,
    )

abbrev all_known : maps.FinMap nat_cmp Tracee → Occurrences → ℕ → Known
all_known known counts p = known_of (at new_tracee known p) (counts_at counts p)

pub fresh : (known : maps.FinMap nat_cmp Tracee) (counts : Occurrences) → known ≡ maps.empty → ((p n : ℕ) → count_of counts p n ≡ 0) → all_known known counts ≡ (λ p. new_known)
fresh known counts e h = fun_ext (λ p. ap (λ m. known_of (at new_tracee m p) (counts_at counts p)) e ∙ ap (λ o. known_of (unwrap_or o new_tracee) (counts_at counts p)) (maps.get-empty nat_cmp p) ∙ ap (λ f. known_of new_tracee f) (fun_ext (λ n. h p n)))

-- What was asked, by what the code looks at first.

pub is_wait : (f : Focus) → waits f ≡ true → focus.Waiting ≡ f
is_wait focus.Waiting e = refl
is_wait focus.Booting e = absurd (cc e)
is_wait (focus.Serving p place) e = absurd (cc e)
is_wait focus.AskingOutcome e = absurd (cc e)
is_wait (focus.Over x) e = absurd (cc e)
is_wait focus.TurnsOver e = absurd (cc e)
is_wait focus.Faulted e = absurd (cc e)

-- the reply to a resumption
record GoesOn (o : Options) (script : Script) (known : ℕ → Known) (tracees : List ℕ) (f : Focus) (r : Reply) : Type 0 where
  pub next : stays known (focus_after_resuming (says_out r)) ≡ next_by o script known f r
  pub living : tracees ≡ tracees_by tracees f r

serves : (o : Options) (script : Script) (known : ℕ → Known) (p : ℕ) (place : Awaiting) (r : Reply) (out : Bool) → resumes place ≡ true
    → stays known (focus_after_resuming out) ≡ serves_by o script known p place r out
serves o script known p place r true e = refl
serves o script known p place r false e = goes_on o script known p place r (lets place e)
  where
    lets : (place : Awaiting) → resumes place ≡ true → lets_go place ≡ true
    lets tracer.Seizing e = absurd (cc e)
    lets tracer.Entry_regs e = absurd (cc e)
    lets (tracer.Entry_peek r got w) e = absurd (cc e)
    lets (tracer.Entry_set r n) e = absurd (cc e)
    lets tracer.Exit_regs e = absurd (cc e)
    lets (tracer.Exit_set r x) e = absurd (cc e)
    lets (tracer.Exit_peek x replaced got w) e = absurd (cc e)
    lets (tracer.Signal_info n) e = absurd (cc e)
    lets (tracer.Resuming n) e = refl
    lets tracer.Listening e = absurd (cc e)

lives : (tracees : List ℕ) (p : ℕ) (place : Awaiting) (r : Reply) → resumes place ≡ true → tracees ≡ tracees_by_reply tracees p (is_seizing place && says_done r)
lives tracees p tracer.Seizing r e = absurd (cc e)
lives tracees p tracer.Entry_regs r e = absurd (cc e)
lives tracees p (tracer.Entry_peek regs got w) r e = absurd (cc e)
lives tracees p (tracer.Entry_set regs n) r e = absurd (cc e)
lives tracees p tracer.Exit_regs r e = absurd (cc e)
lives tracees p (tracer.Exit_set regs x) r e = absurd (cc e)
lives tracees p (tracer.Exit_peek x replaced got w) r e = absurd (cc e)
lives tracees p (tracer.Signal_info n) r e = absurd (cc e)
lives tracees p (tracer.Resuming n) r e = refl
lives tracees p tracer.Listening r e = absurd (cc e)

is_resumed : (o : Options) (script : Script) (known : ℕ → Known) (tracees : List ℕ) (f : Focus) (r : Reply) → resumed f ≡ true → GoesOn o script known tracees f r
is_resumed o script known tracees (focus.Serving p place) r e = record {
  next = serves o script known p (place_of place) r (says_out r) e;
  living = lives tracees p (place_of place) r e;
}
is_resumed o script known tracees focus.Booting r e = absurd (cc e)
is_resumed o script known tracees focus.Waiting r e = absurd (cc e)
is_resumed o script known tracees focus.AskingOutcome r e = absurd (cc e)
is_resumed o script known tracees (focus.Over x) r e = absurd (cc e)
is_resumed o script known tracees focus.TurnsOver r e = absurd (cc e)
is_resumed o script known tracees focus.Faulted r e = absurd (cc e)

abbrev pub GoesBy : Core → Focus → Reply → List ℕ → Core → Core → Type 0
GoesBy old f r bytes here new = Goes (next_by (options_of old.session.settings) (script_of old.session.settings) (known_in old) f r)
    (tracees_by old.living f r) bytes here new

pub by_resumption : (old new : Core) (r : Reply) (bytes : List ℕ) → resumed old.focus ≡ true
    → Goes (stays (known_in old) (focus_after_resuming (says_out r))) old.living bytes old new
    → GoesBy old old.focus r bytes old new
by_resumption old new r bytes e g =
    let o = options_of old.session.settings in
    let h = is_resumed o (script_of old.session.settings) (known_in old) old.living old.focus r e in
    subst (λ n. Goes n (tracees_by old.living old.focus r) bytes old new) h.next
    (subst (λ l. Goes (stays (known_in old) (focus_after_resuming (says_out r))) l bytes old new) h.living g)

-- with the focus taken out
pub by_focus : {E : Type 0} (old new : Core) (r : Reply) (bytes : Result (List ℕ) E) (f here : Focus) → f ≡ old.focus
    → IfOk bytes (λ b. GoesBy old f r b (record old { focus = here }) new) → IfOk bytes (λ b. GoesBy old old.focus r b old new)
by_focus old new r (Err e) f here is g = tt
by_focus old new r (Ok b) f here is g = subst (λ x. GoesBy old x r b old new) is (record {
  known = g.known;
  focus = g.focus;
  living = g.living;
  text = g.text;
  pen = g.pen;
  settings = g.settings;
  holds = g.holds;
})

-- what a call of next answers

pub hears_ok : (taken : ℕ) (old new : Core) (failed : Bool) (r : Reply) (bytes : List ℕ) (act : Act) → failed ≡ false
    → Steps taken old r (Some bytes) new
    → act ≡ act_of (tracer.request (options_of new.session.settings) (focus_of new.focus))
    (rests_at (open_call new.session.printer)) bytes
    → Hears (state_in old taken failed) r (Ok act) (state_in new (taken + 1) failed)
unfolding Hears request_of may_rest
hears_ok taken old new failed r bytes act e h is =
    subst (λ b. Hears (state_in old taken b) r (Ok act) (state_in new (taken + 1) b)) (sym e) (
      refl,
      h.0,
      h.1,
      h.2,
      is
          ∙ ap (act_of (tracer.request (options_of new.session.settings) (focus_of new.focus))
          (rests_at (open_call new.session.printer))) h.3,
    )

pub hears_refusal : (taken : ℕ) (old new : Core) (failed : Bool) (r : Reply) → failed ≡ false
    → Steps taken old r None new → Hears (state_in old taken failed) r (Err Inadmissible) (state_in new taken failed)
unfolding Hears
hears_refusal taken old new failed r e h =
    subst (λ b. Hears (state_in old taken b) r (Err Inadmissible) (state_in new taken b)) (sym e) (refl, h.0, h.1)

pub hears_want : (taken : ℕ) (old new : Core) (failed : Bool) (r : Reply) → admits_in old r ≡ true
    → Hears (state_in old taken failed) r (Err Memory) (state_in new taken true)
unfolding Hears admitted taken_of
hears_want taken old new failed r h = ((λ e. h), refl, refl)

pub hears_again : (taken : ℕ) (old : Core) (failed : Bool) (r : Reply) → failed ≡ true
    → Hears (state_in old taken failed) r (Err Memory) (state_in old taken failed)
unfolding Hears taken_of
hears_again taken old failed r e = ((λ k. absurd (cc (e, k))), refl, e)

pub on_err : {A E : Type 0} (r : Result A E) (X : Type 0) → X → OnErr r X
on_err (Ok a) X x = tt
on_err (Err e) X x = x
