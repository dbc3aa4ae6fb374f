-- What is heard of one tracee is put in its place.
use Rattle.std.proofs.Common.{◌≡◌, ℕ, Bool, true, false, cond, List, Option, Some, None, Result, Ok, Err, IfOk, refl, sym, ap, ap₂, subst, ◌∙◌, arith, unwrap_or}
use Rattle.std.specs.Prelude.{◌==◌, IsSome}
use Rattle.std.specs.Ordering.{nat_cmp, is_eq}
use Rattle.std.specs.Cmp.{nat_cmp_total, tied_itself}
use Rattle.std.specs.Option.{option_map}
use Rattle.std.specs.FinMap as maps
use Rattle.std.proofs.lemmas.Bool.Decides.{nat_tests}
use mathlib.Core.Path.{fun_ext}
use Rattle.lx_abi.specs.declared.ptrace.Reply.{Reply}
use Rattle.lx_abi.specs.declared.status.Stop.{Stop}
use Rattle.lx_abi.specs.declared.status.Stop.TheVariants.{Syscall as Syscall_stop, Signal as Signal_stop, Group as Group_stop, Event as Event_stop, Ended}
use Rattle.lx_model.specs.Kernel.{Script, put}
use Rattle.pt_model.specs.Parts.{Options}
use Rattle.lx_model.specs.Finite.{at}
use Rattle.pt_model.specs.Tracer.{Known, Heard, Waiting, focus_on, heard, hears, nothing, stays, took_stop, told_tracees}
use Rattle.pt_model.specs.Tracer as tracer
use Rattle.lx_model.proofs.Bridge.{at-insert}
use Rattle.tr_core.specs.Hearings.{Comes, ComesIn, LeavesOthers, counts_at, known_at, stop_heard}
use Rattle.tr_core.specs.Admitted.{lets_go}
use Rattle.tr_core.specs.Held.{FocusHolds}
use Rattle.tr_core.specs.Known.{known_of, new_tracee, place_of}
use Rattle.tr_core.specs.Tracers.{Goes, focus_of, known_in}
use Rattle.lx_abi.specs.declared.occurrences.Occurrences.{Occurrences}
use Rattle.tr_core.specs.declared.heard.Heard.{Heard as CodeHeard}
use Rattle.tr_core.specs.declared.session.Session.{Session}
use Rattle.tr_core.specs.declared.place.Focus.{Focus}
use Rattle.tr_core.specs.declared.place.Tracee.{Tracee}
use Rattle.tr_core.specs.declared.stepping.Core.{Core}

put_in : (was is : maps.FinMap nat_cmp Tracee) (old new : Occurrences) (pid : ℕ) (k : Known) → LeavesOthers pid old new
    → ((q : ℕ) → (pid == q) ≡ false → at new_tracee is q ≡ at new_tracee was q) → k ≡ known_of (at new_tracee is pid) (counts_at new pid)
    → (λ q. known_of (at new_tracee is q) (counts_at new q)) ≡ put (λ q. known_of (at new_tracee was q) (counts_at old q)) pid k
put_in was is old new pid k others rest e = fun_ext (λ q. go q (pid == q) refl)
  where
    go : (q : ℕ) (b : Bool) → (pid == q) ≡ b
        → known_of (at new_tracee is q) (counts_at new q) ≡ cond b k (known_of (at new_tracee was q) (counts_at old q))
    go q true i =
        let same : pid ≡ q = grind (arith, nat_tests, i) in
        ap (λ x. known_of (at new_tracee is x) (counts_at new x)) (sym same) ∙ sym e
    go q false i = ap₂ (λ (t : Tracee) (c : ℕ → ℕ). known_of t c) (rest q i) (fun_ext (λ n. others q n i))

-- what came of one tracee, and is asked next
pub kept : (h : Heard) (pid : ℕ) (told : CodeHeard) (session : Session) (known : maps.FinMap nat_cmp Tracee) (living : List ℕ) (focus : Focus) (old : Core)
    → ComesIn h told old.session session pid old.known known
    → focus_of focus ≡ focus_on pid (option_map place_of told.next)
    → FocusHolds session.settings.options (λ q. (at new_tracee known q).called) focus
    → Goes (heard (known_in old) pid h) living told.bytes old (record { session = session; known = known; living = living; focus = focus })
kept h pid told session known living focus old comes asked holds = record {
  known = put_in old.known known old.session.counts session.counts pid h.known comes.comes.others comes.rest comes.comes.known;
  focus = asked ∙ ap (focus_on pid) (sym comes.comes.place);
  living = refl;
  text = comes.comes.text;
  pen = comes.comes.pen;
  settings = comes.comes.settings;
  holds = holds;
}

took_stop-is : (o : Options) (known : ℕ → Known) (p : ℕ) (stop : Stop) → took_stop o known p stop ≡ heard known p (stop_heard o p (known p) stop)
took_stop-is o known p (Syscall_stop good) = refl
took_stop-is o known p (Signal_stop signal) = refl
took_stop-is o known p (Group_stop signal) = refl
took_stop-is o known p (Event_stop event) = refl
took_stop-is o known p (Ended word) = refl

pub status_kept : (o : Options) (pid : ℕ) (stop : Stop) (told : CodeHeard) (session : Session) (known : maps.FinMap nat_cmp Tracee) (living : List ℕ) (focus : Focus) (old : Core)
    → ComesIn (stop_heard o pid (known_in old pid) stop) told old.session session pid old.known known
    → living ≡ told_tracees old.living pid (Some stop)
    → focus_of focus ≡ focus_on pid (option_map place_of told.next)
    → FocusHolds session.settings.options (λ q. (at new_tracee known q).called) focus
    → Goes (took_stop o (known_in old) pid stop) (told_tracees old.living pid (Some stop)) told.bytes old (record { session = session; known = known; living = living; focus = focus })
status_kept o pid stop told session known living focus old comes lives asked holds =
    let new : Core = record { session = session; known = known; living = living; focus = focus } in
    subst (λ n. Goes n (told_tracees old.living pid (Some stop)) told.bytes old new) (sym (took_stop-is o (known_in old) pid stop))
    (subst (λ l. Goes (heard (known_in old) pid (stop_heard o pid (known_in old pid) stop)) l told.bytes old new) lives
    (kept (stop_heard o pid (known_in old pid) stop) pid told session known living focus old comes asked holds))

-- A tracee that is put in anew is known as before.

pub met : (m : maps.FinMap nat_cmp Tracee) (pid : ℕ) → maps.get m pid ≡ None → at new_tracee (maps.insert m pid new_tracee) ≡ at new_tracee m
met m pid e = at-insert new_tracee m pid new_tracee ∙ fun_ext (λ q. go q (pid == q) refl)
  where
    go : (q : ℕ) (b : Bool) → (pid == q) ≡ b → cond b new_tracee (at new_tracee m q) ≡ at new_tracee m q
    go q true i =
        let same : pid ≡ q = grind (arith, nat_tests, i) in
        ap (λ (o : Option Tracee). unwrap_or o new_tracee) (sym (ap (maps.get m) (sym same) ∙ e))
    go q false i = refl

pub there : (m : maps.FinMap nat_cmp Tracee) (pid : ℕ) (t : Tracee) → IsSome (maps.get (maps.insert m pid t) pid)
there m pid t =
    subst IsSome (sym (maps.get-insert nat_cmp_total m pid t pid ∙ ap (λ b. cond b (Some t) (maps.get m pid)) (ap is_eq (tied_itself nat_cmp_total pid)))) refl

-- what stands at a process that is there, and is changed in its place
pub others_in : (m : maps.FinMap nat_cmp Tracee) (pid : ℕ) (t : Tracee) (q : ℕ) → (pid == q) ≡ false
    → at new_tracee (maps.insert m pid t) q ≡ at new_tracee m q
others_in m pid t q e = ap (λ (f : ℕ → Tracee). f q) (at-insert new_tracee m pid t) ∙ ap (λ b. cond b t (at new_tracee m q)) e

pub own_in : (m : maps.FinMap nat_cmp Tracee) (pid : ℕ) (t : Tracee) → at new_tracee (maps.insert m pid t) pid ≡ t
own_in m pid t = ap (λ (f : ℕ → Tracee). f pid) (at-insert new_tracee m pid t) ∙ own (pid == pid) (grind (arith, nat_tests))
  where
    own : (b : Bool) → b ≡ true → cond b t (at new_tracee m pid) ≡ t
    own true e = refl
    own false e = absurd (cc e)

pub found : (was met : maps.FinMap nat_cmp Tracee) (pid : ℕ) (t : Tracee) → at new_tracee met ≡ at new_tracee was → Some t ≡ maps.get met pid
    → t ≡ at new_tracee was pid
found was met pid t same here = ap (λ (o : Option Tracee). unwrap_or o new_tracee) here ∙ ap (λ (f : ℕ → Tracee). f pid) same

-- what comes of a tracee that is lent, in the map that lends it
pub in_place : {E : Type 0} (result : Result CodeHeard E) (m : Known → Heard) (s s' : Session) (pid : ℕ) (was met is : maps.FinMap nat_cmp Tracee) (old new : Tracee)
    → at new_tracee met ≡ at new_tracee was → Some old ≡ maps.get met pid → is ≡ maps.insert met pid new
    → IfOk result (λ h. Comes (m (known_at s pid old)) h s s' pid old new)
    → IfOk result (λ h. ComesIn (m (known_at s pid (at new_tracee was pid))) h s s' pid was is)
in_place (Err e) m s s' pid was met is old new same here puts comes = tt
in_place (Ok h) m s s' pid was met is old new same here puts comes =
    let before = found was met pid old same here in
    let after : new ≡ at new_tracee is pid = sym (ap (λ x. at new_tracee x pid) puts ∙ own_in met pid new) in
    record {
      comes = subst (λ (t : Tracee). Comes (m (known_at s pid (at new_tracee was pid))) h s s' pid (at new_tracee was pid) t) after
          (subst (λ (t : Tracee). Comes (m (known_at s pid t)) h s s' pid t new) before comes);
      rest = λ q e. ap (λ x. at new_tracee x q) puts ∙ others_in met pid new q e ∙ ap (λ (f : ℕ → Tracee). f q) same;
    }

-- A tracee that was let go is known as before.

put_same : (known : ℕ → Known) (p : ℕ) → known ≡ put known p (known p)
put_same known p = fun_ext (λ q. go q (p == q) refl)
  where
    go : (q : ℕ) (b : Bool) → (p == q) ≡ b → known q ≡ cond b (known p) (known q)
    go q true e =
        let same : q ≡ p = grind (arith, nat_tests, e) in
        ap known same
    go q false e = refl

let_go : (known : ℕ → Known) (p : ℕ) → stays known Waiting ≡ heard known p (nothing (known p))
let_go known p = ap (λ m. stays m Waiting) (put_same known p)

pub goes_on : (o : Options) (script : Script) (known : ℕ → Known) (p : ℕ) (place : tracer.Awaiting) (reply : Reply)
    → lets_go place ≡ true → stays known Waiting ≡ heard known p (hears o script p (known p) place reply)
goes_on o script known p tracer.Seizing reply e = let_go known p
goes_on o script known p (tracer.Resuming n) reply e = let_go known p
goes_on o script known p tracer.Listening reply e = let_go known p
goes_on o script known p tracer.Entry_regs reply e = absurd (cc e)
goes_on o script known p (tracer.Entry_peek r got w) reply e = absurd (cc e)
goes_on o script known p (tracer.Entry_set r n) reply e = absurd (cc e)
goes_on o script known p tracer.Exit_regs reply e = absurd (cc e)
goes_on o script known p (tracer.Exit_set r x) reply e = absurd (cc e)
goes_on o script known p (tracer.Exit_peek x replaced got w) reply e = absurd (cc e)
goes_on o script known p (tracer.Signal_info n) reply e = absurd (cc e)
