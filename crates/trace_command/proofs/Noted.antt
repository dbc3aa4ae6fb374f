-- What a run notes that comes to its end.
use Rattle.std.proofs.Common.{◌≡◌, ◌⊎◌, ℕ, Bool, true, false, List, Option, Some, None, IsSome, Result, Ok, Err, IsErr}
use Rattle.std.proofs.Common.{OnOk, inl, inr, refl, sym, ap, subst, ◌∙◌}
use Rattle.std.proofs.Common.{true≢false}
use Rattle.std.specs.Prelude.{◌&&◌, ◌||◌, IfSome, codes, is_none, is_some}
use Rattle.clap.specs.declared.parser.matches.ArgMatches.{ArgMatches}
use Rattle.lx_abi.specs.declared.outcome.Outcome.{Outcome}
use Rattle.lx_abi.specs.declared.schedule.Event.{Event}
use Rattle.front_end.specs.declared.fault.Fault.{Fault}
use Rattle.front_end.specs.declared.streams.Opened.{Opened}
use Rattle.front_end.specs.declared.fault.Fault.TheVariants as the
use Rattle.host_link.specs.declared.fault.LinkFault.{LinkFault}
use Rattle.host_link.specs.declared.fault.LinkFault.TheVariants as link
use Rattle.pt_schedule.specs.Schedules.{worded}
use Rattle.tr_core.specs.declared.tracing.TraceFault.TheVariants.{Inadmissible, Memory}
use Rattle.trace_run.specs.Records.{noted_if}
use Rattle.trace_run.specs.Writers.{Writer}
use Rattle.trace_run.specs.declared.running.Ended.{Ended}
use Rattle.trace_run.specs.declared.running.RunFault.{RunFault}
use Rattle.trace_run.specs.declared.running.RunFault.TheVariants as run
use Rattle.trace_command.specs.Faults.{IsFaultOf, IsHostFault, IsUnwritable, has_ended, host_number, is_out_of_turns}
use Rattle.trace_command.specs.Noting.{AsksAlike, EventsHere, EventsOf, IsKeptFor, IsSecond, Notes, NotesHere, NotesOf}
use Rattle.trace_command.specs.Noting.{WritesEvents, WritesEventsAt, WritesEventsOf, WritesEventsTo, WritesKept, WritesNoted}
use Rattle.trace_command.specs.Tracing.{EndsLine, Leaves, Reaches, Settles, Takes, Wanted, wants}
use Rattle.trace_command.specs.TurnsOut.{WritesTurns}
use Rattle.trace_command.specs.declared.kept.Kept.{Kept}
use Rattle.trace_command.specs.declared.kernel.Kernel.{Kernel}
use Rattle.trace_command.specs.declared.kernel.Kernel.TheVariants.{Here, OnThreads, There}
use Rattle.trace_command.specs.declared.place.Place.{Place}
use Rattle.trace_command.specs.declared.place.Place.TheVariants as place
use Rattle.trace_words.specs.Copies.{IsSame}
use Rattle.trace_words.specs.declared.plan.Plan.{Plan}
use Rattle.trace_words.specs.declared.asked.Workers.{Workers}

pub on_ok_more : {A X : Type 0} {P Q : Type 0} (r : Result A X) → (P → Q) → OnOk r P → OnOk r Q
on_ok_more (Ok x) f p = f p
on_ok_more (Err e) f p = p

-- where the file of a trace holds it
pub reached_too : (ended result : Result Ended RunFault) (written held : Option (List ℕ)) (P : Type 0)
    → Reaches ended result written held → OnOk ended P → OnOk result P
reached_too ended result written held P (inl (e, k)) p = subst (λ r. OnOk r P) (sym e) p
reached_too ended result written held P (inr (e, k)) p = subst (λ r. OnOk r P) (sym e) tt

-- ---- a run that has ended didn't fail

ok_is_no_fault : (f : RunFault) (x : Ended) → Err f ≡ Ok x → ⊥
ok_is_no_fault f x h = true≢false (sym (subst (λ r. IsErr r) h refl))

not_of_a_host : (fault : Fault) → is_out_of_turns fault ≡ true → host_number fault ≡ None
not_of_a_host (the.Usage text) e = absurd (true≢false (sym e))
not_of_a_host (the.Expression fault reason) e = absurd (true≢false (sym e))
not_of_a_host (the.Listing line kind) e = absurd (true≢false (sym e))
not_of_a_host (the.Host number reason) e = absurd (true≢false (sym e))
not_of_a_host (the.OutOfTurns text) e = refl
not_of_a_host (the.Output text) e = absurd (true≢false (sym e))
not_of_a_host the.Memory e = absurd (true≢false (sym e))

unwritable : (fault : Fault) → IsUnwritable fault → is_out_of_turns fault ≡ true → ⊥
unwritable (the.Usage text) u e = true≢false (sym u)
unwritable (the.Expression fault reason) u e = true≢false (sym u)
unwritable (the.Listing line kind) u e = true≢false (sym u)
unwritable (the.Host number reason) u e = true≢false (sym u)
unwritable (the.OutOfTurns text) u e = true≢false (sym u)
unwritable (the.Output text) u e = true≢false (sym e)
unwritable the.Memory u e = true≢false (sym e)

numbered : (fault : Fault) (n : ℕ) → host_number fault ≡ Some n → is_out_of_turns fault ≡ true → ⊥
numbered fault n h e = true≢false (sym (subst (λ o. IsSome o) (sym h ∙ not_of_a_host fault e) refl))

of_memory : (fault : Fault) → fault ≡ the.Memory → is_out_of_turns fault ≡ true → ⊥
of_memory fault h e = true≢false (sym e ∙ ap (λ f. is_out_of_turns f) h)

of_a_link : (f : LinkFault) (fault : Fault) → IsHostFault f fault → is_out_of_turns fault ≡ true → ⊥
of_a_link link.Ended fault h e = numbered fault 1 h e
of_a_link link.Read fault h e = numbered fault 2 h e
of_a_link link.Write fault h e = numbered fault 3 h e
of_a_link link.Malformed fault h e = numbered fault 4 h e
of_a_link link.Sequence fault h e = numbered fault 5 h e
of_a_link link.Inadmissible fault h e = numbered fault 6 h e
of_a_link link.Memory fault h e = of_memory fault h e
of_a_link link.TooMany fault h e = numbered fault 8 h e

of_a_fault : (f : RunFault) (fault : Fault) → IsFaultOf (Err f) fault → is_out_of_turns fault ≡ true → ⊥
of_a_fault (run.Link f) fault h e = of_a_link f fault h e
of_a_fault (run.Trace Inadmissible) fault h e = numbered fault 6 h e
of_a_fault (run.Trace Memory) fault h e = of_memory fault h e
of_a_fault run.Output fault h e = unwritable fault h e

own_or_unwritable : (at : Place) (own fault : Fault) (err err' : Writer) → EndsLine at own fault err err'
    → (fault ≡ own) ⊎ IsUnwritable fault
own_or_unwritable place.Error own fault err err' (inl h) = inl h.0
own_or_unwritable place.Error own fault err err' (inr h) = inr h.0
own_or_unwritable place.Output own fault err err' h = inl h.0
own_or_unwritable (place.File path) own fault err err' h = inl h.0

failed : (f : RunFault) (own fault : Fault) → IsFaultOf (Err f) own → (fault ≡ own) ⊎ IsUnwritable fault
    → is_out_of_turns fault ≡ true → ⊥
failed f own fault h (inl same) e = of_a_fault f own h (sym (ap (λ x. is_out_of_turns x) same) ∙ e)
failed f own fault h (inr u) e = unwritable fault u e

pub settled_well : (at : Place) (ended : Result Ended RunFault) (result : Result Outcome Fault) (err err' : Writer)
    (P : Type 0) → Settles at ended result err err' → has_ended result ≡ true → OnOk ended P → P
settled_well at (Ok x) result err err' P h e p = p
settled_well at (Err f) (Ok outcome) err err' P h e p = absurd (ok_is_no_fault f _ h.0)
settled_well at (Err f) (Err fault) err err' P h e p =
    absurd (failed f h.0 fault h.1.0 (own_or_unwritable at h.0 fault err err' h.1.1) e)

-- ---- by a plan

pub plan_notes : {P I O E : Type 0} (remaining : O → Option (List ℕ)) (contents : I → Option (List ℕ))
    (host : Option (List ℕ)) (workers : Option Workers) (limit : ℕ) (plan : Plan) (kernel : Kernel P I O E)
    (asked : Bool) (noted : Option (List Event))
    → Takes remaining contents host workers plan.boot limit plan.turns.items kernel
    → Notes plan.options plan.script kernel asked noted → NotesOf host workers limit plan asked noted
plan_notes remaining contents None None limit plan (Here boot schedule) asked noted t h =
    subst (λ s. NotesHere plan.options plan.script plan.boot s asked noted) t.1
    (subst (λ b. NotesHere plan.options plan.script b schedule asked noted) t.0 h)
plan_notes remaining contents None None limit plan (There link) asked noted t h = absurd t
plan_notes remaining contents None None limit plan (OnThreads boot workers) asked noted t h = absurd t
plan_notes remaining contents None (Some workers) limit plan kernel asked noted t h = tt
plan_notes remaining contents (Some host) workers limit plan kernel asked noted t h = tt

-- ---- in the file of turns

-- what is asked for once more

nothing_else : (asked waits : Bool) → (waits || asked) ≡ false → asked ≡ false
nothing_else asked true e = absurd (true≢false e)
nothing_else asked false e = e

pub none_again : (workers : Option Workers) (host : Option (List ℕ)) (plan : Plan) (asked waits : Bool)
    → (is_none workers && (is_some host && (waits || asked))) ≡ false → IsSecond workers host plan asked None
none_again (Some workers) host plan asked waits e = refl
none_again None None plan asked waits e = refl
none_again None (Some host) plan asked waits e = nothing_else asked waits e

pub one_again : (workers : Option Workers) (host : Option (List ℕ)) (plan again : Plan) (asked waits : Bool)
    → (is_none workers && (is_some host && (waits || asked))) ≡ true → IsSame plan again
    → IsSecond workers host plan asked (Some again)
one_again (Some workers) host plan again asked waits e same = absurd (true≢false (sym e))
one_again None None plan again asked waits e same = absurd (true≢false (sym e))
one_again None (Some host) plan again asked waits e same = same

-- what was noted was written, where the file is asked for

abbrev Noted_again : Option Plan → Kept → Option (List Event) → Type 0
Noted_again second old noted =
    IfSome second (λ plan. NotesHere plan.options plan.script plan.boot (worded plan.turns.items old.asked.limit)
    old.asked.events noted)

kept_written : {F : Type 0} (held : Opened F → Option (List ℕ)) (path : List ℕ) (old : Kept)
    (noted : Option (List Event)) (second : Option Plan) → (second ≡ None → noted ≡ old.known.events)
    → Noted_again second old noted → IfSome noted (WritesTurns held path) → WritesKept held path old second
kept_written held path old noted None same again w = subst (λ n. IfSome n (WritesTurns held path)) (same refl) w
kept_written held path old noted (Some plan) same again w =
    λ asked events is.
    subst (λ n. IfSome n (WritesTurns held path)) (again events is ∙ ap (λ b. noted_if b events) asked) w

pub noted_written : {F U X : Type 0} (held : Opened F → Option (List ℕ)) (value : Option (List ℕ)) (path : List ℕ)
    (old new : Kept) (result : Result U X) → value ≡ Some path
    → (old.second ≡ None → new.known.events ≡ old.known.events) → Noted_again old.second old new.known.events
    → OnOk result (IfSome new.known.events (WritesTurns held path)) → OnOk result (WritesNoted held value old)
noted_written held value path old new (Err fault) e same again h = tt
noted_written held value path old new (Ok u) e same again h =
    subst (λ v. WritesNoted held v old) (sym e) (kept_written held path old new.known.events old.second same again h)

pub none_asked : {F : Type 0} (held : Opened F → Option (List ℕ)) (value : Option (List ℕ)) (old : Kept) → value ≡ None
    → WritesNoted held value old
none_asked held value old e = subst (λ v. WritesNoted held v old) (sym e) tt

-- and that is what the words ask for

same_events : (limit : ℕ) (plan again : Plan) (events : List Event) → IsSame plan again → EventsOf limit plan events
    → EventsOf limit again events
same_events limit plan again events s e =
    subst (λ x. EventsHere again.options again.script again.boot (worded x limit) events) (sym s.turns)
    (subst (λ x. EventsHere again.options again.script x (worded plan.turns.items limit) events) (sym s.boot)
    (subst (λ x. EventsHere again.options x plan.boot (worded plan.turns.items limit) events) (sym s.script)
    (subst (λ x. EventsHere x plan.script plan.boot (worded plan.turns.items limit) events) (sym s.options) e)))

events_to : {F : Type 0} (held : Opened F → Option (List ℕ)) (wanted : Wanted) (workers : Option Workers)
    (host : Option (List ℕ)) (plan : Plan) (path : List ℕ) (kept : Kept) (second : Option Plan)
    → kept.asked.events ≡ true → kept.asked.limit ≡ wanted.options.limit
    → IsSecond workers host plan kept.asked.events second
    → NotesOf host workers wanted.options.limit plan kept.asked.events kept.known.events
    → WritesKept held path kept second → WritesEventsTo held workers wanted plan kept.known.events path
events_to held wanted (Some workers) host plan path kept second a l s n w = subst (λ x. WritesKept held path kept x) s w
events_to held wanted None None plan path kept second a l s n w =
    λ events is.
    subst (λ x. IfSome x (WritesTurns held path)) (n events is ∙ ap (λ b. noted_if b events) a)
    (subst (λ x. WritesKept held path kept x) s w)
events_to held wanted None (Some host) plan path kept None a l s n w = absurd (true≢false (sym a ∙ s))
events_to held wanted None (Some host) plan path kept (Some again) a l s n w =
    λ events is.
    subst (λ limit. WritesEventsOf held path limit again) l (w a) events
    (same_events wanted.options.limit plan again events s is)

events_at : {F : Type 0} (held : Opened F → Option (List ℕ)) (wanted : Wanted) (plan : Plan) (value : Option (List ℕ))
    (kept : Kept) → kept.asked.events ≡ is_some value → kept.asked.limit ≡ wanted.options.limit
    → IsSecond wanted.options.workers (wants wanted (codes "host")) plan kept.asked.events kept.second
    → NotesOf (wants wanted (codes "host")) wanted.options.workers wanted.options.limit plan kept.asked.events
    kept.known.events
    → WritesNoted held value kept → WritesEventsAt held wanted plan kept.known.events value
events_at held wanted plan None kept a l s n w = tt
events_at held wanted plan (Some path) kept a l s n w =
    events_to held wanted wanted.options.workers (wants wanted (codes "host")) plan path kept kept.second a l s n w

pub events_written : {F : Type 0} (held : Opened F → Option (List ℕ)) (wanted : Wanted) (plan : Plan) (old new : Kept)
    → IsKeptFor wanted plan old → AsksAlike old new
    → NotesOf (wants wanted (codes "host")) wanted.options.workers wanted.options.limit plan old.asked.events
    new.known.events
    → WritesNoted held (wants wanted (codes "turns-out")) new → WritesEvents held wanted plan new.known.events
events_written held wanted plan old new k alike n w =
    events_at held wanted plan (wants wanted (codes "turns-out")) new (ap (λ x. x.events) alike.0 ∙ k.asked)
    (ap (λ x. x.limit) alike.0 ∙ k.limit)
    (subst (λ x. IsSecond wanted.options.workers (wants wanted (codes "host")) plan new.asked.events x) (sym alike.1)
    (subst (λ x. IsSecond wanted.options.workers (wants wanted (codes "host")) plan x old.second)
    (sym (ap (λ x. x.events) alike.0)) k.second))
    (subst
    (λ x. NotesOf (wants wanted (codes "host")) wanted.options.workers wanted.options.limit plan x new.known.events)
    (sym (ap (λ x. x.events) alike.0)) n)
    w

pub leaves_more : (words : ArgMatches) (file file' : Type 0) (made : Result Outcome Fault) (result : Result ℕ Fault)
    (old new : Writer) → (has_ended made ≡ true → file → file') → Leaves words file made result old new
    → Leaves words file' made result old new
leaves_more words file file' made result old new g h =
    (h.0, (h.1.0, (h.1.1.0, on_ok_more h.0 (λ f e. g e (f e)) h.1.1.1)))
