-- What a run has written when it asks Wait, by the untraced kernel.
use Rattle.std.proofs.Common.{◌≡◌, ◌⊎◌, ◌≤◌, Bool, true, false, List, [], ◌∷◌, ◌++◌, refl, sym, ap, subst, ◌∙◌, arith, inl, inr, append_assoc}
use Rattle.std.specs.Prelude.{length}
use Rattle.std.proofs.lemmas.List.{map-append, append-nil}
use Rattle.std.specs.Io.KnownBytes.{Appends}
use Rattle.lx_abi.specs.declared.outcome.Outcome.{Outcome}
use Rattle.lx_abi.specs.declared.ptrace.Reply.{Reply}
use Rattle.lx_abi.specs.declared.ptrace.Reply.TheVariants.{Done as Agreed, OutOfTurns as Out_of_turns}
use Rattle.lx_abi.specs.declared.ptrace.Request.TheVariants.{Wait}
use Rattle.lx_abi.specs.declared.schedule.Event.{Event}
use Rattle.lx_abi.specs.Scripts.{choice_of}
use Rattle.lx_boot.specs.First.{first_shared}
use Rattle.lx_exec.specs.Programs.{booted}
use Rattle.lx_kernel.specs.Outcomes.{outcome_in}
use Rattle.lx_model.specs.Kernel.{Script}
use Rattle.lx_model.specs.Machine.{Machine, IsMachine}
use Rattle.lx_proc.specs.declared.state.Shared.{Shared}
use Rattle.lx_proc.specs.declared.state.UserState.{UserState}
use Rattle.lx_turn.specs.Linux.{linux}
use Rattle.pt_kernel.specs.Seen.{next_of_host}
use Rattle.pt_model.specs.Calls.{EventsOfReplies, OutOfTurnsShowsNothing, Used, SchedulesAreLists, TalksAreOwn, Talks, IsOwn, out_of_turns_if}
use Rattle.pt_model.specs.Headline.{IsTold, IsTransparent, Headline, NothingKeptBack, traced_run, plain_run}
use Rattle.pt_model.specs.Parts as parts_of
use Rattle.pt_model.specs.Ptrace.{is_there}
use Rattle.pt_model.specs.Replies.{RepliesTellAll, replies, told_by}
use Rattle.pt_model.specs.Tracer.{Waiting, Turns_over, Tracer, Moved, request, next, new_tracer, first_tracer}
use Rattle.pt_model.specs.View.{view, traced, parts}
use Rattle.pt_model.specs.World.{World, first_world}
use Rattle.pt_schedule.specs.declared.schedule.Schedule.{Schedule}
use Rattle.tr_core.specs.Laws.{StatesAreTracers, TextsAreWhole, TracersWriteRenderings}
use Rattle.tr_core.specs.Settings.{options_by, layout_by, first_pen}
use Rattle.tr_core.specs.States.{State, new_state, heard, told, text}
use Rattle.tr_core.specs.declared.settings.Options.{Options}
use Rattle.tr_line.specs.Lines.{rendering}
use Rattle.trace_run.specs.BootedRuns.{following}
use Rattle.trace_run.specs.LocalRuns.{local_answers}
use Rattle.trace_run.specs.Owed.{HadWritten, WritesBeforeItWaits, TracesWriteBeforeTheyWait}
use Rattle.trace_run.specs.Runs.{Answers, Ends, forgets, replies_of}
use Rattle.trace_run.proofs.Owed.{rest_of, Begins, AsksThen, asked_behind, asks_then, waits_in, writes_before_it_asks}
use Rattle.trace_run.proofs.Refused.{last_of}

-- a beginning of two lists is one of the first, or both, where the second has one at most
but_one : (xs more all tail : List Reply) → length tail ≤ 1 → xs ++ more ≡ all ++ tail → Begins all xs ⊎ (xs ≡ all ++ tail)
but_one [] more all tail one e = inl (record { more = all; split = refl })
but_one (x ∷ []) [] [] tail one e = inr e
but_one (x ∷ []) (r ∷ more) [] tail one e = absurd (omega (arith, ap length e, one))
but_one (x ∷ (z ∷ xs)) more [] tail one e = absurd (omega (arith, ap length e, one))
but_one (x ∷ xs) more (y ∷ all) tail one e = again (but_one xs more all tail one (ap rest_of e))
  where
    again : Begins all xs ⊎ (xs ≡ all ++ tail) → Begins (y ∷ all) (x ∷ xs) ⊎ (x ∷ xs ≡ y ∷ (all ++ tail))
    again (inl k) = inl (record { more = k.more; split = cc (e, k.split) })
    again (inr k) = inr (cc (e, k))

of_the_first : (xs ys zs : List Reply) → (xs ≡ zs → Begins ys xs) → Begins ys xs ⊎ (xs ≡ zs) → Begins ys xs
of_the_first xs ys zs k (inl x) = x
of_the_first xs ys zs k (inr e) = k e

one_at_most : (b : Bool) → length (out_of_turns_if b) ≤ 1
one_at_most true = omega arith
one_at_most false = omega arith

-- behind the last of the world's replies, OutOfTurns, nothing is waited for
not_out : {S B : Type 0} → RepliesTellAll S B → OutOfTurnsShowsNothing → (m : Machine S B) (outcome : S → Outcome) (o : parts_of.Options) (script : Script) (s : S) (b : B) (events : List Event) (rs : List Reply)
    → (told_by o script (Agreed ∷ rs)).tracer.focus ≡ Waiting → (asks : Bool) → is_there (request o (traced_run m outcome o script s b events).tracer.focus) ≡ asks
    → rs ≡ replies m outcome o script (first_world s b) events ++ out_of_turns_if asks → Begins (replies m outcome o script (first_world s b) events) rs
not_out tell_all nothing m outcome o script s b events rs waits false p e = record { more = []; split = sym (append-nil (replies m outcome o script (first_world s b) events)) ∙ sym e ∙ sym (append-nil rs) }
not_out {S} {B} tell_all nothing m outcome o script s b events rs waits true p e =
    let all : List Reply = replies m outcome o script (first_world s b) events in
    let world : World S B = traced_run m outcome o script s b events in
    let over : (told_by o script (Agreed ∷ rs)).tracer.focus ≡ Turns_over =
    ap (λ l. (told_by o script (Agreed ∷ l)).tracer.focus) e
    ∙ ap (λ (x : Moved). x.tracer.focus) (last_of o script (record { tracer = new_tracer; printed = [] }) (Agreed ∷ all) Out_of_turns)
    ∙ ap (λ (x : Moved). (next o script x.tracer Out_of_turns).tracer.focus) (tell_all m outcome o script s b events)
    ∙ (nothing o script world.tracer p).1 in
    absurd (cc (sym waits ∙ over))

pub writes_before_it_waits : {L S B : Type 0} (answers : Answers L) → IsTransparent S B → RepliesTellAll S B → EventsOfReplies S B → OutOfTurnsShowsNothing → StatesAreTracers → TextsAreWhole → TracersWriteRenderings → WritesBeforeItWaits S B answers
writes_before_it_waits {L} {S} {B} answers transparent tell_all of_replies nothing states whole writes o script link link' old new result w m is_m is_told outcome s b events own before h =
    let po : parts_of.Options = options_by o in
    let first : State = new_state po script (first_pen o) in
    let a : Ends L = record { link = link; writer = old; state = first } in
    let z : Ends L = record { link = link'; writer = new; state = w.state } in
    let rs : List Reply = replies_of before in
    let all : List Reply = replies m outcome po script (first_world s b) events in
    let asks : Bool = is_there (request po (traced_run m outcome po script s b events).tracer.focus) in
    let asked : AsksThen (heard first Agreed) before Wait = asks_then answers a z (forgets result) w.runs before Wait h in
    let tracer_waits : (told_by po script (Agreed ∷ rs)).tracer.focus ≡ Waiting =
    ap (λ (t : Tracer). t.focus) (sym (states po script (first_pen o) (Agreed ∷ rs)).0) ∙ waits_in (told first (Agreed ∷ rs)) asked.next in
    let head : Begins w.runs.exchanges before = asked_behind w.runs.exchanges (forgets result) w.state before Wait h in
    let begins : rs ++ (replies_of head.more ++ own.more) ≡ all ++ out_of_turns_if asks =
    sym (append_assoc rs (replies_of head.more) own.more) ∙ ap (λ l. l ++ own.more) (sym (ap replies_of head.split ∙ map-append (λ x. x.1) before head.more)) ∙ own.begins in
    let given : Begins all rs =
    of_the_first rs all (all ++ out_of_turns_if asks) (not_out tell_all nothing m outcome po script s b events rs tracer_waits asks refl) (but_one rs (replies_of head.more ++ own.more) all (out_of_turns_if asks) (one_at_most asks) begins) in
    let u : Used m outcome po script (first_world s b) events rs = of_replies m outcome po script (first_world s b) events rs given.more given.split in
    let world : World S B = traced_run m outcome po script s b u.used in
    let told_is : told_by po script (Agreed ∷ rs) ≡ record { tracer = world.tracer; printed = world.printed } =
    ap (λ l. told_by po script (Agreed ∷ l)) (sym u.replied) ∙ tell_all m outcome po script s b u.used in
    let waits : world.tracer.focus ≡ Waiting = ap (λ (x : Moved). x.tracer.focus) (sym told_is) ∙ tracer_waits in
    let headline : Headline outcome po world (plain_run m outcome po script s b u.used) = transparent m is_m is_told outcome po (whole o.string_limit o.limit_in_range) script s b u.used in
    let kept : NothingKeptBack po world.host.queue world.printed (view headline.lost (traced o.follow (plain_run m outcome po script s b u.used).log)) = headline.kept_back waits in
    let had : HadWritten first (Agreed ∷ rs) old new = writes_before_it_asks answers a z (forgets result) w.runs before Wait h in
    let bytes : text first (Agreed ∷ rs) ≡ rendering (layout_by o) (parts po kept.past) =
    writes po script (layout_by o) (Agreed ∷ rs) ∙ ap (λ (x : Moved). rendering (layout_by o) x.printed) told_is ∙ ap (rendering (layout_by o)) kept.shown in
    record {
      used = u.used;
      unused = u.unused;
      split = u.split;
      replied = u.replied;
      lost = headline.lost;
      kept = kept;
      had = had;
      written = subst (Appends old.contents had.moment.contents) bytes had.writes.written;
    }

pub traces_write_before_they_wait : SchedulesAreLists Schedule Shared UserState → TalksAreOwn Shared UserState → WritesBeforeItWaits Shared UserState local_answers → IsMachine linux → IsTold linux → TracesWriteBeforeTheyWait
traces_write_before_they_wait lists own writes machine is_told boot schedule script options result old new t before h =
    let o : Options = following options boot.follow in
    let s : Shared = first_shared boot.limits boot.files boot.input in
    let b : UserState = booted boot.argv boot.env in
    let talks : Talks linux outcome_in (options_by o) (choice_of script) first_tracer (first_world s b).host t.events t.ran.runs.exchanges =
    lists next_of_host linux outcome_in (options_by o) (choice_of script) first_tracer schedule (first_world s b).host t.events t.ran.runs.exchanges t.given in
    let is_own : IsOwn linux outcome_in (options_by o) (choice_of script) s b t.events (replies_of t.ran.runs.exchanges) = own linux outcome_in (options_by o) (choice_of script) s b t.events t.ran.runs.exchanges talks in
    writes o (choice_of script) t.link t.link' old new result t.ran linux machine is_told outcome_in s b t.events is_own before h
