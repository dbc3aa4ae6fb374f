-- What a run writes, by the untraced kernel.
use Rattle.std.proofs.Common.{◌≡◌, ℕ, ◌≤◌, ◌<◌, true, false, List, [], ◌∷◌, ◌++◌, Option, Some, None, Result, Ok, Err, refl, sym, ap, subst, ◌∙◌, append_assoc}
use Rattle.std.specs.Prelude.{⊤, OnOk}
use Rattle.std.proofs.KnownBytes.{Appends-nil, Appends-trans}
use Rattle.std.proofs.lemmas.List.{append-nil}
use Rattle.std.specs.Io.KnownBytes.{Appends}
use Rattle.lx_abi.specs.declared.outcome.Outcome.{Outcome}
use Rattle.lx_abi.specs.declared.ptrace.Reply.{Reply}
use Rattle.lx_abi.specs.declared.ptrace.Reply.TheVariants.{Done as Agreed}
use Rattle.lx_abi.specs.declared.schedule.Event.{Event}
use Rattle.lx_abi.specs.declared.ptrace.Request.{Request}
use Rattle.pt_model.specs.Ptrace.{Host, is_there}
use Rattle.pt_model.specs.World.{World, first_world}
use Rattle.pt_model.specs.Attending.{called}
use Rattle.pt_model.specs.Calls.{IsOwn, Talks, TalksAreOwn, OwnRun, FailuresLeaveAPrefix, FaultsLeaveAPrefix, OwnRepliesTell}
use Rattle.pt_model.specs.Headline.{IsTexts, IsPast, plain_run}
use Rattle.lx_model.specs.Kernel.{Script, traces, Kernel, kernel_run, first_kernel}
use Rattle.lx_model.specs.Machine.{Machine}
use Rattle.pt_model.specs.Parts as parts_of
use Rattle.pt_model.specs.Parts.{Part}
use Rattle.pt_model.specs.Replies.{told_by, admits, FaultsAreForGood}
use Rattle.pt_model.specs.Tracer.{Focus, Booting, Waiting, Serving, Asking_outcome, Over, Turns_over, Faulted, Tracer, Moved, request, new_tracer}
use Rattle.pt_model.specs.View.{view, has_exit, traced, parts}
use Rattle.host_wire.specs.Ends.{AppendsPart}
use Rattle.tr_core.specs.Settings.{options_by, layout_by, first_pen}
use Rattle.tr_core.specs.Laws.{StatesAreTracers, TextsAreWhole, TracersWriteRenderings}
use Rattle.tr_core.specs.Outcomes.{outcome_at, outcome_of}
use Rattle.tr_core.proofs.Told.{said-refused, faulted-refused, told-snoc, text-snoc}
use Rattle.tr_core.specs.States.{State, new_state, told, text, said, heard, moved as moved_by, request_of, admitted, is_faulted, is_faulted_at}
use Rattle.tr_core.specs.declared.settings.Options.{Options}
use Rattle.tr_core.specs.declared.tracing.TraceFault.TheVariants.{Inadmissible, Memory}
use Rattle.tr_line.specs.Lines.{rendering}
use Rattle.tr_line.specs.Printing.{RenderingGrows}
use Rattle.trace_run.specs.declared.running.Ended.{Ended}
use Rattle.trace_run.specs.declared.running.Ended.TheVariants.{Whole, OutOfTurns}
use Rattle.trace_run.specs.declared.running.RunFault.{RunFault}
use Rattle.trace_run.specs.declared.running.RunFault.TheVariants.{Link, Trace, Output}
use Rattle.trace_run.proofs.Begun.{begun}
use Rattle.trace_run.proofs.Refused.{last_is_refused}
use Rattle.trace_run.specs.Runs.{Answers, Asked, Ends, EndsAs, FailsAtLast, Last, replies_of, forgets}
use Rattle.trace_run.specs.Tells.{view_text, RunsTell, RefusedRunsTell, Served, ServedRunsTell}
use Rattle.trace_run.specs.Writers.{Writer}

part_more : (a b : Option (List ℕ)) (xs ys zs : List ℕ) → xs ++ ys ≡ zs → AppendsPart a b xs → AppendsPart a b zs
part_more a b xs ys zs e k = (k.0, (k.1.0 ++ ys, (sym (append_assoc k.0 k.1.0 ys) ∙ ap (λ l. l ++ ys) k.1.1.0 ∙ e, k.1.1.1)))

all_part : (a b : Option (List ℕ)) (xs : List ℕ) → Appends a b xs → AppendsPart a b xs
all_part a b xs h = (xs, ([], (append-nil xs, h)))

part_trans : (a b c : Option (List ℕ)) (xs ys : List ℕ) → Appends a b xs → AppendsPart b c ys → AppendsPart a c (xs ++ ys)
part_trans a b c xs ys h k = (xs ++ k.0, (k.1.0, (append_assoc xs k.0 k.1.0 ∙ ap (λ l. xs ++ l) k.1.1.0, Appends-trans a b c xs k.0 h k.1.1.1)))

-- nothing of them is written yet
no_part : (a : Option (List ℕ)) (xs : List ℕ) → AppendsPart a a xs
no_part a xs = ([], (xs, (refl, Appends-nil a)))

-- where a run failed at its last reply
module _ (s : State) (rs : List Reply) (old : Writer) (fails : State → Reply → Writer → Type 0) (x : FailsAtLast s rs old fails) where
  text_is : text s rs ≡ text s x.before ++ said (told s x.before) x.reply
  text_is = ap (text s) x.split ∙ text-snoc s x.before x.reply

  until_part : (new : Writer) → AppendsPart x.writer.contents new.contents (said (told s x.before) x.reply) → AppendsPart old.contents new.contents (text s rs)
  until_part new w =
      subst (AppendsPart old.contents new.contents) (sym text_is) (part_trans old.contents x.writer.contents new.contents (text s x.before) (said (told s x.before) x.reply) x.writes.written w)

  until_same : (new : Writer) → new ≡ x.writer → AppendsPart old.contents new.contents (text s rs)
  until_same new e = until_part new (subst (λ (w : Writer). AppendsPart x.writer.contents w.contents (said (told s x.before) x.reply)) (sym e) (no_part x.writer.contents (said (told s x.before) x.reply)))

  -- and by a reply that isn't admitted
  until_refused : (new : Writer) → new ≡ x.writer → admitted (told s x.before) x.reply ≡ false → Appends old.contents new.contents (text s rs)
  until_refused new e k =
      subst (Appends old.contents new.contents) (sym (text_is ∙ ap (λ l. text s x.before ++ l) (said-refused (told s x.before) x.reply k) ∙ append-nil (text s x.before)))
      (subst (λ (w : Writer). Appends old.contents w.contents (text s x.before)) (sym e) x.writes.written)

  refused_faults : admitted (told s x.before) x.reply ≡ false → is_faulted (told s rs) ≡ true
  refused_faults k = ap is_faulted (ap (told s) x.split ∙ told-snoc s x.before x.reply) ∙ faulted-refused (told s x.before) x.reply k

last_part : {L : Type 0} (answers : Answers L) (s : State) (rs : List Reply) (old : Writer) (a : L) (r : Result ⊤ RunFault) (b : Ends L) → Last answers s rs old a r b → AppendsPart old.contents b.writer.contents (text s rs)
unfolding Last
last_part answers s rs old a (Ok u) b h = all_part old.contents b.writer.contents (text s rs) h.1.written
last_part answers s rs old a (Err (Link f)) b h = all_part old.contents b.writer.contents (text s rs) h.1.written
last_part answers s rs old a (Err (Trace Inadmissible)) b h = until_same s rs old _ h.1 b.writer h.1.failed.1
last_part answers s rs old a (Err (Trace Memory)) b h = until_same s rs old _ h.0 b.writer h.0.failed.1
last_part answers s rs old a (Err Output) b h = until_part s rs old _ h.1 b.writer h.1.failed.written

-- a whole run heard all replies, and wrote all of their text
record IsWhole {L : Type 0} (s : State) (rs : List Reply) (old : Writer) (b : Ends L) : Type 0 where
  pub state : b.state ≡ told s rs
  pub written_all : Appends old.contents b.writer.contents (text s rs)

last_whole : {L : Type 0} (answers : Answers L) (s : State) (rs : List Reply) (old : Writer) (a : L) (r : Result Ended RunFault) (x : Outcome) (b : Ends L) → r ≡ Ok (Whole x) → Last answers s rs old a (forgets r) b → IsWhole s rs old b
unfolding Last
last_whole answers s rs old a (Ok y) x b e h = record { state = h.0; written_all = h.1.written }
last_whole answers s rs old a (Err f) x b e h = absurd (cc e)

same_options : (s : State) (rs : List Reply) → (told s rs).options ≡ s.options
unfolding heard
same_options s [] = refl
same_options s (r ∷ rs) = same_options (heard s r) rs

-- a run that is out of turns heard all replies, and asks nothing more
record IsOut (s : State) (rs : List Reply) (end : State) : Type 0 where
  pub state : end ≡ told s rs
  pub asks_none : request_of (told s rs) ≡ None

last_out : {L : Type 0} (answers : Answers L) (s : State) (rs : List Reply) (old : Writer) (a : L) (r : Result Ended RunFault) (b : Ends L) → r ≡ Ok OutOfTurns → Last answers s rs old a (forgets r) b → IsOut s rs b.state
unfolding Last
last_out answers s rs old a (Ok y) b e h = record { state = h.0; asks_none = h.3 }
last_out answers s rs old a (Err f) b e h = absurd (cc e)

-- a run that didn't fail asks nothing more, and wrote all of the text
pub record IsEnded {L : Type 0} (s : State) (rs : List Reply) (old : Writer) (b : Ends L) : Type 0 where
  pub asks_none : request_of (told s rs) ≡ None
  pub written_all : Appends old.contents b.writer.contents (text s rs)

pub last_ended : {L : Type 0} (answers : Answers L) (s : State) (rs : List Reply) (old : Writer) (a : L) (r : Result Ended RunFault) (b : Ends L) → Last answers s rs old a (forgets r) b → OnOk r (IsEnded s rs old b)
unfolding Last
last_ended answers s rs old a (Ok y) b h = record { asks_none = h.3; written_all = h.1.written }
last_ended answers s rs old a (Err f) b h = tt

pub on_ok : {A B : Type 0} (r : Result Ended RunFault) → (A → B) → OnOk r A → OnOk r B
on_ok (Ok y) f h = f h
on_ok (Err e) f h = tt

out_at : (o : parts_of.Options) (f : Focus) → request o f ≡ None → outcome_at f ≡ None → (f ≡ Booting → ⊥) → (f ≡ Faulted → ⊥) → f ≡ Turns_over
out_at o Booting q x b k = absurd (b refl)
out_at o Waiting q x b k = absurd (cc q)
out_at o (Serving p place) q x b k = absurd (cc q)
out_at o Asking_outcome q x b k = absurd (cc q)
out_at o (Over y) q x b k = absurd (cc x)
out_at o Turns_over q x b k = refl
out_at o Faulted q x b k = absurd (k refl)

none_in : (s : State) (rs : List Reply) → request_of (told s (Agreed ∷ rs)) ≡ None → request s.options (told s (Agreed ∷ rs)).tracer.focus ≡ None
unfolding request_of
none_in s rs e = ap (λ o. request o (told s (Agreed ∷ rs)).tracer.focus) (sym (same_options s (Agreed ∷ rs))) ∙ e

none_told : (s : State) → outcome_of s ≡ None → outcome_at s.tracer.focus ≡ None
unfolding outcome_of
none_told s e = e

last_fault : {L : Type 0} (answers : Answers L) (s : State) (rs : List Reply) (old : Writer) (a : L) (r : Result Ended RunFault) (b : Ends L) → r ≡ Err (Trace Inadmissible) → Last answers s rs old a (forgets r) b → is_faulted (told s rs) ≡ true
unfolding Last
last_fault answers s rs old a r b e h = go (subst (λ q. Last answers s rs old a (forgets q) b) e h)
  where
    go : Last answers s rs old a (Err (Trace Inadmissible)) b → is_faulted (told s rs) ≡ true
    go k = refused_faults s rs old _ k.1 k.1.failed.0

over_at : (f : Focus) (x : Outcome) → outcome_at f ≡ Some x → f ≡ Over x
over_at Booting x e = absurd (cc e)
over_at Waiting x e = absurd (cc e)
over_at (Serving p place) x e = absurd (cc e)
over_at Asking_outcome x e = absurd (cc e)
over_at (Over y) x e = ap (λ z. Over z) (cc e)
over_at Turns_over x e = absurd (cc e)
over_at Faulted x e = absurd (cc e)

fault_at : (f : Focus) → is_faulted_at f ≡ true → f ≡ Faulted
fault_at Booting e = absurd (cc e)
fault_at Waiting e = absurd (cc e)
fault_at (Serving p place) e = absurd (cc e)
fault_at Asking_outcome e = absurd (cc e)
fault_at (Over y) e = absurd (cc e)
fault_at Turns_over e = absurd (cc e)
fault_at Faulted e = refl

over_in : (s : State) (x : Outcome) → outcome_of s ≡ Some x → s.tracer.focus ≡ Over x
unfolding outcome_of
over_in s x e = over_at s.tracer.focus x e

fault_in : (s : State) → is_faulted s ≡ true → s.tracer.focus ≡ Faulted
unfolding is_faulted
fault_in s e = fault_at s.tracer.focus e

pub runs_tell : {L S B : Type 0} (answers : Answers L) → FailuresLeaveAPrefix S B → OwnRepliesTell S B → StatesAreTracers → TextsAreWhole → TracersWriteRenderings → RenderingGrows → RunsTell S B answers
unfolding RunsTell
runs_tell {L} {S} {B} answers fails own states whole writes grows o script link link' old new result w m is_m is_told outcome s b events is_own =
    let po : parts_of.Options = options_by o in
    let rs : List Reply = replies_of w.runs.exchanges in
    let first : State = new_state po script (first_pen o) in
    let moved : Moved = told_by po script (Agreed ∷ rs) in
    let texts : IsTexts po.texts = whole o.string_limit o.limit_in_range in
    let tracer : (told first (Agreed ∷ rs)).tracer ≡ moved.tracer = (states po script (first_pen o) (Agreed ∷ rs)).0 in
    let bytes : text first (Agreed ∷ rs) ≡ rendering (layout_by o) moved.printed = writes po script (layout_by o) (Agreed ∷ rs) in
    let end : Ends L = record { link = link'; writer = new; state = w.state } in
    let prefix = fails m is_m is_told outcome po texts script s b events rs is_own in
    let run : OwnRun m outcome po script s b events rs = own m is_m is_told outcome po texts script s b events rs is_own in
    let grown = grows (layout_by o) moved.printed prefix.1.0 in
    record {
      lost = prefix.0;
      begins =
          part_more old.contents new.contents (text first (Agreed ∷ rs)) grown.later (view_text m outcome o script s b events prefix.0)
          (ap (λ l. l ++ grown.later) bytes ∙ grown.whole ∙ ap (rendering (layout_by o)) prefix.1.1)
          (last_part answers first (Agreed ∷ rs) old w.runs.link (forgets result) end w.runs.last);
      shown =
          on_ok result
          (λ (ended : IsEnded first (Agreed ∷ rs) old end).
          let done = run.done (ap (λ (t : Tracer). request po t.focus) (sym tracer) ∙ none_in first rs ended.asks_none) in
          subst (Appends old.contents new.contents) (bytes ∙ ap (rendering (layout_by o)) (run.shown ∙ ap (λ (v : World S B). v.printed) done.0)) ended.written_all)
          (last_ended answers first (Agreed ∷ rs) old w.runs.link result end w.runs.last);
      whole = λ x e.
          let ended : IsWhole first (Agreed ∷ rs) old end = last_whole answers first (Agreed ∷ rs) old w.runs.link result x end e w.runs.last in
          let over : moved.tracer.focus ≡ Over x =
          ap (λ (t : Tracer). t.focus) (sym tracer) ∙ over_in (told first (Agreed ∷ rs)) x (ap outcome_of (sym ended.state) ∙ subst (λ r. EndsAs r w.state) e w.ends) in
          let over_there = run.whole x over in
          let done = run.done (ap (λ f. request po f) over) in
          let plain : plain_run m outcome po script s b run.used ≡ plain_run m outcome po script s b events = ap (λ es. kernel_run m script o.follow (first_kernel s b) es) done.1 in
          let all = run.shown ∙ run.headline.tells.whole (subst IsPast (sym over_there) tt) in
          record {
            same_outcome = run.headline.replied x over_there ∙ ap (λ (k : Kernel S B). outcome k.shared) plain;
            told = ap (λ (v : World S B). v.tracer.focus) (sym done.0) ∙ over_there;
            lost = run.headline.lost;
            all = subst (Appends old.contents new.contents) (bytes ∙ ap (rendering (layout_by o)) (all ∙ ap (λ (k : Kernel S B). parts po (view run.headline.lost (traced o.follow k.log))) plain)) ended.written_all;
            all_ended = subst (λ (k : Kernel S B). (q : ℕ) → 1 ≤ q → q < k.child → traces o.follow q ≡ true → has_exit q k.log ≡ true) plain (run.headline.all_ended (subst IsPast (sym over_there) tt));
          };
      out_of_turns = λ e.
          let out : IsOut first (Agreed ∷ rs) w.state = last_out answers first (Agreed ∷ rs) old w.runs.link result end e w.runs.last in
          let focus : moved.tracer.focus ≡ Turns_over =
          out_at po moved.tracer.focus
          (ap (λ (t : Tracer). request po t.focus) (sym tracer) ∙ none_in first rs out.asks_none)
          (ap outcome_at (ap (λ (t : Tracer). t.focus) (sym tracer)) ∙ none_told (told first (Agreed ∷ rs)) (ap outcome_of (sym out.state) ∙ subst (λ r. EndsAs r w.state) e w.ends))
          (λ f. begun po script (record { tracer = new_tracer; printed = [] }) Agreed rs f)
          (λ f. run.admitted f) in
          let used = run.used_up focus in
          let done = run.done (ap (λ f. request po f) focus) in
          ap (λ (v : World S B). is_there (request po v.tracer.focus)) (sym done.0) ∙ used.1;
      admitted = λ e.
          run.admitted (ap (λ (t : Tracer). t.focus) (sym tracer) ∙ fault_in (told first (Agreed ∷ rs)) (last_fault answers first (Agreed ∷ rs) old w.runs.link result end e w.runs.last));
    }

last_refused : {L : Type 0} (answers : Answers L) (s : State) (rs : List Reply) (old : Writer) (a : L) (b : Ends L) → Last answers s rs old a (Err (Trace Inadmissible)) b → Appends old.contents b.writer.contents (text s rs)
unfolding Last
last_refused answers s rs old a b h = until_refused s rs old _ h.1 b.writer h.1.failed.1 h.1.failed.0

pub refused_runs_tell : {L S B : Type 0} (answers : Answers L) → FaultsLeaveAPrefix S B → FaultsAreForGood → StatesAreTracers → TextsAreWhole → TracersWriteRenderings → RenderingGrows → RefusedRunsTell S B answers
unfolding RefusedRunsTell
refused_runs_tell {L} {S} {B} answers fails for_good states whole writes grows o script link link' old new w m is_m is_told outcome s b events u =
    let po : parts_of.Options = options_by o in
    let rs : List Reply = replies_of w.runs.exchanges in
    let first : State = new_state po script (first_pen o) in
    let moved : Moved = told_by po script (Agreed ∷ rs) in
    let split : Moved = told_by po script (Agreed ∷ (u.own ++ u.last ∷ [])) in
    let before : Moved = told_by po script (Agreed ∷ u.own) in
    let same : moved ≡ split = ap (λ l. told_by po script (Agreed ∷ l)) u.split in
    let tracer : (told first (Agreed ∷ rs)).tracer ≡ moved.tracer = (states po script (first_pen o) (Agreed ∷ rs)).0 in
    let bytes : text first (Agreed ∷ rs) ≡ rendering (layout_by o) moved.printed = writes po script (layout_by o) (Agreed ∷ rs) in
    let end : Ends L = record { link = link'; writer = new; state = w.state } in
    let faulted : moved.tracer.focus ≡ Faulted =
    ap (λ (t : Tracer). t.focus) (sym tracer) ∙ fault_in (told first (Agreed ∷ rs)) (last_fault answers first (Agreed ∷ rs) old w.runs.link (Err (Trace Inadmissible)) end refl w.runs.last) in
    let refused : admits po before.tracer u.last ≡ false =
    last_is_refused po script (record { tracer = new_tracer; printed = [] }) (Agreed ∷ u.own) u.last (ap (λ (x : Moved). x.tracer.focus) (sym same) ∙ faulted) in
    let prefix = fails m is_m is_told outcome po (whole o.string_limit o.limit_in_range) script s b events u.own [] u.last u.is_own refused in
    let kept : split.printed ≡ before.printed = (for_good po script (Agreed ∷ u.own) [] u.last refused).0 in
    let grown = grows (layout_by o) moved.printed prefix.1.0 in
    record {
      lost = prefix.0;
      begins =
          part_more old.contents new.contents (text first (Agreed ∷ rs)) grown.later (view_text m outcome o script s b events prefix.0)
          (ap (λ l. l ++ grown.later) bytes ∙ grown.whole ∙ ap (rendering (layout_by o)) (ap (λ (x : Moved). x.printed ++ prefix.1.0) same ∙ prefix.1.1))
          (last_part answers first (Agreed ∷ rs) old w.runs.link (Err (Trace Inadmissible)) end w.runs.last);
      shown =
          subst (Appends old.contents new.contents) (bytes ∙ ap (rendering (layout_by o)) (ap (λ (x : Moved). x.printed) same ∙ kept))
          (last_refused answers first (Agreed ∷ rs) old w.runs.link end w.runs.last);
    }

-- the tracer's requests and the host's answers are a talk
talks : {S B : Type 0} (m : Machine S B) (outcome : S → Outcome) (t : State) (h : Host S B) (events : List Event) (xs : List (Request × Reply)) → Asked t xs → Served m outcome h events xs → Talks m outcome t.options t.script t.tracer h events xs
unfolding heard moved_by request_of
talks m outcome t h events [] a v = tt
talks m outcome t h events (x ∷ xs) a v = (a.0, v.0, talks m outcome (heard t x.1) (called m outcome h x.0 events).host (called m outcome h x.0 events).left xs a.1 v.1)

own_talks : {S B : Type 0} → TalksAreOwn S B → (m : Machine S B) (outcome : S → Outcome) (o : Options) (script : Script) (s : S) (b : B) (events : List Event) (xs : List (Request × Reply))
    → Asked (heard (new_state (options_by o) script (first_pen o)) Agreed) xs → Served m outcome (first_world s b).host events xs → IsOwn m outcome (options_by o) script s b events (replies_of xs)
unfolding heard moved_by
own_talks own m outcome o script s b events xs a v = own m outcome (options_by o) script s b events xs (talks m outcome (heard (new_state (options_by o) script (first_pen o)) Agreed) (first_world s b).host events xs a v)

pub served_runs_tell : {L S B : Type 0} (answers : Answers L) → TalksAreOwn S B → RunsTell S B answers → ServedRunsTell S B answers
unfolding ServedRunsTell RunsTell
served_runs_tell answers own tells o script link link' old new result w m is_m is_told outcome s b events v =
    tells o script link link' old new result w m is_m is_told outcome s b events (own_talks own m outcome o script s b events w.runs.exchanges w.runs.asked v)
