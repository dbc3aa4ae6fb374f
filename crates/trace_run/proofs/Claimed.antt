-- The four claims, from what runs tell.
use Rattle.std.proofs.Common.{◌≡◌, ℕ, Bool, List, [], Option, Result, ap, subst}
use Rattle.std.specs.Io.KnownBytes.{Appends}
use Rattle.lx_abi.specs.declared.outcome.Outcome.{Outcome}
use Rattle.lx_abi.specs.declared.schedule.Event.{Event}
use Rattle.lx_abi.specs.Log.{Noted}
use Rattle.lx_abi.specs.Scripts.{choice_of}
use Rattle.lx_model.specs.Kernel.{Script}
use Rattle.lx_model.specs.Machine.{Machine}
use Rattle.pt_model.specs.Headline.{plain_run}
use Rattle.pt_model.specs.Laws.{NoKillNoLoss}
use Rattle.pt_model.specs.View.{traced, parts}
use Rattle.host_wire.specs.Ends.{AppendsPart}
use Rattle.tr_core.specs.Settings.{options_by, layout_by}
use Rattle.tr_core.specs.declared.settings.Options.{Options}
use Rattle.tr_line.specs.Lines.{rendering}
use Rattle.trace_run.specs.declared.running.Ended.{Ended}
use Rattle.trace_run.specs.declared.running.RunFault.{RunFault}
use Rattle.trace_run.specs.Runs.{Answers}
use Rattle.trace_run.specs.Tells.{view_text, Tells, RunsTell, RefusedTells, RefusedRunsTell}
use Rattle.trace_run.specs.Claims.{log_text, by_log, RefusedByLog, PlainTracing, ReplacedCalls, JoinedSignals, UnderKills}

-- what is told by a view is told by the log, where nobody is killed
pub told_by_log : {S B : Type 0} (m : Machine S B) (outcome : S → Outcome) (o : Options) (script : Script) (s : S) (b : B) (events : List Event) (result : Result Ended RunFault) (old new : Option (List ℕ)) → NoKillNoLoss → Tells m outcome o script s b events result old new → by_log m outcome o script s b events result old new
told_by_log m outcome o script s b events result old new no_loss t alive =
    let log : List Noted = traced o.follow (plain_run m outcome (options_by o) script s b events).log in
    let same : (lost : ℕ → Bool) → view_text m outcome o script s b events lost ≡ log_text m outcome o script s b events =
    λ lost. ap (λ (l : List Noted). rendering (layout_by o) (parts (options_by o) l)) (no_loss lost log alive) in
    record {
      begins = subst (AppendsPart old new) (same t.lost) t.begins;
      whole = λ x e. ((t.whole x e).same_outcome, subst (Appends old new) (same (t.whole x e).lost) (t.whole x e).all);
      tells = t;
    }

pub refused_by_log : {L S B : Type 0} (answers : Answers L) → NoKillNoLoss → RefusedRunsTell S B answers → RefusedByLog S B answers
unfolding RefusedRunsTell
refused_by_log answers no_loss tells o script link link' old new w m is_m is_told outcome s b events u alive =
    let t : RefusedTells m outcome o script s b events u.own old.contents new.contents = tells o script link link' old new w m is_m is_told outcome s b events u in
    subst (AppendsPart old.contents new.contents)
    (ap (λ (items : List Noted). rendering (layout_by o) (parts (options_by o) items)) (no_loss t.lost (traced o.follow (plain_run m outcome (options_by o) script s b events).log) alive)) t.begins

pub under_kills : {L S B : Type 0} (answers : Answers L) → RunsTell S B answers → UnderKills S B answers
unfolding RunsTell
under_kills answers tells o script link link' old new result w m is_m is_told outcome s b events own =
    tells o script link link' old new result w m is_m is_told outcome s b events own

pub joined_signals : {L S B : Type 0} (answers : Answers L) → NoKillNoLoss → RunsTell S B answers → JoinedSignals S B answers
unfolding RunsTell
joined_signals answers no_loss tells o script link link' old new result w m is_m is_told outcome s b events own =
    told_by_log m outcome o script s b events result old.contents new.contents no_loss (tells o script link link' old new result w m is_m is_told outcome s b events own)

pub replaced_calls : {L S B : Type 0} (answers : Answers L) → JoinedSignals S B answers → ReplacedCalls S B answers
replaced_calls answers joined o script none = joined o script

pub plain_tracing : {L S B : Type 0} (answers : Answers L) → JoinedSignals S B answers → PlainTracing S B answers
plain_tracing answers joined o = joined o (choice_of [])
