use Rattle.std.proofs.Common.{◌≡◌, ◌∙◌, true, false, IfOk, ap, subst, rules}
use Rattle.tr_core.specs.Admitted.{focus_after_resuming, resumed, waits}
use Rattle.tr_core.specs.Tracers.{Goes, known_in}
use Rattle.pt_model.specs.Tracer.{stays}
use Rattle.tr_core.proofs.Steps.{GoesBy, is_wait, by_resumption, by_focus}
use Rattle.tr_core.proofs.stepping.go.Goals as goal

pub go_from-requires : goal.go_from-requires
go_from-requires c = rw c.replace-focus.ensures.value record {
  holds = c.requires;
  other = let e : waits c.args.core.now.focus ≡ false = search rules in e;
}

pub returns-then-is_waiting : goal.returns-then-is_waiting
returns-then-is_waiting c =
    let old = c.args.core.now in
    let e : waits old.focus ≡ true = search rules in
    subst (λ f. IfOk c.hear_waiting.result (λ b. GoesBy old f c.args.reply b old c.hear_waiting.new.core)) (is_wait old.focus e) c.hear_waiting.ensures

pub returns-then-has_resumed : goal.returns-then-has_resumed
returns-then-has_resumed c =
    let old = c.args.core.now in
    let e : resumed old.focus ≡ true = search rules in
    by_resumption old c.stay.new.core c.args.reply c.stay.result e
    (subst (λ f. Goes (stays (known_in old) f) old.living c.stay.result old c.stay.new.core)
    (c.after_resuming.ensures.asks ∙ ap focus_after_resuming c.is_out.ensures) c.stay.ensures)

pub returns-else-has_resumed : goal.returns-else-has_resumed
returns-else-has_resumed c =
    let old = c.args.core.now in
    by_focus old c.go_from.new.core c.args.reply c.go_from.result _ _ c.replace-focus.ensures.value c.go_from.ensures

pub stay-requires : goal.stay-requires
stay-requires c = c.after_resuming.ensures.holds _ _
