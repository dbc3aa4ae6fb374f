use Rattle.std.proofs.Common.{subst}
use Rattle.std.proofs.lemmas.Result.{IfOk-weaker}
use Rattle.tr_args.specs.declared.progress.Stage.TheVariants.{Under}
use Rattle.tr_args.specs.Arguments.{half_by}
use Rattle.tr_args.specs.Progress.{stage_left, Moves}
use Rattle.tr_args.proofs.Making.{begins}
use Rattle.tr_args.proofs.progress.make_first.Goals as goal

pub returns-in-Ok-clause-made : goal.returns-in-Ok-clause-made
returns-in-Ok-clause-made c =
    let context = c.args.context.now in
    let moves = subst (λ s. Moves (half_by context.result context) s (stage_left context (Under c.in-Ok.row)) c.begun.new.sheet) c.new-sheet.ensures c.in-Ok.ensures.begins in
    IfOk-weaker c.made_with.result _ _ (λ r h. (begins context c.args.read.now c.in-Ok.row c.begun.new.sheet r.0 r.1 moves h).made) c.made_with.ensures

pub returns-in-Ok-clause-wish : goal.returns-in-Ok-clause-wish
returns-in-Ok-clause-wish c =
    let context = c.args.context.now in
    let moves = subst (λ s. Moves (half_by context.result context) s (stage_left context (Under c.in-Ok.row)) c.begun.new.sheet) c.new-sheet.ensures c.in-Ok.ensures.begins in
    IfOk-weaker c.made_with.result _ _ (λ r h. (begins context c.args.read.now c.in-Ok.row c.begun.new.sheet r.0 r.1 moves h).next) c.made_with.ensures

pub returns-in-Ok-clause-whole : goal.returns-in-Ok-clause-whole
returns-in-Ok-clause-whole c = IfOk-weaker c.made_with.result _ _ (λ r h. h.whole) c.made_with.ensures
