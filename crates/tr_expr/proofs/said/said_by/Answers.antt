use Rattle.std.proofs.Common.{map, sym, subst, refl, lit<}
use Rattle.std.proofs.lemmas.Iterator.Consumers.{YieldsList-end}
use Rattle.std.proofs.lemmas.Iterator.Splits.{YieldsList-from_str_split}
use Rattle.tr_expr.specs.Parts.{part_of}
use Rattle.tr_expr.specs.Saids.{IsSaidBy}
use Rattle.tr_expr.proofs.Runs.{texts_push, said_push, Adds}
use Rattle.tr_expr.proofs.said.said_by.Goals as goal

pub loop-part-init : goal.loop-part-init
loop-part-init c = record { found = refl; error = refl; retval = refl; signal = refl; when = refl }

pub loop-part-preserved : goal.loop-part-preserved
loop-part-preserved c =
    let adds : Adds (part_of c.args.form c.in-Some.part.now) c.loop-part.said c.take.new.self =
    subst (λ part. Adds part c.loop-part.said c.take.new.self) c.read_part.ensures
    (record { found = c.take.ensures.found; error = c.take.ensures.error; retval = c.take.ensures.retval; signal = c.take.ensures.signal; when = c.take.ensures.when }) in
    subst (λ parts. IsSaidBy parts c.take.new.self) (sym (texts_push (part_of c.args.form) c.loop-part.yielded c.in-Some.part))
    (said_push (map (part_of c.args.form) (map (λ x. x.now) c.loop-part.yielded)) (part_of c.args.form c.in-Some.part.now) c.loop-part.said c.take.new.self c.loop-part.invariant adds)

pub returns : goal.returns
returns c =
    let all = YieldsList-end (YieldsList-from_str_split 58 c.args.parts.now (lit< tt) (cc) (cc) (cc)) c.loop-part.yielded _ c.loop-part.yielded_by _ _ c.in-None.is c.next.ensures.steps in
    subst (λ texts. IsSaidBy (map (part_of c.args.form) texts) c.loop-part.said) all.0 c.loop-part.invariant
