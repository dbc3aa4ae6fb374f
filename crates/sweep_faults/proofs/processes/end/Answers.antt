use Rattle.std.proofs.Common.{◌≡◌, ap, subst, ◌∙◌}
use Rattle.std.specs.Prelude.{OnSome}
use Rattle.std.specs.FinMap as maps
use Rattle.sweep_faults.specs.Processes.{after_end, or_first}
use Rattle.sweep_faults.proofs.processes.end.Goals as goal

pub returns-in-Some : goal.returns-in-Some
returns-in-Some c =
    let w = c.end.new.self in
    let h = subst (λ r. OnSome r (c.get_mut.follows.lender w ≡ maps.insert c.args.of.now c.args.pid w)) c.in-Some.is (c.get_mut.follows.holds w) in
    h ∙ ap (maps.insert c.args.of.now c.args.pid) (c.end.ensures ∙ ap (λ o. after_end c.args.call.now (or_first o)) c.in-Some.ensures.value)
