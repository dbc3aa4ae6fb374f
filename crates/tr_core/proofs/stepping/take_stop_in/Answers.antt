use Rattle.std.proofs.Common.{◌≡◌, refl, sym, ap, subst, ◌∙◌}
use Rattle.std.specs.Prelude.{OnSome}
use Rattle.std.specs.Option.{option_copied_mut}
use Rattle.std.specs.FinMap as maps
use Rattle.tr_core.specs.Hearings.{stop_heard}
use Rattle.tr_core.specs.Settings.{options_of}
use Rattle.tr_core.proofs.Kept.{in_place}
use Rattle.tr_core.proofs.stepping.take_stop_in.Goals as goal

pub returns-in-Some : goal.returns-in-Some
returns-in-Some c =
    let s = c.args.session.now in
    let known = c.args.known.now in
    let new = c.take_stop.new.tracee in
    in_place c.take_stop.result (λ k. stop_heard (options_of s.settings) c.args.pid k c.args.stop) s c.take_stop.new.session
    c.args.pid known known _ _ new refl
    (ap option_copied_mut (sym c.in-Some.is) ∙ c.get_mut.ensures.value)
    (subst (λ r. OnSome r (c.get_mut.follows.lender new ≡ maps.insert known c.args.pid new)) c.in-Some.is (c.get_mut.follows.holds new))
    c.take_stop.ensures
