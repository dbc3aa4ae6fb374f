use Rattle.std.proofs.Common.{◌≡◌, sym, ap, subst, ◌∙◌}
use Rattle.std.specs.Prelude.{OnSome}
use Rattle.std.specs.Option.{option_copied_mut}
use Rattle.std.specs.FinMap as maps
use Rattle.tr_core.specs.Hearings.{stop_heard}
use Rattle.tr_core.specs.Settings.{options_of}
use Rattle.tr_core.proofs.Kept.{in_place}
use Rattle.tr_core.proofs.stepping.take_first_stop.Goals as goal

pub returns : goal.returns
returns c =
    let s = c.args.session.now in
    let new = c.take_stop.new.tracee in
    in_place c.take_stop.result (λ k. stop_heard (options_of s.settings) c.args.pid k c.args.stop) s c.take_stop.new.session
    c.args.pid c.args.known.now c.meet.new.known _ _ new c.in_ok-meet.ensures.same
    (ap option_copied_mut (sym c.in-Some.is) ∙ c.get_mut.ensures.value)
    (subst (λ r. OnSome r (c.get_mut.follows.lender new ≡ maps.insert c.meet.new.known c.args.pid new)) c.in-Some.is (c.get_mut.follows.holds new))
    c.take_stop.ensures
