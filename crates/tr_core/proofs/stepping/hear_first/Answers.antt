use Rattle.std.proofs.Common.{◌≡◌, sym, ap, subst, ◌∙◌}
use Rattle.std.specs.Prelude.{OnSome}
use Rattle.std.specs.Option.{option_copied_mut}
use Rattle.std.specs.FinMap as maps
use Rattle.pt_model.specs.Tracer.{hears}
use Rattle.tr_core.specs.Known.{place_of}
use Rattle.tr_core.specs.Settings.{options_of, script_of}
use Rattle.tr_core.specs.Held.{IsHeld}
use Rattle.tr_core.specs.declared.place.Tracee.{Tracee}
use Rattle.tr_core.proofs.Kept.{found, in_place}
use Rattle.tr_core.proofs.stepping.hear_first.Goals as goal

pub returns : goal.returns
returns c =
    let s = c.args.session.now in
    let new = c.hear.new.tracee in
    in_place c.hear.result (λ k. hears (options_of s.settings) (script_of s.settings) c.args.pid k (place_of c.args.place) c.args.reply) s c.hear.new.session
    c.args.pid c.args.known.now c.meet.new.known _ _ new c.in_ok-meet.ensures.same
    (ap option_copied_mut (sym c.in-Some.is) ∙ c.get_mut.ensures.value)
    (subst (λ r. OnSome r (c.get_mut.follows.lender new ≡ maps.insert c.meet.new.known c.args.pid new)) c.in-Some.is (c.get_mut.follows.holds new))
    c.hear.ensures

pub hear-requires : goal.hear-requires
hear-requires c =
    let o = c.args.session.now.settings.options in
    subst (λ (t : Tracee). IsHeld o t.called c.args.place)
    (sym (found c.args.known.now c.meet.new.known c.args.pid _ c.in_ok-meet.ensures.same (ap option_copied_mut (sym c.in-Some.is) ∙ c.get_mut.ensures.value)))
    c.requires
