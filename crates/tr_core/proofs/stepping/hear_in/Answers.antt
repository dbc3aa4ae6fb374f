use Rattle.std.proofs.Common.{◌≡◌, refl, sym, ap, subst, ◌∙◌}
use Rattle.std.specs.Prelude.{OnSome}
use Rattle.std.specs.Option.{option_copied_mut}
use Rattle.std.specs.FinMap as maps
use Rattle.pt_model.specs.Tracer.{hears}
use Rattle.tr_core.specs.Known.{place_of}
use Rattle.tr_core.specs.Settings.{options_of, script_of}
use Rattle.tr_core.specs.Held.{IsHeld}
use Rattle.tr_core.specs.declared.place.Tracee.{Tracee}
use Rattle.tr_core.proofs.Kept.{found, in_place}
use Rattle.tr_core.proofs.stepping.hear_in.Goals as goal

pub returns-in-Some : goal.returns-in-Some
returns-in-Some c =
    let s = c.args.session.now in
    let known = c.args.known.now in
    let new = c.hear.new.tracee in
    in_place c.hear.result (λ k. hears (options_of s.settings) (script_of s.settings) c.args.pid k (place_of c.args.place) c.args.reply) s c.hear.new.session
    c.args.pid known known _ _ new refl
    (ap option_copied_mut (sym c.in-Some.is) ∙ c.get_mut.ensures.value)
    (subst (λ r. OnSome r (c.get_mut.follows.lender new ≡ maps.insert known c.args.pid new)) c.in-Some.is (c.get_mut.follows.holds new))
    c.hear.ensures

pub hear-requires : goal.hear-requires
hear-requires c =
    let o = c.args.session.now.settings.options in
    subst (λ (t : Tracee). IsHeld o t.called c.args.place)
    (sym (found c.args.known.now c.args.known.now c.args.pid _ refl (ap option_copied_mut (sym c.in-Some.is) ∙ c.get_mut.ensures.value)))
    c.requires
