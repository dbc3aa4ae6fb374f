use Rattle.std.proofs.Common.{◌≡◌, Some, None, IfOk, sym, ap, subst, ◌∙◌}
use Rattle.pt_model.specs.Tracer.{Heard, moves}
use Rattle.tr_args.specs.Arguments.{half, wish_of}
use Rattle.tr_args.specs.Decoders.{Decoding, wants}
use Rattle.tr_args.specs.Reads.{wants_of}
use Rattle.tr_core.specs.Crossings.{half_at, told_at}
use Rattle.tr_core.specs.Hearings.{Comes, known_at}
use Rattle.tr_core.specs.Held.{IsOf}
use Rattle.tr_core.specs.Settings.{options_of, script_of}
use Rattle.tr_core.proofs.Crossed.{nothing_wanted, more_wanted}
use Rattle.tr_core.proofs.crossing.read.Goals as goal

pub tell-requires : goal.tell-requires
tell-requires c =
    let o = c.args.session.now.settings.options in
    subst (λ (d : Decoding). IsOf o (half_at c.args.tracee.now.called c.args.crossing) d) (sym c.as_ref-lent.ensures) c.requires

pub returns-in-None : goal.returns-in-None
unfolding wants_of
returns-in-None c =
    let s = c.args.session.now in
    let t = c.args.tracee.now in
    let pid = c.args.pid in
    let d = c.args.decoder.value in
    let o = options_of s.settings in
    let w : wants_of s.settings.options.string_limit (half_at t.called c.args.crossing) d.got ≡ None =
    ap (λ k. wish_of (half k d.got)) (sym c.requires.context) ∙ ap (λ (x : Decoding). wants x) (sym c.as_ref-lent.ensures)
    ∙ sym c.wants.ensures ∙ c.in-None.is in
    subst (λ (m : Heard). IfOk c.tell.result (λ h. Comes m h s c.tell.new.session pid t c.tell.new.tracee))
    (sym (nothing_wanted o (script_of s.settings) pid c.args.crossing d.got (known_at s pid t) w))
    (subst (λ (x : Decoding). IfOk c.tell.result (λ h. Comes (told_at o (script_of s.settings) pid c.args.crossing x.got (known_at s pid t)) h s c.tell.new.session pid t c.tell.new.tracee))
    c.as_ref-lent.ensures c.tell.ensures)

pub returns-in-Some : goal.returns-in-Some
unfolding wants_of
returns-in-Some c =
    let s = c.args.session.now in
    let t = c.args.tracee.now in
    let pid = c.args.pid in
    let d = c.args.decoder.value in
    let k = known_at s pid t in
    let want = c.in-Some.want in
    let w : wants_of s.settings.options.string_limit (half_at t.called c.args.crossing) d.got ≡ Some want =
    ap (λ x. wish_of (half x d.got)) (sym c.requires.context) ∙ ap (λ (x : Decoding). wants x) (sym c.as_ref-lent.ensures)
    ∙ sym c.wants.ensures ∙ c.in-Some.is in
    let e = more_wanted (options_of s.settings) (script_of s.settings) pid c.args.crossing d.got k want w
    ∙ ap (moves k) (sym c.peeking.ensures.place) in
    subst (λ (m : Heard). Comes m c.asks.result s s pid t t) (sym e)
    (c.asks.ensures s pid t (c.peeking.ensures.held s.settings.options t.called c.requires))
