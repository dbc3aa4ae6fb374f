use Rattle.std.proofs.Common.{◌≡◌, true, None, IfOk, sym, ap, subst, ◌∙◌, rules}
use Rattle.pt_model.specs.Tracer.{Heard}
use Rattle.tr_args.specs.Arguments.{half, wish_of}
use Rattle.tr_args.specs.Decoders.{Decoding, started}
use Rattle.tr_args.specs.Reads.{half_of, wants_of}
use Rattle.tr_args.specs.Texts.{context_of}
use Rattle.tr_core.specs.Crossings.{half_at, reads_at}
use Rattle.tr_core.specs.Hearings.{Comes, known_at}
use Rattle.tr_core.specs.Settings.{options_of, script_of}
use Rattle.tr_core.proofs.Crossed.{nothing_wanted}
use Rattle.tr_core.proofs.crossing.cross_shown.Goals as goal

pub returns-then-is_none : goal.returns-then-is_none
unfolding wants_of
returns-then-is_none c =
    let s = c.args.session.now in
    let t = c.args.tracee.now in
    let pid = c.args.pid in
    let d = c.in_ok-decoder.decoder in
    let o = options_of s.settings in
    let limit = s.settings.options.string_limit in
    let is : d ≡ started (context_of limit (half_of c.half-half.result)) = c.in_ok-decoder.ensures in
    let context : d.context ≡ context_of limit (half_at t.called c.args.crossing) =
    ap (λ (x : Decoding). x.context) is ∙ ap (context_of limit) c.half-half.ensures in
    let none : c.wants.result ≡ None = search rules in
    let w : wants_of limit (half_at t.called c.args.crossing) d.got ≡ None =
    ap (λ k. wish_of (half k d.got)) (sym context) ∙ sym c.wants.ensures ∙ none in
    subst (λ g. IfOk c.tell.result (λ h. Comes (reads_at o (script_of s.settings) pid c.args.crossing g (known_at s pid t) true) h s c.tell.new.session pid t c.tell.new.tracee))
    (ap (λ (x : Decoding). x.got) is)
    (subst (λ (m : Heard). IfOk c.tell.result (λ h. Comes m h s c.tell.new.session pid t c.tell.new.tracee))
    (sym (nothing_wanted o (script_of s.settings) pid c.args.crossing d.got (known_at s pid t) w)) c.tell.ensures)
