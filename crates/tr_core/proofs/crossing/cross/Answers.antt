use Rattle.std.proofs.Common.{◌≡◌, true, false, [], IfOk, sym, subst, ◌∙◌, rules}
use Rattle.pt_model.specs.Tracer.{Heard}
use Rattle.tr_core.specs.Crossings.{reads_at}
use Rattle.tr_core.specs.Hearings.{Comes, known_at}
use Rattle.tr_core.specs.Settings.{options_of, script_of}
use Rattle.tr_core.proofs.Crossed.{not_shown}
use Rattle.tr_core.proofs.crossing.cross.Goals as goal

pub tell-requires : goal.tell-requires
tell-requires c =
    let hidden : c.args.shown ≡ false = search rules in
    sym c.requires ∙ hidden

pub returns-then-not-shown : goal.returns-then-not-shown
returns-then-not-shown c =
    let s = c.args.session.now in
    let t = c.args.tracee.now in
    let pid = c.args.pid in
    let o = options_of s.settings in
    let hidden : c.args.shown ≡ false = search rules in
    subst (λ b. IfOk c.tell.result (λ h. Comes (reads_at o (script_of s.settings) pid c.args.crossing [] (known_at s pid t) b) h s c.tell.new.session pid t c.tell.new.tracee))
    (sym hidden)
    (subst (λ (m : Heard). IfOk c.tell.result (λ h. Comes m h s c.tell.new.session pid t c.tell.new.tracee))
    (sym (not_shown o (script_of s.settings) pid c.args.crossing (known_at s pid t))) c.tell.ensures)

pub cross_shown-requires : goal.cross_shown-requires
cross_shown-requires c =
    let shown : c.args.shown ≡ true = search rules in
    sym c.requires ∙ shown

pub returns : goal.returns
returns c =
    let s = c.args.session.now in
    let t = c.args.tracee.now in
    let pid = c.args.pid in
    let o = options_of s.settings in
    let shown : c.args.shown ≡ true = search rules in
    subst (λ b. IfOk c.cross_shown.result (λ h. Comes (reads_at o (script_of s.settings) pid c.args.crossing [] (known_at s pid t) b) h s c.cross_shown.new.session pid t c.cross_shown.new.tracee))
    (sym shown) c.cross_shown.ensures
