use Rattle.std.proofs.Common.{ℕ, refl, sym, ap, subst, ◌∙◌}
use Rattle.lx_abi.specs.declared.log.Call.{Call}
use Rattle.lx_model.specs.Machine.{call_of}
use Rattle.pt_model.specs.Parts.{At_entry, enter_part}
use Rattle.tr_core.specs.Held.{IsTold, got_of}
use Rattle.tr_core.specs.Pens.{wrote, pen_after}
use Rattle.tr_core.specs.Settings.{options_of, script_of}
use Rattle.tr_core.proofs.Entries.{entered}
use Rattle.tr_core.proofs.crossing.enter.Goals as goal

pub print_entry-requires : goal.print_entry-requires
print_entry-requires c =
    let o = c.args.session.now.settings.options in
    subst (λ (x : Call). IsTold o (At_entry x c.stack_pointer-stack.result) c.args.decoder) (sym c.call-called.ensures)
    (subst (λ (n : ℕ). IsTold o (At_entry (call_of c.args.registers) n) c.args.decoder)
    (sym c.stack_pointer-stack.ensures) c.requires)

pub returns : goal.returns
returns c =
    let s = c.args.session.now in
    let t = c.args.tracee.now in
    let pid = c.args.pid in
    let o = options_of s.settings in
    let got = got_of c.args.decoder in
    let called = c.call-called.result in
    entered o (script_of s.settings) c.args.registers got s
    (record s { counts = c.count.new.self; printer = c.print_entry.new.printer }) pid t called c.in_ok-choice.choice c.given-saved.result
    c.joined.result c.go_on.result c.in_ok-bytes.bytes
    c.call-called.ensures c.in_ok-choice.ensures c.given-saved.ensures c.joined.ensures
    c.go_on.ensures.place c.in_ok-count.ensures
    (c.in_ok-bytes.ensures.bytes ∙ ap (λ x. wrote s.printer (enter_part o pid called x got)) c.stack_pointer-stack.ensures)
    (c.in_ok-bytes.ensures.after ∙ ap (λ x. pen_after s.printer (enter_part o pid called x got)) c.stack_pointer-stack.ensures)
    refl (c.go_on.ensures.held s.settings.options called)
