use Rattle.tr_core.specs.Settings.{options_of}
use Rattle.tr_core.proofs.Kept.{status_kept}
use Rattle.tr_core.proofs.stepping.hear_status.Goals as goal

pub returns : goal.returns
returns c =
    let old = c.args.core.now in
    status_kept (options_of old.session.settings) c.args.pid c.args.stop c.in_ok-heard.heard c.take_stop_in.new.session
    c.take_stop_in.new.known c.attend.new.living c.focus_at.result old c.in_ok-heard.ensures c.in_ok-attend.ensures c.focus_at.ensures.focus
    (c.focus_at.ensures.holds _ _ c.in_ok-heard.ensures.comes.held)
