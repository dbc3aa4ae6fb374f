use Rattle.tr_core.specs.Settings.{options_of, script_of}
use Rattle.tr_core.specs.Known.{place_of}
use Rattle.tr_core.specs.Tracers.{known_in}
use Rattle.pt_model.specs.Tracer.{hears}
use Rattle.tr_core.proofs.Kept.{kept}
use Rattle.tr_core.proofs.stepping.hear_reply.Goals as goal

pub returns : goal.returns
returns c =
    let old = c.args.core.now in
    kept (hears (options_of old.session.settings) (script_of old.session.settings) c.args.pid (known_in old c.args.pid) (place_of c.args.place) c.args.reply)
    c.args.pid c.in_ok-heard.heard c.hear_in.new.session c.hear_in.new.known old.living c.focus_at.result old
    c.in_ok-heard.ensures c.focus_at.ensures.focus (c.focus_at.ensures.holds _ _ c.in_ok-heard.ensures.comes.held)
