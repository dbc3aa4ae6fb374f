use Rattle.std.proofs.Common.{subst}
use Rattle.pt_model.specs.Tracer.{Next}
use Rattle.tr_core.specs.Settings.{options_of}
use Rattle.tr_core.specs.Tracers.{Goes, known_in}
use Rattle.tr_core.proofs.stepping.hear_wait.Goals as goal

pub stay_apart-requires-in-None : goal.stay_apart-requires-in-None
stay_apart-requires-in-None c = c.after_wait.ensures.holds _ _

pub returns-in-None : goal.returns-in-None
returns-in-None c =
    let old = c.args.core.now in
    let o = options_of old.session.settings in
    rw c.in-None.is
    (subst (λ (n : Next). Goes n old.living c.stay_apart-in-None.result old c.stay_apart-in-None.new.core) (c.after_wait.ensures.asks o (known_in old)) c.stay_apart-in-None.ensures)
