use Rattle.std.proofs.Common.{◌≡◌, true, sym, subst, rules}
use Rattle.pt_model.specs.Tracer.{Next}
use Rattle.tr_core.specs.Admitted.{lets_go, serves_by}
use Rattle.tr_core.specs.Known.{place_of}
use Rattle.tr_core.specs.Settings.{options_of, script_of}
use Rattle.tr_core.specs.Tracers.{Goes, known_in}
use Rattle.tr_core.proofs.Kept.{goes_on}
use Rattle.tr_core.proofs.stepping.hear_served.Goals as goal

pub returns-then-is_let_go : goal.returns-then-is_let_go
returns-then-is_let_go c =
    let old = c.args.core.now in
    let o = options_of old.session.settings in
    let script = script_of old.session.settings in
    let e : lets_go (place_of c.args.place) ≡ true = search rules in
    subst (λ u. Goes (serves_by o script (known_in old) c.args.pid (place_of c.args.place) c.args.reply u) old.living c.stay_apart-then-is_let_go.result old c.stay_apart-then-is_let_go.new.core)
    (sym c.if-out.false)
    (subst (λ (n : Next). Goes n old.living c.stay_apart-then-is_let_go.result old c.stay_apart-then-is_let_go.new.core)
    (goes_on o script (known_in old) c.args.pid (place_of c.args.place) c.args.reply e) c.stay_apart-then-is_let_go.ensures)
