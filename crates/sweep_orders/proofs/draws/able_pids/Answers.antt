use Rattle.std.proofs.Common.{ℕ, List, [], ◌∷◌, subst, append-nil}
use Rattle.sweep_orders.specs.Draws.{AreAble}
use Rattle.sweep_orders.proofs.Drawing.{pushed}
use Rattle.sweep_orders.proofs.draws.able_pids.Goals as goal

pub loop-pid-preserved : goal.loop-pid-preserved
loop-pid-preserved c = λ ps able.
    let l = c.loop-pid in
    let pid = c.in-Some.pid in
    subst (λ (all : List ℕ). AreAble c.args.kernel.now 0 all) (pushed l.pids.items c.push.new.self.items ps pid c.in_ok-push.ensures.items)
    (l.invariant (pid ∷ ps) (c.in-Some.ensures, able))

pub returns : goal.returns
returns c =
    subst (λ (all : List ℕ). AreAble c.args.kernel.now 0 all) (append-nil c.loop-pid.pids.items)
    (c.loop-pid.invariant [] c.in_default.ensures)
