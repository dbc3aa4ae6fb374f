use Rattle.std.proofs.Common.{◌∙◌, arith}
use Rattle.lx_exec.proofs.Starting.{is_too_large, is_fitting}
use Rattle.lx_exec.proofs.programs.start_fits.Goals as goal

pub returns-in-None : goal.returns-in-None
returns-in-None c = is_too_large c.args.argv.now c.args.env.now (let h = c.in-None.ensures in omega arith)

pub returns-in-Some : goal.returns-in-Some
returns-in-Some c = c.is_some.ensures ∙ is_fitting c.args.argv.now c.args.env.now c.in-Some.left _ c.in-Some.ensures c.spend-in-Some.ensures
