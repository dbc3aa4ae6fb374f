use Rattle.lx_exec.proofs.Lists.{argv_too_large, env_too_large}
use Rattle.lx_exec.proofs.execve.begin.Goals as goal

pub returns-in_default-clause-answer : goal.returns-in_default-clause-answer
returns-in_default-clause-answer c s a e in_argv in_env = argv_too_large c.args.argv.now c.in_default.not-Whole s c.args.image.now a e in_argv

pub returns-in_default-env-clause-answer : goal.returns-in_default-env-clause-answer
returns-in_default-env-clause-answer c s a e in_argv in_env = env_too_large c.args.env.now c.in_default-env.not-Whole s c.args.image.now a e in_env
