use Rattle.std.proofs.Common.{◌≡◌, ℕ, suc, ◌+◌, subst, arith}
use Rattle.lx_kernel.specs.Advances.{Follows}
use Rattle.lx_kernel.proofs.Continuing.{again_follows}
use Rattle.lx_kernel.proofs.instructions.run_user.Goals as goal

pub returns-in_ok-progress-in-Some-2-clause-follows : goal.returns-in_ok-progress-in-Some-2-clause-follows
returns-in_ok-progress-in-Some-2-clause-follows c =
    let ran : ℕ = c.in_ok-progress-in-Some-2.progress.ran in
    let count : suc ran ≡ ran + 1 = omega arith in
    subst (λ n. Follows n c.args.user.now c.run_instructions-in-Some-2.new.user) count
    (again_follows ran c.args.user.now c.run_instructions-in-Some-2.new.user c.in-Some-2.at c.in-Some-2.is
    (subst (λ b. Follows ran b c.run_instructions-in-Some-2.new.user) c.make_again.ensures c.in_ok-progress-in-Some-2.ensures.follows))
