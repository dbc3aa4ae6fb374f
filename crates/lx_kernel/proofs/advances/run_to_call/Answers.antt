use Rattle.std.proofs.Common.{◌≡◌, ℕ, suc, ◌+◌, Some, inl, inr, refl, ap, arith}
use Rattle.lx_abi.specs.declared.log.Item.TheVariants as items
use Rattle.lx_model.specs.declared.stage.Task.TheVariants.{Alive}
use Rattle.lx_kernel.proofs.advances.run_to_call.Goals as goal

pub returns-in-Call-clause-leads : goal.returns-in-Call-clause-leads
returns-in-Call-clause-leads c =
    let ran : ℕ = c.in_ok-progress.progress.ran in
    let count : ran + 1 ≡ suc ran = omega arith in
    inr (ran, c.run_user.new.user, count, c.in_ok-progress.ensures.follows, c.in_ok-progress.ensures.calls c.in-Call.is, ap (λ call. Some (items.Enter c.args.pid call)) c.call-call.ensures, refl)

pub returns-in_default-clause-leads : goal.returns-in_default-clause-leads
returns-in_default-clause-leads c =
    inl (c.run_user.new.user, c.in_ok-progress.ensures.follows, c.requires.nothing, ap (Alive c.run_user.new.user) c.requires.in_run)

pub returns-in_default-2 : goal.returns-in_default-2
returns-in_default-2 c = record {
  leads = inl (c.run_user.new.user, c.in_ok-progress.ensures.follows, c.requires.nothing, ap (Alive c.run_user.new.user) c.requires.in_run);
  within = c.in_ok-progress.ensures.within;
}
