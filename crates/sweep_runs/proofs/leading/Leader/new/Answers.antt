use Rattle.std.proofs.Common.{List, None, refl, subst}
use Rattle.lx_abi.specs.declared.log.Item.{Item}
use Rattle.sweep_rows.specs.Calls.{AreCalls}
use Rattle.sweep_runs.specs.declared.leading.Leader.{Leader}
use Rattle.sweep_runs.proofs.Leaders.{boot_on}
use Rattle.sweep_runs.proofs.leading.Leader.new.Goals as goal

pub returns : goal.returns
returns c =
    let leader : Leader = record { kernel = c.in_ok-kernel.kernel; schedule = c.in_ok-kernel.schedule; heard = c.new.result; calls = c.in_ok-calls.calls; place = None } in
    record {
      is_on = boot_on c.args.setup.now leader
          (record { first = c.in_ok-kernel.ensures.kernel; words = c.in_ok-kernel.ensures.schedule; nowhere = refl; heard = c.new.ensures });
      calls = subst (λ (log : List Item). AreCalls c.in_ok-calls.calls log) c.in_ok-log.ensures c.in_ok-calls.ensures;
    }
