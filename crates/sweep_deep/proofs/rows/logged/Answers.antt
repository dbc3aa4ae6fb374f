use Rattle.std.proofs.Common.{◌≡◌, List, subst}
use Rattle.lx_abi.specs.declared.log.Item.{Item}
use Rattle.sweep_faults.specs.declared.faults.Fault.{Fault}
use Rattle.sweep_faults.specs.declared.faults.Place.{Place}
use Rattle.sweep_faults.specs.Led.{place_of}
use Rattle.sweep_runs.specs.Behind.{seconds_of}
use Rattle.sweep_runs.specs.Deep.{FailingLogs}
use Rattle.sweep_deep.proofs.rows.logged.Goals as goal

pub returns : goal.returns
returns c =
    let setup = c.args.setup.now in
    let wanted = c.args.wanted.now in
    let log = c.in_ok-items.items.items in
    let follow = setup.boot.follow in
    record {
      log = log;
      run = subst (λ (f : Fault). FailingLogs setup f log) c.fault_of-fault.ensures c.in_ok-items.ensures;
      all =
          subst (λ (f : Fault). c.in_ok-cases.cases.items ≡ seconds_of wanted follow (place_of f) log) c.fault_of-fault.ensures
          (subst (λ (p : Place). c.in_ok-cases.cases.items ≡ seconds_of wanted follow p log) c.place.ensures
          (subst (λ (items : List Item). c.in_ok-cases.cases.items ≡ seconds_of wanted follow c.place.result items) c.as_slice.ensures.value
          c.in_ok-cases.ensures));
    }
