use Rattle.std.proofs.Common.{Some, refl}
use Rattle.sweep_runs.specs.declared.leading.Leader.{Leader}
use Rattle.sweep_runs.proofs.Leaders.{goes_on}
use Rattle.sweep_runs.proofs.leading.Leader.go_on.Goals as goal

pub run_up_to-requires : goal.run_up_to-requires
run_up_to-requires c = c.requires.heard

pub returns-in-Ok-clause-stands : goal.returns-in-Ok-clause-stands
returns-in-Ok-clause-stands c = λ e.
    let new : Leader = record c.args.self.now { kernel = c.run_up_to.new.kernel; schedule = c.run_up_to.new.schedule; heard = c.run_up_to.new.heard; place = Some c.args.place } in
    goes_on c.args.setup.now c.args.place c.args.self.now new c.requires refl (c.in-Ok.ensures.stands e) c.in-Ok.ensures.heard
