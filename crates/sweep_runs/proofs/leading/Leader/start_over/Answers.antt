use Rattle.sweep_runs.proofs.Leaders.{boot_on, boot_stands}
use Rattle.sweep_runs.proofs.leading.Leader.start_over.Goals as goal

pub go_on-requires : goal.go_on-requires
go_on-requires c = boot_on c.args.setup.now c.go_back.new.self c.in_ok-go_back.ensures.boot

pub returns-in_ok-go_back-2-clause-stands : goal.returns-in_ok-go_back-2-clause-stands
returns-in_ok-go_back-2-clause-stands c =
    boot_stands c.args.setup.now c.go_back-then-not-there.new.self c.in_ok-go_back-2.ensures.boot c.args.place
