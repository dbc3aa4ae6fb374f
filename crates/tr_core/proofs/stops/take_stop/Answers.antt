use Rattle.std.proofs.Common.{◌≡◌, refl, ap, rules}
use Rattle.pt_model.specs.Tracer as tracer
use Rattle.tr_core.specs.Hearings.{counts_at}
use Rattle.tr_core.proofs.Entries.{stops, stands}
use Rattle.tr_core.proofs.stops.take_stop.Goals as goal

pub returns-in-Syscall : goal.returns-in-Syscall
returns-in-Syscall c =
    let counts = counts_at c.args.session.now.counts c.args.pid in
    rw c.in-Syscall.is (stops _ _ _ _ _ _ _ _ _ (c.turn_over.ensures counts) (c.first_place-place.ensures.place counts)
    (c.asks.ensures c.args.session.now c.args.pid _ (c.first_place-place.ensures.held _ _)))

pub returns-in-Signal : goal.returns-in-Signal
returns-in-Signal c =
    let number : c.from-signal.result ≡ c.in-Signal.signal.number = search rules in
    rw c.in-Signal.is (stops _ _ _ _ _ _ _ _ _ refl (ap (λ n. tracer.Signal_info n) number)
    (c.asks-in-Signal.ensures c.args.session.now c.args.pid _ tt))

pub returns-in-Event : goal.returns-in-Event
returns-in-Event c =
    let counts = counts_at c.args.session.now.counts c.args.pid in
    rw c.in-Event.is (stops _ _ _ _ _ _ _ _ _
    (stands c.args.tracee.now c.event_standing-tracee.result _ counts c.event_standing-tracee.ensures) refl
    (c.asks-in-Event.ensures c.args.session.now c.args.pid _ tt))
