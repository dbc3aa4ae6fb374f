use Rattle.std.proofs.Common.{◌≡◌, ◌≤◌, sym, ap, subst, ◌∙◌, replicate}
use Rattle.lx_abi.specs.declared.schedule.Event.TheVariants.{Turn}
use Rattle.pt_schedule.specs.Schedules.{events_left}
use Rattle.pt_schedule.proofs.Rowing.{left_after}
use Rattle.pt_kernel.specs.Attends.{Notes}
use Rattle.pt_kernel.proofs.Feeding.{leads_noted}
use Rattle.pt_kernel.proofs.attending.turn.Goals as goal

pub returns-clause-fed : goal.returns-clause-fed
returns-clause-fed c = λ z last rest.
    leads_noted c.in_ok-made.made c.args.host.now c.advance.new.self c.args.schedule.now c.args.pid c.turns_in_row-more.result z c.args.noted.now c.note.new.noted c.note-2.new.noted last
    c.in_ok-made.ensures.leads c.in_ok-made.ensures.within c.turns_in_row-more.ensures c.in_ok-note.ensures.noted c.in_ok-note-2.ensures.noted
    (subst (λ t. Notes c.advance.new.self t c.note-2.new.noted z last) c.pass.ensures
    (subst (λ h. Notes h c.pass.new.self c.note-2.new.noted z last) (c.in_ok-note-2.ensures.kept ∙ c.in_ok-note.ensures.kept) rest))

pub returns-clause-fewer : goal.returns-clause-fewer
returns-clause-fewer c =
    subst (λ t. events_left t ≤ events_left c.args.schedule.now) (sym c.pass.ensures) (left_after c.args.schedule.now c.in_ok-made.made)
