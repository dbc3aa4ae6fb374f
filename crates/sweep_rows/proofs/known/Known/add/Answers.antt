use Rattle.sweep_rows.proofs.Knowing.{known_more}
use Rattle.sweep_rows.proofs.known.Known.add.Goals as goal

pub returns : goal.returns
returns c = λ past known.
    known_more past c.args.item.now c.args.self.now
    (record { descriptors = c.add.new.self; piped = c.note_action.new.has_set; handled = c.note_action-2.new.has_set }) known
    c.in_ok-add.ensures.uses c.in_ok-add.ensures.at c.note_action.ensures c.note_action-2.ensures
