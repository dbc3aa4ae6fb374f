use Rattle.pt_sound.proofs.Limits.{events_keep_limits, worlds_keep_limits}
use Rattle.pt_sound.proofs.laws.traced_limits_stay.Goals as goal

pub returns-clause-event : goal.returns-clause-event
returns-clause-event c = events_keep_limits

pub returns-clause-worlds : goal.returns-clause-worlds
returns-clause-worlds c = worlds_keep_limits
