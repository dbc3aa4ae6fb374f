use Rattle.pt_sound.proofs.Families.{turns_keep_families, requests_keep_families, worlds_have_families}
use Rattle.pt_sound.proofs.laws.traced_families_hold.Goals as goal

pub returns-clause-turn : goal.returns-clause-turn
returns-clause-turn c = turns_keep_families

pub returns-clause-request : goal.returns-clause-request
returns-clause-request c = requests_keep_families

pub returns-clause-worlds : goal.returns-clause-worlds
returns-clause-worlds c = worlds_have_families
