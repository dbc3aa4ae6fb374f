use Rattle.call_laws.proofs.Manual.{told_once, asks_only, mask_comes_back}
use Rattle.call_laws.proofs.laws.processes_are_as_told.Goals as goal

pub returns-clause-told : goal.returns-clause-told
returns-clause-told c = told_once

pub returns-clause-asks : goal.returns-clause-asks
returns-clause-asks c = asks_only

pub returns-clause-mask : goal.returns-clause-mask
returns-clause-mask c = mask_comes_back
