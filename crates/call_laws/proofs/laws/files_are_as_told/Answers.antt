use Rattle.call_laws.proofs.Manual.{copies_share_the_offset, appends_at_the_end, open_files_live_on}
use Rattle.call_laws.proofs.laws.files_are_as_told.Goals as goal

pub returns-clause-copies : goal.returns-clause-copies
returns-clause-copies c = copies_share_the_offset

pub returns-clause-appends : goal.returns-clause-appends
returns-clause-appends c = appends_at_the_end

pub returns-clause-lives : goal.returns-clause-lives
returns-clause-lives c = open_files_live_on
