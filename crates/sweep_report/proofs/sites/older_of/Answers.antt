use Rattle.sweep_report.proofs.sites.older_of.Goals as goal

pub returns : goal.returns
returns c = (c.as_str.result.now, c.in_ok-older.ensures)
