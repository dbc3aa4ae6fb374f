use Rattle.sweep_report.proofs.sites.with_function.Goals as goal

pub returns : goal.returns
returns c = (c.call_in-call.result.now, c.unwrap_or-object.result.now, c.in_ok-text.ensures)
