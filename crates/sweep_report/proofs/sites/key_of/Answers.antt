use Rattle.std.proofs.Common.{ap, ◌∙◌}
use Rattle.sweep_report.specs.Keys.{marked}
use Rattle.sweep_report.proofs.sites.key_of.Goals as goal

pub returns : goal.returns
returns c =
    let site = c.in_ok-site.ensures in (
      site.0,
      c.function_name.result.now,
      site.1,
      c.in_ok-key.ensures ∙ ap (marked c.args.verdict) (c.as_str-2.ensures.value ∙ site.2),
    )
