-- A plan once more.
use Rattle.std.specs.Prelude.{◌≡◌}
use Rattle.trace_words.specs.declared.plan.Plan.{Plan}

-- another of the same boot and script, with the same options and words of the schedule
pub record IsSame (plan again : Plan) : Type 0 where
  pub boot : again.boot ≡ plan.boot
  pub script : again.script ≡ plan.script
  pub options : again.options ≡ plan.options
  pub turns : again.turns.items ≡ plan.turns.items
