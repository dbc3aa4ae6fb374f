-- A run of a plan, and the status of it.
use Rattle.std.proofs.Common.{◌≡◌, ℕ, List, Option, Ok, Err, OnOk, IfOk, inr, subst}
use Rattle.std.specs.Prelude.{Result}
use Rattle.clap.specs.declared.parser.matches.ArgMatches.{ArgMatches}
use Rattle.front_end.specs.declared.fault.Fault.{Fault}
use Rattle.lx_kernel.specs.Runs.{Run}
use Rattle.plain_run.specs.Runs.{RunsTo}
use Rattle.guest_commands.specs.Plans.{IsPlan, RunsWords}
use Rattle.guest_commands.specs.Statuses.{status_in}
use Rattle.guest_commands.specs.declared.plan.Plan.{Plan}

pub runs_words : {F : Type 0} (remaining : F → Option (List ℕ)) (words : ArgMatches) (given : Option (List ℕ))
    (plan : Plan) (last : Run) (result ended : Result ℕ Fault) → IsPlan remaining words given plan
    → IfOk result (λ status. ended ≡ Ok status) → OnOk ended (RunsTo plan.kernel plan.schedule last)
    → IfOk ended (λ status. status ≡ status_in last) → RunsWords remaining words given result
runs_words remaining words given plan last (Err fault) ended asked is to status = inr (plan, asked)
runs_words remaining words given plan last (Ok s) ended asked is to status = (
  plan,
  (
    asked,
    (
      last,
      (
        subst (λ r. OnOk r (RunsTo plan.kernel plan.schedule last)) is to,
        subst (λ r. IfOk r (λ status. status ≡ status_in last)) is status,
      ),
    ),
  ),
)
