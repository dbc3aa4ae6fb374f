-- What a plan writes and leaves, where a host is named.
use Rattle.std.specs.Prelude.{◌≡◌, ℕ, List, Option, None, Some, Result, codes}
use Rattle.front_end.specs.declared.fault.Fault.{Fault}
use Rattle.front_end.specs.declared.streams.Opened.{Opened}
use Rattle.trace_command.specs.Noting.{WritesEvents}
use Rattle.trace_command.specs.Tracing.{Outputs, Runs, TracesPlan, Wanted, wants}
use Rattle.trace_words.specs.declared.plan.Plan.{Plan}
use Rattle.hosted_traces.specs.Hosted.{RunsHosted}

-- All that holds of a plan with any run of it, for which a host is named and no workers are, holds with a run over a
-- child that tells what its host does: where the trace goes, what it is, and what the run leaves.
abbrev pub HostedPlansTell : {F : Type 0} → (Opened F → Option (List ℕ)) → (P E : Type 0) → {I O : Type 0}
    → (O → Option (List ℕ)) → (I → Option (List ℕ)) → Type 0
HostedPlansTell held P E remaining contents = (wanted : Wanted) (host : List ℕ) (plan : Plan)
    (result : Result ℕ Fault) (old new : Outputs)
    → wants wanted (codes "host") ≡ Some host → wanted.options.workers ≡ None
    → TracesPlan held (Runs P E remaining contents wanted plan) (WritesEvents held wanted plan) wanted result old new
    → TracesPlan held (λ noted. RunsHosted P E remaining contents wanted.options.limit plan)
    (WritesEvents held wanted plan) wanted result old new
