-- What is said of a plan with its runs is said with what they tell.
use Rattle.std.proofs.Common.{◌⊎◌, ℕ, List, Option, Result, inl, inr}
use Rattle.lx_abi.specs.declared.outcome.Outcome.{Outcome}
use Rattle.front_end.specs.declared.fault.Fault.{Fault}
use Rattle.front_end.specs.declared.streams.Opened.{Opened}
use Rattle.trace_run.specs.Writers.{Writer}
use Rattle.trace_run.specs.declared.running.Ended.{Ended}
use Rattle.trace_run.specs.declared.running.RunFault.{RunFault}
use Rattle.trace_command.specs.Tracing.{Outputs, Runs, RunsTo, WritesTo, outputs, unused}
use Rattle.trace_command.specs.declared.place.Place.{Place}
use Rattle.trace_command.specs.declared.place.Place.TheVariants as place
use Rattle.hosted_traces.specs.Hosted.{HostedTracesTell, RunsHosted}
use Rattle.hosted_traces.specs.Plans.{HostedPlansTell}

right_more : {A B C : Type 0} → (B → C) → A ⊎ B → A ⊎ C
right_more f (inl a) = inl a
right_more f (inr b) = inr (f b)

-- a run that writes so writes so too
module _ {F : Type 0} (held : F → Option (List ℕ)) (writes writes' : Result Ended RunFault → Writer → Writer → Type 0)
    (more : (ended : Result Ended RunFault) (old new : Writer) → writes ended old new → writes' ended old new) where
  writes_to_more : (ended : Result Ended RunFault) (at : Place) (old new : Outputs)
      → WritesTo held writes ended at old new → WritesTo held writes' ended at old new
  writes_to_more ended place.Error old new h = (h.0, more ended old.err new.err h.1)
  writes_to_more ended place.Output old new h = (h.0, more ended old.out new.out h.1)
  writes_to_more ended (place.File path) old new h =
      let f = h.1.1 in
      let written = more f.1.1.0 (unused (held f.0)) f.1.1.1.0 f.1.1.1.1.0 in
      (h.0, (h.1.0, (f.0, (f.1.0, (f.1.1.0, (f.1.1.1.0, (written, f.1.1.1.1.1)))))))

  -- and one that was made
  runs_to_more : (at : Place) (made : Result Outcome Fault) (old new : Outputs)
      → RunsTo held writes at made old new → RunsTo held writes' at made old new
  runs_to_more at made old new run =
      (run.0, (run.1.0, (writes_to_more run.0 at old (outputs new.out run.1.0) run.1.1.0, run.1.1.1)))

pub hosted_plans_tell : {F P E I O : Type 0} (held : Opened F → Option (List ℕ)) (remaining : O → Option (List ℕ))
    (contents : I → Option (List ℕ)) → HostedTracesTell P E remaining contents
    → HostedPlansTell held P E remaining contents
hosted_plans_tell {F} {P} {E} held remaining contents tell wanted host plan result old new named alone traces = (
  traces.0,
  (
    traces.1.0,
    right_more (λ c. record {
      made = c.made;
      noted = c.noted;
      traced = c.traced;
      run =
          runs_to_more held (Runs P E remaining contents wanted plan c.noted)
          (RunsHosted P E remaining contents wanted.options.limit plan)
          (λ ended first last run. tell wanted host plan c.noted ended first last named alone run)
          traces.0 c.made old (outputs c.traced new.err) c.run;
      leaves = c.leaves;
    }) traces.1.1,
  ),
)
