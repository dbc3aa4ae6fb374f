-- A traced run over a child is a run over a pipe.
use Rattle.std.proofs.Common.{◌≡◌, ◌∙◌, ◌^◌, ℕ, Bool, List, [], ◌++◌, Option, None, Some, Result, refl, sym, ap, subst, append_assoc}
use Rattle.std.specs.Io.KnownBytes.{Keeps, append_known}
use Rattle.lx_abi.specs.declared.outcome.Outcome.{Outcome}
use Rattle.lx_abi.specs.declared.schedule.Event.{Event}
use Rattle.host_wire.specs.Ends.{Input}
use Rattle.host_serve.specs.Hosted.{Answers_by, Boots_by, Served_host, left_by}
use Rattle.host_serve.specs.Serving.{Served}
use Rattle.host_serve.specs.Together.{unread}
use Rattle.host_serve.specs.declared.fault.ServeFault.{ServeFault}
use Rattle.piped_runs.specs.Piped.{Carries, RunsOverChildrenTell}
use Rattle.piped_runs.proofs.Piped.{put_is_known}
use Rattle.trace_run.specs.Writers.{Writer}
use Rattle.trace_run.specs.declared.running.Ended.{Ended}
use Rattle.trace_run.specs.declared.running.RunFault.{RunFault}
use Rattle.trace_command.specs.Tracing.{Takes, Traces, is_noted}
use Rattle.trace_command.specs.declared.kernel.Kernel.{Kernel}
use Rattle.trace_command.specs.declared.kernel.Kernel.TheVariants.{Here, OnThreads, There}
use Rattle.trace_words.specs.declared.plan.Plan.{Plan}
use Rattle.hosted_traces.specs.Hosted.{HostedTracesTell, RunsHosted}

-- what carries what has gone out carries what was put
carries_put : (put out given : Option (List ℕ)) (rest bytes : List ℕ) → put ≡ Some bytes → Keeps put (append_known out rest) → Carries out given → Carries put given
carries_put put out given rest bytes known kept carried =
    let of_known = subst (λ (o : Option (List ℕ)). Keeps o (append_known out rest)) known kept in
    let joined : (carried.0 ++ carried.1.0) ++ rest ≡ bytes = subst (λ (o : Option (List ℕ)). Keeps (Some bytes) (append_known o rest)) carried.1.1.1 of_known in
    (carried.0, (carried.1.0 ++ rest, (carried.1.1.0, known ∙ ap Some (sym joined ∙ append_assoc carried.0 carried.1.0 rest))))

-- the whole run of the host
as_served : (a b : Input) (old new : Option (List ℕ)) (puts puts' : List ℕ) (served : Result Outcome ServeFault) (broken : ℕ) → Served_host (2 ^ 32) a b old new puts puts' served broken
    → Served (2 ^ 32) Boots_by Answers_by left_by a b old new puts puts' served broken
unfolding Served_host
as_served a b old new puts puts' served broken s = s

module _ {P E I O : Type 0} (remaining : O → Option (List ℕ)) (contents : I → Option (List ℕ)) where
  over_kernel : RunsOverChildrenTell P E remaining contents → (host : List ℕ) (limit : ℕ) (plan : Plan) (asked : Bool) (noted : Option (List Event))
      (result : Result Ended RunFault) (old new : Writer) (kernel : Kernel P I O E)
      → Takes remaining contents (Some host) None plan.boot limit plan.turns.items kernel → Traces remaining contents plan.options plan.script kernel asked noted result old new
      → RunsHosted P E remaining contents limit plan result old new
  over_kernel tell host limit plan asked noted result old new (Here b schedule) takes traces = absurd takes
  over_kernel tell host limit plan asked noted result old new (OnThreads b workers) takes traces = absurd takes
  over_kernel tell host limit plan asked noted result old new (There link) takes traces = record {
    first = takes.0;
    link = link;
    last = traces.0;
    unasked = takes.1.0;
    taken = takes.1.1;
    run = traces.1;
    tells = λ given written served is_out c nothing back forth.
        let s = as_served (unread given) c.input (Some []) c.put [] c.sizes served c.broken c.run in
        let known = put_is_known served s in
        tell plan.boot limit plan.turns.items plan.script plan.options takes.0 link traces.0 old new result traces.1 (2 ^ 32) (unread given) c.input (Some []) c.put [] c.sizes served c.broken s
        (record { given = takes.1.0.given; whole = takes.1.0.whole; idle = takes.1.0.idle; sent = nothing }) takes.1.1 refl (carries_put c.put written _ c.gone.0 known.0 known.1 c.gone.1.0 back) forth;
  }

  pub hosted_traces_tell : RunsOverChildrenTell P E remaining contents → HostedTracesTell P E remaining contents
  hosted_traces_tell tell wanted host plan noted result old new named alone runs =
      over_kernel tell host wanted.options.limit plan (is_noted wanted) noted result old new runs.0
      (subst (λ w. Takes remaining contents (Some host) w plan.boot wanted.options.limit plan.turns.items runs.0) alone
      (subst (λ h. Takes remaining contents h wanted.options.workers plan.boot wanted.options.limit plan.turns.items runs.0) named runs.1.0))
      runs.1.1
