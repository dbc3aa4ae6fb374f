-- A traced run over a child, at whose other end a host serves its streams.
use Rattle.std.specs.Prelude.{◌≡◌, ℕ, Bool, List, [], Option, None, Some, Result, Ok, codes}
use Rattle.std.specs.Io.Buffered.{reader_remaining}
use Rattle.lx_abi.specs.declared.outcome.Outcome.{Outcome}
use Rattle.lx_abi.specs.declared.ptrace.Reply.{Reply}
use Rattle.lx_abi.specs.declared.ptrace.Reply.TheVariants.{Done}
use Rattle.lx_abi.specs.declared.ptrace.Request.{Request}
use Rattle.lx_abi.specs.declared.ptrace.Request.TheVariants.{Boot as Boot_with}
use Rattle.lx_abi.specs.declared.schedule.Event.{Event}
use Rattle.lx_abi.specs.Scripts.{choice_of}
use Rattle.lx_boot.specs.First.{first_shared}
use Rattle.lx_exec.specs.Programs.{booted}
use Rattle.host_wire.specs.Counting.{inner_of, input_of}
use Rattle.host_link.specs.Children.{pipe_of}
use Rattle.host_link.specs.PipeLinks.{reader_of, writer_of}
use Rattle.host_link.specs.Streams.{left_in, taken_by}
use Rattle.host_link.specs.declared.child.ChildLink.{ChildLink}
use Rattle.host_link.specs.declared.local.LocalLink.{LocalLink}
use Rattle.host_serve.specs.Hosted.{IsFirst}
use Rattle.host_serve.specs.Streams.{Converses}
use Rattle.host_serve.specs.declared.fault.ServeFault.{ServeFault}
use Rattle.piped_runs.specs.Piped.{Carries}
use Rattle.tr_core.specs.Settings.{options_by, first_pen}
use Rattle.tr_core.specs.States.{new_state}
use Rattle.trace_run.specs.LocalRuns.{LinkTells}
use Rattle.trace_run.specs.Runs.{RunsWhole}
use Rattle.trace_run.specs.Writers.{Writer}
use Rattle.trace_run.specs.declared.running.Ended.{Ended}
use Rattle.trace_run.specs.declared.running.RunFault.{RunFault}
use Rattle.trace_command.specs.Tracing.{IsUnasked, Runs, Wanted, child_calls, wants}
use Rattle.trace_words.specs.declared.plan.Plan.{Plan}

-- what is left of a child's replies, and what was written of the requests to it
abbrev pub replies_left : {P I O E : Type 0} → (O → Option (List ℕ)) → ChildLink P I O E → Option (List ℕ)
replies_left remaining l =
    (input_of (λ out. reader_remaining (λ r. left_in remaining r) out) (reader_of (pipe_of l))).remaining

abbrev pub requests_written : {P I O E : Type 0} → (I → Option (List ℕ)) → ChildLink P I O E → Option (List ℕ)
requests_written contents l = taken_by contents (inner_of (writer_of (pipe_of l)))

-- What this run tells, whatever its result is, and the host's: where `serve_streams` was given a beginning of what was
-- written to the child, and the link a beginning of what that wrote, the boot was accepted, and the run tells what it
-- tells over a link in the tracer's own process to a host that this boot began.
abbrev pub TellsIfServed : {P I O E : Type 0} → (O → Option (List ℕ)) → (I → Option (List ℕ)) → ℕ → Plan
    → ChildLink P I O E → ChildLink P I O E → List (Request × Reply) → Result Ended RunFault → Writer → Writer → Type 0
TellsIfServed remaining contents limit plan first last exchanges result old new =
    (given written : Option (List ℕ)) (served : Result Outcome ServeFault) (is_out : Bool)
    → Converses given (Some []) served written is_out
    → requests_written contents first ≡ Some []
    → Carries written (replies_left remaining first)
    → Carries (requests_written contents last) given
    → (host : LocalLink) × (IsFirst plan.boot limit plan.turns.items host
    × LinkTells plan.options (choice_of plan.script)
    (first_shared plan.boot.limits plan.boot.files plan.boot.input) (booted plan.boot.argv plan.boot.env) host exchanges
    result old.contents new.contents)

-- A run over a child that nothing was asked before and that took this boot, and what it tells.
pub record RunsHosted (P E : Type 0) {I O : Type 0} (remaining : O → Option (List ℕ)) (contents : I → Option (List ℕ))
    (limit : ℕ) (plan : Plan) (result : Result Ended RunFault) (old new : Writer) : Type 0 where
  pub first : ChildLink P I O E
  pub link : ChildLink P I O E
  pub last : ChildLink P I O E
  pub unasked : IsUnasked first
  pub taken : child_calls remaining contents first (Boot_with plan.boot limit plan.turns.items) (Ok Done) link
  pub run : RunsWhole (child_calls remaining contents)
      (new_state (options_by plan.options) (choice_of plan.script) (first_pen plan.options)) link old result last new
  pub tells : TellsIfServed remaining contents limit plan first last run.runs.exchanges result old new

-- such is every traced run for which a host is named
abbrev pub HostedTracesTell : (P E : Type 0) → {I O : Type 0} → (O → Option (List ℕ)) → (I → Option (List ℕ)) → Type 0
HostedTracesTell P E remaining contents = (wanted : Wanted) (host : List ℕ) (plan : Plan) (noted : Option (List Event))
    (result : Result Ended RunFault) (old new : Writer)
    → wants wanted (codes "host") ≡ Some host → wanted.options.workers ≡ None
    → Runs P E remaining contents wanted plan noted result old new
    → RunsHosted P E remaining contents wanted.options.limit plan result old new
