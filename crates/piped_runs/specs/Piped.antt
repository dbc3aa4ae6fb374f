-- A run over a pipe, at whose other end a host serves.
use Rattle.std.specs.Prelude.{◌≡◌, ℕ, false, List, [], ◌++◌, Option, Some, Result, Ok}
use Rattle.std.specs.Io.Buffered.{reader_remaining}
use Rattle.lx_abi.specs.declared.boot.Boot.{Boot}
use Rattle.lx_abi.specs.declared.outcome.Outcome.{Outcome}
use Rattle.lx_abi.specs.declared.ptrace.Reply.TheVariants.{Done}
use Rattle.lx_abi.specs.declared.ptrace.Request.TheVariants.{Boot as Boot_with}
use Rattle.lx_abi.specs.declared.schedule.Word.{Word}
use Rattle.lx_abi.specs.declared.script.Rule.{Rule}
use Rattle.lx_abi.specs.Scripts.{choice_of}
use Rattle.lx_boot.specs.First.{first_shared}
use Rattle.lx_exec.specs.Programs.{booted}
use Rattle.host_wire.specs.Counting.{calls_of, faults_of as faults_of_end, input_of, inner_of}
use Rattle.host_wire.specs.Ends.{Input}
use Rattle.host_link.specs.Children.{pipe_of}
use Rattle.host_link.specs.PipeLinks.{Asks, faults_of, given_of, reader_of, waits_of, writer_of}
use Rattle.host_link.specs.Streams.{left_in, taken_by}
use Rattle.host_link.specs.declared.child.ChildLink.{ChildLink}
use Rattle.host_link.specs.declared.local.LocalLink.{LocalLink}
use Rattle.host_link.specs.declared.pipe.PipeLink.{PipeLink}
use Rattle.host_serve.specs.Hosted.{Answers_by, Boots_by, IsFirst, left_by}
use Rattle.host_serve.specs.Serving.{Served}
use Rattle.host_serve.specs.declared.fault.ServeFault.{ServeFault}
use Rattle.tr_core.specs.Settings.{options_by, first_pen}
use Rattle.tr_core.specs.States.{new_state}
use Rattle.tr_core.specs.declared.settings.Options.{Options}
use Rattle.trace_run.specs.LocalRuns.{LinkTells}
use Rattle.trace_run.specs.Runs.{Answers, Called, RunsWhole}
use Rattle.trace_run.specs.Writers.{Writer}
use Rattle.trace_run.specs.declared.running.Ended.{Ended}
use Rattle.trace_run.specs.declared.running.RunFault.{RunFault}

-- what a link may do whose calls are those of a link over a pipe, with its counts
abbrev pub piped : {L R W : Type 0} → (L → PipeLink R W) → (R → Input) → (W → Option (List ℕ)) → (W → List ℕ)
    → (W → ℕ) → Answers L
piped pipe input contents puts broken a q r b =
    Called (λ a q r b. Asks input contents puts broken (pipe a) q r (pipe b)) (λ l. given_of (pipe l))
    (λ l. faults_of (pipe l)) a q r b

-- a link that nothing was asked yet, and that has sent nothing
pub record IsUnused {R W : Type 0} (contents : W → Option (List ℕ)) (l : PipeLink R W) : Type 0 where
  pub given : given_of l ≡ 0
  pub whole : faults_of l ≡ 0
  pub idle : waits_of l ≡ false
  pub sent : contents (writer_of l) ≡ Some []

-- what this reader gives, from its first byte on, begins what that writer was given
abbrev pub Carries : Option (List ℕ) → Option (List ℕ) → Type 0
Carries written given = (xs : List ℕ) × ((ys : List ℕ) × ((given ≡ Some xs) × (written ≡ Some (xs ++ ys))))

-- Over pipes that carry, at whose other end `serve` runs: the boot was accepted, and the run tells what it tells over a
-- link in the tracer's own process to a host that this boot began, whatever its result is, and the host's.
abbrev pub PipedRunsTell : {L R W : Type 0} → (L → PipeLink R W) → (R → Input) → (W → Option (List ℕ))
    → (W → List ℕ) → (W → ℕ) → Type 0
PipedRunsTell {L} {R} {W} pipe input contents puts broken_writer = (boot : Boot) (limit : ℕ) (words : List Word)
    (script : List Rule) (o : Options)
    -- the tracer's end: Boot, and a run
    (first link link' : L) (old new : Writer) (result : Result Ended RunFault)
    (w : RunsWhole (piped pipe input contents puts broken_writer)
    (new_state (options_by o) (choice_of script) (first_pen o)) link old result link' new)
    -- the host's end
    (most : ℕ) (a b : Input) (unwritten written : Option (List ℕ)) (sizes sizes' : List ℕ)
    (served : Result Outcome ServeFault) (broken_host : ℕ)
    → Served most Boots_by Answers_by left_by a b unwritten written sizes sizes' served broken_host
    → IsUnused contents (pipe first)
    → piped pipe input contents puts broken_writer first (Boot_with boot limit words) (Ok Done) link
    -- nothing was written before, and each end is given a beginning of what the other wrote
    → unwritten ≡ Some []
    → Carries written (input (reader_of (pipe first))).remaining
    → Carries (contents (writer_of (pipe link'))) a.remaining
    → (host : LocalLink) × (IsFirst boot limit words host
    × LinkTells o (choice_of script) (first_shared boot.limits boot.files boot.input) (booted boot.argv boot.env) host
    w.runs.exchanges result old.contents new.contents)

-- The same of links to a child, by what its output is known to have left and its input to have taken.
abbrev pub RunsOverChildrenTell : (P E : Type 0) → {I O : Type 0} → (O → Option (List ℕ)) → (I → Option (List ℕ))
    → Type 0
RunsOverChildrenTell P E {I} {O} remaining contents = PipedRunsTell (λ (l : ChildLink P I O E). pipe_of l)
    (λ e. input_of (λ out. reader_remaining (λ r. left_in remaining r) out) e)
    (λ e. taken_by contents (inner_of e)) (λ e. calls_of e) (λ e. faults_of_end e)
