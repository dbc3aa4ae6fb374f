-- A run: a tracer, a link and a writer, over any of each.
use Rattle.std.specs.Prelude.{◌≡◌, ℕ, ◌+◌, Bool, true, false, List, [], ◌∷◌, ◌++◌, length, Option, Some, None}
use Rattle.std.specs.Prelude.{Result, Ok, Err, is_ok, map, ⊤, if◌then◌else◌}
use Rattle.std.specs.Io.KnownBytes.{Appends}
use Rattle.lx_abi.specs.declared.occurrences.Occurrences.{Occurrences}
use Rattle.lx_abi.specs.declared.ptrace.Ask.{Ask}
use Rattle.lx_abi.specs.declared.ptrace.Ask.TheVariants.{Seize, SetOptions, GetRegs, SetRegs, Peek, Syscall, EventMsg}
use Rattle.lx_abi.specs.declared.ptrace.Ask.TheVariants.{SigInfo, Listen}
use Rattle.lx_abi.specs.declared.ptrace.Reply.{Reply}
use Rattle.lx_abi.specs.declared.ptrace.Reply.TheVariants.{Done as Agreed}
use Rattle.lx_abi.specs.declared.ptrace.Request.{Request}
use Rattle.lx_abi.specs.declared.ptrace.Request.TheVariants.{Boot, Wait, To, Outcome}
use Rattle.host_link.specs.declared.fault.LinkFault.{LinkFault}
use Rattle.tr_core.specs.declared.tracing.TraceFault.TheVariants.{Inadmissible, Memory}
use Rattle.tr_core.specs.States.{State, heard, said, request_of, is_faulted, admitted, told, text}
use Rattle.tr_core.specs.Hearings.{counts_at}
use Rattle.tr_core.specs.Outcomes.{outcome_of}
use Rattle.trace_run.specs.declared.running.Ended.{Ended}
use Rattle.trace_run.specs.declared.running.Ended.TheVariants.{Whole, OutOfTurns}
use Rattle.trace_run.specs.declared.running.RunFault.{RunFault}
use Rattle.trace_run.specs.declared.running.RunFault.TheVariants.{Link, Trace, Output}
use Rattle.trace_run.specs.Writers.{Writer, PutsWhole, PutsPart}

-- Syscall, or Listen at a group stop
abbrev pub resumes_by : Ask → Bool
resumes_by (Seize options) = false
resumes_by (SetOptions options) = false
resumes_by GetRegs = false
resumes_by (SetRegs registers) = false
resumes_by (Peek address length) = false
resumes_by (Syscall signal) = true
resumes_by EventMsg = false
resumes_by SigInfo = false
resumes_by Listen = true

abbrev pub resumes : Request → Bool
resumes (Boot boot limit words) = false
resumes Wait = false
resumes (To p ask) = resumes_by ask
resumes Outcome = false

-- what a link may do: the link before, the request, the answer, the link after
abbrev pub Answers : Type 0 → Type 1
Answers L = L → Request → Result Reply LinkFault → L → Type 0

-- a call of a link: what it may do, and its counts of replies and of faults
pub record Called {L : Type 0} (answers : Answers L) (given broken : L → ℕ) (a : L) (q : Request)
    (r : Result Reply LinkFault) (b : L) : Type 0 where
  pub answered : answers a q r b
  pub counted : given b ≡ given a + (if is_ok r then 1 else 0)
  pub faults : broken b ≡ (if is_ok r then broken a else 1)

abbrev pub calls_of : {L : Type 0} → Answers L → (L → ℕ) → (L → ℕ) → Answers L
calls_of answers given broken a q r b = Called answers given broken a q r b

-- the exchanges lead the link from a to b
abbrev pub Leads : {L : Type 0} → Answers L → L → List (Request × Reply) → L → Type 0
Leads answers a [] b = b ≡ a
Leads {L} answers a (x ∷ xs) b = (mid : L) × (answers a x.0 (Ok x.1) mid × Leads answers mid xs b)

-- each request is the one that the tracer asks after the replies before it
abbrev pub Asked : State → List (Request × Reply) → Type 0
Asked s [] = Unit {0}
Asked s (x ∷ xs) = (request_of s ≡ Some x.0) × Asked (heard s x.1) xs

abbrev pub replies_of : List (Request × Reply) → List Reply
replies_of xs = map (λ x. x.1) xs

-- the tracer asks this, and the link answers so
abbrev pub Exchanged : {L : Type 0} → Answers L → L → State → Result Reply LinkFault → L → Type 0
Exchanged answers a s answer b = (q : Request) × ((request_of s ≡ Some q) × answers a q answer b)

-- One round: the tracer hears a reply, what it prints is written, and what it asks is asked. Everything that
-- the round touched, before and after.
pub record Ends (L : Type 0) : Type 0 where
  pub link : L
  pub writer : Writer
  pub state : State

unfoldable pub Round : {L : Type 0} → Answers L → Ends L → Reply → Result (Option Reply) RunFault → Ends L → Type 0
Round answers a r (Ok (Some next)) b = (b.state ≡ heard a.state r) × PutsWhole a.writer b.writer (said a.state r)
    × Exchanged answers a.link b.state (Ok next) b.link
Round answers a r (Ok None) b = (b.state ≡ heard a.state r) × PutsWhole a.writer b.writer (said a.state r)
    × (is_faulted b.state ≡ false) × (request_of b.state ≡ None) × (b.link ≡ a.link)
Round answers a r (Err (Link f)) b = (b.state ≡ heard a.state r) × PutsWhole a.writer b.writer (said a.state r)
    × Exchanged answers a.link b.state (Err f) b.link
Round answers a r (Err (Trace Inadmissible)) b = (b.state ≡ heard a.state r) × (admitted a.state r ≡ false)
    × (b.writer ≡ a.writer) × (b.link ≡ a.link)
Round answers a r (Err (Trace Memory)) b = (a.state.failed ≡ false → admitted a.state r ≡ true)
    × (b.writer ≡ a.writer) × (b.link ≡ a.link)
Round answers a r (Err Output) b = (b.state ≡ heard a.state r) × PutsPart a.writer b.writer (said a.state r)
    × (is_faulted b.state ≡ false) × (b.link ≡ a.link)

-- how many bytes each of these replies brings
abbrev pub sizes : State → List Reply → List ℕ
sizes s [] = []
sizes s (r ∷ rs) = length (said s r) ∷ sizes (heard s r) rs

-- all that these replies bring was written, by one put for each
pub record Writes (s : State) (rs : List Reply) (old new : Writer) : Type 0 where
  pub written : Appends old.contents new.contents (text s rs)
  pub counted : new.puts ≡ old.puts ++ sizes s rs
  pub unbroken : new.broken ≡ old.broken

-- So it was until the last of them. There the run failed: with this tracer, at this reply, and with this writer.
pub record FailsAtLast (s : State) (rs : List Reply) (old : Writer) (fails : State → Reply → Writer → Type 0) :
    Type 0 where
  pub before : List Reply
  pub reply : Reply
  pub split : rs ≡ before ++ reply ∷ []
  pub writer : Writer
  pub writes : Writes s before old writer
  pub failed : fails (told s before) reply writer

-- The end of a run, after these replies (Boot's among them) and with the link at a.
unfoldable pub Last : {L : Type 0} → Answers L → State → List Reply → Writer → L → Result ⊤ RunFault → Ends L → Type 0
Last answers s rs old a (Ok u) b = (b.state ≡ told s rs) × Writes s rs old b.writer
    × (is_faulted (told s rs) ≡ false) × (request_of (told s rs) ≡ None) × (b.link ≡ a)
Last answers s rs old a (Err (Link f)) b = (b.state ≡ told s rs) × Writes s rs old b.writer
    × Exchanged answers a (told s rs) (Err f) b.link
Last answers s rs old a (Err (Trace Inadmissible)) b = (b.state ≡ told s rs)
    × FailsAtLast s rs old (λ t r w. (admitted t r ≡ false) × (b.writer ≡ w)) × (b.link ≡ a)
Last answers s rs old a (Err (Trace Memory)) b =
    FailsAtLast s rs old (λ t r w. (t.failed ≡ false → admitted t r ≡ true) × (b.writer ≡ w)) × (b.link ≡ a)
Last answers s rs old a (Err Output) b = (b.state ≡ told s rs)
    × FailsAtLast s rs old (λ t r w. PutsPart w b.writer (said t r)) × (is_faulted (told s rs) ≡ false)
    × (b.link ≡ a)

-- A whole run: one list of requests and answers leads the link from its beginning to where it ends.
pub record Runs {L : Type 0} (answers : Answers L) (a : Ends L) (result : Result ⊤ RunFault) (b : Ends L) :
    Type 0 where
  pub exchanges : List (Request × Reply)
  pub link : L
  pub led : Leads answers a.link exchanges link
  pub asked : Asked (heard a.state Agreed) exchanges
  pub last : Last answers a.state (Agreed ∷ replies_of exchanges) a.writer link result b

-- with no word of how it ended
abbrev pub forgets : Result Ended RunFault → Result ⊤ RunFault
forgets (Ok x) = Ok tt
forgets (Err f) = Err f

-- whole with the outcome that the host told, or out of turns
abbrev pub EndsAs : Result Ended RunFault → State → Type 0
EndsAs (Ok (Whole x)) s = outcome_of s ≡ Some x
EndsAs (Ok OutOfTurns) s = outcome_of s ≡ None
EndsAs (Err f) s = Unit {0}

-- a run of a tracer that begins
pub record RunsWhole {L : Type 0} (answers : Answers L) (first : State) (link : L) (old : Writer)
    (result : Result Ended RunFault) (link' : L) (new : Writer) : Type 0 where
  -- the tracer in the end
  pub state : State
  pub runs : Runs answers (record { link = link; writer = old; state = first }) (forgets result)
      (record { link = link'; writer = new; state = state })
  pub ends : EndsAs result state

-- the same, and how often each tracee entered each call
pub record RunsCounting {L : Type 0} (answers : Answers L) (first : State) (link : L) (old : Writer)
    (result : Result Ended RunFault) (counts : Occurrences) (link' : L) (new : Writer) : Type 0 where
  pub run : RunsWhole answers first link old result link' new
  pub counted : (pid : ℕ) → (run.state.tracer.known pid).counts ≡ counts_at counts pid
