-- Tracees, where they are held, and what is reported of them (ptrace(2), "Stopped states"), whoever the client is.
use Rattle.std.specs.Prelude.{◌≡◌, ℕ, ◌==◌, ◌≤◌, ◌⊎◌, Bool, true, false, cond, ◌&&◌, List, [], ◌∷◌, filter, Option}
use Rattle.std.specs.Prelude.{Some, None}
use Rattle.lx_abi.specs.declared.outcome.Outcome.{Outcome}
use Rattle.lx_abi.specs.declared.ptrace.Ask.{Ask}
use Rattle.lx_abi.specs.declared.ptrace.Ask.TheVariants.{Seize, SetOptions, GetRegs, SetRegs, Peek, Syscall, EventMsg}
use Rattle.lx_abi.specs.declared.ptrace.Ask.TheVariants.{SigInfo, Listen}
use Rattle.lx_abi.specs.declared.ptrace.Reply.{Reply}
use Rattle.lx_abi.specs.declared.ptrace.Reply.TheVariants as reply
use Rattle.lx_abi.specs.declared.ptrace.Request.{Request}
use Rattle.lx_abi.specs.declared.ptrace.Request.TheVariants.{Boot as Boot_with, Wait, To, Outcome as Ask_outcome}
use Rattle.lx_abi.specs.declared.status.EventStop.TheVariants.{Fork as At_fork, Exec as At_exec, Stop as At_start}
use Rattle.lx_abi.specs.declared.status.Stop.{Stop}
use Rattle.lx_abi.specs.declared.status.Stop.TheVariants.{Syscall as Syscall_stop, Signal as Signal_stop}
use Rattle.lx_abi.specs.declared.status.Stop.TheVariants.{Group as Group_stop, Event as Event_stop, Ended}
use Rattle.lx_model.specs.Machine.{Machine}
use Rattle.lx_model.specs.Kernel.{put}
use Rattle.lx_model.specs.declared.stage.Stage.{Stage}
use Rattle.lx_model.specs.declared.stage.Stage.TheVariants.{Born, Run, Faulting, Entered, Doing, Replaced, Acted}
use Rattle.lx_model.specs.declared.stage.Stage.TheVariants.{Finished, Taken, Dropped, Stopped, Released, Woken}
use Rattle.lx_model.specs.declared.stage.Task.{Task}
use Rattle.lx_model.specs.declared.stage.Task.TheVariants.{Alive, Dying, Gone}
use Rattle.pt_model.specs.declared.ptrace.Report.{Report}
use Rattle.pt_model.specs.Ptrace.{Proc, Host, is_there, host_turn}
use Rattle.pt_model.specs.Requests.{serve}
use Rattle.pt_model.specs.World.{first_world}

-- the stop of a tracee that is held at a stage
abbrev pub StopAt : Stage → Stop → Type 0
StopAt Born stop = stop ≡ Event_stop At_start
StopAt Run stop = ⊥
StopAt (Faulting signal cause) stop = ⊥
StopAt (Entered joined) stop = (good : Bool) × (stop ≡ Syscall_stop good)
StopAt (Doing call) stop = ⊥
StopAt (Replaced call x) stop = ⊥
StopAt (Acted call x replaced) stop = (stop ≡ Event_stop At_fork) ⊎ (stop ≡ Event_stop At_exec)
StopAt Finished stop = (good : Bool) × (stop ≡ Syscall_stop good)
StopAt (Taken signal cause) stop = stop ≡ Signal_stop signal
StopAt Dropped stop = ⊥
StopAt (Stopped signal) stop = stop ≡ Group_stop signal
StopAt Released stop = ⊥
StopAt Woken stop = stop ≡ Event_stop At_start

abbrev pub StandsAt : {B : Type 0} → Task B → Stop → Type 0
StandsAt (Alive b stage) stop = StopAt stage stop
StandsAt (Dying w) stop = stop ≡ Ended w
StandsAt Gone stop = ⊥

-- it lives, or its end was not told
abbrev pub is_to_tell : {B : Type 0} → Task B → Bool → Bool
is_to_tell (Alive b stage) held = true
is_to_tell (Dying w) held = held
is_to_tell Gone held = false

abbrev pub is_tracee : {B : Type 0} → Proc B → Bool
is_tracee t = is_there t.options && is_to_tell t.task t.held

-- What is listed, and reported, of one process.

abbrev pub listings : ℕ → List ℕ → List ℕ
listings p tracees = filter (λ q. p == q) tracees

abbrev pub reports_of : ℕ → List Report → List Report
reports_of p queue = filter (λ r. p == r.pid) queue

-- the newest of its reports tells where it stands
abbrev pub LastStands : {B : Type 0} → Task B → List Report → Type 0
LastStands t [] = Unit {0}
LastStands t (r ∷ []) = StandsAt t r.stop
LastStands t (r ∷ s ∷ rest) = LastStands t (s ∷ rest)

abbrev pub is_end : Stop → Bool
is_end (Syscall_stop good) = false
is_end (Signal_stop signal) = false
is_end (Group_stop signal) = false
is_end (Event_stop event) = false
is_end (Ended w) = true

abbrev pub NoEnds : List Report → Type 0
NoEnds [] = Unit {0}
NoEnds (r ∷ rest) = (is_end r.stop ≡ false) × NoEnds rest

-- the end of a process is reported where it is dying, and then nothing else is
abbrev pub EndsFit : {B : Type 0} → ℕ → Task B → List Report → Type 0
EndsFit p (Alive b stage) reports = NoEnds reports
EndsFit p (Dying w) reports = (reports ≡ []) ⊎ (reports ≡ record { pid = p; stop = Ended w } ∷ [])
EndsFit p Gone reports = reports ≡ []

-- what holds of a process, of what is listed and reported of it, and of what its client was told of it
pub record Fits {B : Type 0} (p : ℕ) (t : Proc B) (listed : List ℕ) (reports : List Report) (told : Bool) : Type 0 where
  -- a tracee is listed once, and nobody else: who is gone is nowhere
  pub once : listed ≡ cond (is_tracee t) (p ∷ []) []
  -- nothing is reported but of tracees
  pub reported : is_tracee t ≡ false → reports ≡ []
  -- who is held is held where its newest report says
  pub newest : t.held ≡ true → LastStands t.task reports
  pub ends : EndsFit p t.task reports
  -- no stop is forgotten: it is reported, or its client was told
  pub heard : t.held ≡ true → is_tracee t ≡ true → reports ≡ [] → told ≡ true
  -- nobody else is held, but process 1 before it is seized
  pub held : t.held ≡ true → is_tracee t ≡ false →
      (p ≡ 1) × (t.options ≡ None) × ((b : B) × (t.task ≡ Alive b Born))

-- A client, which keeps in mind of whom it was told and whom it let go since.

pub record Watched (S B : Type 0) : Type 0 where
  pub host : Host S B
  pub told : ℕ → Bool

abbrev pub lets_go : Ask → Bool
lets_go (Seize options) = false
lets_go (SetOptions options) = false
lets_go GetRegs = false
lets_go (SetRegs r) = false
lets_go (Peek address length) = false
lets_go (Syscall n) = true
lets_go EventMsg = false
lets_go SigInfo = false
lets_go Listen = true

abbrev pub is_agreed : Option Reply → Bool
is_agreed (Some reply.Done) = true
is_agreed _ = false

abbrev pub told_by : (ℕ → Bool) → Option Reply → ℕ → Bool
told_by told (Some (reply.Status p status)) = put told p true
told_by told _ = told

abbrev pub minds : (ℕ → Bool) → Request → Option Reply → ℕ → Bool
minds told (Boot_with boot limit words) r = told
minds told Wait r = told_by told r
minds told (To p q) r = cond (lets_go q && is_agreed r) (put told p false) told
minds told Ask_outcome r = told

abbrev pub turned : {S B : Type 0} → Machine S B → Watched S B → ℕ → Watched S B
turned m w p = record { host = host_turn m w.host p; told = w.told }

abbrev pub asked : {S B : Type 0} → Machine S B → (S → Outcome) → Watched S B → Request → Watched S B
asked m outcome w q = record {
  host = (serve m outcome w.host q).host;
  told = minds w.told q (serve m outcome w.host q).reply;
}

pub record AreStops {S B : Type 0} (w : Watched S B) : Type 0 where
  pub each : (p : ℕ) →
      Fits p (w.host.procs p) (listings p w.host.tracees) (reports_of p w.host.queue) (w.told p)
  -- nobody has the next pid, nor any above it
  pub fresh : (p : ℕ) → w.host.child ≤ p → (w.host.procs p).task ≡ Gone

-- a turn of any process keeps this
abbrev pub TurnsKeepStops : Type 0 → Type 0 → Type 0
TurnsKeepStops S B = (m : Machine S B) (w : Watched S B) (p : ℕ) → AreStops w → AreStops (turned m w p)

-- so does a request that is served, whatever it asks and of whom
abbrev pub RequestsKeepStops : Type 0 → Type 0 → Type 0
RequestsKeepStops S B = (m : Machine S B) (outcome : S → Outcome) (w : Watched S B) (q : Request) →
    AreStops w → AreStops (asked m outcome w q)

-- a turn, or a request
pub data Deed : Type 0 where
  Turns : ℕ → Deed
  Asks : Request → Deed

abbrev pub done : {S B : Type 0} → Machine S B → (S → Outcome) → Watched S B → Deed → Watched S B
done m outcome w (Turns p) = turned m w p
done m outcome w (Asks q) = asked m outcome w q

abbrev pub all_done : {S B : Type 0} → Machine S B → (S → Outcome) → Watched S B → List Deed → Watched S B
all_done m outcome w [] = w
all_done m outcome w (d ∷ ds) = all_done m outcome (done m outcome w d) ds

-- so it holds whatever is done, from the first
abbrev pub StopsAreKept : Type 0 → Type 0 → Type 0
StopsAreKept S B = (m : Machine S B) (outcome : S → Outcome) (s : S) (b : B) (deeds : List Deed) →
    AreStops (all_done m outcome (record { host = (first_world s b).host; told = λ p. false }) deeds)
