-- What more holds where a client lets go only of whom it was told, as one must who waits for stops (ptrace(2)).
use Rattle.std.specs.Prelude.{◌≡◌, ℕ, ◌≤◌, Bool, true, false, List, [], ◌∷◌, Option, Some, None}
use Rattle.lx_abi.specs.declared.outcome.Outcome.{Outcome}
use Rattle.lx_abi.specs.declared.schedule.Event.{Event}
use Rattle.lx_abi.specs.declared.schedule.Event.TheVariants.{Turn, Serve}
use Rattle.lx_abi.specs.declared.ptrace.Request.{Request}
use Rattle.lx_abi.specs.declared.ptrace.Request.TheVariants.{Boot as Boot_with, Wait, To, Outcome as Ask_outcome}
use Rattle.lx_model.specs.Kernel.{Script}
use Rattle.lx_model.specs.Machine.{Machine}
use Rattle.pt_model.specs.declared.ptrace.Report.{Report}
use Rattle.pt_model.specs.Laws.{is_alive}
use Rattle.pt_model.specs.Ptrace.{Proc, Host, is_there}
use Rattle.pt_model.specs.Parts.{Options}
use Rattle.pt_model.specs.Requests.{serve}
use Rattle.pt_model.specs.Tracer.{request}
use Rattle.pt_model.specs.World.{World, first_world, happens, world_run}
use Rattle.pt_laws.specs.Stops.{Watched, Deed, Turns, Asks, AreStops, all_done, asked, done, lets_go, minds, reports_of}
use Rattle.pt_laws.specs.Stops.{turned}

abbrev pub IsPolite : (ℕ → Bool) → Request → Type 0
IsPolite told (Boot_with boot limit words) = Unit {0}
IsPolite told Wait = Unit {0}
IsPolite told (To p q) = lets_go q ≡ true → told p ≡ true
IsPolite told Ask_outcome = Unit {0}

-- no report, or one of who is held
abbrev pub AtMostOne : Bool → List Report → Type 0
AtMostOne held [] = Unit {0}
AtMostOne held (r ∷ []) = held ≡ true
AtMostOne held (r ∷ s ∷ rest) = ⊥

pub record IsHeld {B : Type 0} (t : Proc B) (reports : List Report) : Type 0 where
  pub held : t.held ≡ true
  pub traced : is_there t.options ≡ true
  pub told : reports ≡ []

-- a process has one report at most, and is held while it has: so it is held where that says (`newest` of `Fits`)
pub record IsOnce {B : Type 0} (t : Proc B) (reports : List Report) (told : Bool) : Type 0 where
  pub one : AtMostOne t.held reports
  -- whom the client was told of is held, and nothing is left to tell of it, until it is let go or killed
  pub still : told ≡ true → is_alive t.task ≡ true → IsHeld t reports

pub record AreOnce {S B : Type 0} (w : Watched S B) : Type 0 where
  pub each : (p : ℕ) → IsOnce (w.host.procs p) (reports_of p w.host.queue) (w.told p)
  -- the client was told of nobody who isn't there yet
  pub fresh : (p : ℕ) → w.host.child ≤ p → w.told p ≡ false

abbrev pub TurnsKeepOnce : Type 0 → Type 0 → Type 0
TurnsKeepOnce S B = (m : Machine S B) (w : Watched S B) (p : ℕ) → AreStops w → AreOnce w → AreOnce (turned m w p)

abbrev pub RequestsKeepOnce : Type 0 → Type 0 → Type 0
RequestsKeepOnce S B = (m : Machine S B) (outcome : S → Outcome) (w : Watched S B) (q : Request) →
    IsPolite w.told q → AreStops w → AreOnce w → AreOnce (asked m outcome w q)

-- each request of a row is polite where it is made
abbrev pub IsPoliteDeed : (ℕ → Bool) → Deed → Type 0
IsPoliteDeed told (Turns p) = Unit {0}
IsPoliteDeed told (Asks q) = IsPolite told q

abbrev pub ArePolite : {S B : Type 0} → Machine S B → (S → Outcome) → Watched S B → List Deed → Type 0
ArePolite m outcome w [] = Unit {0}
ArePolite m outcome w (d ∷ ds) = IsPoliteDeed w.told d × ArePolite m outcome (done m outcome w d) ds

abbrev pub first_watched : {S B : Type 0} → S → B → Watched S B
first_watched s b = record { host = (first_world s b).host; told = λ p. false }

-- so it holds from the first, as long as a client is polite
abbrev pub StopsAreToldOnce : Type 0 → Type 0 → Type 0
StopsAreToldOnce S B = (m : Machine S B) (outcome : S → Outcome) (s : S) (b : B) (deeds : List Deed) →
    ArePolite m outcome (first_watched s b) deeds → AreOnce (all_done m outcome (first_watched s b) deeds)

-- A world: its tracer is polite, so both hold in it, whatever its script and its options are.

pub record IsAttended {S B : Type 0} (w : World S B) (told : ℕ → Bool) : Type 0 where
  pub stops : AreStops (record { host = w.host; told = told })
  pub once : AreOnce (record { host = w.host; told = told })

-- what the tracer keeps in mind, by the replies to its requests
abbrev pub minds_event : {S B : Type 0} → Machine S B → (S → Outcome) → Host S B → Option Request → Event
    → (ℕ → Bool) → ℕ → Bool
minds_event m outcome h None e told = told
minds_event m outcome h (Some q) (Turn p) told = told
minds_event m outcome h (Some q) Serve told = minds told q (serve m outcome h q).reply

abbrev pub minds_all : {S B : Type 0} → Machine S B → (S → Outcome) → Options → Script → World S B → List Event
    → (ℕ → Bool) → ℕ → Bool
minds_all m outcome o script w [] told = told
minds_all m outcome o script w (e ∷ events) told =
    minds_all m outcome o script (happens m outcome o script w e) events
    (minds_event m outcome w.host (request o w.tracer.focus) e told)

abbrev pub WorldsAreAttended : Type 0 → Type 0 → Type 0
WorldsAreAttended S B =
    (m : Machine S B) (outcome : S → Outcome) (o : Options) (script : Script) (s : S) (b : B) (events : List Event) →
    IsAttended (world_run m outcome o script (first_world s b) events)
    (minds_all m outcome o script (first_world s b) events (λ p. false))
