-- A tracer's run over a host that others turn too, told by the host's journal.
use Rattle.std.specs.Prelude.{◌≡◌, Bool, true, List, [], ◌∷◌, map, Some}
use Rattle.lx_abi.specs.declared.outcome.Outcome.{Outcome}
use Rattle.lx_abi.specs.declared.ptrace.Reply.{Reply}
use Rattle.lx_abi.specs.declared.ptrace.Request.{Request}
use Rattle.lx_abi.specs.declared.schedule.Event.{Event}
use Rattle.lx_model.specs.Kernel.{Script}
use Rattle.lx_model.specs.Machine.{Machine}
use Rattle.pt_model.specs.Calls.{IsOwn}
use Rattle.pt_model.specs.Headline.{traced_run}
use Rattle.pt_model.specs.Hosting.{Hosting, host_in, first_hosting}
use Rattle.pt_model.specs.Parts.{Options}
use Rattle.pt_model.specs.Ptrace.{is_there}
use Rattle.pt_model.specs.Tracer.{Tracer, request, next, first_tracer}
use Rattle.pt_model.specs.World.{World, happens, effective, first_world}
use Rattle.pt_journal.specs.Journals.{events_of, Replays}
use Rattle.pt_journal.specs.Told.{Told}
use Rattle.pt_journal.specs.declared.entry.Entry.{Entry}

-- each request is the one that the tracer asks after the replies before it
abbrev pub Asks : Options → Script → Tracer → List (Request × Reply) → Type 0
Asks o script t [] = Unit {0}
Asks o script t (x ∷ xs) = (request o t.focus ≡ Some x.0) × Asks o script (next o script t x.1).tracer xs

-- at each of the events something is asked
abbrev pub AsksAtEach : {S B : Type 0} → Machine S B → (S → Outcome) → Options → Script → World S B → List Event
    → Type 0
AsksAtEach m outcome o script w [] = Unit {0}
AsksAtEach m outcome o script w (e ∷ es) =
    (is_there (request o w.tracer.focus) ≡ true) × AsksAtEach m outcome o script (happens m outcome o script w e) es

-- what the journal tells of the run
pub record JournalRun {S B : Type 0} (m : Machine S B) (outcome : S → Outcome) (o : Options) (script : Script) (s : S)
    (b : B) (events : List Event) (replies : List Reply) (g : Hosting S B) : Type 0 where
  -- the replies are the host's own, for these events
  pub own : IsOwn m outcome o script s b events replies
  pub host : (traced_run m outcome o script s b events).host ≡ host_in g
  -- the effective turns
  pub turned : g.turns ≡ effective m outcome o script (first_world s b) events
  pub asked : AsksAtEach m outcome o script (first_world s b) events
  -- what is pending in the end is what the tracer asks then
  pub pending : is_there g.pending ≡ true
      → g.pending ≡ request o (traced_run m outcome o script s b events).tracer.focus

abbrev pub JournalsTell : Type 0 → Type 0 → Type 0
JournalsTell S B = (m : Machine S B) (outcome : S → Outcome) (follow : Bool) (o : Options) (script : Script) (s : S)
    (b : B) (journal : List Entry) (g : Hosting S B) (xs : List (Request × Reply))
    → Replays m outcome follow (first_hosting s b) journal g
    → Told journal xs → Asks o script first_tracer xs
    → JournalRun m outcome o script s b (events_of journal) (map (λ x. x.1) xs) g
