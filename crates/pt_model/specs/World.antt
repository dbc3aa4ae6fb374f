-- The world: the ptrace machine with the tracer's requests, fed a list of events.
use Rattle.std.specs.Prelude.{ℕ, ◌==◌, cond, List, [], ◌∷◌, ◌++◌, Option, Some, None}
use Rattle.lx_abi.specs.declared.outcome.Outcome.{Outcome}
use Rattle.lx_abi.specs.declared.ptrace.Reply.{Reply}
use Rattle.lx_abi.specs.declared.ptrace.Request.{Request}
use Rattle.lx_abi.specs.declared.schedule.Event.{Event}
use Rattle.lx_abi.specs.declared.schedule.Event.TheVariants.{Turn, Serve}
use Rattle.lx_model.specs.Machine.{Machine}
use Rattle.lx_model.specs.Kernel.{Script, born}
use Rattle.pt_model.specs.Ptrace.{Host, host_turn, is_effective, first_host}
use Rattle.pt_model.specs.Requests.{serve}
use Rattle.pt_model.specs.Parts.{Options, Part}
use Rattle.pt_model.specs.Tracer.{Focus, Booting, Waiting, Serving, Asking_outcome, Over, Turns_over, Faulted, Tracer, request, next_from, first_tracer}

pub record World (S B : Type 0) : Type 0 where
  pub host : Host S B
  pub tracer : Tracer
  pub printed : List Part

-- a request was served: its reply, if there is one, comes to the tracer, which asks the next
abbrev pub met : {S B : Type 0} → Options → Script → World S B → Focus → Host S B → Option Reply → World S B
met o script w focus h None = record { host = h; tracer = w.tracer; printed = w.printed }
met o script w focus h (Some r) = record {
  host = h;
  tracer = (next_from o script w.tracer focus r).tracer;
  printed = w.printed ++ (next_from o script w.tracer focus r).printed;
}

-- an event, while this request is pending; after the last request nothing happens
abbrev pub happens_asked : {S B : Type 0} → Machine S B → (S → Outcome) → Options → Script
    → World S B → Focus → Option Request → Event → World S B
happens_asked m outcome o script w focus None e = w
happens_asked m outcome o script w focus (Some q) (Turn p) = record {
  host = host_turn m w.host p;
  tracer = w.tracer;
  printed = w.printed;
}
happens_asked m outcome o script w focus (Some q) Serve =
    met o script w focus (serve m outcome w.host q).host (serve m outcome w.host q).reply

abbrev pub happens : {S B : Type 0} → Machine S B → (S → Outcome) → Options → Script → World S B → Event → World S B
happens m outcome o script w e = happens_asked m outcome o script w w.tracer.focus (request o w.tracer.focus) e

abbrev pub world_run : {S B : Type 0} → Machine S B → (S → Outcome) → Options → Script
    → World S B → List Event → World S B
world_run m outcome o script w [] = w
world_run m outcome o script w (e ∷ es) = world_run m outcome o script (happens m outcome o script w e) es

-- the turns that an event gives to the kernel
abbrev pub turns_of : {S B : Type 0} → Machine S B → World S B → Option Request → Event → List ℕ
turns_of m w None e = []
turns_of m w (Some q) (Turn p) = cond (is_effective m w.host.shared p (w.host.procs p)) (p ∷ []) []
turns_of m w (Some q) Serve = []

-- the effective turns of a list of events
abbrev pub effective : {S B : Type 0} → Machine S B → (S → Outcome) → Options → Script → World S B → List Event → List ℕ
effective m outcome o script w [] = []
effective m outcome o script w (e ∷ es) =
    turns_of m w (request o w.tracer.focus) e ++ effective m outcome o script (happens m outcome o script w e) es

-- Once the events are used up, the pending request and each later one is answered OutOfTurns.
pub data End : Type 0 where
  Whole : Outcome → End
  Events_used_up : End
  -- a reply wasn't admitted; the host's own all are
  Fault : End

abbrev pub end_of : Focus → End
end_of Booting = Events_used_up
end_of Waiting = Events_used_up
end_of (Serving p place) = Events_used_up
end_of Asking_outcome = Events_used_up
end_of (Over x) = Whole x
end_of Turns_over = Events_used_up
end_of Faulted = Fault

abbrev pub first_world : {S B : Type 0} → S → B → World S B
first_world s b = record { host = first_host s (λ p. born (p == 1) b); tracer = first_tracer; printed = [] }
