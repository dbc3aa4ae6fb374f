-- What a link and a worker do under the lock.
use Rattle.std.specs.Prelude.{◌≡◌, ◌⊎◌, ℕ, Bool, true, false, List, [], ◌∷◌, ◌++◌, Option, Some, None, Result, Ok, Err}
use Rattle.lx_abi.specs.declared.ptrace.Reply.{Reply}
use Rattle.lx_abi.specs.declared.ptrace.Reply.TheVariants.{OutOfTurns as Out_of_turns}
use Rattle.lx_abi.specs.declared.ptrace.Request.{Request}
use Rattle.pt_model.specs.Ptrace.{is_there}
use Rattle.host_link.specs.declared.fault.LinkFault.{LinkFault}
use Rattle.host_link.specs.declared.fault.LinkFault.TheVariants.{Ended, Sequence, Memory, TooMany}
use Rattle.transcript.specs.declared.said.Said.{Said}
use Rattle.transcript.specs.declared.said.Said.TheVariants.{Asked, Answered}
use Rattle.host_shared.specs.HeldStates.{HeldState, asked, refused, serve_of, next_turn, Turned, Stopped, shut_of}

-- a request is put, or refused at once
abbrev pub Puts : HeldState → Request → Option (Result Reply LinkFault) → HeldState → Type 0
Puts h q None h' =
    (h.failed ≡ false) × (h.closed ≡ false) × (is_there h.host.hosting.pending ≡ false) × (h' ≡ asked h q)
Puts h q (Some (Ok r)) h' =
    (h.failed ≡ false) × (h.closed ≡ true) × (h.over ≡ false) × (r ≡ Out_of_turns) × (h' ≡ refused h q)
Puts h q (Some (Err Memory)) h' = h'.failed ≡ true
Puts h q (Some (Err Sequence)) h' =
    (h.failed ≡ false) × ((h.over ≡ true) ⊎ (is_there h.host.hosting.pending ≡ true)) × (h' ≡ h)
Puts h q (Some (Err f)) h' = ⊥

-- and what was said, as the tracer knows it
abbrev pub PutSays : List Said → Request → Option (Result Reply LinkFault) → List Said → Type 0
PutSays said q None said' = said' ≡ said ++ Asked q ∷ []
PutSays said q (Some (Ok r)) said' = said' ≡ said ++ Asked q ∷ Answered r ∷ []
PutSays said q (Some (Err f)) said' = Unit {0}

-- it is served, or it waits
abbrev pub Tries : HeldState → Option (Result Reply LinkFault) → HeldState → Type 0
Tries h None h' = (h.failed ≡ false) × (serve_of h ≡ record { held = h'; reply = None })
Tries h (Some (Ok r)) h' = (h.failed ≡ false) × (serve_of h ≡ record { held = h'; reply = Some r })
Tries h (Some (Err Memory)) h' = h'.failed ≡ true
Tries h (Some (Err Sequence)) h' =
    (h.failed ≡ false) × ((h.over ≡ true) ⊎ (is_there h.host.hosting.pending ≡ false)) × (h' ≡ h)
Tries h (Some (Err f)) h' = ⊥

abbrev pub TrySays : List Said → Option (Result Reply LinkFault) → List Said → Type 0
TrySays said None said' = said' ≡ said
TrySays said (Some (Ok r)) said' = said' ≡ said ++ Answered r ∷ []
TrySays said (Some (Err f)) said' = Unit {0}

-- memory was refused, or the request doesn't follow the one before it
abbrev pub IsSharedFault : LinkFault → Type 0
IsSharedFault Memory = Unit {0}
IsSharedFault Sequence = Unit {0}
IsSharedFault f = ⊥

-- a call of a link over it: what was asked and answered is kept
abbrev pub Calls : {L : Type 0} → (L → List (Request × Reply)) → (L → ℕ) → L → Request → Result Reply LinkFault → L
    → Type 0
Calls given broken a q (Ok r) b = given b ≡ given a ++ (q, r) ∷ []
Calls given broken a q (Err Memory) b = given b ≡ given a
Calls given broken a q (Err Sequence) b = given b ≡ given a
Calls given broken a q (Err Ended) b = (broken a ≡ 1) × (given b ≡ given a)
Calls given broken a q (Err TooMany) b = given b ≡ given a
Calls given broken a q (Err f) b = ⊥

-- a worker's round under the lock: a turn, if one can be made, or the end where its gate is shut; what is open stays so
abbrev pub Round : HeldState → Bool → Option Bool → HeldState → Type 0
Round h false goes h' = (goes ≡ None) × (h' ≡ shut_of h)
Round h true None h' = ((h.closed ≡ true) × (h' ≡ h)) ⊎ Stopped h'
Round h true (Some moved) h' = (h.closed ≡ false) × Turned h (next_turn h) moved h'
