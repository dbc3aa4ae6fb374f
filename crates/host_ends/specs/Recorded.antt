-- What one end of a pipe wrote, read by the other.
use Rattle.std.specs.Prelude.{◌≡◌, ℕ, ◌+◌, ◌≤◌, Bool, true, false, List, [], ◌∷◌, ◌++◌, length, map}
use Rattle.std.specs.Prelude.{Option, Some, Ok, Err}
use Rattle.lx_abi.specs.declared.ptrace.Reply.{Reply}
use Rattle.lx_abi.specs.declared.ptrace.Request.{Request}
use Rattle.pt_model.specs.Admissible.{answers}
use Rattle.host_frame.specs.Spelling.{HasOrder}
use Rattle.host_frame.specs.declared.frame.Payload.TheVariants.{Reply as Of_reply}
use Rattle.host_wire.specs.Ends.{Input}
use Rattle.host_wire.specs.Receiving.{IsCutOff}
use Rattle.host_link.specs.Pipes.{Came, Exchanged, is_wait, request_frame}
use Rattle.host_link.specs.declared.fault.LinkFault.{LinkFault}
use Rattle.host_link.specs.declared.fault.LinkFault.TheVariants.{Ended, Read, Write, Malformed, Sequence, Inadmissible, Memory, TooMany}
use Rattle.host_serve.specs.Serving.{Exchanges, AreSpelled, Taken, replies_of}

-- the first first
abbrev pub in_turn : Exchanges → Exchanges
in_turn [] = []
in_turn (x ∷ xs) = in_turn xs ++ x ∷ []

abbrev pub asked : Exchanges → List Request
asked xs = map (λ x. x.0) xs

abbrev pub told : Exchanges → List Reply
told xs = map (λ x. x.1) xs

-- each outcome among the replies is in order
abbrev pub AreInOrder : Exchanges → Type 0
AreInOrder [] = Unit {0}
AreInOrder (x ∷ xs) = HasOrder (Of_reply x.1) × AreInOrder xs

-- ---- replies

-- a link with this reader was given these replies, to requests of the numbers from this one on
abbrev pub CameFrom : ℕ → ℕ → Input → Exchanges → Input → Type 0
CameFrom most number a [] b = b ≡ a
CameFrom most number a (x ∷ xs) b =
    (mid : Input) × (Came most a (Ok x.1) (request_frame number x.0) mid × CameFrom most (number + 1) mid xs b)

-- a link whose reader gives what a host wrote, or a beginning of it, is given the host's replies, in their order,
-- whatever it asks
abbrev pub RepliesAreThose : Type 0
RepliesAreThose = (most : ℕ) (a b : Input) (xs ys : Exchanges) (bytes later : List ℕ) →
    a.remaining ≡ Some bytes → bytes ++ later ≡ replies_of xs → AreSpelled xs → CameFrom most 1 a ys b →
    (rest : List Reply) × (told (in_turn xs) ≡ told ys ++ rest)

-- the cause of a fault where this reply was due: the reader failed or was given up, memory was refused, or the
-- reply doesn't answer the request
abbrev pub IsCaused : LinkFault → ℕ → Request → Reply → List ℕ → Input → Type 0
IsCaused Read most q r reads b = IsCutOff most reads b
IsCaused Memory most q r reads b = Unit {0}
IsCaused Inadmissible most q r reads b = answers q r ≡ false
IsCaused Ended most q r reads b = ⊥
IsCaused Write most q r reads b = ⊥
IsCaused Malformed most q r reads b = ⊥
IsCaused Sequence most q r reads b = ⊥
IsCaused TooMany most q r reads b = ⊥

-- where the reader gives all that was written, a reply that is due isn't missed, mangled or out of sequence
abbrev pub FaultsAreCaused : Type 0
FaultsAreCaused = (most : ℕ) (a b c : Input) (xs ys : Exchanges) (q : Request) (fault : LinkFault) (r : Reply)
    (rest : List Reply) →
    a.remaining ≡ Some (replies_of xs) → AreSpelled xs → AreInOrder xs →
    CameFrom most 1 a ys b → told (in_turn xs) ≡ told ys ++ r ∷ rest →
    (came : Came most b (Err fault) (request_frame (length ys + 1) q) c) →
    IsCaused fault most q r came.received.reads c

-- ---- both ends

-- A link sent these requests, of the numbers from this one on, and was given these replies. Wait may have been sent
-- ahead of the first, or behind any.
abbrev pub Talked : ℕ → ℕ → Bool → Input → Option (List ℕ) → Exchanges → Input → Option (List ℕ) → Type 0
Talked most number false a old [] b new = (b ≡ a) × (new ≡ old)
Talked most number true a old [] b new = (b ≡ a) × (new ≡ old)
Talked most number false a old (x ∷ xs) b new = (mid : Input) × ((between : Option (List ℕ)) × ((puts : List ℕ)
    × ((puts' : List ℕ) × ((broken : ℕ) × ((ahead : Bool)
    × (Exchanged most (request_frame number x.0) ahead a mid old between puts puts' (Ok x.1) broken
    × Talked most (number + 1) ahead mid between xs b new))))))
Talked most number true a old (x ∷ xs) b new = (mid : Input) × ((is_wait x.0 ≡ true)
    × (Came most a (Ok x.1) (request_frame number x.0) mid × Talked most (number + 1) false mid old xs b new))

-- a link whose reader gives a beginning of what a host wrote, and a host whose reader gave a beginning of what that
-- link wrote: the link's exchanges are the host's first
abbrev pub EndsAgree : Type 0
EndsAgree = (most most' : ℕ) (a b c d : Input) (xs ys : Exchanges) (bytes later sent came behind more : List ℕ) →
    a.remaining ≡ Some bytes → bytes ++ later ≡ replies_of xs → AreSpelled xs →
    Taken most' c xs d came → came ++ behind ≡ sent ++ more →
    Talked most 1 false a (Some []) ys b (Some sent) → (rest : Exchanges) × (in_turn xs ≡ ys ++ rest)
