-- A conversation: a boot, and requests that a session answers one by one.
use Rattle.std.specs.Prelude.{◌≡◌, ◌⊎◌, ℕ, ◌+◌, ◌<◌, ◌^◌, List, [], ◌∷◌, ◌++◌, length, Option, true, false, Result, Ok, Err, ⊤}
use Rattle.std.specs.Io.KnownBytes.{Appends, Consumes, IsAtEnd}
use Rattle.lx_abi.specs.declared.boot.Boot.{Boot}
use Rattle.lx_abi.specs.declared.schedule.Word.{Word}
use Rattle.lx_abi.specs.declared.outcome.Outcome.{Outcome}
use Rattle.lx_abi.specs.declared.ptrace.Reply.{Reply}
use Rattle.lx_abi.specs.declared.ptrace.Reply.TheVariants.{Done, Refused}
use Rattle.lx_abi.specs.declared.ptrace.Request.{Request}
use Rattle.lx_abi.specs.declared.ptrace.Request.TheVariants.{Boot as Boot_with}
use Rattle.host_frame.specs.declared.frame.Frame.{Frame}
use Rattle.host_wire.specs.Ends.{AppendsPart, Input, IsPut}
use Rattle.host_wire.specs.Receiving.{IsCutOff, Receiving}
use Rattle.host_frame.specs.Spelling.{CanBeSpelled, content, spelled, reply_frame}
use Rattle.host_wire.specs.Streams.{Going, stream_of}
use Rattle.host_serve.specs.declared.fault.ServeFault.{ServeFault}
use Rattle.host_serve.specs.declared.fault.ServeFault.TheVariants.{Read, Write, Wire, Order, Failed}
use Rattle.host_serve.specs.declared.session.Phase.{Phase}
use Rattle.host_serve.specs.declared.session.Phase.TheVariants.{Waiting, Refused as Refusing, Serving}
use Rattle.pt_kernel.specs.Hosts.{is_boot}
use Rattle.host_serve.specs.Requests.{IsFaulty, IsOther, request_frame}

abbrev pub Boots : Type 0 → Type 1
Boots S = Boot → ℕ → List Word → Result S ℕ → Type 0

abbrev pub Answers : Type 0 → Type 1
Answers S = S → Request → Reply → S → Type 0

abbrev pub Fails : Type 0 → Type 1
Fails S = S → Request → S → Type 0

-- ---- one reply

-- too long for a frame
abbrev pub IsTooLong : ℕ → Reply → Type 0
IsTooLong number r = 134217728 < length (content (reply_frame number r))

-- one put wrote a first part of the reply's frame, which can be spelled
abbrev pub IsSentInPart : ℕ → Reply → Option (List ℕ) → Option (List ℕ) → List ℕ → List ℕ → Type 0
IsSentInPart number r old new puts puts' =
    AppendsPart old new (spelled (reply_frame number r))
    × (IsPut puts puts' (spelled (reply_frame number r)) × CanBeSpelled (reply_frame number r))

-- the reply's frame, which can be spelled, is written by one put, which may fail within it; or nothing is
abbrev pub SentAs : Result ⊤ ServeFault → ℕ → Reply → Option (List ℕ) → Option (List ℕ) → List ℕ → List ℕ → ℕ
    → Type 0
SentAs (Ok u) number r old new puts puts' broken =
    Appends old new (spelled (reply_frame number r))
    × (IsPut puts puts' (spelled (reply_frame number r)) × CanBeSpelled (reply_frame number r))
SentAs (Err Write) number r old new puts puts' broken = IsSentInPart number r old new puts puts' × (broken ≡ 1)
SentAs (Err Wire) number r old new puts puts' broken = (new ≡ old) × ((puts' ≡ puts) × IsTooLong number r)
SentAs (Err Failed) number r old new puts puts' broken = (new ≡ old) × (puts' ≡ puts)
SentAs (Err Read) number r old new puts puts' broken = ⊥
SentAs (Err Order) number r old new puts puts' broken = ⊥

-- ---- a conversation

-- what a request is answered, and where the conversation then stands
abbrev pub BootAnswered : {S : Type 0} → Boots S → Boot → ℕ → List Word → Reply → Phase S → Type 0
BootAnswered boots boot limit words r Waiting = ⊥
BootAnswered boots boot limit words r Refusing = (n : ℕ) × ((r ≡ Refused n) × boots boot limit words (Err n))
BootAnswered boots boot limit words r (Serving s) = (r ≡ Done) × boots boot limit words (Ok s)

abbrev pub SessionAnswered : {S : Type 0} → Answers S → S → Request → Reply → Phase S → Type 0
SessionAnswered answers s q r Waiting = ⊥
SessionAnswered answers s q r Refusing = ⊥
SessionAnswered answers s q r (Serving t) = (is_boot q ≡ false) × answers s q r t

abbrev pub Answered : {S : Type 0} → Boots S → Answers S → Phase S → Request → Reply → Phase S → Type 0
Answered boots answers Waiting q r next =
    (boot : Boot)
    × ((limit : ℕ)
    × ((words : List Word)
    × ((q ≡ Boot_with boot limit words) × BootAnswered boots boot limit words r next)))
Answered boots answers Refusing q r next = ⊥
Answered boots answers (Serving s) q r next = SessionAnswered answers s q r next

-- a request that isn't due: the first is Boot, no later one is, and none comes after a refusal
abbrev pub IsUndue : {S : Type 0} → Phase S → Request → Type 0
IsUndue Waiting q = is_boot q ≡ false
IsUndue Refusing q = Unit {0}
IsUndue (Serving s) q = is_boot q ≡ true

-- the session had no memory for the reply
abbrev pub FailsAt : {S : Type 0} → Fails S → Phase S → Request → Type 0
FailsAt fails Waiting q = ⊥
FailsAt fails Refusing q = ⊥
FailsAt {S} fails (Serving s) q = (t : S) × fails s q t

-- what a function returned for a request, and where the conversation then stands
abbrev pub Responds :
    {S : Type 0} → Boots S → Answers S → Fails S → Phase S → Request → Result Reply ServeFault → Phase S → Type 0
Responds boots answers fails phase q (Ok r) next = Answered boots answers phase q r next
Responds boots answers fails phase q (Err Order) next = IsUndue phase q
Responds boots answers fails phase q (Err Failed) next = FailsAt fails phase q
Responds boots answers fails phase q (Err Read) next = ⊥
Responds boots answers fails phase q (Err Write) next = ⊥
Responds boots answers fails phase q (Err Wire) next = ⊥

-- a session can answer one more request
abbrev pub CanAnswer : {S : Type 0} → (S → Type 0) → (S → ℕ) → Phase S → Type 0
CanAnswer ready given Waiting = Unit {0}
CanAnswer ready given Refusing = Unit {0}
CanAnswer ready given (Serving s) = ready s × (given s < 2 ^ 40)

-- the request of this number is due
abbrev pub IsDue : {S : Type 0} → (S → Type 0) → (S → ℕ) → Phase S → ℕ → Type 0
IsDue ready given Waiting number = number ≡ 1
IsDue ready given Refusing number = Unit {0}
IsDue ready given (Serving s) number = ready s × (given s + 2 ≡ number)

abbrev pub Exchanges : Type 0
Exchanges = List (Request × Reply)

-- the exchanges lead from one phase to another, the last first
abbrev pub Leads : {S : Type 0} → Boots S → Answers S → Exchanges → Phase S → Type 0
Leads boots answers [] phase = phase ≡ Waiting
Leads {S} boots answers (x ∷ xs) phase =
    (before : Phase S) × (Leads boots answers xs before × Answered boots answers before x.0 x.1 phase)

-- the frames of requests and the bytes of replies, numbered from 1 in the order in which they came
abbrev pub requests_of : Exchanges → List Frame
requests_of [] = []
requests_of (x ∷ xs) = requests_of xs ++ request_frame (length xs + 1) x.0 ∷ []

abbrev pub replies_of : Exchanges → List ℕ
replies_of [] = []
replies_of (x ∷ xs) = replies_of xs ++ spelled (reply_frame (length xs + 1) x.1)

-- how many bytes each of these frames has
abbrev pub sizes_of : Exchanges → List ℕ
sizes_of [] = []
sizes_of (x ∷ xs) = sizes_of xs ++ length (spelled (reply_frame (length xs + 1) x.1)) ∷ []

-- each of these frames can be spelled
abbrev pub AreSpelled : Exchanges → Type 0
AreSpelled [] = Unit {0}
AreSpelled (x ∷ xs) = CanBeSpelled (reply_frame (length xs + 1) x.1) × AreSpelled xs

-- the bytes of the requests, each of which came by so many reads at most
abbrev pub Taken : ℕ → Input → Exchanges → Input → List ℕ → Type 0
Taken most a [] b came = (b ≡ a) × (came ≡ [])
Taken most a (x ∷ xs) b came = (mid : Input) × ((before : List ℕ) × ((own : List ℕ) × ((came ≡ before ++ own)
    × (Taken most a xs mid before × (Receiving most mid b own
    × (stream_of own ≡ Going (request_frame (length xs + 1) x.0 ∷ []) []))))))

-- ---- a whole run of a host

-- the empty outcome before a boot was accepted
abbrev pub outcome_at : {S : Type 0} → (S → Outcome) → Phase S → Outcome
outcome_at left Waiting = record { console = []; files = []; ended = [] }
outcome_at left Refusing = record { console = []; files = []; ended = [] }
outcome_at left (Serving s) = left s

abbrev pub Finishes : Result Outcome ServeFault → Outcome → Type 0
Finishes (Ok outcome) wanted = outcome ≡ wanted
Finishes (Err Failed) wanted = Unit {0}
Finishes (Err Read) wanted = ⊥
Finishes (Err Write) wanted = ⊥
Finishes (Err Wire) wanted = ⊥
Finishes (Err Order) wanted = ⊥

-- after the requests whose replies were sent, one was read, and no byte behind it; its reply, and where the
-- conversation then stood
pub record Unsent {S : Type 0} (boots : Boots S) (answers : Answers S) (phase : Phase S) (number : ℕ)
    (rest : List ℕ) : Type 0 where
  pub request : Request
  pub reply : Reply
  pub next : Phase S
  pub asked : stream_of rest ≡ Going (request_frame number request ∷ []) []
  pub answered : Answered boots answers phase request reply next

-- what ended it: `rest` is what was read after the requests whose replies were sent, `reads` how much each read of it
-- gave
abbrev pub EndsBy : {S : Type 0} → ℕ → Boots S → Answers S → (S → Outcome) → Phase S → ℕ → Result Outcome ServeFault
    → List ℕ → List ℕ → Input → ℕ → Type 0
EndsBy most boots answers left phase number (Ok outcome) rest reads b broken_writer =
    (tail : List ℕ) × ((stream_of rest ≡ Going [] tail) × IsAtEnd b.remaining × (outcome ≡ outcome_at left phase))
EndsBy most boots answers left phase number (Err Read) rest reads b broken_writer =
    ((tail : List ℕ) × ((stream_of rest ≡ Going [] tail) × IsCutOff most reads b))
    ⊎ ((number ≡ 2 ^ 40 + 1) × (rest ≡ []))
EndsBy most boots answers left phase number (Err Wire) rest reads b broken_writer =
    IsFaulty (stream_of rest)
    ⊎ ((unsent : Unsent boots answers phase number rest) × IsTooLong number unsent.reply)
EndsBy most boots answers left phase number (Err Order) rest reads b broken_writer =
    (f : Frame)
    × ((stream_of rest ≡ Going (f ∷ []) [])
    × (IsOther f number ⊎ ((q : Request) × ((f ≡ request_frame number q) × IsUndue phase q))))
EndsBy most boots answers left phase number (Err Write) rest reads b broken_writer = broken_writer ≡ 1
EndsBy most boots answers left phase number (Err Failed) rest reads b broken_writer = Unit {0}

-- these replies were written, each by one put
abbrev pub AreWritten : Exchanges → Option (List ℕ) → Option (List ℕ) → List ℕ → List ℕ → Type 0
AreWritten xs old new puts puts' = Appends old new (replies_of xs) × (puts' ≡ puts ++ sizes_of xs)

-- the replies were written whole, and a put that failed wrote a first part of the next
pub record BreaksOff {S : Type 0} (boots : Boots S) (answers : Answers S) (phase : Phase S) (xs : Exchanges)
    (rest : List ℕ) (old new : Option (List ℕ)) (puts puts' : List ℕ) : Type 0 where
  pub whole : Option (List ℕ)
  pub sizes : List ℕ
  pub written : AreWritten xs old whole puts sizes
  pub unsent : Unsent boots answers phase (length xs + 1) rest
  pub part : IsSentInPart (length xs + 1) unsent.reply whole new sizes puts'

-- what was written: the replies, each whole, but where a put failed
abbrev pub WritesAs : {S : Type 0} → Boots S → Answers S → Phase S → Exchanges → Result Outcome ServeFault → List ℕ
    → Option (List ℕ) → Option (List ℕ) → List ℕ → List ℕ → Type 0
WritesAs boots answers phase xs (Ok outcome) rest old new puts puts' = AreWritten xs old new puts puts'
WritesAs boots answers phase xs (Err Read) rest old new puts puts' = AreWritten xs old new puts puts'
WritesAs boots answers phase xs (Err Wire) rest old new puts puts' = AreWritten xs old new puts puts'
WritesAs boots answers phase xs (Err Order) rest old new puts puts' = AreWritten xs old new puts puts'
WritesAs boots answers phase xs (Err Failed) rest old new puts puts' = AreWritten xs old new puts puts'
WritesAs boots answers phase xs (Err Write) rest old new puts puts' =
    BreaksOff boots answers phase xs rest old new puts puts'

pub record Served {S : Type 0} (most : ℕ) (boots : Boots S) (answers : Answers S) (left : S → Outcome)
    (input input' : Input) (old new : Option (List ℕ)) (puts puts' : List ℕ) (result : Result Outcome ServeFault)
    (broken_writer : ℕ) : Type 0 where
  pub exchanges : Exchanges
  pub phase : Phase S
  -- the reader behind the last request that was answered
  pub middle : Input
  pub came : List ℕ
  pub rest : List ℕ
  pub consumed : Consumes input.remaining input'.remaining (came ++ rest)
  pub led : Leads boots answers exchanges phase
  pub asked : stream_of came ≡ Going (requests_of exchanges) []
  pub taken : Taken most input exchanges middle came
  pub last : Receiving most middle input' rest
  pub ended : EndsBy most boots answers left phase (length exchanges + 1) result rest last.reads input' broken_writer
  pub written : WritesAs boots answers phase exchanges result rest old new puts puts'
  pub fit : AreSpelled exchanges

-- so far, with this many exchanges
pub record Serves {S : Type 0} (most : ℕ) (boots : Boots S) (answers : Answers S) (input input' : Input)
    (old new : Option (List ℕ)) (puts puts' : List ℕ) (phase : Phase S) (number : ℕ) : Type 0 where
  pub exchanges : Exchanges
  pub came : List ℕ
  pub consumed : Consumes input.remaining input'.remaining came
  pub led : Leads boots answers exchanges phase
  pub asked : stream_of came ≡ Going (requests_of exchanges) []
  pub taken : Taken most input exchanges input' came
  pub written : AreWritten exchanges old new puts puts'
  pub fit : AreSpelled exchanges
  pub counted : number ≡ length exchanges + 1
