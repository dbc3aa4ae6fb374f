-- What a call of a link over a reader and a writer may do.
use Rattle.std.specs.Prelude.{◌≡◌, ◌⊎◌, ℕ, ◌+◌, ◌^◌, ◌&&◌, Bool, true, false, not, cond, List, Option, Result}
use Rattle.std.specs.Prelude.{Err, OnOk}
use Rattle.lx_abi.specs.declared.ptrace.Reply.{Reply}
use Rattle.lx_abi.specs.declared.ptrace.Request.{Request}
use Rattle.host_frame.specs.declared.frame.Frame.{Frame}
use Rattle.host_wire.specs.Ends.{Input}
use Rattle.host_link.specs.declared.fault.LinkFault.{LinkFault}
use Rattle.host_link.specs.declared.fault.LinkFault.TheVariants.{Ended, TooMany}
use Rattle.host_link.specs.declared.pipe.PipeLink.{PipeLink}
use Rattle.host_link.specs.Pipes.{Came, Exchanged, is_wait, request_frame}

abbrev pub reader_of : {R W : Type 0} → PipeLink R W → R
reader_of l = l.reader

abbrev pub writer_of : {R W : Type 0} → PipeLink R W → W
writer_of l = l.writer

-- how many reads a frame may take
abbrev pub most_of : {R W : Type 0} → PipeLink R W → ℕ
most_of l = l.most

abbrev pub given_of : {R W : Type 0} → PipeLink R W → ℕ
given_of l = l.given

abbrev pub is_broken_of : {R W : Type 0} → PipeLink R W → Bool
is_broken_of l = l.is_broken

abbrev pub faults_of : {R W : Type 0} → PipeLink R W → ℕ
faults_of l = cond l.is_broken 1 0

-- Wait was sent behind the last request
abbrev pub waits_of : {R W : Type 0} → PipeLink R W → Bool
waits_of l = l.waits

-- the request goes out by one put, and Wait behind it where it goes ahead; or it is that Wait, and nothing goes out
abbrev pub RepliedTo : {R W : Type 0} → (R → Input) → (W → Option (List ℕ)) → (W → List ℕ) → (W → ℕ) → PipeLink R W
    → Frame → Bool → Result Reply LinkFault → PipeLink R W → Type 0
RepliedTo input contents puts broken_writer a sent ahead result b =
    ((a.waits ≡ false) × Exchanged a.most sent ahead (input a.reader) (input b.reader) (contents a.writer)
    (contents b.writer) (puts a.writer) (puts b.writer) result (broken_writer b.writer))
    ⊎ ((a.waits ≡ true) × ((b.writer ≡ a.writer) × Came a.most (input a.reader) result sent (input b.reader)))

-- what a reply's reading leaves as it was
abbrev pub KeepsCounts : {R W : Type 0} → PipeLink R W → PipeLink R W → Type 0
KeepsCounts a b = (b.most ≡ a.most) × ((b.given ≡ a.given) × ((b.is_broken ≡ a.is_broken) × (b.waits ≡ a.waits)))

-- After a fault, after 2^40 replies, and where Wait was sent ahead of another request, nothing is sent or read; else
-- the request has the next number.
abbrev pub Asks : {R W : Type 0} → (R → Input) → (W → Option (List ℕ)) → (W → List ℕ) → (W → ℕ) → PipeLink R W
    → Request → Result Reply LinkFault → PipeLink R W → Type 0
Asks input contents puts broken_writer a q result b =
    ((a.is_broken ≡ true) × ((result ≡ Err Ended) × ((b.reader ≡ a.reader) × (b.writer ≡ a.writer))))
    ⊎ (((a.given ≡ 2 ^ 40) × ((result ≡ Err TooMany) × ((b.reader ≡ a.reader) × (b.writer ≡ a.writer))))
    ⊎ (((a.waits ≡ true) × ((is_wait q ≡ false) × ((result ≡ Err Ended)
    × ((b.reader ≡ a.reader) × (b.writer ≡ a.writer)))))
    ⊎ ((a.waits ≡ true → is_wait q ≡ true) × ((b.most ≡ a.most) × ((ahead : Bool)
    × (OnOk result (b.waits ≡ (ahead && not a.waits))
    × RepliedTo input contents puts broken_writer a (request_frame (a.given + 1) q) ahead result b))))))
