-- Frames that are read, one by one.
use Rattle.std.specs.Prelude.{◌≡◌, ◌⊎◌, ◌≤◌, List, [], ◌∷◌, ◌++◌, ℕ, length, OnOk, Option, Some, None, Result, Ok, Err, Bool, true, false}
use Rattle.std.specs.List.{All, sum}
use Rattle.std.specs.Io.KnownBytes.{Consumes, IsAtEnd}
use Rattle.host_frame.specs.declared.frame.Frame.{Frame}
use Rattle.host_wire.specs.Ends.{Input}
use Rattle.host_wire.specs.declared.receiving.ReceiveFault.{ReceiveFault}
use Rattle.host_wire.specs.declared.receiving.ReceiveFault.TheVariants.{Read, Wire}
use Rattle.host_wire.specs.Streams.{Stream, Feeding, Going, Failed, FailsAs, fed, as_stream, HasOne}

-- These bytes came for a frame, by so many reads at most.
pub record Receiving (most : ℕ) (a b : Input) (came : List ℕ) : Type 0 where
  -- how many bytes each of them gave
  pub reads : List ℕ
  pub made : b.reads ≡ a.reads ++ reads
  pub whole : sum reads ≡ length came
  pub few : length reads ≤ most
  pub consumed : Consumes a.remaining b.remaining came

-- The reader has failed, or as many reads were made as may be, each of which gave some bytes.
abbrev pub IsCutOff : ℕ → List ℕ → Input → Type 0
IsCutOff most reads b = (b.broken ≡ 1) ⊎ ((length reads ≡ most) × All (λ n. 1 ≤ n) reads)

-- The reader after, what its reads gave, and the feed's stream after what was read: a frame, the end of input, a
-- reader that is cut off, or a fault of the stream.
abbrev pub ReceivedAs : ℕ → Result (Option Frame) ReceiveFault → List ℕ → Stream → Feeding → Input → Type 0
ReceivedAs most (Ok (Some f)) reads stream after b = stream ≡ Going (f ∷ after.ready) after.under_way
ReceivedAs most (Ok None) reads stream after b = (stream ≡ as_stream after) × (after.ready ≡ []) × IsAtEnd b.remaining
ReceivedAs most (Err Read) reads stream after b = (stream ≡ as_stream after) × (after.ready ≡ [])
    × IsCutOff most reads b
ReceivedAs most (Err (Wire fault)) reads stream after b = FailsAs Failed fault stream

-- one read of bytes that were fed; false at the end of input
abbrev pub ReadAs : Result Bool ReceiveFault → List ℕ → Stream → Feeding → Input → Type 0
ReadAs (Ok true) came stream after b = (stream ≡ as_stream after) × (1 ≤ length came)
ReadAs (Ok false) came stream after b = (stream ≡ as_stream after) × (came ≡ []) × IsAtEnd b.remaining
ReadAs (Err Read) came stream after b = (stream ≡ as_stream after) × (came ≡ []) × (b.broken ≡ 1)
ReadAs (Err (Wire fault)) came stream after b = FailsAs Failed fault stream

-- one read, no byte past the frame under way
pub record ReadOnce (a : Input) (before : Feeding) (result : Result Bool ReceiveFault) (b : Input)
    (after : Feeding) : Type 0 where
  pub came : List ℕ
  pub consumed : Consumes a.remaining b.remaining came
  pub counted : b.reads ≡ a.reads ++ length came ∷ []
  pub few : before.ready ≡ [] → OnOk result (HasOne after)
  pub so : ReadAs result came (fed before came) after b

pub record Received (most : ℕ) (a : Input) (before : Feeding) (result : Result (Option Frame) ReceiveFault)
    (b : Input) (after : Feeding) : Type 0 where
  pub came : List ℕ
  pub received : Receiving most a b came
  pub so : ReceivedAs most result received.reads (fed before came) after b
