-- A stream is whole frames, followed by an unfinished one, or it has a fault at one of its bytes.
use Rattle.std.specs.Prelude.{◌≡◌, ◌⊎◌, ℕ, ◌+◌, ◌-◌, List, [], ◌∷◌, ◌++◌, length, take, slice_index, Option, Some, None, Result, Ok, Err, Bool, ◌&&◌, ◌||◌, not, nat_lt, nat_le, ◌==◌, if◌then◌else◌}
use Rattle.host_frame.specs.declared.frame.Frame.{Frame}
use Rattle.host_frame.specs.declared.fault.WireFault.{WireFault}
use Rattle.host_frame.specs.declared.fault.WireFault.TheVariants.{Length, Kind, Payload, Memory}
use Rattle.host_frame.specs.Reading.{frame_at, told_length}
use Rattle.host_frame.specs.Spelling.{FitsFrame, IsShort, spelled}

abbrev pub is_length : ℕ → Bool
is_length n = nat_le 9 n && nat_le n 134217728

abbrev pub is_kind : ℕ → Bool
is_kind k = (nat_le 0x01 k && nat_le k 0x0b) || (k == 0x0d) || (nat_le 0x81 k && nat_le k 0x8a)

-- the frames that are whole, and the bytes of the one under way; or the first fault
pub data Stream : Type 0 where
  Going : List Frame → List ℕ → Stream
  Failed : WireFault → Stream

abbrev pub closed : List Frame → Option Frame → Stream
closed frames None = Failed Payload
closed frames (Some f) = Going (frames ++ f ∷ []) []

-- what the newest byte of the frame under way decides: the fourth its length, the 13th its kind, the last its body
unfoldable pub settled : List Frame → List ℕ → Stream
settled frames bytes =
    if (length bytes == 4) && not (is_length (told_length bytes)) then Failed Length
    else (if (length bytes == 13) && not (is_kind (slice_index bytes 12)) then Failed Kind
    else (if length bytes == 4 + told_length bytes then closed frames (frame_at bytes)
    else Going frames bytes))

-- a stream goes on, byte by byte
unfoldable pub goes_on : Stream → List ℕ → Stream
goes_on stream [] = stream
goes_on (Failed fault) (b ∷ bs) = Failed fault
goes_on (Going frames bytes) (b ∷ bs) = goes_on (settled frames (bytes ++ b ∷ [])) bs

-- the stream of these bytes
abbrev pub stream_of : List ℕ → Stream
stream_of bytes = goes_on (Going [] []) bytes

-- how many bytes a frame under way is known to lack
unfoldable pub missing_of : List ℕ → ℕ
missing_of bytes = if nat_lt (length bytes) 4 then 4 - length bytes else 4 + told_length bytes - length bytes

-- ---- the front of a stream, whole

pub data Front : Type 0 where
  More : Front
  Bad : WireFault → Front
  Whole : Frame → ℕ → Front

abbrev pub whole : Option Frame → ℕ → Front
whole None n = Bad Payload
whole (Some f) n = Whole f n

unfoldable pub front_of : List ℕ → Front
front_of bytes =
    if nat_lt (length bytes) 4 then More
    else (if not (is_length (told_length bytes)) then Bad Length
    else (if nat_lt (length bytes) 13 then More
    else (if not (is_kind (slice_index bytes 12)) then Bad Kind
    else (if nat_lt (length bytes) (4 + told_length bytes) then More
    else whole (frame_at (take (4 + told_length bytes) bytes)) (4 + told_length bytes)))))

-- bytes of a frame that is not whole, without a fault
abbrev pub IsUnfinished : List ℕ → Type 0
IsUnfinished bytes = front_of bytes ≡ More

-- a function returned the fault, or memory ran out
abbrev pub FailsAs : {X : Type 0} → (WireFault → X) → WireFault → X → Type 0
FailsAs fails Length x = x ≡ fails Length
FailsAs fails Kind x = x ≡ fails Kind
FailsAs fails Payload x = x ≡ fails Payload
FailsAs fails Memory x = Unit {0}

abbrev pub GivesFront : Result (Option (Frame × ℕ)) WireFault → Front → Type 0
GivesFront (Ok None) front = front ≡ More
GivesFront (Ok (Some x)) front = front ≡ Whole x.0 x.1
GivesFront (Err fault) front = FailsAs Bad fault front

-- ---- what was fed

-- whole frames that weren't taken, and the bytes of the one under way
pub record Feeding : Type 0 where
  pub ready : List Frame
  pub under_way : List ℕ

abbrev pub nothing_fed : Feeding
nothing_fed = record { ready = []; under_way = [] }

abbrev pub as_stream : Feeding → Stream
as_stream f = Going f.ready f.under_way

-- the stream goes on
abbrev pub fed : Feeding → List ℕ → Stream
fed f piece = goes_on (as_stream f) piece

-- no whole frame, or one and no byte after it
abbrev pub HasOne : Feeding → Type 0
HasOne f = (f.ready ≡ []) ⊎ ((frame : Frame) × (f ≡ record { ready = frame ∷ []; under_way = [] }))

-- frames that have a spelling, and theirs in a row
abbrev pub AreFrames : List Frame → Type 0
AreFrames [] = Unit {0}
AreFrames (f ∷ fs) = FitsFrame f × (IsShort f × AreFrames fs)

unfoldable pub spelled_all : List Frame → List ℕ
spelled_all [] = []
spelled_all (f ∷ fs) = spelled f ++ spelled_all fs
