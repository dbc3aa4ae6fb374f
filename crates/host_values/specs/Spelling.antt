-- The one spelling of each value.
use Rattle.std.specs.Prelude.{◌≡◌, ℕ, ◌^◌, ◌<◌, List, [], ◌++◌, length}
use Rattle.std.specs.List.{flat_map, AllByRecursion}
use Rattle.byteorder.specs.Endian.{big_bytes, little_bytes}
use Rattle.lx_abi.specs.declared.boot.GuestFile.{GuestFile}
use Rattle.lx_abi.specs.declared.outcome.Node.{Node}
use Rattle.lx_abi.specs.declared.outcome.Node.TheVariants.{File, Directory}
use Rattle.lx_abi.specs.declared.outcome.OutcomeFile.{OutcomeFile}
use Rattle.lx_abi.specs.declared.outcome.Ended.{Ended}
use Rattle.lx_abi.specs.declared.schedule.Word.{Word}
use Rattle.lx_abi.specs.declared.schedule.Word.TheVariants.{Turn, TurnAlone, Serve, UntilReturn}

-- ---- fields

abbrev pub byte : ℕ → List ℕ
byte n = big_bytes 1 n

abbrev pub word : ℕ → List ℕ
word n = big_bytes 4 n

abbrev pub double : ℕ → List ℕ
double n = big_bytes 8 n

-- pc and x1 to x31, the lowest byte first
abbrev pub registers : List ℕ → List ℕ
registers rs = flat_map (little_bytes 8) rs

-- a length of 4 bytes, and that many bytes
unfoldable pub text : List ℕ → List ℕ
text bytes = word (length bytes) ++ bytes

-- a count of 4 bytes, and that many items
unfoldable pub items : {X : Type 0} → (X → List ℕ) → List X → List ℕ
items spell xs = word (length xs) ++ flat_map spell xs

-- ---- items of lists

abbrev pub guest_file : GuestFile → List ℕ
guest_file f = text f.path ++ text f.content

abbrev pub schedule_word : Word → List ℕ
schedule_word (Turn p) = byte 1 ++ word p
schedule_word (TurnAlone p) = byte 2 ++ word p
schedule_word Serve = byte 3 ++ word 0
schedule_word (UntilReturn p) = byte 4 ++ word p

abbrev pub node : Node → List ℕ
node (File content) = byte 1 ++ text content
node Directory = byte 2 ++ text []

abbrev pub outcome_file : OutcomeFile → List ℕ
outcome_file f = text f.path ++ node f.node

abbrev pub ended : Ended → List ℕ
ended e = word e.pid ++ word e.word

-- ---- what has a spelling: numbers of their widths, 32 registers

abbrev pub AreRegisters : List ℕ → Type 0
AreRegisters rs = (length rs ≡ 32) × AllByRecursion (λ r. r < 256 ^ 8) rs

abbrev pub FitsText : List ℕ → Type 0
FitsText t = length t < 256 ^ 4

abbrev pub FitItems : {X : Type 0} → (X → Type 0) → List X → Type 0
FitItems Fits xs = (length xs < 256 ^ 4) × AllByRecursion Fits xs

abbrev pub FitsGuestFile : GuestFile → Type 0
FitsGuestFile f = FitsText f.path × FitsText f.content

abbrev pub FitsWord : Word → Type 0
FitsWord (Turn p) = p < 256 ^ 4
FitsWord (TurnAlone p) = p < 256 ^ 4
FitsWord Serve = Unit {0}
FitsWord (UntilReturn p) = p < 256 ^ 4

abbrev pub FitsNode : Node → Type 0
FitsNode (File content) = FitsText content
FitsNode Directory = Unit {0}

abbrev pub FitsOutcomeFile : OutcomeFile → Type 0
FitsOutcomeFile f = FitsText f.path × FitsNode f.node

abbrev pub FitsEnded : Ended → Type 0
FitsEnded e = (e.pid < 256 ^ 4) × (e.word < 256 ^ 4)
