-- The one spelling of each frame: a length, a number, a kind, a body.
use Rattle.std.specs.Prelude.{◌≡◌, ℕ, ◌^◌, ◌<◌, ◌≤◌, ◌⊎◌, Bool, List, [], ◌++◌, length, cond, Some, None, true, ◌&&◌}
use Rattle.lx_abi.specs.declared.boot.Boot.{Boot}
use Rattle.lx_abi.specs.declared.boot.Limits.{Limits}
use Rattle.lx_abi.specs.declared.outcome.Outcome.{Outcome}
use Rattle.lx_abi.specs.declared.ptrace.Info.{Info}
use Rattle.lx_abi.specs.declared.schedule.Word.{Word}
use Rattle.lx_abi.specs.declared.ptrace.Ask.{Ask}
use Rattle.lx_abi.specs.declared.ptrace.Ask.TheVariants.{Seize, SetOptions, GetRegs, SetRegs, Peek, Syscall, EventMsg, SigInfo, Listen}
use Rattle.lx_abi.specs.declared.ptrace.Request.{Request}
use Rattle.lx_abi.specs.declared.ptrace.Request.TheVariants.{Boot as Boot_with, Wait, To, Outcome as Ask_outcome}
use Rattle.lx_abi.specs.declared.ptrace.Reply.{Reply}
use Rattle.lx_abi.specs.declared.ptrace.Reply.TheVariants.{Done, Status as Status_is, Registers as Registers_are, Bytes as Bytes_are, Message as Message_is, Info as Info_is, Outcome as Outcome_is, Errno as Errno_is, OutOfTurns, Refused}
use Rattle.std.specs.List.{AllByRecursion}
use Rattle.host_values.specs.Reading.{paths_rise, pids_rise}
use Rattle.host_values.specs.Spelling.{byte, word, double, registers, text, items, guest_file, schedule_word, outcome_file, ended, AreRegisters, FitsText, FitItems, FitsGuestFile, FitsWord, FitsOutcomeFile, FitsEnded}
use Rattle.host_frame.specs.declared.fault.WireFault.{WireFault}
use Rattle.host_frame.specs.declared.fault.WireFault.TheVariants.{Length, Kind, Payload as Body_fault, Memory}
use Rattle.host_frame.specs.declared.frame.Payload.{Payload}
use Rattle.host_frame.specs.declared.frame.Payload.TheVariants.{Request as Of_request, Reply as Of_reply}
use Rattle.host_frame.specs.declared.frame.Frame.{Frame}
use Rattle.host_frame.specs.Reading.{frame_at, unsaid_limits}

-- ---- parts of a boot

abbrev pub flag : Bool → ℕ
flag b = cond b 1 0

-- a version, follow, a limit
unfoldable pub head : Bool → ℕ → List ℕ
head follow limit = byte 2 ++ byte (flag follow) ++ double limit

abbrev pub limits : Limits → List ℕ
limits l = word l.live ++ word l.last_pid

unfoldable pub parts : Boot → List ℕ
parts b = text b.input ++ items text b.argv ++ items text b.env ++ items guest_file b.files

abbrev pub boot : Boot → ℕ → List Word → List ℕ
boot b limit words = head b.follow limit ++ limits b.limits ++ parts b ++ items schedule_word words

-- as version 1 spelled it, which had no limits of processes: it is read, and not written
abbrev pub boot_without_limits : Boot → ℕ → List Word → List ℕ
boot_without_limits b limit words =
    byte 1 ++ byte (flag b.follow) ++ double limit ++ parts b ++ items schedule_word words

-- ---- a line a kind: the kind and the body

abbrev pub ask_message : Ask → ℕ × List ℕ
ask_message (Seize options) = (0x02, word options)
ask_message (SetOptions options) = (0x03, word options)
ask_message GetRegs = (0x05, [])
ask_message (SetRegs rs) = (0x06, registers rs)
ask_message (Peek address count) = (0x07, double address ++ word count)
ask_message (Syscall signal) = (0x08, word signal)
ask_message EventMsg = (0x09, [])
ask_message SigInfo = (0x0a, [])
ask_message Listen = (0x0d, [])

abbrev pub request_message : Request → ℕ × List ℕ
request_message (Boot_with b limit words) =
    (0x01, boot b limit words)
request_message (To pid ask) = ((ask_message ask).0, word pid ++ (ask_message ask).1)
request_message Wait = (0x04, [])
request_message Ask_outcome = (0x0b, [])

abbrev pub reply_message : Reply → ℕ × List ℕ
reply_message Done = (0x81, [])
reply_message (Status_is pid status) = (0x82, word pid ++ word status.word)
reply_message (Registers_are rs) = (0x83, registers rs)
reply_message (Bytes_are bytes) = (0x84, text bytes)
reply_message (Message_is pid) = (0x85, double pid)
reply_message (Info_is i) = (0x86, word i.signal ++ word i.code ++ word i.pid ++ word i.status ++ double i.address)
reply_message (Outcome_is o) = (0x87, text o.console ++ items outcome_file o.files ++ items ended o.ended)
reply_message (Errno_is number) = (0x88, word number)
reply_message OutOfTurns = (0x89, [])
reply_message (Refused fault) = (0x8a, byte fault)

abbrev pub message : Payload → ℕ × List ℕ
message (Of_request r) = request_message r
message (Of_reply r) = reply_message r

-- ---- what has a spelling

abbrev pub FitsAsk : Ask → Type 0
FitsAsk (Seize options) = options < 256 ^ 4
FitsAsk (SetOptions options) = options < 256 ^ 4
FitsAsk GetRegs = Unit {0}
FitsAsk (SetRegs rs) = AreRegisters rs
FitsAsk (Peek address count) = (address < 256 ^ 8) × (count < 256 ^ 4)
FitsAsk (Syscall signal) = signal < 256 ^ 4
FitsAsk EventMsg = Unit {0}
FitsAsk SigInfo = Unit {0}
FitsAsk Listen = Unit {0}

abbrev pub FitsLimits : Limits → Type 0
FitsLimits l = (l.live < 256 ^ 4) × (l.last_pid < 256 ^ 4)

abbrev pub FitsParts : Boot → Type 0
FitsParts b = FitsText b.input × (FitItems FitsText b.argv × (FitItems FitsText b.env × FitItems FitsGuestFile b.files))

abbrev pub FitsBoot : Boot → Type 0
FitsBoot b = FitsLimits b.limits × FitsParts b

abbrev pub FitsRequest : Request → Type 0
FitsRequest (Boot_with b limit words) = (limit < 256 ^ 8) × (FitsBoot b × FitItems FitsWord words)
FitsRequest (To pid ask) = (pid < 256 ^ 4) × FitsAsk ask
FitsRequest Wait = Unit {0}
FitsRequest Ask_outcome = Unit {0}

-- its paths rise, and its pids
abbrev pub IsInOrder : Outcome → Type 0
IsInOrder o = (paths_rise None o.files && pids_rise None o.ended) ≡ true

abbrev pub FitsOutcome : Outcome → Type 0
FitsOutcome o = FitsText o.console × (FitItems FitsOutcomeFile o.files × (FitItems FitsEnded o.ended × IsInOrder o))

abbrev pub FitsInfo : Info → Type 0
FitsInfo i = (i.signal < 256 ^ 4) × ((i.code < 256 ^ 4) × ((i.pid < 256 ^ 4)
    × ((i.status < 256 ^ 4) × (i.address < 256 ^ 8))))

abbrev pub FitsReply : Reply → Type 0
FitsReply Done = Unit {0}
FitsReply (Status_is pid status) = (pid < 256 ^ 4) × (status.word < 256 ^ 4)
FitsReply (Registers_are rs) = AreRegisters rs
FitsReply (Bytes_are bytes) = FitsText bytes
FitsReply (Message_is pid) = pid < 256 ^ 8
FitsReply (Info_is i) = FitsInfo i
FitsReply (Outcome_is o) = FitsOutcome o
FitsReply (Errno_is number) = number < 256 ^ 4
FitsReply OutOfTurns = Unit {0}
FitsReply (Refused fault) = fault < 256 ^ 1

abbrev pub FitsMessage : Payload → Type 0
FitsMessage (Of_request q) = FitsRequest q
FitsMessage (Of_reply r) = FitsReply r

abbrev pub FitsFrame : Frame → Type 0
FitsFrame f = (f.number < 256 ^ 8) × FitsMessage f.body

-- ---- numbers of their widths, which the types of code give; how long the lists may be is said by `IsShort`

abbrev pub HasRequestNumbers : Request → Type 0
HasRequestNumbers (Boot_with b limit words) =
    (limit < 256 ^ 8) × (FitsLimits b.limits × AllByRecursion FitsWord words)
HasRequestNumbers (To pid ask) = (pid < 256 ^ 4) × FitsAsk ask
HasRequestNumbers Wait = Unit {0}
HasRequestNumbers Ask_outcome = Unit {0}

abbrev pub HasReplyNumbers : Reply → Type 0
HasReplyNumbers Done = Unit {0}
HasReplyNumbers (Status_is pid status) = (pid < 256 ^ 4) × (status.word < 256 ^ 4)
HasReplyNumbers (Registers_are rs) = AreRegisters rs
HasReplyNumbers (Bytes_are bytes) = Unit {0}
HasReplyNumbers (Message_is pid) = pid < 256 ^ 8
HasReplyNumbers (Info_is i) = FitsInfo i
HasReplyNumbers (Outcome_is o) = AllByRecursion FitsEnded o.ended
HasReplyNumbers (Errno_is number) = number < 256 ^ 4
HasReplyNumbers OutOfTurns = Unit {0}
HasReplyNumbers (Refused fault) = fault < 256 ^ 1

abbrev pub HasMessageNumbers : Payload → Type 0
HasMessageNumbers (Of_request q) = HasRequestNumbers q
HasMessageNumbers (Of_reply r) = HasReplyNumbers r

abbrev pub HasNumbers : Frame → Type 0
HasNumbers f = (f.number < 256 ^ 8) × HasMessageNumbers f.body

-- an outcome's lists are in order
abbrev pub HasOrder : Payload → Type 0
HasOrder (Of_reply (Outcome_is o)) = IsInOrder o
HasOrder _ = Unit {0}

-- ---- frames

-- what stands behind the length: a number, and a message's kind and body
abbrev pub numbered : ℕ → ℕ × List ℕ → List ℕ
numbered number m = double number ++ byte m.0 ++ m.1

abbrev pub framed : ℕ → ℕ × List ℕ → List ℕ
framed number m = word (length (numbered number m)) ++ numbered number m

abbrev pub content : Frame → List ℕ
content f = numbered f.number (message f.body)

unfoldable pub spelled : Frame → List ℕ
spelled f = framed f.number (message f.body)

-- the bytes are those of a boot's frame without limits, and the boot has the limits that this means
pub record SpellsUnsaid (bytes : List ℕ) (f : Frame) : Type 0 where
  pub booted : Boot
  pub limit : ℕ
  pub words : List Word
  pub is : f.body ≡ Of_request (Boot_with booted limit words)
  pub unsaid : booted.limits ≡ unsaid_limits
  pub spelling : bytes ≡ framed f.number (0x01, boot_without_limits booted limit words)

-- the frame's own spelling, or a second one
abbrev pub Spells : List ℕ → Frame → Type 0
Spells bytes f = (bytes ≡ spelled f) ⊎ SpellsUnsaid bytes f

-- the length is in range
abbrev pub IsShort : Frame → Type 0
IsShort f = length (content f) ≤ 134217728

-- it is no longer than the limit, and its numbers are of their widths
abbrev pub CanBeSpelled : Frame → Type 0
CanBeSpelled f = IsShort f × HasNumbers f

-- its spelling is read as the frame; that of an outcome out of order isn't read
abbrev pub ReadsBack : Frame → Type 0
ReadsBack f =
    (HasOrder f.body × (frame_at (spelled f) ≡ Some f)) ⊎ ((HasOrder f.body → ⊥) × (frame_at (spelled f) ≡ None))

abbrev pub CannotBeSpelled : Frame → WireFault → Type 0
CannotBeSpelled f Length = 134217728 < length (content f)
CannotBeSpelled f Memory = Unit {0}
CannotBeSpelled f Kind = ⊥
CannotBeSpelled f Body_fault = ⊥

abbrev pub reply_frame : ℕ → Reply → Frame
reply_frame number reply = record { number = number; body = Of_reply reply }
