-- Messages read from the front of bytes: each field is a value and the bytes after it.
use Rattle.std.specs.Prelude.{◌≡◌, ℕ, List, length, drop, slice_index, Option, Some, None, Result, Ok, Err, Bool, ◌&&◌, nat_lt, ◌==◌, if◌then◌else◌}
use Rattle.byteorder.specs.Endian.{big_number}
use Rattle.lx_abi.specs.declared.boot.Boot.{Boot}
use Rattle.lx_abi.specs.declared.boot.Limits.{Limits}
use Rattle.lx_abi.specs.declared.ptrace.Ask.{Ask}
use Rattle.lx_abi.specs.declared.ptrace.Ask.TheVariants.{Seize, SetOptions, GetRegs, SetRegs, Peek, Syscall, EventMsg, SigInfo, Listen}
use Rattle.lx_abi.specs.declared.ptrace.Request.{Request}
use Rattle.lx_abi.specs.declared.ptrace.Request.TheVariants.{Boot as Boot_with, Wait, To, Outcome as Ask_outcome}
use Rattle.lx_abi.specs.declared.ptrace.Reply.{Reply}
use Rattle.lx_abi.specs.declared.ptrace.Reply.TheVariants.{Done, Status as Status_is, Registers as Registers_are, Bytes as Bytes_are, Message as Message_is, Info as Info_is, Outcome as Outcome_is, Errno as Errno_is, OutOfTurns, Refused}
use Rattle.host_values.specs.Reading.{◌>>=◌, number_at, registers_at, text_at, items_at, guest_file_at, schedule_word_at, outcome_file_at, ended_at, paths_rise, pids_rise}
use Rattle.host_frame.specs.declared.frame.Payload.{Payload}
use Rattle.host_frame.specs.declared.frame.Payload.TheVariants.{Request as Of_request, Reply as Of_reply}
use Rattle.host_frame.specs.declared.frame.Frame.{Frame}
use Rattle.host_frame.specs.declared.fault.WireFault.{WireFault}
use Rattle.host_frame.specs.declared.fault.WireFault.TheVariants as fault

-- ---- a boot and an outcome

-- whether every process is a tracee
unfoldable pub follow_at : List ℕ → Option (Bool × List ℕ)
follow_at bytes = do
  follow ← number_at 1 bytes
  if nat_lt follow.0 2 then Some (follow.0 == 1, follow.1) else None

unfoldable pub limits_at : List ℕ → Option (Limits × List ℕ)
limits_at bytes = do
  live ← number_at 4 bytes
  last_pid ← number_at 4 live.1
  Some (record { live = live.0; last_pid = last_pid.0 }, last_pid.1)

-- those of a boot that doesn't say its limits
abbrev pub unsaid_limits : Limits
unsaid_limits = record { live = 64; last_pid = 255 }

-- version 1 doesn't say them, version 2 does
abbrev pub limits_by : ℕ → List ℕ → Option (Limits × List ℕ)
limits_by version bytes =
    if version == 1 then Some (unsaid_limits, bytes)
    else (if version == 2 then limits_at bytes
    else None)

unfoldable pub parts_at : Bool → Limits → List ℕ → Option (Boot × List ℕ)
parts_at follow limits bytes = do
  input ← text_at bytes
  argv ← items_at text_at input.1
  env ← items_at text_at argv.1
  files ← items_at guest_file_at env.1
  Some (
    record { limits = limits; files = files.0; argv = argv.0; env = env.0; input = input.0; follow = follow },
    files.1,
  )

-- what stands behind a boot's version
unfoldable pub boot_by : ℕ → List ℕ → Option (Request × List ℕ)
boot_by version bytes = do
  follow ← follow_at bytes
  limit ← number_at 8 follow.1
  limits ← limits_by version limit.1
  boot ← parts_at follow.0 limits.0 limits.1
  words ← items_at schedule_word_at boot.1
  Some (Boot_with boot.0 limit.0 words.0, words.1)

unfoldable pub boot_at : List ℕ → Option (Request × List ℕ)
boot_at bytes = do
  version ← number_at 1 bytes
  boot_by version.0 version.1

unfoldable pub outcome_at : List ℕ → Option (Reply × List ℕ)
outcome_at bytes = do
  console ← text_at bytes
  files ← items_at outcome_file_at console.1
  ended ← items_at ended_at files.1
  if paths_rise None files.0 && pids_rise None ended.0
      then Some (Outcome_is (record { console = console.0; files = files.0; ended = ended.0 }), ended.1)
      else None

-- ---- what is asked of one process

unfoldable pub seize_at : List ℕ → Option (Ask × List ℕ)
seize_at bytes = do
  options ← number_at 4 bytes
  Some (Seize options.0, options.1)

unfoldable pub set_options_at : List ℕ → Option (Ask × List ℕ)
set_options_at bytes = do
  options ← number_at 4 bytes
  Some (SetOptions options.0, options.1)

unfoldable pub set_regs_at : List ℕ → Option (Ask × List ℕ)
set_regs_at bytes = do
  registers ← registers_at bytes
  Some (SetRegs registers.0, registers.1)

unfoldable pub peek_at : List ℕ → Option (Ask × List ℕ)
peek_at bytes = do
  address ← number_at 8 bytes
  count ← number_at 4 address.1
  Some (Peek address.0 count.0, count.1)

unfoldable pub syscall_at : List ℕ → Option (Ask × List ℕ)
syscall_at bytes = do
  signal ← number_at 4 bytes
  Some (Syscall signal.0, signal.1)

abbrev pub ask_at : ℕ → List ℕ → Option (Ask × List ℕ)
ask_at kind bytes =
    if kind == 0x02 then seize_at bytes
    else (if kind == 0x03 then set_options_at bytes
    else (if kind == 0x05 then Some (GetRegs, bytes)
    else (if kind == 0x06 then set_regs_at bytes
    else (if kind == 0x07 then peek_at bytes
    else (if kind == 0x08 then syscall_at bytes
    else (if kind == 0x09 then Some (EventMsg, bytes)
    else (if kind == 0x0a then Some (SigInfo, bytes)
    else (if kind == 0x0d then Some (Listen, bytes)
    else None))))))))

unfoldable pub to_at : ℕ → List ℕ → Option (Request × List ℕ)
to_at kind bytes = do
  pid ← number_at 4 bytes
  ask ← ask_at kind pid.1
  Some (To pid.0 ask.0, ask.1)

abbrev pub request_at : ℕ → List ℕ → Option (Request × List ℕ)
request_at kind bytes =
    if kind == 0x01 then boot_at bytes
    else (if kind == 0x04 then Some (Wait, bytes)
    else (if kind == 0x0b then Some (Ask_outcome, bytes)
    else to_at kind bytes))

-- ---- replies

unfoldable pub status_at : List ℕ → Option (Reply × List ℕ)
status_at bytes = do
  pid ← number_at 4 bytes
  word ← number_at 4 pid.1
  Some (Status_is pid.0 (record { word = word.0 }), word.1)

unfoldable pub regs_at : List ℕ → Option (Reply × List ℕ)
regs_at bytes = do
  registers ← registers_at bytes
  Some (Registers_are registers.0, registers.1)

unfoldable pub bytes_at : List ℕ → Option (Reply × List ℕ)
bytes_at bytes = do
  text ← text_at bytes
  Some (Bytes_are text.0, text.1)

unfoldable pub message_at : List ℕ → Option (Reply × List ℕ)
message_at bytes = do
  pid ← number_at 8 bytes
  Some (Message_is pid.0, pid.1)

unfoldable pub info_at : List ℕ → Option (Reply × List ℕ)
info_at bytes = do
  signal ← number_at 4 bytes
  code ← number_at 4 signal.1
  pid ← number_at 4 code.1
  status ← number_at 4 pid.1
  address ← number_at 8 status.1
  Some (
    Info_is (record { signal = signal.0; code = code.0; pid = pid.0; status = status.0; address = address.0 }),
    address.1,
  )

unfoldable pub errno_at : List ℕ → Option (Reply × List ℕ)
errno_at bytes = do
  number ← number_at 4 bytes
  Some (Errno_is number.0, number.1)

unfoldable pub refused_at : List ℕ → Option (Reply × List ℕ)
refused_at bytes = do
  fault ← number_at 1 bytes
  Some (Refused fault.0, fault.1)

abbrev pub reply_at : ℕ → List ℕ → Option (Reply × List ℕ)
reply_at kind bytes =
    if kind == 0x81 then Some (Done, bytes)
    else (if kind == 0x82 then status_at bytes
    else (if kind == 0x83 then regs_at bytes
    else (if kind == 0x84 then bytes_at bytes
    else (if kind == 0x85 then message_at bytes
    else (if kind == 0x86 then info_at bytes
    else (if kind == 0x87 then outcome_at bytes
    else (if kind == 0x88 then errno_at bytes
    else (if kind == 0x89 then Some (OutOfTurns, bytes)
    else (if kind == 0x8a then refused_at bytes
    else None)))))))))

-- ---- bodies and frames

-- nothing is left over
abbrev pub ended : Payload × List ℕ → Option Payload
ended x = if length x.1 == 0 then Some x.0 else None

-- a request or a reply, by its kind
unfoldable pub body_at : ℕ → List ℕ → Option Payload
body_at kind bytes =
    if nat_lt kind 0x80 then (request_at kind bytes >>= λ x. ended (Of_request x.0, x.1))
    else (reply_at kind bytes >>= λ x. ended (Of_reply x.0, x.1))

-- the length that a frame tells, of what stands behind it
abbrev pub told_length : List ℕ → ℕ
told_length bytes = big_number 4 bytes

-- the frame that all of the bytes spell: a length, a number, a kind, a body
unfoldable pub frame_at : List ℕ → Option Frame
frame_at bytes = do
  body ← body_at (slice_index bytes 12) (drop 13 bytes)
  Some (record { number = big_number 8 (drop 4 bytes); body = body })

-- what a function returned of a frame's bytes
abbrev pub Decodes : Result Frame WireFault → Option Frame → Type 0
Decodes (Ok f) read = read ≡ Some f
Decodes (Err fault.Payload) read = read ≡ None
Decodes (Err fault.Memory) read = Unit {0}
Decodes (Err fault.Length) read = ⊥
Decodes (Err fault.Kind) read = ⊥
