-- What a call means. The order of its checks is that of the lines of its definition.
use Rattle.std.specs.Prelude.{◌≡◌, ℕ, Bool, true, false, List, Option, Some, None, is_some, if◌then◌else◌, length}
use Rattle.std.specs.declared.result.Result.{Result}
use Rattle.std.specs.declared.result.Result.TheVariants.{Ok, Err}
use Rattle.std.specs.FinMap as maps
use Rattle.lx_abi.specs.declared.log.Call.{Call}
use Rattle.lx_abi.specs.Errnos.{esrch, efault}
use Rattle.lx_model.specs.Machine.{Answer, Refused, Returns, Jumps, Execs, Bears, Blocks, Ends}
use Rattle.rv_mem.specs.Memory.{first_fault, written}
use Rattle.rv_mem.specs.declared.rights.Access.TheVariants as access
pub use Rattle.lx_sig.specs.Calls.{argument, low_argument}
use Rattle.lx_proc.specs.State.{Shared, Entry, UserState, with_memory}
use Rattle.lx_proc.specs.declared.reply.CallReply.{CallReply}
use Rattle.lx_proc.specs.declared.reply.CallReply.TheVariants as reply

abbrev pub Answers : Type 0
Answers = Answer Shared UserState

-- A call's reply, beside what it left in the two parts that it was lent.

abbrev pub answer_of : CallReply → Shared → UserState → Answers
answer_of (reply.Refused e) s b = Refused e.number
answer_of (reply.Returned x) s b = Returns s b x
answer_of reply.Jumped s b = Jumps s b
answer_of reply.Execed s b = Execs s b
answer_of (reply.Bore child) s b = Bears s b child.value
answer_of reply.Blocked s b = Blocks
answer_of (reply.Ended w) s b = Ends w

-- a refusal, a call that blocks and an end leave both parts
abbrev pub Kept : CallReply → Shared → UserState → Shared → UserState → Type 0
Kept (reply.Refused e) s b s' b' = (s' ≡ s) × (b' ≡ b)
Kept (reply.Returned x) s b s' b' = Unit {0}
Kept reply.Jumped s b s' b' = Unit {0}
Kept reply.Execed s b s' b' = Unit {0}
Kept (reply.Bore child) s b s' b' = Unit {0}
Kept reply.Blocked s b s' b' = (s' ≡ s) × (b' ≡ b)
Kept (reply.Ended w) s b s' b' = (s' ≡ s) × (b' ≡ b)

-- the same of a call that may be another crate's
abbrev pub answered : Option CallReply → Shared → UserState → Option Answers
answered None s b = None
answered (Some r) s b = Some (answer_of r s b)

abbrev pub KeptIf : Option CallReply → Shared → UserState → Shared → UserState → Type 0
KeptIf None s b s' b' = (s' ≡ s) × (b' ≡ b)
KeptIf (Some r) s b s' b' = Kept r s b s' b'

abbrev pub is_blocked : Answers → Bool
is_blocked (Refused e) = false
is_blocked (Returns s b x) = false
is_blocked (Jumps s b) = false
is_blocked (Execs s b) = false
is_blocked (Bears s b child) = false
is_blocked Blocks = true
is_blocked (Ends w) = false

-- Checks.

-- refuses unless the test is true
abbrev pub unless : Bool → ℕ → Answers → Answers
unless holds error answer = if holds then answer else Refused error

-- refuses where there is none
abbrev pub given : {A : Type 0} → Option A → ℕ → (A → Answers) → Answers
given None error answer = Refused error
given (Some x) error answer = answer x

-- refuses as that was refused
abbrev pub granted : {A : Type 0} → Result A ℕ → (A → Answers) → Answers
granted (Err error) answer = Refused error
granted (Ok x) answer = answer x

-- as the caller's entry has it; each caller has one
abbrev pub at_entry : Shared → ℕ → (Entry → Answers) → Answers
at_entry s p answer = given (maps.get s.entries p) esrch answer

-- these bytes at a place of the caller's, and the result
abbrev pub gives : Shared → UserState → ℕ → List ℕ → ℕ → Answers
gives s b at bytes result =
    if is_some (first_fault access.Write b.memory at (length bytes)) then Refused efault
    else Returns s (with_memory b (written b.memory at bytes)) result
