-- What the calls of signals have in common. The order of a call's checks is that of its lines.
use Rattle.std.specs.Prelude.{◌≡◌, ℕ, ◌^◌, ◌%◌, ◌==◌, ◌&&◌, Bool, not, List, length, is_some, if◌then◌else◌, slice_index}
use Rattle.std.specs.declared.result.Result.{Result}
use Rattle.std.specs.declared.result.Result.TheVariants.{Ok, Err}
use Rattle.rv_mem.specs.Memory.{Memory, first_fault, written}
use Rattle.rv_mem.specs.declared.rights.Access.TheVariants as access
use Rattle.lx_abi.specs.declared.errno.Errno.{Errno}
use Rattle.lx_abi.specs.declared.log.Call.{Call}
use Rattle.lx_abi.specs.Errnos.{efault}
use Rattle.lx_sig.specs.Pending.{Signals}

abbrev pub argument : Call → ℕ → ℕ
argument call n = slice_index call.arguments n

-- the low 32 bits of an argument
abbrev pub low_argument : Call → ℕ → ℕ
low_argument call n = argument call n % 2 ^ 32

-- a call of signals leaves these, and its result is 0
pub record Changed : Type 0 where
  pub signals : Signals
  pub memory : Memory

-- or it is refused with the number of an error
abbrev pub Outcome : Type 0
Outcome = Result Changed ℕ

-- what is read of the caller's can't be; there is nothing at a null pointer
abbrev pub is_unreadable : Memory → ℕ → ℕ → Bool
is_unreadable m a n = not (a == 0) && is_some (first_fault access.Read m a n)

-- the memory once bytes are written at a place of the caller's, where it isn't null
abbrev pub given : Memory → ℕ → List ℕ → Result Memory ℕ
given m a bytes =
    if a == 0 then Ok m
    else if is_some (first_fault access.Write m a (length bytes)) then Err efault
    else Ok (written m a bytes)

-- a result is given last: where it can't be, nothing is changed
abbrev pub leaves : Result Memory ℕ → Signals → Outcome
leaves (Err error) g = Err error
leaves (Ok m) g = Ok (record { signals = g; memory = m })

-- What code answers, beside what it leaves in the parts that it is lent.

abbrev pub given_as : Result (Unit {0}) Errno → Memory → Result Memory ℕ
given_as (Err e) m = Err e.number
given_as (Ok u) m = Ok m

abbrev pub outcome : Result (Unit {0}) Errno → Signals → Memory → Outcome
outcome r g m = leaves (given_as r m) g

-- a refusal leaves the part
abbrev pub Keeps : {A : Type 0} → Result (Unit {0}) Errno → A → A → Type 0
Keeps (Err e) old new = new ≡ old
Keeps (Ok u) old new = Unit {0}
