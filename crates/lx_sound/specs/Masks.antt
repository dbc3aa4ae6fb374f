-- Signals of a process within their bounds: 1 to 31, and SIGKILL and SIGSTOP are neither blocked nor handled.
use Rattle.std.specs.Prelude.{◌≡◌, ℕ, true, false, None}
use Rattle.lx_abi.specs.Signals.{is_signal}
use Rattle.lx_sig.specs.Sets.{has, blockable}
use Rattle.lx_sig.specs.Pending.{default, action_of, cause_of}
use Rattle.lx_sig.specs.declared.state.Signals.{Signals}

-- no other signals are in the set than 1 to 31 without SIGKILL and SIGSTOP
abbrev pub IsMask : ℕ → Type 0
IsMask set = (n : ℕ) → has set n ≡ true → has blockable n ≡ true

pub record AreSignals (g : Signals) : Type 0 where
  pub pending : (n : ℕ) → is_signal n ≡ false → cause_of g n ≡ None
  pub mask : IsMask g.mask
  -- what is blocked too while a handler runs
  pub masks : (n : ℕ) → IsMask (action_of g n).mask
  -- the actions of SIGKILL and SIGSTOP were never set
  pub kill : action_of g 9 ≡ default
  pub stop : action_of g 19 ≡ default
