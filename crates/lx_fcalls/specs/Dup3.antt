-- dup3(old, new, flags): dup(2). What new names is closed first.
use Rattle.std.specs.Prelude.{ℕ, ◌==◌, not, nat_lt, Bool}
use Rattle.lx_abi.specs.Errnos.{ebadf, einval}
use Rattle.lx_abi.specs.declared.log.Call.{Call}
use Rattle.lx_abi.specs.Limits.{most_fds}
use Rattle.lx_model.specs.Machine.{Returns}
use Rattle.lx_open.specs.Opens.{description, with_slot}
use Rattle.lx_open.specs.Releases.{Held, closed}
use Rattle.lx_open.specs.Opens as opens
use Rattle.lx_proc.specs.Answers.{Answers, argument, low_argument, unless, given}
use Rattle.lx_proc.specs.declared.state.UserState.{UserState}
use Rattle.lx_proc.specs.declared.state.Shared.{Shared}
use Rattle.lx_fcalls.specs.Flags.{is_within, has, o_cloexec}

-- new names the description, once it was closed
abbrev pub renamed : Shared → ℕ → ℕ → ℕ → Bool → Held → Shared
renamed s p fd description closes h = record s {
  tree = h.tree;
  fds = with_slot h.fds p fd (record { description = description; closes_on_exec = closes });
}

unfoldable pub dup3 : Shared → ℕ → Call → UserState → Answers
dup3 s p call b =
    let old = low_argument call 0 in
    let new = low_argument call 1 in
    let flags = argument call 2 in
    unless (is_within flags o_cloexec) einval
    (given (opens.slot s.fds p old) ebadf (λ named.
    unless (nat_lt new most_fds) ebadf
    (unless (not (old == new)) einval
    (Returns (renamed s p new named.description (has flags o_cloexec) (closed s.tree s.fds p new)) b new))))
