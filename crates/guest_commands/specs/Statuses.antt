-- The exit status of a run.
use Rattle.std.specs.Prelude.{ℕ, ◌-◌, ◌==◌, Bool, List, [], ◌∷◌, cond}
use Rattle.std.specs.List.{list_any, range_with_len}
use Rattle.lx_abi.specs.Modes.{lives_in}
use Rattle.lx_abi.specs.Status.{shell_status_of}
use Rattle.lx_abi.specs.declared.outcome.Ended.{Ended}
use Rattle.lx_kernel.specs.Runs.{Run, mode_in}
use Rattle.lx_proc.specs.WaitWords.{ends_of}

-- some process is before its end
unfoldable pub is_alive : Run → Bool
is_alive k = list_any (λ p. lives_in (mode_in k p)) (range_with_len 1 (k.running.child - 1))

-- what a shell shows of process 1, by the processes that have ended; 4 where it has not
abbrev pub first_status : List Ended → ℕ
first_status [] = 4
first_status (e ∷ es) = cond (e.pid == 1) (shell_status_of e.word) 4

-- 4 where turns ended with a process alive
abbrev pub status_in : Run → ℕ
status_in k = cond (is_alive k) 4 (first_status (ends_of k.running.shared.ended))
