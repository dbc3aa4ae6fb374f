-- What runs left, side by side.
use Rattle.std.specs.Prelude.{◌≡◌, ℕ, ◌==◌, Option, option_map, find}
use Rattle.lx_abi.specs.declared.outcome.Outcome.{Outcome}
use Rattle.sweep_rows.specs.declared.endings.Ending.{Ending}

-- the wait word of process 1
abbrev pub first_word : Outcome → Option ℕ
first_word o = option_map (λ e. e.word) (find (λ e. e.pid == 1) o.ended)

-- console and files are the same
pub record Leaves (a b : Outcome) : Type 0 where
  pub console : a.console ≡ b.console
  pub files : a.files ≡ b.files

-- process 1 ended so in both
abbrev pub EndsAs : Ending → Ending → Type 0
EndsAs r o = first_word r.outcome ≡ first_word o.outcome
