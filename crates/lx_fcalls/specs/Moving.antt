-- Space for the bytes that calls move.
use Rattle.std.specs.Prelude.{ℕ, ◌+◌, ◌-◌, nat_le, Bool, length}
use Rattle.lx_abi.specs.Limits.{most_contents}
use Rattle.lx_files.specs.Trees.{contents}
use Rattle.lx_proc.specs.declared.state.Shared.{Shared}

-- contents and console
abbrev pub all_bytes : Shared → ℕ
all_bytes s = contents s.tree + length s.console

-- there is space for so many bytes in place of so many
abbrev pub has_space : Shared → ℕ → ℕ → Bool
has_space s old new = nat_le (all_bytes s - old + new) most_contents
