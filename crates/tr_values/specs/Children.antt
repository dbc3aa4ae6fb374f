-- The arguments of clone(2), as strace(1) shows them.
use Rattle.std.specs.Prelude.{ℕ, ◌==◌, codes, if◌then◌else◌}
use Rattle.tr_values.specs.Sheets.{Sheet, Shown, put, ◌>>=◌}
use Rattle.tr_values.specs.Numbers.{hex, pointer}

unfoldable pub child_stack : ℕ → Sheet → Shown
child_stack address s = do
  s ← put (codes "child_stack=") s
  pointer address s

-- the signal at the child's end, SIGCHLD, and no flag; else hex
unfoldable pub clone_flags : ℕ → Sheet → Shown
clone_flags word s = do
  s ← put (codes "flags=") s
  if word == 17 then put (codes "SIGCHLD") s else hex word s
