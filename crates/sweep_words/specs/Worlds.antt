-- Worlds by their words.
use Rattle.std.specs.Prelude.{ℕ, List, Option, Some, None, if◌then◌else◌, bytes_eq, codes}
use Rattle.sweep_rows.specs.declared.worlds.World.{World}
use Rattle.sweep_rows.specs.declared.worlds.World.TheVariants.{Full, Broken, ReadOnly, NoFiles, NoMemory}

unfoldable pub world_in : List ℕ → Option World
world_in text =
    if bytes_eq text (codes "full") then Some Full
    else (if bytes_eq text (codes "broken") then Some Broken
    else (if bytes_eq text (codes "read-only") then Some ReadOnly
    else (if bytes_eq text (codes "no-files") then Some NoFiles
    else (if bytes_eq text (codes "no-memory") then Some NoMemory else None))))
