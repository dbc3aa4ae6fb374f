-- Streams that stand open in this process, by the names that they have as files, and what is opened for a path.
use Rattle.std.specs.Prelude.{◌≡◌, ℕ, List, Option, Some, None, ⊤, nat_eq, if◌then◌else◌, bytes_eq, codes, drop}
use Rattle.std.specs.List.{starts_with}
use Rattle.front_end.specs.Numbers.{decimal}
use Rattle.front_end.specs.declared.replacing.Target.{Target}
use Rattle.front_end.specs.declared.replacing.Target.TheVariants as target
use Rattle.front_end.specs.declared.streams.Opened.{Opened}
use Rattle.front_end.specs.declared.streams.Opened.TheVariants as opened

-- what stands behind the folder of a process's streams
abbrev pub digits_of : List ℕ → Option (List ℕ)
digits_of path =
    if starts_with nat_eq path (codes "/dev/fd/") then Some (drop 8 path)
    else (if starts_with nat_eq path (codes "/proc/self/fd/") then Some (drop 14 path) else None)

-- the number that they spell, where a stream can have it
abbrev pub numbered_by : Option (List ℕ) → Option ℕ
numbered_by None = None
numbered_by (Some digits) = decimal 2147483647 digits

unfoldable pub numbered : List ℕ → Option ℕ
numbered path = numbered_by (digits_of path)

-- the number of the stream that a path names
unfoldable pub stream_of : List ℕ → Option ℕ
stream_of path =
    if bytes_eq path (codes "/dev/stdin") then Some 0
    else (if bytes_eq path (codes "/dev/stdout") then Some 1
    else (if bytes_eq path (codes "/dev/stderr") then Some 2 else numbered path))

-- a stream is itself what is written to, whatever stands behind its name
abbrev pub IsTargetOf : Option ℕ → Target → Type 0
IsTargetOf (Some number) (target.File path part) = ⊥
IsTargetOf (Some number) (target.Device path) = ⊥
IsTargetOf (Some number) (target.Stream n) = n ≡ number
IsTargetOf None (target.File path part) = ⊤
IsTargetOf None (target.Device path) = ⊤
IsTargetOf None (target.Stream n) = ⊥

-- a stream is written where it stands, and what is no stream is opened by its path
abbrev pub IsOpenedFor : {F : Type 0} → Option ℕ → Opened F → Type 0
IsOpenedFor (Some number) (opened.File file) = ⊥
IsOpenedFor (Some number) (opened.Stream n) = n ≡ number
IsOpenedFor None (opened.File file) = ⊤
IsOpenedFor None (opened.Stream n) = ⊥

abbrev pub IsOpenedAt : {F : Type 0} → Target → Opened F → Type 0
IsOpenedAt (target.File path part) (opened.File file) = ⊤
IsOpenedAt (target.File path part) (opened.Stream n) = ⊥
IsOpenedAt (target.Device path) (opened.File file) = ⊤
IsOpenedAt (target.Device path) (opened.Stream n) = ⊥
IsOpenedAt (target.Stream number) (opened.File file) = ⊥
IsOpenedAt (target.Stream number) (opened.Stream n) = n ≡ number

-- what is known of what was written
abbrev pub opened_contents : {F : Type 0} → (F → Option (List ℕ)) → Opened F → Option (List ℕ)
opened_contents contents (opened.File file) = contents file
opened_contents contents (opened.Stream n) = None
