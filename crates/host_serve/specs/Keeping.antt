-- What is kept back of the replies, and what has come of the requests.
use Rattle.std.specs.Prelude.{◌≡◌, ◌⊎◌, ℕ, ◌-◌, Bool, true, false, List, [], length, nat_le, nat_lt, if◌then◌else◌}
use Rattle.host_frame.specs.Reading.{told_length}

-- the bytes begin with a whole frame: the length of what follows it, and so many bytes
unfoldable pub begins_whole : List ℕ → Bool
begins_whole bytes = if nat_lt (length bytes) 4 then false else nat_le (told_length bytes) (length bytes - 4)

-- nobody waits for a reply that is kept back: none is, or the next request has come whole
abbrev pub IsOut : List ℕ → List ℕ → Type 0
IsOut kept ahead = (kept ≡ []) ⊎ (begins_whole ahead ≡ true)
