-- What a host that fails on purpose writes for its replies, which are counted from 1.
use Rattle.std.specs.Prelude.{ℕ, ◌==◌, Bool, true, false, List, [], ◌++◌, Option, find, length, take, drop, cond}
use Rattle.std.specs.Prelude.{nat_le, nat_lt, if◌then◌else◌}
use Rattle.byteorder.specs.Endian.{big_bytes}
use Rattle.guest_commands.specs.declared.drills.Drill.{Drill}
use Rattle.guest_commands.specs.declared.drills.Drill.TheVariants.{Cut, Renumber, Replace}
use Rattle.guest_commands.specs.declared.drills.Drilled.{Drilled}

-- the reply that a drill is about
abbrev pub reply_of : Drill → ℕ
reply_of (Cut reply size) = reply
reply_of (Renumber reply number) = reply
reply_of (Replace reply frame) = reply

-- the first drill about the nth reply
abbrev pub drill_of : List Drill → ℕ → Option Drill
drill_of drills n = find (λ d. reply_of d == n) drills

-- a frame's number stands behind the four bytes of its length
abbrev pub renumbered : List ℕ → ℕ → List ℕ
renumbered frame number = take 4 frame ++ (big_bytes 8 number ++ drop 12 frame)

-- a frame of so many bytes would be cut behind its end
abbrev pub is_unfit : Drill → ℕ → Bool
is_unfit (Cut reply size) n = nat_le n size
is_unfit _ n = false

-- what is written for a reply: nothing where its frame would be cut behind its end
abbrev pub spoiled : Drill → List ℕ → List ℕ
spoiled (Cut reply size) frame = if nat_lt size (length frame) then take size frame else []
spoiled (Renumber reply number) frame = renumbered frame number
spoiled (Replace reply other) frame = other.items

-- the host ends after the reply
abbrev pub is_last : Drill → Bool
is_last (Cut reply size) = true
is_last _ = false

abbrev pub faults_of : {S : Type 0} → Drilled S → ℕ
faults_of d = cond d.is_stopped 1 0

abbrev pub puts_of : {S : Type 0} → Drilled S → List ℕ
puts_of d = d.puts.items
