-- Values read from the front of bytes: each is a value and the bytes after it.
use Rattle.std.specs.Prelude.{◌≡◌, ℕ, zero, suc, List, [], ◌∷◌, length, take, drop, slice_index, Option, Some, None, Result, Ok, Err, Bool, true, not, ◌&&◌, nat_lt, ◌==◌, if◌then◌else◌}
use Rattle.std.specs.Ordering.{is_lt, nat_cmp}
use Rattle.std.specs.Cmp.Lexicographic.{slice_cmp}
use Rattle.byteorder.specs.Endian.{big_number, little_number}
use Rattle.lx_abi.specs.declared.boot.GuestFile.{GuestFile}
use Rattle.lx_abi.specs.declared.outcome.Node.{Node}
use Rattle.lx_abi.specs.declared.outcome.Node.TheVariants.{File, Directory}
use Rattle.lx_abi.specs.declared.outcome.OutcomeFile.{OutcomeFile}
use Rattle.lx_abi.specs.declared.outcome.Ended.{Ended}
use Rattle.lx_abi.specs.declared.schedule.Word.{Word}
use Rattle.lx_abi.specs.declared.schedule.Word.TheVariants.{Turn, TurnAlone, Serve, UntilReturn}
use Rattle.host_values.specs.declared.fault.Bad.{Bad}
use Rattle.host_values.specs.declared.fault.Bad.TheVariants as bad

infixl 10 ◌>>=◌
abbrev pub ◌>>=◌ : {A B : Type 0} → Option A → (A → Option B) → Option B
(Some x) >>= f = f x
None >>= f = None

-- What a function returned is what reading gives, unless memory ran out.
abbrev pub Fails : {Y : Type 0} → Bad → Option Y → Type 0
Fails bad.Memory read = Unit {0}
Fails bad.Payload read = read ≡ None

abbrev pub Gives : {X Y : Type 0} → (X → Y) → Result X Bad → Option Y → Type 0
Gives view (Ok x) read = read ≡ Some (view x)
Gives view (Err e) read = Fails e read

-- ---- fields

-- a number of n bytes
abbrev pub number_at : ℕ → List ℕ → Option (ℕ × List ℕ)
number_at n bytes = if nat_lt (length bytes) n then None else Some (big_number n bytes, drop n bytes)

-- n numbers of 8 bytes, the lowest byte first
abbrev pub doubles : ℕ → List ℕ → List ℕ
doubles zero bytes = []
doubles (suc n) bytes = little_number 8 bytes ∷ doubles n (drop 8 bytes)

-- pc and x1 to x31
unfoldable pub registers_at : List ℕ → Option (List ℕ × List ℕ)
registers_at bytes = if nat_lt (length bytes) 256 then None else Some (doubles 32 bytes, drop 256 bytes)

-- a length of 4 bytes, and that many bytes
unfoldable pub text_at : List ℕ → Option (List ℕ × List ℕ)
text_at bytes = do
  n ← number_at 4 bytes
  if nat_lt (length n.1) n.0 then None else Some (take n.0 n.1, drop n.0 n.1)

-- ---- lists

-- n values, one after the other
abbrev pub each_at : {X : Type 0} → (List ℕ → Option (X × List ℕ)) → ℕ → List ℕ → Option (List X × List ℕ)
each_at reads zero bytes = Some ([], bytes)
each_at reads (suc n) bytes = do
  x ← reads bytes
  xs ← each_at reads n x.1
  Some (x.0 ∷ xs.0, xs.1)

-- a count of 4 bytes, and that many values
unfoldable pub items_at : {X : Type 0} → (List ℕ → Option (X × List ℕ)) → List ℕ → Option (List X × List ℕ)
items_at reads bytes = do
  n ← number_at 4 bytes
  each_at reads n.0 n.1

-- a path and a content
unfoldable pub guest_file_at : List ℕ → Option (GuestFile × List ℕ)
guest_file_at bytes = do
  path ← text_at bytes
  content ← text_at path.1
  Some (record { path = path.0; content = content.0 }, content.1)

-- s has no pid
abbrev pub word_of : ℕ → ℕ → Option Word
word_of kind pid =
    if kind == 1 then Some (Turn pid)
    else (if kind == 2 then Some (TurnAlone pid)
    else (if (kind == 3) && (pid == 0) then Some Serve
    else (if kind == 4 then Some (UntilReturn pid)
    else None)))

unfoldable pub schedule_word_at : List ℕ → Option (Word × List ℕ)
schedule_word_at bytes = do
  kind ← number_at 1 bytes
  pid ← number_at 4 kind.1
  word ← word_of kind.0 pid.0
  Some (word, pid.1)

-- a directory has no content
abbrev pub node_of : ℕ → List ℕ → Option Node
node_of kind content =
    if kind == 1 then Some (File content)
    else (if (kind == 2) && (length content == 0) then Some Directory
    else None)

unfoldable pub outcome_file_at : List ℕ → Option (OutcomeFile × List ℕ)
outcome_file_at bytes = do
  path ← text_at bytes
  kind ← number_at 1 path.1
  content ← text_at kind.1
  node ← node_of kind.0 content.0
  Some (record { path = path.0; node = node }, content.1)

unfoldable pub ended_at : List ℕ → Option (Ended × List ℕ)
ended_at bytes = do
  pid ← number_at 4 bytes
  word ← number_at 4 pid.1
  Some (record { pid = pid.0; word = word.0 }, word.1)

-- ---- the order of an outcome's lists

-- what came before, if anything did, is before this
abbrev pub is_after : {K : Type 0} → (K → K → Bool) → Option K → K → Bool
is_after is_before None k = true
is_after is_before (Some first) k = is_before first k

-- in byte order
abbrev pub is_path_before : List ℕ → List ℕ → Bool
is_path_before a b = is_lt (slice_cmp nat_cmp a b)

-- the one byte of a slash
abbrev pub is_root : List ℕ → Bool
is_root path = (length path == 1) && (slice_index path 0 == 47)

-- a path of an outcome is not the root, and comes behind the one before it
abbrev pub can_follow : Option (List ℕ) → List ℕ → Bool
can_follow before path = not (is_root path) && is_after is_path_before before path

unfoldable pub paths_rise : Option (List ℕ) → List OutcomeFile → Bool
paths_rise before [] = true
paths_rise before (f ∷ fs) = can_follow before f.path && paths_rise (Some f.path) fs

unfoldable pub pids_rise : Option ℕ → List Ended → Bool
pids_rise before [] = true
pids_rise before (e ∷ es) = is_after nat_lt before e.pid && pids_rise (Some e.pid) es
