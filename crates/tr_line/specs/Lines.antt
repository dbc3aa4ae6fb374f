-- The lines of a trace: what each part shows, from what stood before it and what stands after it (strace(1)).
use Rattle.std.specs.Prelude.{ℕ, ◌+◌, ◌-◌, ◌==◌, max, Bool, false, cond, Option, Some, None}
use Rattle.std.specs.Prelude.{List, [], ◌∷◌, ◌++◌, length, replicate, codes, decimal, if◌then◌else◌}
use Rattle.pt_model.specs.Parts.{Part, Part_enter, Part_done, Part_signal, Part_stopped, Part_exit}
use Rattle.tr_values.specs.Calls.{name_text}
use Rattle.tr_line.specs.declared.layout.Layout.{Layout}
use Rattle.tr_line.specs.Results.{result_text}
use Rattle.tr_line.specs.Signals.{signal_line, stop_line}
use Rattle.tr_line.specs.Ends.{exit_line}

-- the pid left in five places and a space
unfoldable pub pid_text : Layout → ℕ → List ℕ
pid_text l p = if l.follow then decimal p ++ (replicate (5 - length (decimal p)) 32 ++ codes " ") else []

-- one space, and more up to the width
unfoldable pub gap : Layout → ℕ → List ℕ
gap l column = replicate (max 1 (l.width - column)) 32

-- the end of a line that is left before its call has ended
abbrev pub unfinished : List ℕ
unfinished = codes " <unfinished ...>\n"

unfoldable pub resumed : ℕ → List ℕ
resumed number = codes "<... " ++ (name_text number ++ codes " resumed>")

-- where a line stands on which a call's rest goes: what is added to it first, and how long it is then
pub record Begun : Type 0 where
  pub added : List ℕ
  pub column : ℕ

-- text and its close on such a line, up to the result
unfoldable pub closed : Layout → ℕ → List ℕ → List ℕ → List ℕ
closed l column text close = text ++ (close ++ (gap l (column + (length text + length close)) ++ codes "= "))

-- what a rest and a result make of such a line
unfoldable pub finish : Layout → Begun → List ℕ → List ℕ → List ℕ → List ℕ
finish l b text close result = b.added ++ (closed l b.column text close ++ (result ++ codes "\n"))

-- Rendering: each part by its neighbours in the whole list. What stands before is listed latest first.

-- the number of a process's open call: it was entered, and neither returned nor ended
unfoldable pub open_call : ℕ → List Part → Option ℕ
open_call p [] = None
open_call p (Part_enter q c text ∷ before) = cond (q == p) (Some c.number) (open_call p before)
open_call p (Part_done q c x replaced text ∷ before) = cond (q == p) None (open_call p before)
open_call p (Part_signal q i ∷ before) = open_call p before
open_call p (Part_stopped q s ∷ before) = open_call p before
open_call p (Part_exit q word ∷ before) = cond (q == p) None (open_call p before)

-- a call of the process ends with this part
abbrev pub ends : ℕ → Part → Bool
ends p (Part_enter q c text) = false
ends p (Part_done q c x replaced text) = p == q
ends p (Part_signal q i) = false
ends p (Part_stopped q s) = false
ends p (Part_exit q word) = p == q

-- an entry is split from its call's end where another part stands between them
abbrev pub split : ℕ → List Part → List ℕ
split p [] = []
split p (x ∷ after) = cond (ends p x) [] unfinished

-- a new line, on which a call is resumed
abbrev pub resumes : Layout → ℕ → ℕ → Begun
resumes l p number = record {
  added = pid_text l p ++ resumed number;
  column = length (pid_text l p ++ resumed number);
}

-- the call's end is on the line of its entry where nothing stands between them, else it is resumed
abbrev pub begun : Layout → ℕ → ℕ → List Part → Begun
begun l p number [] = resumes l p number
begun l p number (Part_enter q c text ∷ before) =
    cond (q == p) (record { added = []; column = length (pid_text l q ++ text) }) (resumes l p number)
begun l p number (Part_done q c x replaced text ∷ before) = resumes l p number
begun l p number (Part_signal q i ∷ before) = resumes l p number
begun l p number (Part_stopped q s ∷ before) = resumes l p number
begun l p number (Part_exit q word ∷ before) = resumes l p number

-- what is shown of a call that a process's end cuts off
abbrev pub cut_off : ℕ → List ℕ
cut_off word = if word == 9 then codes " <unfinished ...>)" else codes ")"

unfoldable pub cut_text : Layout → Begun → ℕ → List ℕ
cut_text l b word = b.added ++ (closed l b.column [] (cut_off word) ++ codes "?\n")

abbrev pub ended_by : Layout → ℕ → ℕ → List Part → Option ℕ → List ℕ
ended_by l p word before None = []
ended_by l p word before (Some number) = cut_text l (begun l p number before) word

abbrev pub piece : Layout → List Part → Part → List Part → List ℕ
piece l before (Part_enter p c text) after = (pid_text l p ++ text) ++ split p after
piece l before (Part_done p c x replaced text) after =
    finish l (begun l p c.number before) text (codes ")") (result_text c.number x replaced)
piece l before (Part_signal p i) after = pid_text l p ++ signal_line i
piece l before (Part_stopped p s) after = pid_text l p ++ stop_line s.number
piece l before (Part_exit p word) after =
    ended_by l p word before (open_call p before) ++ (pid_text l p ++ exit_line word)

unfoldable pub rendered : Layout → List Part → List Part → List ℕ
rendered l before [] = []
rendered l before (x ∷ after) = piece l before x after ++ rendered l (x ∷ before) after

-- the bytes of a list of parts
abbrev pub rendering : Layout → List Part → List ℕ
rendering l parts = rendered l [] parts
