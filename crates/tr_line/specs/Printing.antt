-- The printer: what each part writes, from the line that is open and the open calls, and what it leaves.
use Rattle.std.specs.Prelude.{◌≡◌, ℕ, ◌==◌, Bool, cond, Option, Some, None}
use Rattle.std.specs.Prelude.{List, [], ◌∷◌, ◌++◌, length, codes}
use Rattle.lx_abi.specs.declared.ptrace.Info.{Info}
use Rattle.std.specs.FinMap as maps
use Rattle.std.specs.FinMap.{FinMap}
use Rattle.std.specs.Ordering.{nat_cmp}
use Rattle.pt_model.specs.Parts.{Part, Part_enter, Part_done, Part_signal, Part_stopped, Part_exit}
use Rattle.lx_model.specs.Kernel.{put}
use Rattle.tr_line.specs.declared.layout.Layout.{Layout}
use Rattle.tr_line.specs.declared.layout.Open.{Open}
use Rattle.tr_line.specs.Lines.{Begun, pid_text, unfinished, resumes, finish, cut_text, rendering}
use Rattle.tr_line.specs.Results.{result_text}
use Rattle.tr_line.specs.Signals.{signal_line, stop_line}
use Rattle.tr_line.specs.Ends.{exit_line}

-- the open line is left before another begins
abbrev pub leaves : Option Open → List ℕ
leaves None = []
leaves (Some o) = unfinished

abbrev pub unless_own : ℕ → Option Open → List ℕ
unless_own p None = []
unless_own p (Some o) = cond (o.pid == p) [] unfinished

abbrev pub goes_on : Layout → ℕ → ℕ → Option Open → Begun
goes_on l p number None = resumes l p number
goes_on l p number (Some o) = cond (o.pid == p) (record { added = []; column = o.column }) (resumes l p number)

abbrev pub cuts : Layout → ℕ → ℕ → Option Open → Option ℕ → List ℕ
cuts l p word line None = []
cuts l p word line (Some number) = cut_text l (goes_on l p number line) word

-- what a part writes, where this line is open, and this call of its process

unfoldable pub enter_text : Layout → Option Open → ℕ → List ℕ → List ℕ
enter_text l line p text = leaves line ++ (pid_text l p ++ text)

unfoldable pub done_text : Layout → Option Open → ℕ → ℕ → ℕ → Bool → List ℕ → List ℕ
done_text l line p number x replaced text =
    unless_own p line ++ finish l (goes_on l p number line) text (codes ")") (result_text number x replaced)

unfoldable pub signal_text : Layout → Option Open → ℕ → Info → List ℕ
signal_text l line p i = leaves line ++ (pid_text l p ++ signal_line i)

unfoldable pub stopped_text : Layout → Option Open → ℕ → ℕ → List ℕ
stopped_text l line p n = leaves line ++ (pid_text l p ++ stop_line n)

unfoldable pub end_text : Layout → Option Open → Option ℕ → ℕ → ℕ → List ℕ
end_text l line call p word = unless_own p line ++ (cuts l p word line call ++ (pid_text l p ++ exit_line word))

abbrev pub writes : Layout → Option Open → (ℕ → Option ℕ) → Part → List ℕ
writes l line calls (Part_enter p c text) = enter_text l line p text
writes l line calls (Part_done p c x replaced text) = done_text l line p c.number x replaced text
writes l line calls (Part_signal p i) = signal_text l line p i
writes l line calls (Part_stopped p s) = stopped_text l line p s.number
writes l line calls (Part_exit p word) = end_text l line (calls p) p word

abbrev pub line_after : Layout → Part → Option Open
line_after l (Part_enter p c text) = Some (record { pid = p; column = length (pid_text l p ++ text) })
line_after l (Part_done p c x replaced text) = None
line_after l (Part_signal p i) = None
line_after l (Part_stopped p s) = None
line_after l (Part_exit p word) = None

abbrev pub calls_after : (ℕ → Option ℕ) → Part → ℕ → Option ℕ
calls_after calls (Part_enter p c text) = put calls p (Some c.number)
calls_after calls (Part_done p c x replaced text) = put calls p None
calls_after calls (Part_signal p i) = calls
calls_after calls (Part_stopped p s) = calls
calls_after calls (Part_exit p word) = put calls p None

-- the bytes of parts, one after the other
unfoldable pub printed : Layout → Option Open → (ℕ → Option ℕ) → List Part → List ℕ
printed l line calls [] = []
printed l line calls (x ∷ parts) = writes l line calls x ++ printed l (line_after l x) (calls_after calls x) parts

abbrev pub printing : Layout → List Part → List ℕ
printing l parts = printed l None (λ p. None) parts

-- the printer writes the rendering
abbrev pub PrintsTheRendering : Type 0
PrintsTheRendering = (l : Layout) (parts : List Part) → printing l parts ≡ rendering l parts

-- the rendering of a list begins with that of its beginning
pub record Begins (begin all : List ℕ) : Type 0 where
  pub later : List ℕ
  pub whole : begin ++ later ≡ all

abbrev pub RenderingGrows : Type 0
RenderingGrows = (l : Layout) (parts more : List Part) → Begins (rendering l parts) (rendering l (parts ++ more))

-- the printer as code has it

pub record Printing : Type 0 where
  pub layout : Layout
  pub line : Option Open
  -- the number of the open call of each process that has one
  pub calls : FinMap nat_cmp ℕ

-- the number of the call whose line is open
abbrev pub call_on : Option Open → (ℕ → Option ℕ) → Option ℕ
call_on None calls = None
call_on (Some o) calls = calls o.pid

abbrev pub open_call : Printing → Option ℕ
open_call s = call_on s.line (maps.get s.calls)

abbrev pub entered : Printing → ℕ → ℕ → List ℕ → Printing
entered s p number text = record {
  layout = s.layout;
  line = Some (record { pid = p; column = length (pid_text s.layout p ++ text) });
  calls = maps.insert s.calls p number;
}

abbrev pub closed : Printing → ℕ → Printing
closed s p = record { layout = s.layout; line = None; calls = maps.remove s.calls p }

abbrev pub broken : Printing → Printing
broken s = record { layout = s.layout; line = None; calls = s.calls }

-- the printer after a part, and all that it writes

abbrev pub after_part : Printing → Part → Printing
after_part s (Part_enter p c text) = entered s p c.number text
after_part s (Part_done p c x replaced text) = closed s p
after_part s (Part_signal p i) = broken s
after_part s (Part_stopped p signal) = broken s
after_part s (Part_exit p word) = closed s p

unfoldable pub written : Printing → List Part → List ℕ
written s [] = []
written s (x ∷ parts) = writes s.layout s.line (maps.get s.calls) x ++ written (after_part s x) parts

abbrev pub new_printing : Layout → Printing
new_printing l = record { layout = l; line = None; calls = maps.empty }

-- what a new printer writes, part by part, is the rendering
abbrev pub PrinterWritesTheRendering : Type 0
PrinterWritesTheRendering = (l : Layout) (parts : List Part) → written (new_printing l) parts ≡ rendering l parts
