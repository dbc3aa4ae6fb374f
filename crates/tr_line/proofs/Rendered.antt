-- The printer writes the rendering: its state is a function of what stands before.
use Rattle.std.proofs.Common.{ℕ, ◌≡◌, ◌∙◌, ◌==◌, Bool, cond, Option, Some, None, List, [], ◌∷◌, ◌++◌, refl, sym, ap, codes}
use mathlib.Core.List.{append_assoc, append-nil}
use Rattle.pt_model.specs.Parts.{Part, Part_enter, Part_done, Part_signal, Part_stopped, Part_exit}
use Rattle.tr_line.specs.declared.layout.Layout.{Layout}
use Rattle.tr_line.specs.declared.layout.Open.{Open}
use Rattle.tr_line.specs.Lines.{pid_text, finish, cut_text, begun, split, open_call, ended_by, piece, rendered, rendering}
use Rattle.tr_line.specs.Printing.{leaves, enter_text, done_text, signal_text, stopped_text, end_text, unless_own, goes_on, cuts, writes, line_after, calls_after, printed, printing, Begins}
use Rattle.tr_line.specs.Results.{result_text}
use Rattle.tr_line.specs.Signals.{signal_line, stop_line}
use Rattle.tr_line.specs.Ends.{exit_line}

-- the state that a list leaves, latest first
abbrev line_of : Layout → List Part → Option Open
line_of l [] = None
line_of l (x ∷ before) = line_after l x

abbrev calls_of : List Part → ℕ → Option ℕ
calls_of [] = λ p. None
calls_of (x ∷ before) = calls_after (calls_of before) x

-- which calls are open
calls_are : (p : ℕ) (before : List Part) → calls_of before p ≡ open_call p before
unfolding open_call
calls_are p [] = refl
calls_are p (Part_enter q c text ∷ before) = ap (cond (q == p) (Some c.number)) (calls_are p before)
calls_are p (Part_done q c x replaced text ∷ before) = ap (cond (q == p) None) (calls_are p before)
calls_are p (Part_signal q i ∷ before) = calls_are p before
calls_are p (Part_stopped q s ∷ before) = calls_are p before
calls_are p (Part_exit q word ∷ before) = ap (cond (q == p) None) (calls_are p before)

-- what the rendering has written at the latest part, and the printer writes with the next one
abbrev mark : List Part → List Part → List ℕ
mark [] after = []
mark (Part_enter p c text ∷ before) after = split p after
mark (Part_done p c x replaced text ∷ before) after = []
mark (Part_signal p i ∷ before) after = []
mark (Part_stopped p s ∷ before) after = []
mark (Part_exit p word ∷ before) after = []

no_mark : (before : List Part) → mark before [] ≡ []
no_mark [] = refl
no_mark (Part_enter p c text ∷ before) = refl
no_mark (Part_done p c x replaced text ∷ before) = refl
no_mark (Part_signal p i ∷ before) = refl
no_mark (Part_stopped p s ∷ before) = refl
no_mark (Part_exit p word ∷ before) = refl

left_at_entry : (l : Layout) (before : List Part) (p : ℕ) (c : _) (text : List ℕ) (after : List Part) → leaves (line_of l before) ≡ mark before (Part_enter p c text ∷ after)
left_at_entry l [] p c text after = refl
left_at_entry l (Part_enter q d t ∷ before) p c text after = refl
left_at_entry l (Part_done q d x replaced t ∷ before) p c text after = refl
left_at_entry l (Part_signal q i ∷ before) p c text after = refl
left_at_entry l (Part_stopped q s ∷ before) p c text after = refl
left_at_entry l (Part_exit q word ∷ before) p c text after = refl

left_at_signal : (l : Layout) (before : List Part) (p : ℕ) (i : _) (after : List Part) → leaves (line_of l before) ≡ mark before (Part_signal p i ∷ after)
left_at_signal l [] p i after = refl
left_at_signal l (Part_enter q d t ∷ before) p i after = refl
left_at_signal l (Part_done q d x replaced t ∷ before) p i after = refl
left_at_signal l (Part_signal q j ∷ before) p i after = refl
left_at_signal l (Part_stopped q s ∷ before) p i after = refl
left_at_signal l (Part_exit q word ∷ before) p i after = refl

left_at_stop : (l : Layout) (before : List Part) (p : ℕ) (s : _) (after : List Part) → leaves (line_of l before) ≡ mark before (Part_stopped p s ∷ after)
left_at_stop l [] p s after = refl
left_at_stop l (Part_enter q d t ∷ before) p s after = refl
left_at_stop l (Part_done q d x replaced t ∷ before) p s after = refl
left_at_stop l (Part_signal q i ∷ before) p s after = refl
left_at_stop l (Part_stopped q z ∷ before) p s after = refl
left_at_stop l (Part_exit q word ∷ before) p s after = refl

left_at_done : (l : Layout) (before : List Part) (p : ℕ) (c : _) (x : ℕ) (replaced : Bool) (text : List ℕ) (after : List Part) → unless_own p (line_of l before) ≡ mark before (Part_done p c x replaced text ∷ after)
left_at_done l [] p c x replaced text after = refl
left_at_done l (Part_enter q d t ∷ before) p c x replaced text after = refl
left_at_done l (Part_done q d y r t ∷ before) p c x replaced text after = refl
left_at_done l (Part_signal q j ∷ before) p c x replaced text after = refl
left_at_done l (Part_stopped q s ∷ before) p c x replaced text after = refl
left_at_done l (Part_exit q word ∷ before) p c x replaced text after = refl

left_at_exit : (l : Layout) (before : List Part) (p word : ℕ) (after : List Part) → unless_own p (line_of l before) ≡ mark before (Part_exit p word ∷ after)
left_at_exit l [] p word after = refl
left_at_exit l (Part_enter q d t ∷ before) p word after = refl
left_at_exit l (Part_done q d y r t ∷ before) p word after = refl
left_at_exit l (Part_signal q j ∷ before) p word after = refl
left_at_exit l (Part_stopped q s ∷ before) p word after = refl
left_at_exit l (Part_exit q w ∷ before) p word after = refl

same_line : (l : Layout) (before : List Part) (p number : ℕ) → goes_on l p number (line_of l before) ≡ begun l p number before
same_line l [] p number = refl
same_line l (Part_enter q d t ∷ before) p number = refl
same_line l (Part_done q d y r t ∷ before) p number = refl
same_line l (Part_signal q j ∷ before) p number = refl
same_line l (Part_stopped q s ∷ before) p number = refl
same_line l (Part_exit q w ∷ before) p number = refl

cut_there : (l : Layout) (before : List Part) (p word : ℕ) (o : Option ℕ) → cuts l p word (line_of l before) o ≡ ended_by l p word before o
cut_there l before p word None = refl
cut_there l before p word (Some number) = ap (λ b. cut_text l b word) (same_line l before p number)

-- one part
here : (l : Layout) (before : List Part) (x : Part) (after : List Part) → writes l (line_of l before) (calls_of before) x ++ mark (x ∷ before) after ≡ mark before (x ∷ after) ++ piece l before x after
unfolding enter_text done_text signal_text stopped_text end_text
here l before (Part_enter p c text) after =
    append_assoc (leaves (line_of l before)) (pid_text l p ++ text) (split p after)
    ∙ ap (λ m. m ++ ((pid_text l p ++ text) ++ split p after)) (left_at_entry l before p c text after)
here l before (Part_done p c x replaced text) after =
    append-nil _
    ∙ (ap (λ m. m ++ finish l (goes_on l p c.number (line_of l before)) text (codes ")") (result_text c.number x replaced)) (left_at_done l before p c x replaced text after)
    ∙ ap (λ b. mark before (Part_done p c x replaced text ∷ after) ++ finish l b text (codes ")") (result_text c.number x replaced)) (same_line l before p c.number))
here l before (Part_signal p i) after =
    append-nil _ ∙ ap (λ m. m ++ (pid_text l p ++ signal_line i)) (left_at_signal l before p i after)
here l before (Part_stopped p s) after =
    append-nil _ ∙ ap (λ m. m ++ (pid_text l p ++ stop_line s.number)) (left_at_stop l before p s after)
here l before (Part_exit p word) after =
    append-nil _
    ∙ (ap (λ m. m ++ (cuts l p word (line_of l before) (calls_of before p) ++ (pid_text l p ++ exit_line word))) (left_at_exit l before p word after)
    ∙ (ap (λ b. mark before (Part_exit p word ∷ after) ++ (b ++ (pid_text l p ++ exit_line word))) (cut_there l before p word (calls_of before p))
    ∙ ap (λ o. mark before (Part_exit p word ∷ after) ++ (ended_by l p word before o ++ (pid_text l p ++ exit_line word))) (calls_are p before)))

-- all that follow
all : (l : Layout) (before after : List Part) → printed l (line_of l before) (calls_of before) after ≡ mark before after ++ rendered l before after
unfolding printed rendered
all l before [] = sym (ap (λ m. m ++ []) (no_mark before))
all l before (x ∷ after) =
    ap (λ more. writes l (line_of l before) (calls_of before) x ++ more) (all l (x ∷ before) after)
    ∙ (sym (append_assoc (writes l (line_of l before) (calls_of before) x) (mark (x ∷ before) after) (rendered l (x ∷ before) after))
    ∙ (ap (λ m. m ++ rendered l (x ∷ before) after) (here l before x after)
    ∙ append_assoc (mark before (x ∷ after)) (piece l before x after) (rendered l (x ∷ before) after)))

pub prints_rendering : (l : Layout) (parts : List Part) → printing l parts ≡ rendering l parts
prints_rendering l parts = all l [] parts

-- what is printed of a beginning begins what is printed of all
abbrev more_of : Layout → Option Open → (ℕ → Option ℕ) → List Part → List Part → List ℕ
more_of l line calls [] more = printed l line calls more
more_of l line calls (x ∷ parts) more = more_of l (line_after l x) (calls_after calls x) parts more

grows : (l : Layout) (line : Option Open) (calls : ℕ → Option ℕ) (parts more : List Part) → printed l line calls parts ++ more_of l line calls parts more ≡ printed l line calls (parts ++ more)
unfolding printed
grows l line calls [] more = refl
grows l line calls (x ∷ parts) more = append_assoc (writes l line calls x) _ _ ∙ ap (λ t. writes l line calls x ++ t) (grows l (line_after l x) (calls_after calls x) parts more)

pub rendering_grows : (l : Layout) (parts more : List Part) → Begins (rendering l parts) (rendering l (parts ++ more))
rendering_grows l parts more = record {
  later = more_of l None (λ p. None) parts more;
  whole = ap (λ t. t ++ more_of l None (λ p. None) parts more) (sym (prints_rendering l parts)) ∙ (grows l None (λ p. None) parts more ∙ prints_rendering l (parts ++ more));
}
