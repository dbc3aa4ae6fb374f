-- What became of a run's files.
use Rattle.std.specs.Prelude.{ℕ, ◌==◌, ◌&&◌, ◌||◌, Bool, true, false, not, cond, if◌then◌else◌, List, [], ◌∷◌, ◌++◌}
use Rattle.std.specs.Prelude.{length, Option, Some, None, option_map, find, codes}
use Rattle.std.specs.List.{flat_map, list_any, starts_with}
use Rattle.std.specs.Option.{is_some}
use Rattle.std.specs.Str.{bytes_eq}
use Rattle.lx_abi.specs.declared.boot.GuestFile.{GuestFile}
use Rattle.lx_abi.specs.declared.outcome.Node.{Node}
use Rattle.lx_abi.specs.declared.outcome.Node.TheVariants.{File, Directory}
use Rattle.lx_abi.specs.declared.outcome.OutcomeFile.{OutcomeFile}
use Rattle.sweep_rows.specs.declared.files.Word.{Word}
use Rattle.sweep_rows.specs.declared.files.Word.TheVariants.{Old, Absent, Gone, Left, Cut, Other, Torn}
use Rattle.sweep_rows.specs.declared.files.FileNote.{FileNote}

-- a directory is as an empty file
abbrev pub content_of : Node → List ℕ
content_of (File bytes) = bytes
content_of Directory = []

-- what a run left at a path, and what a boot has there
abbrev pub left_at : List OutcomeFile → List ℕ → Option (List ℕ)
left_at files path = option_map (λ f. content_of f.node) (find (λ f. bytes_eq f.path path) files)

abbrev pub given_at : List GuestFile → List ℕ → Option (List ℕ)
given_at files path = option_map (λ f. f.content) (find (λ f. bytes_eq f.path path) files)

abbrev pub same_content : Option (List ℕ) → Option (List ℕ) → Bool
same_content None None = true
same_content None (Some b) = false
same_content (Some a) None = false
same_content (Some a) (Some b) = bytes_eq a b

abbrev pub begins : List ℕ → List ℕ → Bool
begins text start = starts_with (λ x y. x == y) text start

abbrev pub holds : List ℕ → Option (List ℕ) → Bool
holds text None = true
holds text (Some start) = begins text start

-- a beginning of what there is after, with all that there was before
abbrev pub is_cut : Option (List ℕ) → List ℕ → List ℕ → Bool
is_cut before after now = begins after now && holds now before

-- a file that is there, as neither before nor after
abbrev pub there_word : Option (List ℕ) → Option (List ℕ) → List ℕ → Word
there_word None None now = Left (length now)
there_word (Some before) None now = Torn (length now) 0
there_word None (Some after) now =
    cond (is_cut None after now) (Cut (length now) (length after)) (Other (length now) (length after))
there_word (Some before) (Some after) now =
    cond (is_cut (Some before) after now) (Cut (length now) (length after)) (Torn (length now) (length after))

abbrev pub changed_word : Option (List ℕ) → Option (List ℕ) → Option (List ℕ) → Word
changed_word before after None = Gone
changed_word before after (Some now) = there_word before after now

-- a file's word, by its content before the run, after the reference and after the run: none, where it is as after the
-- reference
unfoldable pub word_of : Option (List ℕ) → Option (List ℕ) → Option (List ℕ) → Option Word
word_of before after now =
    if same_content now after then None
    else (if same_content now before then Some (cond (is_some before) Old Absent)
    else Some (changed_word before after now))

-- it was there, and is neither as before nor as after
abbrev pub is_bad : Word → Bool
is_bad Old = false
is_bad Absent = false
is_bad Gone = true
is_bad (Left n) = false
is_bad (Cut n m) = false
is_bad (Other n m) = false
is_bad (Torn n m) = true

-- a content, which isn't empty, is all of that before or of that after
abbrev pub is_whole : Option (List ℕ) → Option (List ℕ) → List ℕ → Bool
is_whole before after content =
    not (length content == 0) && (same_content (Some content) before || same_content (Some content) after)

-- a file at another path has it
unfoldable pub is_elsewhere : List ℕ → Option (List ℕ) → Option (List ℕ) → OutcomeFile → Bool
is_elsewhere path before after f = not (bytes_eq f.path path) && is_whole before after (content_of f.node)

unfoldable pub stands_elsewhere : List ℕ → Option (List ℕ) → Option (List ℕ) → List OutcomeFile → Bool
stands_elsewhere path before after files = list_any (is_elsewhere path before after) files

abbrev pub note_of : List ℕ → Option (List ℕ) → Option (List ℕ) → List OutcomeFile → Option Word → List FileNote
note_of path before after run None = []
note_of path before after run (Some word) =
    record { path = path; word = word; saved = is_bad word && stands_elsewhere path before after run } ∷ []

-- null(4)
unfoldable pub is_null : List ℕ → Bool
is_null path = bytes_eq path (codes "/dev/null")

unfoldable pub note_at : List GuestFile → List OutcomeFile → List OutcomeFile → List ℕ → List FileNote
note_at boot reference run path =
    cond (is_null path) []
    (note_of path (given_at boot path) (left_at reference path) run
    (word_of (given_at boot path) (left_at reference path) (left_at run path)))

-- of a path that the reference doesn't leave, and of one that wasn't there before either
unfoldable pub note_given : List GuestFile → List OutcomeFile → List OutcomeFile → List ℕ → List FileNote
note_given boot reference run path =
    cond (is_some (left_at reference path)) [] (note_at boot reference run path)

unfoldable pub note_new : List GuestFile → List OutcomeFile → List OutcomeFile → List ℕ → List FileNote
note_new boot reference run path = cond (is_some (given_at boot path)) [] (note_given boot reference run path)

-- the files that a run leaves otherwise than the reference
unfoldable pub file_notes : List GuestFile → List OutcomeFile → List OutcomeFile → List FileNote
file_notes boot reference run =
    flat_map (λ f. note_at boot reference run f.path) reference
    ++ (flat_map (λ f. note_given boot reference run f.path) boot
    ++ flat_map (λ f. note_new boot reference run f.path) run)
