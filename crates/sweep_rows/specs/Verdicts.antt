-- What came of a run with a failure, beside the run without one.
use Rattle.std.specs.Prelude.{ℕ, ◌==◌, ◌%◌, ◌&&◌, ◌||◌, nat_lt, Bool, true, false, not, if◌then◌else◌, List}
use Rattle.std.specs.Prelude.{length, Option, Some, None}
use Rattle.std.specs.List.{list_any}
use Rattle.std.specs.Str.{bytes_eq}
use Rattle.sweep_rows.specs.Calls.{same_calls}
use Rattle.sweep_rows.specs.Endings.{first_word}
use Rattle.sweep_rows.specs.Files.{is_bad}
use Rattle.sweep_rows.specs.declared.files.FileNote.{FileNote}
use Rattle.sweep_rows.specs.declared.streams.Streams.{Streams}
use Rattle.sweep_rows.specs.declared.verdicts.Facts.{Facts}
use Rattle.sweep_rows.specs.declared.verdicts.End.{End}
use Rattle.sweep_rows.specs.declared.verdicts.Left.{Left}
use Rattle.sweep_rows.specs.declared.verdicts.Reached.{Reached}
use Rattle.sweep_rows.specs.declared.verdicts.Said.{Said}
use Rattle.sweep_rows.specs.declared.verdicts.Verdict.{Verdict}
use Rattle.sweep_rows.specs.declared.verdicts.Verdict.TheVariants.{Hung, Killed, Broken, Torn, Lost, Dropped, Damaged}
use Rattle.sweep_rows.specs.declared.verdicts.Verdict.TheVariants.{Warned, Reported, Recovered, Ignored}

-- with a file destroyed that was there
abbrev pub worst : Facts → Verdict → Verdict
worst f v = if f.left.torn then Torn else (if f.left.saved then Damaged else v)

-- something is said that wasn't, and no less
abbrev pub speaks : Facts → Bool
speaks f = f.said.errors && not f.said.shorter

-- process 1 ended otherwise
unfoldable pub ended_otherwise : Facts → Verdict
ended_otherwise f =
    if f.end.killed then Killed
    else (if not f.end.zero then worst f Reported else (if speaks f then worst f Warned else Lost))

-- it ended as before
unfoldable pub ended_so : Facts → Verdict
ended_so f =
    if f.said.output || f.left.changed then (if speaks f then worst f Warned else Lost)
    else (if f.said.errors then Warned else (if not f.alike then Recovered else (if f.tells then Dropped else Ignored)))

unfoldable pub verdict_of : Facts → Verdict
verdict_of f = if f.alive then Hung else (if f.end.as_before then ended_so f else ended_otherwise f)

-- what a maintainer has to look at
unfoldable pub is_finding : Verdict → Bool
is_finding Hung = true
is_finding Killed = true
is_finding Broken = true
is_finding Torn = true
is_finding Lost = true
is_finding Dropped = true
is_finding Damaged = false
is_finding Warned = false
is_finding Reported = false
is_finding Recovered = false
is_finding Ignored = false

abbrev pub same_word : Option ℕ → Option ℕ → Bool
same_word None None = true
same_word None (Some b) = false
same_word (Some a) None = false
same_word (Some a) (Some b) = a == b

-- the low seven bits of a wait word are the signal that ended the process (wait(2)); SIGABRT is 6
abbrev pub is_killed : Option ℕ → Bool
is_killed None = false
is_killed (Some word) = not (word % 128 == 0) && not (word % 128 == 6)

abbrev pub is_torn : FileNote → Bool
is_torn note = is_bad note.word && not note.saved

unfoldable pub end_of : Reached → Reached → End
end_of reference run = record {
  as_before = same_word (first_word reference.ending.outcome) (first_word run.ending.outcome);
  killed = is_killed (first_word run.ending.outcome);
  zero = same_word (first_word run.ending.outcome) (Some 0);
}

abbrev pub differs : List ℕ → List ℕ → Bool
differs a b = not (bytes_eq a b)

unfoldable pub said_of : Streams → Streams → Said
said_of reference run = record {
  errors = differs run.err reference.err;
  shorter = nat_lt (length run.err) (length reference.err);
  output = differs run.out reference.out;
}

unfoldable pub has_torn : List FileNote → Bool
has_torn notes = list_any is_torn notes

unfoldable pub has_saved : List FileNote → Bool
has_saved notes = list_any (λ n. n.saved) notes

unfoldable pub left_of : List FileNote → Left
left_of notes = record {
  changed = not (length notes == 0);
  torn = has_torn notes;
  saved = has_saved notes;
}

-- what is true of a run, of which these files are noted
unfoldable pub facts_of : Reached → Reached → List FileNote → Bool → Facts
facts_of reference run notes tells = record {
  alive = run.ending.alive;
  end = end_of reference run;
  said = said_of reference.streams run.streams;
  left = left_of notes;
  alike = same_calls reference.log.items run.log.items reference.ending.outcome.ended;
  tells = tells;
}
