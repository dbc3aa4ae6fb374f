-- Whether a journal has these requests and their replies.
use Rattle.std.specs.Prelude.{◌≡◌, ◌⊎◌, List, [], ◌∷◌, Some, None}
use Rattle.lx_abi.specs.declared.ptrace.Reply.{Reply}
use Rattle.lx_abi.specs.declared.ptrace.Reply.TheVariants.{OutOfTurns as Out_of_turns}
use Rattle.lx_abi.specs.declared.ptrace.Request.{Request}
use Rattle.pt_journal.specs.declared.entry.Entry.{Entry}
use Rattle.pt_journal.specs.declared.entry.Entry.TheVariants.{Ask, Did}

-- The journal has these requests and their replies, and no others; in the end all were answered, or one request was
-- answered OutOfTurns, of which the journal has no reply, and perhaps no Ask.
abbrev pub Told : List Entry → List (Request × Reply) → Type 0
Told [] xs = (xs ≡ []) ⊎ ((q : Request) × (xs ≡ (q, Out_of_turns) ∷ []))
Told (Ask q ∷ es) [] = ⊥
Told (Ask q ∷ es) (x ∷ xs) = (q ≡ x.0) × Told es (x ∷ xs)
Told (Did e None ∷ es) [] = ⊥
Told (Did e None ∷ es) (x ∷ xs) = Told es (x ∷ xs)
Told (Did e (Some r) ∷ es) [] = ⊥
Told (Did e (Some r) ∷ es) (x ∷ xs) = (r ≡ x.1) × Told es xs
