-- What a tracer and its host said to each other, told by the host's journal.
use Rattle.std.specs.Prelude.{◌≡◌, Bool, true, false, List, [], ◌∷◌, ◌++◌, Option, Some, None}
use Rattle.lx_abi.specs.declared.ptrace.Reply.{Reply}
use Rattle.lx_abi.specs.declared.ptrace.Request.{Request}
use Rattle.pt_journal.specs.Told.{Told}
use Rattle.pt_journal.specs.declared.entry.Entry.{Entry}
use Rattle.transcript.specs.declared.said.Said.{Said}
use Rattle.transcript.specs.declared.said.Said.TheVariants.{Asked, Answered}

-- exchanges as they are said
abbrev pub spoken : List (Request × Reply) → List Said
spoken [] = []
spoken (x ∷ xs) = Asked x.0 ∷ Answered x.1 ∷ spoken xs

-- the exchanges of what was said; a last request may have no reply
abbrev pub pairs : List Said → List (Request × Reply)
pairs [] = []
pairs (Answered r ∷ xs) = []
pairs (Asked q ∷ []) = []
pairs (Asked q ∷ Asked p ∷ xs) = []
pairs (Asked q ∷ Answered r ∷ xs) = (q, r) ∷ pairs xs

abbrev pub asked_of : Option Request → List Said
asked_of None = []
asked_of (Some q) = Asked q ∷ []

-- it is of the request that is pending
abbrev pub IsOf : Option Request → Request × Reply → Type 0
IsOf None x = Unit {0}
IsOf (Some q) x = q ≡ x.0

-- whatever entries are behind the journal, it tells of what was said before what they tell
abbrev pub Leads : List Entry → List (Request × Reply) → Option Request → Type 0
Leads journal given pending = (more : List Entry) (x : Request × Reply) (rest : List (Request × Reply))
    → IsOf pending x → Told more (x ∷ rest) → Told (journal ++ more) (given ++ x ∷ rest)

-- exchanges were said, and a request that is pending; the journal tells of them, and of no more where the last reply
-- was given
abbrev pub IsHeard : Bool → List Entry → List Said → Option Request → Type 0
IsHeard true journal said pending = (said ≡ spoken (pairs said)) × Told journal (pairs said)
IsHeard false journal said pending =
    (said ≡ spoken (pairs said) ++ asked_of pending) × Leads journal (pairs said) pending
