-- A host with its journal.
use Rattle.std.specs.Prelude.{◌≡◌, ◌⊎◌, ◌≤◌, ℕ, Bool, true, false, cond, ◌||◌, nat_le, List, [], ◌∷◌, ◌++◌, length, Option, Some, None}
use Rattle.lx_abi.specs.declared.boot.Boot.{Boot}
use Rattle.lx_abi.specs.declared.ptrace.Reply.{Reply}
use Rattle.lx_abi.specs.declared.ptrace.Reply.TheVariants.{OutOfTurns as Out_of_turns}
use Rattle.lx_abi.specs.declared.ptrace.Request.{Request}
use Rattle.lx_abi.specs.declared.schedule.Event.TheVariants.{Turn, Serve}
use Rattle.lx_boot.specs.Boots.{fault_of}
use Rattle.lx_boot.specs.First.{first_shared}
use Rattle.lx_exec.specs.Programs.{booted}
use Rattle.lx_kernel.specs.Outcomes.{outcome_in}
use Rattle.lx_turn.specs.Linux.{linux}
use Rattle.pt_model.specs.Hosting.{first_hosting, with_pending}
use Rattle.pt_model.specs.Ptrace.{is_there}
use Rattle.pt_schedule.specs.Cycle.{next_able}
use Rattle.pt_kernel.specs.AfterEvents.{after}
use Rattle.pt_kernel.specs.Hosts.{HostState, Linux_host, readiness_of, event_of}
use Rattle.pt_journal.specs.Journals.{events_of, last_turn, last_from, after_entry, is_outcome, is_over, Replays}
use Rattle.pt_journal.specs.declared.entry.Entry.{Entry}
use Rattle.pt_journal.specs.declared.entry.Entry.TheVariants.{Ask, Did}
use Rattle.transcript.specs.declared.said.Said.{Said}
use Rattle.transcript.specs.declared.said.Said.TheVariants.{Asked, Answered}
use Rattle.host_shared.specs.Hearing.{pairs, IsHeard}
use Rattle.host_shared.specs.declared.cut.Cut.{Cut}
use Rattle.host_shared.specs.declared.cut.Cut.TheVariants.{Limit, Nobody, Gate}

pub record HeldState : Type 0 where
  pub boot : Boot
  pub host : HostState
  pub journal : List Entry
  -- what it and its tracer said to each other
  pub said : List Said
  -- the most events that the journal may have
  pub limit : ℕ
  pub closed : Bool
  -- memory was refused
  pub failed : Bool
  -- why it is out of turns, where it is
  pub cut : Option Cut
  -- the last reply was given: that to Outcome, or OutOfTurns
  pub over : Bool

abbrev pub held_by : Boot → HostState → List Entry → List Said → ℕ → Bool → Bool → Option Cut → Bool → HeldState
held_by boot host journal said limit closed failed cut over = record {
  boot = boot;
  host = host;
  journal = journal;
  said = said;
  limit = limit;
  closed = closed;
  failed = failed;
  cut = cut;
  over = over;
}

abbrev pub first_of : Boot → Linux_host
first_of boot = first_hosting (first_shared boot.limits boot.files boot.input) (booted boot.argv boot.env)

abbrev pub first_host : Boot → HostState
first_host boot = record { hosting = first_of boot; follow = boot.follow; failed = false }

abbrev pub first_held : Boot → ℕ → HeldState
first_held boot limit = held_by boot (first_host boot) [] [] limit false false None false

-- What it keeps, unless memory was refused

-- a request waits, and nobody is able to make the turn that it waits for
abbrev pub IsStuck : HostState → ℕ → Type 0
IsStuck h last =
    (is_there h.hosting.pending ≡ true) × ((readiness_of h).ready ≡ false)
    × (next_able (readiness_of h).able (readiness_of h).last_pid last ≡ None)

-- the limit was reached, or nobody could go on; of a gate nothing is told
abbrev pub IsCut : HeldState → Option Cut → Type 0
IsCut h None = Unit {0}
IsCut h (Some Limit) = length (events_of h.journal) ≡ h.limit
IsCut h (Some Nobody) = IsStuck h.host (last_turn h.journal)
IsCut h (Some Gate) = Unit {0}

abbrev pub host_by : Linux_host → Bool → HostState
host_by hosting follow = record { hosting = hosting; follow = follow; failed = false }

-- a turn is that of the next able process in the cycle, and a Serve is answered
abbrev pub IsNext : Bool → Linux_host → ℕ → Entry → Type 0
IsNext follow v n (Ask q) = Unit {0}
IsNext follow v n (Did Serve r) = is_there r ≡ true
IsNext follow v n (Did (Turn p) r) =
    next_able (readiness_of (host_by v follow)).able (readiness_of (host_by v follow)).last_pid n ≡ Some p

abbrev pub InCycle : Bool → Linux_host → ℕ → List Entry → Type 0
InCycle follow v n [] = Unit {0}
InCycle follow v n (x ∷ xs) =
    IsNext follow v n x × InCycle follow (after_entry linux outcome_in follow v x) (last_from n (x ∷ [])) xs

-- the journal, replayed by the ptrace machine from the boot, gives these replies and this host
pub record Kept (h : HeldState) : Type 0 where
  pub accepted : fault_of h.boot ≡ None
  pub replayed : Replays linux outcome_in h.boot.follow (first_of h.boot) h.journal h.host.hosting
  pub follow : h.host.follow ≡ h.boot.follow
  pub whole : h.host.failed ≡ false
  pub few : length (events_of h.journal) ≤ h.limit
  -- nothing follows Outcome's reply
  pub over : is_over h.journal ≡ true → h.closed ≡ true
  -- only what is closed is out of turns, for this reason
  pub if_open : h.closed ≡ false → h.cut ≡ None
  pub cut_so : IsCut h h.cut
  -- nothing is said behind the last reply, and nothing done
  pub shut : h.over ≡ true → h.closed ≡ true
  -- the journal tells of what was said
  pub heard : IsHeard h.over h.journal h.said h.host.hosting.pending
  -- each turn was of the next able process, and each Serve was answered
  pub cycled : InCycle h.boot.follow (first_of h.boot) 0 h.journal

abbrev pub IsKept : HeldState → Type 0
IsKept h = h.failed ≡ false → Kept h

-- how the counts stand to the journal
pub record Counts (h : HeldState) (events last : ℕ) (pending : Bool) : Type 0 where
  pub kept : Kept h
  pub counted : events ≡ length (events_of h.journal)
  pub latest : last ≡ last_turn h.journal
  pub waits : pending ≡ is_there h.host.hosting.pending

abbrev pub Keeps : HeldState → ℕ → ℕ → Bool → Type 0
Keeps h events last pending = (h.failed ≡ true → h.closed ≡ true) × (h.failed ≡ false → Counts h events last pending)

abbrev pub Stopped : HeldState → Type 0
Stopped h = (h.failed ≡ true) × (h.closed ≡ true)

-- Its steps

abbrev pub CanPut : HeldState → Type 0
CanPut h = (h.failed ≡ true) ⊎ ((h.closed ≡ false) × (h.host.hosting.pending ≡ None))

abbrev pub CanRefuse : HeldState → Type 0
CanRefuse h =
    (h.failed ≡ true) ⊎ ((h.closed ≡ true) × (h.over ≡ false) × (is_there h.host.hosting.pending ≡ false))

abbrev pub CanServe : HeldState → Type 0
CanServe h = (h.failed ≡ true) ⊎ ((h.over ≡ false) × (is_there h.host.hosting.pending ≡ true))

-- it may be out of turns for this reason
abbrev pub CanEnd : HeldState → Option Cut → Type 0
CanEnd h c = (h.failed ≡ false) × (h.over ≡ false) × (is_there h.host.hosting.pending ≡ true) × IsCut h c

-- a request was said, and is done
abbrev pub asked : HeldState → Request → HeldState
asked h q = record h {
  host = record h.host { hosting = with_pending h.host.hosting (Some q) };
  journal = h.journal ++ Ask q ∷ [];
  said = h.said ++ Asked q ∷ [];
}

-- a request was said, and refused
abbrev pub refused : HeldState → Request → HeldState
refused h q = record h { said = h.said ++ Asked q ∷ Answered Out_of_turns ∷ []; over = true }

-- closed, or at its limit
abbrev pub is_out : HeldState → Bool
is_out h = h.closed || nat_le h.limit (length (events_of h.journal))

-- the next able process in the cycle after that of the last turn
abbrev pub next_after_last : HeldState → Option ℕ
next_after_last h = next_able (readiness_of h.host).able (readiness_of h.host).last_pid (last_turn h.journal)

abbrev pub next_turn : HeldState → Option ℕ
next_turn h = cond (is_out h) None (next_after_last h)

abbrev pub after_turn : HeldState → ℕ → HeldState
after_turn h p = record h { host = after h.host (Turn p); journal = h.journal ++ Did (Turn p) None ∷ [] }

-- a turn of that process, and its entry; or nothing
abbrev pub Turned : HeldState → Option ℕ → Bool → HeldState → Type 0
Turned h None moved h' = (moved ≡ false) × (h' ≡ h)
Turned h (Some p) moved h' = (moved ≡ true) × (h' ≡ after_turn h p)

pub record ServedHeld : Type 0 where
  pub held : HeldState
  pub reply : Option Reply

abbrev pub out_of_turns : HeldState → Option Cut → ServedHeld
out_of_turns h c = record {
  held = record h { said = h.said ++ Answered Out_of_turns ∷ []; closed = true; cut = c; over = true };
  reply = Some Out_of_turns;
}

-- a Serve, and its entry; Outcome's reply is the last
abbrev pub served_by : HeldState → Option Reply → ServedHeld
served_by h None = record { held = h; reply = None }
served_by h (Some r) = record {
  held = record h {
    host = after h.host Serve;
    journal = h.journal ++ Did Serve (Some r) ∷ [];
    said = h.said ++ Answered r ∷ [];
    closed = is_outcome r;
    over = is_outcome r;
  };
  reply = Some r;
}

-- it waits for a turn, where there is one
abbrev pub waits_for : HeldState → Option ℕ → ServedHeld
waits_for h None = out_of_turns h (Some Nobody)
waits_for h (Some p) = record { held = h; reply = None }

abbrev pub serve_of : HeldState → ServedHeld
serve_of h =
    cond h.closed (out_of_turns h h.cut)
    (cond (nat_le h.limit (length (events_of h.journal))) (out_of_turns h (Some Limit))
    (cond (readiness_of h.host).ready (served_by h (event_of h.host Serve).reply) (waits_for h (next_after_last h))))

-- its gate was shut
abbrev pub shut_of : HeldState → HeldState
shut_of h = cond h.closed h (record h { closed = true; cut = Some Gate })

-- what a tracer knows of what was said, behind a reply
abbrev pub hearing : List Said → Option Reply → List Said
hearing said None = said
hearing said (Some r) = said ++ Answered r ∷ []
