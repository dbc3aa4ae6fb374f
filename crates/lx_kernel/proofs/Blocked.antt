-- What keeps a process that is blocked so.
use Rattle.std.proofs.Common.{◌≡◌, ℕ, zero, suc, ◌+◌, ◌<◌, ◌≤◌, Bool, true, false, cond, List, [], ◌∷◌, Option, Some, None, refl, ap, ◌∙◌, arith}
use Rattle.std.specs.Prelude.{◌==◌, ◌&&◌, ◌||◌, not, nat_lt, min, if◌then◌else◌}
use Rattle.std.specs.Ordering.{nat_cmp, eq_by_cmp}
use Rattle.std.specs.Cmp.{nat_cmp_total}
use Rattle.std.specs.List.{range_with_len}
use Rattle.std.specs.Option.{option_and_then}
use Rattle.std.specs.FinMap as maps
use Rattle.lx_abi.specs.declared.log.Call.{Call}
use Rattle.lx_abi.specs.Limits.{most_moved}
use Rattle.lx_model.specs.declared.stage.Stage.TheVariants.{Born, Run, Faulting, Entered, Doing, Replaced, Acted, Finished, Taken, Dropped, Stopped, Released, Woken}
use Rattle.lx_model.specs.declared.stage.Task.{Task}
use Rattle.lx_model.specs.declared.stage.Task.TheVariants.{Alive, Dying, Gone}
use Rattle.lx_open.specs.Kinds.{SlotMap}
use Rattle.lx_open.specs.declared.description.Slot.{Slot}
use Rattle.lx_open.specs.declared.fd_table.FdTable.{FdTable}
use Rattle.lx_open.specs.Opens.{pair, slot, inherited, inherited_each, inherited_slot}
use Rattle.lx_proc.specs.declared.state.Entry.{Entry}
use Rattle.lx_proc.specs.declared.state.Shared.{Shared}
use Rattle.lx_proc.specs.declared.state.UserState.{UserState}
use Rattle.lx_proc.specs.State.{Entries, changed_entry}
use Rattle.lx_proc.specs.Answers.{argument, low_argument}
use Rattle.lx_fcalls.specs.Blocking.{would_block, read_would_block, write_would_block, open_passes, passes, read_waits, write_waits}
use Rattle.lx_open.specs.Opens.{description}
use Rattle.lx_pcalls.specs.Calls.{would_block as process_would_block}
use Rattle.lx_pcalls.specs.Interruption.{is_interrupted}
use Rattle.lx_pcalls.specs.Stops.{is_continued_at}
use Rattle.lx_turn.specs.Reactions.{is_killed}
use Rattle.lx_kernel.specs.Blocking.{IsBlocked, can_turn, would_block as blocks}
use Rattle.lx_kernel.specs.Pipes.{pipe_in, pipe_at}
use Rattle.lx_kernel.proofs.Placed.{other_put}

pub both : (a b : Bool) → (a && b) ≡ true → (a ≡ true) × (b ≡ true)
both true b e = (refl, e)
both false b e = absurd (cc e)

join : (a b : Bool) → a ≡ true → b ≡ true → (a && b) ≡ true
join true b e h = h
join false b e h = absurd (cc e)

either_kept : (a b a' b' : Bool) → (a ≡ true → a' ≡ true) → (b ≡ true → b' ≡ true) → (a || b) ≡ true → (a' || b') ≡ true
either_kept true b a' b' first second e = ap (λ x. x || b') (first refl)
either_kept false b true b' first second e = refl
either_kept false b false b' first second e = second e

-- what ends a stop, and what ends a wait in a call
abbrev pub is_stirred : Bool → Option Entry → Bool
is_stirred true e = is_continued_at e
is_stirred false e = is_interrupted e

-- no signal has come that would end a stop, or a wait in a call
abbrev pub is_quiet : Bool → Option Entry → Bool
is_quiet stopped e = not (is_killed e) && not (is_stirred stopped e)

abbrev pub StaysQuiet : Option Entry → Option Entry → Type 0
StaysQuiet o o' = (stopped : Bool) → is_quiet stopped o ≡ true → is_quiet stopped o' ≡ true

-- of a call that waits, unless a signal interrupts it or SIGKILL is pending
pub no_turn : (waits killed interrupted : Bool) → (not (waits && not interrupted) || killed) ≡ false → (waits && (not killed && not interrupted)) ≡ true
no_turn false killed interrupted e = absurd (cc e)
no_turn true true true e = absurd (cc e)
no_turn true true false e = absurd (cc e)
no_turn true false true e = absurd (cc e)
no_turn true false false e = refl

then_no_turn : (waits killed interrupted : Bool) → (waits && (not killed && not interrupted)) ≡ true → (not (waits && not interrupted) || killed) ≡ false
then_no_turn false killed interrupted e = absurd (cc e)
then_no_turn true true interrupted e = absurd (cc e)
then_no_turn true false true e = absurd (cc e)
then_no_turn true false false e = refl

-- of a stopped process
no_waking : (killed continued : Bool) → (not (not continued) || killed) ≡ false → (not killed && not continued) ≡ true
no_waking true true e = absurd (cc e)
no_waking true false e = absurd (cc e)
no_waking false true e = absurd (cc e)
no_waking false false e = refl

then_no_waking : (killed continued : Bool) → (not killed && not continued) ≡ true → (not (not continued) || killed) ≡ false
then_no_waking true continued e = absurd (cc e)
then_no_waking false true e = absurd (cc e)
then_no_waking false false e = refl

-- a process stays blocked where its call still waits and no signal has come
pub blocked_still : (s s' : Shared) (q : ℕ) (task : Task UserState) → ((call : Call) (b : UserState) → task ≡ Alive b (Doing call) → would_block s q call b ≡ true → would_block s' q call b ≡ true)
    → ((call : Call) → process_would_block s q call ≡ true → process_would_block s' q call ≡ true)
    → StaysQuiet (maps.get s.entries q) (maps.get s'.entries q)
    → IsBlocked s q task → IsBlocked s' q task
unfolding can_turn blocks
blocked_still s s' q (Alive b Born) waits awaits quiet e = absurd (cc e)
blocked_still s s' q (Alive b Run) waits awaits quiet e = absurd (cc e)
blocked_still s s' q (Alive b (Faulting signal cause)) waits awaits quiet e = absurd (cc e)
blocked_still s s' q (Alive b (Entered joined)) waits awaits quiet e = absurd (cc e)
blocked_still s s' q (Alive b (Doing call)) waits awaits quiet e =
    let file = would_block s q call b in
    let file' = would_block s' q call b in
    let process = process_would_block s q call in
    let process' = process_would_block s' q call in
    let entry = maps.get s.entries q in
    let entry' = maps.get s'.entries q in
    let h = both (file || process) (is_quiet false entry) (no_turn (file || process) (is_killed entry) (is_interrupted entry) e) in
    then_no_turn (file' || process') (is_killed entry') (is_interrupted entry')
    (join (file' || process') (is_quiet false entry') (either_kept file process file' process' (waits call b refl) (awaits call) h.0) (quiet false h.1))
blocked_still s s' q (Alive b (Replaced call x)) waits awaits quiet e = absurd (cc e)
blocked_still s s' q (Alive b (Acted call x replaced)) waits awaits quiet e = absurd (cc e)
blocked_still s s' q (Alive b Finished) waits awaits quiet e = absurd (cc e)
blocked_still s s' q (Alive b (Taken signal cause)) waits awaits quiet e = absurd (cc e)
blocked_still s s' q (Alive b Dropped) waits awaits quiet e = absurd (cc e)
blocked_still s s' q (Alive b (Stopped signal)) waits awaits quiet e =
    let entry = maps.get s.entries q in
    let entry' = maps.get s'.entries q in
    then_no_waking (is_killed entry') (is_continued_at entry') (quiet true (no_waking (is_killed entry) (is_continued_at entry) e))
blocked_still s s' q (Alive b Released) waits awaits quiet e = absurd (cc e)
blocked_still s s' q (Alive b Woken) waits awaits quiet e = absurd (cc e)
blocked_still s s' q (Dying w) waits awaits quiet e = absurd (cc e)
blocked_still s s' q Gone waits awaits quiet e = refl

-- so where each call waits as before
pub blocked_on : (s s' : Shared) (q : ℕ) → ((call : Call) (b : UserState) → would_block s' q call b ≡ would_block s q call b)
    → ((call : Call) → process_would_block s q call ≡ true → process_would_block s' q call ≡ true)
    → StaysQuiet (maps.get s.entries q) (maps.get s'.entries q)
    → (task : Task UserState) → IsBlocked s q task → IsBlocked s' q task
blocked_on s s' q waits awaits quiet task e = blocked_still s s' q task (λ call b is h. waits call b ∙ h) awaits quiet e

-- Descriptors

-- with the same descriptions and pipes, a call waits as what its process's descriptors name
pub waits_alike : (s s' : Shared) (q : ℕ) (slots : SlotMap) → s'.fds ≡ record s.fds { slots = slots } → ((fd : ℕ) → slot (record s.fds { slots = slots }) q fd ≡ slot s.fds q fd)
    → (call : Call) (b : UserState) → would_block s' q call b ≡ would_block s q call b
unfolding would_block read_would_block write_would_block
waits_alike s s' q slots is same call b =
    let fds : FdTable = record s.fds { slots = slots } in
    let n = min (argument call 2) most_moved in
    let fd = low_argument call 0 in
    let reads = λ (t : FdTable). open_passes t q fd (read_waits t n) in
    let writes = λ (t : FdTable). open_passes t q fd (write_waits t b.memory (argument call 1) n) in
    ap (λ (t : FdTable). if call.number == 63 then reads t else if call.number == 64 then writes t else false) is
    ∙ ap (λ o. if call.number == 63 then passes (λ named. passes (read_waits s.fds n) (description s.fds named.description)) o
    else if call.number == 64 then passes (λ named. passes (write_waits s.fds b.memory (argument call 1) n) (description s.fds named.description)) o
    else false) (same fd)

-- and a descriptor is of the same pipe
pub pipe_alike : (fds : FdTable) (slots : SlotMap) (q fd : ℕ) → slot (record fds { slots = slots }) q fd ≡ slot fds q fd → pipe_at (record fds { slots = slots }) q fd ≡ pipe_at fds q fd
unfolding pipe_at
pipe_alike fds slots q fd same = ap (option_and_then (λ (named : Slot). pipe_in (description fds named.description))) same

pub waits_same : (s s' : Shared) (q : ℕ) → s'.fds ≡ s.fds → (call : Call) (b : UserState) → would_block s' q call b ≡ would_block s q call b
waits_same s s' q is = waits_alike s s' q s.fds.slots is (λ fd. refl)

-- A child's descriptors are no other's.

abbrev pub AllSmall : List ℕ → Type 0
AllSmall [] = Unit {0}
AllSmall (n ∷ ns) = (n < 256) × AllSmall ns

pub small_range : (a n : ℕ) → a + n ≤ 256 → AllSmall (range_with_len a n)
small_range a zero le = tt
small_range a (suc n) le = (omega (arith, le), small_range (a + 1) n (omega (arith, le)))

-- two processes have no pair in common
pub other_pair : (child q fd : ℕ) → (q ≡ child → ⊥) → fd < 256 → (n : ℕ) → n < 256 → pair q fd ≡ pair child n → ⊥
other_pair child q fd ne small n lt e = ne (omega (arith, lt, small, e))

module _ (parent child q fd : ℕ) (ne : q ≡ child → ⊥) (small : fd < 256) where
  slot_other : (slots : SlotMap) (n : ℕ) (o : Option Slot) → n < 256 → maps.get (inherited_slot slots child n o) (pair q fd) ≡ maps.get slots (pair q fd)
  slot_other slots n None lt = refl
  slot_other slots n (Some named) lt = other_put slots (pair child n) (pair q fd) (other_pair child q fd ne small n lt) named

  each_other : (slots : SlotMap) (ns : List ℕ) → AllSmall ns → maps.get (inherited_each slots parent child ns) (pair q fd) ≡ maps.get slots (pair q fd)
  unfolding inherited_each
  each_other slots [] small = refl
  each_other slots (n ∷ ns) small =
      each_other (inherited_slot slots child n (maps.get slots (pair parent n))) ns small.1
      ∙ slot_other slots n (maps.get slots (pair parent n)) small.0

slot_kept : (fds : FdTable) (parent child q fd : ℕ) → (q ≡ child → ⊥) → (b : Bool) → nat_lt fd 256 ≡ b
    → cond b (maps.get (inherited_each fds.slots parent child (range_with_len 0 256)) (pair q fd)) None ≡ cond b (maps.get fds.slots (pair q fd)) None
slot_kept fds parent child q fd ne true e = each_other parent child q fd ne (let lt : fd < 256 = grind (arith) in lt) fds.slots (range_with_len 0 256) (small_range 0 256 (omega arith))
slot_kept fds parent child q fd ne false e = refl

pub inherited_alike : (fds : FdTable) (parent child q : ℕ) → (q ≡ child → ⊥) → (fd : ℕ) → slot (inherited fds parent child) q fd ≡ slot fds q fd
unfolding inherited
inherited_alike fds parent child q ne fd = slot_kept fds parent child q fd ne (nat_lt fd 256) refl

-- Signals

-- another's entry is changed
pub entry_other : (entries : Entries) (p q : ℕ) (f : Entry → Entry) (o : Option Entry) → (q ≡ p → ⊥) → maps.get (changed_entry entries p f o) q ≡ maps.get entries q
entry_other entries p q f None ne = refl
entry_other entries p q f (Some e) ne = other_put entries p q ne (f e)

pub quiet_same : (o o' : Option Entry) → o' ≡ o → StaysQuiet o o'
quiet_same o o' e stopped h = ap (is_quiet stopped) e ∙ h

none_quiet : (b : Bool) (o : Option Entry) → StaysQuiet o (cond b None o)
none_quiet true o true h = refl
none_quiet true o false h = refl
none_quiet false o stopped h = h

-- one that has left the table has no signal
pub quiet_left : (entries : Entries) (n q : ℕ) → StaysQuiet (maps.get entries q) (maps.get (maps.remove entries n) q)
quiet_left entries n q stopped h = ap (is_quiet stopped) (maps.get-remove nat_cmp_total entries n q) ∙ none_quiet (eq_by_cmp nat_cmp q n) (maps.get entries q) stopped h

-- nor does another parent bring one
pub quiet_orphan : (e : Entry) (stopped : Bool) → is_quiet stopped (Some (record e { parent = 0 })) ≡ is_quiet stopped (Some e)
quiet_orphan e true = refl
quiet_orphan e false = refl
