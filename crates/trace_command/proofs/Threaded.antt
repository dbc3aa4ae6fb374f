-- What threads do in any order may be made by words, in one thread.
use Rattle.std.proofs.Common.{◌≡◌, ◌∙◌, ℕ, ◌-◌, ◌≤◌, List, [], ◌∷◌, Option, Some, None, refl, sym, ap, subst, inl}
use Rattle.std.proofs.Common.{inr, arith}
use Rattle.std.specs.Prelude.{◌&&◌, nat_lt, min, IfSome}
use Rattle.lx_abi.specs.Scripts.{choice_of}
use Rattle.lx_abi.specs.Words.{words_of}
use Rattle.lx_abi.specs.declared.boot.Boot.{Boot}
use Rattle.lx_abi.specs.declared.schedule.Event.{Event}
use Rattle.lx_abi.specs.declared.schedule.Event.TheVariants.{Turn, Serve}
use Rattle.lx_abi.specs.declared.schedule.Word.{Word}
use Rattle.lx_abi.specs.declared.script.Rule.{Rule}
use Rattle.lx_model.specs.Kernel.{Script}
use Rattle.lx_turn.specs.Linux.{linux}
use Rattle.pt_kernel.specs.Seen.{is_able}
use Rattle.pt_model.specs.Attending.{listed}
use Rattle.pt_model.specs.Parts.{Options}
use Rattle.pt_schedule.specs.Cycle.{next_able}
use Rattle.pt_schedule.specs.Schedules.{Readiness, most_events, worded}
use Rattle.pt_schedule.specs.Written.{WordsReadBack}
use Rattle.pt_schedule.specs.declared.worded.Row.{Row}
use Rattle.tr_core.specs.declared.settings.Options.{Options as Settings}
use Rattle.trace_run.specs.BootedRuns.{RunOf}
use Rattle.trace_threads.specs.InTurn.{AreDue, IsDue, ThreadsTakeTurns, last_after}
use Rattle.trace_threads.proofs.Found.{last_unable, next_found}
use Rattle.trace_command.specs.Replays.{ComesAgain, IsMadeAgain, ThreadRunsComeAgain}
use Rattle.trace_command.specs.TurnsOut.{turns_text}
use Rattle.trace_command.proofs.ByWords.{Allowed, AllowedFrom, Linux_world, Stuck, after, asked_of, asks, comes_again}
use Rattle.trace_command.proofs.ByWords.{made_again, over, row_by, sight, world_of}

-- ---- the row of who had the last turn

abbrev last_of : Option Row → ℕ
last_of None = 0
last_of (Some r) = r.pid

-- he is one of the pids
abbrev IsPid : ℕ → Option Row → Type 0
IsPid most None = Unit {0}
IsPid most (Some r) = (1 ≤ r.pid) × (r.pid ≤ most)

last_by : (row : Option Row) (e : Event) → last_of (row_by row e) ≡ last_after (last_of row) e
last_by row (Turn p) = refl
last_by row Serve = refl

-- where nobody is able, he isn't
stuck_by : (seen : Readiness) (row : Option Row) → IsPid seen.last_pid row
    → next_able seen.able seen.last_pid (last_of row) ≡ None → Stuck seen row
stuck_by seen None is none = none
stuck_by seen (Some r) is none =
    (ap (λ b. b && nat_lt 0 r.left) (last_unable seen.able seen.last_pid r.pid none is.0 is.1), none)

-- ---- each event is allowed

row_is_pid : (most : ℕ) (w : Linux_world) (row : Option Row) (e : Event) → IsPid most row
    → IsDue most w (last_of row) e → IsPid most (row_by row e)
row_is_pid most w row (Turn p) is due =
    let f = next_found (is_able linux w.host) most (last_of row) p due in
    let from = f.from in
    let below = f.below in
    (from, omega (arith, below))
row_is_pid most w row Serve is due = is

allowed : (o : Options) (script : Script) (most : ℕ) (es : List Event) (w : Linux_world) (row : Option Row) (left : ℕ)
    → IsPid most row → AreDue most o script w (last_of row) left es
    → Allowed (sight o) (over o) (asks o) (after o script) row left w es
allowed o script most [] w row left is (inl none) = inl none
allowed o script most [] w row left is (inr (inl used)) = inr (inl used)
allowed o script most [] w row left is (inr (inr still)) =
    inr (inr (
      still.waits,
      stuck_by (sight o w) row (subst (λ n. IsPid n row) (sym still.pids) is)
          (ap (λ n. next_able (is_able linux w.host) n (last_of row)) still.pids ∙ still.nobody),
    ))
allowed o script most (e ∷ es) w row left is due =
    let some = due.1.1.0 in (
      due.0,
      (
        omega (arith, some),
        allowed o script most es (after o script w e) (row_by row e) (left - 1) (row_is_pid most w row e is due.1.0)
            (subst (λ n. AreDue most o script (after o script w e) n (left - 1) es) (sym (last_by row e)) due.1.1.1),
      ),
    )

-- from a boot on
allowed_from : (o : Settings) (script : List Rule) (boot : Boot) (limit : ℕ) (events : List Event)
    → limit ≤ most_events
    → AreDue boot.limits.last_pid (asked_of o boot) (choice_of script) (world_of boot) 0 limit events
    → AllowedFrom o script boot (min limit most_events) events
allowed_from o script boot limit events most due =
    let is : min limit most_events ≡ limit = omega (arith, most) in
    subst (λ n. AllowedFrom o script boot n events) (sym is)
    (allowed (asked_of o boot) (choice_of script) boot.limits.last_pid events (world_of boot) None limit tt due)

-- ---- the law

pub thread_runs_again : WordsReadBack → ThreadsTakeTurns → ThreadRunsComeAgain
unfolding ThreadRunsComeAgain
thread_runs_again back turns boot limit script options noted most made =
    let t = made.0 in
    let x = turns boot limit script options noted.run t in
    subst (λ z. IfSome z (ComesAgain boot limit script options noted.run)) (sym made.1) (λ numbers.
    subst
    (λ l. (again : List Word)
    × ((words_of (turns_text l) ≡ Some again) × RunOf boot (worded again limit) script options noted.run))
    x.all
    (comes_again listed _ boot limit script options noted.run t.run_of
    (subst (λ l. IsMadeAgain options script boot limit l) (sym x.all)
    (made_again back options script boot limit _ x.served (allowed_from options script boot limit _ most x.due)
    numbers))))
