-- Turns by a choice that is not the script's.
use Rattle.std.proofs.Common.{◌≡◌, ℕ, ◌-◌, ◌%◌, Bool, true, List, [], ◌∷◌, Option, Some, None, cond, ◌++◌, refl, ap, ap₂, ◌∙◌, arith}
use Rattle.std.specs.Prelude.{◌&&◌, if◌then◌else◌, nat_le, nat_eq}
use Rattle.std.proofs.lemmas.Bool.Decides.{nat_tests}
use Rattle.lx_abi.specs.declared.script.Choice.{Choice}
use Rattle.lx_abi.specs.declared.script.Rule.{Rule}
use Rattle.lx_abi.specs.Scripts.{choice_of, no_choice, done_by}
use Rattle.lx_abi.specs.Log.{entries}
use Rattle.lx_model.specs.Finite.{Running, at, bore, ran, turn_out, running_turn}
use Rattle.lx_model.specs.Kernel.{Script, traces, choice_at}
use Rattle.lx_model.specs.Turn.{Out, turn}
use Rattle.lx_model.specs.declared.stage.Task.{Task}
use Rattle.lx_model.specs.declared.stage.Task.TheVariants.{Alive, Dying, Gone}
use Rattle.lx_proc.specs.declared.state.Shared.{Shared}
use Rattle.lx_proc.specs.declared.state.UserState.{UserState}
use Rattle.lx_turn.specs.Linux.{linux}
use Rattle.lx_kernel.specs.Choices.{IsEvery, always, TurnsChoose}
use Rattle.lx_kernel.specs.Runs.{Run}

-- A script that does this to each call

first_covers : (n : ℕ) → nat_le 0 n ≡ true
first_covers n = grind (arith, nat_tests)

step_covers : (n : ℕ) → nat_eq ((n - 0) % 1) 0 ≡ true
step_covers n = grind (arith, nat_tests)

pub covers_each : (n : ℕ) → (nat_le 0 n && (true && nat_eq ((n - 0) % 1) 0)) ≡ true
covers_each n = ap₂ (λ x y. x && (true && y)) (first_covers n) (step_covers n)

chosen_at : (c : Choice) (r : Rule) → IsEvery c r → (call n : ℕ) → choice_of (r ∷ []) call n ≡ c
unfolding choice_of
chosen_at c r each call n =
    ap (λ x. done_by (cond x (Some r) None) n) (each.named call)
    ∙ ap (λ x. if x then r.choice else no_choice) (each.covered n)
    ∙ each.chosen

-- the script of such a rule alone does this to each call
pub always_chosen : (rules : List Rule) (c : Choice) (r : Rule) → rules ≡ [] → IsEvery c r → choice_of (rules ++ r ∷ []) ≡ always c
always_chosen rules c r alone each = ap (λ rules. choice_of (rules ++ r ∷ [])) alone ∙ λ i call n. chosen_at c r each call n i

-- The choice is that of a living process alone

turn_alike : (script : Script) (traced : Bool) (count : ℕ → ℕ) (s : Shared) (child p : ℕ) (task : Task UserState) →
    turn linux (choice_at linux script traced count task) s child p task
    ≡ turn linux (choice_at linux (always (choice_at linux script traced count task)) true count task) s child p task
turn_alike script traced count s child p (Alive b stage) = refl
turn_alike script traced count s child p (Dying w) = refl
turn_alike script traced count s child p Gone = refl

pub turns_choose : TurnsChoose
turns_choose k p = ap (λ (o : Out Shared UserState). record k { running = bore (ran k.running p o) o.event })
    (turn_alike (choice_of k.script) (traces k.follow p) (λ n. entries p n k.running.log) k.running.shared k.running.child p (at Gone k.running.tasks p))
