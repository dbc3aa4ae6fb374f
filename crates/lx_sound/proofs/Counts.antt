-- A turn logs at most one item, so at most one entry.
use Rattle.std.proofs.Common.{◌≡◌, ℕ, suc, ◌+◌, ◌≤◌, Bool, true, false, List, [], ◌∷◌, ◌++◌, length, Option, Some, None, refl, ap, ◌∙◌, arith}
use Rattle.std.specs.Prelude.{filter}
use Rattle.std.specs.Option.{option_to_list}
use Rattle.std.proofs.lemmas.List.{length-append}
use Rattle.std.proofs.lemmas.List.Elements.{filter-append}
use Rattle.lx_abi.specs.declared.log.Item.{Item}
use Rattle.lx_abi.specs.Log.{is_entry, entries}
use Rattle.lx_abi.specs.Scripts.{choice_of}
use Rattle.lx_model.specs.declared.event.PtraceEvent.{PtraceEvent}
use Rattle.lx_model.specs.declared.event.PtraceEvent.TheVariants.{Plain, Execed, Forked}
use Rattle.lx_model.specs.Turn.{Out}
use Rattle.lx_model.specs.Finite.{Running, item_of, ran, bore, turn_out}
use Rattle.lx_proc.specs.declared.state.Shared.{Shared}
use Rattle.lx_proc.specs.declared.state.UserState.{UserState}
use Rattle.lx_turn.specs.Linux.{linux}
use Rattle.lx_kernel.specs.Runs.{Run, after_turn}
use Rattle.lx_kernel.specs.Laws.{after_all, TurnsAreSteps, BootsAreFirst}
use Rattle.lx_kernel.specs.First.{first_run}
use Rattle.lx_sound.specs.Counts.{EntriesAreFew}

one : (p call : ℕ) (i : Option Item) → entries p call (option_to_list i) ≤ 1
one p call None = omega (arith)
one p call (Some i) = go (is_entry p call i) refl
  where
    go : (b : Bool) → is_entry p call i ≡ b → length (filter (is_entry p call) (i ∷ [])) ≤ 1
    go true e = rw (e) (omega (arith))
    go false e = rw (e) (omega (arith))

borne_log : (v : Running Shared UserState) (e : PtraceEvent UserState) → (bore v e).log ≡ v.log
borne_log v Plain = refl
borne_log v Execed = refl
borne_log v (Forked b) = refl

appended : (p call : ℕ) (xs ys : List Item) → entries p call (xs ++ ys) ≡ entries p call xs + entries p call ys
appended p call xs ys = ap length (filter-append (is_entry p call) xs ys) ∙ length-append (filter (is_entry p call) xs) (filter (is_entry p call) ys)

module _ (steps : TurnsAreSteps) (p call : ℕ) where
  stepped : (k : Run) (pid : ℕ) → entries p call (after_turn k pid).running.log ≤ suc (entries p call k.running.log)
  stepped k pid =
      let o : Out Shared UserState = turn_out linux (choice_of k.script) k.follow k.running pid in
      let e : entries p call (after_turn k pid).running.log ≡ entries p call k.running.log + entries p call (option_to_list (item_of o)) =
      ap (λ (v : Running Shared UserState). entries p call v.log) (steps k pid)
      ∙ ap (λ log. entries p call log) (borne_log (ran k.running pid o) o.event)
      ∙ appended p call k.running.log (option_to_list (item_of o)) in
      let few : entries p call (option_to_list (item_of o)) ≤ 1 = one p call (item_of o) in
      omega (arith, e, few)

  all : (k : Run) (pids : List ℕ) → entries p call (after_all k pids).running.log ≤ entries p call k.running.log + length pids
  all k [] = omega (arith)
  all k (pid ∷ pids) =
      let next : entries p call (after_all (after_turn k pid) pids).running.log ≤ entries p call (after_turn k pid).running.log + length pids =
      all (after_turn k pid) pids in
      let here : entries p call (after_turn k pid).running.log ≤ suc (entries p call k.running.log) = stepped k pid in
      omega (arith, next, here)

pub entries_are_few : BootsAreFirst → TurnsAreSteps → EntriesAreFew
entries_are_few first steps boot script pids p call =
    let none : entries p call (first_run boot script).running.log ≡ 0 =
    ap (λ (v : Running Shared UserState). entries p call v.log) (first boot script) in
    let few : entries p call (after_all (first_run boot script) pids).running.log ≤ entries p call (first_run boot script).running.log + length pids =
    all steps p call (first_run boot script) pids in
    omega (arith, none, few)
