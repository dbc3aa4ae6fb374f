-- A link that keeps what was asked and answered has the run's exchanges.
use Rattle.std.specs.Prelude.{IfOk}
use Rattle.std.proofs.Common.{◌≡◌, ℕ, List, [], ◌∷◌, ◌++◌, Some, Result, Ok, Err, sym, ap, subst, ◌∙◌, append_assoc, append-nil}
use Rattle.lx_abi.specs.declared.ptrace.Reply.{Reply}
use Rattle.lx_abi.specs.declared.ptrace.Reply.TheVariants.{Done as Agreed}
use Rattle.lx_abi.specs.declared.ptrace.Request.{Request}
use Rattle.lx_abi.specs.declared.script.Rule.{Rule}
use Rattle.lx_abi.specs.Scripts.{choice_of}
use Rattle.pt_model.specs.Tracer.{first_tracer}
use Rattle.pt_journal.specs.Telling.{Asks}
use Rattle.host_shared.specs.Sharing.{Calls}
use Rattle.tr_core.specs.Settings.{options_by, first_pen}
use Rattle.tr_core.specs.States.{State, new_state, heard, moved as moved_by, request_of}
use Rattle.tr_core.specs.declared.settings.Options.{Options}
use Rattle.trace_run.specs.BootedRuns.{LinuxRunsTell}
use Rattle.trace_run.specs.Runs.{Answers, Called, Ends, Leads, Asked, Last, RunsWhole, replies_of}
use Rattle.lx_boot.specs.First.{first_shared}
use Rattle.lx_exec.specs.Programs.{booted}
use Rattle.lx_kernel.specs.Outcomes.{outcome_in}
use Rattle.lx_turn.specs.Linux.{linux}
use Rattle.trace_run.specs.Tells.{Tells}
use Rattle.trace_run.specs.Writers.{Writer}
use Rattle.trace_run.specs.Writings.{Writing, writing, writer_in}
use Rattle.trace_run.specs.declared.running.Ended.{Ended}
use Rattle.trace_run.specs.declared.running.RunFault.{RunFault}
use Rattle.trace_threads.specs.ThreadRuns.{IsTraced}

asks : (t : State) (xs : List (Request × Reply)) → Asked t xs → Asks t.options t.script t.tracer xs
unfolding heard moved_by request_of
asks t [] a = tt
asks t (x ∷ xs) a = (a.0, asks (heard t x.1) xs a.1)

first_asks : (o : Options) (script : List Rule) (xs : List (Request × Reply)) → Asked (heard (new_state (options_by o) (choice_of script) (first_pen o)) Agreed) xs → Asks (options_by o) (choice_of script) first_tracer xs
unfolding heard moved_by
first_asks o script xs a = asks (heard (new_state (options_by o) (choice_of script) (first_pen o)) Agreed) xs a

module _ {L : Type 0} (given_in : L → List (Request × Reply)) (given faults : L → ℕ) where
  abbrev answers : Answers L
  answers a q r b = Called (λ a q r b. Calls given_in faults a q r b) given faults a q r b

  kept : (xs : List (Request × Reply)) (a b : L) → Leads answers a xs b → given_in b ≡ given_in a ++ xs
  kept [] a b led = ap given_in led ∙ sym (append-nil (given_in a))
  kept (x ∷ xs) a b led =
      kept xs led.0 b led.1.1 ∙ ap (λ l. l ++ xs) led.1.0.answered ∙ append_assoc (given_in a) (x ∷ []) xs

  last_link : (s : State) (rs : List Reply) (old : Writer) (a : L) (b : Ends L) → Last answers s rs old a (Ok tt) b → b.link ≡ a
  unfolding Last
  last_link s rs old a b h = h.4

  pub is_traced : LinuxRunsTell answers → (script : List Rule) (o : Options) (link link' : L) (old new : Writer) (ended : Ended)
      → RunsWhole answers (new_state (options_by o) (choice_of script) (first_pen o)) link old (Ok ended) link' new
      → old.contents ≡ Some [] → given_in link ≡ [] → (xs : List (Request × Reply)) → xs ≡ given_in link'
      → (trace : List ℕ) → new.contents ≡ Some trace → IsTraced script o ended xs trace
  unfolding LinuxRunsTell
  is_traced tells script o link link' old new ended w nothing first xs is trace written =
      let begun : State = new_state (options_by o) (choice_of script) (first_pen o) in
      let at : given_in link' ≡ w.runs.exchanges =
      ap given_in (last_link begun (Agreed ∷ replies_of w.runs.exchanges) old w.runs.link (record { link = link'; writer = new; state = w.state }) w.runs.last)
      ∙ kept w.runs.exchanges link w.runs.link w.runs.led
      ∙ ap (λ l. l ++ w.runs.exchanges) first in
      subst (λ ys. IsTraced script o ended ys trace) (sym (is ∙ at))
      (record {
        asked = first_asks o script w.runs.exchanges w.runs.asked;
        tells = λ boot events own.
            subst (λ c. Tells linux outcome_in o (choice_of script) (first_shared boot.limits boot.files boot.input) (booted boot.argv boot.env) events (Ok ended) (Some []) c) written
            (subst (λ c. Tells linux outcome_in o (choice_of script) (first_shared boot.limits boot.files boot.input) (booted boot.argv boot.env) events (Ok ended) c new.contents) nothing
            (tells boot script o link link' old new (Ok ended) w events own));
      })

  -- whatever it ended in
  pub traced_if : LinuxRunsTell answers → (script : List Rule) (o : Options) (link link' : L) (first last : Writing) (result : Result Ended RunFault)
      → RunsWhole answers (new_state (options_by o) (choice_of script) (first_pen o)) link (writer_in first) result link' (writer_in last)
      → given_in link ≡ [] → first ≡ writing [] → (xs : List (Request × Reply)) → xs ≡ given_in link' → (trace : List ℕ) → trace ≡ last.bytes
      → IfOk result (λ ended. IsTraced script o ended xs trace)
  traced_if tells script o link link' first last (Ok ended) w none nothing xs is trace written =
      is_traced tells script o link link' (writer_in first) (writer_in last) ended w (ap (λ (x : Writing). Some x.bytes) nothing) none xs is trace (ap (λ t. Some t) (sym written))
  traced_if tells script o link link' first last (Err f) w none nothing xs is trace written = tt
