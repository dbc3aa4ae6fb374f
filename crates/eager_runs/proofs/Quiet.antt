-- Where nobody lives, turns change nothing of what is left and logged.
use Rattle.std.proofs.Common.{◌≡◌, ◌≢◌, None, ℕ, Bool, false, List, [], ◌∷◌, ◌++◌, refl, sym, ap, subst, ◌∙◌, append-nil, ⊎_elim}
use Rattle.lx_model.specs.Kernel.{Script, Kernel, put, after_turn, with_child, turn_of, kernel_turn, kernel_run}
use Rattle.lx_model.specs.declared.stage.Task.{Task}
use Rattle.lx_model.specs.declared.stage.Task.TheVariants.{Alive, Dying, Gone}
use Rattle.lx_model.specs.declared.event.PtraceEvent.TheVariants.{Plain}
use Rattle.lx_model.specs.Turn.{Out, turn}
use Rattle.lx_abi.specs.declared.script.Choice.{Choice}
use Rattle.lx_pcalls.specs.Ends.{buried}
use Rattle.lx_proc.specs.declared.state.Shared.{Shared}
use Rattle.lx_proc.specs.declared.state.UserState.{UserState}
use Rattle.lx_turn.specs.Linux.{linux}
use Rattle.lx_kernel.specs.Outcomes.{outcome_in}
use Rattle.pt_model.specs.Laws.{is_alive}
use Rattle.pt_model.proofs.Maps.{put_here, put_apart, same_or_not}

abbrev NoneLives : Kernel Shared UserState → Type 0
NoneLives k = (q : ℕ) → is_alive (k.tasks q) ≡ false

pub record SameLeft (k z : Kernel Shared UserState) : Type 0 where
  pub outcome : outcome_in z.shared ≡ outcome_in k.shared
  pub log : z.log ≡ k.log

-- a turn of who doesn't live
record Still (s : Shared) (o : Out Shared UserState) : Type 0 where
  outcome : outcome_in o.shared ≡ outcome_in s
  item : o.item ≡ None
  event : o.event ≡ Plain
  dead : is_alive o.task ≡ false

still : (c : Choice) (s : Shared) (child p : ℕ) (task : Task UserState) → is_alive task ≡ false → Still s (turn linux c s child p task)
unfolding buried
still c s child p (Alive b stage) h = absurd (cc h)
still c s child p (Dying w) h = record { outcome = refl; item = refl; event = refl; dead = refl }
still c s child p Gone h = record { outcome = refl; item = refl; event = refl; dead = refl }

module _ (script : Script) (follow : Bool) where
  one_quiet : (k : Kernel Shared UserState) (p : ℕ) (o : Out Shared UserState) → NoneLives k → Still k.shared o → SameLeft k (with_child (after_turn k p o) o.event) × NoneLives (with_child (after_turn k p o) o.event)
  one_quiet k p o none it =
      subst (λ e. SameLeft k (with_child (after_turn k p o) e) × NoneLives (with_child (after_turn k p o) e)) (sym it.event) (
        record { outcome = it.outcome; log = rw it.item (append-nil k.log) },
        λ q. ⊎_elim
            (λ (e : p ≡ q). subst (λ x. is_alive (put k.tasks p o.task x) ≡ false) e (ap is_alive (put_here k.tasks p o.task) ∙ it.dead))
            (λ (d : p ≢ q). ap is_alive (put_apart k.tasks p o.task q d) ∙ none q)
            (same_or_not p q),
      )

  pub quiet : (ps : List ℕ) (k : Kernel Shared UserState) → NoneLives k → SameLeft k (kernel_run linux script follow k ps)
  quiet [] k none = record { outcome = refl; log = refl }
  quiet (p ∷ ps) k none =
      let one = one_quiet k p (turn_of linux script follow k p) none (still _ k.shared k.child p (k.tasks p) (none p)) in
      let more : SameLeft (kernel_turn linux script follow k p) (kernel_run linux script follow (kernel_turn linux script follow k p) ps) = quiet ps (kernel_turn linux script follow k p) one.1 in
      record { outcome = more.outcome ∙ one.0.outcome; log = more.log ∙ one.0.log }

  pub run_append : (ps qs : List ℕ) (k : Kernel Shared UserState) → kernel_run linux script follow k (ps ++ qs) ≡ kernel_run linux script follow (kernel_run linux script follow k ps) qs
  run_append [] qs k = refl
  run_append (p ∷ ps) qs k = run_append ps qs (kernel_turn linux script follow k p)
