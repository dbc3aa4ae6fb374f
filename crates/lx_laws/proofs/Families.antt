-- Families in each state that a boot reaches.
use Rattle.std.proofs.Common.{◌≡◌, ℕ, ◌<◌, Bool, true, false, List, [], ◌∷◌, Option, Some, None, refl, ap, sym, subst, ◌∙◌, ⊎_elim, inl, arith}
use Rattle.std.proofs.lemmas.Bool.Decides.{nat_tests}
use Rattle.std.specs.Prelude.{nat_lt, not}
use Rattle.std.specs.Ordering.{nat_cmp}
use Rattle.std.specs.Cmp.{nat_cmp_total}
use Rattle.std.specs.FinMap as maps
use Rattle.lx_model.specs.Kernel.{Script, Kernel, first_kernel, kernel_turn, kernel_run}
use Rattle.lx_model.specs.declared.stage.Stage.{Stage}
use Rattle.lx_model.specs.declared.stage.Stage.TheVariants.{Doing}
use Rattle.lx_model.specs.declared.stage.Task.{Task}
use Rattle.lx_model.specs.declared.stage.Task.TheVariants as task
use Rattle.lx_proc.specs.Families.{is_zombie}
use Rattle.lx_proc.specs.State.{Entries}
use Rattle.lx_proc.specs.declared.state.Entry.{Entry}
use Rattle.lx_proc.specs.declared.state.Life.TheVariants.{Alive}
use Rattle.lx_proc.specs.declared.state.Shared.{Shared}
use Rattle.lx_proc.specs.declared.state.UserState.{UserState}
use Rattle.lx_boot.specs.First.{first_entry, first_shared}
use Rattle.lx_exec.specs.Programs.{booted}
use Rattle.lx_turn.specs.Linux.{linux}
use Rattle.lx_sound.specs.Parts.{is_alive}
use Rattle.lx_sound.specs.Sound.{Agree, Sound, IsSound}
use Rattle.lx_sound.proofs.Maps.{inserted}
use Rattle.lx_sound.proofs.Turns.{first_sound, turns_stay_sound}
use Rattle.lx_laws.specs.Families.{has_not_ended, AreFamilies, TurnsKeepFamilies, KernelsHaveFamilies}
use Rattle.lx_laws.proofs.Turning.{OfTurns, kernel_holds}
use Rattle.lx_laws.proofs.Kin.{families_stay, signals_kin, stopped_kin, woken_kin, dies_kin}
use Rattle.lx_laws.proofs.Burying.{buried_families}
use Rattle.lx_laws.proofs.Calling.{calls_keep_families}

module _ (s : Shared) (tasks : ℕ → Task UserState) (child p : ℕ) (sound : Sound s tasks child) where
  lives_now : (b : UserState) (stage : Stage) → tasks p ≡ task.Alive b stage → (e : Entry) → maps.get s.entries p ≡ Some e → e.life ≡ Alive
  lives_now b stage is e there = subst (λ o. Agree o (task.Alive b stage)) there (subst (Agree (maps.get s.entries p)) is (sound.agree p))

  dying_now : (w : ℕ) → tasks p ≡ task.Dying w → (e : Entry) → maps.get s.entries p ≡ Some e → is_alive e.life ≡ false
  dying_now w is e there = ap is_alive (subst (λ o. Agree o (task.Dying w)) there (subst (Agree (maps.get s.entries p)) is (sound.agree p)))

  here_now : (b : UserState) (stage : Stage) → tasks p ≡ task.Alive b stage → has_not_ended (maps.get s.entries p) ≡ true
  here_now b stage is = go (maps.get s.entries p) (subst (Agree (maps.get s.entries p)) is (sound.agree p))
    where
      go : (o : Option Entry) → Agree o (task.Alive b stage) → has_not_ended o ≡ true
      go None agrees = absurd agrees
      go (Some e) agrees = ap (λ l. not (is_zombie l)) agrees

  -- who has an entry has a lower pid than the next child
  lower_now : (b : UserState) (stage : Stage) → tasks p ≡ task.Alive b stage → p < child
  lower_now b stage is = go (nat_lt p child) refl
    where
      go : (t : Bool) → nat_lt p child ≡ t → p < child
      go true less = grind (arith, nat_tests, less)
      go false other =
          let none : maps.get s.entries p ≡ None = sound.pids p (grind (arith, nat_tests, other)) in
          absurd (cc (ap has_not_ended none, here_now b stage is))

  -- a turn's own process
  pub of_turns : AreFamilies s.entries → OfTurns s child p (tasks p) (λ t. AreFamilies t.entries)
  of_turns h = record {
    stays = h;
    signals = λ t f g. families_stay t.entries _ g (signals_kin t.entries p f);
    calls = λ b call is. calls_keep_families child s p call b h (lower_now b (Doing call) is) (sound.pids child (omega arith)) (here_now b (Doing call) is);
    stops = λ b stage signal is. families_stay s.entries _ h (stopped_kin s p (lives_now b stage is) signal);
    wakes = λ b stage is. families_stay s.entries _ h (woken_kin s p (lives_now b stage is));
    ends = λ b stage w is. families_stay s.entries _ h (dies_kin s p (lives_now b stage is) w);
    leaves = λ w is. buried_families s p w h (dying_now w is);
  }

pub turns_keep_families : TurnsKeepFamilies
turns_keep_families script follow k p sound h = kernel_holds script follow k p (λ t. AreFamilies t.entries) (of_turns k.shared k.tasks k.child p sound h)

-- From a boot on.

abbrev pub first : Entries
first = maps.insert maps.empty 1 first_entry

first_is : (p : ℕ) (e : Entry) → maps.get first p ≡ Some e → first_entry ≡ e
first_is p e is = ⊎_elim (λ same. same) (λ old. absurd (cc (sym (maps.get-empty nat_cmp p) ∙ old))) (inserted nat_cmp_total maps.empty 1 first_entry p e is)

pub first_families : AreFamilies first
first_families = record {
  parents = λ p e is. inl (sym (ap (λ (x : Entry). x.parent) (first_is p e is)));
  nobody = none (maps.get first 0) refl;
  zombies = λ p e is zombie. let life : is_zombie e.life ≡ false = sym (ap (λ (x : Entry). is_zombie x.life) (first_is p e is)) in absurd (cc (life, zombie));
  news = λ p e is dead. sym (ap (λ (x : Entry). x.news) (first_is p e is));
}
  where
    none : (o : Option Entry) → maps.get first 0 ≡ o → maps.get first 0 ≡ None
    none o is = maps.get-insert nat_cmp_total maps.empty 1 first_entry 0 ∙ maps.get-empty nat_cmp 0

runs_keep : (script : Script) (follow : Bool) (k : Kernel Shared UserState) (pids : List ℕ) → IsSound k → AreFamilies k.shared.entries → AreFamilies (kernel_run linux script follow k pids).shared.entries
runs_keep script follow k [] sound h = h
runs_keep script follow k (p ∷ pids) sound h = runs_keep script follow (kernel_turn linux script follow k p) pids (turns_stay_sound script follow k p sound) (turns_keep_families script follow k p sound h)

pub kernels_have_families : KernelsHaveFamilies
kernels_have_families script follow boot pids none = runs_keep script follow (first_kernel (first_shared boot.limits boot.files boot.input) (booted boot.argv boot.env)) pids (first_sound boot none) first_families
