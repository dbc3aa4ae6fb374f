-- Where a leader stands.
use Rattle.std.proofs.Common.{◌≡◌, ◌↔◌, List, false, Some, IfOk, IsTrue, Result, Ok, Err, sym, ap, subst, ◌∙◌}
use Rattle.std.specs.declared.alloc.AllocError.{AllocError}
use Rattle.lx_abi.specs.declared.log.Item.{Item}
use Rattle.lx_kernel.specs.Runs.{Run}
use Rattle.pt_schedule.specs.declared.schedule.Schedule.{Schedule}
use Rattle.sweep_faults.specs.declared.faults.Fault.{Fault}
use Rattle.sweep_faults.specs.declared.faults.Place.{Place}
use Rattle.sweep_faults.specs.Faults.{has_begun}
use Rattle.sweep_faults.specs.Heard.{HearsBeside}
use Rattle.sweep_faults.specs.Led.{StandsAt, fault_at, place_of}
use Rattle.sweep_faults.specs.Runs.{RunsFaulted}
use Rattle.sweep_faults.proofs.Ahead.{not_begun}
use Rattle.sweep_faults.specs.Words.{HasWords}
use Rattle.sweep_rows.specs.Calls.{same_calls}
use Rattle.sweep_rows.specs.declared.verdicts.Reached.{Reached}
use Rattle.sweep_runs.specs.Leaders.{ComparesTo, GoesOnAt, IsAtBoot, IsOn, StandsIn, first_of, words_of}
use Rattle.sweep_runs.specs.Runs.{FaultComesTo, IsReached}
use Rattle.sweep_runs.specs.declared.leading.Compared.{Compared}
use Rattle.sweep_runs.specs.declared.leading.Leader.{Leader}
use Rattle.sweep_rows.specs.declared.setup.Setup.{Setup}

module _ (setup : Setup) (l : Leader) (boot : IsAtBoot setup l) where
  boots : (f : Fault) (z : Run) → RunsFaulted f l.kernel l.schedule z → RunsFaulted f (first_of setup) (words_of setup) z
  boots f z rest =
      subst (λ (s : Schedule). RunsFaulted f (first_of setup) s z) boot.words
      (subst (λ (k : Run). RunsFaulted f k l.schedule z) boot.first rest)

  pub boot_on : IsOn setup l
  boot_on = record {
    heard = subst (λ (log : List Item). HearsBeside l.calls l.heard log) (sym (ap (λ (k : Run). k.running.log) boot.first)) (boot.heard l.calls);
    on = λ f waits. (subst (λ (k : Run). has_begun f k.running.log ≡ false) boot.first waits, boots f);
    here = λ place e. absurd (cc (sym boot.nowhere ∙ e));
  }

  pub boot_stands : (place : Place) → StandsIn setup place l
  boot_stands place = record { is_on = boot_on; there = λ kind. boots (fault_at place kind) }

same_place : (p q : Place) → Some p ≡ Some q → p ≡ q
same_place p q e = cc e

pub goes_on : (setup : Setup) (place : Place) (l l' : Leader) → IsOn setup l → l'.place ≡ Some place → StandsAt place l.kernel l.schedule l'.kernel l'.schedule
    → HearsBeside l'.calls l'.heard l'.kernel.running.log → StandsIn setup place l'
goes_on setup place l l' led now stands heard =
    let here : GoesOnAt setup place l' =
    λ kind z rest. (led.on (fault_at place kind) (not_begun place kind l.kernel.running.log stands.ahead)).1 z (stands.leads kind z rest) in
    record {
      is_on = record {
        heard = heard;
        on = λ f waits.
            let later = stands.on f waits in
            let early = led.on f later.0 in (early.0, λ z rest. early.1 z (later.1 z rest));
        here = λ q e. subst (λ (p : Place). GoesOnAt setup p l') (same_place place q (sym now ∙ e)) here;
      };
      there = here;
    }

-- the copy's run is one from the boot
pub copy_comes : (setup : Setup) (place : Place) (l : Leader) (k : Run) (s : Schedule) (f : Fault) (z : Run) → GoesOnAt setup place l → place ≡ place_of f → k ≡ l.kernel → s ≡ l.schedule
    → RunsFaulted f k s z → FaultComesTo setup f z
copy_comes setup place l k s f z here is same_kernel same_schedule run =
    subst (λ (p : Place). GoesOnAt setup p l) is here f.kind z
    (subst (λ (t : Schedule). RunsFaulted f l.kernel t z) same_schedule (subst (λ (x : Run). RunsFaulted f x s z) same_kernel run))

-- What a run came to, beside the reference

pub compares : (setup : Setup) (reference : Reached) (fault : Fault) (k : Run) (r : Result Compared AllocError) → FaultComesTo setup fault k
    → IfOk r (λ c. IsReached k c.reached)
    → IfOk r (λ c. c.alike ≡ same_calls reference.log.items k.running.log reference.ending.outcome.ended)
    → IfOk r (λ c. IsTrue c.has_words ↔ HasWords setup.boot.follow fault k.running.log) → IfOk r (ComparesTo setup reference fault)
compares setup reference fault k (Ok c) run reached alike words = record {
  run = record { kernel = k; run = run; reached = reached };
  alike = alike ∙ ap (λ (log : List Item). same_calls reference.log.items log reference.ending.outcome.ended) (sym reached.log);
  words = subst (λ (log : List Item). IsTrue c.has_words ↔ HasWords setup.boot.follow fault log) (sym reached.log) words;
}
compares setup reference fault k (Err e) run reached alike words = tt
