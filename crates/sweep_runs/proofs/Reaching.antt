-- What runs come to by words.
use Rattle.std.proofs.Common.{◌≡◌, ℕ, Bool, true, false, cond, List, [], Some, refl, subst, ◌∙◌}
use Rattle.std.specs.Prelude.{◌==◌}
use Rattle.lx_abi.specs.declared.errno.Errno.{Errno}
use Rattle.lx_abi.specs.Sys.{sys_close}
use Rattle.lx_abi.specs.declared.log.Item.{Item}
use Rattle.lx_abi.specs.declared.script.Rule.{Rule}
use Rattle.lx_kernel.specs.First.{first_run_without_log}
use Rattle.lx_kernel.specs.Runs.{Run}
use Rattle.pt_schedule.specs.Schedules.{worded}
use Rattle.plain_run.proofs.Turning.{with_log}
use Rattle.sweep_faults.specs.Faults.{error_of}
use Rattle.sweep_faults.specs.Words.{HasWords}
use Rattle.sweep_rows.specs.declared.kinds.Kind.TheVariants as kind
use Rattle.sweep_faults.proofs.Wording.{words_give}
use Rattle.sweep_runs.specs.Rows.{WordsReach, fault_of, kind_of}
use Rattle.sweep_runs.specs.Runs.{ending_of, is_alive}

endings_alike : (k : Run) (script : List Rule) → ending_of k ≡ ending_of (record k { script = script; keeps_log = true })
unfolding is_alive
endings_alike k script = refl

has_error : (call : ℕ) (error : Errno) → error_of (kind_of call error) ≡ Some error
has_error call error = of (call == sys_close)
  where
    of : (b : Bool) → error_of (cond b (kind.Done error) (kind.Undone error)) ≡ Some error
    of true = refl
    of false = refl

pub words_reach : WordsReach
words_reach setup case script r alone words to = record {
  kernel = record to.kernel { script = script; keeps_log = true };
  run = with_log true (record (first_run_without_log setup.boot []) { script = script }) (worded setup.turns.items setup.limit) (record to.kernel { script = script })
      (words_give (fault_of case) case.error script (first_run_without_log setup.boot []) (worded setup.turns.items setup.limit) to.kernel refl
      (has_error case.occurrence.call.number case.error) alone
      (subst (λ (log : List Item). HasWords setup.boot.follow (fault_of case) log) to.reached.log words) to.run);
  reached = record {
    ending = to.reached.ending ∙ endings_alike to.kernel script;
    log = to.reached.log;
    streams = to.reached.streams;
  };
}
