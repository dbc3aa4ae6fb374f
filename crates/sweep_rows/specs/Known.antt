-- What is known where a call begins: what its process's descriptors stand for, and whether signals have handlers.
use Rattle.std.specs.Prelude.{◌≡◌, ℕ, ◌==◌, ◌&&◌, not, Bool, true, false, cond, List, length}
use Rattle.std.specs.List.{list_any}
use Rattle.lx_abi.specs.Sys.{sys_rt_sigaction}
use Rattle.lx_abi.specs.declared.log.Call.{Call}
use Rattle.lx_abi.specs.declared.log.Item.{Item}
use Rattle.lx_abi.specs.declared.log.Item.TheVariants.{Enter, Done, Taken, Stopped, Exit}
use Rattle.sweep_rows.specs.Descriptors.{argument, descriptor, uses_of, uses_in}
use Rattle.sweep_rows.specs.declared.known.Occurrence.{Occurrence}
use Rattle.sweep_rows.specs.declared.known.Known.{Known}

abbrev pub sigpipe : ℕ
sigpipe = 13

-- rt_sigaction has set what SIGPIPE does, or what another signal does
unfoldable pub sets_action : Bool → Item → Bool
sets_action pipe (Enter pid call) = false
sets_action pipe (Done pid call word replaced) =
    not replaced && ((word == 0) && ((call.number == sys_rt_sigaction) && (not (argument call 1 == 0)
    && cond pipe (argument call 0 == sigpipe) (not (argument call 0 == sigpipe)))))
sets_action pipe (Taken pid signal cause) = false
sets_action pipe (Stopped pid signal) = false
sets_action pipe (Exit pid word left) = false

-- some process has set one
abbrev pub has_set : Bool → List Item → Bool
has_set pipe log = list_any (sets_action pipe) log

-- the nth entry of a process into a call, after this log
abbrev pub occurrence_at : List Item → ℕ → Call → ℕ → Occurrence
occurrence_at log pid call n = record {
  pid = pid;
  call = call;
  n = n;
  used = uses_of log pid (descriptor call);
  piped = has_set true log;
  handled = has_set false log;
}

-- the same, by what is known
abbrev pub occurrence_in : Known → ℕ → Call → ℕ → Occurrence
occurrence_in known pid call n = record {
  pid = pid;
  call = call;
  n = n;
  used = uses_in known.descriptors pid (descriptor call);
  piped = known.piped;
  handled = known.handled;
}

-- it is what this log tells
pub record IsKnown (log : List Item) (known : Known) : Type 0 where
  pub at : known.descriptors.at ≡ length log
  pub uses : uses_in known.descriptors ≡ uses_of log
  pub piped : known.piped ≡ has_set true log
  pub handled : known.handled ≡ has_set false log
