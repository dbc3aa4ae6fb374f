-- The steps of a run, as its log tells them: in a step one process goes on, until a call of it has returned or another
-- process goes on.
use Rattle.std.specs.Prelude.{ℕ, ◌==◌, ◌^◌, ◌&&◌, nat_lt, Bool, true, not, cond, List, [], ◌∷◌, ◌++◌, Option, Some, None}
use Rattle.lx_abi.specs.Sys.{sys_clone}
use Rattle.lx_abi.specs.declared.log.Item.{Item}
use Rattle.lx_abi.specs.declared.log.Item.TheVariants.{Enter, Done, Taken, Stopped, Exit}
use Rattle.turn_orders.specs.declared.steps.Steps.{Steps}

-- who did what an item tells
abbrev pub doer : Item → ℕ
doer (Enter pid call) = pid
doer (Done pid call result replaced) = pid
doer (Taken pid signal cause) = pid
doer (Stopped pid signal) = pid
doer (Exit pid word left) = pid

-- whose step is under way after an item: nobody's, where a call has returned
abbrev pub current_after : Item → Option ℕ
current_after (Enter pid call) = Some pid
current_after (Done pid call result replaced) = None
current_after (Taken pid signal cause) = Some pid
current_after (Stopped pid signal) = Some pid
current_after (Exit pid word left) = Some pid

-- a step begins with what this process does
abbrev pub begins : Option ℕ → ℕ → Bool
begins None p = true
begins (Some q) p = not (q == p)

-- the child that a call has borne, by clone(2)
abbrev pub births : Item → List ℕ
births (Enter pid call) = []
births (Done pid call result replaced) =
    cond ((call.number == sys_clone) && nat_lt result (2 ^ 32)) (result ∷ []) []
births (Taken pid signal cause) = []
births (Stopped pid signal) = []
births (Exit pid word left) = []

-- before a log: no step, and the first process alone
abbrev pub no_steps : Steps
no_steps = record { pids = []; born = 1 ∷ []; current = None }

-- whose each step is
abbrev pub steps_with : Steps → Item → Steps
steps_with s i = record {
  pids = s.pids ++ cond (begins s.current (doer i)) (doer i ∷ []) [];
  born = s.born ++ births i;
  current = current_after i;
}

abbrev pub steps_after : Steps → List Item → Steps
steps_after s [] = s
steps_after s (i ∷ is) = steps_after (steps_with s i) is

-- the steps of a log, and the processes that it has, in the order of their births
unfoldable pub steps_of : List Item → Steps
steps_of log = steps_after no_steps log
