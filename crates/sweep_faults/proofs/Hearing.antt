-- What is heard of a run, where nothing more is logged.
use Rattle.std.proofs.Common.{List, ◌++◌, None, sym, subst, append-nil}
use Rattle.std.specs.Option.{option_to_list}
use Rattle.lx_abi.specs.declared.log.Item.{Item}
use Rattle.sweep_rows.specs.declared.calls.Calls.{Calls}
use Rattle.sweep_faults.specs.declared.heard.Heard.{Heard}
use Rattle.sweep_faults.specs.Heard.{HearsBeside}

pub still_heard : (calls : Calls) (h : Heard) (log : List Item) → HearsBeside calls h log → HearsBeside calls h (log ++ option_to_list None)
still_heard calls h log heard = subst (λ l. HearsBeside calls h l) (sym (append-nil log)) heard
