-- A run whose log was printed.
use Rattle.std.proofs.Common.{◌≡◌, ◌∙◌, ℕ, List, [], ◌++◌, Option, Result, Ok, Err, OnOk, ap, subst}
use Rattle.lx_abi.specs.declared.log.Item.{Item}
use Rattle.lx_kernel.specs.Runs.{Run}
use Rattle.plain_run.specs.Watched.{Tells}
use Rattle.plain_log.specs.Logged.{IsLogged}
use Rattle.plain_log.specs.Logs.{HasPrinted}

-- what was told from its beginning on has been printed behind what the writer had
pub is_logged : {X Y : Type 0} (result : Result (Unit {0}) X) (written : Result (Unit {0}) Y)
    (had first last has : Option (List ℕ)) (k k' : Run) (told told' : List Item) → OnOk result (written ≡ Ok tt)
    → first ≡ had → told ≡ [] → Tells k told k' told' → last ≡ first → OnOk written (HasPrinted last told' has [])
    → OnOk result (IsLogged had k k' has)
is_logged (Ok u) written had first last has k k' told told' whole had_first nothing tells stays printed = record {
  items = tells.items;
  logged = tells.logged;
  printed = subst (λ began. HasPrinted began tells.items has []) (stays ∙ had_first)
      (subst (λ items. HasPrinted last items has []) (tells.are_told ∙ ap (λ l. l ++ tells.items) nothing)
      (subst (λ r. OnOk r (HasPrinted last told' has [])) whole printed));
}
is_logged (Err x) written had first last has k k' told told' whole had_first nothing tells stays printed = tt
