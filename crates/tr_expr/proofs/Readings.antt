-- One more item: what was read of the items before, and what it adds.
use Rattle.std.proofs.Common.{ℕ, ◌≡◌, List, [], ◌∷◌, ◌++◌, Option, None, Bool, ◌||◌, sym, ap, ◌∙◌}
use Rattle.tr_expr.specs.Faults.{found}
use Rattle.tr_expr.specs.Items.{Reading, IsReadAs, item_of, picks, reading_causes}
use Rattle.tr_expr.specs.Picks.{IsItem, IsPicked, causes_of, has, picked}
use Rattle.tr_expr.specs.Sets.{AreRead, causes, some_picks}
use Rattle.tr_expr.specs.declared.fault.ExprFault.{ExprFault}
use Rattle.tr_expr.specs.declared.item.Picks.{Picks}
use Rattle.tr_expr.proofs.Runs.{any_push, found_push}

read_push : (texts : List (List ℕ)) (rs : List Reading) (text : List ℕ) (r : Reading) → AreRead texts rs → IsReadAs (item_of text) r → AreRead (texts ++ text ∷ []) (rs ++ r ∷ [])
read_push [] [] text r before is = (is, tt)
read_push [] (s ∷ rs) text r before is = elim before [ ]
read_push (t ∷ texts) [] text r before is = elim before [ ]
read_push (t ∷ texts) (s ∷ rs) text r before is = (before.0, read_push texts rs text r before.1 is)

pub picked_push : (texts : List (List ℕ)) (text : List ℕ) (p : Picks) (fault fault' : Option ExprFault) (every every' : Bool) (numbers numbers' : List ℕ)
    → IsPicked texts fault every numbers → IsItem text p → fault' ≡ found fault (causes_of p)
    → ((n : ℕ) → picked every' numbers' n ≡ (picked every numbers n || has p n))
    → IsPicked (texts ++ text ∷ []) fault' every' numbers'
picked_push texts text p fault fault' every every' numbers numbers' before item more has_more = record {
  readings = before.readings ++ item.0 ∷ [];
  are_read = read_push texts before.readings text item.0 before.are_read item.1.0;
  found = more ∙ (ap (λ o. found o (causes_of p)) before.found ∙ (ap (λ cs. found (found None (causes before.readings)) cs) item.1.1.causes ∙ sym (found_push reading_causes None before.readings item.0)));
  picks = λ n. has_more n ∙ (ap (λ b. b || has p n) (before.picks n) ∙ (ap (λ b. some_picks before.readings n || b) (item.1.1.picks n) ∙ sym (any_push (λ r. picks r n) before.readings item.0)));
}
