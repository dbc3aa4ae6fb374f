-- Items one after the other, until one is refused with a kind.
use Rattle.std.proofs.Common.{ℕ, ◌≡◌, ◌+◌, ◌<◌, ◌≤◌, ◌∙◌, List, [], ◌∷◌, length, drop, get_or, Option, Some, None, true, false, inl, inr, refl, sym, ap, subst}
use Rattle.std.proofs.lemmas.List.{drop_more, drop_all}
use Rattle.tr_expr.specs.Faults.{found}
use Rattle.tr_expr.specs.Items.{Reading, reading_causes}
use Rattle.tr_expr.specs.Picks.{IsItem, causes_of}
use Rattle.tr_expr.specs.Pieces.{IsRefusedItem, is_kind, is_refused}
use Rattle.tr_expr.specs.declared.fault.ExprFault.{ExprFault}
use Rattle.tr_expr.specs.declared.item.Picks.{Picks}

-- what is refused of the texts from a place on is what is refused of all
abbrev pub GoesOn : ExprFault → List (List ℕ) → ℕ → Type 0
GoesOn kind texts i = (item : Option (List ℕ)) → IsRefusedItem kind (drop i texts) item → IsRefusedItem kind texts item

dropped : (texts : List (List ℕ)) (i : ℕ) (text : List ℕ) → (i < length texts) × (text ≡ get_or texts i text) → drop i texts ≡ text ∷ drop (i + 1) texts
dropped texts i text turn = drop_more texts i text turn.0 ∙ ap (λ t. t ∷ drop (i + 1) texts) (sym turn.1)

-- an item that isn't refused so
pub item_passed : (kind : ExprFault) (texts : List (List ℕ)) (i n : ℕ) (text : List ℕ) (p : Picks) (f : Option ExprFault)
    → (i < length texts) × (text ≡ get_or texts i text) → n ≡ i + 1 → IsItem text p → f ≡ found None (causes_of p) → is_kind kind f ≡ false
    → GoesOn kind texts i → GoesOn kind texts n
unfolding IsRefusedItem
item_passed kind texts i n text p f turn step item is other so_far = λ found_item rest.
    let clean : is_refused kind (reading_causes item.0) ≡ false = sym (ap (λ cs. is_kind kind (found None cs)) item.1.1.causes) ∙ (sym (ap (is_kind kind) is) ∙ other) in
    so_far found_item
    (subst (λ ts. IsRefusedItem kind ts found_item) (sym (dropped texts i text turn))
    (item.0, (item.1.0, inr (clean, subst (λ k. IsRefusedItem kind (drop k texts) found_item) step rest))))

-- an item that is
pub item_refused : (kind : ExprFault) (texts : List (List ℕ)) (i : ℕ) (text : List ℕ) (p : Picks) (f : Option ExprFault)
    → (i < length texts) × (text ≡ get_or texts i text) → IsItem text p → f ≡ found None (causes_of p) → is_kind kind f ≡ true
    → GoesOn kind texts i → IsRefusedItem kind texts (Some text)
unfolding IsRefusedItem
item_refused kind texts i text p f turn item is this so_far =
    let faulty : is_refused kind (reading_causes item.0) ≡ true = sym (ap (λ cs. is_kind kind (found None cs)) item.1.1.causes) ∙ (sym (ap (is_kind kind) is) ∙ this) in
    so_far (Some text)
    (subst (λ ts. IsRefusedItem kind ts (Some text)) (sym (dropped texts i text turn)) (item.0, (item.1.0, inl (faulty, refl))))

-- the end, with none
pub none_refused : (kind : ExprFault) (texts : List (List ℕ)) (i : ℕ) → length texts ≤ i → GoesOn kind texts i → IsRefusedItem kind texts None
unfolding IsRefusedItem
none_refused kind texts i past so_far = so_far None (subst (λ ts. IsRefusedItem kind ts None) (sym (drop_all i texts past)) refl)
