-- Rows of events, with more events in the last, and what is noted in pieces.
use Rattle.std.proofs.Common.{◌≡◌, ℕ, zero, suc, Bool, true, false, List, [], ◌∷◌, ◌++◌, Option, Some, None, length, set, get_or, replicate, if◌then◌else◌, refl, sym, ap, ◌∙◌, arith, append-nil, append_assoc}
use Rattle.lx_abi.specs.declared.schedule.Event.{Event}
use Rattle.pt_kernel.specs.declared.events.EventRow.{EventRow}
use Rattle.pt_kernel.specs.Noted.{all_events, events_in, noting}

pub all_events-append : (rows : List EventRow) (r : EventRow) → all_events (rows ++ r ∷ []) ≡ all_events rows ++ events_in r
all_events-append [] r = append-nil (events_in r)
all_events-append (x ∷ rows) r = ap (λ t. events_in x ++ t) (all_events-append rows r) ∙ sym (append_assoc (events_in x) (all_events rows) (events_in r))

-- the last row has more events
all_events-last : (rows : List EventRow) (n : ℕ) (r d longer : EventRow) (xs : List Event) → length rows ≡ suc n → get_or rows n d ≡ r → events_in longer ≡ events_in r ++ xs → all_events (set rows n longer) ≡ all_events rows ++ xs
all_events-last [] n r d longer xs l at more = absurd (omega arith)
all_events-last (x ∷ []) zero r d longer xs l at more =
    append-nil (events_in longer) ∙ more ∙ ap (λ y. events_in y ++ xs) (sym at) ∙ ap (λ t. t ++ xs) (sym (append-nil (events_in x)))
all_events-last (x ∷ y ∷ rows) zero r d longer xs l at more = absurd (omega arith)
all_events-last (x ∷ []) (suc n) r d longer xs l at more = absurd (omega arith)
all_events-last (x ∷ y ∷ rows) (suc n) r d longer xs l at more =
    ap (λ t. events_in x ++ t) (all_events-last (y ∷ rows) n r d longer xs (omega arith) at more) ∙ sym (append_assoc (events_in x) (all_events (y ∷ rows)) xs)

-- so many events are added to the last row, or none
pub all_added : (rows : List EventRow) (n : ℕ) (r d longer : EventRow) (times : ℕ) (event : Event) (result : Bool) → length rows ≡ suc n → get_or rows n d ≡ r → events_in longer ≡ (if result then events_in r ++ replicate times event else events_in r)
    → all_events (set rows n longer) ≡ (if result then all_events rows ++ replicate times event else all_events rows)
all_added rows n r d longer times event true l at e = all_events-last rows n r d longer (replicate times event) l at e
all_added rows n r d longer times event false l at e = all_events-last rows n r d longer [] l at (e ∙ sym (append-nil (events_in r))) ∙ append-nil (all_events rows)

-- in two pieces
pub noting_on : (noted : Option (List Event)) (xs ys : List Event) → noting (noting noted xs) ys ≡ noting noted (xs ++ ys)
noting_on None xs ys = refl
noting_on (Some events) xs ys = ap Some (append_assoc events xs ys)

pub noting_nothing : (noted : Option (List Event)) → noting noted [] ≡ noted
noting_nothing None = refl
noting_nothing (Some events) = ap Some (append-nil events)
