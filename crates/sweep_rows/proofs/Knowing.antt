-- What a log tells, one item more.
use Rattle.std.proofs.Common.{◌≡◌, ℕ, suc, ◌+◌, ◌||◌, Bool, true, false, List, [], ◌∷◌, ◌++◌, length, refl, sym, ap, ap₂, ◌∙◌, arith}
use Rattle.std.proofs.lemmas.List.Folds.{list_any-append}
use Rattle.lx_abi.specs.declared.log.Call.{Call}
use Rattle.lx_abi.specs.declared.log.Item.{Item}
use Rattle.sweep_rows.specs.Descriptors.{descriptor, at_boot, after_item, uses_after, uses_of, uses_in}
use Rattle.sweep_rows.specs.Known.{sets_action, has_set, occurrence_at, occurrence_in, IsKnown}
use Rattle.sweep_rows.specs.declared.descriptors.Use.{Use}
use Rattle.sweep_rows.specs.declared.known.Known.{Known}

after_all : (past : List Item) (at : ℕ) (uses : ℕ → ℕ → Use) (item : Item) → uses_after at uses (past ++ item ∷ []) ≡ after_item (length past + at) item (uses_after at uses past)
after_all [] at uses item =
    let place : at ≡ 0 + at = omega arith in
    ap (λ n. after_item n item uses) place
after_all (i ∷ past) at uses item =
    let place : length past + suc at ≡ suc (length past) + at = omega arith in
    after_all past (suc at) (after_item at i uses) item
    ∙ ap (λ n. after_item n item (uses_after (suc at) (after_item at i uses) past)) place

pub uses_more : (past : List Item) (item : Item) → uses_of (past ++ item ∷ []) ≡ after_item (length past) item (uses_of past)
uses_more past item =
    let place : length past + 0 ≡ length past = omega arith in
    after_all past 0 at_boot item ∙ ap (λ n. after_item n item (uses_of past)) place

pub set_more : (pipe : Bool) (past : List Item) (item : Item) → has_set pipe (past ++ item ∷ []) ≡ (has_set pipe past || sets_action pipe item)
set_more pipe past item = list_any-append (sets_action pipe) past (item ∷ []) ∙ ap (λ b. has_set pipe past || b) (or_none (sets_action pipe item))
  where
    or_none : (b : Bool) → (b || false) ≡ b
    or_none true = refl
    or_none false = refl

longer : (past : List Item) (item : Item) → length (past ++ item ∷ []) ≡ suc (length past)
longer [] item = refl
longer (i ∷ past) item = ap suc (longer past item)

pub known_more : (past : List Item) (item : Item) (k k' : Known) → IsKnown past k →
    uses_in k'.descriptors ≡ after_item k.descriptors.at item (uses_in k.descriptors) → k'.descriptors.at ≡ suc k.descriptors.at →
    k'.piped ≡ (k.piped || sets_action true item) → k'.handled ≡ (k.handled || sets_action false item) → IsKnown (past ++ item ∷ []) k'
known_more past item k k' known uses at piped handled = record {
  at = at ∙ ap suc known.at ∙ sym (longer past item);
  uses = uses ∙ ap₂ (λ n u. after_item n item u) known.at known.uses ∙ sym (uses_more past item);
  piped = piped ∙ ap (λ b. b || sets_action true item) known.piped ∙ sym (set_more true past item);
  handled = handled ∙ ap (λ b. b || sets_action false item) known.handled ∙ sym (set_more false past item);
}

-- an occurrence is what the log tells
pub known_there : (past : List Item) (k : Known) → IsKnown past k → (pid : ℕ) (call : Call) (n : ℕ) → occurrence_in k pid call n ≡ occurrence_at past pid call n
known_there past k known pid call n =
    ap (λ u. record { pid = pid; call = call; n = n; used = u pid (descriptor call); piped = k.piped; handled = k.handled }) known.uses
    ∙ ap₂ (λ a b. record { pid = pid; call = call; n = n; used = uses_of past pid (descriptor call); piped = a; handled = b }) known.piped known.handled
