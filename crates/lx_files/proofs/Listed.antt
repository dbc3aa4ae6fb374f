-- Files listed entry by entry.
use Rattle.std.proofs.Common.{◌≡◌, ℕ, List, [], ◌∷◌, ◌++◌, true, false, cond, length, map, refl, ap, sym, ◌∙◌, append_assoc, append-nil, Vec, Global, arith}
use Rattle.std.specs.Prelude.{nat_lt}
use Rattle.std.proofs.lemmas.Bool.Decides.{nat_tests}
use Rattle.std.specs.List.{filter}
use Rattle.lx_abi.specs.declared.outcome.OutcomeFile.{OutcomeFile}
use Rattle.lx_files.specs.Kinds.{NodeMap}
use Rattle.lx_files.specs.Listing.{is_named, file_of}

abbrev pub Held : Type 0
Held = Vec ℕ Global × ℕ

abbrev pub texts : List Held → List (List ℕ × ℕ)
texts = map (λ e. (e.0.items, e.1))

-- what these entries list
abbrev pub listed : NodeMap → List Held → List OutcomeFile
listed nodes es = map (file_of nodes) (filter is_named (texts es))

pub list_start : (nodes : NodeMap) (l : List OutcomeFile) (s es : List Held) → l ≡ [] → s ≡ es → l ++ listed nodes s ≡ listed nodes es
list_start nodes l s es p q = rw (p, q) refl

named : (e : Held) → ¬ (length e.0.items ≡ 0) → nat_lt 0 (length e.0.items) ≡ true
named e h = grind (arith, nat_tests, h)

unnamed : (e : Held) → length e.0.items ≡ 0 → nat_lt 0 (length e.0.items) ≡ false
unnamed e h = grind (arith, nat_tests, h)

pub list_pass : (nodes : NodeMap) (l : List OutcomeFile) (s rest es : List Held) (e : Held) → length e.0.items ≡ 0 → s ≡ e ∷ rest → l ++ listed nodes s ≡ listed nodes es → l ++ listed nodes rest ≡ listed nodes es
list_pass nodes l s rest es e empty p h =
    ap (λ b. l ++ map (file_of nodes) (cond b ((e.0.items, e.1) ∷ filter is_named (texts rest)) (filter is_named (texts rest)))) (sym (unnamed e empty))
    ∙ ap (λ t. l ++ listed nodes t) (sym p) ∙ h

pub list_step : (nodes : NodeMap) (l : List OutcomeFile) (s rest es : List Held) (e : Held) → ¬ (length e.0.items ≡ 0) → s ≡ e ∷ rest → l ++ listed nodes s ≡ listed nodes es
    → (l ++ file_of nodes (e.0.items, e.1) ∷ []) ++ listed nodes rest ≡ listed nodes es
list_step nodes l s rest es e some p h =
    append_assoc l (file_of nodes (e.0.items, e.1) ∷ []) (listed nodes rest)
    ∙ ap (λ b. l ++ map (file_of nodes) (cond b ((e.0.items, e.1) ∷ filter is_named (texts rest)) (filter is_named (texts rest)))) (sym (named e some))
    ∙ ap (λ t. l ++ listed nodes t) (sym p) ∙ h

pub list_end : (nodes : NodeMap) (l : List OutcomeFile) (s es : List Held) → s ≡ [] → l ++ listed nodes s ≡ listed nodes es → l ≡ listed nodes es
list_end nodes l s es p h = sym (append-nil l) ∙ ap (λ t. l ++ listed nodes t) (sym p) ∙ h
