-- Symbols one after the other, and the functions among them.
use Rattle.std.proofs.Common.{◌≡◌, ℕ, suc, ◌+◌, ◌-◌, ◌<◌, ◌≤◌, Bool, true, false, cond, List, [], ◌∷◌, ◌++◌, Option, Some, None, refl, sym, ap, ◌∙◌, append_assoc, arith}
use Rattle.std.proofs.lemmas.List.{append-nil}
use Rattle.elf_symbols.specs.declared.sections.Content.{Content}
use Rattle.elf_symbols.specs.declared.symbols.Function.{Function}
use Rattle.elf_symbols.specs.Symbols.{functions_from, is_function, function_of}

abbrev nothing : {X : Type 0} → Option X
nothing = None

some_chosen : {X : Type 0} (b : Bool) (x y : X) → Some x ≡ cond b (Some y) None → (b ≡ true) × (x ≡ y)
some_chosen true x y e = (refl, cc)
some_chosen false x y e = absurd cc

none_chosen : {X : Type 0} (b : Bool) (y : X) → nothing {X = X} ≡ cond b (Some y) None → b ≡ false
none_chosen true y e = absurd cc
none_chosen false y e = refl

-- a function's symbol, behind those found so far
pub some_symbol : (bytes : List ℕ) (names : Content) (at count i : ℕ) (front total : List Function) (f : Function) → i < count
    → Some f ≡ cond (is_function bytes names at) (Some (function_of bytes names at)) None
    → front ++ functions_from bytes names at (count - i) ≡ total
    → (front ++ f ∷ []) ++ functions_from bytes names (at + 24) (count - (i + 1)) ≡ total
unfolding functions_from
some_symbol bytes names at count i front total f lt found so_far =
    let k : count - i ≡ suc (count - (i + 1)) = omega arith in
    let yes = some_chosen (is_function bytes names at) f (function_of bytes names at) found in
    let one : front ++ functions_from bytes names at (count - i) ≡ (front ++ function_of bytes names at ∷ []) ++ functions_from bytes names (at + 24) (count - (i + 1)) = rw (k, yes.0) (sym (append_assoc front (function_of bytes names at ∷ []) (functions_from bytes names (at + 24) (count - (i + 1))))) in
    ap (λ (x : Function). (front ++ x ∷ []) ++ functions_from bytes names (at + 24) (count - (i + 1))) yes.1 ∙ sym one ∙ so_far

-- another symbol
pub no_symbol : (bytes : List ℕ) (names : Content) (at count i : ℕ) (front total : List Function) → i < count
    → None ≡ cond (is_function bytes names at) (Some (function_of bytes names at)) None
    → front ++ functions_from bytes names at (count - i) ≡ total
    → front ++ functions_from bytes names (at + 24) (count - (i + 1)) ≡ total
unfolding functions_from
no_symbol bytes names at count i front total lt found so_far =
    let k : count - i ≡ suc (count - (i + 1)) = omega arith in
    let no = none_chosen (is_function bytes names at) (function_of bytes names at) found in
    let one : front ++ functions_from bytes names at (count - i) ≡ front ++ functions_from bytes names (at + 24) (count - (i + 1)) = rw (k, no) refl in
    sym one ∙ so_far

-- the last symbol is behind
pub all_symbols : (bytes : List ℕ) (names : Content) (at count i : ℕ) (front total : List Function) → count ≤ i
    → front ++ functions_from bytes names at (count - i) ≡ total → front ≡ total
unfolding functions_from
all_symbols bytes names at count i front total le so_far =
    let k : count - i ≡ 0 = omega arith in
    let one : front ++ functions_from bytes names at (count - i) ≡ front = rw k (append-nil front) in
    sym one ∙ so_far
