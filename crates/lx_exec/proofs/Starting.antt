-- How large the start of a program is.
use Rattle.std.proofs.Common.{◌≡◌, ℕ, ◌+◌, ◌*◌, ◌-◌, ◌<◌, ◌≤◌, false, nat_le, Option, Some, None, SomeIff, is_some, List, [], ◌∷◌, ◌++◌, length, refl, arith, length-append}
use Rattle.std.specs.List.{sum_by}
use Rattle.std.proofs.lemmas.List.Sums.{sum_by-cons, sum_by-append}
use Rattle.std.proofs.lemmas.Bool.Decides.{nat_tests}
use Rattle.lx_abi.specs.Limits.{start_limit}
use Rattle.lx_exec.specs.Programs.{strings, addresses, vector, strings_start, start_size}
use Rattle.lx_proc.specs.Starts.{cost_of}

length-strings : (ws : List (List ℕ)) → length (strings ws) + 8 * length ws ≡ sum_by cost_of ws
length-strings [] = refl
length-strings (w ∷ ws) = omega (arith, length-append w (0 ∷ strings ws), sum_by-cons cost_of w ws, length-strings ws)

length-addresses : (a : ℕ) (ws : List (List ℕ)) → length (addresses a ws) ≡ length ws
length-addresses a [] = refl
length-addresses a (w ∷ ws) = omega (arith, length-addresses (a + length w + 1) ws)

length-vector : (argv env : List (List ℕ)) → length (vector argv env) ≡ length argv + length env + 7
length-vector argv env = simp length-append (omega (arith, length-addresses (strings_start argv env) argv, length-addresses (strings_start argv env + length (strings argv)) env))

-- the words, and argc, two null pointers and the auxiliary vector
pub start_size-sums : (argv env : List (List ℕ)) → start_size argv env ≡ sum_by cost_of argv + sum_by cost_of env + 56
start_size-sums argv env = omega (arith, length-strings (argv ++ env), length-append argv env, sum_by-append cost_of argv env, length-vector argv env)

pub is_too_large : (argv env : List (List ℕ)) → 65480 < sum_by cost_of argv → false ≡ nat_le (start_size argv env) start_limit
is_too_large argv env h = let e = start_size-sums argv env in grind (arith, nat_tests)

-- what the words and then the environment leave
pub is_fitting : (argv env : List (List ℕ)) (left : ℕ) (r : Option ℕ) → (sum_by cost_of argv ≤ 65480) × (left ≡ 65480 - sum_by cost_of argv) → SomeIff r (sum_by cost_of env ≤ left) (left - sum_by cost_of env) → is_some r ≡ nat_le (start_size argv env) start_limit
is_fitting argv env left None a b = let e = start_size-sums argv env in grind (arith, nat_tests)
is_fitting argv env left (Some x) a b = let e = start_size-sums argv env in grind (arith, nat_tests)
