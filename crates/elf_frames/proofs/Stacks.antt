-- Frames one after the other.
use Rattle.std.proofs.Common.{ℕ, zero, suc, ◌≡◌, ◌∙◌, List, [], ◌∷◌, ◌++◌, ◌≤◌, length, Option, Some, None, refl, sym, append_assoc, arith}
use Rattle.std.proofs.lemmas.List.{append-nil}
use Rattle.elf_frames.specs.declared.entries.Fde.{Fde}
use Rattle.elf_frames.specs.declared.frames.Frame.{Frame}
use Rattle.elf_frames.specs.Frames.{stack_from, stack_of, caller_of}

none_left : (memory : ℕ → Option ℕ) (bytes : List ℕ) (fs : List Fde) (n : ℕ) → stack_from n memory bytes fs None ≡ []
unfolding stack_from
none_left memory bytes fs zero = refl
none_left memory bytes fs (suc n) = refl

pub no_frame : (memory : ℕ → Option ℕ) (bytes : List ℕ) (fs : List Fde) (n : ℕ) (front total : List ℕ) (next : Option Frame) → next ≡ None
    → front ++ stack_from n memory bytes fs next ≡ total → front ≡ total
no_frame memory bytes fs n front total next none so_far =
    let here : front ++ stack_from n memory bytes fs next ≡ front = rw (none, none_left memory bytes fs n) (append-nil front) in
    sym here ∙ so_far

pub one_frame : (memory : ℕ → Option ℕ) (bytes : List ℕ) (fs : List Fde) (n m : ℕ) (front new total : List ℕ) (next after : Option Frame) (f : Frame) → n ≡ suc m → next ≡ Some f
    → after ≡ caller_of memory bytes fs f → new ≡ front ++ f.pc ∷ []
    → front ++ stack_from n memory bytes fs next ≡ total → new ++ stack_from m memory bytes fs after ≡ total
unfolding stack_from
one_frame memory bytes fs n m front new total next after f k some is pushed so_far =
    let here : front ++ stack_from n memory bytes fs next ≡ front ++ (f.pc ∷ stack_from m memory bytes fs (caller_of memory bytes fs f)) = rw (some, k) refl in
    let there : new ++ stack_from m memory bytes fs after ≡ (front ++ f.pc ∷ []) ++ stack_from m memory bytes fs (caller_of memory bytes fs f) = rw (is, pushed) refl in
    there ∙ append_assoc front (f.pc ∷ []) (stack_from m memory bytes fs (caller_of memory bytes fs f)) ∙ sym here ∙ so_far

pub all_frames : (memory : ℕ → Option ℕ) (bytes : List ℕ) (fs : List Fde) (n : ℕ) (front total : List ℕ) (next : Option Frame) → n ≡ 0
    → front ++ stack_from n memory bytes fs next ≡ total → front ≡ total
unfolding stack_from
all_frames memory bytes fs n front total next none so_far =
    let here : front ++ stack_from n memory bytes fs next ≡ front = rw none (append-nil front) in
    sym here ∙ so_far

short : (memory : ℕ → Option ℕ) (bytes : List ℕ) (fs : List Fde) (n : ℕ) (f : Option Frame) → length (stack_from n memory bytes fs f) ≤ n
unfolding stack_from
short memory bytes fs zero f = omega arith
short memory bytes fs (suc n) None = omega arith
short memory bytes fs (suc n) (Some f) =
    let rest : length (stack_from n memory bytes fs (caller_of memory bytes fs f)) ≤ n = short memory bytes fs n (caller_of memory bytes fs f) in
    omega arith

pub short_of : (memory : ℕ → Option ℕ) (bytes : List ℕ) (fs : List Fde) (f : Frame) → length (stack_of memory bytes fs f) ≤ 64
short_of memory bytes fs f = short memory bytes fs 64 (Some f)
