-- A frame on the stack: bytes that were written are those that are read.
use Rattle.std.proofs.Common.{◌≡◌, ◌≢◌, ℕ, zero, suc, ◌+◌, ◌-◌, ◌<◌, ◌≤◌, inl, inr, List, [], ◌∷◌, length, get_or, set, Option, Some, None, refl, sym, ◌∙◌, ap, subst, arith}
use Rattle.std.proofs.lemmas.Bool.Decides.{eqb_tells}
use Rattle.std.proofs.lemmas.Grind.{common_steps}
use Rattle.std.specs.FinMap.{get}
use Rattle.rv_mem.specs.Memory.{Memory, Cell, first_fault, fault_of, byte_of, bytes_at, written}
use Rattle.rv_mem.specs.declared.rights.Access.{Access}
use Rattle.rv_mem.proofs.Runs.{first_allowed, next_fault}
use Rattle.rv_mem.proofs.Writes.{with_new, get-written_in}
use Rattle.rv_hart.specs.declared.hart.Hart.{Hart}
use Rattle.lx_abi.specs.declared.signal.Signal.{Signal}
use Rattle.lx_sig.specs.Frames.{handling, frame_address, sp_of}
use Rattle.lx_sig.specs.Pending.{Action}

-- each byte of a run that allows an access does
allowed : (x : Access) (m : Memory) (a n q : ℕ) → first_fault x m a n ≡ None → a ≤ q → q < a + n → fault_of x q (get m q) ≡ None
allowed x m a zero q h le lt = absurd (omega (arith, le, lt))
allowed x m a (suc n) q h le lt =
    let here = first_allowed x m a (suc n) (omega arith) h in
    let rest : first_fault x m (a + 1) n ≡ None = sym (next_fault x m a n here) ∙ h in
    elim (eqb_tells q a) [
      | inl e ↦ subst (λ (b : ℕ). fault_of x b (get m b) ≡ None) (sym e.1) here
      | inr e ↦ let apart : q ≢ a = e.1 in allowed x m (a + 1) n q rest (omega (arith, apart, le)) (omega (arith, lt))
    ]

new_byte : (x : Access) (q b : ℕ) (o : Option Cell) → fault_of x q o ≡ None → byte_of (with_new b o) ≡ b
new_byte x q b None h = absurd (cc h)
new_byte x q b (Some c) h = refl

bytes_are : (m : Memory) (a : ℕ) (bs : List ℕ) → ((i : ℕ) → i < length bs → byte_of (get m (a + i)) ≡ get_or bs i 0) → bytes_at m a (length bs) ≡ bs
unfolding bytes_at
bytes_are m a [] h = refl
bytes_are m a (b ∷ bs) h =
    let here : byte_of (get m a) ≡ b = ap (λ (q : ℕ). byte_of (get m q)) (let e : a ≡ a + 0 = omega arith in e) ∙ h 0 (omega arith) in
    let rest : bytes_at m (a + 1) (length bs) ≡ bs = bytes_are m (a + 1) bs (λ i lt. ap (λ (q : ℕ). byte_of (get m q)) (let e : (a + 1) + i ≡ a + suc i = omega arith in e) ∙ h (suc i) (omega (arith, lt))) in
    ap (λ (x : ℕ). x ∷ bytes_at m (a + 1) (length bs)) here ∙ ap (λ (t : List ℕ). b ∷ t) rest

-- bytes that could be written are there
pub bytes_back : (x : Access) (m : Memory) (a n : ℕ) (bs : List ℕ) → length bs ≡ n → first_fault x m a n ≡ None → bytes_at (written m a bs) a n ≡ bs
bytes_back x m a n bs long h =
    ap (λ (k : ℕ). bytes_at (written m a bs) a k) (sym long)
    ∙ bytes_are (written m a bs) a bs (λ i lt.
    let low : a ≤ a + i = omega arith in
    ap byte_of (get-written_in m a bs (a + i) low (omega (arith, lt)))
    ∙ new_byte x (a + i) (get_or bs (a + i - a) 0) (get m (a + i)) (allowed x m a n (a + i) h low (omega (arith, lt, long)))
    ∙ ap (λ (k : ℕ). get_or bs k 0) (let e : a + i - a ≡ i = omega arith in e))

-- where a handler's stack begins
pub handler_sp : (h : Hart) (s : Signal) (a : Action) → length h.registers ≡ 32 → sp_of (handling h s a) ≡ frame_address (sp_of h)
handler_sp h s a long = sp_set h.registers 0x3FFFFFF000 (frame_address (sp_of h)) s.number long
  where
    sp_set : (r : List ℕ) (page address n : ℕ) → length r ≡ 32 → get_or (set (set (set (set (set r 1 page) 2 address) 10 n) 11 0) 12 0) 2 0 ≡ address
    sp_set r page address n l = grind (arith, common_steps, l)
