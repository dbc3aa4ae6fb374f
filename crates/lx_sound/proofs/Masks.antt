-- What is done to a process's signals keeps them within their bounds.
use Rattle.std.proofs.Common.{◌≡◌, ℕ, zero, suc, ◌+◌, ◌-◌, ◌^◌, ◌<◌, ◌≤◌, ◌≢◌, ◌⊎◌, inl, inr, ⊎_elim, ◌&&◌, ◌||◌, Bool, true, false, cond, List, [], ◌∷◌, length, get_or, replicate, set, Option, Some, None, refl, ap, sym, subst, ◌∙◌, arith}
use Rattle.std.proofs.lemmas.Bool.Decides.{nat_tests}
use Rattle.std.proofs.lemmas.List.{get_or-set_same, get_or-set_other, set_past}
use Rattle.std.proofs.lemmas.Nat.Bits.{bit_at-zero, bit_at_or, bit_at_and, bit_at-pow_other, bit_at-lt}
use Rattle.std.proofs.Math.ListN.{get_or-map}
use Rattle.std.specs.Prelude.{◌==◌, nat_lt, not, is_some, max, min, bit_and, bit_or}
use Rattle.std.specs.List.{list_all, range_with_len}
use Rattle.std.specs.Int.{w64, bit_at, to_le_bytes, from_le_bytes}
use Rattle.std.specs.declared.result.Result.{Result}
use Rattle.std.specs.declared.result.Result.TheVariants.{Ok, Err}
use Rattle.rv_mem.specs.Memory.{Memory, bytes_at}
use Rattle.lx_abi.specs.Errnos.{einval}
use Rattle.lx_abi.specs.Signals.{is_signal, is_stop, cont_number}
use Rattle.lx_abi.specs.declared.log.Call.{Call}
use Rattle.lx_abi.specs.declared.log.Cause.{Cause}
use Rattle.lx_abi.specs.declared.signal.Signal.{Signal}
use Rattle.lx_sig.specs.Calls.{Outcome, is_unreadable, given, leaves, argument, low_argument}
use Rattle.lx_sig.specs.Doublewords.{word_of}
use Rattle.lx_sig.specs.Frames.{handler_mask, blocking, defers_nothing, popped_mask}
use Rattle.lx_sig.specs.Pending.{default, action_of, cause_of, is_ignored, is_ignored_by_default, with_job, settled, job_of, continued, noticed, dropped, without_stops, without_opposites, added, sent, with_pending, without_pending}
use Rattle.lx_sig.specs.Reactions.{reaction, acts, after_exec, of_child, no_signals, without_handler, is_fault}
use Rattle.lx_sig.specs.declared.state.Action.{Action}
use Rattle.lx_sig.specs.declared.state.Job.{Job}
use Rattle.lx_sig.specs.declared.state.Job.TheVariants.{Free}
use Rattle.lx_sig.specs.declared.state.Signals.{Signals}
use Rattle.lx_sig.specs.Sets.{has, blockable, cleaned, with_bit}
use Rattle.lx_sig.specs.Sigaction.{action_in, action_bytes, new_action, has_other_flags, may_set, acted, sigaction}
use Rattle.lx_sig.specs.Sigprocmask.{new_set, may_mask, masked, mask_changed, sigprocmask}
use Rattle.lx_sig.specs.declared.reactions.Reaction.TheVariants as reaction_is
use Rattle.lx_sound.specs.Masks.{IsMask, AreSignals}
use Rattle.lx_sound.proofs.Maps.{some_is}

abbrev mask_of : Action → ℕ
mask_of a = a.mask

abbrev no_cause : Option Cause
no_cause = None

nothing : (n i : ℕ) → get_or (replicate n no_cause) i no_cause ≡ no_cause
nothing zero i = refl
nothing (suc n) zero = refl
nothing (suc n) (suc i) = nothing n i

all_default : (n i : ℕ) → get_or (replicate n default) i default ≡ default
all_default zero i = refl
all_default (suc n) zero = refl
all_default (suc n) (suc i) = all_default n i

both_true : (x y : Bool) → (x && y) ≡ true → (x ≡ true) × (y ≡ true)
both_true true y h = (refl, h)
both_true false y h = absurd (cc h)

-- Sets.

abbrev one : ℕ → Bool
one n = n == 1

bit_is : (x : ℕ) → x < 2 → (x ≡ 0) ⊎ (x ≡ 1)
bit_is x lt = grind (arith, lt)

none_of_both : (x y : ℕ) → x ≡ 0 → y ≡ 0 → one (max x y) ≡ true → ⊥
none_of_both x y first second e = let it : one (max 0 0) ≡ true = subst (λ j. one (max 0 j) ≡ true) second (subst (λ i. one (max i y) ≡ true) first e) in cc it

most : (x y : ℕ) → x < 2 → y < 2 → one (max x y) ≡ true → (one x ≡ true) ⊎ (one y ≡ true)
most x y lx ly e = ⊎_elim (λ first. ⊎_elim (λ second. absurd (none_of_both x y first second e)) (λ is. inr (ap one is)) (bit_is y ly)) (λ is. inl (ap one is)) (bit_is x lx)

-- the least of two bits is no bit where either is none
least_none : (x y : ℕ) → (x ≡ 0) ⊎ (y ≡ 0) → x < 2 → y < 2 → one (min x y) ≡ true → ⊥
least_none x y either lx ly e = ⊎_elim
    (λ first. ⊎_elim (λ second. at 0 0 first second refl) (λ is. at 0 1 first is refl) (bit_is y ly))
    (λ second. ⊎_elim (λ first. at 0 0 first second refl) (λ is. at 1 0 is second refl) (bit_is x lx))
    either
  where
    at : (i j : ℕ) → x ≡ i → y ≡ j → one (min i j) ≡ false → ⊥
    at i j xi yj f = let it : one (min i j) ≡ true = subst (λ n. one (min i n) ≡ true) yj (subst (λ n. one (min n y) ≡ true) xi e) in cc (it, f)

least : (x y : ℕ) → x < 2 → y < 2 → one (min x y) ≡ true → (one x ≡ true) × (one y ≡ true)
least x y lx ly e = (
  ⊎_elim (λ first. absurd (least_none x y (inl first) lx ly e)) (λ is. ap one is) (bit_is x lx),
  ⊎_elim (λ second. absurd (least_none x y (inr second) lx ly e)) (λ is. ap one is) (bit_is y ly),
)

in_either : (a b n : ℕ) → has (bit_or a b) n ≡ true → (has a n ≡ true) ⊎ (has b n ≡ true)
in_either a b n h = most (bit_at a (n - 1)) (bit_at b (n - 1)) (bit_at-lt a (n - 1)) (bit_at-lt b (n - 1)) (sym (ap one (bit_at_or a b (n - 1))) ∙ h)

in_both : (a b n : ℕ) → has (bit_and a b) n ≡ true → (has a n ≡ true) × (has b n ≡ true)
in_both a b n h = least (bit_at a (n - 1)) (bit_at b (n - 1)) (bit_at-lt a (n - 1)) (bit_at-lt b (n - 1)) (sym (ap one (bit_at_and a b (n - 1))) ∙ h)

pub or_mask : (a b : ℕ) → IsMask a → IsMask b → IsMask (bit_or a b)
or_mask a b h g n e = ⊎_elim (λ x. h n x) (λ y. g n y) (in_either a b n e)

pub and_mask : (a b : ℕ) → IsMask a → IsMask (bit_and a b)
and_mask a b h n e = h n (in_both a b n e).0

pub cleaned_mask : (set : ℕ) → IsMask (cleaned set)
cleaned_mask set n e = (in_both set blockable n e).1

pub no_mask : IsMask 0
no_mask n e = absurd (none (bit_at 0 (n - 1)) (bit_at-zero (n - 1)) e)
  where
    none : (x : ℕ) → x ≡ 0 → one x ≡ true → ⊥
    none x is e = grind (arith, nat_tests, is, e)

-- what passes for a row of numbers passes for each
each_passes : (p : ℕ → Bool) (a n k : ℕ) → list_all p (range_with_len a n) ≡ true → a ≤ k → k < a + n → p k ≡ true
each_passes p a zero k all low high = absurd (omega (arith, low, high))
each_passes p a (suc n) k all low high = go (a == k) refl (each_passes p (a + 1) n k (both_true (p a) _ all).1)
  where
    go : (b : Bool) → (a == k) ≡ b → (a + 1 ≤ k → k < a + 1 + n → p k ≡ true) → p k ≡ true
    go true eq later = subst (λ i. p i ≡ true) (let same : a ≡ k = grind (arith, nat_tests, eq) in same) (both_true (p a) _ all).0
    go false other later = later (grind (arith, nat_tests, other, low)) (omega (arith, high))

-- SIGKILL and SIGSTOP
abbrev is_fixed : ℕ → Bool
is_fixed k = (k == 9) || (k == 19)

-- one signal, which is neither
is_fine : ℕ → Bool
is_fine k = is_fixed k || one (bit_at blockable (k - 1))

all_fine : list_all is_fine (range_with_len 1 31) ≡ true
unfolding is_fine
all_fine = refl

fine : (m : ℕ) → is_signal m ≡ true → is_fixed m ≡ false → one (bit_at blockable (m - 1)) ≡ true
unfolding is_fine
fine m signal other =
    let low : 1 ≤ m = grind (arith, nat_tests, signal) in
    let high : m < 1 + 31 = grind (arith, nat_tests, signal) in
    sym (ap (λ b. b || one (bit_at blockable (m - 1))) other) ∙ each_passes is_fine 1 31 m all_fine low high

lone_mask : (m : ℕ) → is_signal m ≡ true → is_fixed m ≡ false → IsMask (2 ^ (m - 1))
lone_mask m signal other n e = go (n - 1 == m - 1) refl
  where
    go : (b : Bool) → (n - 1 == m - 1) ≡ b → one (bit_at blockable (n - 1)) ≡ true
    go true eq = let same : m - 1 ≡ n - 1 = grind (arith, nat_tests, eq) in subst (λ i. one (bit_at blockable i) ≡ true) same (fine m signal other)
    go false un =
        let apart : n - 1 ≢ m - 1 = grind (arith, nat_tests, un) in
        let none : one (bit_at (2 ^ (m - 1)) (n - 1)) ≡ false = ap one (bit_at-pow_other (m - 1) (n - 1) apart) in
        absurd (cc (none, e))

-- an action that asks for a handler is the one that is handled
handles_own : (x a : Action) (n : ℕ) → acts x n ≡ reaction_is.Handles a → (x ≡ a) × ((x.handler == 0) ≡ false)
handles_own x a n is = go (x.handler == 0) (x.handler == 1) (is_ignored_by_default n) (is_stop n) refl is
  where
    go : (first second ignored stops : Bool) → (x.handler == 0) ≡ first → cond first (cond ignored reaction_is.Passes (cond stops reaction_is.Stops reaction_is.Ends)) (cond second reaction_is.Passes (reaction_is.Handles x)) ≡ reaction_is.Handles a → (x ≡ a) × ((x.handler == 0) ≡ false)
    go true second true stops at e = absurd (cc e)
    go true second false true at e = absurd (cc e)
    go true second false false at e = absurd (cc e)
    go false true ignored stops at e = absurd (cc e)
    go false false ignored stops at e = (cc e, at)

-- what a call of signals leaves
abbrev pub IsLeft : Outcome → Type 0
IsLeft (Err e) = Unit {0}
IsLeft (Ok c) = AreSignals c.signals

-- Pending signals.

none_set : (xs : List (Option Cause)) (n i : ℕ) → get_or xs i None ≡ None → get_or (set xs n None) i None ≡ None
none_set [] n i e = e
none_set (x ∷ xs) zero zero e = refl
none_set (x ∷ xs) zero (suc i) e = e
none_set (x ∷ xs) (suc n) zero e = e
none_set (x ∷ xs) (suc n) (suc i) e = none_set xs n i e

dropped_signals : (g : Signals) → AreSignals g → (n : ℕ) → AreSignals (dropped g n)
dropped_signals g h n = record { pending = λ i no_signal. none_set g.pending n i (h.pending i no_signal); mask = h.mask; masks = h.masks; kill = h.kill; stop = h.stop }

-- a signal that is sent takes its opposites away
opposed_signals : (g : Signals) → AreSignals g → (n : ℕ) → AreSignals (without_opposites g n)
opposed_signals g h n = go (is_stop n) (n == cont_number)
  where
    stops : AreSignals (without_stops g)
    stops =
        let a = dropped_signals g h 19 in
        let b = dropped_signals (dropped g 19) a 20 in
        let c = dropped_signals (dropped (dropped g 19) 20) b 21 in
        dropped_signals (dropped (dropped (dropped g 19) 20) 21) c 22

    go : (stop cont : Bool) → AreSignals (cond stop (dropped g cont_number) (cond cont (without_stops g) g))
    go true cont = dropped_signals g h cont_number
    go false true = stops
    go false false = h

-- where a process stands by job control is no matter
pub job_signals : (g : Signals) → AreSignals g → (j : Job) → AreSignals (with_job g j)
job_signals g h j = record { pending = h.pending; mask = h.mask; masks = h.masks; kill = h.kill; stop = h.stop }

noticed_signals : (g : Signals) → AreSignals g → (n : ℕ) → AreSignals (noticed g n)
noticed_signals g h n = go (n == cont_number)
  where
    go : (b : Bool) → AreSignals (cond b (with_job g (continued g.job)) g)
    go true = job_signals g h (continued g.job)
    go false = h

module _ (g : Signals) (h : AreSignals g) where
  pending_set : (s : Signal) (o : Option Cause) (n : ℕ) → is_signal n ≡ false → get_or (set g.pending s.number o) n None ≡ None
  pending_set s o n no_signal =
      let apart : n ≢ s.number = (λ same. let is : is_signal n ≡ true = ap is_signal same ∙ s.in_range in cc (is, no_signal)) in
      get_or-set_other g.pending s.number n o None apart ∙ h.pending n no_signal

  added_signals : (s : Signal) (cause : Cause) → AreSignals (added g s.number cause)
  added_signals s cause = go (is_some (cause_of g s.number))
    where
      go : (b : Bool) → AreSignals (cond b g (record g { pending = set g.pending s.number (Some cause) }))
      go true = h
      go false = record { pending = pending_set s (Some cause); mask = h.mask; masks = h.masks; kill = h.kill; stop = h.stop }

  pub taken_signals : (s : Signal) → AreSignals (without_pending g s)
  taken_signals s = job_signals (dropped g s.number) (dropped_signals g h s.number) (job_of s.number)

  pub settled_signals : AreSignals (settled g)
  settled_signals = job_signals g h Free

  -- Masks.

  pub masked_signals : (set : ℕ) → IsMask set → AreSignals (record g { mask = set })
  masked_signals set mask = record { pending = h.pending; mask = mask; masks = h.masks; kill = h.kill; stop = h.stop }

  handled_is_other : (s : Signal) (cause : Cause) (a : Action) → reaction g s cause ≡ reaction_is.Handles a → (action_of g s.number ≡ a) × (is_fixed s.number ≡ false)
  handled_is_other s cause a is = go (is_fault cause && (has g.mask s.number || is_ignored g s.number)) is
    where
      not_default : (n : ℕ) → action_of g n ≡ default → (b : Bool) → (s.number == n) ≡ b → ((action_of g s.number).handler == 0) ≡ false → b ≡ false
      not_default n default false e at = refl
      not_default n default true e at =
          let number : s.number ≡ n = grind (arith, nat_tests, e) in
          let zero_handler : ((action_of g s.number).handler == 0) ≡ true = ap (λ n. (action_of g n).handler == 0) number ∙ ap (λ (x : Action). x.handler == 0) default in
          absurd (cc (zero_handler, at))

      neither : (x y : Bool) → x ≡ false → y ≡ false → (x || y) ≡ false
      neither true y e f = absurd (cc e)
      neither false y e f = f

      go : (b : Bool) → cond b reaction_is.Ends (acts (action_of g s.number) s.number) ≡ reaction_is.Handles a → (action_of g s.number ≡ a) × (is_fixed s.number ≡ false)
      go true e = absurd (cc e)
      go false e =
          let it = handles_own (action_of g s.number) a s.number e in
          (it.0, neither (s.number == 9) (s.number == 19) (not_default 9 h.kill (s.number == 9) refl it.1) (not_default 19 h.stop (s.number == 19) refl it.1))

  pub blocked_signals : (s : Signal) (cause : Cause) (a : Action) → reaction g s cause ≡ reaction_is.Handles a → AreSignals (blocking g s a)
  blocked_signals s cause a is =
      let it = handled_is_other s cause a is in
      let own : IsMask a.mask = subst (λ x. IsMask (mask_of x)) it.0 (h.masks s.number) in
      masked_signals (handler_mask g.mask s a) (go (defers_nothing a) (or_mask g.mask a.mask h.mask own) it.1)
    where
      go : (b : Bool) → IsMask (bit_or g.mask a.mask) → is_fixed s.number ≡ false → IsMask (cond b (bit_or g.mask a.mask) (with_bit (bit_or g.mask a.mask) s.number))
      go true both other = both
      go false both other = or_mask (bit_or g.mask a.mask) (2 ^ (s.number - 1)) both (lone_mask s.number s.in_range other)

  pub popped_signals : (bytes : List ℕ) → AreSignals (popped_mask g bytes)
  popped_signals bytes = masked_signals (cleaned (word_of bytes 32)) (cleaned_mask (word_of bytes 32))

  -- Actions.

  pub exec_signals : AreSignals (after_exec g)
  exec_signals = record { pending = h.pending; mask = h.mask; masks = masks; kill = mapped 9 ∙ ap without_handler h.kill; stop = mapped 19 ∙ ap without_handler h.stop }
    where
      mapped : (n : ℕ) → action_of (after_exec g) n ≡ without_handler (action_of g n)
      mapped n = get_or-map without_handler g.actions n default

      either : (a : Action) (b : Bool) → IsMask a.mask → IsMask (mask_of (cond b default a))
      either a true mask = no_mask
      either a false mask = mask

      masks : (n : ℕ) → IsMask (action_of (after_exec g) n).mask
      masks n = subst (λ x. IsMask (mask_of x)) (sym (mapped n)) (either (action_of g n) (nat_lt 1 (action_of g n).handler) (h.masks n))

  pub child_signals : AreSignals (of_child g)
  child_signals = record { pending = λ n no_signal. nothing 32 n; mask = h.mask; masks = h.masks; kill = h.kill; stop = h.stop }

  leaves_signals : (m : Result Memory ℕ) (x : Signals) → AreSignals x → IsLeft (leaves m x)
  leaves_signals (Err e) x k = tt
  leaves_signals (Ok m) x k = k

  either_left : (b : Bool) (x y : Outcome) → IsLeft x → IsLeft y → IsLeft (cond b x y)
  either_left true x y k j = k
  either_left false x y k j = j

  set_action : (n : ℕ) (a : Action) → IsMask a.mask → is_fixed n ≡ false → AreSignals (record g { actions = set g.actions n a })
  set_action n a mask other = record {
    pending = h.pending;
    mask = h.mask;
    masks = λ i. go i (i == n) refl;
    kill = get_or-set_other g.actions n 9 a default (λ same. let e : is_fixed n ≡ true = ap is_fixed (sym same) in cc (e, other)) ∙ h.kill;
    stop = get_or-set_other g.actions n 19 a default (λ same. let e : is_fixed n ≡ true = ap is_fixed (sym same) in cc (e, other)) ∙ h.stop;
  }
    where
      here : (b : Bool) → nat_lt n (length g.actions) ≡ b → IsMask (mask_of (get_or (set g.actions n a) n default))
      here true lt = let low : n < length g.actions = grind (arith, nat_tests, lt) in subst (λ x. IsMask (mask_of x)) (sym (get_or-set_same g.actions n a default low)) mask
      here false past =
          let high : length g.actions ≤ n = grind (arith, nat_tests, past) in
          subst (λ (xs : List Action). IsMask (mask_of (get_or xs n default))) (sym (set_past g.actions n a high)) (h.masks n)

      go : (i : ℕ) (b : Bool) → (i == n) ≡ b → IsMask (mask_of (get_or (set g.actions n a) i default))
      go i false un =
          let apart : i ≢ n = grind (arith, nat_tests, un) in
          subst (λ x. IsMask (mask_of x)) (sym (get_or-set_other g.actions n i a default apart)) (h.masks i)
      go i true eq =
          let same : n ≡ i = grind (arith, nat_tests, eq) in
          subst (λ j. IsMask (mask_of (get_or (set g.actions n a) j default))) same (here (nat_lt n (length g.actions)) refl)

  may_not_fixed : (n : ℕ) (a : Action) → may_set n (Some a) ≡ true → is_fixed n ≡ false
  may_not_fixed n a = go (is_signal n) (n == 9) (n == 19) (not (has_other_flags a.flags))
    where
      go : (signal kill stop plain : Bool) → (signal && not kill && not stop && plain) ≡ true → (kill || stop) ≡ false
      go false kill stop plain e = absurd (cc e)
      go true true stop plain e = absurd (cc e)
      go true false true plain e = absurd (cc e)
      go true false false plain e = refl

  acted_signals : (m : Memory) (n : ℕ) (new : Option Action) (old : ℕ) → ((a : Action) → new ≡ Some a → IsMask a.mask) → IsLeft (acted g m n new old)
  unfolding acted
  acted_signals m n None old mask = either_left (may_set n None) _ _ (leaves_signals (given m old (action_bytes (action_of g n))) g h) tt
  acted_signals m n (Some a) old mask = go (may_set n (Some a)) refl
    where
      go : (b : Bool) → may_set n (Some a) ≡ b → IsLeft (cond b (leaves (given m old (action_bytes (action_of g n))) (record g { actions = set g.actions n a })) (Err einval))
      go true may = leaves_signals (given m old (action_bytes (action_of g n))) (record g { actions = set g.actions n a }) (set_action n a (mask a refl) (may_not_fixed n a may))
      go false may = tt

  read_mask : (m : Memory) (at : ℕ) (a : Action) → new_action m at ≡ Some a → IsMask a.mask
  read_mask m at a = go (at == 0)
    where
      go : (b : Bool) → cond b None (Some (action_in (bytes_at m at 24))) ≡ Some a → IsMask a.mask
      go true is = absurd (cc is)
      go false is =
          let same : action_in (bytes_at m at 24) ≡ a = some_is (action_in (bytes_at m at 24)) a is in
          subst (λ x. IsMask (mask_of x)) same (cleaned_mask (word_of (bytes_at m at 24) 2))

  pub sigaction_signals : (m : Memory) (call : Call) → IsLeft (sigaction g m call)
  unfolding sigaction
  sigaction_signals m call =
      either_left (not (argument call 3 == 8)) _ _ tt
      (either_left (is_unreadable m (argument call 1) 24) _ _ tt
      (acted_signals m (low_argument call 0) (new_action m (argument call 1)) (argument call 2) (read_mask m (argument call 1))))

  masked_is : (mask how set : ℕ) → IsMask mask → IsMask set → IsMask (masked mask how set)
  masked_is mask how set k j = go (how == 0) (how == 1)
    where
      go : (first second : Bool) → IsMask (cond first (bit_or mask set) (cond second (bit_and mask (2 ^ 64 - 1 - set)) set))
      go true second = or_mask mask set k j
      go false true = and_mask mask (2 ^ 64 - 1 - set) k
      go false false = j

  changed_signals : (m : Memory) (how : ℕ) (new : Option ℕ) (old : ℕ) → ((set : ℕ) → new ≡ Some set → IsMask set) → IsLeft (mask_changed g m how new old)
  unfolding mask_changed
  changed_signals m how None old mask = leaves_signals (given m old (to_le_bytes w64 g.mask)) g h
  changed_signals m how (Some set) old mask =
      either_left (may_mask how (Some set)) _ _
      (leaves_signals (given m old (to_le_bytes w64 g.mask)) (record g { mask = masked g.mask how set }) (masked_signals (masked g.mask how set) (masked_is g.mask how set h.mask (mask set refl)))) tt

  read_set : (m : Memory) (at set : ℕ) → new_set m at ≡ Some set → IsMask set
  read_set m at set = go (at == 0)
    where
      go : (b : Bool) → cond b None (Some (cleaned (from_le_bytes w64 (bytes_at m at 8)))) ≡ Some set → IsMask set
      go true is = absurd (cc is)
      go false is =
          let same : cleaned (from_le_bytes w64 (bytes_at m at 8)) ≡ set = some_is (cleaned (from_le_bytes w64 (bytes_at m at 8))) set is in
          subst IsMask same (cleaned_mask (from_le_bytes w64 (bytes_at m at 8)))

  pub sigprocmask_signals : (m : Memory) (call : Call) → IsLeft (sigprocmask g m call)
  unfolding sigprocmask
  sigprocmask_signals m call =
      either_left (not (argument call 3 == 8)) _ _ tt
      (either_left (is_unreadable m (argument call 1) 8) _ _ tt
      (changed_signals m (argument call 0) (new_set m (argument call 1)) (argument call 2) (read_set m (argument call 1))))

pub first_signals : AreSignals no_signals
first_signals = record { pending = λ n other. nothing 32 n; mask = no_mask; masks = λ n. subst (λ x. IsMask (mask_of x)) (sym (all_default 32 n)) no_mask; kill = all_default 32 9; stop = all_default 32 19 }

-- a signal is sent
pub pending_signals : (g : Signals) → AreSignals g → (s : Signal) (cause : Cause) → AreSignals (with_pending g s cause)
unfolding sent
pending_signals g h s cause =
    let rest = without_opposites g s.number in
    noticed_signals (added rest s.number cause) (added_signals rest (opposed_signals g h s.number) s cause) s.number
