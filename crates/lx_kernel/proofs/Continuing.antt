-- Instructions in a row are turns in a row, of a body alone.
use Rattle.std.proofs.Common.{◌≡◌, ◌≢◌, ℕ, zero, suc, ◌+◌, ◌<◌, ◌≤◌, Some, None, refl, ap, sym, subst, arith, ◌∙◌}
use Rattle.rv_mem.specs.Memory.{Memory}
use Rattle.rv_hart.specs.declared.hart.Hart.{Hart}
use Rattle.rv_hart.specs.declared.outcome.Step.{Step}
use Rattle.rv_hart.specs.declared.outcome.Step.TheVariants as step
use Rattle.rv_hart.specs.Faults.{signal_code}
use Rattle.rv_hart.specs.Steps.{Outcome, outcome}
use Rattle.rv_hart.specs.Steps as hart
use Rattle.rv_hart.specs.Runs.{Course, course, goes_on, run_of}
use Rattle.lx_abi.specs.declared.log.Cause.{Cause}
use Rattle.lx_abi.specs.declared.log.Cause.TheVariants.{Fault}
use Rattle.lx_abi.specs.declared.signal.Signal.{Signal}
use Rattle.lx_model.specs.Machine.{Ran, Goes, Calls, Faults}
use Rattle.lx_proc.specs.declared.state.Shared.{Shared}
use Rattle.lx_proc.specs.declared.state.UserState.{UserState}
use Rattle.lx_sig.specs.declared.state.Interrupted.{Interrupted}
use Rattle.lx_proc.specs.Registers.{made_again}
use Rattle.lx_turn.specs.Reactions.{resumed, ran_by, fault_signal}
use Rattle.lx_kernel.specs.Advances.{Follows, IsAtCall}
use Rattle.lx_turn.proofs.Steps.{kept_by}

abbrev Turns : Type 0
Turns = Ran Shared UserState

-- so many, at most the limit
abbrev Continues : ℕ → ℕ → UserState → UserState → Type 0
Continues limit n b c = (n ≤ limit) × Follows n b c

-- none
none_follows : (limit n : ℕ) (b c : UserState) → 0 ≡ n → b ≡ c → Continues limit n b c
none_follows limit n b c none same = (omega (arith, none), subst (λ n. Follows n b c) none same)

-- one more
one_more : (limit n : ℕ) (b d c : UserState) → resumed b b.interrupted ≡ Goes d → Continues limit n d c → Continues (suc limit) (suc n) b c
one_more limit n b d c goes rest =
    let within : n ≤ limit = rest.0 in
    (omega (arith, within), (d, goes, rest.1))

module _ (b : UserState) (none : b.interrupted ≡ None) where
  abbrev first : Outcome
  first = hart.stepped b.hart b.memory

  -- the body after its first step
  abbrev next : UserState
  next = record b { hart = first.hart; memory = first.memory }

  -- what the first step did, as a turn
  resumed_by : (t : Step) → first.step ≡ t → resumed b b.interrupted ≡ ran_by b first t
  resumed_by t is = ap (resumed b) none ∙ ap (ran_by b first) is

  -- a step that ran nothing left the body
  same_user : (t : Step) (s : Step) (h : Hart) (m : Memory) → (first.hart ≡ b.hart) × (first.memory ≡ b.memory) → first ≡ outcome s h m → b ≡ record b { hart = h; memory = m }
  same_user t s h m kept last =
      let harts : b.hart ≡ h = sym kept.0 ∙ ap (λ o. o.hart) last in
      let memories : b.memory ≡ m = sym kept.1 ∙ ap (λ o. o.memory) last in
      λ i. record b { hart = harts i; memory = memories i }

  by_first : (t : Step) (l n : ℕ) (s : Step) (h : Hart) (m : Memory) → first.step ≡ t → goes_on t first (run_of l first.hart first.memory) ≡ course n (outcome s h m)
      → ((k : ℕ) → run_of l first.hart first.memory ≡ course k (outcome s h m) → Continues l k next (record b { hart = h; memory = m }))
      → Continues (suc l) n b (record b { hart = h; memory = m })
  by_first step.Ran l n s h m is e rest =
      let ran : Course = run_of l first.hart first.memory in
      let counted : ran.ran + 1 ≡ n = ap (λ q. q.ran) e in
      let count : suc ran.ran ≡ n = omega (arith, counted) in
      subst (λ n. Continues (suc l) n b (record b { hart = h; memory = m })) count
      (one_more l ran.ran b next (record b { hart = h; memory = m }) (resumed_by step.Ran is) (rest ran.ran (ap (λ q. course ran.ran q.last) e)))
  by_first step.Call l n s h m is e rest =
      none_follows (suc l) n b (record b { hart = h; memory = m }) (ap (λ q. q.ran) e)
      (same_user step.Call s h m (kept_by b.hart b.memory step.Call first.hart first.memory (ap (λ t. outcome t first.hart first.memory) is)) (ap (λ q. q.last) e))
  by_first (step.Fault kind address) l n s h m is e rest =
      none_follows (suc l) n b (record b { hart = h; memory = m }) (ap (λ q. q.ran) e)
      (same_user (step.Fault kind address) s h m (kept_by b.hart b.memory (step.Fault kind address) first.hart first.memory (ap (λ t. outcome t first.hart first.memory) is)) (ap (λ q. q.last) e))

  -- steps that end at a call
  call_by : (t : Step) (l n : ℕ) (h : Hart) (m : Memory) → first.step ≡ t → goes_on t first (run_of l first.hart first.memory) ≡ course n (outcome step.Call h m)
      → ((k : ℕ) → run_of l first.hart first.memory ≡ course k (outcome step.Call h m) → IsAtCall (record b { hart = h; memory = m }))
      → IsAtCall (record b { hart = h; memory = m })
  call_by step.Ran l n h m is e rest =
      let ran : Course = run_of l first.hart first.memory in
      rest ran.ran (ap (λ q. course ran.ran q.last) e)
  call_by step.Call l n h m is e rest =
      subst IsAtCall
      (same_user step.Call step.Call h m (kept_by b.hart b.memory step.Call first.hart first.memory (ap (λ t. outcome t first.hart first.memory) is)) (ap (λ q. q.last) e))
      (resumed_by step.Call is)
  call_by (step.Fault kind address) l n h m is e rest =
      let never : ◌≡◌ {A = Step} (step.Fault kind address) step.Call = sym is ∙ ap (λ q. q.last.step) e in
      absurd (cc never)

-- a run of instructions is a row of turns
pub run_continues : (limit : ℕ) (b : UserState) → b.interrupted ≡ None → (n : ℕ) (s : Step) (h : Hart) (m : Memory) → run_of limit b.hart b.memory ≡ course n (outcome s h m) → Continues limit n b (record b { hart = h; memory = m })
unfolding run_of
run_continues zero b none n s h m e =
    none_follows zero n b (record b { hart = h; memory = m }) (ap (λ q. q.ran) e)
    (λ i. record b { hart = (e i).last.hart; memory = (e i).last.memory })
run_continues (suc l) b none n s h m e =
    by_first b none (hart.stepped b.hart b.memory).step l n s h m refl e (λ k. run_continues l (next b none) none k s h m)

-- and what ended at an ecall stands at a call
ends_at_call : (limit : ℕ) (b : UserState) → b.interrupted ≡ None → (n : ℕ) (h : Hart) (m : Memory) → run_of limit b.hart b.memory ≡ course n (outcome step.Call h m) → IsAtCall (record b { hart = h; memory = m })
unfolding run_of
ends_at_call zero b none n h m e =
    let never : ◌≡◌ {A = Step} step.Ran step.Call = ap (λ q. q.last.step) e in
    absurd (cc never)
ends_at_call (suc l) b none n h m e =
    call_by b none (hart.stepped b.hart b.memory).step l n h m refl e (λ k. ends_at_call l (next b none) none k h m)

pub run_calls : (limit : ℕ) (b : UserState) → b.interrupted ≡ None → (n : ℕ) (s : Step) (h : Hart) (m : Memory) → run_of limit b.hart b.memory ≡ course n (outcome s h m) → s ≡ step.Call → IsAtCall (record b { hart = h; memory = m })
run_calls limit b none n s h m e called = ends_at_call limit b none n h m (e ∙ ap (λ t. course n (outcome t h m)) called)

-- an interrupted call is made again, and then instructions run
pub again_follows : (n : ℕ) (b c : UserState) (at : Interrupted) → b.interrupted ≡ Some at → Follows n (made_again b at) c → Follows (suc n) b c
again_follows n b c at is rest = (made_again b at, ap (resumed b) is, rest)
