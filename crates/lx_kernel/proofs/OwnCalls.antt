-- Calls that ask only for their process's own part.
use Rattle.std.proofs.Common.{◌≡◌, ℕ, Bool, true, false, Option, Some, None, refl, ap, sym, subst, ◌∙◌}
use Rattle.std.specs.Prelude.{◌==◌, ◌||◌, ◌*◌, is_none}
use Rattle.std.specs.Option.{unwrap_or}
use Rattle.std.specs.FinMap as maps
use Rattle.rv_mem.specs.Mapping.{mapped, limit_fault, highest_free}
use Rattle.lx_abi.specs.Errnos.{einval, enomem, enosys, esrch}
use Rattle.lx_abi.specs.Errors.{error_word}
use Rattle.lx_abi.specs.declared.log.Call.{Call}
use Rattle.lx_model.specs.Machine.{Refused, Returns, Jumps, Execs, Bears, Blocks, Ends, with_result}
use Rattle.lx_model.specs.Turn.{answered, gives}
use Rattle.lx_model.specs.declared.stage.Stage.TheVariants.{Acted, Doing}
use Rattle.lx_model.specs.declared.stage.Task.{Task}
use Rattle.lx_model.specs.declared.stage.Task.TheVariants.{Alive}
use Rattle.lx_exec.specs.Pages.{pages_for, rights_for}
use Rattle.lx_proc.specs.declared.state.Shared.{Shared}
use Rattle.lx_proc.specs.declared.state.UserState.{UserState}
use Rattle.lx_proc.specs.Answers.{Answers, KeptIf, argument, is_blocked, answered as replied}
use Rattle.lx_proc.specs.declared.reply.CallReply.{CallReply}
use Rattle.lx_proc.specs.declared.reply.CallReply.TheVariants as reply
use Rattle.lx_proc.proofs.Checks as checks
use Rattle.lx_fcalls.specs.Calls.{file_call}
use Rattle.lx_pcalls.specs.Brk.{brk}
use Rattle.lx_pcalls.specs.Calls.{process_call}
use Rattle.lx_pcalls.specs.Getpid.{getpid}
use Rattle.lx_pcalls.specs.Getppid.{getppid}
use Rattle.lx_pcalls.specs.Interruption.{interruptible}
use Rattle.lx_pcalls.specs.Mmap.{mmap, may_map, maps_at, map_low, map_high}
use Rattle.lx_pcalls.specs.Munmap.{munmap, may_unmap}
use Rattle.lx_pcalls.specs.SchedYield.{sched_yield}
use Rattle.lx_turn.specs.Calls.{does, called}
use Rattle.lx_turn.specs.Linux.{linux}
use Rattle.lx_kernel.specs.Advances.{is_own, own_result, IsDone}
use Rattle.lx_kernel.proofs.Calming.{numbered}

-- it is refused, or returns and leaves what is shared
abbrev pub OwnAnswer : Shared → Answers → Type 0
OwnAnswer s (Refused e) = Unit {0}
OwnAnswer s (Returns t b x) = t ≡ s
OwnAnswer s (Jumps t b) = ⊥
OwnAnswer s (Execs t b) = ⊥
OwnAnswer s (Bears t b newborn) = ⊥
OwnAnswer s Blocks = ⊥
OwnAnswer s (Ends w) = ⊥

module _ (s : Shared) where
  module _ (p : ℕ) (call : Call) (b : UserState) where
    brk_own : OwnAnswer s (brk s call b)
    unfolding brk
    brk_own = refl

    munmap_own : OwnAnswer s (munmap s call b)
    unfolding munmap
    munmap_own = checks.checked (OwnAnswer s) (may_unmap (argument call 0) (argument call 1)) einval _ tt (λ may. refl)

    mmap_own : OwnAnswer s (mmap s call b)
    unfolding mmap
    mmap_own =
        let pages = pages_for (argument call 1) in
        let rights = rights_for (argument call 2) in
        checks.checked (OwnAnswer s) (may_map call) einval _ tt (λ may.
        checks.named (OwnAnswer s) (highest_free b.memory pages map_low map_high) enomem (maps_at s b pages rights) tt (λ a free.
        checks.checked (OwnAnswer s) (is_none (limit_fault (mapped b.memory a (4096 * pages) rights))) enomem _ tt (λ fits. refl)))

    getppid_own : OwnAnswer s (getppid s p b)
    getppid_own = checks.named (OwnAnswer s) (maps.get s.entries p) esrch _ tt (λ e there. refl)

-- a call, by its number
pub record IsOwn (s : Shared) (child p : ℕ) (call : Call) (b : UserState) : Type 0 where
  pub answer : Answers
  pub no_file : file_call s p call b ≡ None
  pub answers : process_call s child p call b ≡ Some answer
  pub own : OwnAnswer s answer

or_else : (P : Type 0) (a b : Bool) → (a || b) ≡ true → (a ≡ true → P) → (b ≡ true → P) → P
or_else P true b e left right = left refl
or_else P false b e left right = right e

module _ (s : Shared) (child p : ℕ) (call : Call) (b : UserState) where
  abbrev N : ℕ
  N = call.number

  abbrev Own : Type 0
  Own = IsOwn s child p call b

  yields : N ≡ 124 → Own
  unfolding file_call process_call
  yields h = record { answer = sched_yield s b; no_file = rw h refl; answers = rw h refl; own = refl }

  names_itself : N ≡ 172 → Own
  unfolding file_call process_call
  names_itself h = record { answer = getpid s p b; no_file = rw h refl; answers = rw h refl; own = refl }

  names_parent : N ≡ 173 → Own
  unfolding file_call process_call
  names_parent h = record { answer = getppid s p b; no_file = rw h refl; answers = rw h refl; own = getppid_own s p call b }

  names_thread : N ≡ 178 → Own
  unfolding file_call process_call
  names_thread h = record { answer = getpid s p b; no_file = rw h refl; answers = rw h refl; own = refl }

  breaks : N ≡ 214 → Own
  unfolding file_call process_call
  breaks h = record { answer = brk s call b; no_file = rw h refl; answers = rw h refl; own = brk_own s p call b }

  unmaps : N ≡ 215 → Own
  unfolding file_call process_call
  unmaps h = record { answer = munmap s call b; no_file = rw h refl; answers = rw h refl; own = munmap_own s p call b }

  maps_pages : N ≡ 222 → Own
  unfolding file_call process_call
  maps_pages h = record { answer = mmap s call b; no_file = rw h refl; answers = rw h refl; own = mmap_own s p call b }

  pub own_call : is_own N ≡ true → Own
  own_call e =
      or_else Own (N == 124) _ e (λ h. yields (numbered N 124 h)) (λ e.
      or_else Own (N == 172) _ e (λ h. names_itself (numbered N 172 h)) (λ e.
      or_else Own (N == 173) _ e (λ h. names_parent (numbered N 173 h)) (λ e.
      or_else Own (N == 178) _ e (λ h. names_thread (numbered N 178 h)) (λ e.
      or_else Own (N == 214) _ e (λ h. breaks (numbered N 214 h)) (λ e.
      or_else Own (N == 215) _ e (λ h. unmaps (numbered N 215 h)) (λ h.
      maps_pages (numbered N 222 h)))))))

  -- no signal interrupts it
  whole_is : (a : Answers) → OwnAnswer s a → interruptible s p b a ≡ a
  whole_is (Refused e) h = refl
  whole_is (Returns t c x) h = refl
  whole_is (Jumps t c) h = absurd h
  whole_is (Execs t c) h = absurd h
  whole_is (Bears t c newborn) h = absurd h
  whole_is Blocks h = absurd h
  whole_is (Ends w) h = absurd h

  module _ (own : Own) where
    called_is : called s child p call b ≡ own.answer
    called_is =
        ap (λ o. unwrap_or o (unwrap_or (process_call s child p call b) (Refused enosys))) own.no_file
        ∙ ap (λ o. unwrap_or o (Refused enosys)) own.answers

    does_is : does s child p call b ≡ own.answer
    unfolding does
    does_is = ap (interruptible s p b) called_is ∙ whole_is own.answer own.own

    -- what the code answers
    pub done_as : (a : Answers) → Some a ≡ process_call s child p call b → OwnAnswer s a × (does s child p call b ≡ a)
    done_as a is =
        let same : own.answer ≡ a = ap (λ o. unwrap_or o (Refused enosys)) (sym own.answers ∙ sym is) in
        (subst (OwnAnswer s) same own.own, does_is ∙ same)

    pub not_none : None ≡ process_call s child p call b → ⊥
    not_none is = let never : ◌≡◌ {A = Option Answers} None (Some own.answer) = is ∙ own.answers in cc never

    -- what a reply comes to, in the part that it left
    abbrev Done : Shared → UserState → ℕ → Type 0
    Done t c x = (t ≡ s) × IsDone s child p call b (with_result linux c x) x

    refused_done : (e : ℕ) → does s child p call b ≡ Refused e → IsDone s child p call b (with_result linux b (error_word e)) (error_word e)
    refused_done e is = ap (answered linux s child p b call) is

    returned_done : (t : Shared) (c : UserState) (x : ℕ) → does s child p call b ≡ Returns t c x → t ≡ s → IsDone s child p call b (with_result linux c x) x
    returned_done t c x is same = ap (answered linux s child p b call) is ∙ ap (λ t. gives t (Alive (with_result linux c x) (Acted call x false))) same

    pub reply_done : (r : Option CallReply) (t : Shared) (c : UserState) → replied r t c ≡ process_call s child p call b → KeptIf r s b t c → Done t c (own_result r)
    reply_done None t c is kept = absurd (not_none is)
    reply_done (Some (reply.Refused e)) t c is kept =
        (kept.0, subst (λ x. IsDone s child p call b (with_result linux x (error_word e.number)) (error_word e.number)) (sym kept.1) (refused_done e.number (done_as (Refused e.number) is).1))
    reply_done (Some (reply.Returned x)) t c is kept =
        let h = done_as (Returns t c x) is in
        (h.0, returned_done t c x h.1 h.0)
    reply_done (Some reply.Jumped) t c is kept = absurd (done_as (Jumps t c) is).0
    reply_done (Some reply.Execed) t c is kept = absurd (done_as (Execs t c) is).0
    reply_done (Some (reply.Bore newborn)) t c is kept = absurd (done_as (Bears t c newborn.value) is).0
    reply_done (Some reply.Blocked) t c is kept = absurd (done_as Blocks is).0
    reply_done (Some (reply.Ended w)) t c is kept = absurd (done_as (Ends w) is).0

-- who did a call didn't wait
acted_not_doing : (b c : UserState) (call : Call) (x : ℕ) → ◌≡◌ {A = Task UserState} (Alive b (Doing call)) (Alive c (Acted call x false)) → ⊥
acted_not_doing b c call x e = cc e

pub not_waiting : (s : Shared) (child p : ℕ) (call : Call) (b c : UserState) (x : ℕ) (a : Answers) → answered linux s child p b call a ≡ gives s (Alive c (Acted call x false)) → is_blocked a ≡ false
not_waiting s child p call b c x (Refused e) h = refl
not_waiting s child p call b c x (Returns t d y) h = refl
not_waiting s child p call b c x (Jumps t d) h = refl
not_waiting s child p call b c x (Execs t d) h = refl
not_waiting s child p call b c x (Bears t d newborn) h = refl
not_waiting s child p call b c x Blocks h = absurd (acted_not_doing b c call x (ap (λ o. o.task) h))
not_waiting s child p call b c x (Ends w) h = refl
