-- What holds of each answer of a call on processes, memory or signals.
use Rattle.std.proofs.Common.{◌≡◌, ℕ, Bool, true, false, cond, List, length, Option, Some, None, refl, sym, subst, arith}
use Rattle.std.proofs.lemmas.Bool.Decides.{nat_tests}
use Rattle.std.specs.Prelude.{◌==◌, ◌||◌, ◌*◌, ◌%◌, nat_lt, not, is_some, is_none}
use Rattle.std.specs.Option.{unwrap_or}
use Rattle.std.specs.Int.{w32, to_le_bytes}
use Rattle.std.specs.FinMap as maps
use Rattle.rv_mem.specs.Memory.{Memory, first_fault, written}
use Rattle.rv_mem.specs.Mapping.{mapped, unmapped, limit_fault, highest_free}
use Rattle.rv_mem.specs.declared.rights.Access.TheVariants as access
use Rattle.elf_image.specs.Checks.{fault_of}
use Rattle.elf_image.specs.Images.{image_of}
use Rattle.lx_abi.specs.Errnos.{e2big, eacces, eagain, echild, efault, einval, enametoolong, enoent, enoexec, enomem, enotdir, esrch}
use Rattle.lx_abi.specs.Limits.{path_limit, start_limit}
use Rattle.lx_abi.specs.declared.log.Call.{Call}
use Rattle.lx_abi.specs.declared.outcome.Node.{Node}
use Rattle.lx_abi.specs.declared.outcome.Node.TheVariants as node
use Rattle.lx_model.specs.Machine.{Refused, Returns, Jumps, Execs, Bears, Blocks, Ends}
use Rattle.lx_sig.specs.Frames.{return_fault, frame_at, popped_hart, popped_mask}
use Rattle.lx_sig.specs.Kill.{aim}
use Rattle.lx_sig.specs.Sigaction.{sigaction}
use Rattle.lx_sig.specs.Sigprocmask.{sigprocmask}
use Rattle.lx_sig.specs.declared.kill.Aim.{Aim}
use Rattle.lx_files.specs.Places.{place, path_of}
use Rattle.lx_files.specs.Trees.{node_at}
use Rattle.lx_files.specs.declared.places.Place.{Place}
use Rattle.lx_proc.specs.declared.state.Entry.{Entry}
use Rattle.lx_proc.specs.declared.state.Heap.{Heap}
use Rattle.lx_proc.specs.declared.state.Shared.{Shared}
use Rattle.lx_proc.specs.declared.state.UserState.{UserState}
use Rattle.lx_proc.specs.State.{directory, with_hart, with_memory, with_signals_at}
use Rattle.lx_proc.specs.Texts.{Text, Whole, TooLong, Unreadable, text_at, list_at}
use Rattle.lx_proc.specs.Answers.{Answers, argument, low_argument, given, at_entry}
use Rattle.lx_proc.specs.Refusals.{is_error_of}
use Rattle.lx_exec.specs.Execve.{execve, program, with_path, runs_at, runs_node, runs_file, renews, renewed}
use Rattle.lx_exec.specs.Pages.{pages_for, rights_for}
use Rattle.lx_exec.specs.Programs.{start_size, started}
use Rattle.lx_pcalls.specs.Brk.{brk, may_end, grown, with_heap, grows, resizes, shrunk}
use Rattle.lx_pcalls.specs.Calls.{process_call}
use Rattle.lx_pcalls.specs.Clone.{clone, bears, fork_flags, has_room, with_child, child_entry, child_user}
use Rattle.lx_pcalls.specs.Errors.{process_errors}
use Rattle.lx_pcalls.specs.Exit.{exit}
use Rattle.lx_pcalls.specs.Getpid.{getpid}
use Rattle.lx_pcalls.specs.Getppid.{getppid}
use Rattle.lx_pcalls.specs.Kill.{kill, sends}
use Rattle.lx_pcalls.specs.Mmap.{mmap, may_map, maps_at, map_low, map_high}
use Rattle.lx_pcalls.specs.Munmap.{munmap, may_unmap}
use Rattle.lx_pcalls.specs.RtSigaction.{rt_sigaction}
use Rattle.lx_pcalls.specs.RtSigprocmask.{rt_sigprocmask}
use Rattle.lx_pcalls.specs.RtSigreturn.{rt_sigreturn}
use Rattle.lx_pcalls.specs.SchedYield.{sched_yield}
use Rattle.lx_pcalls.specs.Signals.{leaves}
use Rattle.lx_pcalls.specs.Wait4.{wait4, waits, reaps, told_child, may_wait, no_hang, first_child, word_in}
use Rattle.lx_proc.proofs.Checks as checks
use Rattle.lx_proc.proofs.Placing.{place_error}

-- what is to be shown of a property, that it hold of each answer of a call on processes, memory or signals
pub record OfProcesses (s : Shared) (child p : ℕ) (call : Call) (b : UserState) (P : Answers → Type 0) : Type 0 where
  -- with an error of the call's row; a caller has an entry
  pub refuses : (e : ℕ) → (is_some (maps.get s.entries p) ≡ true → is_error_of process_errors call.number e ≡ true) → P (Refused e)
  pub waits : (call.number == 260) ≡ true → P Blocks
  pub returns : (x : ℕ) → P (Returns s b x)
  -- pages of the caller go, and come where there is room for them
  pub loses : (a n : ℕ) (heap : Heap) (x : ℕ) → P (Returns s (record b { memory = unmapped b.memory a n; heap = heap }) x)
  pub gains : (m : Memory) (heap : Heap) (x : ℕ) → is_none (limit_fault m) ≡ true → P (Returns s (record b { memory = m; heap = heap }) x)
  -- the caller's signals
  pub acts : (e : Entry) → maps.get s.entries p ≡ Some e → (call.number == 134) ≡ true → P (leaves s p b (sigaction e.signals b.memory call))
  pub masks : (e : Entry) → maps.get s.entries p ≡ Some e → (call.number == 135) ≡ true → P (leaves s p b (sigprocmask e.signals b.memory call))
  pub restores : (e : Entry) → maps.get s.entries p ≡ Some e → P (Jumps (with_signals_at s p (popped_mask e.signals (frame_at b.memory b.hart))) (with_hart b (popped_hart (frame_at b.memory b.hart))))
  -- a signal is sent; a child is told of; one is born
  pub sends : (a : Aim) → (call.number == 129) ≡ true → aim call ≡ Some a → P (Returns (sends s p a.pid a.signal) b 0)
  pub tells : (n : ℕ) → first_child s.entries p (low_argument call 0) (Some (argument call 2)) ≡ Some n → (call.number == 260) ≡ true → P (Returns (told_child s n) b n)
  pub writes : (n at : ℕ) (bytes : List ℕ) → first_child s.entries p (low_argument call 0) (Some (argument call 2)) ≡ Some n → (call.number == 260) ≡ true → P (Returns (told_child s n) (with_memory b (written b.memory at bytes)) n)
  pub bears : (e : Entry) → maps.get s.entries p ≡ Some e → (call.number == 220) ≡ true → has_room s child ≡ true → P (Bears (with_child s child p (child_entry e p)) b (child_user b (argument call 1)))
  -- a program begins; the process ends
  pub execs : (content : List ℕ) (argv env : List (List ℕ)) → (call.number == 221) ≡ true → fault_of content ≡ None → P (Execs (renewed s p) (started (image_of content) argv env))
  pub ends : (call.number == 93 || call.number == 94) ≡ true → P (Ends (argument call 0 % 256 * 256))

number_is : (n m : ℕ) → (n == m) ≡ true → n ≡ m
number_is n m h = grind (arith, nat_tests)

none_of : {A : Type 0} (o : Option A) → is_some o ≡ false → o ≡ None
none_of None e = refl
none_of (Some x) e = absurd (cc e)

abbrev pub HoldsIf : (Answers → Type 0) → Option Answers → Type 0
HoldsIf P None = Unit {0}
HoldsIf P (Some a) = P a

module _ (s : Shared) (child p : ℕ) (call : Call) (b : UserState) (P : Answers → Type 0) (of : OfProcesses s child p call b P) where
  abbrev Is : ℕ → Type 0
  Is n = (call.number == n) ≡ true

  -- an error that stands in the row of a call
  no : (n : ℕ) → Is n → (e : ℕ) → is_error_of process_errors n e ≡ true → P (Refused e)
  no n is e listed = of.refuses e (λ some. subst (λ m. is_error_of process_errors m e ≡ true) (sym (number_is call.number n is)) listed)

  entry_holds : (f : Entry → Answers) → ((e : Entry) → maps.get s.entries p ≡ Some e → P (f e)) → P (at_entry s p f)
  entry_holds f h = go (maps.get s.entries p) refl
    where
      go : (o : Option Entry) → maps.get s.entries p ≡ o → P (given o esrch f)
      go None here = of.refuses esrch (λ some. absurd (cc (some, here)))
      go (Some e) here = h e here

  kill_holds : Is 129 → P (kill s p call b)
  unfolding kill process_errors
  kill_holds k =
      checks.named P (aim call) _ _ (no 129 k einval refl) (λ a is.
      checks.named P (maps.get s.entries a.pid) _ _ (no 129 k esrch refl) (λ e there. of.sends a k is))

  rt_sigaction_holds : Is 134 → P (rt_sigaction s p call b)
  rt_sigaction_holds k = entry_holds _ (λ e there. of.acts e there k)

  rt_sigprocmask_holds : Is 135 → P (rt_sigprocmask s p call b)
  rt_sigprocmask_holds k = entry_holds _ (λ e there. of.masks e there k)

  rt_sigreturn_holds : Is 139 → P (rt_sigreturn s p b)
  unfolding process_errors
  rt_sigreturn_holds k =
      entry_holds _ (λ e there. checks.checked P (not (is_some (return_fault b.memory b.hart))) _ _ (no 139 k efault refl) (λ whole. of.restores e there))

  getppid_holds : P (getppid s p b)
  getppid_holds = entry_holds _ (λ e there. of.returns e.parent)

  -- the heap

  abbrev Body : UserState → Type 0
  Body c = P (Returns s c c.heap.end)

  either_body : (t : Bool) (c d : UserState) → (t ≡ true → Body c) → Body d → Body (cond t c d)
  either_body true c d h g = h refl
  either_body false c d h g = g

  brk_holds : P (brk s call b)
  unfolding brk
  brk_holds =
      let x = argument call 0 in
      let heap : Heap = record b.heap { end = x } in
      either_body (may_end b.heap x) (resizes b x) b (λ may.
      either_body (nat_lt b.heap.end x) (grows b x) (with_heap b (shrunk b.memory b.heap.end x) x) (λ more.
      either_body (is_none (limit_fault (grown b.memory b.heap.end x))) (with_heap b (grown b.memory b.heap.end x) x) b (λ fits. of.gains (grown b.memory b.heap.end x) heap x fits) (of.returns b.heap.end))
      (of.loses _ _ heap x)) (of.returns b.heap.end)

  munmap_holds : Is 215 → P (munmap s call b)
  unfolding munmap process_errors
  munmap_holds k = checks.checked P (may_unmap (argument call 0) (argument call 1)) _ _ (no 215 k einval refl) (λ may. of.loses _ _ b.heap 0)

  mmap_holds : Is 222 → P (mmap s call b)
  unfolding mmap process_errors
  mmap_holds k =
      let pages = pages_for (argument call 1) in
      let rights = rights_for (argument call 2) in
      checks.checked P (may_map call) _ _ (no 222 k einval refl) (λ may.
      checks.named P (highest_free b.memory pages map_low map_high) _ (maps_at s b pages rights) (no 222 k enomem refl) (λ a free.
      checks.checked P (is_none (limit_fault (mapped b.memory a (4096 * pages) rights))) _ _ (no 222 k enomem refl) (λ fits. of.gains (mapped b.memory a (4096 * pages) rights) b.heap a fits)))

  -- wait4

  reaps_holds : Is 260 → (n word : ℕ) → first_child s.entries p (low_argument call 0) (Some (argument call 2)) ≡ Some n → P (reaps s b call n word)
  unfolding process_errors
  reaps_holds k n word found =
      checks.either P (argument call 1 == 0) _ _ (λ none. of.tells n found k) (λ some.
      checks.either P (is_some (first_fault access.Write b.memory (argument call 1) (length (to_le_bytes w32 word)))) _ _ (λ fault. no 260 k efault refl) (λ whole. of.writes n (argument call 1) (to_le_bytes w32 word) found k))

  waits_holds : Is 260 → (o : Option ℕ) → first_child s.entries p (low_argument call 0) (Some (argument call 2)) ≡ o → P (waits s b call o)
  unfolding process_errors
  waits_holds k None found = checks.either P (no_hang call) _ _ (λ no. of.returns 0) (λ may. of.waits k)
  waits_holds k (Some n) found = checks.named P (word_in (argument call 2) (maps.get s.entries n)) _ _ (no 260 k echild refl) (λ word is. reaps_holds k n word found)

  wait4_holds : Is 260 → P (wait4 s p call b)
  unfolding wait4 process_errors
  wait4_holds k =
      checks.checked P (may_wait call) _ _ (no 260 k einval refl) (λ may.
      checks.checked P (is_some (first_child s.entries p (low_argument call 0) None)) _ _ (no 260 k echild refl) (λ has.
      waits_holds k (first_child s.entries p (low_argument call 0) (Some (argument call 2))) refl))

  clone_holds : Is 220 → P (clone s child p call b)
  unfolding clone process_errors
  clone_holds k =
      checks.checked P (argument call 0 == fork_flags) _ _ (no 220 k einval refl) (λ flags. entry_holds (bears s child p call b) (λ e there.
      checks.checked P (has_room s child) _ _ (no 220 k eagain refl) (of.bears e there k)))

  -- execve

  abbrev Begins : Answers → Type 0
  Begins a = P (renews p a)

  module _ (k : Is 221) where
    file_begins : (slashed : Bool) (content : List ℕ) (argv env : List (List ℕ)) → Begins (runs_file s slashed content argv env)
    unfolding process_errors
    file_begins true content argv env = no 221 k enotdir refl
    file_begins false content argv env =
        checks.either Begins (is_some (fault_of content)) _ _ (λ fault. no 221 k enoexec refl) (λ whole.
        checks.either Begins (nat_lt start_limit (start_size argv env)) _ (Execs s (started (image_of content) argv env)) (λ much. no 221 k e2big refl) (λ fits.
        of.execs content argv env k (none_of (fault_of content) whole)))

    node_begins : (slashed : Bool) (o : Option Node) (argv env : List (List ℕ)) → Begins (runs_node s slashed o argv env)
    unfolding process_errors
    node_begins slashed None argv env = no 221 k enoent refl
    node_begins slashed (Some node.Directory) argv env = no 221 k eacces refl
    node_begins slashed (Some (node.File content)) argv env = file_begins slashed content argv env

    path_begins : (t : Text) → Begins (with_path s p call b t)
    unfolding process_errors
    path_begins Unreadable = no 221 k efault refl
    path_begins TooLong = no 221 k enametoolong refl
    path_begins (Whole path) =
        checks.named Begins (list_at b.memory (argument call 1)) _ _ (no 221 k efault refl) (λ argv there.
        checks.named Begins (list_at b.memory (argument call 2)) _ _ (no 221 k efault refl) (λ env here.
        checks.allowed Begins (place s.tree (directory s p) path) (runs_at s argv env)
        (place_error (λ e. P (Refused e)) (no 221 k enoent refl) (no 221 k enotdir refl) (no 221 k enametoolong refl) s.tree (directory s p) path)
        (λ (at : Place) is. node_begins at.slashed (node_at s.tree (path_of at)) argv env)))

    execve_holds : P (execve s p call b)
    unfolding execve program
    execve_holds = path_begins (text_at b.memory path_limit (argument call 0))

  -- by their numbers

  left_is : (x y : Bool) → x ≡ true → (x || y) ≡ true
  left_is true y h = refl
  left_is false y h = absurd (cc h)

  right_is : (x y : Bool) → y ≡ true → (x || y) ≡ true
  right_is true y h = refl
  right_is false y h = h

  -- all of them

  step : (k : ℕ) (a : Answers) (rest : Option Answers) → ((call.number == k) ≡ true → P a) → HoldsIf P rest → HoldsIf P (cond (call.number == k) (Some a) rest)
  step k a rest h after = go (call.number == k) refl
    where
      go : (c : Bool) → (call.number == k) ≡ c → HoldsIf P (cond c (Some a) rest)
      go true e = h e
      go false e = after

  pub any_holds : HoldsIf P (process_call s child p call b)
  unfolding process_call
  any_holds =
      step 93 (exit call) _ (λ e. of.ends (left_is (call.number == 93) (call.number == 94) e))
      (step 94 (exit call) _ (λ e. of.ends (right_is (call.number == 93) (call.number == 94) e))
      (step 124 (sched_yield s b) _ (λ e. of.returns 0)
      (step 129 (kill s p call b) _ kill_holds
      (step 134 (rt_sigaction s p call b) _ rt_sigaction_holds
      (step 135 (rt_sigprocmask s p call b) _ rt_sigprocmask_holds
      (step 139 (rt_sigreturn s p b) _ rt_sigreturn_holds
      (step 172 (getpid s p b) _ (λ e. of.returns p)
      (step 173 (getppid s p b) _ (λ e. getppid_holds)
      (step 178 (getpid s p b) _ (λ e. of.returns p)
      (step 214 (brk s call b) _ (λ e. brk_holds)
      (step 215 (munmap s call b) _ munmap_holds
      (step 220 (clone s child p call b) _ clone_holds
      (step 221 (execve s p call b) _ execve_holds
      (step 222 (mmap s call b) _ mmap_holds
      (step 260 (wait4 s p call b) None wait4_holds tt)))))))))))))))

  or_other : (o : Option Answers) (other : Answers) → HoldsIf P o → P other → P (unwrap_or o other)
  or_other None other h g = g
  or_other (Some a) other h g = h

  pub processes_hold : (other : Answers) → P other → P (unwrap_or (process_call s child p call b) other)
  processes_hold other g = or_other (process_call s child p call b) other any_holds g
