-- A refusal, a child, and a new program.
use Rattle.std.proofs.Common.{◌≡◌, ℕ, zero, suc, ◌+◌, ◌<◌, ◌≤◌, Bool, true, false, cond, Option, Some, None, refl, ap, sym, subst, ◌∙◌, arith}
use Rattle.std.proofs.lemmas.Bool.Decides.{nat_tests}
use Rattle.std.specs.Prelude.{◌==◌, nat_lt}
use Rattle.std.specs.List.{range_with_len}
use Rattle.std.specs.FinMap as maps
use Rattle.std.specs.declared.result.Result.TheVariants.{Ok, Err}
use Rattle.lx_abi.specs.Errnos.{enosys}
use Rattle.lx_abi.specs.Limits.{most_fds}
use Rattle.lx_abi.specs.declared.log.Call.{Call}
use Rattle.lx_model.specs.Machine.{Refused, Returns, Jumps, Execs, Bears, Blocks, Ends}
use Rattle.lx_model.specs.Turn.{Out, killed_or, answered}
use Rattle.lx_model.specs.declared.stage.Stage.TheVariants.{Doing}
use Rattle.lx_sig.specs.Calls.{Outcome}
use Rattle.lx_sig.specs.Sigaction.{sigaction}
use Rattle.lx_sig.specs.Sigprocmask.{sigprocmask}
use Rattle.lx_open.specs.Opens.{pair, slot}
use Rattle.lx_open.specs.Releases.{Held, closed, closed_each, closed_if_meant, closed_on_exec, is_meant, slot_closed}
use Rattle.lx_open.specs.declared.description.Slot.{Slot}
use Rattle.lx_open.specs.declared.fd_table.FdTable.{FdTable}
use Rattle.lx_files.specs.declared.tree.Tree.{Tree}
use Rattle.lx_proc.specs.Answers.{Answers}
use Rattle.lx_proc.specs.declared.state.Shared.{Shared}
use Rattle.lx_proc.specs.declared.state.UserState.{UserState}
use Rattle.lx_exec.specs.Execve.{renewed}
use Rattle.lx_fcalls.proofs.FileAnswers.{OfFiles, files_hold}
use Rattle.lx_pcalls.specs.Interruption.{interruptible, blocks_or_returns, is_interrupted}
use Rattle.lx_pcalls.specs.Signals.{leaves}
use Rattle.lx_pcalls.proofs.ProcessAnswers.{OfProcesses, processes_hold}
use Rattle.lx_turn.specs.Calls.{does, called}
use Rattle.lx_turn.specs.Linux.{linux}
use Rattle.lx_sound.proofs.Fewer.{slot_gone}
use Rattle.lx_sound.proofs.Together.{closed_other}
use Rattle.lx_laws.specs.Manual.{RefusedCallsChangeNothing, IsRefused, ChildrenBeginAlike, ProgramsKeepDescriptors}

pub refused_calls_change_nothing : RefusedCallsChangeNothing
refused_calls_change_nothing choice s child p b call e alive refused =
    let at : (x : Bool) → Out Shared UserState = λ x. killed_or x linux choice s child p b (Doing call) in
    subst (λ x. IsRefused s b call e (at x)) (sym alive)
    (subst (λ (a : Answers). IsRefused s b call e (answered linux s child p b call a)) (sym refused) (record { shared = refl; task = refl; memory = refl }))

-- What each call leaves, where it bears a child or begins a program.

abbrev Left : Shared → ℕ → UserState → Answers → Type 0
Left s p b (Refused e) = Unit {0}
Left s p b (Returns t c x) = Unit {0}
Left s p b (Jumps t c) = Unit {0}
Left s p b (Execs t c) = t ≡ renewed s p
Left s p b (Bears t c newborn) = (newborn.memory ≡ b.memory) × (c.memory ≡ b.memory)
Left s p b Blocks = Unit {0}
Left s p b (Ends w) = Unit {0}

module _ (child : ℕ) (s : Shared) (p : ℕ) (call : Call) (b : UserState) where
  signals_left : (o : Outcome) → Left s p b (leaves s p b o)
  signals_left (Err error) = tt
  signals_left (Ok c) = tt

  of_files : OfFiles s p call b (Left s p b)
  of_files = record {
    refuses = λ e listed. tt;
    waits = λ k. tt;
    returns = λ tree fds input console x. tt;
    writes = λ tree fds input console at bytes x. tt;
    goes = λ path. tt;
    breaks = tt;
  }

  of_processes : OfProcesses s child p call b (Left s p b)
  of_processes = record {
    refuses = λ e listed. tt;
    waits = λ k. tt;
    returns = λ x. tt;
    loses = λ a n heap x. tt;
    gains = λ m heap x fits. tt;
    acts = λ e there k. signals_left (sigaction e.signals b.memory call);
    masks = λ e there k. signals_left (sigprocmask e.signals b.memory call);
    restores = λ e there. tt;
    sends = λ a k is. tt;
    tells = λ n found k. tt;
    writes = λ n at bytes found k. tt;
    bears = λ e there k room. (refl, refl);
    execs = λ content argv env k whole. refl;
    ends = λ k. tt;
  }

  interrupted : (t : Bool) → Left s p b (blocks_or_returns s b t)
  interrupted true = tt
  interrupted false = tt

  interrupts : (a : Answers) → Left s p b a → Left s p b (interruptible s p b a)
  interrupts (Refused e) g = g
  interrupts (Returns t c x) g = g
  interrupts (Jumps t c) g = g
  interrupts (Execs t c) g = g
  interrupts (Bears t c newborn) g = g
  interrupts Blocks g = interrupted (is_interrupted (maps.get s.entries p))
  interrupts (Ends w) g = g

  pub does_left : Left s p b (does s child p call b)
  unfolding does
  does_left =
      interrupts (called s child p call b)
      (files_hold s p call b (Left s p b) of_files _ (processes_hold s child p call b (Left s p b) of_processes (Refused enosys) tt))

pub children_begin_alike : ChildrenBeginAlike
children_begin_alike s child p b call t c newborn is = subst (Left s p b) is (does_left child s p call b)

-- Descriptors of a new program.

abbrev kept : Option Slot → Option Slot
kept None = None
kept (Some x) = cond x.closes_on_exec None (Some x)

abbrev at_key : Held → ℕ → Option Slot
at_key h key = maps.get h.fds.slots key

one_kept : (h : Held) (p fd : ℕ) → nat_lt fd most_fds ≡ true → (o : Option Slot) → at_key h (pair p fd) ≡ o → at_key (closed_if_meant true h p fd) (pair p fd) ≡ kept o
unfolding closed
one_kept h p fd below o there =
    let is : slot h.fds p fd ≡ o = ap (λ b. cond b (maps.get h.fds.slots (pair p fd)) None) below ∙ there in
    subst (λ x. at_key (cond (is_meant true x) (slot_closed h.tree h.fds (pair p fd) x) h) (pair p fd) ≡ kept o) (sym is) (go o there)
  where
    either : (x : Slot) → maps.get h.fds.slots (pair p fd) ≡ Some x → (t : Bool) → at_key (cond t (slot_closed h.tree h.fds (pair p fd) (Some x)) h) (pair p fd) ≡ cond t None (Some x)
    either x there true = slot_gone h.tree h.fds (pair p fd) (Some x) there
    either x there false = there

    go : (o : Option Slot) → maps.get h.fds.slots (pair p fd) ≡ o → at_key (cond (is_meant true o) (slot_closed h.tree h.fds (pair p fd) o) h) (pair p fd) ≡ kept o
    go None there = there
    go (Some x) there = either x there x.closes_on_exec

one_other : (h : Held) (p a fd : ℕ) → (fd == a) ≡ false → at_key (closed_if_meant true h p a) (pair p fd) ≡ at_key h (pair p fd)
one_other h p a fd other = go (is_meant true (slot h.fds p a))
  where
    unlike : (pair p fd == pair p a) ≡ false
    unlike = grind (arith, nat_tests, other)

    go : (t : Bool) → at_key (cond t (closed h.tree h.fds p a) h) (pair p fd) ≡ at_key h (pair p fd)
    go true = closed_other h.tree h.fds p a (pair p fd) unlike
    go false = refl

each_later : (h : Held) (p fd a n : ℕ) → fd < a → at_key (closed_each true h p (range_with_len a n)) (pair p fd) ≡ at_key h (pair p fd)
unfolding closed_each
each_later h p fd a zero less = refl
each_later h p fd a (suc n) less =
    each_later (closed_if_meant true h p a) p fd (a + 1) n (omega (arith, less)) ∙ one_other h p a fd (grind (arith, nat_tests, less))

each_kept : (h : Held) (p fd a n : ℕ) → a ≤ fd → fd < a + n → nat_lt fd most_fds ≡ true → at_key (closed_each true h p (range_with_len a n)) (pair p fd) ≡ kept (at_key h (pair p fd))
unfolding closed_each
each_kept h p fd a zero low high below = absurd (omega (arith, low, high))
each_kept h p fd a (suc n) low high below = go (fd == a) refl (each_kept (closed_if_meant true h p a) p fd (a + 1) n)
  where
    one : Held
    one = closed_if_meant true h p a

    go : (b : Bool) → (fd == a) ≡ b → (a + 1 ≤ fd → fd < a + 1 + n → nat_lt fd most_fds ≡ true → at_key (closed_each true (closed_if_meant true h p a) p (range_with_len (a + 1) n)) (pair p fd) ≡ kept (at_key (closed_if_meant true h p a) (pair p fd))) →
        at_key (closed_each true (closed_if_meant true h p a) p (range_with_len (a + 1) n)) (pair p fd) ≡ kept (at_key h (pair p fd))
    go true eq later =
        let is : fd ≡ a = grind (arith, nat_tests, eq) in
        each_later (closed_if_meant true h p a) p fd (a + 1) n (omega (arith, is))
        ∙ subst (λ i. at_key (closed_if_meant true h p i) (pair p fd) ≡ kept (at_key h (pair p fd))) is (one_kept h p fd below (at_key h (pair p fd)) refl)
    go false other later = later (grind (arith, nat_tests, other, low)) (omega (arith, high)) below ∙ ap kept (one_other h p a fd other)

exec_kept : (tree : Tree) (fds : FdTable) (p fd : ℕ) → nat_lt fd most_fds ≡ true → at_key (closed_on_exec tree fds p) (pair p fd) ≡ kept (maps.get fds.slots (pair p fd))
unfolding closed_on_exec
exec_kept tree fds p fd below = each_kept (record { tree = tree; fds = fds }) p fd 0 most_fds (omega arith) (grind (arith, nat_tests, below)) below

slot_kept : (tree : Tree) (fds : FdTable) (p fd : ℕ) (named : Slot) → slot fds p fd ≡ Some named → slot (closed_on_exec tree fds p).fds p fd ≡ cond named.closes_on_exec None (Some named)
slot_kept tree fds p fd named = go (nat_lt fd most_fds) refl
  where
    go : (b : Bool) → nat_lt fd most_fds ≡ b → cond b (maps.get fds.slots (pair p fd)) None ≡ Some named → cond b (maps.get (closed_on_exec tree fds p).fds.slots (pair p fd)) None ≡ cond named.closes_on_exec None (Some named)
    go true below is = exec_kept tree fds p fd below ∙ ap kept is
    go false below is = absurd (cc is)

pub programs_keep_descriptors : ProgramsKeepDescriptors
programs_keep_descriptors s child p b call t c fd named execs is =
    let left : t ≡ renewed s p = subst (Left s p b) execs (does_left child s p call b) in
    subst (λ (u : Shared). slot u.fds p fd ≡ cond named.closes_on_exec None (Some named)) (sym left) (slot_kept s.tree s.fds p fd named is)
