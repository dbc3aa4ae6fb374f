-- What the kinds of answers of the other calls do.
use Rattle.std.proofs.Common.{◌≡◌, ℕ, Bool, true, false, cond, List, [], ◌∷◌, Option, Some, None, refl, ap, sym, subst, ◌∙◌, arith}
use Rattle.std.proofs.lemmas.Bool.Decides.{nat_tests}
use Rattle.std.specs.Prelude.{◌==◌, ◌&&◌, find}
use Rattle.std.specs.declared.result.Result.TheVariants.{Ok, Err}
use Rattle.std.specs.FinMap as maps
use Rattle.lx_abi.specs.Errnos.{efault, einval}
use Rattle.lx_abi.specs.declared.log.Call.{Call}
use Rattle.lx_abi.specs.declared.signal.Signal.{Signal}
use Rattle.lx_sig.specs.Calls.{Outcome}
use Rattle.lx_sig.specs.Kill.{aim}
use Rattle.lx_sig.specs.Sigaction.{sigaction}
use Rattle.lx_sig.specs.Sigprocmask.{sigprocmask}
use Rattle.lx_sig.specs.declared.kill.Aim.{Aim}
use Rattle.lx_proc.specs.Answers.{argument, low_argument}
use Rattle.lx_proc.specs.declared.state.Entry.{Entry}
use Rattle.lx_proc.specs.State.{Entries, with_news, with_signals, changed}
use Rattle.lx_proc.specs.Families.{is_zombie}
use Rattle.lx_proc.specs.Refusals.{is_error_of}
use Rattle.lx_proc.specs.declared.state.Shared.{Shared}
use Rattle.lx_proc.specs.declared.state.UserState.{UserState}
use Rattle.lx_pcalls.specs.Errors.{process_errors}
use Rattle.lx_pcalls.specs.Kill.{sends, sent_to}
use Rattle.lx_pcalls.specs.Signals.{leaves}
use Rattle.lx_pcalls.specs.Wait4.{first_child, is_child, is_meant_by, told_child, told_entry}
use Rattle.lx_pcalls.proofs.ProcessAnswers.{HoldsIf, OfProcesses, any_holds}
use Rattle.lx_proc.proofs.Checks.{OfError}
use Rattle.call_laws.specs.Others.{LeavesTheRest, may_change, is_child_of}
use Rattle.call_laws.specs.OnProcesses.{ProcessesAnswer, ProcessesDoNoMore, KeepsStreams, KeepsFiles}
use Rattle.call_laws.proofs.Outcomes.{sigaction_error, sigprocmask_error}
use Rattle.call_laws.proofs.Entries.{changed_other, put_other, taken_other, others_differ}

-- a child that is told of is one of the caller's

found_here : (test : ℕ → Bool) (n k : ℕ) (b : Bool) (rest : Option ℕ) → test k ≡ b → cond b (Some k) rest ≡ Some n → (rest ≡ Some n → test n ≡ true) → test n ≡ true
found_here test n k true rest holds is later = subst (λ j. test j ≡ true) (cc is) holds
found_here test n k false rest fails is later = later is

found_passes : (test : ℕ → Bool) (n : ℕ) (ks : List ℕ) → find test ks ≡ Some n → test n ≡ true
found_passes test n [] is = absurd (cc is)
found_passes test n (k ∷ ks) is = found_here test n k (test k) (find test ks) refl is (found_passes test n ks)

left_is : (a b : Bool) → (a && b) ≡ true → a ≡ true
left_is true b h = refl
left_is false b h = h

meant_child : (p wanted n : ℕ) (asked : Option ℕ) (o : Option Entry) → is_meant_by o p wanted asked n ≡ true → is_child_of p o ≡ true
meant_child p wanted n asked None is = is
meant_child p wanted n asked (Some e) is = left_is (e.parent == p) _ (left_is _ _ is)

first_is_child : (m : Entries) (p wanted n : ℕ) (asked : Option ℕ) → first_child m p wanted asked ≡ Some n → is_child_of p (maps.get m n) ≡ true
unfolding first_child is_child
first_is_child m p wanted n asked found = meant_child p wanted n asked (maps.get m n) (found_passes (is_child m p wanted asked) n (maps.keys m) found)

number_is : (n k : ℕ) → (n == k) ≡ true → n ≡ k
number_is n k h = grind (arith, nat_tests)

-- not the one that is a child, of who isn't
differs : (m : Entries) (p q n : ℕ) → is_child_of p (maps.get m n) ≡ true → is_child_of p (maps.get m q) ≡ false → (q == n) ≡ false
differs m p q n is isnt = go (q == n) refl
  where
    go : (b : Bool) → (q == n) ≡ b → (q == n) ≡ false
    go false e = e
    go true e = absurd (cc (sym is ∙ ap (λ k. is_child_of p (maps.get m k)) (sym (number_is q n e)) ∙ isnt))

told_other : (m : Entries) (n q : ℕ) (o : Option Entry) → (q == n) ≡ false → maps.get (told_entry m n o) q ≡ maps.get m q
told_other m n q None other = refl
told_other m n q (Some e) other = go (is_zombie e.life)
  where
    go : (b : Bool) → maps.get (cond b (maps.remove m n) (changed m n (λ e. with_news e None))) q ≡ maps.get m q
    go true = taken_other m n q other
    go false = changed_other m n q other (λ e. with_news e None) (maps.get m n)

-- whom a kill aims at

aimed_at : (test : Bool) (x y : Aim) → cond test (Some x) None ≡ Some y → y.pid ≡ x.pid
aimed_at true x y is = cc is
aimed_at false x y is = absurd (cc is)

sent_other : (s : Shared) (p target q : ℕ) (signal : Option Signal) → (q == target) ≡ false → maps.get (sends s p target signal).entries q ≡ maps.get s.entries q
sent_other s p target q None other = refl
sent_other s p target q (Some signal) other = changed_other s.entries target q other (λ e. sent_to e e.life p signal) (maps.get s.entries target)

module _ (s : Shared) (child p : ℕ) (call : Call) (b : UserState) where
  abbrev may : ℕ → ℕ → Bool
  may n q =
      cond (n == 129) (q == low_argument call 0)
      (cond (n == 260) (is_child_of p (maps.get s.entries q))
      (cond (n == 220) (q == child) false))

  may_as : (n q : ℕ) → (call.number == n) ≡ true → may_change s child p call q ≡ false → may n q ≡ false
  may_as n q k is = subst (λ m. may m q ≡ false) (number_is call.number n k) is

  streams : (t : Shared) → t.ended ≡ s.ended → t.limits ≡ s.limits → t.input ≡ s.input → t.console ≡ s.console → KeepsStreams s t
  streams t words limits input console = record { words = words; limits = limits; input = input; console = console }

  sends_streams : (target : ℕ) (signal : Option Signal) → KeepsStreams s (sends s p target signal)
  sends_streams target None = streams s refl refl refl refl
  sends_streams target (Some signal) = streams (sends s p target (Some signal)) refl refl refl refl

  sends_files : (target : ℕ) (signal : Option Signal) → KeepsFiles s (sends s p target signal)
  sends_files target None = record { tree = refl; fds = refl }
  sends_files target (Some signal) = record { tree = refl; fds = refl }

  kill_leaves : (a : Aim) → (call.number == 129) ≡ true → aim call ≡ Some a → LeavesTheRest child p call s (sends s p a.pid a.signal)
  kill_leaves a k is q ne isnt =
      sent_other s p a.pid q a.signal (ap (λ (n : ℕ). q == n) (aimed_at _ _ a is) ∙ may_as 129 q k isnt)

  tells_leaves : (n : ℕ) → first_child s.entries p (low_argument call 0) (Some (argument call 2)) ≡ Some n → (call.number == 260) ≡ true → LeavesTheRest child p call s (told_child s n)
  tells_leaves n found k q ne isnt =
      told_other s.entries n q (maps.get s.entries n)
      (differs s.entries p q n (first_is_child s.entries p (low_argument call 0) n (Some (argument call 2)) found) (may_as 260 q k isnt))

  own_leaves : (f : Entry → Entry) (q : ℕ) → (q ≡ p → ⊥) → maps.get (changed s.entries p f) q ≡ maps.get s.entries q
  own_leaves f q ne = changed_other s.entries p q (others_differ q p ne) f (maps.get s.entries p)

  listed : (n : ℕ) → (call.number == n) ≡ true → (e : ℕ) → is_error_of process_errors n e ≡ true → is_error_of process_errors call.number e ≡ true
  listed n k e is = subst (λ m. is_error_of process_errors m e ≡ true) (sym (number_is call.number n k)) is

  abbrev Listed : ℕ → Type 0
  Listed e = is_error_of process_errors call.number e ≡ true

  leaves_answer : (o : Outcome) → OfError Listed o → ProcessesAnswer s child p call b (leaves s p b o)
  leaves_answer (Err e) h = λ some. h
  leaves_answer (Ok c) h = ((λ q ne isnt. own_leaves (λ e. with_signals e c.signals) q ne), streams _ refl refl refl refl, record { tree = refl; fds = refl })

  processes_answer : OfProcesses s child p call b (ProcessesAnswer s child p call b)
  unfolding process_errors
  processes_answer = record {
    refuses = λ e is. is;
    waits = λ k. k;
    returns = λ x. ((λ q ne isnt. refl), streams _ refl refl refl refl, record { tree = refl; fds = refl });
    loses = λ a n heap x. ((λ q ne isnt. refl), streams _ refl refl refl refl, record { tree = refl; fds = refl });
    gains = λ m heap x fits. ((λ q ne isnt. refl), streams _ refl refl refl refl, record { tree = refl; fds = refl });
    acts = λ e there k. leaves_answer (sigaction e.signals b.memory call) (sigaction_error Listed (listed 134 k einval refl) (listed 134 k efault refl) e.signals b.memory call);
    masks = λ e there k. leaves_answer (sigprocmask e.signals b.memory call) (sigprocmask_error Listed (listed 135 k einval refl) (listed 135 k efault refl) e.signals b.memory call);
    restores = λ e there. ((λ q ne isnt. own_leaves _ q ne), streams _ refl refl refl refl, record { tree = refl; fds = refl });
    sends = λ a k is. (kill_leaves a k is, sends_streams a.pid a.signal, sends_files a.pid a.signal);
    tells = λ n found k. (tells_leaves n found k, streams _ refl refl refl refl, record { tree = refl; fds = refl });
    writes = λ n at bytes found k. (tells_leaves n found k, streams _ refl refl refl refl, record { tree = refl; fds = refl });
    bears = λ e there k room. (k, (λ q ne isnt. put_other s.entries child q (may_as 220 q k isnt) _), streams _ refl refl refl refl, refl);
    execs = λ content argv env k whole. (k, (λ q ne isnt. own_leaves _ q ne), streams _ refl refl refl refl);
    ends = λ k. k;
  }

pub processes_do_no_more : ProcessesDoNoMore
processes_do_no_more s child p call b answer is =
    subst (HoldsIf (ProcessesAnswer s child p call b)) is (any_holds s child p call b (ProcessesAnswer s child p call b) (processes_answer s child p call b))
