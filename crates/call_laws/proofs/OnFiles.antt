-- What the kinds of answers of calls on files do.
use Rattle.std.proofs.Common.{◌≡◌, ℕ, refl, subst}
use Rattle.std.specs.FinMap as maps
use Rattle.lx_abi.specs.declared.log.Call.{Call}
use Rattle.lx_abi.specs.declared.log.Cause.TheVariants.{Sent}
use Rattle.lx_proc.specs.Sending.{receives}
use Rattle.lx_proc.specs.State.{changed}
use Rattle.lx_proc.specs.declared.state.Entry.{Entry}
use Rattle.lx_proc.specs.declared.state.Shared.{Shared}
use Rattle.lx_proc.specs.declared.state.UserState.{UserState}
use Rattle.lx_fcalls.specs.Write.{sigpipe}
use Rattle.lx_fcalls.proofs.FileAnswers.{HoldsIf, OfFiles, any_holds}
use Rattle.call_laws.specs.OnFiles.{FilesAnswer, FilesDoNoMore}
use Rattle.call_laws.proofs.Entries.{changed_other, others_differ}

module _ (s : Shared) (p : ℕ) (call : Call) (b : UserState) where
  own_apart : (f : Entry → Entry) (q : ℕ) → (q ≡ p → ⊥) → maps.get (changed s.entries p f) q ≡ maps.get s.entries q
  own_apart f q ne = changed_other s.entries p q (others_differ q p ne) f (maps.get s.entries p)

  files_answer : OfFiles s p call b (FilesAnswer s p call b)
  files_answer = record {
    refuses = λ e listed. listed;
    waits = λ k. k;
    returns = λ tree fds input console x. (record { others = λ q ne. refl; words = refl; limits = refl }, record { hart = refl; heap = refl });
    writes = λ tree fds input console at bytes x. (record { others = λ q ne. refl; words = refl; limits = refl }, record { hart = refl; heap = refl });
    goes = λ path. (record { others = own_apart (λ e. record e { directory = path }); words = refl; limits = refl }, record { hart = refl; heap = refl });
    breaks = (record { others = own_apart (λ e. receives e sigpipe (Sent p)); words = refl; limits = refl }, record { hart = refl; heap = refl });
  }

pub files_do_no_more : FilesDoNoMore
files_do_no_more s p call b answer is = subst (HoldsIf (FilesAnswer s p call b)) is (any_holds s p call b (FilesAnswer s p call b) (files_answer s p call b))
