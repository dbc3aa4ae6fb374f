-- A program whose words are too large for its start, and were not kept.
use Rattle.std.proofs.Common.{◌≡◌, ℕ, ◌<◌, true, List, Some, refl, ap, arith}
use Rattle.std.specs.Prelude.{nat_lt}
use Rattle.std.specs.List.{sum_by}
use Rattle.std.proofs.lemmas.Bool.Decides.{nat_tests}
use Rattle.lx_abi.specs.Limits.{start_limit}
use Rattle.elf_image.specs.declared.image.Image.{Image}
use Rattle.lx_abi.specs.Errnos.{e2big}
use Rattle.lx_model.specs.Machine.{Refused}
use Rattle.lx_proc.specs.declared.state.Shared.{Shared}
use Rattle.lx_proc.specs.declared.texts.Words.TheVariants as words
use Rattle.lx_proc.specs.declared.texts.Words.{Words}
use Rattle.lx_proc.specs.Starts.{cost_of}
use Rattle.lx_exec.specs.Programs.{start_size}
use Rattle.lx_proc.specs.Read.{Reads}
use Rattle.lx_exec.specs.Execve.{begins}
use Rattle.lx_proc.proofs.Looking.{texts_or_none}
use Rattle.lx_exec.proofs.Starting.{start_size-sums}

-- a list that was not kept
large : (w : Words) (texts : List (List ℕ)) → Reads w (Some texts) → ((v : _) → ¬ (w ≡ words.Whole v)) → start_limit < sum_by cost_of texts
large (words.Whole v) texts h other = absurd (other v refl)
large words.TooLarge texts h other = let sum = ap (λ o. sum_by cost_of (texts_or_none o)) h.1 in let much = h.2 in omega (arith, sum, much)
large words.Unreadable texts h other = absurd (cc h)

refused : (s : Shared) (image : Image) (argv env : List (List ℕ)) → start_limit < start_size argv env → Refused e2big ≡ begins s image argv env
refused s image argv env h = let over : nat_lt start_limit (start_size argv env) ≡ true = grind (arith, nat_tests) in rw over refl

pub argv_too_large : (w : Words) → ((v : _) → ¬ (w ≡ words.Whole v)) → (s : Shared) (image : Image) (argv env : List (List ℕ)) → Reads w (Some argv) → Refused e2big ≡ begins s image argv env
argv_too_large w other s image argv env h = let sum = start_size-sums argv env in let much = large w argv h other in refused s image argv env (omega (arith, sum, much))

pub env_too_large : (w : Words) → ((v : _) → ¬ (w ≡ words.Whole v)) → (s : Shared) (image : Image) (argv env : List (List ℕ)) → Reads w (Some env) → Refused e2big ≡ begins s image argv env
env_too_large w other s image argv env h = let sum = start_size-sums argv env in let much = large w env h other in refused s image argv env (omega (arith, sum, much))
