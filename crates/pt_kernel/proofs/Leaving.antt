-- What a traced boot leaves is what the untraced kernel leaves and logs.
use Rattle.std.proofs.Common.{◌≡◌, ap, ◌∙◌}
use Rattle.lx_abi.specs.Log.{items_of}
use Rattle.lx_abi.specs.Scripts.{choice_of}
use Rattle.lx_abi.specs.declared.outcome.Outcome.{Outcome}
use Rattle.lx_model.specs.Kernel.{Kernel}
use Rattle.lx_proc.specs.declared.state.Shared.{Shared}
use Rattle.lx_proc.specs.declared.state.UserState.{UserState}
use Rattle.lx_boot.specs.First.{first_shared}
use Rattle.lx_kernel.specs.Laws.{logged_words, KernelsLogWords}
use Rattle.lx_turn.specs.Linux.{linux}
use Rattle.lx_files.specs.Listing.{files_of}
use Rattle.lx_kernel.specs.Outcomes.{outcome_in}
use Rattle.lx_exec.specs.Programs.{booted}
use Rattle.lx_proc.specs.WaitWords.{Words, ends_of}
use Rattle.pt_model.specs.Headline.{HeadlineAt, Headline}
use Rattle.pt_model.specs.World.{effective, first_world}
use Rattle.pt_kernel.specs.Left.{traced_boot, plain_boot, BootsLeaveAsPlain}

pub boots_leave : HeadlineAt linux → KernelsLogWords → BootsLeaveAsPlain
boots_leave headline logged boot o texts script events =
    let s : Shared = first_shared boot.limits boot.files boot.input in
    let b : UserState = booted boot.argv boot.env in
    let k : Kernel Shared UserState = plain_boot boot o (choice_of script) events in
    let h : Headline outcome_in o (traced_boot boot o (choice_of script) events) k = headline outcome_in o texts (choice_of script) s b events in
    let words : k.shared.ended ≡ logged_words (items_of k.log) = logged (choice_of script) o.follow boot (effective linux outcome_in o (choice_of script) (first_world s b) events) in
    let as_left : Words → Outcome = λ ended. record { console = k.shared.console; files = files_of k.shared.tree; ended = ends_of ended } in
    record {
      left = h.same_outcome ∙ ap as_left words;
      replied = λ y e. h.replied y e ∙ ap as_left words;
    }
