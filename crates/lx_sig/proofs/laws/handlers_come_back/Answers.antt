use Rattle.std.proofs.Common.{◌≡◌, ℕ, List, ap, ◌∙◌}
use Rattle.rv_mem.specs.Memory.{bytes_at}
use Rattle.rv_mem.specs.declared.rights.Access.TheVariants.{Write}
use Rattle.lx_sig.specs.Frames.{frame, frame_size, frame_address, frame_at, with_frame, resumed, handling, blocking, popped_hart, popped_mask, sp_of}
use Rattle.lx_sig.specs.Sets.{cleaned}
use Rattle.lx_sig.proofs.ReadBack.{frame_back}
use Rattle.lx_sig.proofs.Stacked.{bytes_back, handler_sp}
use Rattle.lx_sig.proofs.laws.handlers_come_back.Goals as goal

pub returns : goal.returns
returns c = λ m h i signals s a is goes_on mask_fits writable.
    let put = frame (resumed h i a) signals.mask s.number in
    let read = frame_back (resumed h i a) signals.mask s.number goes_on mask_fits in
    let there : frame_at (with_frame m h i signals s a) (handling h s a) ≡ put =
    ap (λ (q : ℕ). bytes_at (with_frame m h i signals s a) q frame_size) (handler_sp h s a is.long)
    ∙ bytes_back Write m (frame_address (sp_of h)) frame_size put read.size writable in
    record {
      hart = ap popped_hart there ∙ read.hart;
      mask = ap (λ (bytes : List ℕ). popped_mask (blocking signals s a) bytes) there
          ∙ ap (λ (w : ℕ). record signals { mask = cleaned w }) read.blocked;
    }
