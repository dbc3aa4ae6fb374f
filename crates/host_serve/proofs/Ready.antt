-- What stands behind a boot, and behind a call that fails.
use Rattle.std.proofs.Common.{◌≡◌, ◌+◌, ℕ, Result, Ok, Err, sym, subst}
use Rattle.std.specs.Prelude.{OnOk}
use Rattle.lx_abi.specs.declared.ptrace.Reply.{Reply}
use Rattle.lx_abi.specs.declared.ptrace.Request.{Request}
use Rattle.host_link.specs.LocalLinks.{Calls}
use Rattle.host_link.specs.declared.fault.LinkFault.{LinkFault}
use Rattle.host_link.specs.declared.fault.LinkFault.TheVariants.{Memory}
use Rattle.host_link.specs.declared.local.LocalLink.{LocalLink}
use Rattle.host_serve.specs.declared.fault.ServeFault.{ServeFault}
use Rattle.host_serve.specs.declared.session.Phase.{Phase}
use Rattle.host_serve.specs.Hosted.{Fails_by}
use Rattle.host_serve.specs.Serving.{IsDue}

pub fails_for_memory : (a b : LocalLink) (q : Request) (f : LinkFault) → (f ≡ Memory) → Calls a q (Err f) b → Fails_by a q b
fails_for_memory a b q f is called = subst (λ (x : LinkFault). Calls a q (Err x) b) is called

pub behind_boot : {S : Type 0} (ready : S → Type 0) (given : S → ℕ) (next : Phase S) (result : Result Reply ServeFault) → OnOk result (IsDue ready given next 2)
    → (number : ℕ) → OnOk result (number ≡ 1 → IsDue ready given next (number + 1))
behind_boot ready given next (Ok r) due number = λ first. subst (λ (n : ℕ). IsDue ready given next (n + 1)) (sym first) due
behind_boot ready given next (Err fault) due number = tt
