-- A call that its host served, with the events that are noted.
use Rattle.std.proofs.Common.{◌≡◌, false, Option, Ok, refl, inr}
use Rattle.std.specs.Prelude.{is_none}
use Rattle.lx_abi.specs.declared.ptrace.Reply.{Reply}
use Rattle.lx_abi.specs.declared.ptrace.Request.{Request}
use Rattle.pt_kernel.specs.Hosts.{is_boot}
use Rattle.host_link.specs.LocalLinks.{Calls}
use Rattle.host_link.specs.Locals.{ServesNoting, reply_or_over}
use Rattle.host_link.specs.declared.local.LocalLink.{LocalLink}

pub answered : (a b : LocalLink) (q : Request) (x : Option Reply) → a.over ≡ false → is_boot q ≡ false
    → ServesNoting a.host a.schedule a.noted q (record { host = b.host; schedule = b.schedule; reply = x }) b.noted
    → b.over ≡ is_none x → Calls a q (Ok (reply_or_over x)) b
unfolding Calls
answered a b q x going not_boot served over =
    inr (going, (not_boot, (x, (served.serves, (refl, (over, served.noted_are))))))
