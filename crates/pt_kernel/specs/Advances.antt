-- Turns of one process in a row, each an event of the host.
use Rattle.std.specs.Prelude.{◌≡◌, ℕ, zero, suc}
use Rattle.lx_abi.specs.declared.schedule.Event.TheVariants.{Turn}
use Rattle.pt_schedule.specs.Rows.{Continues}
use Rattle.pt_kernel.specs.Hosts.{HostState, readiness_of}
use Rattle.pt_kernel.specs.AfterEvents.{after}

-- A turn of the process, and so many behind it, lead from h to h'. Before each of those behind it the process can have
-- another turn, no call of it is finished, and no request is ready.
unfoldable pub Leads : HostState → ℕ → ℕ → HostState → Type 0
Leads h pid zero h' = h' ≡ after h (Turn pid)
Leads h pid (suc n) h' = Continues (readiness_of (after h (Turn pid))) pid × Leads (after h (Turn pid)) pid n h'
