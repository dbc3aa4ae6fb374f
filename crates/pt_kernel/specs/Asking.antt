-- The requests that a host is asked once it is booted.
use Rattle.lx_abi.specs.declared.ptrace.Request.{Request}
use Rattle.lx_abi.specs.declared.ptrace.Request.TheVariants.{Wait, To, Outcome as Ask_outcome}
use Rattle.pt_kernel.specs.declared.pending.Asked.{Asked}
use Rattle.pt_kernel.specs.declared.pending.Asked.TheVariants as asked

abbrev pub request_of : Asked → Request
request_of asked.Wait = Wait
request_of (asked.To p q) = To p q
request_of asked.Outcome = Ask_outcome
