-- A conversation with the traced kernel: a link to it in memory tells what it replies.
use Rattle.std.specs.Prelude.{◌≡◌, ℕ, ◌+◌, false, List, Option, Some, None, Result, Ok, Err}
use Rattle.lx_abi.specs.declared.boot.Boot.{Boot}
use Rattle.lx_abi.specs.declared.schedule.Word.{Word}
use Rattle.lx_abi.specs.declared.outcome.Outcome.{Outcome}
use Rattle.lx_abi.specs.declared.ptrace.Reply.{Reply}
use Rattle.lx_abi.specs.declared.ptrace.Request.{Request}
use Rattle.lx_boot.specs.Boots.{Refuses, fault_number, fault_of}
use Rattle.lx_boot.specs.First.{first_shared}
use Rattle.lx_kernel.specs.Outcomes.{outcome_in}
use Rattle.lx_exec.specs.Programs.{booted}
use Rattle.lx_boot.specs.declared.boots.BootFault.{BootFault}
use Rattle.pt_model.specs.Hosting.{first_hosting}
use Rattle.pt_kernel.specs.Hosts.{HostState}
use Rattle.pt_schedule.specs.Schedules.{worded}
use Rattle.host_wire.specs.Ends.{Input}
use Rattle.host_link.specs.LocalLinks.{Calls, IsIdle, faults_of, given_of, host_of, is_over, schedule_of}
use Rattle.host_link.specs.declared.fault.LinkFault.TheVariants.{Memory}
use Rattle.host_link.specs.declared.local.LocalLink.{LocalLink}
use Rattle.host_serve.specs.Serving.{Served}
use Rattle.host_serve.specs.declared.fault.ServeFault.{ServeFault}

-- the host that a boot begins with
abbrev pub first_host : Boot → HostState
first_host boot =
    record {
      hosting = first_hosting (first_shared boot.limits boot.files boot.input) (booted boot.argv boot.env);
      follow = boot.follow;
      failed = false;
    }

-- a link to that host, under these words of a schedule, which nothing was asked yet
pub record IsFirst (boot : Boot) (limit : ℕ) (words : List Word) (l : LocalLink) : Type 0 where
  pub accepted : fault_of boot ≡ None
  pub host : host_of l ≡ first_host boot
  pub schedule : schedule_of l ≡ worded words limit
  pub given : given_of l ≡ 0
  pub whole : faults_of l ≡ 0
  pub going : is_over l ≡ false

-- the boot's own fault, or want of memory where it has none
pub record IsRefusal (boot : Boot) (fault : BootFault) : Type 0 where
  pub refuses : Refuses boot fault
  pub own : (f : BootFault) → fault_of boot ≡ Some f → fault ≡ f

abbrev pub BootsAs : Boot → ℕ → List Word → Result LocalLink BootFault → Type 0
BootsAs boot limit words (Ok l) = IsFirst boot limit words l
BootsAs boot limit words (Err fault) = IsRefusal boot fault

-- what a boot leads to: such a link, or the number of the fault that refuses it
abbrev pub Boots_by : Boot → ℕ → List Word → Result LocalLink ℕ → Type 0
Boots_by boot limit words (Ok l) = IsFirst boot limit words l
Boots_by boot limit words (Err n) = (fault : BootFault) × ((n ≡ fault_number fault) × IsRefusal boot fault)

-- what the link replies, which it counts, and meets no fault
abbrev pub Answers_by : LocalLink → Request → Reply → LocalLink → Type 0
Answers_by a q r b = Calls a q (Ok r) b × ((given_of b ≡ given_of a + 1) × (faults_of b ≡ faults_of a))

-- the host had no memory for it
abbrev pub Fails_by : LocalLink → Request → LocalLink → Type 0
Fails_by a q b = Calls a q (Err Memory) b

-- the link has met no fault, and its host has no request left to serve
abbrev pub IsReady : LocalLink → Type 0
IsReady l = (faults_of l ≡ 0) × IsIdle l

abbrev pub left_by : LocalLink → Outcome
left_by l = outcome_in (host_of l).hosting.running.shared

-- a whole run of the host, by so many reads a frame at most: the bytes that are written are the frames of Done and
-- of the link's replies
unfoldable pub Served_host : ℕ → Input → Input → Option (List ℕ) → Option (List ℕ) → List ℕ → List ℕ
    → Result Outcome ServeFault → ℕ → Type 0
Served_host most input input' old new puts puts' result broken_writer =
    Served most Boots_by Answers_by left_by input input' old new puts puts' result broken_writer
