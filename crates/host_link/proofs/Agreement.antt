-- The table of kinds is the model's.
use Rattle.std.proofs.Common.{◌≡◌, ℕ, refl}
use Rattle.lx_abi.specs.declared.ptrace.Ask.{Ask}
use Rattle.lx_abi.specs.declared.ptrace.Ask.TheVariants as ask
use Rattle.lx_abi.specs.declared.ptrace.Reply.{Reply}
use Rattle.lx_abi.specs.declared.ptrace.Reply.TheVariants as reply
use Rattle.lx_abi.specs.declared.ptrace.Request.{Request}
use Rattle.lx_abi.specs.declared.ptrace.Request.TheVariants as request
use Rattle.pt_model.specs.Admissible.{answers, answers_ask}
use Rattle.host_link.specs.Kinds.{is_answer, kind_of}

asks_agree : (p : ℕ) (q : Ask) (r : Reply) → is_answer (request.To p q) (kind_of r) ≡ answers_ask q r
asks_agree p (ask.Seize q_options) reply.Done = refl
asks_agree p (ask.Seize q_options) (reply.Status r_pid r_status) = refl
asks_agree p (ask.Seize q_options) (reply.Registers r_r) = refl
asks_agree p (ask.Seize q_options) (reply.Bytes r_bytes) = refl
asks_agree p (ask.Seize q_options) (reply.Message r_pid) = refl
asks_agree p (ask.Seize q_options) (reply.Info r_info) = refl
asks_agree p (ask.Seize q_options) (reply.Outcome r_outcome) = refl
asks_agree p (ask.Seize q_options) (reply.Errno r_n) = refl
asks_agree p (ask.Seize q_options) reply.OutOfTurns = refl
asks_agree p (ask.Seize q_options) (reply.Refused r_fault) = refl
asks_agree p (ask.SetOptions q_options) reply.Done = refl
asks_agree p (ask.SetOptions q_options) (reply.Status r_pid r_status) = refl
asks_agree p (ask.SetOptions q_options) (reply.Registers r_r) = refl
asks_agree p (ask.SetOptions q_options) (reply.Bytes r_bytes) = refl
asks_agree p (ask.SetOptions q_options) (reply.Message r_pid) = refl
asks_agree p (ask.SetOptions q_options) (reply.Info r_info) = refl
asks_agree p (ask.SetOptions q_options) (reply.Outcome r_outcome) = refl
asks_agree p (ask.SetOptions q_options) (reply.Errno r_n) = refl
asks_agree p (ask.SetOptions q_options) reply.OutOfTurns = refl
asks_agree p (ask.SetOptions q_options) (reply.Refused r_fault) = refl
asks_agree p ask.GetRegs reply.Done = refl
asks_agree p ask.GetRegs (reply.Status r_pid r_status) = refl
asks_agree p ask.GetRegs (reply.Registers r_r) = refl
asks_agree p ask.GetRegs (reply.Bytes r_bytes) = refl
asks_agree p ask.GetRegs (reply.Message r_pid) = refl
asks_agree p ask.GetRegs (reply.Info r_info) = refl
asks_agree p ask.GetRegs (reply.Outcome r_outcome) = refl
asks_agree p ask.GetRegs (reply.Errno r_n) = refl
asks_agree p ask.GetRegs reply.OutOfTurns = refl
asks_agree p ask.GetRegs (reply.Refused r_fault) = refl
asks_agree p (ask.SetRegs q_r) reply.Done = refl
asks_agree p (ask.SetRegs q_r) (reply.Status r_pid r_status) = refl
asks_agree p (ask.SetRegs q_r) (reply.Registers r_r) = refl
asks_agree p (ask.SetRegs q_r) (reply.Bytes r_bytes) = refl
asks_agree p (ask.SetRegs q_r) (reply.Message r_pid) = refl
asks_agree p (ask.SetRegs q_r) (reply.Info r_info) = refl
asks_agree p (ask.SetRegs q_r) (reply.Outcome r_outcome) = refl
asks_agree p (ask.SetRegs q_r) (reply.Errno r_n) = refl
asks_agree p (ask.SetRegs q_r) reply.OutOfTurns = refl
asks_agree p (ask.SetRegs q_r) (reply.Refused r_fault) = refl
asks_agree p (ask.Peek q_address q_length) reply.Done = refl
asks_agree p (ask.Peek q_address q_length) (reply.Status r_pid r_status) = refl
asks_agree p (ask.Peek q_address q_length) (reply.Registers r_r) = refl
asks_agree p (ask.Peek q_address q_length) (reply.Bytes r_bytes) = refl
asks_agree p (ask.Peek q_address q_length) (reply.Message r_pid) = refl
asks_agree p (ask.Peek q_address q_length) (reply.Info r_info) = refl
asks_agree p (ask.Peek q_address q_length) (reply.Outcome r_outcome) = refl
asks_agree p (ask.Peek q_address q_length) (reply.Errno r_n) = refl
asks_agree p (ask.Peek q_address q_length) reply.OutOfTurns = refl
asks_agree p (ask.Peek q_address q_length) (reply.Refused r_fault) = refl
asks_agree p (ask.Syscall q_signal) reply.Done = refl
asks_agree p (ask.Syscall q_signal) (reply.Status r_pid r_status) = refl
asks_agree p (ask.Syscall q_signal) (reply.Registers r_r) = refl
asks_agree p (ask.Syscall q_signal) (reply.Bytes r_bytes) = refl
asks_agree p (ask.Syscall q_signal) (reply.Message r_pid) = refl
asks_agree p (ask.Syscall q_signal) (reply.Info r_info) = refl
asks_agree p (ask.Syscall q_signal) (reply.Outcome r_outcome) = refl
asks_agree p (ask.Syscall q_signal) (reply.Errno r_n) = refl
asks_agree p (ask.Syscall q_signal) reply.OutOfTurns = refl
asks_agree p (ask.Syscall q_signal) (reply.Refused r_fault) = refl
asks_agree p ask.EventMsg reply.Done = refl
asks_agree p ask.EventMsg (reply.Status r_pid r_status) = refl
asks_agree p ask.EventMsg (reply.Registers r_r) = refl
asks_agree p ask.EventMsg (reply.Bytes r_bytes) = refl
asks_agree p ask.EventMsg (reply.Message r_pid) = refl
asks_agree p ask.EventMsg (reply.Info r_info) = refl
asks_agree p ask.EventMsg (reply.Outcome r_outcome) = refl
asks_agree p ask.EventMsg (reply.Errno r_n) = refl
asks_agree p ask.EventMsg reply.OutOfTurns = refl
asks_agree p ask.EventMsg (reply.Refused r_fault) = refl
asks_agree p ask.SigInfo reply.Done = refl
asks_agree p ask.SigInfo (reply.Status r_pid r_status) = refl
asks_agree p ask.SigInfo (reply.Registers r_r) = refl
asks_agree p ask.SigInfo (reply.Bytes r_bytes) = refl
asks_agree p ask.SigInfo (reply.Message r_pid) = refl
asks_agree p ask.SigInfo (reply.Info r_info) = refl
asks_agree p ask.SigInfo (reply.Outcome r_outcome) = refl
asks_agree p ask.SigInfo (reply.Errno r_n) = refl
asks_agree p ask.SigInfo reply.OutOfTurns = refl
asks_agree p ask.SigInfo (reply.Refused r_fault) = refl
asks_agree p ask.Listen reply.Done = refl
asks_agree p ask.Listen (reply.Status r_pid r_status) = refl
asks_agree p ask.Listen (reply.Registers r_r) = refl
asks_agree p ask.Listen (reply.Bytes r_bytes) = refl
asks_agree p ask.Listen (reply.Message r_pid) = refl
asks_agree p ask.Listen (reply.Info r_info) = refl
asks_agree p ask.Listen (reply.Outcome r_outcome) = refl
asks_agree p ask.Listen (reply.Errno r_n) = refl
asks_agree p ask.Listen reply.OutOfTurns = refl
asks_agree p ask.Listen (reply.Refused r_fault) = refl

pub kinds_agree : (q : Request) (r : Reply) → is_answer q (kind_of r) ≡ answers q r
kinds_agree (request.Boot q_boot q_limit q_words) reply.Done = refl
kinds_agree (request.Boot q_boot q_limit q_words) (reply.Status r_pid r_status) = refl
kinds_agree (request.Boot q_boot q_limit q_words) (reply.Registers r_r) = refl
kinds_agree (request.Boot q_boot q_limit q_words) (reply.Bytes r_bytes) = refl
kinds_agree (request.Boot q_boot q_limit q_words) (reply.Message r_pid) = refl
kinds_agree (request.Boot q_boot q_limit q_words) (reply.Info r_info) = refl
kinds_agree (request.Boot q_boot q_limit q_words) (reply.Outcome r_outcome) = refl
kinds_agree (request.Boot q_boot q_limit q_words) (reply.Errno r_n) = refl
kinds_agree (request.Boot q_boot q_limit q_words) reply.OutOfTurns = refl
kinds_agree (request.Boot q_boot q_limit q_words) (reply.Refused r_fault) = refl
kinds_agree request.Wait reply.Done = refl
kinds_agree request.Wait (reply.Status r_pid r_status) = refl
kinds_agree request.Wait (reply.Registers r_r) = refl
kinds_agree request.Wait (reply.Bytes r_bytes) = refl
kinds_agree request.Wait (reply.Message r_pid) = refl
kinds_agree request.Wait (reply.Info r_info) = refl
kinds_agree request.Wait (reply.Outcome r_outcome) = refl
kinds_agree request.Wait (reply.Errno r_n) = refl
kinds_agree request.Wait reply.OutOfTurns = refl
kinds_agree request.Wait (reply.Refused r_fault) = refl
kinds_agree request.Outcome reply.Done = refl
kinds_agree request.Outcome (reply.Status r_pid r_status) = refl
kinds_agree request.Outcome (reply.Registers r_r) = refl
kinds_agree request.Outcome (reply.Bytes r_bytes) = refl
kinds_agree request.Outcome (reply.Message r_pid) = refl
kinds_agree request.Outcome (reply.Info r_info) = refl
kinds_agree request.Outcome (reply.Outcome r_outcome) = refl
kinds_agree request.Outcome (reply.Errno r_n) = refl
kinds_agree request.Outcome reply.OutOfTurns = refl
kinds_agree request.Outcome (reply.Refused r_fault) = refl
kinds_agree (request.To p q) r = asks_agree p q r
