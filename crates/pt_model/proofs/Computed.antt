-- The rows compute.
use Rattle.std.proofs.Common.{refl}
use Rattle.lx_abi.specs.Calls.{calls, has_effects}
use Rattle.lx_abi.specs.Signals.{signal_numbered}
use Rattle.lx_abi.specs.Status.{stop_of}
use Rattle.pt_model.specs.JobRows.{StopRows, SendRows, ListenRows, JobRuns, JobRows}
use Rattle.pt_model.specs.ModeRows.{ModeRows}
use Rattle.pt_model.specs.RequestRows.{EsrchRows, SeizeRows, OptionRows, PeekRows, ResumeRows, SigInfoRows, MessageRows, WaitRows, RequestRows}

pub mode_rows : ModeRows
unfolding signal_numbered stop_of
mode_rows = record { born = refl; signal_first = refl; instruction = refl; ecall = refl; fault = refl; faulting = refl; entered = refl; entered_replaced = refl; entered_joined = refl; refused = refl; returns = refl; bears = refl; execs = refl; blocks = refl; ends = refl; replaced = refl; acted = refl; finished = refl; taken_ignored = refl; taken_ends = refl; dropped = refl; killed_run = refl; killed_entered = refl; killed_taken = refl; dying = refl; gone = refl }

esrch_rows : EsrchRows
unfolding signal_numbered stop_of
esrch_rows = record { before_seize = refl; set_options_before_seize = refl; peek_before_seize = refl; resume_before_seize = refl; no_such_process = refl; peek_of_none = refl; resume_of_none = refl; registers_of_running = refl; set_registers_of_running = refl; message_of_running = refl; info_of_running = refl; registers_of_dying = refl; resume_of_dying = refl }

seize_rows : SeizeRows
unfolding signal_numbered stop_of
seize_rows = record { good = refl; no_options = refl; bad_options = refl; high_options = refl; other = refl; twice = refl; twice_badly = refl; after_bad_options = refl }

option_rows : OptionRows
unfolding signal_numbered stop_of
option_rows = record { set = refl; bad = refl; high = refl; with_sysgood = refl; without_sysgood = refl; set_before_the_stop = refl }

peek_rows : PeekRows
unfolding signal_numbered stop_of
peek_rows = record { read = refl; longest = refl; none = refl; too_long = refl; nothing_there = refl; none_of_nothing = refl }

resume_rows : ResumeRows
unfolding signal_numbered stop_of
resume_rows = record { start_stop = refl; start_stop_signal = refl; entry_stop = refl; entry_stop_joined = refl; entry_stop_kill = refl; entry_stop_job_control = refl; entry_stop_no_signal = refl; exit_stop_signal = refl; signal_stop_passed = refl; signal_stop_dropped = refl; signal_stop_other = refl; fork_stop_signal = refl }

information_rows : SigInfoRows
unfolding signal_numbered stop_of
information_rows = record { of_fault = refl; at_start = refl; at_entry_stop = refl; at_exit_stop = refl; at_event_stop = refl }

message_rows : MessageRows
unfolding signal_numbered stop_of
message_rows = record { at_first = refl; of_fork = refl; of_child = refl; of_exec = refl; of_exec_unasked = refl; of_fork_unasked = refl }

wait_rows : WaitRows
unfolding signal_numbered stop_of
wait_rows = record { no_tracee = refl; start = refl; nothing_yet_told = refl; exit_stop = refl; signal_stop = refl; fork = refl; then_the_child = refl; fork_unasked = refl; fork_unasked_exit = refl; child_entry = refl; child_withdrawn = refl; child_killed = refl; exec = refl; exec_unasked = refl; early_first = refl; early_second = refl; early_no_more = refl; early_end = refl; end = refl; after_the_end = refl }

pub request_rows : RequestRows
request_rows = record { esrch_first = esrch_rows; seizing = seize_rows; options = option_rows; peeking = peek_rows; resuming = resume_rows; information = information_rows; messages = message_rows; waiting = wait_rows }

stop_rows : StopRows
unfolding signal_numbered stop_of
stop_rows = record { takes_stop = refl; stops = refl; stops_no_more = refl; stays = refl; stays_at_signal = refl; wakes = refl; woken = refl; takes_cont = refl; dropped = refl; released = refl; killed_taken = refl; killed_stopped = refl; killed_released = refl; killed_woken = refl }

send_rows : SendRows
unfolding signal_numbered stop_of
send_rows = record { stop_takes_cont = refl; cont_takes_stops = refl; stops_keep_stops = refl; cont_at_stop = refl; cont_again = refl; cont_elsewhere = refl; stop_after_cont = refl }

listen_rows : ListenRows
unfolding signal_numbered stop_of
listen_rows = record { signal_stop = refl; stop = refl; stop_by_other = refl; information = refl; listen = refl; registers_of_listening = refl; listen_twice = refl; no_more_stop = refl; held_at_stop = refl; woken = refl; woken_after_listen = refl; woken_once = refl; released = refl; released_goes_on = refl; released_with_signal = refl; woken_with_signal = refl; at_start = refl; at_entry_stop = refl; at_exit_stop = refl; at_signal_stop = refl; at_event_stop = refl; at_waking = refl; before_seize = refl; of_none = refl; of_dying = refl }

job_runs : JobRuns
unfolding signal_numbered stop_of has_effects calls
job_runs = record { stopped_child = refl; stopped_outcome = refl; untold_stop = refl; logged_stop = refl; told_stop = refl; continued_child = refl; left_child = refl }

pub job_rows : JobRows
job_rows = record { modes = stop_rows; sending = send_rows; listening = listen_rows; runs = job_runs }
