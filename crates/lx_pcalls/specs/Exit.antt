-- exit(status) and exit_group(status): _exit(2), exit_group(2). A process is one thread, so either ends it.
use Rattle.std.specs.Prelude.{◌*◌, ◌%◌}
use Rattle.lx_abi.specs.declared.log.Call.{Call}
use Rattle.lx_model.specs.Machine.{Ends}
use Rattle.lx_proc.specs.Answers.{Answers, argument}

-- the wait word has the status's low eight bits above a zero byte (wait(2))
abbrev pub exit : Call → Answers
exit call = Ends (argument call 0 % 256 * 256)
