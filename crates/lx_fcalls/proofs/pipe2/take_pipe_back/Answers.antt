use Rattle.std.proofs.Common.{true, false, []}
use Rattle.containers.specs.Vacant.{vacant}
use Rattle.lx_open.specs.declared.description.Object.TheVariants.{ReadEnd, WriteEnd}
use Rattle.lx_open.specs.declared.fd_table.FdTable.{FdTable}
use Rattle.lx_open.specs.Opens.{with_pipe}
use Rattle.lx_fcalls.specs.Pipe2.{end_of, with_end}
use Rattle.lx_fcalls.proofs.Opening.{still_free}
use Rattle.lx_fcalls.proofs.pipe2.take_pipe_back.Goals as goal

pub returns : goal.returns
returns c = λ was closes new first_free second_free differ made.
    let pid = c.args.pid in
    let pipe = c.args.pipe in
    let piped : FdTable = with_pipe was pipe [] in
    let one : FdTable = with_end piped pid c.args.first (ReadEnd pipe) true closes in
    c.take_pipe_back.ensures was new
    (c.take_back-2.ensures piped (end_of (ReadEnd pipe) true) closes first_free
    (c.take_back.ensures one (end_of (WriteEnd pipe) false) closes
    (still_free piped pid c.args.second c.args.first (record { description = vacant was.descriptions; closes_on_exec = closes }) second_free differ) made))
