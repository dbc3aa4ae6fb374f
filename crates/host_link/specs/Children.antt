-- A link to a host that runs as a process of its own: a link over its streams.
use Rattle.std.specs.Global.{Global}
use Rattle.std.specs.declared.io.buffered.BufReader.{BufReader}
use Rattle.host_wire.specs.declared.counted.Counted.{Counted}
use Rattle.host_link.specs.declared.child.ChildLink.{ChildLink}
use Rattle.host_link.specs.declared.pipe.PipeLink.{PipeLink}
use Rattle.host_link.specs.declared.streams.Replies.{Replies}
use Rattle.host_link.specs.declared.streams.Requests.{Requests}

abbrev pub pipe_of : {P I O E : Type 0} → ChildLink P I O E
    → PipeLink (Counted (BufReader (Replies O E) Global)) (Counted (Requests I))
pipe_of l = l.pipe
