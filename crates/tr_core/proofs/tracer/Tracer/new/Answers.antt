use Rattle.std.proofs.Common.{false}
use Rattle.lx_abi.specs.Scripts.{choice_of}
use Rattle.pt_model.specs.Tracer as tracer
use Rattle.tr_core.specs.Settings.{options_by}
use Rattle.tr_core.specs.Tracers.{state_of}
use Rattle.tr_core.proofs.Steps.{fresh}
use Rattle.tr_core.proofs.tracer.Tracer.new.Goals as goal

pub returns : goal.returns
unfolding state_of
returns c = λ i. record {
  options = options_by c.args.options;
  script = choice_of c.args.script;
  tracer = record { known = fresh c.new-2.result c.new.result c.new-2.ensures c.new.ensures i; tracees = c.new-3.ensures i; focus = tracer.Booting; taken = 0 };
  pen = c.new-printer.ensures i;
  failed = false;
}
