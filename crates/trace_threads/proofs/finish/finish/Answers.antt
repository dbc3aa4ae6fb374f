use Rattle.std.proofs.Common.{ap, Err, Ok, ◌∙◌}
use Rattle.pt_kernel.specs.Hosts.{HostState}
use Rattle.trace_threads.proofs.Journalled.{is_finished, is_a_fault}
use Rattle.trace_threads.proofs.finish.finish.Goals as goal

pub returns-in-Ok-clause-run : goal.returns-in-Ok-clause-run
returns-in-Ok-clause-run g c =
    is_finished c.args.boot.now c.args.limit c.args.shuts c.args.held c.args.traced.known c.args.traced.trace c.into_turns-turns.result c.args.traced.ended c.left_by-left.result
    (c.into_turns-turns.ensures ∙ ap (λ (h : HostState). h.hosting.turns) c.into_parts-host.ensures.host)
    (record {
      outcome = c.left_by-left.ensures.outcome;
      kept = c.left_by-left.ensures.kept;
      boot_is = c.left_by-left.ensures.boot;
      limit_is = c.left_by-left.ensures.limit;
      told = c.left_by-left.ensures.told;
      cut = c.left_by-left.ensures.cut;
      fault = c.left_by-left.ensures.fault;
    })
    (Ok c.in-Ok.run')
    (record {
      ended_is = c.in-Ok.ensures.ended;
      outcome = c.in-Ok.ensures.outcome;
      trace_is = c.in-Ok.ensures.trace;
      turns_are = c.in-Ok.ensures.turns;
      fault = c.in-Ok.ensures.fault;
    })

pub returns-in-Err-clause-fault : goal.returns-in-Err-clause-fault
returns-in-Err-clause-fault g c =
    is_a_fault c.args.boot.now c.args.limit c.args.shuts c.args.held c.args.traced.known c.args.traced.trace c.into_turns-turns.result c.args.traced.ended c.left_by-left.result
    (record {
      outcome = c.left_by-left.ensures.outcome;
      kept = c.left_by-left.ensures.kept;
      boot_is = c.left_by-left.ensures.boot;
      limit_is = c.left_by-left.ensures.limit;
      told = c.left_by-left.ensures.told;
      cut = c.left_by-left.ensures.cut;
      fault = c.left_by-left.ensures.fault;
    })
    (Err c.in-Err.fault)
    (record {
      ended_is = c.in-Err.ensures.ended;
      outcome = c.in-Err.ensures.outcome;
      trace_is = c.in-Err.ensures.trace;
      turns_are = c.in-Err.ensures.turns;
      fault = c.in-Err.ensures.fault;
    })
