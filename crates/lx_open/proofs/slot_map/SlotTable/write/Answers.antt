use Rattle.std.proofs.Common.{ℕ, ap, sym, subst, ◌∙◌}
use Rattle.std.specs.Prelude.{IsSome}
use Rattle.std.specs.FinMap as maps
use Rattle.lx_open.specs.Kinds.{SlotMap}
use Rattle.lx_open.specs.Rows.{flat}
use Rattle.lx_open.proofs.Flat.{no_pid_there, here_at, as_pair}
use Rattle.lx_open.proofs.slot_map.SlotTable.write.Goals as goal

pub overwrite-requires-clause-there : goal.overwrite-requires-clause-there
overwrite-requires-clause-there c =
    subst IsSome
    (ap (λ (m : SlotMap). maps.get m c.args.pair) (sym c.self.view_is)
    ∙ sym (here_at c.self.inside.rows c.args.pair c.in-Some.pid c.fd_of.result c.in-Some.ensures.some c.fd_of.ensures))
    c.requires

pub returns-in-None : goal.returns-in-None
returns-in-None c =
    absurd (no_pid_there c.self.inside.rows c.args.pair c.self.invariant c.in-None.ensures.none
    (subst (λ (m : SlotMap). IsSome (maps.get m c.args.pair)) (sym c.self.view_is) c.requires))

pub returns-in-Some : goal.returns-in-Some
returns-in-Some c =
    c.overwrite.ensures.put
    ∙ ap (λ (k : ℕ). maps.insert (flat c.self.inside.rows) k c.args.slot) (as_pair c.args.pair c.in-Some.pid c.fd_of.result c.in-Some.ensures.some c.fd_of.ensures)
    ∙ ap (λ (m : SlotMap). maps.insert m c.args.pair c.args.slot) c.self.view_is
