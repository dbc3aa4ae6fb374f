use Rattle.std.proofs.Common.{◌≡◌, ◌+◌, ◌&&◌, Bool, true, false, Some, None, refl, ap, ◌∙◌, rules, arith}
use Rattle.lx_open.specs.Nexts.{IsNextOpen}
use Rattle.lx_open.specs.Releases.{Held, closed_each}
use Rattle.lx_open.proofs.Rows.{from, closed_step, closed_end}
use Rattle.lx_open.proofs.release.close_each.Goals as goal

halves : (a b : Bool) → (a && b) ≡ true → (a ≡ true) × (b ≡ true)
halves true b e = (refl, e)
halves false b e = absurd (cc e)

pub loop-fd-preserved : goal.loop-fd-preserved
loop-fd-preserved c =
    let is_next : IsNextOpen c.loop-fd.fds.slots c.args.pid c.loop-fd.at (Some c.in-Some.fd) = search rules in
    let small = is_next.1 in
    record {
      small = omega (arith, small);
      closed = ap (λ (h : Held). closed_each c.args.on_exec h c.args.pid (from (c.in-Some.fd + 1))) c.close_if_meant-stays.ensures.held
          ∙ closed_step c.args.on_exec (record { tree = c.loop-fd.tree; fds = c.loop-fd.fds }) c.args.pid c.loop-fd.at c.in-Some.fd is_next
          ∙ c.loop-fd.invariant.closed;
      kept = λ e.
          let both = halves c.close_if_meant-stays.result c.loop-fd.kept e in
          let now = c.close_if_meant-stays.ensures.kept both.0 in
          let before = c.loop-fd.invariant.kept both.1 in
          (now.0 ∙ before.0, now.1 ∙ before.1);
    }

pub returns-clause-held : goal.returns-clause-held
returns-clause-held c =
    let none : IsNextOpen c.loop-fd.fds.slots c.args.pid c.loop-fd.at None = search rules in
    closed_end c.args.on_exec (record { tree = c.loop-fd.tree; fds = c.loop-fd.fds }) c.args.pid c.loop-fd.at c.loop-fd.invariant.small none
    ∙ c.loop-fd.invariant.closed
