use Rattle.std.proofs.Common.{option_map, subst, sym}
use Rattle.trace_command.specs.Tracing.{TakesAlone}
use Rattle.trace_command.specs.declared.kernel.Kernel.TheVariants.{There}
use Rattle.trace_command.proofs.kernel.boot_kernel.Goals as goal

pub returns-in-Ok-boot_over-clause-takes : goal.returns-in-Ok-boot_over-clause-takes
returns-in-Ok-boot_over-clause-takes g c =
    subst
    (λ h. TakesAlone g.R.Started.Stdout.Read.remaining g.R.Started.Stdin.Write.contents (option_map (λ p. p.now) h)
    c.args.boot c.args.limit c.args.turns.items (There c.boot_over.new.link))
    (sym c.in-Some.is) (
      c.in-Ok.link,
      (
        record { given = c.in-Ok.ensures.given; whole = c.in-Ok.ensures.whole; idle = c.in-Ok.ensures.idle },
        c.in-Ok-boot_over.ensures.booted,
      ),
    )
