use Rattle.std.proofs.Common.{◌≡◌, ap, subst, rules, ◌∙◌}
use Rattle.lx_files.specs.Folders.{at, names_of}
use Rattle.lx_files.specs.Ways.{AreKnown}
use Rattle.lx_files.proofs.cache.folder_of.Goals as goal

pub returns-then-eq : goal.returns-then-eq
returns-then-eq c = λ children known.
    let here = subst (AreKnown children) c.in-Some.ensures.cases.0 (c.loop-known.invariant children known) in
    let same : c.args.path.now ≡ c.in-Some.known.now.path = search rules in
    ap (λ p. at children (names_of p)) same ∙ here.0

pub loop-known-preserved : goal.loop-known-preserved
loop-known-preserved c = λ children known. (subst (AreKnown children) c.in-Some.ensures.cases.0 (c.loop-known.invariant children known)).1
