use Rattle.std.proofs.Common.{◌≡◌, ◌≢◌, ℕ, List, ◌==◌, Err, IfErr, ap, ◌∙◌, subst}
use Rattle.std.specs.List.{slice_split}
use Rattle.rv_asm.specs.Listing.{image_of, listing_of}
use Rattle.rv_syntax.specs.Text.{texts}
use Rattle.rv_asm.specs.declared.fault.AsmKind.TheVariants.{Memory}
use Rattle.rv_asm.proofs.assembling.assemble.Goals as goal

pub returns-in-Ok-clause-fault : goal.returns-in-Ok-clause-fault
unfolding listing_of
returns-in-Ok-clause-fault c =
    let lines : texts c.as_slice.result.now ≡ slice_split (λ b. b == 10) c.args.text.now =
    ap texts c.as_slice.ensures.value ∙ c.in-Ok.ensures ∙ ap (slice_split (λ b. b == 10)) c.as_bytes.ensures.value in
    subst (λ (ts : List (List ℕ)). IfErr c.from_lines.result (λ fault. fault.kind ≢ Memory → image_of ts ≡ Err fault)) lines c.from_lines.ensures.fault
