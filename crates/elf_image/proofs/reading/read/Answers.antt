use Rattle.std.proofs.Common.{◌≡◌, List, length, map, eqb, refl, sym, ap, ◌∙◌, arith}
use Rattle.std.proofs.lemmas.Bool.{le-ltb}
use Rattle.std.specs.List.{list_any}
use Rattle.elf_image.proofs.Lists.{all_pass}
use Rattle.elf_image.proofs.Laid.{laid_out}
use Rattle.elf_image.specs.declared.headers.ProgramHeader.{ProgramHeader}
use Rattle.elf_image.specs.Headers.{program_headers, extents, table_offset, header_count}
use Rattle.elf_image.specs.Layout.{any_share, are_too_large}
use Rattle.elf_image.specs.Checks.{passes_end, exceeds}
use Rattle.elf_image.specs.Images.{image_of, segment_of}
use Rattle.elf_image.proofs.reading.read.Goals as goal

pub returns-clause-image : goal.returns-clause-image
unfolding image_of
returns-clause-image c =
    let bytes = c.args.bytes.now in
    let count : c.half_at-count.result ≡ header_count bytes = c.half_at-count.ensures in
    let table : c.double_at-table.result ≡ table_offset bytes = c.double_at-table.ensures in
    let found : c.as_slice-headers.result.now ≡ program_headers bytes = c.as_slice-headers.ensures.value ∙ c.in_ok-found.ensures.headers ∙ rw (count, table) refl in
    let filled : c.as_slice-extents.result.now ≡ extents (program_headers bytes) = c.as_slice-extents.ensures.value ∙ c.in_ok-filled.ensures ∙ ap extents found in
    record {
      accepted = all_pass bytes (sym c.if-lacks_magic.ensures) (le-ltb _ _ c.if-bytes-lt-HEADER_SIZE.false) (sym c.if-is_foreign.ensures) (sym c.if-is_other_file.ensures)
          (le-ltb _ _ (omega (arith, count))) (le-ltb _ _ (omega (arith, count, table)))
          (ap (λ (hs : List ProgramHeader). eqb (length hs) 0) (sym found) ∙ sym c.if-is_empty.ensures)
          (ap (list_any (passes_end bytes)) (sym found) ∙ sym c.if-any_passes_end.ensures)
          (ap (list_any exceeds) (sym found) ∙ sym c.if-any_exceeds.ensures)
          (ap any_share (sym filled) ∙ sym c.if-overlap.ensures)
          (ap are_too_large (sym filled) ∙ sym c.if-too_large.ensures);
      image_is = let parts = c.in_ok-segments_of.ensures ∙ ap (map (segment_of bytes)) found in cc (parts, c.double_at.ensures);
    }

pub returns-clause-laid_out : goal.returns-clause-laid_out
returns-clause-laid_out c =
    let hs = c.as_slice-headers.result.now in
    let found = c.as_slice-headers.ensures.value ∙ c.in_ok-found.ensures.headers in
    let filled : c.as_slice-extents.result.now ≡ extents hs = c.as_slice-extents.ensures.value ∙ c.in_ok-filled.ensures in
    let laid = laid_out c.args.bytes.now c.half_at-count.result c.double_at-table.result c.double_at.result hs found (omega arith)
    (sym c.if-is_empty.ensures) (sym c.if-any_exceeds.ensures) (ap any_share (sym filled) ∙ sym c.if-overlap.ensures) (ap are_too_large (sym filled) ∙ sym c.if-too_large.ensures) in
    rw c.in_ok-segments_of.ensures laid
