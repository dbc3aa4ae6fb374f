use Rattle.std.proofs.Common.{◌≡◌, arith, rules}
use Rattle.elf_image.specs.Files.{file_of}
use Rattle.elf_image.proofs.RoundTrip.{file_is_read}
use Rattle.elf_image.proofs.writing.write.Goals as goal

pub returns-clause-read_again : goal.returns-clause-read_again
unfolding file_of
returns-clause-read_again c =
    let written : c.put_contents.new.out.items ≡ file_of c.args.image.now = search rules in
    λ laid. file_is_read c.args.image.now c.put_contents.new.out.items written (omega arith) laid
