use Rattle.std.proofs.Common.{ap, ◌∙◌}
use Rattle.std.specs.Prelude.{is_ok}
use Rattle.lx_files.specs.Folders.{at, names_of}
use Rattle.lx_files.proofs.Ways.{known_pushed}
use Rattle.lx_files.proofs.cache.keep.Goals as goal

pub returns : goal.returns
returns c = λ children leads known.
    known_pushed children c.make_room.new.entered.items c.push-kept.new.self.items (record { path = c.in-Ok.path; folder = c.args.folder }) (is_ok c.push-kept.result) c.push-kept.ensures.items
    (c.make_room.ensures children known) (ap (λ p. at children (names_of p)) c.in-Ok.ensures ∙ leads)
