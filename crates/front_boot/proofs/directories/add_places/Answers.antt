use Rattle.std.proofs.Common.{◌≡◌, [], sym}
use Rattle.std.proofs.lemmas.List.{append-nil}
use Rattle.front_boot.proofs.Filed.{start_on}
use Rattle.front_boot.proofs.directories.add_places.Goals as goal

pub loop-place-init : goal.loop-place-init
loop-place-init g c = ([], sym (append-nil _))

pub loop-place-preserved : goal.loop-place-preserved
loop-place-preserved g c = start_on _ _ _ c.in_ok-add_place.ensures c.loop-place.invariant
