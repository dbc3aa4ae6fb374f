use Rattle.std.proofs.Common.{length, ◌-◌}
use Rattle.tr_args.proofs.lists.+items_on.Given as goal

abbrev pub decreases-items_on : goal.decreases-items_on
decreases-items_on l = length l.list.now.addresses.items - l.list.now.next
