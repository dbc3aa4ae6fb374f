use mir.Val.{bool_byte}
use Rattle.std.proofs.Common.{◌≡◌, ap, ◌∙◌, arith}
use Rattle.lx_boot.specs.Limits.{is_new_directory, new_directories}
use Rattle.lx_boot.proofs.Nodes.{no_directories_yet, count_one, one_more_directory, ends_new_directory}
use Rattle.lx_boot.proofs.limits.new_directories.Goals as goal

pub loop-i-init : goal.loop-i-init
loop-i-init c = record { so_far = no_directories_yet c.args.files.now c.args.path.now; few = omega arith }

pub loop-i-preserved : goal.loop-i-preserved
loop-i-preserved c =
    let files = c.args.files.now in
    let path = c.args.path.now in
    let i = c.loop-i.i in
    let new : c.ends_new_directory.result ≡ is_new_directory files path i = c.ends_new_directory.ensures ∙ ends_new_directory files path i c.longest_common-known.result c.loop-i-test.true c.longest_common-known.ensures in
    let one = count_one (is_new_directory files path i) c.loop-i.count c.from-count.result (new_directories files path i) (c.from-count.ensures ∙ ap bool_byte new) c.loop-i.invariant.so_far in
    record {
      so_far = one.0 ∙ one_more_directory files path i;
      few = omega (arith, one.1, c.loop-i.invariant.few);
    }
