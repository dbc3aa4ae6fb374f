use Rattle.std.proofs.Common.{◌≡◌, ◌==◌, true, false, codes, rules}
use Rattle.tr_args.specs.Lists.{comma}
use Rattle.tr_args.proofs.Opening.{put_both, opens_null, opens_found, opens_stopped}
use Rattle.tr_args.proofs.lists.open.Goals as goal

pub returns-then-address-eq0 : goal.returns-then-address-eq0
returns-then-address-eq0 c =
    let e : (c.args.address == 0) ≡ true = search rules in
    opens_null c.args.most c.args.some c.args.address c.args.sheet.now c.put.new.self e (put_both (comma c.args.some) (codes "NULL") c.args.sheet.now c.comma.new.sheet c.put.new.self c.in_ok-comma.ensures c.in_ok-put.ensures)

pub returns-in_ok-comma-in-Ok : goal.returns-in_ok-comma-in-Ok
returns-in_ok-comma-in-Ok c =
    let e : (c.args.address == 0) ≡ false = search rules in
    opens_found c.found.result c.args.most c.args.some c.args.address c.in-Ok.bytes.now c.args.sheet.now c.read.new.self c.comma-in-Ok.new.sheet c.found.new.sheet e c.in-Ok.ensures c.in_ok-comma-in-Ok.ensures c.found.ensures

pub returns-in-Err : goal.returns-in-Err
returns-in-Err c =
    let e : (c.args.address == 0) ≡ false = search rules in
    opens_stopped c.in-Err.stop c.args.most c.args.some c.args.address c.args.sheet.now c.read.new.self e c.in-Err.ensures.0 c.in-Err.ensures.1 c.in-Err.ensures.2
