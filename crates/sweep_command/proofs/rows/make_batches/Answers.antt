use Rattle.std.proofs.Common.{rules, ◌≡◌, List, length, take, true, false, ◌++◌, ap, sym, subst, ◌∙◌, arith}
use Rattle.std.specs.Prelude.{◌&&◌, min}
use Rattle.sweep_rows.specs.declared.wanted.Case.{Case}
use Rattle.sweep_rows.specs.declared.row.Row.{Row}
use Rattle.sweep_threads.proofs.Joining.{grouped}
use Rattle.sweep_command.specs.Checks.{AreTold}
use Rattle.sweep_command.specs.Reports.{ends_found}
use Rattle.sweep_command.proofs.Cutting.{told_are_joined, first_rows, rows_within, some_told, ended_behind, sweep_ends, fewer_left}
use Rattle.sweep_command.proofs.rows.make_batches.Goals as goal

pub behind-left-requires : goal.behind-left-requires
behind-left-requires g c =
    let k = c.args.words.is_checked in
    let s = c.args.plan.now.setup in
    let r = c.args.reference.now in
    let l = c.loop-left in
    let left = l.left.now in
    let first = c.split_at.result.0.now in
    let batch = c.in_ok-more.more.items in
    let told = c.cut.new.batch.items in
    let len : c.len.result ≡ length told = search rules in
    let within = rows_within k s r c.min.result left first batch told c.split_at.ensures.front c.in_ok-ended.ensures.first c.in_ok-more.ensures.told in
    omega (arith, len, within)

pub loop-left-smaller : goal.loop-left-smaller
loop-left-smaller g c =
    let k = c.args.words.is_checked in
    let s = c.args.plan.now.setup in
    let r = c.args.reference.now in
    let l = c.loop-left in
    let left = l.left.now in
    let first = c.split_at.result.0.now in
    let batch = c.in_ok-more.more.items in
    let told = c.cut.new.batch.items in
    let size : c.min.result ≡ min c.batch_size-size.result (length left) = search rules in
    let least = c.batch_size-size.ensures in
    let some = c.goes_on.ensures.some c.loop-left-test.true in
    let any = some_told k s r c.args.plan.now.strict c.args.words.fail_fast c.in_ok-ended.ended c.min.result left first batch told c.split_at.ensures.front
    (omega (arith, size, least, some)) some c.in_ok-more.ensures.told c.in_ok-ended.ensures in
    let len : c.len.result ≡ length told = search rules in
    let rest : take (length told) left ++ c.behind-left.result.now ≡ left =
    subst (λ m. take m left ++ c.behind-left.result.now ≡ left) len c.behind-left.ensures in
    fewer_left (length told) left c.behind-left.result.now rest any
    (rows_within k s r c.min.result left first batch told c.split_at.ensures.front c.in_ok-ended.ensures.first c.in_ok-more.ensures.told)

pub loop-left-preserved : goal.loop-left-preserved
loop-left-preserved g c =
    let k = c.args.words.is_checked in
    let s = c.args.plan.now.setup in
    let r = c.args.reference.now in
    let l = c.loop-left in
    let left = l.left.now in
    let first = c.split_at.result.0.now in
    let batch = c.in_ok-more.more.items in
    let told = c.cut.new.batch.items in
    let size : c.min.result ≡ min c.batch_size-size.result (length left) = search rules in
    let least = c.batch_size-size.ensures in
    let some = c.goes_on.ensures.some c.loop-left-test.true in
    let any = some_told k s r c.args.plan.now.strict c.args.words.fail_fast c.in_ok-ended.ended c.min.result left first batch told c.split_at.ensures.front
    (omega (arith, size, least, some)) some c.in_ok-more.ensures.told c.in_ok-ended.ensures in
    let len : c.len.result ≡ length told = search rules in
    let rest : take (length told) left ++ c.behind-left.result.now ≡ left =
    subst (λ m. take m left ++ c.behind-left.result.now ≡ left) len c.behind-left.ensures in
    let done = l.invariant.0 in
    let more = take (length told) left in
    let items : c.append.new.self.items ≡ l.rows.items ++ told = search rules in (
      done ++ more,
      grouped done more c.behind-left.result.now c.args.cases.now (ap (λ (cases : List Case). done ++ cases) rest ∙ l.invariant.1),
      subst (λ (all : List Row). AreTold k s r (done ++ more) all) (sym items)
          (told_are_joined k s r done more l.rows.items told l.invariant.2
          (first_rows k s r c.min.result left first batch told c.split_at.ensures.front c.in_ok-ended.ensures.first c.in_ok-more.ensures.told)),
      λ e. subst (λ (all : List Row). (c.args.words.fail_fast && ends_found c.args.plan.now.strict false all) ≡ true) (sym items)
          (ended_behind c.args.plan.now.strict c.args.words.fail_fast l.rows.items told any (c.in_ok-ended.ensures.found e)),
      c.in_ok-more.ensures.led,
    )

pub returns : goal.returns
returns g c = record {
  done = c.loop-left.invariant.0;
  rest = c.loop-left.left.now;
  all = c.loop-left.invariant.1;
  made = c.loop-left.invariant.2;
  ended = sweep_ends c.args.plan.now.strict c.args.words c.loop-left.ended c.is_past.result c.loop-left.rows.items c.loop-left.left.now
      c.loop-left.invariant.3 c.is_past.ensures (c.goes_on.ensures.none c.loop-left-test.false);
}
