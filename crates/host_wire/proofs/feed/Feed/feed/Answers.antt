use Rattle.std.proofs.Common.{rules, ◌≡◌, ◌++◌, List, ℕ, drop, ap, subst, ◌∙◌}
use Rattle.host_wire.specs.Streams.{stream_of, Going, Failed, FailsAs}
use Rattle.host_wire.proofs.Streams.{fed_is, fed_fails, few_fed, prepended}
use Rattle.host_wire.proofs.feed.Feed.feed.Goals as goal

pub returns-in-Err-clause-fault : goal.returns-in-Err-clause-fault
returns-in-Err-clause-fault c =
    let bytes : c.as_slice.result.now ≡ c.self.inside.under_way.items ++ c.args.piece.now = c.as_slice.ensures.value ∙ c.in_ok-extend_from_slice.ensures.items in
    let is = fed_is c.self.inside.ready.items c.self.inside.under_way.items c.args.piece.now c.self.invariant in
    let f = subst (λ (bs : List ℕ). FailsAs Failed c.in-Err.fault (stream_of bs)) bytes c.in-Err.ensures.fault in
    rw (← c.self.view_is) (fed_fails c.self.inside.ready.items (stream_of (c.self.inside.under_way.items ++ c.args.piece.now)) _ c.in-Err.fault is f)

pub returns-in_default-clause-ok : goal.returns-in_default-clause-ok
returns-in_default-clause-ok c =
    let ready = c.self.inside.ready.items in
    let came : List ℕ = c.self.inside.under_way.items ++ c.args.piece.now in
    let held : c.extend_from_slice.new.self.items ≡ came = c.in_ok-extend_from_slice.ensures.items in
    let bytes : c.as_slice.result.now ≡ came = c.as_slice.ensures.value ∙ held in
    let is = fed_is ready c.self.inside.under_way.items c.args.piece.now c.self.invariant in
    let found = subst (λ (bs : List ℕ). stream_of bs ≡ Going c.in-Ok.found.items (drop c.in-Ok.used bs)) bytes c.in-Ok.ensures.whole in
    let all : c.join.new.ready.items ≡ ready ++ c.in-Ok.found.items = search (rules, c.join.ensures.joined, c.in_default) in
    let rest : c.drop_front.new.bytes.items ≡ drop c.in-Ok.used came = c.drop_front.ensures ∙ ap (drop c.in-Ok.used) held in
    rw (← c.self.view_is, all, rest) (is ∙ ap (prepended ready) found)

pub returns-in_default-clause-few : goal.returns-in_default-clause-few
returns-in_default-clause-few c = λ none le. few_fed _ _ _ _ c.self.view_is c.self.invariant none le (returns-in_default-clause-ok c)
