use Rattle.std.proofs.Common.{rules, ◌≡◌, map, List, Bor, subst}
use Rattle.std.specs.List.Sorted.{IsPermutation}
use Rattle.std.proofs.lemmas.List.Sorted.{IsPermutation-map}
use Rattle.lx_abi.specs.declared.boot.GuestFile.{GuestFile}
use Rattle.lx_boot.proofs.neighbours.in_order.Goals as goal

pub returns : goal.returns
returns c =
    let e : map {A = Bor GuestFile} {B = GuestFile} (λ f. f.now) c.in_ok-order.order.items ≡ c.args.files.now = search rules in
    subst (λ (x : List GuestFile). IsPermutation x (map {A = Bor GuestFile} {B = GuestFile} (λ f. f.now) c.sort_unstable_by.new.self.items)) e (IsPermutation-map (λ (f : Bor GuestFile). f.now) _ _ c.sort_unstable_by.ensures.permutation)
