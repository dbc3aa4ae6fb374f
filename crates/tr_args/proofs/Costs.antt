-- What the text of each argument costs in reads.
use Rattle.std.proofs.Common.{ℕ, ◌≡◌, ◌≤◌, ◌+◌, ◌-◌, ◌*◌, ◌%◌, ◌^◌, ◌==◌, ◌||◌, nat_le, nat_lt, min, Bool, true, false, if◌then◌else◌, List, [], ◌∷◌, ◌++◌, length, take, codes, refl, arith}
use Rattle.std.proofs.lemmas.Bool.Decides.{nat_tests}
use Rattle.std.proofs.lemmas.List.{length-take}
use Rattle.std.proofs.Math.Nat.{min-le_left, min-le_right}
use Rattle.pt_model.specs.Requests.{may_peek}
use Rattle.tr_values.specs.Sheets.{Sheet, Shown, put, reads, ◌>>=◌}
use Rattle.tr_values.specs.Numbers.{pointer}
use Rattle.tr_values.specs.Escapes.{nul_at, quoted, cut}
use Rattle.tr_values.specs.Structs.{unless_null}
use Rattle.tr_args.specs.Paths.{path_read, path}
use Rattle.tr_args.specs.Buffers.{buffer_read, buffer}
use Rattle.tr_args.specs.Lists.{comma, word, item_read, item_more, item, items, most_items, null_at, words, list_read, list}
use Rattle.tr_args.specs.Environments.{variables, environment_read, environment}
use Rattle.tr_args.proofs.Bounds.{Within, wider, after, either, reads_within}

quoted_w : (bs : List ℕ) → Within 0 (quoted bs)
unfolding quoted
quoted_w bs = λ s. omega arith

cut_w : (bs : List ℕ) → Within 0 (cut bs)
cut_w bs = after 0 0 (quoted bs) (put (codes "...")) (quoted_w bs) (λ s. omega arith)

pub null_w : (k address : ℕ) (f : Sheet → Shown) → Within k f → Within k (unless_null address f)
null_w k address f h = either k (address == 0) (put (codes "NULL")) f (λ e. wider 0 k (put (codes "NULL")) (omega arith) (λ s. omega arith)) (λ e. h)

path_read_w : (address : ℕ) (bs : List ℕ) → Within 0 (path_read address bs)
unfolding path_read pointer
path_read_w address bs = either 0 (nat_lt (nul_at bs) (length bs)) (quoted (take (nul_at bs) bs)) (λ s. if nat_lt (length bs) 4096 then pointer address s else cut (take 4095 bs) s) (λ e. quoted_w _) (λ e. either 0 (nat_lt (length bs) 4096) (pointer address) (cut (take 4095 bs)) (λ f s. omega arith) (λ f. cut_w _))

pub path_w : (address : ℕ) → Within 1 (path address)
unfolding path
path_w address = null_w 1 address _ (reads_within 0 address 4096 (path_read address) refl (path_read_w address))

buffer_read_w : (address count shown : ℕ) (bs : List ℕ) → Within 0 (buffer_read address count shown bs)
unfolding buffer_read pointer
buffer_read_w address count shown bs = either 0 (nat_lt (length bs) shown) (pointer address) (λ s. if nat_lt shown count then cut bs s else quoted bs s) (λ e s. omega arith) (λ e. either 0 (nat_lt shown count) (cut bs) (quoted bs) (λ f. cut_w _) (λ f. quoted_w _))

can_peek : (n most : ℕ) → (n == 0) ≡ false → n ≤ most → most ≤ 4096 → may_peek n ≡ true
can_peek n most e l h = grind (arith, nat_tests)

pub buffer_w : (most address count : ℕ) → most ≤ 4096 → Within 1 (buffer most address count)
unfolding buffer
buffer_w most address count h =
    null_w 1 address _ (either 1 (min count most == 0) _ _
    (λ e. wider 0 1 _ (omega arith) (buffer_read_w address count 0 []))
    (λ e. reads_within 0 address (min count most) _ (can_peek (min count most) most e (min-le_right count most) h) (buffer_read_w address count (min count most))))

item_read_w : (most address : ℕ) (bs : List ℕ) → Within 0 (item_read most address bs)
unfolding item_read pointer
item_read_w most address bs = either 0 (nat_lt (nul_at bs) (length bs)) (quoted (take (nul_at bs) bs)) (λ s. if nat_lt most (length bs) then cut (take most bs) s else pointer address s) (λ e. quoted_w _) (λ e. either 0 (nat_lt most (length bs)) (cut (take most bs)) (pointer address) (λ f. cut_w _) (λ f s. omega arith))

can_peek_more : (most : ℕ) → nat_lt most 4096 ≡ true → may_peek (most + 1) ≡ true
can_peek_more most h = grind (arith, nat_tests)

can_peek_last : (most : ℕ) → nat_lt most 4096 ≡ false → most ≤ 4096 → may_peek (most - 4095) ≡ true
can_peek_last most e h = let k : most ≡ 4096 = grind (arith, nat_tests) in rw k refl

item_more_w : (most address : ℕ) (bs : List ℕ) → nat_lt most 4096 ≡ false → most ≤ 4096 → Within 1 (item_more most address bs)
unfolding item_more
item_more_w most address bs e h = either 1 (length bs == 4096) (reads ((address + 4096) % 2 ^ 64) (most - 4095) (λ more. item_read most address (bs ++ more))) (item_read most address bs)
    (λ f. reads_within 0 ((address + 4096) % 2 ^ 64) (most - 4095) (λ more. item_read most address (bs ++ more)) (can_peek_last most e h) (λ more. item_read_w most address (bs ++ more)))
    (λ f. wider 0 1 (item_read most address bs) (omega arith) (item_read_w most address bs))

item_w : (most address : ℕ) → most ≤ 4096 → Within 2 (item most address)
unfolding item
item_w most address h = either 2 (nat_lt most 4096) (reads address (most + 1) (item_read most address)) (reads address 4096 (item_more most address))
    (λ e. wider 1 2 (reads address (most + 1) (item_read most address)) (omega arith) (reads_within 0 address (most + 1) (item_read most address) (can_peek_more most e) (item_read_w most address)))
    (λ e. reads_within 1 address 4096 (item_more most address) refl (λ bs. item_more_w most address bs e h))

items_w : (most : ℕ) (some : Bool) (ws : List (List ℕ)) → most ≤ 4096 → Within (2 * length ws) (items most some ws)
unfolding items
items_w most some [] h = λ s. omega arith
items_w most some (w ∷ ws) h = wider (0 + (2 + 2 * length ws)) (2 * length (w ∷ ws)) _ (omega arith) (after 0 (2 + 2 * length ws) (put (comma some)) (λ s. item most (word w) s >>= items most true ws) (λ s. omega arith) (after 2 (2 * length ws) _ _ (item_w most _ h) (items_w most true ws h)))

few_taken : (n : ℕ) (ws : List (List ℕ)) → 2 * length (take (min n 32) ws) ≤ 64
few_taken n ws = let e = length-take (min n 32) ws in let a = min-le_left (min n 32) (length ws) in let b = min-le_right n 32 in rw e (omega (arith, a, b))

list_read_w : (most address : ℕ) (bs : List ℕ) → most ≤ 4096 → Within 64 (list_read most address bs)
unfolding list_read pointer
list_read_w most address bs h = either 64 (nat_lt (null_at (words bs)) (length (words bs)) || nat_le 264 (length bs)) (λ s. put (codes "[") s >>= rest) (pointer address)
    (λ e. after 0 64 (put (codes "[")) rest (λ s. omega arith) (after 64 0 (items most false (take (min (null_at (words bs)) 32) (words bs))) close (wider _ 64 _ (few_taken (null_at (words bs)) (words bs)) (items_w most false (take (min (null_at (words bs)) 32) (words bs)) h)) (λ s. omega arith)))
    (λ e s. omega arith) where
      close : Sheet → Shown
      close s = put (if nat_lt most_items (null_at (words bs)) then codes ", ...]" else codes "]") s

      rest : Sheet → Shown
      rest s = items most false (take (min (null_at (words bs)) 32) (words bs)) s >>= close

pub list_w : (most address : ℕ) → most ≤ 4096 → Within 65 (list most address)
unfolding list
list_w most address h = null_w 65 address _ (reads_within 64 address 264 (list_read most address) refl (λ bs. list_read_w most address bs h))

environment_read_w : (address : ℕ) (bs : List ℕ) → Within 0 (environment_read address bs)
unfolding environment_read pointer
environment_read_w address bs = after 0 0 (pointer address) (put (if nat_lt (null_at (words bs)) (length (words bs)) then variables (null_at (words bs)) else [])) (λ s. omega arith) (λ s. omega arith)

pub environment_w : (address : ℕ) → Within 1 (environment address)
unfolding environment
environment_w address = null_w 1 address _ (reads_within 0 address 4096 (environment_read address) refl (environment_read_w address))
