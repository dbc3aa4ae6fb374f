-- What is done to a memory keeps it within the most pages.
use Rattle.std.proofs.Common.{◌≡◌, ◌≢◌, ℕ, zero, suc, ◌+◌, ◌*◌, ◌/◌, ◌%◌, ◌<◌, ◌≤◌, inl, inr, Bool, true, false, cond, Option, Some, None, List, [], ◌∷◌, ◌++◌, length, map, get_or, refl, sym, ap, subst, ◌∙◌, arith, length-append, All}
use Rattle.std.specs.Prelude.{◌==◌, ◌||◌, not, nat_lt, nat_le, is_some, is_none, fold}
use Rattle.std.specs.Ordering.{nat_cmp, eq_by_cmp}
use Rattle.std.specs.Cmp.{unsigned_tied}
use Rattle.std.specs.FinMap as maps
use Rattle.std.specs.FinMap.{get, keys, contains_key-keys}
use Rattle.std.specs.FinSet as set
use Rattle.std.specs.List.{list_any, filter, range_with_len}
use Rattle.std.specs.Set.{is_member}
use Rattle.std.proofs.lemmas.Bool.{or_left, or_right, both_ways}
use Rattle.std.proofs.lemmas.Bool.Decides.{nat_tests, eqb_tells}
use Rattle.std.proofs.lemmas.Cmp.{nat_cmp_total}
use Rattle.std.proofs.lemmas.List.{append_assoc}
use Rattle.std.proofs.lemmas.List.Sums.{length-filter}
use Rattle.rv_isa.specs.declared.register.Register.{Register}
use Rattle.rv_isa.specs.declared.operations.LoadKind.{LoadKind}
use Rattle.rv_isa.specs.declared.operations.StoreKind.{StoreKind}
use Rattle.rv_isa.specs.declared.inst.Inst.{Inst}
use Rattle.rv_isa.specs.declared.inst.Inst.TheVariants as inst
use Rattle.rv_mem.specs.Memory.{Memory, first_fault, written}
use Rattle.rv_mem.specs.Mapping.{unmapped, page_count, limit_fault}
use Rattle.rv_mem.specs.declared.rights.Access.TheVariants as access
use Rattle.rv_mem.specs.declared.fault.MemFault.{MemFault}
use Rattle.rv_mem.specs.declared.fault.MemFault.TheVariants as fault
use Rattle.rv_hart.specs.declared.hart.Hart.{Hart}
use Rattle.rv_isa.specs.Decoding.{instruction}
use Rattle.rv_hart.specs.Registers.{value}
use Rattle.rv_hart.specs.Arithmetic.{sum64, taken}
use Rattle.rv_hart.specs.Transfers.{load_size, store_size, stored}
use Rattle.rv_hart.specs.Steps.{linked, extended, word_at, Outcome, refused, jumps, branches, loads, stores, executed, decoded, fetched, stepped}
use Rattle.elf_image.specs.declared.fault.ElfFault.{ElfFault}
use Rattle.elf_image.specs.declared.fault.ElfFault.TheVariants as elf
use Rattle.elf_image.specs.declared.image.Segment.{Segment}
use Rattle.elf_image.specs.declared.image.Image.{Image}
use Rattle.elf_image.specs.declared.layout.Extent.{Extent}
use Rattle.elf_image.specs.Checks.{fault_of, has_no_magic, is_of_another_machine, is_no_program, passes_end, exceeds}
use Rattle.elf_image.specs.Headers.{entry, table_offset, header_count, program_headers, extents}
use Rattle.elf_image.specs.Images.{extent_of, segment_of, image_of, IsInRange, IsLaidOut}
use Rattle.elf_image.specs.Layout.{touches, pages_of, any_share, are_too_large, page_count as extents_count}
use Rattle.elf_image.proofs.Laid.{laid_out}
use Rattle.lx_exec.specs.Programs.{with_segment, with_image, bare_memory, start_memory, strings_start, strings, start_sp, doublewords, vector}
use Rattle.lx_exec.specs.Rooms.{stack_pages, pages_under, program_pages, IsOn}
use Rattle.lx_exec.proofs.Roomy.{count_on, on_written, bare_on, segment_room}
use Rattle.lx_sound.specs.Pages.{HasFewPages}
use Rattle.lx_sound.proofs.Maps.{neither}

abbrev same : ℕ → ℕ → Bool
same = eq_by_cmp nat_cmp

abbrev has : List ℕ → ℕ → Bool
has = is_member same

tied : (k x : ℕ) → k ≡ x → same k x ≡ true
tied k x e = unsigned_tied k x ∙ grind (arith, nat_tests)

untied : (k x : ℕ) → k ≢ x → same k x ≡ false
untied k x n = unsigned_tied k x ∙ grind (arith, nat_tests)

-- Numbers, each once.

record Picked (xs : List ℕ) : Type 0 where
  list : List ℕ
  long : set.len (set.from_list {R = nat_cmp} xs) ≡ length list
  alike : (k : ℕ) → has list k ≡ has xs k

one_longer : (xs : List ℕ) (x : ℕ) (b : Bool) → has xs x ≡ b → set.len (set.from_list {R = nat_cmp} (x ∷ xs)) ≡ cond b (set.len (set.from_list {R = nat_cmp} xs)) (set.len (set.from_list {R = nat_cmp} xs) + 1)
one_longer xs x b e = set.len-insert nat_cmp_total (set.from_list xs) x ∙ ap (λ c. cond c (set.len (set.from_list {R = nat_cmp} xs)) (set.len (set.from_list {R = nat_cmp} xs) + 1)) (set.contains-from_list nat_cmp_total xs x ∙ e)

again : (xs : List ℕ) (x k : ℕ) → has xs x ≡ true → has xs k ≡ (same k x || has xs k)
again xs x k h = elim (eqb_tells k x) [
  | inl e ↦ (ap (has xs) e.1 ∙ h) ∙ sym (or_left (same k x) (has xs k) (tied k x e.1))
  | inr e ↦ sym (ap (λ b. b || has xs k) (untied k x e.1))
]

pick : (xs : List ℕ) → Picked xs
pick [] = record { list = []; long = set.len-empty nat_cmp; alike = λ k. refl }
pick (x ∷ xs) = go (pick xs) (has xs x) refl
  where
    go : Picked xs → (b : Bool) → has xs x ≡ b → Picked (x ∷ xs)
    go p true e = record { list = p.list; long = one_longer xs x true e ∙ p.long; alike = λ k. p.alike k ∙ again xs x k e }
    go p false e = record {
      list = x ∷ p.list;
      long = one_longer xs x false e ∙ (let l = p.long in omega arith);
      alike = λ k. ap (λ b. same k x || b) (p.alike k);
    }

quotient_there : (ks : List ℕ) (a : ℕ) → has ks a ≡ true → has (map (λ i. i / 4096) ks) (a / 4096) ≡ true
quotient_there [] a h = absurd (cc h)
quotient_there (x ∷ ks) a h = go (same a x) refl h (quotient_there ks a)
  where
    go : (b : Bool) → same a x ≡ b → (b || has ks a) ≡ true → (has ks a ≡ true → has (map (λ i. i / 4096) ks) (a / 4096) ≡ true) → (same (a / 4096) (x / 4096) || has (map (λ i. i / 4096) ks) (a / 4096)) ≡ true
    go true e k later = elim (eqb_tells a x) [
      | inl is ↦ or_left (same (a / 4096) (x / 4096)) (has (map (λ i. i / 4096) ks) (a / 4096)) (tied (a / 4096) (x / 4096) (ap (λ i. i / 4096) is.1))
      | inr is ↦ absurd (both_ways (same a x) (untied a x is.1) e)
    ]
    go false e k later = or_right (same (a / 4096) (x / 4096)) (has (map (λ i. i / 4096) ks) (a / 4096)) (later k)

-- A memory on few pages.

record OnFew (m : Memory) : Type 0 where
  pages : List ℕ
  few : length pages ≤ 16384
  on : IsOn pages m

on_few : (m : Memory) → HasFewPages m → OnFew m
unfolding page_count
on_few m h =
    let p : Picked (map (λ a. a / 4096) (keys m)) = pick (map (λ a. a / 4096) (keys m)) in
    let long = p.long in record {
      pages = p.list;
      few = omega (arith, h, long);
      on = record { on = λ a there. p.alike (a / 4096) ∙ quotient_there (keys m) a (sym (contains_key-keys m a) ∙ there) };
    }

few_on : (m : Memory) → OnFew m → HasFewPages m
few_on m h = let le = count_on h.pages m h.on in let few = h.few in omega (arith, le, few)

pub written_few : (m : Memory) (a : ℕ) (bytes : List ℕ) → HasFewPages m → HasFewPages (written m a bytes)
written_few m a bytes h = let on = on_few m h in few_on (written m a bytes) (record { pages = on.pages; few = on.few; on = on_written on.pages m a bytes on.on })

unmapped_on : (pages : List ℕ) (m : Memory) (a n : ℕ) → IsOn pages m → IsOn pages (unmapped m a n)
unfolding unmapped
unmapped_on pages m a zero h = h
unmapped_on pages m a (suc n) h = unmapped_on pages (maps.remove m a) (a + 1) n (record { on = λ q there. h.on q (still q there) })
  where
    still : (q : ℕ) → is_some (get (maps.remove m a) q) ≡ true → is_some (get m q) ≡ true
    still q there = go (eq_by_cmp nat_cmp q a) (sym (ap is_some (maps.get-remove nat_cmp_total m a q)) ∙ there)
      where
        go : (b : Bool) → is_some (cond b None (get m q)) ≡ true → is_some (get m q) ≡ true
        go true e = absurd (cc e)
        go false e = e

pub unmapped_few : (m : Memory) (a n : ℕ) → HasFewPages m → HasFewPages (unmapped m a n)
unmapped_few m a n h = let on = on_few m h in few_on (unmapped m a n) (record { pages = on.pages; few = on.few; on = unmapped_on on.pages m a n on.on })

-- where mapping isn't refused
pub within_few : (m : Memory) → is_none (limit_fault m) ≡ true → HasFewPages m
within_few m = go (nat_le (page_count m) 16384) refl
  where
    go : (b : Bool) → nat_le (page_count m) 16384 ≡ b → is_none (cond b None (Some fault.TooLarge)) ≡ true → page_count m ≤ 16384
    go true le e = grind (arith, nat_tests, le)
    go false le e = absurd (cc e)

-- An instruction.

abbrev FewIn : Outcome → Type 0
FewIn o = HasFewPages o.memory

module _ (h : Hart) (m : Memory) (few : HasFewPages m) where
  refused_few : (f : MemFault) → FewIn (refused h m f)
  refused_few (fault.Unmapped a) = few
  refused_few (fault.Forbidden a) = few
  refused_few fault.TooLarge = few
  refused_few fault.Memory = few

  either_few : (b : Bool) (x y : Outcome) → FewIn x → FewIn y → FewIn (cond b x y)
  either_few true x y p q = p
  either_few false x y p q = q

  jumps_few : (linked : Hart) (to : ℕ) → FewIn (jumps h linked m to)
  jumps_few linked to = either_few (to % 4 == 0) _ _ few few

  branches_few : (b : Bool) (to : ℕ) → FewIn (branches b h m to)
  branches_few true to = jumps_few h to
  branches_few false to = few

  loads_few : (k : LoadKind) (rd : Register) (a : ℕ) (o : Option MemFault) → FewIn (loads h m k rd a o)
  loads_few k rd a None = few
  loads_few k rd a (Some f) = refused_few f

  stores_few : (k : StoreKind) (a n : ℕ) (o : Option MemFault) → FewIn (stores h m k a n o)
  stores_few k a n None = written_few m a (stored k n) few
  stores_few k a n (Some f) = refused_few f

  executed_few : (i : Inst) → FewIn (executed i h m)
  executed_few (inst.Lui rd upper) = few
  executed_few (inst.Auipc rd upper) = few
  executed_few (inst.Jal rd offset) = jumps_few (linked h rd) (sum64 h.pc (extended offset))
  executed_few (inst.Jalr rd rs1 offset) = jumps_few (linked h rd) (sum64 (value h rs1) (extended offset) / 2 * 2)
  executed_few (inst.Branch c rs1 rs2 offset) = branches_few (taken c (value h rs1) (value h rs2)) (sum64 h.pc (extended offset))
  executed_few (inst.Load k rd rs1 offset) = let a = sum64 (value h rs1) (extended offset) in loads_few k rd a (first_fault access.Read m a (load_size k))
  executed_few (inst.Store k rs1 rs2 offset) = let a = sum64 (value h rs1) (extended offset) in stores_few k a (value h rs2) (first_fault access.Write m a (store_size k))
  executed_few (inst.Immediate o rd rs1 i) = few
  executed_few (inst.ShiftImmediate s rd rs1 amount) = few
  executed_few (inst.AddImmediateWord rd rs1 i) = few
  executed_few (inst.ShiftImmediateWord s rd rs1 amount) = few
  executed_few (inst.Operation o rd rs1 rs2) = few
  executed_few (inst.WordOperation o rd rs1 rs2) = few
  executed_few (inst.Fence rd rs1 ordering) = few
  executed_few inst.EnvironmentCall = few
  executed_few inst.EnvironmentBreak = few

  decoded_few : (o : Option Inst) → FewIn (decoded h m o)
  decoded_few None = few
  decoded_few (Some i) = executed_few i

  fetched_few : (o : Option MemFault) → FewIn (fetched h m o)
  fetched_few None = decoded_few (instruction (word_at h m))
  fetched_few (Some f) = refused_few f

  pub stepped_few : FewIn (stepped h m)
  unfolding stepped
  stepped_few = either_few (h.pc % 4 == 0) _ _ (fetched_few (first_fault access.Execute m h.pc 4)) few

-- A program that begins.

length_under : (es : List Extent) → length (pages_under es) ≡ extents_count es
unfolding pages_under
length_under [] = refl
length_under (e ∷ es) =
    let first = length-append (filter (λ page. not (list_any (touches page) es)) (pages_of e)) (pages_under es) in
    let own = length-filter (λ (page : ℕ). not (list_any (touches page) es)) (pages_of e) in
    let rest = length_under es in
    omega (arith, first, own, rest)

length_row : (a n : ℕ) → length (range_with_len a n) ≡ n
length_row a zero = refl
length_row a (suc n) = let rest = length_row (a + 1) n in omega (arith, rest)

stack_long : length stack_pages ≡ 65
unfolding stack_pages
stack_long = length_row 0x3FFFFBF 65

program_long : (ss : List Segment) → extents_count (map extent_of ss) ≤ 8192 → length (program_pages ss) ≤ 16384
program_long ss h =
    let both = length-append stack_pages (pages_under (map extent_of ss)) in
    let under = length_under (map extent_of ss) in
    let stack = stack_long in
    omega (arith, both, under, stack, h)

here_get : (front rest : List Segment) (s : Segment) → s ≡ get_or (front ++ s ∷ rest) (length front) s
here_get [] rest s = refl
here_get (x ∷ front) rest s = here_get front rest s

here_within : (front rest : List Segment) (s : Segment) → length front < length (front ++ s ∷ rest)
here_within front rest s = let all = length-append front (s ∷ rest) in omega (arith, all)

-- the segments from one on, behind those in front of it
segments_on : (ss front rest : List Segment) (m : Memory) → ss ≡ front ++ rest → All IsInRange ss → IsOn (program_pages ss) m → IsOn (program_pages ss) (fold with_segment m rest)
segments_on ss front [] m is range on = on
segments_on ss front (s ∷ rest) m is range on =
    let place = subst (λ (xs : List Segment). s ≡ get_or xs (length front) s) (sym is) (here_get front rest s) in
    let within = subst (λ (xs : List Segment). length front < length xs) (sym is) (here_within front rest s) in
    segments_on ss (front ++ s ∷ []) rest (with_segment m s) (is ∙ sym (append_assoc front (s ∷ []) rest)) range
    (segment_room ss m (with_segment m s) (length front) s on within place range refl)

pub program_few : (image : Image) (argv env : List (List ℕ)) → IsLaidOut image → HasFewPages (start_memory image argv env)
unfolding start_memory
program_few image argv env laid =
    let ss : List Segment = image.segments in
    let on : IsOn (program_pages ss) (with_image bare_memory image) = segments_on ss [] ss bare_memory refl laid.in_range (bare_on ss) in
    let whole : HasFewPages (with_image bare_memory image) = few_on (with_image bare_memory image) (record { pages = program_pages ss; few = program_long ss laid.pages; on = on }) in
    written_few (written (with_image bare_memory image) (strings_start argv env) (strings (argv ++ env))) (start_sp argv env) (doublewords (vector argv env))
    (written_few (with_image bare_memory image) (strings_start argv env) (strings (argv ++ env)) whole)

-- a file that is no program without a fault
pub image_laid_out : (bytes : List ℕ) → fault_of bytes ≡ None → IsLaidOut (image_of bytes)
unfolding image_of
image_laid_out bytes none = go (has_no_magic bytes) (nat_lt (length bytes) 64) (is_of_another_machine bytes) (is_no_program bytes) (nat_lt 64 (header_count bytes)) (nat_lt (length bytes) (table_offset bytes + 56 * header_count bytes))
    (length (program_headers bytes) == 0) (list_any (passes_end bytes) (program_headers bytes)) (list_any exceeds (program_headers bytes)) (any_share (extents (program_headers bytes))) (are_too_large (extents (program_headers bytes)))
    refl refl refl refl refl none
  where
    if_none : (b : Bool) (x : ElfFault) (rest : Option ElfFault) → cond b (Some x) rest ≡ None → (b ≡ false) × (rest ≡ None)
    if_none true x rest e = absurd (cc e)
    if_none false x rest e = (refl, e)

    go : (a b c d many f empty ends over shared large : Bool) → nat_lt 64 (header_count bytes) ≡ many → (length (program_headers bytes) == 0) ≡ empty → list_any exceeds (program_headers bytes) ≡ over → any_share (extents (program_headers bytes)) ≡ shared → are_too_large (extents (program_headers bytes)) ≡ large
        → cond a (Some elf.NotElf) (cond b (Some elf.Truncated) (cond c (Some elf.NotRiscv) (cond d (Some elf.NotExec) (cond many (Some elf.TooLarge) (cond f (Some elf.Truncated) (cond empty (Some elf.NotExec) (cond ends (Some elf.Truncated) (cond (over || shared) (Some elf.Overlap) (cond large (Some elf.TooLarge) None))))))))) ≡ None
        → IsLaidOut (record { entry = entry bytes; segments = map (segment_of bytes) (program_headers bytes) })
    go a b c d many f empty ends over shared large is_many is_empty is_over is_shared is_large e =
        let one = if_none a _ _ e in
        let two = if_none b _ _ one.1 in
        let three = if_none c _ _ two.1 in
        let four = if_none d _ _ three.1 in
        let five = if_none many _ _ four.1 in
        let six = if_none f _ _ five.1 in
        let seven = if_none empty _ _ six.1 in
        let eight = if_none ends _ _ seven.1 in
        let nine = if_none (over || shared) _ _ eight.1 in
        let ten = if_none large _ _ nine.1 in
        let apart = neither over shared nine.0 in
        let count : nat_lt 64 (header_count bytes) ≡ false = is_many ∙ five.0 in
        laid_out bytes (header_count bytes) (table_offset bytes) (entry bytes) (program_headers bytes) refl (grind (arith, nat_tests, count)) (is_empty ∙ seven.0) (is_over ∙ apart.0) (is_shared ∙ apart.1) (is_large ∙ ten.0)
