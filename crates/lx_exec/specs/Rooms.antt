-- What keeps the start of a program within what a memory may have, so that nothing but room of its own is refused to
-- it.
use Rattle.std.specs.Prelude.{◌≡◌, ℕ, ◌+◌, ◌-◌, ◌*◌, ◌/◌, ◌<◌, ◌≤◌, true, not, is_some, List, [], ◌∷◌, ◌++◌, length, map}
use Rattle.std.specs.Ordering.{nat_cmp, eq_by_cmp}
use Rattle.std.specs.FinMap.{get}
use Rattle.std.specs.List.{list_any, filter, range_with_len}
use Rattle.std.specs.Set.{is_member}
use Rattle.rv_mem.specs.Memory.{Memory}
use Rattle.rv_mem.specs.Mapping.{mapped}
use Rattle.elf_image.specs.declared.layout.Extent.{Extent}
use Rattle.elf_image.specs.declared.image.Segment.{Segment}
use Rattle.elf_image.specs.Images.{extent_of}
use Rattle.elf_image.specs.Layout.{touches, pages_of}
use Rattle.lx_exec.specs.Programs.{stack_top, stack_size, rights_of}
use Rattle.lx_exec.specs.declared.programs.Start.{Start}

-- the stack's pages, and the one to which handlers return
unfoldable pub stack_pages : List ℕ
stack_pages = range_with_len 0x3FFFFBF 65

-- the pages that extents have bytes on, each once, at the last that has
unfoldable pub pages_under : List Extent → List ℕ
pages_under [] = []
pages_under (e ∷ es) = filter (λ page. not (list_any (touches page) es)) (pages_of e) ++ pages_under es

-- the pages of a program with these segments
abbrev pub program_pages : List Segment → List ℕ
program_pages segments = stack_pages ++ pages_under (map extent_of segments)

-- the pages that a segment touches are mapped
abbrev pub segment_mapped : Memory → Segment → Memory
segment_mapped m s =
    mapped m (4096 * (s.address / 4096)) (4096 * ((s.address + s.size - 1) / 4096 + 1 - s.address / 4096))
    (rights_of s.rights)

-- what is mapped lies on these pages
pub record IsOn (pages : List ℕ) (m : Memory) : Type 0 where
  pub on : (a : ℕ) → is_some (get m a) ≡ true → is_member (eq_by_cmp nat_cmp) pages (a / 4096) ≡ true

-- all addresses from one up to another are mapped
pub record IsMapped (m : Memory) (from to : ℕ) : Type 0 where
  pub at : (a : ℕ) → from ≤ a → a < to → is_some (get m a) ≡ true

-- the words and the vector of a start lie in the stack
pub record IsOnStack (s : Start) : Type 0 where
  pub words_low : stack_top - stack_size ≤ s.address
  pub words_high : s.address + length s.strings.items ≤ stack_top
  pub vector_low : stack_top - stack_size ≤ s.sp
  pub vector_high : s.sp + 8 * length s.vector.items ≤ stack_top
