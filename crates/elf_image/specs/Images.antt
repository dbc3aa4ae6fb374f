-- The image of a file: where the program begins, and its segments.
use Rattle.std.specs.Prelude.{◌≡◌, ◌≢◌, ℕ, ◌+◌, ◌/◌, ◌%◌, ◌<◌, ◌≤◌, false, All, List, length, take, drop, map, ◌==◌, Some, None}
use Rattle.elf_image.specs.declared.fault.ElfFault.{ElfFault}
use Rattle.elf_image.specs.declared.fault.ElfFault.TheVariants.{Memory}
use Rattle.elf_image.specs.declared.headers.ProgramHeader.{ProgramHeader}
use Rattle.elf_image.specs.declared.layout.Extent.{Extent}
use Rattle.elf_image.specs.declared.image.Rights.{Rights}
use Rattle.elf_image.specs.declared.image.Segment.{Segment}
use Rattle.elf_image.specs.declared.image.Image.{Image}
use Rattle.elf_image.specs.Headers.{entry, program_headers}
use Rattle.elf_image.specs.Layout.{any_share, page_count}
use Rattle.elf_image.specs.Checks.{fault_of}

-- p_flags: PF_X 1, PF_W 2, PF_R 4 (gABI, "Segment Permissions")
abbrev pub rights_of : ℕ → Rights
rights_of flags = record { read = flags / 4 % 2 == 1; write = flags / 2 % 2 == 1; execute = flags % 2 == 1 }

abbrev pub segment_of : List ℕ → ProgramHeader → Segment
segment_of bytes h = record {
  address = h.extent.address;
  size = h.extent.size;
  rights = rights_of h.flags;
  bytes = take h.file_size (drop h.offset bytes);
}

-- the image that a file without a fault has
unfoldable pub image_of : List ℕ → Image
image_of bytes = record { entry = entry bytes; segments = map (segment_of bytes) (program_headers bytes) }

-- the file has no fault, and this is its image
pub record IsElf (bytes : List ℕ) (image : Image) : Type 0 where
  pub accepted : fault_of bytes ≡ None
  pub image_is : image ≡ image_of bytes

-- the file has this fault, unless memory ran out
abbrev pub Refuses : List ℕ → ElfFault → Type 0
Refuses bytes fault = fault ≢ Memory → fault_of bytes ≡ Some fault

-- ---- what each image of a file keeps

abbrev pub extent_of : Segment → Extent
extent_of s = record { address = s.address; size = s.size }

-- a segment has memory, lies in the range of addresses, and has no more content than memory
pub record IsInRange (s : Segment) : Type 0 where
  pub some : 0 < s.size
  pub start : 0x1000 ≤ s.address
  pub end : s.address + s.size ≤ 0x2000000000
  pub content : length s.bytes ≤ s.size

-- 1 to 64 segments in range, no two of which share a byte, on at most 8,192 pages
pub record IsLaidOut (image : Image) : Type 0 where
  pub some : 0 < length image.segments
  pub few : length image.segments ≤ 64
  pub in_range : All IsInRange image.segments
  pub apart : any_share (map extent_of image.segments) ≡ false
  pub pages : page_count (map extent_of image.segments) ≤ 8192
