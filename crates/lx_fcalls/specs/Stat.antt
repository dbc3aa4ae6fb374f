-- struct stat of riscv64, 128 bytes: stat(2), inode(7).
use Rattle.std.specs.Int.{w32, w64, to_le_bytes}
use Rattle.std.specs.Prelude.{ℕ, List, ◌++◌, replicate}

-- st_mode at 16, st_size at 48, st_blksize at 56
unfoldable pub stat : ℕ → ℕ → List ℕ
stat mode size =
    replicate 16 0 ++ to_le_bytes w32 mode ++ replicate 28 0 ++ to_le_bytes w64 size ++ to_le_bytes w32 4096
    ++ replicate 68 0

-- types and permissions: 0100755, 040755, 010600, 020620 in octal
abbrev pub file_mode : ℕ
file_mode = 33261

abbrev pub directory_mode : ℕ
directory_mode = 16877

abbrev pub pipe_mode : ℕ
pipe_mode = 4480

abbrev pub device_mode : ℕ
device_mode = 8592
