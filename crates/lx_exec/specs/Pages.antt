-- Whole pages of memory.
use Rattle.std.specs.Prelude.{ℕ, ◌+◌, ◌/◌, ◌%◌, ◌==◌}
use Rattle.rv_mem.specs.declared.rights.Rights.{Rights}

-- no page is mapped from this address on
abbrev pub address_end : ℕ
address_end = 0x4000000000

-- as many pages as hold so many bytes
abbrev pub pages_for : ℕ → ℕ
pages_for n = (n + 4095) / 4096

-- PROT_READ is 1, PROT_WRITE 2, PROT_EXEC 4
abbrev pub rights_for : ℕ → Rights
rights_for prot = record { read = prot % 2 == 1; write = prot / 2 % 2 == 1; execute = prot / 4 % 2 == 1 }
