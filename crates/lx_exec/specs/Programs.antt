-- The start of a program: its memory and registers (System V ABI, "Process Initialization").
use Rattle.std.specs.Prelude.{◌≡◌, ℕ, ◌+◌, ◌-◌, ◌*◌, ◌/◌, List, [], ◌∷◌, ◌++◌, length, fold, max, replicate, set, true, false, None}
use Rattle.std.specs.Int.{w64, to_le_bytes}
use Rattle.std.specs.FinMap as maps
use Rattle.rv_mem.specs.Memory.{Memory, written}
use Rattle.rv_mem.specs.Mapping.{mapped}
use Rattle.rv_mem.specs.declared.rights.Rights.{Rights}
use Rattle.elf_image.specs.declared.image.Rights as image_rights
use Rattle.elf_image.specs.declared.image.Segment.{Segment}
use Rattle.elf_image.specs.declared.image.Image.{Image}
use Rattle.lx_abi.specs.Sys.{sys_execve}
use Rattle.lx_proc.specs.declared.state.Heap.{Heap}
use Rattle.lx_proc.specs.declared.state.UserState.{UserState}
use Rattle.lx_exec.specs.Pages.{pages_for}
use Rattle.lx_exec.specs.declared.programs.Start.{Start}

-- the stack's end, where the page stands to which handlers return
abbrev pub stack_top : ℕ
stack_top = 0x3FFFFFF000

abbrev pub stack_size : ℕ
stack_size = 0x40000

abbrev pub page : ℕ
page = 4096

abbrev pub read_write : Rights
read_write = record { read = true; write = true; execute = false }

abbrev pub read_execute : Rights
read_execute = record { read = true; write = false; execute = true }

-- rt_sigreturn: `li a7, 139`, `ecall`
abbrev pub return_code : List ℕ
return_code = 0x93 ∷ 0x08 ∷ 0xB0 ∷ 0x08 ∷ 0x73 ∷ 0x00 ∷ 0x00 ∷ 0x00 ∷ []

-- the stack and the return page
abbrev pub bare_memory : Memory
bare_memory =
    written (mapped (written (mapped maps.empty (stack_top - stack_size) stack_size read_write) stack_top [])
    stack_top page read_execute) stack_top return_code

abbrev pub rights_of : image_rights.Rights → Rights
rights_of r = record { read = r.read; write = r.write; execute = r.execute }

abbrev pub page_of : ℕ → ℕ
page_of a = a / page

-- the pages that a segment touches are mapped with its rights, and its bytes written
unfoldable pub with_segment : Memory → Segment → Memory
with_segment m s =
    written (mapped m (page * page_of s.address)
    (page * (page_of (s.address + s.size - 1) + 1 - page_of s.address)) (rights_of s.rights)) s.address s.bytes

abbrev pub with_image : Memory → Image → Memory
with_image m image = fold with_segment m image.segments

-- the words of argv and env, each with its NUL
abbrev pub strings : List (List ℕ) → List ℕ
strings [] = []
strings (w ∷ ws) = w ++ 0 ∷ strings ws

-- where words that stand one after another begin
abbrev pub addresses : ℕ → List (List ℕ) → List ℕ
addresses a [] = []
addresses a (w ∷ ws) = a ∷ addresses (a + length w + 1) ws

-- the words end at the stack's end
abbrev pub strings_start : List (List ℕ) → List (List ℕ) → ℕ
strings_start argv env = stack_top - length (strings (argv ++ env))

-- argc, argv, a null pointer, env, a null pointer, and the auxiliary vector: AT_PAGESZ and AT_NULL; the
-- words begin at an address
abbrev pub vector_from : ℕ → List (List ℕ) → List (List ℕ) → List ℕ
vector_from a argv env =
    length argv ∷ addresses a argv ++ 0 ∷ addresses (a + length (strings argv)) env ++ 0 ∷ 6 ∷ page ∷ 0 ∷ 0 ∷ []

abbrev pub vector : List (List ℕ) → List (List ℕ) → List ℕ
vector argv env = vector_from (strings_start argv env) argv env

-- how many bytes words and vector have
abbrev pub start_size : List (List ℕ) → List (List ℕ) → ℕ
start_size argv env = length (strings (argv ++ env)) + 8 * length (vector argv env)

abbrev pub doublewords : List ℕ → List ℕ
doublewords [] = []
doublewords (x ∷ xs) = to_le_bytes w64 x ++ doublewords xs

-- where the vector begins
abbrev pub start_sp : List (List ℕ) → List (List ℕ) → ℕ
start_sp argv env = (strings_start argv env - 8 * length (vector argv env)) / 16 * 16

unfoldable pub start_memory : Image → List (List ℕ) → List (List ℕ) → Memory
start_memory image argv env =
    written (written (with_image bare_memory image) (strings_start argv env) (strings (argv ++ env)))
    (start_sp argv env) (doublewords (vector argv env))

abbrev pub start_registers : List (List ℕ) → List (List ℕ) → List ℕ
start_registers argv env = set (replicate 32 0) 2 (start_sp argv env)

-- where the highest segment ends
abbrev pub highest_end : List Segment → ℕ
highest_end segments = fold (λ end s. max end (s.address + s.size)) 0 segments

-- a heap without a byte, from the page behind the segments on (brk(2))
abbrev pub first_heap : Image → Heap
first_heap image = record {
  start = page * pages_for (highest_end image.segments);
  end = page * pages_for (highest_end image.segments);
}

-- the body of a process that begins with a program
abbrev pub started : Image → List (List ℕ) → List (List ℕ) → UserState
started image argv env = record {
  hart = record { pc = image.entry; registers = start_registers argv env };
  memory = start_memory image argv env;
  heap = first_heap image;
  interrupted = None;
}

-- what is laid out for the stack
pub record IsStart (s : Start) (argv env : List (List ℕ)) : Type 0 where
  pub strings_are : s.strings.items ≡ strings (argv ++ env)
  pub address_is : s.address ≡ strings_start argv env
  pub vector_is : s.vector.items ≡ vector argv env
  pub sp_is : s.sp ≡ start_sp argv env

-- the body of a process that begins with an image, over what is laid out for its stack
abbrev pub begun : Image → Start → UserState
begun image s = record {
  hart = record { pc = image.entry; registers = set (replicate 32 0) 2 s.sp };
  memory = written (written (with_image bare_memory image) s.address s.strings.items) s.sp (doublewords s.vector.items);
  heap = first_heap image;
  interrupted = None;
}

-- The first program of process 1: execve(argv[0], argv, env), and exit_group(127) where that fails.
abbrev pub stub_code : List ℕ
stub_code =
    0x73 ∷ 0x00 ∷ 0x00 ∷ 0x00 ∷ 0x13 ∷ 0x05 ∷ 0xF0 ∷ 0x07 ∷ 0x93 ∷ 0x08 ∷ 0xE0 ∷ 0x05 ∷ 0x73 ∷ 0x00 ∷ 0x00 ∷ 0x00 ∷ []

abbrev pub stub_image : Image
stub_image = record {
  entry = 0x10000;
  segments = record {
    address = 0x10000;
    size = 16;
    rights = record { read = true; write = false; execute = true };
    bytes = stub_code;
  } ∷ [];
}

abbrev pub stub_registers : List (List ℕ) → List (List ℕ) → List ℕ
stub_registers argv env =
    set (set (set (set (start_registers argv env) 10 (strings_start argv env)) 11 (start_sp argv env + 8))
    12 (start_sp argv env + 16 + 8 * length argv)) 17 sys_execve

-- the body of process 1
abbrev pub booted : List (List ℕ) → List (List ℕ) → UserState
booted argv env =
    record (started stub_image argv env) { hart = record { pc = 0x10000; registers = stub_registers argv env } }
