-- Numbers of the calls, by the names of <sys/syscall.h> (riscv64).
use Rattle.std.specs.Prelude.{ℕ}

abbrev pub sys_getcwd : ℕ
sys_getcwd = 17

abbrev pub sys_dup : ℕ
sys_dup = 23

abbrev pub sys_dup3 : ℕ
sys_dup3 = 24

abbrev pub sys_mkdirat : ℕ
sys_mkdirat = 34

abbrev pub sys_unlinkat : ℕ
sys_unlinkat = 35

abbrev pub sys_ftruncate : ℕ
sys_ftruncate = 46

abbrev pub sys_chdir : ℕ
sys_chdir = 49

abbrev pub sys_openat : ℕ
sys_openat = 56

abbrev pub sys_close : ℕ
sys_close = 57

abbrev pub sys_pipe2 : ℕ
sys_pipe2 = 59

abbrev pub sys_lseek : ℕ
sys_lseek = 62

abbrev pub sys_read : ℕ
sys_read = 63

abbrev pub sys_write : ℕ
sys_write = 64

abbrev pub sys_newfstatat : ℕ
sys_newfstatat = 79

abbrev pub sys_fstat : ℕ
sys_fstat = 80

abbrev pub sys_exit : ℕ
sys_exit = 93

abbrev pub sys_exit_group : ℕ
sys_exit_group = 94

abbrev pub sys_sched_yield : ℕ
sys_sched_yield = 124

abbrev pub sys_kill : ℕ
sys_kill = 129

abbrev pub sys_rt_sigaction : ℕ
sys_rt_sigaction = 134

abbrev pub sys_rt_sigprocmask : ℕ
sys_rt_sigprocmask = 135

abbrev pub sys_rt_sigreturn : ℕ
sys_rt_sigreturn = 139

abbrev pub sys_getpid : ℕ
sys_getpid = 172

abbrev pub sys_getppid : ℕ
sys_getppid = 173

abbrev pub sys_gettid : ℕ
sys_gettid = 178

abbrev pub sys_brk : ℕ
sys_brk = 214

abbrev pub sys_munmap : ℕ
sys_munmap = 215

abbrev pub sys_clone : ℕ
sys_clone = 220

abbrev pub sys_execve : ℕ
sys_execve = 221

abbrev pub sys_mmap : ℕ
sys_mmap = 222

abbrev pub sys_wait4 : ℕ
sys_wait4 = 260
