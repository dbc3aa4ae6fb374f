-- The options of a tracee (ptrace(2), PTRACE_SETOPTIONS).
use Rattle.std.specs.Prelude.{ℕ, ◌+◌, ◌==◌, Bool, true, false, cond, Option, Some, None, bit_and}
use Rattle.lx_abi.specs.declared.ptrace.TraceOptions.{TraceOptions}

abbrev pub tracesysgood : ℕ
tracesysgood = 1

abbrev pub tracefork : ℕ
tracefork = 2

abbrev pub traceexec : ℕ
traceexec = 0x10

abbrev pub all_options : ℕ
all_options = 0x13

-- other bits are refused
abbrev pub trace_options : ℕ → Option TraceOptions
trace_options bits =
    cond (bit_and bits all_options == bits)
    (Some (record {
      good = bit_and bits tracesysgood == tracesysgood;
      forks = bit_and bits tracefork == tracefork;
      execs = bit_and bits traceexec == traceexec;
    }))
    None

abbrev pub bits_where : Bool → ℕ → ℕ
bits_where true bits = bits
bits_where false bits = 0

abbrev pub option_bits : TraceOptions → ℕ
option_bits o = bits_where o.good tracesysgood + bits_where o.forks tracefork + bits_where o.execs traceexec
