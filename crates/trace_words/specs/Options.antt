-- How words ask a run to be traced, or the first reason for which they don't.
use Rattle.std.specs.Prelude.{ℕ, ◌*◌, ◌^◌, Bool, true, false, ◌==◌, ◌||◌, ◌&&◌, nat_le, if◌then◌else◌, List, [], ◌∷◌}
use Rattle.std.specs.Prelude.{Option, Some, None, option_map, Result, Ok, Err, ⊤, codes}
use Rattle.std.specs.Option.{ok_or}
use Rattle.clap.specs.Words.{count_of, found_of, rows_of}
use Rattle.clap.specs.declared.parser.matches.ArgMatches.{ArgMatches}
use Rattle.front_end.specs.Numbers.{given_or, limit_of, positive}
use Rattle.front_end.specs.Values.{value_of, values_of}
use Rattle.trace_words.specs.declared.option_fault.OptionFault.{OptionFault}
use Rattle.trace_words.specs.declared.option_fault.OptionFault.TheVariants.{Command, HostWords, HostTime, StringLimit}
use Rattle.trace_words.specs.declared.option_fault.OptionFault.TheVariants.{Limit, FollowTwice, Column, WorkersAndHost}
use Rattle.trace_words.specs.declared.option_fault.OptionFault.TheVariants.{WorkersAndTurns, Workers, WorkersLimit}
use Rattle.trace_words.specs.declared.option_fault.OptionFault.TheVariants.{Patience}
use Rattle.trace_words.specs.declared.asked.TraceOptions.{TraceOptions}
use Rattle.trace_words.specs.declared.asked.Workers.{Workers as Threads}

infixl 10 ◌>>=◌
abbrev pub ◌>>=◌ : {A B E : Type 0} → Result A E → (A → Result B E) → Result B E
(Ok x) >>= f = f x
(Err e) >>= f = Err e

-- ---- option by option

-- -o: a name that begins with | or ! would be a command
abbrev pub output_of : Option (List ℕ) → Result ⊤ OptionFault
output_of None = Ok tt
output_of (Some []) = Ok tt
output_of (Some (b ∷ name)) = if b == 124 || b == 33 then Err Command else Ok tt

-- --host-arg and --host-timeout stand beside --host alone
abbrev pub host_of : Option (List ℕ) → List (List ℕ) → Option (List ℕ) → Result ⊤ OptionFault
host_of (Some host) words timeout = Ok tt
host_of None (word ∷ words) timeout = Err HostWords
host_of None [] (Some timeout) = Err HostTime
host_of None [] None = Ok tt

-- -f, by how often it is given
abbrev pub follow_of : ℕ → Result Bool OptionFault
follow_of count = if count == 0 then Ok false else (if count == 1 then Ok true else Err FollowTwice)

-- so many threads, with so many events at most
abbrev pub counted : Option ℕ → ℕ → Result (Option (ℕ × ℕ)) OptionFault
counted None limit = Err Workers
counted (Some count) limit =
    if nat_le 1 limit && nat_le limit (2 ^ 39) then Ok (Some (count, limit)) else Err WorkersLimit

-- --workers, beside neither --host nor --turns
abbrev pub workers_of : Option (List ℕ) → Option (List ℕ) → Option (List ℕ) → ℕ → Result (Option (ℕ × ℕ)) OptionFault
workers_of None host turns limit = Ok None
workers_of (Some digits) (Some host) turns limit = Err WorkersAndHost
workers_of (Some digits) None (Some turns) limit = Err WorkersAndTurns
workers_of (Some digits) None None limit = counted (positive 8 digits) limit

-- --host-timeout, a day at most, in milliseconds
abbrev pub patience_of : Option (List ℕ) → Result (Option ℕ) OptionFault
patience_of None = Ok None
patience_of (Some digits) = ok_or (option_map (λ seconds. Some (seconds * 1000)) (positive 86400 digits)) Patience

-- ---- together

pub record Asked : Type 0 where
  pub follow : Bool
  pub string_limit : ℕ
  pub column : ℕ
  pub limit : ℕ
  pub workers : Option (ℕ × ℕ)
  pub patience : Option ℕ

unfoldable pub options_of : ArgMatches → Result Asked OptionFault
options_of words = do
  file ← output_of (value_of words (codes "output"))
  host ← host_of (value_of words (codes "host")) (values_of words (codes "host-arg"))
      (value_of words (codes "host-timeout"))
  string_limit ← ok_or (given_or 4096 32 (value_of words (codes "string-limit"))) StringLimit
  limit ← ok_or (limit_of (value_of words (codes "limit"))) Limit
  follow ← follow_of (count_of (codes "follow") (rows_of (found_of words)))
  column ← ok_or (given_or 200 40 (value_of words (codes "columns"))) Column
  workers ← workers_of (value_of words (codes "workers")) (value_of words (codes "host"))
      (value_of words (codes "turns")) limit
  patience ← patience_of (value_of words (codes "host-timeout"))
  Ok (record {
    follow = follow;
    string_limit = string_limit;
    column = column;
    limit = limit;
    workers = workers;
    patience = patience;
  })

-- ---- what code has of them

abbrev pub threads_of : Option Threads → Option (ℕ × ℕ)
threads_of workers = option_map (λ w. (w.count, w.limit)) workers

abbrev pub threads : Result (Option Threads) OptionFault → Result (Option (ℕ × ℕ)) OptionFault
threads (Ok workers) = Ok (threads_of workers)
threads (Err fault) = Err fault

abbrev pub asked_by : TraceOptions → Asked
asked_by options = record {
  follow = options.follow;
  string_limit = options.string_limit;
  column = options.column;
  limit = options.limit;
  workers = threads_of options.workers;
  patience = options.patience;
}

abbrev pub asked : Result TraceOptions OptionFault → Result Asked OptionFault
asked (Ok options) = Ok (asked_by options)
asked (Err fault) = Err fault
