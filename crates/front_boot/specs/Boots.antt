-- What a run begins with.
use Rattle.std.specs.Prelude.{◌≡◌, ℕ, Bool, true, List, map, Option, codes}
use Rattle.clap.specs.declared.parser.matches.ArgMatches.{ArgMatches}
use Rattle.lx_abi.specs.declared.boot.Boot.{Boot}
use Rattle.front_boot.specs.Environment.{are_variables, environment}
use Rattle.front_boot.specs.Files.{AreFiles}
use Rattle.front_end.specs.Reading.{IsAll}
use Rattle.front_end.specs.Values.{values_of}
use Rattle.front_boot.specs.declared.boot.BootWords.{BootWords}

-- the words that say it
pub record Words : Type 0 where
  pub files : List (List ℕ)
  pub directories : List (List ℕ)
  pub environment : List (List ℕ)
  pub program : List (List ℕ)
  pub follow : Bool

abbrev pub words_of : BootWords → Words
words_of w = record {
  files = map (λ word. word.now) w.files.now;
  directories = map (λ word. word.now) w.directories.now;
  environment = map (λ word. word.now) w.environment.now;
  program = map (λ word. word.now) w.program.now;
  follow = w.follow;
}

-- those of a command
abbrev pub given_words : ArgMatches → Bool → Words
given_words words follow = record {
  files = values_of words (codes "file");
  directories = values_of words (codes "dir");
  environment = values_of words (codes "environment");
  program = values_of words (codes "program");
  follow = follow;
}

-- These words, and this input where it is known, ask for the boot.
pub record AsksBoot {F : Type 0} (remaining : F → Option (List ℕ)) (words : Words) (given : Option (List ℕ))
    (boot : Boot) : Type 0 where
  pub limits : (boot.limits.live ≡ 1024) × (boot.limits.last_pid ≡ 32767)
  pub argv : boot.argv ≡ words.program
  pub variables : are_variables words.environment ≡ true
  pub env : boot.env ≡ environment words.environment
  pub files : AreFiles remaining words.files words.directories boot.files
  pub input : IsAll given 134217728 boot.input
  pub follow : boot.follow ≡ words.follow
