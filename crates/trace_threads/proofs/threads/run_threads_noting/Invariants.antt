use Rattle.trace_threads.proofs.threads.run_threads_noting.Given as goal

-- the record that was just opened
abbrev pub ghosts-run_in_record : goal.ghosts-run_in_record
ghosts-run_in_record g a = record { book = a.opened.seen.book }
