use Rattle.std.proofs.Common.{Some, cond, sym, ap, ◌∙◌}
use Rattle.std.specs.Option.{option_or}
use Rattle.std.specs.Str.{bytes_eq}
use Rattle.sweep_rows.specs.Files.{given_at}
use Rattle.sweep_rows.specs.Index.{content_at}
use Rattle.sweep_rows.proofs.Indexing.{put_last}
use Rattle.sweep_rows.proofs.index.contents_given.Goals as goal

pub loop-file-preserved : goal.loop-file-preserved
loop-file-preserved c = λ path.
    let old = content_at c.loop-file.contents path in
    let put = c.in_ok-put.ensures path
    ∙ ap (λ p. cond (bytes_eq p path) (Some c.as_slice-in-Some.result.now) old) c.as_slice.ensures
    ∙ ap (λ t. cond (bytes_eq c.in-Some.file.now.path path) (Some t) old) c.as_slice-in-Some.ensures in
    let made = content_at c.put.new.contents path in
    sym (put_last (λ f. f.path) (λ f. f.content) c.in-Some.rest.now c.in-Some.file.now path old made put)
    ∙ ap (λ files. option_or (given_at files path) old) (sym c.in-Some.ensures.cases.0)
    ∙ c.loop-file.invariant path
