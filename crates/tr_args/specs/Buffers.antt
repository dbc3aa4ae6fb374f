-- Buffers as strace(1) shows them (read(2), write(2)), of which -s says how many bytes are shown.
use Rattle.std.specs.Prelude.{ℕ, ◌==◌, nat_lt, min, List, [], length, if◌then◌else◌}
use Rattle.tr_values.specs.Sheets.{Sheet, Shown, reads}
use Rattle.tr_values.specs.Numbers.{pointer}
use Rattle.tr_values.specs.Escapes.{quoted, cut}
use Rattle.tr_values.specs.Structs.{unless_null}

-- of so many bytes those to be shown were read, or less where they can't be read
unfoldable pub buffer_read : ℕ → ℕ → ℕ → List ℕ → Sheet → Shown
buffer_read address count shown bs s =
    if nat_lt (length bs) shown then pointer address s
    else (if nat_lt shown count then cut bs s else quoted bs s)

-- nothing is read where nothing is to be shown
abbrev pub buffer_at : ℕ → ℕ → ℕ → Sheet → Shown
buffer_at address count shown s =
    if shown == 0 then buffer_read address count 0 [] s
    else reads address shown (buffer_read address count shown) s

-- null is shown as such, even where nothing is to be shown
unfoldable pub buffer : ℕ → ℕ → ℕ → Sheet → Shown
buffer most address count s = unless_null address (buffer_at address count (min count most)) s
