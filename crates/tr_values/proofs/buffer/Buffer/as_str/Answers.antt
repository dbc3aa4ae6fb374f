use Rattle.std.proofs.lemmas.Str.{IsUtf8-from_ascii}
use Rattle.tr_values.proofs.Texts.{is_text}
use Rattle.tr_values.proofs.buffer.Buffer.as_str.Goals as goal

pub unwrap-requires : goal.unwrap-requires
unwrap-requires c = is_text _ _ c.from_utf8.result c.from_utf8.ensures (IsUtf8-from_ascii _ c.self.invariant.1)
