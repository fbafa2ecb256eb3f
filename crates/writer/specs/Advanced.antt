-- What a writer is once bytes are laid at its position.
use Rattle.std.specs.Prelude.{ℕ, ◌+◌, List, length}
use Rattle.std.proofs.lemmas.List.Edits.{sets}
use denote.Ref.{at_last}
use Rattle.writer.specs.declared.Writer.{Writer}

-- the same borrow, with the bytes in its list, and the position behind them
abbrev pub advanced : Writer → List ℕ → Writer
advanced w bytes = record {
  buffer = at_last w.buffer (sets w.buffer.now w.at bytes);
  at = w.at + length bytes;
}
