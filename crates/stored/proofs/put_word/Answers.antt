-- `stored::put_word` meets its contract: the library's two bytes are those of the number's word.
use Rattle.std.proofs.Common.{List, ℕ, ap, get_or}
use Rattle.places.proofs.WordBytes.{back_fits, word_stored}
use Rattle.stored.proofs.put_word.Goals as goal

pub overflow_cast-x : goal.overflow_cast-x
overflow_cast-x c = back_fits c.args.x c.requires.0

pub returns : goal.returns
returns c =
    word_stored c.args.x c.requires.0 c.args.buffer.now c.args.at
    (ap (λ (l : List ℕ). get_or l 0 0) c.to_le_bytes-bytes.ensures) (ap (λ (l : List ℕ). get_or l 1 0) c.to_le_bytes-bytes.ensures)
