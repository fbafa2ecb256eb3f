-- Bytes laid in a buffer from a position on, and bodies by index.
use Rattle.std.specs.Prelude.{ℕ, ◌+◌, ◌≡◌, List, [], map, length, get_or}
use Rattle.std.proofs.lemmas.List.Edits.{sets}
use Rattle.std.specs.Borrow.{Bor}

-- body k of an array of parts of bytes
unfoldable pub body_at : List (Bor (List ℕ)) → ℕ → List ℕ
body_at bodies k = get_or (map (λ x. x.now) bodies) k []

-- the buffer with the bytes from the position on, and the position behind them
pub record Laid (before : List ℕ) (at : ℕ) (bytes after : List ℕ) (next : ℕ) : Type 0 where
  pub position : next ≡ at + length bytes
  pub buffer : after ≡ sets before at bytes
