-- The loose bodies by index.
use Rattle.std.specs.Prelude.{ℕ, ◌≤◌, ◌≡◌, List}
use Rattle.assembly.specs.Assembled.{Loose, body_of}

-- body k of the job stands at index k
unfoldable pub Arranged : Loose → (ℕ → List ℕ) → Type 0
Arranged d f = (k : ℕ) → k ≤ d.n → f k ≡ body_of d k
