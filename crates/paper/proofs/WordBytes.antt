-- Sixteen signed bits: a number from − 32768 to 32767 is read back from its two bytes, and two bytes are those of the
-- number they read as. Every number that two bytes read as lies in that range.
use Prim.Native.Nat.{ℕ, ◌+◌, ◌*◌, ◌-◌, ◌/◌, ◌%◌, ◌≤◌, ◌<◌}
use native.Mathlib.Omega.{arith}
use mathlib.Core.Path.{◌≡◌, refl, ap, ◌∙◌}
use mathlib.Core.Bool.{Bool, true, false}
use mathlib.Core.List.{[], ◌∷◌}
use lib.IntN.{ℤ, pos, negsuc}
use lib.Dec.{ltb}
use borrow.Author.Tests.{ltb-true, ltb-false, lt-ltb, le-ltb}
use Rattle.paper.specs.Bytes.{signed, word_of, word_bytes}
use Rattle.paper.proofs.ShortPlaces.{short}

-- what `signed` says on either side of the half
signed_low : (half u : ℕ) → u < half → signed half u ≡ pos u
unfolding signed
signed_low half u h = rw (lt-ltb u half h)

signed_high : (half u : ℕ) → half ≤ u → signed half u ≡ negsuc (half + half - (u + 1))
unfolding signed
signed_high half u h = rw (le-ltb u half h)

-- ---- the number of a word's bytes

pub word_of_under : (x : ℤ) → word_of x < 65536
unfolding word_of
word_of_under (pos a) = omega arith
word_of_under (negsuc a) = omega arith

pub signed_word_of : (x : ℤ) → short x ≡ true → signed 32768 (word_of x) ≡ x
unfolding short word_of
signed_word_of (pos a) h =
    let l : a < 32768 = ltb-true _ _ h in
    signed_low 32768 (a % 65536) (omega arith) ∙ ap pos (omega arith)
signed_word_of (negsuc a) h =
    let l : a < 32768 = ltb-true _ _ h in
    signed_high 32768 (65535 - a % 65536) (omega arith) ∙ ap negsuc (omega arith)

-- a word put together from its two bytes
pub word_together : (u : ℕ) → u % 256 + 256 * (u / 256) ≡ u
word_together u = omega arith

-- ---- the bytes of a number that was read

pub word_of_signed : (u : ℕ) → u < 65536 → word_of (signed 32768 u) ≡ u
unfolding word_of
word_of_signed u h = go (ltb u 32768) refl
  where
    go : (b : Bool) → ltb u 32768 ≡ b → word_of (signed 32768 u) ≡ u
    go true e = ap word_of (signed_low 32768 u (ltb-true _ _ e)) ∙ omega arith
    go false e =
        let l : 32768 ≤ u = ltb-false _ _ e in
        ap word_of (signed_high 32768 u l) ∙ omega arith

-- two bytes are those of the number they read as
pub word_bytes_signed : (x y : ℕ) → x < 256 → y < 256 → word_bytes (signed 32768 (x + 256 * y)) ≡ x ∷ y ∷ []
unfolding word_bytes
word_bytes_signed x y p q =
    let e : word_of (signed 32768 (x + 256 * y)) ≡ x + 256 * y = word_of_signed (x + 256 * y) (omega arith) in
    let a : word_of (signed 32768 (x + 256 * y)) % 256 ≡ x = omega arith in
    let b : word_of (signed 32768 (x + 256 * y)) / 256 ≡ y = omega arith in
    rw (a, b)
