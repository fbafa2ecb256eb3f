-- The 16 bits of a coordinate as two bytes.
use Rattle.std.proofs.Common.{ℕ, ◌+◌, ◌%◌, ◌/◌, ◌≤◌, ◌<◌, ◌≡◌, ap, ap₂, ◌∙◌, arith, true, List, ℤ, pos, negsuc, nat_abs, set, add-one}
use lib.Signed.{mag}
use lib.Seq.{sets}
use mir.Syntax.{w16, w64}
use mir.Val.{SFits, to_z, of_z}
use mir.ValLaws.{to_z-of_z}
use borrow.Author.Tests.{ltb-true}
use Rattle.exact.proofs.Bits.{back}
use Rattle.paper.specs.Bytes.{word_of, word_bytes}
use Rattle.paper.proofs.ShortPlaces.{short}

-- ---- a number of 16 bits is the one that 64 bits hold

pub short_back : (x : ℤ) → short x ≡ true → back x ≡ x
unfolding short
short_back x h = to_z-of_z w64 x (record { sfits = omega (arith, ltb-true (mag x) 32768 h) })

pub back_short : (x : ℤ) → short x ≡ true → short (back x) ≡ true
back_short x h = rw (short_back x h) h

pub short_size : (x : ℤ) → short x ≡ true → nat_abs x ≤ 32768
unfolding short
short_size (pos a) h = omega (arith, ltb-true a 32768 h)
short_size (negsuc a) h = omega (arith, ltb-true a 32768 h)

-- ---- its bits are the word that the paper gives it

word_bits : (x : ℤ) → short x ≡ true → of_z w16 x ≡ word_of x
unfolding short word_of
word_bits (pos a) h = omega (arith, ltb-true a 32768 h)
word_bits (negsuc a) h = omega (arith, ltb-true a 32768 h)

word_small : (x : ℤ) → word_of x < 65536
unfolding word_of
word_small (pos a) = omega arith
word_small (negsuc a) = omega arith

module _ (x : ℤ) (s : short x ≡ true) where
  fits : SFits w16 x
  unfolding short
  fits = record { sfits = ltb-true (mag x) 32768 s }

  pub back_fits : SFits w16 (back x)
  back_fits = rw (short_back x s) fits

  word_is : of_z w16 (to_z w16 (of_z w16 (back x))) ≡ word_of x
  word_is = ap (λ (y : ℤ). of_z w16 (to_z w16 (of_z w16 y))) (short_back x s) ∙ ap (of_z w16) (to_z-of_z w16 x fits) ∙ word_bits x s

  -- its two bytes
  pub word_stored : (b : List ℕ) (at : ℕ) {u v : ℕ}
      → u ≡ of_z w16 (to_z w16 (of_z w16 (back x))) % 256 → v ≡ of_z w16 (to_z w16 (of_z w16 (back x))) / 256 % 256
      → set (set b at u) (at + 1) v ≡ sets b at (word_bytes x)
  unfolding word_bytes
  word_stored b at {u} {v} e f =
      let low : u ≡ word_of x % 256 = rw word_is at e in
      let high : v ≡ word_of x / 256 = omega (arith, (rw word_is at f), word_small x) in
      ap₂ (λ k l. set (set b at k) (at + 1) l) low high ∙ ap (λ j. set (set b at (word_of x % 256)) j (word_of x / 256)) (add-one at)
