-- A signed number as its bits: two and four bytes read as signed are the number that the paper reads.
use Rattle.std.proofs.Common.{ℕ, suc, ◌+◌, ◌-◌, ◌≤◌, ◌<◌, ◌≡◌, refl, sym, ap, ◌∙◌, arith, Bool, true, false, cond, ℤ, pos, negsuc, ◌-ℤ◌}
use lib.Dec.{ltb, lit≤}
use lib.Signed.{mag}
use mir.Syntax.{w16, w32, w64}
use mir.Val.{SFits, to_z, of_z, sel}
use mir.ValLaws.{to_z-of_z, to_z_pos}
use borrow.Author.Tests.{ltb-true, ltb-false}
use Rattle.exact.specs.Int.{◌⊖◌}
use Rattle.exact.specs.Size.{Size, Is}
use Rattle.exact.proofs.Bits.{holds_call, holds_sub, back}
use Rattle.exact.proofs.Linear.{diff, diff_eq, negsuc_diff}
use Rattle.exact.proofs.SizeLaws.{size_pos, size_weaken}
use Rattle.paper.specs.Bytes.{signed}

-- the bits of a number that fits are read as the number
pub bits_are : {z : ℤ} → SFits w64 z → back z ≡ z
bits_are {z} h = to_z-of_z w64 z h

-- ---- an unsigned number read as signed

-- in 16 and in 32 bits
word_signed : (u : ℕ) → to_z w16 u ≡ signed 32768 u
unfolding signed
word_signed u = go (ltb u 32768)
  where
    go : (b : Bool) → sel b (pos u) (negsuc (65536 - suc u)) ≡ cond b (pos u) (negsuc (65536 - (u + 1)))
    go true = refl
    go false = ap negsuc (omega arith)

double_signed : (u : ℕ) → to_z w32 u ≡ signed 2147483648 u
unfolding signed
double_signed u = go (ltb u 2147483648)
  where
    go : (b : Bool) → sel b (pos u) (negsuc (4294967296 - suc u)) ≡ cond b (pos u) (negsuc (4294967296 - (u + 1)))
    go true = refl
    go false = ap negsuc (omega arith)

mag_size : {m : ℕ} (z : ℤ) → mag z < m → Size m z
mag_size (pos n) h = record { size = omega arith }
mag_size (negsuc n) h = record { size = omega arith }

-- what a reader of signed numbers hands on: r is q in 64 bits, q the bytes' number u as signed
module _ {q r : ℤ} {u v : ℕ} (e : u ≡ v) where
  pub word_read : r ≡ to_z w16 (of_z w16 q) → q ≡ to_z w16 u → mag q < 32768 → Is 32768 (signed 32768 v) (back r)
  word_read h k l =
      let same : q ≡ signed 32768 v = k ∙ word_signed u ∙ ap (signed 32768) e in
      holds_call (record { is = h ∙ to_z-of_z w16 q (record { sfits = l }) ∙ same; size = rw (sym same) (mag_size q l) }) (lit≤ tt)

  pub double_read : r ≡ to_z w32 (of_z w32 q) → q ≡ to_z w32 u → mag q < 2147483648 → Is 2147483648 (signed 2147483648 v) (back r)
  double_read h k l =
      let same : q ≡ signed 2147483648 v = k ∙ double_signed u ∙ ap (signed 2147483648) e in
      holds_call (record { is = h ∙ to_z-of_z w32 q (record { sfits = l }) ∙ same; size = rw (sym same) (mag_size q l) }) (lit≤ tt)

-- ---- the same of any width: half is the first number that is read as one below 0

-- a number under 2 ^ 33 in 64 bits
small_holds : (u : ℕ) → u < 4294967297 → Is 4294967296 (pos u) (to_z w64 u)
small_holds u l = record { is = to_z_pos w64 u (omega arith); size = size_weaken (size_pos u) (omega arith) }

zero_holds : Is 0 (pos 0) (pos 0)
zero_holds = record { is = refl; size = size_pos 0 }

module _ {half u : ℕ} (k : half ≤ 2147483648) where
  pub signed_low : u < half → Is half (signed half u) (to_z w64 u)
  unfolding signed
  signed_low l = go (ltb u half) refl
    where
      go : (b : Bool) → ltb u half ≡ b → Is half (cond b (pos u) (negsuc (half + half - (u + 1)))) (to_z w64 u)
      go true e = record { is = to_z_pos w64 u (omega arith); size = size_weaken (size_pos u) (omega arith) }
      go false e = absurd (omega (arith, ltb-false u half e))

  -- what it lacks of 2 · half, below 0
  below : half ≤ u → u < half + half → pos 0 ⊖ pos (half + half - u) ≡ negsuc (half + half - (u + 1))
  unfolding diff
  below l m = (diff_eq 0 (half + half - u) 0 (suc (half + half - (u + 1)))).1 (omega arith) ∙ sym (negsuc_diff (half + half - (u + 1)))

  pub signed_high : u < half + half → half ≤ u → Is half (signed half u) (back (pos 0 -ℤ to_z w64 (half + half - u)))
  unfolding signed
  signed_high m l = go (ltb u half) refl
    where
      go : (b : Bool) → ltb u half ≡ b → Is half (cond b (pos u) (negsuc (half + half - (u + 1)))) (back (pos 0 -ℤ to_z w64 (half + half - u)))
      go true e = absurd (omega (arith, ltb-true u half e))
      go false e = record {
        is = (holds_sub zero_holds (small_holds (half + half - u) (omega arith)) (lit≤ tt)).is ∙ below l m;
        size = record { size = omega arith };
      }
