-- On which side a value is at a corner, as the code compares it.
use mathlib.Core.Path.{◌≡◌, refl, sym, ap, ◌∙◌}
use mathlib.Core.Bool.{Bool, true, false, beq, false≢true}
use mathlib.Core.List.{List}
use Prim.Native.Nat.{ℕ, suc, zero, ◌+◌, ◌*◌}
use native.Mathlib.Omega.{arith}
use borrow.Author.Tests.{lt-leb, lt-ltb}
use lib.IntN.{ℤ, pos, negsuc}
use lib.ListN.{get_or}
use lib.Signed.{le_z, lt_z}
use Rattle.exact.specs.Int.{0ℤ}
use Rattle.exact.proofs.Bits.{back, back_is}
use Rattle.bits.specs.Axes.{Axes}
use Rattle.cube.specs.Cube.{Within, value_at}
use Rattle.cube.proofs.CopiedValues.{entry_word}

-- not on one side, so on the other
side : (x : ℤ) (above : Bool) → beq (lt_z (pos 0) x) above ≡ false → le_z x 0ℤ ≡ above
side (pos zero) true h = refl
side (pos zero) false h = absurd (false≢true (sym h))
side (pos (suc a)) true h = absurd (false≢true (sym h ∙ ap (λ t. beq t true) (lt-ltb 0 (suc a) (omega arith))))
side (pos (suc a)) false h = lt-leb (suc a) 0 (omega arith)
side (negsuc a) true h = refl
side (negsuc a) false h = absurd (false≢true (sym h))

pub side_at : {n : ℕ} (k : ℕ) {values : List ℤ} (m : ℕ) (above : Bool) → Axes n → Within n values
    → beq (lt_z (pos 0) (back (get_or values (3 * m + k) 0ℤ))) above ≡ false → le_z (value_at values k m) 0ℤ ≡ above
unfolding value_at
side_at {n} k {values} m above a w h =
    ap (λ x. le_z x 0ℤ) (sym (back_is (w.entries (3 * m + k)) (entry_word n a))) ∙ side (back (get_or values (3 * m + k) 0ℤ)) above h
