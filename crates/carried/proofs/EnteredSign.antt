-- The sign of the determinant of a crossed facet, by one test.
use Prim.Native.Nat.{ℕ, suc, zero}
use mathlib.Core.Path.{◌≡◌, refl, sym, ap, ◌∙◌}
use mathlib.Core.Bool.{true}
use mathlib.Core.Logic.{◌≢◌}
use mathlib.Core.List.{List}
use lib.IntN.{ℤ, pos, negsuc}
use native.Mathlib.Omega.{arith}
use borrow.Author.Tests.{lt-ltb}
use lib.Dec.{lit≤}
use lib.Signed.{lt_z}
use Rattle.exact.specs.Size.{Is}
use Rattle.exact.specs.Sign.{nought, sign}
use Rattle.exact.specs.Det.{Column, determinant}
use Rattle.exact.specs.Crossed.{crossed}
use Rattle.exact.specs.Compared.{sign_of}
use Rattle.exact.proofs.Bits.{back, holds_call}
use Rattle.exact.proofs.CrossedTest.{crossed→signs}
use Rattle.determinants.specs.Entries.{determinant_limit}

sign_tested : (x : ℤ) → sign x ≢ nought → sign x ≡ sign_of (lt_z (pos 0) x)
unfolding sign sign_of
sign_tested (pos zero) d = absurd (d refl)
sign_tested (pos (suc k)) d = ap sign_of (sym (lt-ltb 0 (suc k) (omega arith)))
sign_tested (negsuc k) d = refl

pub determinant_tested :
    (n : ℕ) (cs : List Column) {z : ℤ} → crossed n cs ≡ true → Is determinant_limit (determinant n cs) z
    → sign (determinant n cs) ≡ sign_of (lt_z (pos 0) (back z))
determinant_tested n cs c e =
    sign_tested (determinant n cs) (crossed→signs n cs c).determined
    ∙ ap (λ x. sign_of (lt_z (pos 0) x)) (sym (holds_call e (lit≤ tt)).is)
