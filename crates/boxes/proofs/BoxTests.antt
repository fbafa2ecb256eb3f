-- The test of an axis with the numbers that the code read in place of the definitions' own, and the paper's box as a box with two limits.
use mathlib.Core.Path.{◌≡◌}
use mathlib.Core.Bool.{Bool, ◌&&◌}
use mathlib.Core.List.{List}
use Prim.Native.Nat.{ℕ, ◌+◌, ◌*◌}
use lib.IntN.{ℤ, pos, negsuc}
use lib.Signed.{le_z, lt_z}
use mir.Syntax.{w64}
use mir.Val.{SFits}
use Rattle.exact.specs.Int.{neg}
use Rattle.exact.proofs.Bits.{back}
use Rattle.paper.specs.Bytes.{signed_word}
use Rattle.paper.specs.Limits.{coordinate_limit}
use Rattle.paper.specs.Job.{low_end, high_end, axis_ok, box_ok}
use Rattle.bits.proofs.SignedBits.{bits_are}
use Rattle.boxes.specs.Between.{axis_between, box_between}

pub axis_test : (b : List ℕ) (a : ℕ) {lowest highest low high : ℤ} → SFits w64 lowest → SFits w64 highest → low ≡ signed_word b (4 * a)
    → high ≡ signed_word b (4 * a + 2) → axis_between lowest highest b a ≡ (le_z (back lowest) low && (lt_z low high && le_z high (back highest)))
unfolding axis_between low_end high_end
axis_test b a f g e h = rw (e, h, bits_are f, bits_are g)

-- limits that were handed on are what they were
pub limits_back : (n : ℕ) (b : List ℕ) {lowest highest : ℤ} → SFits w64 lowest → SFits w64 highest
    → box_between (back lowest) (back highest) n b ≡ box_between lowest highest n b
limits_back n b f g = rw (bits_are f, bits_are g)

-- the paper's limits
pub paper_box : (n : ℕ) (b : List ℕ) {r : Bool} → r ≡ box_between (negsuc 255) (pos 256) n b → r ≡ box_ok n b
unfolding box_between axis_between box_ok axis_ok neg coordinate_limit
paper_box n b e = e
