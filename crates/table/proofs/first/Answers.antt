-- `table::first` meets its contract: the formula is the definition's at each number.
use mathlib.Core.Path.{◌≡◌, refl}
use Prim.Native.Nat.{ℕ, suc, zero, ◌*◌, ◌^◌, ◌/◌, ◌%◌, ◌<◌}
use native.Mathlib.Omega.{arith}
use Rattle.table.specs.Table.{first_row}
use Rattle.table.proofs.first.Goals as goal

formula : (n : ℕ) → n < 6 → 1 * 2 ^ (2 * n) % 2 ^ 64 / 32 ≡ first_row n
unfolding first_row
formula zero l = refl
formula (suc zero) l = refl
formula (suc (suc zero)) l = refl
formula (suc (suc (suc zero))) l = refl
formula (suc (suc (suc (suc zero)))) l = refl
formula (suc (suc (suc (suc (suc zero))))) l = refl
formula (suc (suc (suc (suc (suc (suc n)))))) l = absurd (omega arith)

pub returns : goal.returns
returns c = formula c.args.n c.requires
