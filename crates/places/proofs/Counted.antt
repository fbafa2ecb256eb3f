-- A number of which it is known whether it counts.
use Prim.Native.Nat.{ℕ, ◌≤◌, ◌<◌}
use mathlib.Core.Path.{◌≡◌, sym, ap}
use mathlib.Core.Bool.{cond}
use borrow.Author.Tests.{lt-ltb, le-ltb}
use Rattle.places.specs.Held.{counted}

module _ {A : Type 0} (d : A) (n i : ℕ) where
  pub number_counts : (x : A) → i < n → x ≡ counted d n i x
  unfolding counted
  number_counts x l = ap (λ t. cond t x d) (sym (lt-ltb i n l))

  pub number_absent : (x : A) → n ≤ i → d ≡ counted d n i x
  unfolding counted
  number_absent x l = ap (λ t. cond t x d) (sym (le-ltb i n l))
