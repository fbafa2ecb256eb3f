-- Joined facets are joined in both directions and along chains.
use Prim.Native.Nat.{ℕ}
use Rattle.curves.specs.Grid.{Facet}
use Rattle.curves.specs.Step.{Field}
use Rattle.curves.specs.Curve as Curve
use Rattle.curves.specs.Curve.{itself, onward}
use Rattle.curves.specs.Joined.{Shares, Joined}

-- ---- chains

pub chain_trans : {F : Type 0} {S : F → F → Type 0} {f g h : F} → Curve.Joined S f g → Curve.Joined S g h → Curve.Joined S f h
chain_trans j itself = j
chain_trans j (onward k s) = onward (chain_trans j k) s

pub chain_sym : {F : Type 0} {S : F → F → Type 0} {f g : F} → ((h k : F) → S h k → S k h) → Curve.Joined S f g → Curve.Joined S g f
chain_sym back itself = itself
chain_sym back (onward {g = g} {h = h} k s) = chain_trans (onward itself (back g h s)) (chain_sym back k)

-- ---- the grid

pub shares_sym : {n : ℕ} {φ : Field} {f g : Facet} → Shares n φ f g → Shares n φ g f
shares_sym s = record {
  corner = s.corner;
  order = s.order;
  simplex = s.simplex;
  readable = s.readable;
  first = s.second;
  second = s.first;
  first_crossed = s.second_crossed;
  second_crossed = s.first_crossed;
}

pub joined_trans : {n : ℕ} {φ : Field} {f g h : Facet} → Joined n φ f g → Joined n φ g h → Joined n φ f h
joined_trans j k = chain_trans j k

pub joined_sym : {n : ℕ} {φ : Field} {f g : Facet} → Joined n φ f g → Joined n φ g f
joined_sym j = chain_sym (λ h k s. shares_sym s) j
