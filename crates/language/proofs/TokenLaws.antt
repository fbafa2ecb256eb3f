-- What a byte is.
use Prim.Native.Nat.{ℕ, ◌-◌, ◌≤◌}
use mathlib.Core.Path.{◌≡◌, refl}
use mathlib.Core.Bool.{Bool, true, false, ◌&&◌}
use lib.Dec.{leb}
use borrow.Author.Tests.{leb-true, le-leb, ne_eqb}
use Rattle.exact.proofs.AndTests.{and_left, and_right}
use Rattle.formula.specs.Grammar.{is_letter, axis_of}
use Rattle.formula.specs.Reader.{digit, variable, foreign, token}

-- ---- letters

pub no_letter : (n b : ℕ) → (b ≡ 120 → ⊥) → (b ≡ 121 → ⊥) → (b ≡ 122 → ⊥) → (b ≡ 119 → ⊥) → false ≡ is_letter n b
unfolding is_letter
no_letter n b h i j k = rw (ne_eqb b 120 h, ne_eqb b 121 i, ne_eqb b 122 j, ne_eqb b 119 k) refl

-- ---- what a byte is

pub token_digit : (n b : ℕ) → 48 ≤ b → b ≤ 57 → digit (b - 48) ≡ token n b
unfolding token
token_digit n b h k = rw (le-leb 48 b h, le-leb b 57 k) refl

-- neither a digit nor a sign
pub record Other (b : ℕ) : Type 0 where
  pub no_digit : 48 ≤ b → b ≤ 57 → ⊥
  pub no_opening : b ≡ 40 → ⊥
  pub no_closing : b ≡ 41 → ⊥
  pub no_star : b ≡ 42 → ⊥
  pub no_plus : b ≡ 43 → ⊥
  pub no_minus : b ≡ 45 → ⊥
  pub no_caret : b ≡ 94 → ⊥

not_digit : (b : ℕ) → Other b → (leb 48 b && leb b 57) ≡ false
not_digit b o = go (leb 48 b && leb b 57) refl
  where
    go : (t : Bool) → (leb 48 b && leb b 57) ≡ t → t ≡ false
    go false e = refl
    go true e = absurd (o.no_digit (leb-true 48 b (and_left (leb 48 b) (leb b 57) e)) (leb-true b 57 (and_right (leb 48 b) (leb b 57) e)))

pub token_letter : {r : Bool} (n b : ℕ) → Other b → r ≡ is_letter n b → r ≡ true → variable (axis_of b) ≡ token n b
unfolding token
token_letter n b o e h = rw (not_digit b o, ← e, h) refl

pub token_foreign : {r : Bool} (n b : ℕ) → Other b → r ≡ is_letter n b → r ≡ false → foreign ≡ token n b
unfolding token
token_foreign n b o e h =
    rw (not_digit b o, ← e, h, ne_eqb b 40 o.no_opening, ne_eqb b 41 o.no_closing, ne_eqb b 42 o.no_star, ne_eqb b 43 o.no_plus, ne_eqb b 45 o.no_minus, ne_eqb b 94 o.no_caret) refl
