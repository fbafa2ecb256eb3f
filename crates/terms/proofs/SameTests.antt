-- Two comparisons that hold together are the same test.
use mathlib.Core.Path.{◌≡◌, refl, sym, ◌∙◌}
use mathlib.Core.Bool.{Bool, true, false, true≢false}
use Prim.Native.Nat.{ℕ, ◌≤◌}
use lib.Dec.{leb}
use borrow.Author.Tests.{leb-true, le-leb}

pub leb_same : (a b c d : ℕ) → (a ≤ b → c ≤ d) → (c ≤ d → a ≤ b) → leb a b ≡ leb c d
leb_same a b c d to from = go (leb a b) (leb c d) refl refl
  where
    go : (p q : Bool) → leb a b ≡ p → leb c d ≡ q → leb a b ≡ leb c d
    go true true e f = e ∙ sym f
    go false false e f = e ∙ sym f
    go true false e f = absurd (true≢false (sym (le-leb c d (to (leb-true a b e))) ∙ f))
    go false true e f = absurd (true≢false (sym (le-leb a b (from (leb-true c d f))) ∙ e))
