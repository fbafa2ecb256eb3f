-- The values of one vertex while they are copied over those of another, one number after the other.
use mathlib.Core.Path.{◌≡◌, refl, ap, ◌∙◌}
use mathlib.Core.Bool.{Bool, true, false}
use mathlib.Core.List.{List, ◌∷◌}
use Prim.Native.Nat.{ℕ, suc, ◌+◌, ◌*◌, ◌-◌, ◌^◌, ◌≤◌, ◌<◌}
use native.Mathlib.Omega.{arith}
use lib.IntN.{ℤ}
use lib.Dec.{lit≤, eqb}
use lib.ListN.{length, get_or, set}
use borrow.Author.Count.{below_none, below_more}
use borrow.Author.Tests.{eqb-true, eqb-false}
use Rattle.std.proofs.Common.{length-set}
use Rattle.std.proofs.lemmas.List.{get_or-set_same, get_or-set_other}
use Rattle.exact.specs.Int.{0ℤ, 1ℤ}
use Rattle.exact.specs.Size.{Size}
use Rattle.exact.proofs.Bits.{back, back_is}
use Rattle.exact.proofs.CountFrom.{map_count_from_ext}
use Rattle.paper.specs.Limits.{readable_limit}
use Rattle.bits.specs.Axes.{Axes}
use Rattle.bits.proofs.EachDimension.{each_axes}
use Rattle.determinants.specs.Cells.{column_at, entry_limit}
use Rattle.cube.specs.Cube.{Within, ValuesCopied}

pub entry_word : (n : ℕ) → Axes n → entry_limit n ≤ 2 ^ 63 - 1
unfolding entry_limit readable_limit
entry_word = each_axes (λ n. entry_limit n ≤ 2 ^ 63 - 1) (lit≤ tt) (lit≤ tt) (lit≤ tt)

-- of the first k numbers those that count are copied, and all others are as before
pub record Copying (n : ℕ) (from : List ℤ) (i : ℕ) (before : List ℤ) (j k : ℕ) (here : List ℤ) : Type 0 where
  pub count : length here ≡ length before
  pub within : Within n here
  pub copied : (q : ℕ) → q < k → suc q < n → get_or here (3 * j + q) 0ℤ ≡ get_or from (3 * i + q) 0ℤ
  pub lower : (q : ℕ) → q < 3 * j → get_or here q 0ℤ ≡ get_or before q 0ℤ
  pub upper : (q : ℕ) → 3 * j + (n - 1) ≤ q → get_or here q 0ℤ ≡ get_or before q 0ℤ

pub copying_none : {n i j : ℕ} {from before : List ℤ} → Within n before → Copying n from i before j 0 before
copying_none w = record { count = refl; within = w; copied = below_none _; lower = λ q l. refl; upper = λ q l. refl }

module _ {n : ℕ} (a : Axes n) {from before here : List ℤ} {i j : ℕ} (w : Within n from) (k : ℕ) (room : 3 * j + k < length before)
    (g : Copying n from i before j k here) where
  -- the code reads the number as its bits
  abbrev after : List ℤ
  after = set here (3 * j + k) (back (get_or from (3 * i + k) 0ℤ))

  there : get_or after (3 * j + k) 0ℤ ≡ get_or from (3 * i + k) 0ℤ
  there =
      get_or-set_same here (3 * j + k) (back (get_or from (3 * i + k) 0ℤ)) 0ℤ (omega (arith, g.count))
      ∙ back_is (w.entries (3 * i + k)) (entry_word n a)

  else_kept : (q : ℕ) → (q ≡ 3 * j + k → ⊥) → get_or after q 0ℤ ≡ get_or here q 0ℤ
  else_kept q d = get_or-set_other here (3 * j + k) q (back (get_or from (3 * i + k) 0ℤ)) 0ℤ d

  pub copying_next : k < n - 1 → Copying n from i before j (k + 1) after
  copying_next h = record {
    count = length-set here (3 * j + k) (back (get_or from (3 * i + k) 0ℤ)) ∙ g.count;
    within = record { entries = λ q. go q (eqb q (3 * j + k)) refl };
    copied = below_more _ k (λ q l u. else_kept (3 * j + q) (λ e. omega arith) ∙ g.copied q l u) (λ u. there);
    lower = λ q l. else_kept q (λ e. omega arith) ∙ g.lower q l;
    upper = λ q l. else_kept q (λ e. omega arith) ∙ g.upper q l;
  }
    where
      go : (q : ℕ) (b : Bool) → eqb q (3 * j + k) ≡ b → Size (entry_limit n) (get_or after q 0ℤ)
      go q true e = rw (eqb-true q (3 * j + k) e, there) (w.entries (3 * i + k))
      go q false e = rw (else_kept q (eqb-false q (3 * j + k) e)) (g.within.entries q)

-- a number that does not count stays
pub copying_past : {n i j : ℕ} {from before here : List ℤ} (k : ℕ) → n - 1 ≤ k → Copying n from i before j k here → Copying n from i before j (k + 1) here
copying_past k l g = record { count = g.count; within = g.within; copied = below_more _ k g.copied (λ u. absurd (omega arith)); lower = g.lower; upper = g.upper }

-- all of them are
pub copying_all : {n i j : ℕ} {from before here : List ℤ} (k : ℕ) → n ≤ k + 1 → Copying n from i before j k here → ValuesCopied n from i before j here
unfolding column_at
copying_all {n} {i} {j} {from} {before} {here} k l g = record {
  count = g.count;
  within = g.within;
  copied =
      ap (λ l. 1ℤ ∷ l)
      (map_count_from_ext (λ q. get_or here (3 * j + q) 0ℤ) (λ q. get_or from (3 * i + q) 0ℤ) 0 (n - 1) (λ q a b. g.copied q (omega arith) (omega arith)));
  lower = g.lower;
  upper = g.upper;
}
