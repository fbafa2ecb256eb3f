-- The first n of any powers, in an array that is 0 behind them.
use Prim.Native.Nat.{ℕ, ◌+◌, ◌≤◌, ◌<◌}
use native.Mathlib.Omega.{arith}
use mathlib.Core.Path.{◌≡◌, refl, sym, ◌∙◌}
use mathlib.Core.Logic.{◌⊎◌, inl, inr}
use mathlib.Core.List.{List}
use lib.ListN.{length, get_or, set, take, length-set}
use lib.Seq.{get_or-set_same, get_or-set_other}
use borrow.Author.Count.{below_none, below_more}
use Rattle.std.proofs.Common.{min}
use Rattle.std.proofs.lemmas.Bool.{cases_lt}
use Rattle.std.proofs.lemmas.List.{ext_get_or, length-take, get_or-take, get_or_past}
use Rattle.grounds.specs.Whole.{WholePowers}

-- the first n stand, and what is behind them is 0 up to k
pub record Leaving (n : ℕ) (powers : List ℕ) (k : ℕ) (here : List ℕ) : Type 0 where
  pub count : length here ≡ 4
  pub kept : (i : ℕ) → i < n → get_or here i 0 ≡ get_or powers i 0
  pub rest : (i : ℕ) → i < k → n ≤ i → get_or here i 0 ≡ 0

pub leaving_none : {n : ℕ} {powers : List ℕ} → length powers ≡ 4 → Leaving n powers 0 powers
leaving_none l = record { count = l; kept = λ i u. refl; rest = below_none _ }

-- a power that is left out
pub leaving_next : {n : ℕ} {powers here : List ℕ} (k : ℕ) → k < 4 → n ≤ k → Leaving n powers k here → Leaving n powers (k + 1) (set here k 0)
leaving_next {here = here} k l u g = record {
  count = length-set here k 0 ∙ g.count;
  kept = λ i v. get_or-set_other here k i 0 0 (λ e. omega arith) ∙ g.kept i v;
  rest = below_more _ k (λ i v w. get_or-set_other here k i 0 0 (λ e. omega arith) ∙ g.rest i v w) (λ w. get_or-set_same here k 0 0 (omega (arith, g.count)));
}

-- one that is not
pub leaving_past : {n : ℕ} {powers here : List ℕ} (k : ℕ) → k < n → Leaving n powers k here → Leaving n powers (k + 1) here
leaving_past k u g = record { count = g.count; kept = g.kept; rest = below_more _ k g.rest (λ w. absurd (omega arith)) }

-- all of it is
pub all_left : {n k : ℕ} {powers here : List ℕ} → 4 ≤ k → n ≤ 4 → Leaving n powers k here → WholePowers n here
all_left {n} {k} {powers} {here} all f g = record { count = g.count; few = f; rest = λ i l. cell i l (cases_lt i k) }
  where
    cell : (i : ℕ) → n ≤ i → (i < k) ⊎ (k ≤ i) → get_or here i 0 ≡ 0
    cell i l (inl u) = g.rest i u l
    cell i l (inr u) = get_or_past here i 0 (omega (arith, g.count))

pub first_kept : {n k : ℕ} {powers here : List ℕ} (m : ℕ) → n ≡ min m 4 → length powers ≡ 4 → Leaving n powers k here → take n here ≡ take m powers
first_kept {n} {k} {powers} {here} m s l g =
    let long = length-take n here in
    ext_get_or 0 (take n here) (take m powers) (omega (arith, long, length-take m powers, g.count, s))
    (λ i u. get_or-take n here i 0 (omega (arith, long)) ∙ g.kept i (omega (arith, long)) ∙ sym (get_or-take m powers i 0 (omega (arith, long, s))))
