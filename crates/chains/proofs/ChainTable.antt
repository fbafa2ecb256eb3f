-- The table has the chains of each number of axes, in their order.
use Prim.Native.Nat.{ℕ, suc, ◌+◌, ◌/◌, ◌%◌, ◌^◌, ◌≤◌, ◌<◌}
use mathlib.Core.Path.{◌≡◌, refl}
use mathlib.Core.Bool.{Bool, true, ◌&&◌}
use mathlib.Core.List.{[], ◌∷◌, map}
use native.Mathlib.Omega.{arith}
use lib.ListN.{length, get_or}
use lib.Dec.{lit≤, ltb, eqb}
use borrow.Author.Tests.{ltb-true}
use Rattle.exact.proofs.AndTests.{and_left, and_right}
use Rattle.exact.specs.Crossed.{count_from}
use Rattle.curves.specs.Grid.{chain, holds}
use Rattle.curves.specs.Box.{keep, pairs, lists_under, chains}
use Rattle.paper.specs.Job.{all_from}
use Rattle.paper.proofs.Tests.{all_at}
use Rattle.bits.specs.Axes.{Axes}
use Rattle.bits.proofs.EachDimension.{each_axes}
use Rattle.chains.specs.Chains.{chain_array, first_chain, chain_word, digits, chain_of}

-- how many chains there are
unfoldable pub chain_count : ℕ → ℕ
chain_count n = get_or (0 ∷ 0 ∷ 3 ∷ 12 ∷ 60 ∷ []) n 0

pub chains_counted : (n : ℕ) → Axes n → length (chains n) ≡ chain_count n
unfolding chains keep pairs lists_under count_from chain holds chain_count
chains_counted = each_axes (λ n. length (chains n) ≡ chain_count n) refl refl refl

pub chains_tabled : (n : ℕ) → Axes n → chains n ≡ map (λ j. chain_of n (chain_word n j)) (count_from 0 (chain_count n))
unfolding chains keep pairs lists_under count_from chain holds chain_count chain_of digits chain_word first_chain chain_array
chains_tabled = each_axes (λ n. chains n ≡ map (λ j. chain_of n (chain_word n j)) (count_from 0 (chain_count n))) refl refl refl

pub few_chains : (n : ℕ) → Axes n → chain_count n ≤ 60
unfolding chain_count
few_chains n a = each_axes (λ n. chain_count n ≤ 60) (lit≤ tt) (lit≤ tt) (lit≤ tt) n a

-- ---- one chain of the table

-- its digits are masks of n axes
digits_under : ℕ → ℕ → Bool
digits_under n w = ltb (w / 256) (2 ^ n) && (ltb (w / 16 % 16) (2 ^ n) && ltb (w % 16) (2 ^ n))

-- it has n − 1 masks, and they are a chain
is_chain : ℕ → ℕ → Bool
is_chain n w = eqb (suc (length (chain_of n w))) n && chain n 0 (chain_of n w)

-- it stands in the table
in_array : ℕ → ℕ → Bool
in_array n j = ltb (first_chain n + j) 75

module _ (n : ℕ) (a : Axes n) (j : ℕ) (l : j < chain_count n) where
  pub chain_inside : first_chain n + j < 75
  unfolding in_array all_from first_chain chain_count
  chain_inside =
      ltb-true (first_chain n + j) 75
      (all_at (in_array n) 0 (chain_count n) j (each_axes (λ n. all_from (in_array n) 0 (chain_count n) ≡ true) refl refl refl n a) (omega arith) (omega arith))

  digits_lem : digits_under n (chain_word n j) ≡ true
  unfolding digits_under all_from first_chain chain_count chain_word chain_array
  digits_lem =
      all_at (λ j. digits_under n (chain_word n j)) 0 (chain_count n) j
      (each_axes (λ n. all_from (λ j. digits_under n (chain_word n j)) 0 (chain_count n) ≡ true) refl refl refl n a) (omega arith) (omega arith)

  pub digits_under_lem : (chain_word n j / 256 < 2 ^ n) × ((chain_word n j / 16 % 16 < 2 ^ n) × (chain_word n j % 16 < 2 ^ n))
  unfolding digits_under
  digits_under_lem =
      let w = chain_word n j in
      let r = and_right (ltb (w / 256) (2 ^ n)) (ltb (w / 16 % 16) (2 ^ n) && ltb (w % 16) (2 ^ n)) digits_lem in (
        ltb-true (w / 256) (2 ^ n) (and_left (ltb (w / 256) (2 ^ n)) (ltb (w / 16 % 16) (2 ^ n) && ltb (w % 16) (2 ^ n)) digits_lem),
        (
          ltb-true (w / 16 % 16) (2 ^ n) (and_left (ltb (w / 16 % 16) (2 ^ n)) (ltb (w % 16) (2 ^ n)) r),
          ltb-true (w % 16) (2 ^ n) (and_right (ltb (w / 16 % 16) (2 ^ n)) (ltb (w % 16) (2 ^ n)) r),
        ),
      )

  pub chain_formed : (eqb (suc (length (chain_of n (chain_word n j)))) n && chain n 0 (chain_of n (chain_word n j))) ≡ true
  unfolding is_chain all_from first_chain chain_count chain_word chain_array chain_of digits chain holds
  chain_formed =
      all_at (λ j. is_chain n (chain_word n j)) 0 (chain_count n) j
      (each_axes (λ n. all_from (λ j. is_chain n (chain_word n j)) 0 (chain_count n) ≡ true) refl refl refl n a) (omega arith) (omega arith)
