-- The table `orders` is the list of all orders of its axes (`orders_are`), so its laws are those of that list, which hold for every n:
-- each row is an order, no row stands twice, and every order is a row.
use Prim.Native.Nat.{ℕ, suc, zero, ◌≤◌}
use mathlib.Core.Path.{◌≡◌, refl, sym, ap, subst}
use mathlib.Core.Bool.{true}
use mathlib.Core.List.Memᴰ
use mathlib.Core.List.{List, [], ◌∷◌, map}
use mathlib.Core.Logic.{⊎_elim}
use native.Mathlib.Omega.{arith}
use native.Mathlib.Decide.{ℕ_discrete}
use lib.ListN.{length}
use Rattle.exact.specs.Factorial.{factorial}
use Rattle.exact.specs.Crossed.{count_from}
use Rattle.curves.specs.Grid.{absent, distinct, under, is_order, orders}
use Rattle.curves.specs.Box.{keep, pairs, lists_under}
use Rattle.curves.specs.Curve.{◌∈◌, NoDup, none, more}
use Rattle.curves.proofs.OrderTests.{order_length, order_under}
use Rattle.curves.proofs.Listed.{count_from_from, lists_under_listed, keep_member, keep_listed, keep_differ}
use Rattle.curves.proofs.WalkLists.{no_dup_append}

-- ---- no list of numbers under n is listed twice

head_of : List ℕ → ℕ
head_of [] = 0
head_of (a ∷ l) = a

tail_of : List ℕ → List ℕ
tail_of [] = []
tail_of (a ∷ l) = l

pub count_from_differ : (k m : ℕ) → NoDup (count_from k m)
unfolding count_from
count_from_differ k zero = none
count_from_differ k (suc m) =
    let out : ¬ (k ∈ count_from (suc k) m) = λ i. omega (arith, count_from_from (suc k) m i) in more out (count_from_differ (suc k) m)

cons_differ : (a : ℕ) {ls : List (List ℕ)} → NoDup ls → NoDup (map (λ l. a ∷ l) ls)
unfolding tail_of
cons_differ a none = none
cons_differ a (more {x = l} {l = ls} out rest) =
    more {x = a ∷ l}
    (λ m. let w = Memᴰ.of_map (λ l. a ∷ l) ls m in out (Memᴰ.cast (ap tail_of (sym w.2)) w.1))
    (cons_differ a rest)

-- what pairs with a list of heads has one of them as its head
pairs_head : (heads : List ℕ) (ls : List (List ℕ)) {l : List ℕ} → l ∈ pairs (λ a l. a ∷ l) heads ls → head_of l ∈ heads
unfolding pairs head_of
pairs_head [] ls m = absurd (Memᴰ.not-nil m)
pairs_head (a ∷ heads) ls m =
    ⊎_elim
    (λ i. Memᴰ.head (ap head_of (sym (Memᴰ.of_map (λ l. a ∷ l) ls i).2)))
    (λ j. Memᴰ.tail (pairs_head heads ls j))
    (Memᴰ.append_cases (map (λ l. a ∷ l) ls) m)

pairs_differ : {heads : List ℕ} {ls : List (List ℕ)} → NoDup heads → NoDup ls → NoDup (pairs (λ a l. a ∷ l) heads ls)
unfolding pairs head_of
pairs_differ none d = none
pairs_differ {ls = ls} (more {x = a} {l = heads} out rest) d =
    no_dup_append (cons_differ a d) (pairs_differ rest d)
    (λ l i j. out (Memᴰ.cast (ap head_of (Memᴰ.of_map (λ l. a ∷ l) ls i).2) (pairs_head heads ls j)))

lists_under_differ : (n k : ℕ) → NoDup (lists_under n k)
unfolding lists_under
lists_under_differ n zero = more (λ m. Memᴰ.not-nil m) none
lists_under_differ n (suc k) = pairs_differ (count_from_differ 0 n) (lists_under_differ n k)

-- ---- all orders of n axes

-- the lists of n numbers under n, in rising order, of which those count that are orders
unfoldable pub all_orders : ℕ → List (List ℕ)
all_orders n = keep (is_order n) (lists_under n n)

module _ (n : ℕ) where
  pub all_orders_sound : {o : List ℕ} → o ∈ all_orders n → is_order n o ≡ true
  unfolding all_orders
  all_orders_sound m = (keep_member (is_order n) (lists_under n n) m).1

  pub all_orders_differ : NoDup (all_orders n)
  unfolding all_orders
  all_orders_differ = keep_differ (is_order n) (lists_under_differ n n)

  pub all_orders_complete : (o : List ℕ) → is_order n o ≡ true → o ∈ all_orders n
  unfolding all_orders
  all_orders_complete o e =
      keep_listed (is_order n) (lists_under n n) (lists_under_listed n n o (order_length n o e) (order_under n o e)) e

-- ---- the table

-- what holds for each number of axes that has a table holds for all of them
pub each_tabled : (P : ℕ → Type 0) → P 2 → P 3 → P 4 → (n : ℕ) → 2 ≤ n → n ≤ 4 → P n
each_tabled P two three four n low high = go (ℕ_discrete n 2) (ℕ_discrete n 3)
  where
    go : Dec (n ≡ 2) → Dec (n ≡ 3) → P n
    go (yes e) d = subst P (sym e) two
    go (no x) (yes e) = subst P (sym e) three
    go (no x) (no y) = subst P (omega (arith, low, high)) four

module _ (n : ℕ) (low : 2 ≤ n) (high : n ≤ 4) where
  -- the table has every order of n axes and nothing else, in rising order
  pub orders_are : orders n ≡ all_orders n
  unfolding orders all_orders keep is_order absent distinct under lists_under pairs count_from
  orders_are = each_tabled (λ m. orders m ≡ all_orders m) refl refl refl n low high

  pub orders_count : length (orders n) ≡ factorial n
  unfolding orders factorial
  orders_count = each_tabled (λ m. length (orders m) ≡ factorial m) refl refl refl n low high

  -- each row is an order
  pub orders_sound : (o : List ℕ) → o ∈ orders n → is_order n o ≡ true
  orders_sound o m = all_orders_sound n (subst (λ l. o ∈ l) orders_are m)

  -- no row stands twice
  pub orders_differ : NoDup (orders n)
  orders_differ = subst NoDup (sym orders_are) (all_orders_differ n)

  -- every order is a row
  pub orders_complete : (o : List ℕ) → is_order n o ≡ true → o ∈ orders n
  orders_complete o e = subst (λ l. o ∈ l) (sym orders_are) (all_orders_complete n o e)
