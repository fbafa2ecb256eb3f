-- The laws of `exit`, the search for the other crossed facet: its equations, what it finds where there is exactly one, and
-- that it gives n + 1 where there is none.
use Prim.Native.Nat.{ℕ, suc, zero, ◌+◌, ◌≤◌, ◌<◌}
use native.Mathlib.Omega.{arith}
use native.Mathlib.Decide.{ℕ_discrete}
use mathlib.Core.Path.{◌≡◌, refl, sym, ap, ◌∙◌}
use mathlib.Core.Bool.{Bool, true, false, not, ◌&&◌}
use mathlib.Core.Logic.{◌≢◌}
use mathlib.Core.List.{List, ◌∷◌}
use lib.Dec.{eqb, eqb→eq, eqb_refl, T}
use Rattle.exact.specs.Det.{Column}
use Rattle.exact.specs.Crossed.{count_from, crossed, remove, other_crossed, exit}
use Rattle.exact.specs.Simplex.{FacetCrossed, OnlyOther}

-- ---- the test of one vertex

-- the vertex q is not p and its facet is crossed: what the search tests
abbrev pub is_other : ℕ → List Column → ℕ → ℕ → Bool
is_other n us p q = not (eqb q p) && crossed n (remove q us)

eqb_same : (p : ℕ) → eqb p p ≡ true
eqb_same p = go (eqb p p) (eqb_refl p)
  where
    go : (b : Bool) → T b → b ≡ true
    go true t = refl
    go false t = absurd t

eqb_other : (p q : ℕ) → p ≢ q → eqb q p ≡ false
eqb_other p q h = go (eqb q p) (eqb→eq q p)
  where
    go : (b : Bool) → (T b → q ≡ p) → b ≡ false
    go true f = absurd (h (sym (f tt)))
    go false f = refl

pub is_other_self : (n : ℕ) (us : List Column) (p : ℕ) → is_other n us p p ≡ false
is_other_self n us p = ap (λ b. not b && crossed n (remove p us)) (eqb_same p)

pub is_other_other : (n : ℕ) (us : List Column) (p q : ℕ) → p ≢ q → is_other n us p q ≡ crossed n (remove q us)
is_other_other n us p q h = ap (λ b. not b && crossed n (remove q us)) (eqb_other p q h)

-- ---- the search

pub other_crossed_here :
    (n : ℕ) (us : List Column) (p none q : ℕ) (qs : List ℕ) → is_other n us p q ≡ true
    → other_crossed n us p none (q ∷ qs) ≡ q
unfolding other_crossed
other_crossed_here n us p none q qs h = rw (h, other_crossed)

pub other_crossed_later :
    (n : ℕ) (us : List Column) (p none q : ℕ) (qs : List ℕ) → is_other n us p q ≡ false
    → other_crossed n us p none (q ∷ qs) ≡ other_crossed n us p none qs
unfolding other_crossed
other_crossed_later n us p none q qs h = rw (h, other_crossed)

-- the search from k on finds q, if q passes the test and nothing before it does
pub other_crossed_is :
    (n : ℕ) (us : List Column) (p none k m q : ℕ)
    → k ≤ q → q < k + m → is_other n us p q ≡ true → ((j : ℕ) → k ≤ j → j < q → is_other n us p j ≡ false)
    → other_crossed n us p none (count_from k m) ≡ q
unfolding count_from
other_crossed_is n us p none k zero q l u h before = absurd (omega arith)
other_crossed_is n us p none k (suc m) q l u h before =
    go (ℕ_discrete k q) (λ l' u'. other_crossed_is n us p none (suc k) m q l' u' h (λ j a b. before j (omega arith) b))
  where
    go :
        Dec (k ≡ q) → (suc k ≤ q → q < suc k + m → other_crossed n us p none (count_from (suc k) m) ≡ q)
        → other_crossed n us p none (k ∷ count_from (suc k) m) ≡ q
    go (yes e) later = other_crossed_here n us p none k _ (ap (is_other n us p) e ∙ h) ∙ e
    go (no d) later = other_crossed_later n us p none k _ (before k (omega arith) (omega arith)) ∙ later (omega arith) (omega arith)

-- ---- the exit

-- a test that does not hold fails
is_false : (b : Bool) → b ≢ true → b ≡ false
is_false true h = absurd (h refl)
is_false false h = refl

-- the exit is the only other crossed facet, where there is just one
pub exit_only : (n : ℕ) (us : List Column) (p q : ℕ) → OnlyOther n (FacetCrossed n us) p q → exit n us p ≡ q
unfolding exit
exit_only n us p q o =
    other_crossed_is n us p (suc n) 0 (suc n) q (omega arith) (omega (arith, o.low)) (is_other_other n us p q o.other ∙ o.crosses) before
  where
    before : (j : ℕ) → 0 ≤ j → j < q → is_other n us p j ≡ false
    before j l u = go (ℕ_discrete p j)
      where
        go : Dec (p ≡ j) → is_other n us p j ≡ false
        go (yes e) = ap (λ x. is_other n us x j) e ∙ is_other_self n us j
        go (no d) = is_other_other n us p j d ∙ is_false _ (λ c. let e : j ≡ q = o.only j (omega (arith, o.low)) d c in omega arith)
