-- Chains of masks. The masks of an order are a chain; a chain with one mask taken out is a chain; and each chain comes from an order
-- of fresh axes: mask by mask if each step adds one axis, and with one mask taken out if one step adds two.
use Prim.Native.Nat.{ℕ, suc, zero, ◌+◌, ◌-◌, ◌^◌, ◌≤◌, ◌<◌}
use mathlib.Core.Path.{◌≡◌, refl, sym, ap, ap₂, ◌∙◌, subst}
use mathlib.Core.Bool.{true, not, ◌&&◌}
use mathlib.Core.List.{List, [], ◌∷◌, ◌++◌}
use native.Mathlib.Omega.{arith}
use lib.ListN.{length}
use lib.Dec.{eqb, ltb}
use lib.Count.{ones}
use lib.Pow.{pow_pos}
use borrow.Author.Tests.{ltb-true, lt-ltb, eqb-false, not-true, ne_eqb}
use Rattle.exact.proofs.AndTests.{and_left, and_right, and-true}
use Rattle.exact.specs.Crossed.{remove}
use Rattle.curves.specs.Grid.{holds, chain, masks_from, last_mask}
use Rattle.curves.proofs.MaskBits.{bit, add_under, bit_add_other, holds_add, holds_trans, holds_le, holds_ones, holds_bit, holds_bits}
use Rattle.curves.proofs.MaskAxes.{Power, Powers, no_ones, one_axis, two_axes}
use Rattle.curves.proofs.MaskOrder.{Fresh, none, next}

-- ---- what one mask of a chain says

pub record Link (n before m : ℕ) (ms : List ℕ) : Type 0 where
  pub bound : m < 2 ^ n
  pub held : holds n m before ≡ true
  pub changed : ¬ (m ≡ before)
  pub rest : chain n m ms ≡ true

pub chain_link : (n before m : ℕ) (ms : List ℕ) → chain n before (m ∷ ms) ≡ true → Link n before m ms
unfolding chain
chain_link n before m ms h =
    let h1 : holds n m before && (not (eqb m before) && chain n m ms) ≡ true
    = and_right (ltb m (2 ^ n)) (holds n m before && (not (eqb m before) && chain n m ms)) h in
    let h2 : not (eqb m before) && chain n m ms ≡ true = and_right (holds n m before) (not (eqb m before) && chain n m ms) h1 in
    record {
      bound = ltb-true m (2 ^ n) (and_left (ltb m (2 ^ n)) (holds n m before && (not (eqb m before) && chain n m ms)) h);
      held = and_left (holds n m before) (not (eqb m before) && chain n m ms) h1;
      changed = eqb-false m before (not-true (eqb m before) (and_left (not (eqb m before)) (chain n m ms) h2));
      rest = and_right (not (eqb m before)) (chain n m ms) h2;
    }

link_chain : (n before m : ℕ) (ms : List ℕ) → Link n before m ms → chain n before (m ∷ ms) ≡ true
unfolding chain
link_chain n before m ms k =
    and-true (lt-ltb m (2 ^ n) k.bound) (and-true k.held (and-true (ap not (ne_eqb m before k.changed)) k.rest))

pub chain_none : (n before : ℕ) → chain n before [] ≡ true
unfolding chain
chain_none n before = refl

-- ---- the masks of an order

pub fresh_chain : {n m : ℕ} {o : List ℕ} → m < 2 ^ n → Fresh n m o → chain n m (masks_from m o) ≡ true
unfolding masks_from
fresh_chain {n} {m} u none = chain_none n m
fresh_chain {n} {m} u (next {a = a} {o = o} l z r) =
    let v : m + 2 ^ a < 2 ^ n = add_under n a m l u z in
    link_chain n m (m + 2 ^ a) (masks_from (m + 2 ^ a) o)
    (record { bound = v; held = holds_add n a m z; changed = omega (arith, pow_pos a); rest = fresh_chain v r })

-- a mask taken out
pub chain_remove : (n i before : ℕ) (ms : List ℕ) → before < 2 ^ n → chain n before ms ≡ true → chain n before (remove i ms) ≡ true
unfolding remove
chain_remove n i before [] u h = h
chain_remove n zero before (m ∷ []) u h = chain_none n before
chain_remove n zero before (m ∷ x ∷ ms) u h =
    let k : Link n before m (x ∷ ms) = chain_link n before m (x ∷ ms) h in
    let k' : Link n m x ms = chain_link n m x ms k.rest in
    link_chain n before x ms
    (record {
      bound = k'.bound;
      held = holds_trans n x m before k'.held k.held;
      changed = λ e. k.changed (omega (arith, holds_le n m before u k.held, holds_le n x m k.bound k'.held));
      rest = k'.rest;
    })
chain_remove n (suc i) before (m ∷ ms) u h =
    let k : Link n before m ms = chain_link n before m ms h in
    link_chain n before m (remove i ms)
    (record {
      bound = k.bound;
      held = k.held;
      changed = k.changed;
      rest = chain_remove n i m ms k.bound k.rest;
    })

-- ---- the ones of a chain

pub last_bound : (n m : ℕ) (ms : List ℕ) → m < 2 ^ n → chain n m ms ≡ true → last_mask m ms < 2 ^ n
unfolding last_mask
last_bound n m [] u h = u
last_bound n m (x ∷ ms) u h =
    let k : Link n m x ms = chain_link n m x ms h in
    last_bound n x ms k.bound k.rest

-- each step adds an axis
step_ones : (n m x : ℕ) (ms : List ℕ) → m < 2 ^ n → Link n m x ms → ones m < ones x
step_ones n m x ms u k = go (ones (x - m)) refl
  where
    go : (r : ℕ) → ones (x - m) ≡ r → ones m < ones x
    go zero e =
        let same : x - m ≡ 0 = no_ones n (x - m) (omega (arith, k.bound)) e in
        absurd (k.changed (omega (arith, holds_le n x m u k.held)))
    go (suc r) e = omega (arith, holds_ones n x m k.bound u k.held)

pub chain_ones : (n m : ℕ) (ms : List ℕ) → m < 2 ^ n → chain n m ms ≡ true → ones m + length ms ≤ ones (last_mask m ms)
unfolding last_mask
chain_ones n m [] u h = omega arith
chain_ones n m (x ∷ ms) u h =
    let k : Link n m x ms = chain_link n m x ms h in
    omega (arith, step_ones n m x ms u k, chain_ones n x ms k.bound k.rest)

-- ---- a chain in which each step adds one axis

pub record Single (n m : ℕ) (ms : List ℕ) : Type 0 where
  pub order : List ℕ
  pub fresh : Fresh n m order
  pub masks : masks_from m order ≡ ms

-- a step that adds one axis
step_axis : (n m x : ℕ) (ms : List ℕ) → m < 2 ^ n → Link n m x ms → ones x ≡ suc (ones m)
    → (a : ℕ) × (a < n) × (bit a m ≡ 0) × (x ≡ m + 2 ^ a)
step_axis n m x ms u k e =
    let le : m ≤ x = holds_le n x m u k.held in
    let p : Power n (x - m) = one_axis n (x - m) (omega (arith, k.bound)) (omega (arith, holds_ones n x m k.bound u k.held)) in
    let q : x ≡ m + 2 ^ p.axis = omega (arith, p.value) in
    (p.axis, p.inside, holds_bit n p.axis m p.inside (ap (λ (y : ℕ). holds n y m) (sym q) ∙ k.held), q)

single_cons : (n m a : ℕ) (x : ℕ) (ms : List ℕ) → a < n → bit a m ≡ 0 → x ≡ m + 2 ^ a → Single n x ms → Single n m (x ∷ ms)
unfolding masks_from
single_cons n m a x ms l z q s =
    record {
      order = a ∷ s.order;
      fresh = next l z (subst (λ (y : ℕ). Fresh n y s.order) q s.fresh);
      masks = ap₂ ◌∷◌ (sym q) (ap (λ (y : ℕ). masks_from y s.order) (sym q) ∙ s.masks);
    }

pub chain_single : (n m : ℕ) (ms : List ℕ) → m < 2 ^ n → chain n m ms ≡ true → ones (last_mask m ms) ≡ ones m + length ms → Single n m ms
unfolding last_mask masks_from
chain_single n m [] u h e = record { order = []; fresh = none; masks = refl }
chain_single n m (x ∷ ms) u h e =
    let k : Link n m x ms = chain_link n m x ms h in
    let one : ones x ≡ suc (ones m) = omega (arith, step_ones n m x ms u k, chain_ones n x ms k.bound k.rest) in
    let (a, l, z, q) = step_axis n m x ms u k one in
    single_cons n m a x ms l z q (chain_single n x ms k.bound k.rest (omega arith))

-- ---- a chain in which one step adds two axes

pub record Double (n m : ℕ) (ms : List ℕ) : Type 0 where
  pub front : List ℕ
  pub lower : ℕ
  pub upper : ℕ
  pub back : List ℕ
  pub ordered : lower < upper
  pub fresh : Fresh n m (front ++ lower ∷ upper ∷ back)
  pub masks : remove (length front) (masks_from m (front ++ lower ∷ upper ∷ back)) ≡ ms

double_cons : (n m a : ℕ) (x : ℕ) (ms : List ℕ) → a < n → bit a m ≡ 0 → x ≡ m + 2 ^ a → Double n x ms → Double n m (x ∷ ms)
unfolding masks_from remove
double_cons n m a x ms l z q s =
    record {
      front = a ∷ s.front;
      lower = s.lower;
      upper = s.upper;
      back = s.back;
      ordered = s.ordered;
      fresh = next l z (subst (λ (y : ℕ). Fresh n y (s.front ++ s.lower ∷ s.upper ∷ s.back)) q s.fresh);
      masks =
          ap₂ ◌∷◌ (sym q)
          (ap (λ (y : ℕ). remove (length s.front) (masks_from y (s.front ++ s.lower ∷ s.upper ∷ s.back))) (sym q) ∙ s.masks);
    }

-- a step that adds two axes
step_axes : (n m x : ℕ) (ms : List ℕ) → m < 2 ^ n → Link n m x ms → ones x ≡ suc (suc (ones m))
    → (a : ℕ) × (b : ℕ) × (a < b) × (b < n) × (bit a m ≡ 0) × (bit b m ≡ 0) × (x ≡ m + 2 ^ a + 2 ^ b)
step_axes n m x ms u k e =
    let le : m ≤ x = holds_le n x m u k.held in
    go (two_axes n (x - m) (omega (arith, k.bound)) (omega (arith, holds_ones n x m k.bound u k.held))) le
  where
    go : Powers n (x - m) → m ≤ x
        → (a : ℕ) × (b : ℕ) × (a < b) × (b < n) × (bit a m ≡ 0) × (bit b m ≡ 0) × (x ≡ m + 2 ^ a + 2 ^ b)
    go p le =
        let q : x ≡ m + (2 ^ p.lower + 2 ^ p.upper) = omega (arith, p.value) in
        let bits : (bit p.lower m ≡ 0) × (bit p.upper m ≡ 0)
        = holds_bits n p.lower p.upper m p.ordered p.inside (ap (λ (y : ℕ). holds n y m) (sym q) ∙ k.held) in
        (p.lower, p.upper, p.ordered, p.inside, bits.0, bits.1, omega arith)

double_here : (n m a b x : ℕ) (ms : List ℕ) → a < b → b < n → bit a m ≡ 0 → bit b m ≡ 0 → x ≡ m + 2 ^ a + 2 ^ b → Single n x ms
    → Double n m (x ∷ ms)
unfolding masks_from remove
double_here n m a b x ms l v z y q s =
    let inside : a < n = omega arith in
    let other : ¬ (b ≡ a) = omega arith in
    record {
      front = [];
      lower = a;
      upper = b;
      back = s.order;
      ordered = l;
      fresh =
          next inside z
          (next v (bit_add_other b a m other z ∙ y) (subst (λ (w : ℕ). Fresh n w s.order) q s.fresh));
      masks = ap₂ ◌∷◌ (sym q) (ap (λ (w : ℕ). masks_from w s.order) (sym q) ∙ s.masks);
    }

pub chain_double : (n m : ℕ) (ms : List ℕ) → m < 2 ^ n → chain n m ms ≡ true → ones (last_mask m ms) ≡ suc (ones m + length ms) → Double n m ms
unfolding last_mask
chain_double n m [] u h e = absurd (omega arith)
chain_double n m (x ∷ ms) u h e =
    let k : Link n m x ms = chain_link n m x ms h in
    go k (λ c. chain_double n x ms k.bound k.rest c) (ones x - suc (ones m)) refl
  where
    -- by what the step adds above one axis
    go : Link n m x ms → (ones (last_mask x ms) ≡ suc (ones x + length ms) → Double n x ms) → (r : ℕ) → ones x - suc (ones m) ≡ r
        → Double n m (x ∷ ms)
    go k rec zero d =
        let one : ones x ≡ suc (ones m) = omega (arith, step_ones n m x ms u k) in
        let (a, l, z, q) = step_axis n m x ms u k one in
        double_cons n m a x ms l z q (rec (omega arith))
    go k rec (suc r) d =
        let two : ones x ≡ suc (suc (ones m)) = omega (arith, chain_ones n x ms k.bound k.rest) in
        let (a, b, l, v, z, y, q) = step_axes n m x ms u k two in
        double_here n m a b x ms l v z y q (chain_single n x ms k.bound k.rest (omega arith))
