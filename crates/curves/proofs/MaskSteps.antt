-- The masks of an order read back: their steps are the powers of the axes, one mask taken out joins two powers, and `added` and
-- `bend` give the axes and the index again.
use Prim.Native.Nat.{ℕ, suc, zero, ◌+◌, ◌^◌, ◌<◌}
use mathlib.Core.Path.{◌≡◌, refl, sym, ap, ap₂, ◌∙◌}
use mathlib.Core.Bool.{Bool, true, false, cond}
use mathlib.Core.List.{List, [], ◌∷◌, ◌++◌, reverse}
use native.Mathlib.Nat.{add-zero, add_assoc, add_comm, zero-add}
use native.Mathlib.Omega.{arith}
use lib.ListN.{length}
use lib.Dec.{ltb}
use lib.Count.{ones}
use borrow.Author.Tests.{ltb-true, ltb-false, eq-eqb, ne_eqb}
use Rattle.exact.specs.Crossed.{remove}
use Rattle.curves.specs.Grid.{axes, masks_from, last_mask, steps, oriented, added, bend, side_of}
use Rattle.curves.proofs.MaskBits.{bit, bit_zero, ones_zero, ones_add, bit_add_other}
use Rattle.curves.proofs.MaskAxes.{axes_power, axes_powers}
use Rattle.curves.proofs.MaskOrder.{Fresh, none, next, weight}

-- the powers of the axes of a list
unfoldable pub powers : List ℕ → List ℕ
powers [] = []
powers (a ∷ o) = 2 ^ a ∷ powers o

-- ---- all masks of an order

pub last_masks : (m : ℕ) (o : List ℕ) → last_mask m (masks_from m o) ≡ m + weight o
unfolding last_mask masks_from weight
last_masks m [] = sym (add-zero m)
last_masks m (a ∷ o) = last_masks (m + 2 ^ a) o ∙ add_assoc m (2 ^ a) (weight o)

pub steps_masks : (m : ℕ) (o : List ℕ) → steps m (masks_from m o) ≡ powers o
unfolding steps masks_from powers
steps_masks m [] = refl
steps_masks m (a ∷ o) = ap₂ ◌∷◌ (omega arith) (steps_masks (m + 2 ^ a) o)

oriented_one : (s a : ℕ) → oriented s (a ∷ []) ≡ a ∷ []
unfolding oriented
oriented_one zero a = refl
oriented_one (suc s) a = refl

pub added_powers : {n m : ℕ} {o : List ℕ} (s : ℕ) → Fresh n m o → added n s (powers o) ≡ o
unfolding added powers
added_powers s none = refl
added_powers {n} s (next {a = a} {o = o} l z r) =
    ap₂ ◌++◌ (ap (oriented s) (axes_power n a l) ∙ oriented_one s a) (added_powers s r)

-- ---- without the last mask

pub remove_end : (m : ℕ) (o : List ℕ) (a : ℕ) → remove (length o) (masks_from m (o ++ a ∷ [])) ≡ masks_from m o
unfolding remove masks_from
remove_end m [] a = refl
remove_end m (b ∷ o) a = ap (λ (l : List ℕ). (m + 2 ^ b) ∷ l) (remove_end (m + 2 ^ b) o a)

pub side_end : (o : List ℕ) (a : ℕ) → side_of (length o) (o ++ a ∷ []) ≡ 0
unfolding side_of
side_end [] a = refl
side_end (b ∷ o) a = side_end o a

-- ---- without another mask

pub side_between : (o : List ℕ) (a b : ℕ) (p : List ℕ) → side_of (length o) (o ++ a ∷ b ∷ p) ≡ cond (ltb a b) 0 1
unfolding side_of
side_between [] a b p = refl
side_between (x ∷ o) a b p = side_between o a b p

pub last_between : (m : ℕ) (o : List ℕ) (a b : ℕ) (p : List ℕ)
    → last_mask m (remove (length o) (masks_from m (o ++ a ∷ b ∷ p))) ≡ m + weight (o ++ a ∷ b ∷ p)
unfolding last_mask masks_from remove weight
last_between m [] a b p = last_masks (m + 2 ^ a + 2 ^ b) p ∙ omega arith
last_between m (x ∷ o) a b p = last_between (m + 2 ^ x) o a b p ∙ add_assoc m (2 ^ x) (weight (o ++ a ∷ b ∷ p))

pub steps_between : (m : ℕ) (o : List ℕ) (a b : ℕ) (p : List ℕ)
    → steps m (remove (length o) (masks_from m (o ++ a ∷ b ∷ p))) ≡ powers o ++ (2 ^ a + 2 ^ b) ∷ powers p
unfolding steps masks_from remove powers
steps_between m [] a b p = ap₂ ◌∷◌ (omega arith) (steps_masks (m + 2 ^ a + 2 ^ b) p)
steps_between m (x ∷ o) a b p = ap₂ ◌∷◌ (omega arith) (steps_between (m + 2 ^ x) o a b p)

-- the two axes of a step, in the order that their side stands for
pub oriented_two : (n a b : ℕ) → a < n → b < n → ¬ (a ≡ b) → oriented (cond (ltb a b) 0 1) (axes n (2 ^ a + 2 ^ b)) ≡ a ∷ b ∷ []
unfolding oriented
oriented_two n a b u v d = go (ltb a b) refl
  where
    go : (t : Bool) → ltb a b ≡ t → oriented (cond t 0 1) (axes n (2 ^ a + 2 ^ b)) ≡ a ∷ b ∷ []
    go true e = axes_powers n a b (ltb-true a b e) v
    go false e =
        let l : b < a = omega (arith, ltb-false a b e) in
        ap (λ (x : ℕ). reverse (axes n x)) (add_comm (2 ^ a) (2 ^ b)) ∙ ap reverse (axes_powers n b a l u)

pub added_between : {n m : ℕ} (s : ℕ) (o : List ℕ) (d : ℕ) (p : List ℕ) → Fresh n m o → added n s (powers o ++ d ∷ powers p) ≡ o ++ (oriented s (axes n d) ++ added n s (powers p))
unfolding added powers
added_between s [] d p f = refl
added_between {n = n} {m = m} s (a ∷ o) d p (next l z r) =
    ap₂ ◌++◌ (ap (oriented s) (axes_power n a l) ∙ oriented_one s a) (added_between {m = m + 2 ^ a} s o d p r)

pub ones_power : (a : ℕ) → ones (2 ^ a) ≡ 1
ones_power a = ap ones (sym (zero-add (2 ^ a))) ∙ ones_add a 0 (bit_zero a) ∙ ap suc ones_zero

pub bit_power : (a b : ℕ) → ¬ (a ≡ b) → bit a (2 ^ b) ≡ 0
bit_power a b d = ap (bit a) (sym (zero-add (2 ^ b))) ∙ bit_add_other a b 0 d (bit_zero b) ∙ bit_zero a

pub ones_powers : (a b : ℕ) → ¬ (a ≡ b) → ones (2 ^ a + 2 ^ b) ≡ 2
ones_powers a b d = ones_add b (2 ^ a) (bit_power b a (λ e. d (sym e))) ∙ ap suc (ones_power a)

pub bend_between : (o : List ℕ) (d : ℕ) (p : List ℕ) → ones d ≡ 2 → bend (powers o ++ d ∷ p) ≡ suc (length o)
unfolding bend powers
bend_between [] d p e = ap (λ (t : Bool). cond t 1 (suc (bend p))) (eq-eqb (ones d) 2 e)
bend_between (a ∷ o) d p e =
    ap (λ (t : Bool). cond t 1 (suc (bend (powers o ++ d ∷ p)))) (ne_eqb (ones (2 ^ a)) 2 (λ q. omega (arith, ones_power a)))
    ∙ ap suc (bend_between o d p e)
