-- "Crossed" in plain words for a job of dimension 2: one value is above 0 and the other is 0 or below. The values are the
-- polynomial's at the facet's two vertices, and the last theorems read these from the bytes that Judge is handed. Of the
-- polynomial's sums this says: one is above the bias and the other is not.
use Prim.Native.Nat.{ℕ, suc, zero}
use native.Mathlib.Omega.{arith}
use mathlib.Core.Path.{◌≡◌, refl, sym, ap, ap₂, ◌∙◌}
use mathlib.Core.Bool.{true, ◌&&◌}
use mathlib.Core.Logic.{◌≢◌, ◌↔◌, ◌⊎◌, inl, inr}
use mathlib.Core.List.{List, [], ◌∷◌}
use lib.IntN.{ℤ, pos, negsuc}
use lib.Dec.{eqb, lt→ltb, ltb→lt}
use borrow.Author.Tests.{eqb-true}
use lib.Signed.{◌≤ℤ◌, ◌<ℤ◌, ≤ℤ_refl, clash_ℤ}
use lib.ListN.{length}
use Rattle.exact.proofs.AndTests.{and_left, and_right}
use Rattle.exact.specs.Int.{0ℤ}
use Rattle.exact.specs.Sign.{positive, sign}
use Rattle.exact.specs.Crossed.{count_from, crossed}
use Rattle.exact.proofs.Crossed2.{facet2, OneAbove, crossed_two}
use Rattle.curves.specs.Grid.{Vertex, Facet, plus, facet_vertices, chain, last_mask, facet_ok}
use Rattle.curves.specs.Step.{column, columns, crossed_facet}
use Rattle.paper.specs.Bytes.{byte, signed_word}
use Rattle.paper.specs.Job.{dimension, bias, body, decode_place}
use Rattle.paper.specs.Values.{raw_sum, value_of, sums, field_from, field_of}
use Rattle.paper.specs.Operations.{answered, crossed_in, facet_of, judge_refusal, judged}
use Rattle.paper.proofs.BiasedValues.{value_above, value_not_above}
use Rattle.paper.proofs.Refusals.{answered_inv, unless_answered}

-- one number is above a level and the other is not
abbrev pub OneAboveLevel : ℕ → ℤ → ℤ → Type 0
OneAboveLevel b x y = ((pos b <ℤ x) × (y ≤ℤ pos b)) ⊎ ((pos b <ℤ y) × (x ≤ℤ pos b))

-- one value is above 0 and the other is 0 or below
abbrev pub OneAboveZero : ℤ → ℤ → Type 0
OneAboveZero x y = OneAboveLevel 0 x y

-- ---- signs

positive_above : (x : ℤ) → sign x ≡ positive → 0ℤ <ℤ x
unfolding sign
positive_above (pos zero) h = let z : ◌≡◌ {A = ℕ} 0 1 = cc in absurd (omega arith)
positive_above (pos (suc n)) h = record { lt = lt→ltb 0 (suc n) (omega arith) }
positive_above (negsuc n) h = let z : ◌≡◌ {A = ℕ} 0 1 = cc in absurd (omega arith)

above_positive : (x : ℤ) → 0ℤ <ℤ x → sign x ≡ positive
unfolding sign
above_positive (pos zero) h = absurd (omega (arith, ltb→lt 0 0 h.lt))
above_positive (pos (suc n)) h = refl
above_positive (negsuc n) h = absurd h.lt

other_below : (x : ℤ) → sign x ≢ positive → x ≤ℤ 0ℤ
unfolding sign
other_below (pos zero) h = ≤ℤ_refl 0ℤ
other_below (pos (suc n)) h = absurd (h refl)
other_below (negsuc n) h = record { le = tt }

below_other : (x : ℤ) → x ≤ℤ 0ℤ → sign x ≢ positive
below_other x h e = clash_ℤ (positive_above x e) h

one_above : (x y : ℤ) → OneAbove x y ↔ OneAboveZero x y
one_above x y = (there, back)
  where
    there : OneAbove x y → OneAboveZero x y
    there (inl w) = inl (positive_above x w.0, other_below y w.1)
    there (inr w) = inr (positive_above y w.0, other_below x w.1)

    back : OneAboveZero x y → OneAbove x y
    back (inl w) = inl (above_positive x w.0, below_other y w.1)
    back (inr w) = inr (above_positive y w.0, below_other x w.1)

-- ---- the facet's two vertices

-- the value at a vertex of the polynomial of a job of dimension 2
abbrev pub value_at : List ℕ → Vertex → ℤ
value_at s v = value_of (bias s) (raw_sum (body s 1) v)

-- the vertex that is not the lowest
abbrev pub high_vertex : Facet → Vertex
high_vertex f = plus f.low (last_mask 0 f.masks)

-- their columns
two_columns :
    (s : List ℕ) (v : Vertex) (m : ℕ) → dimension s ≡ 2
    → columns (field_of s) (facet_vertices record { low = v; masks = m ∷ [] }) ≡ facet2 (value_at s v) (value_at s (plus v m))
unfolding columns column field_from field_of sums facet_vertices count_from
two_columns s v m e = rw e

crossed_columns :
    (s : List ℕ) (v : Vertex) (m : ℕ) → dimension s ≡ 2
    → crossed_in s record { low = v; masks = m ∷ [] } ≡ crossed 2 (facet2 (value_at s v) (value_at s (plus v m)))
unfolding crossed_in crossed_facet
crossed_columns s v m e = ap₂ crossed e (two_columns s v m e)

crossed_vertices :
    (s : List ℕ) (v : Vertex) (m : ℕ) → dimension s ≡ 2
    → (crossed_in s record { low = v; masks = m ∷ [] } ≡ true) ↔ OneAboveZero (value_at s v) (value_at s (plus v m))
crossed_vertices s v m e =
    let x : ℤ = value_at s v in
    let y : ℤ = value_at s (plus v m) in (
      λ h. (one_above x y).0 ((crossed_two x y).0 (sym (crossed_columns s v m e) ∙ h)),
      λ h. crossed_columns s v m e ∙ (crossed_two x y).1 ((one_above x y).1 h),
    )

crossed_masks :
    (s : List ℕ) (v : Vertex) (ms : List ℕ) → dimension s ≡ 2 → suc (length ms) ≡ 2
    → (crossed_in s record { low = v; masks = ms } ≡ true) ↔ OneAboveZero (value_at s v) (value_at s (plus v (last_mask 0 ms)))
unfolding last_mask
crossed_masks s v [] e h = absurd (omega arith)
crossed_masks s v (m ∷ []) e h = crossed_vertices s v m e
crossed_masks s v (l ∷ m ∷ ms) e h = absurd (omega arith)

-- ---- the theorems

-- a well-formed facet is crossed exactly if one value is above 0 and the other is 0 or below
pub crossed_plain :
    (s : List ℕ) (f : Facet) → dimension s ≡ 2 → facet_ok 2 f ≡ true
    → (crossed_in s f ≡ true) ↔ OneAboveZero (value_at s f.low) (value_at s (high_vertex f))
unfolding facet_ok
crossed_plain s f e ok =
    let one : suc (length f.masks) ≡ 2 =
    eqb-true (suc (length f.masks)) 2 (and_left (eqb (suc (length f.masks)) 2) (chain 2 0 f.masks) (and_right (eqb (length f.low) 2) (eqb (suc (length f.masks)) 2 && chain 2 0 f.masks) ok)) in
    crossed_masks s f.low f.masks e one

-- and Judge, where it refuses nothing, answers so, from the bytes: coordinates at 0 and 2, mask at 4
pub judged_plain :
    (s p : List ℕ) → dimension s ≡ 2 → judge_refusal s p ≡ 0
    → (judged s p ≡ answered true)
    ↔ OneAboveZero
    (value_at s (signed_word p 0 ∷ signed_word p 2 ∷ []))
    (value_at s (plus (signed_word p 0 ∷ signed_word p 2 ∷ []) (byte p 4)))
unfolding judged facet_of decode_place count_from
judged_plain s p e h =
    let v : Vertex = signed_word p 0 ∷ signed_word p 2 ∷ [] in
    let same : crossed_in s (facet_of s p) ≡ crossed_in s record { low = v; masks = byte p 4 ∷ [] } = ap (λ n. crossed_in s (decode_place n p).facet) e in (
      λ a. (crossed_vertices s v (byte p 4) e).0 (sym same ∙ (answered_inv (judge_refusal s p) (crossed_in s (facet_of s p)) true a).is),
      λ w. unless_answered (crossed_in s (facet_of s p)) h ∙ ap answered (same ∙ (crossed_vertices s v (byte p 4) e).1 w),
    )

-- one value is above 0 and the other is not exactly if that holds of their sums and the bias
one_above_bias : (b : ℕ) (x y : ℤ) → OneAboveZero (value_of b x) (value_of b y) ↔ OneAboveLevel b x y
one_above_bias b x y = (there, back)
  where
    there : OneAboveZero (value_of b x) (value_of b y) → OneAboveLevel b x y
    there (inl w) = inl ((value_above b x).0 w.0, (value_not_above b y).0 w.1)
    there (inr w) = inr ((value_above b y).0 w.0, (value_not_above b x).0 w.1)

    back : OneAboveLevel b x y → OneAboveZero (value_of b x) (value_of b y)
    back (inl w) = inl ((value_above b x).1 w.0, (value_not_above b y).1 w.1)
    back (inr w) = inr ((value_above b y).1 w.0, (value_not_above b x).1 w.1)

-- Judge by the sums: the bias moves the level from 0 up to itself, so the low side grows
pub judged_over_bias :
    (s p : List ℕ) → dimension s ≡ 2 → judge_refusal s p ≡ 0
    → (judged s p ≡ answered true)
    ↔ OneAboveLevel (bias s)
    (raw_sum (body s 1) (signed_word p 0 ∷ signed_word p 2 ∷ []))
    (raw_sum (body s 1) (plus (signed_word p 0 ∷ signed_word p 2 ∷ []) (byte p 4)))
judged_over_bias s p e h =
    let v : Vertex = signed_word p 0 ∷ signed_word p 2 ∷ [] in
    let sums = one_above_bias (bias s) (raw_sum (body s 1) v) (raw_sum (body s 1) (plus v (byte p 4))) in
    (λ a. sums.0 ((judged_plain s p e h).0 a), λ w. (judged_plain s p e h).1 (sums.1 w))
