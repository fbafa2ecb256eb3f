-- The line of a seam, put together from the parts that the functions write.
use Rattle.std.proofs.Common.{◌≡◌, ℕ, zero, suc, ◌-◌, ◌≤◌, ◌<◌, List, [], ◌∷◌, ◌++◌, map, length, take, drop, get_or, append_assoc, ℤ, pos, sym, ap, ◌∙◌, arith}
use mir.Syntax.{w64}
use mir.Val.{SFits}
use Rattle.exact.specs.Int.{0ℤ}
use Rattle.exact.proofs.Bits.{back}
use Rattle.curves.specs.Walk.{Verdict}
use Rattle.curves.specs.Step.{Stop}
use Rattle.paper.specs.Listing.{decimal, signed_decimal, blank_numbers, verdict_word, first_line, place_numbers}
use Rattle.paper.specs.declared.HeldPlace.{HeldPlace}
use Rattle.paper.proofs.Decimal.{blank_append}
use Rattle.bits.proofs.SignedBits.{bits_are}
use Rattle.places.specs.Held.{vertex_as, masks_as, facet_as, place_as}
use Rattle.seamlist.specs.SeamText.{numbers_text, curve_line}

-- the first number and those behind it
first_taken : (n : ℕ) (v : List ℤ) → 1 ≤ n → 0 < length v → get_or v 0 0ℤ ∷ take (n - 1) (drop 1 v) ≡ take n v
first_taken zero v h l = absurd (omega arith)
first_taken (suc m) [] h l = absurd (omega arith)
first_taken (suc m) (x ∷ v) h l = ap (λ k. x ∷ take k v) (omega arith)

module _ (n : ℕ) (p : HeldPlace) (v : Verdict Stop) (count : ℕ) where
  abbrev x : ℤ
  x = get_or p.low.coordinates 0 0ℤ

  curve_parts : (later masks : List ℤ) → x ∷ (later ++ (masks ++ (pos p.side ∷ []))) ≡ place_numbers (facet_as n p) (pos p.side ∷ [])
      → signed_decimal x ++ (blank_numbers later ++ (blank_numbers masks ++ ((32 ∷ []) ++ first_line p.side v count))) ≡ curve_line (place_as n p) v count
  unfolding curve_line numbers_text first_line place_as blank_numbers signed_decimal
  curve_parts later masks e =
      let end : List ℕ = 32 ∷ (verdict_word v ++ (32 ∷ (decimal count ++ (10 ∷ [])))) in
      let side : List ℤ = pos p.side ∷ [] in
      sym
      (ap (λ (t : List ℕ). (signed_decimal x ++ t) ++ end)
      (blank_append later (masks ++ side) ∙ ap (λ (t : List ℕ). blank_numbers later ++ t) (blank_append masks side))
      ∙ simp append_assoc)
      ∙ ap (λ (u : List ℤ). numbers_text u ++ end) e

  -- the first number as the code hands it over
  pub curve_text : 1 ≤ n → 0 < length p.low.coordinates → SFits w64 x
      → signed_decimal (back x)
      ++ (blank_numbers (take (n - 1) (drop 1 p.low.coordinates)) ++ (blank_numbers (map pos (take (n - 1) p.masks)) ++ ((32 ∷ []) ++ first_line p.side v count)))
      ≡ curve_line (place_as n p) v count
  unfolding place_numbers facet_as vertex_as masks_as
  curve_text l h f =
      let later : List ℤ = take (n - 1) (drop 1 p.low.coordinates) in
      let masks : List ℤ = map pos (take (n - 1) p.masks) in
      ap (λ (z : ℤ). signed_decimal z ++ (blank_numbers later ++ (blank_numbers masks ++ ((32 ∷ []) ++ first_line p.side v count)))) (bits_are f)
      ∙ curve_parts later masks (ap (λ (u : List ℤ). u ++ (masks ++ (pos p.side ∷ []))) (first_taken n p.low.coordinates l h))
