-- The parts of a line as the functions write them, and the lines of document 01 put together from them.
use Rattle.std.proofs.Common.{ℕ, zero, suc, ◌+◌, ◌-◌, ◌≤◌, ◌<◌, ◌≡◌, sym, ap, ◌∙◌, arith, List, [], ◌∷◌, ◌++◌, map, length, take, drop, get_or, append-nil, append_assoc, ℤ, pos}
use Rattle.std.proofs.lemmas.List.{take_more, map-append}
use mir.Syntax.{w64}
use mir.Val.{SFits}
use Rattle.exact.specs.Int.{0ℤ}
use Rattle.exact.proofs.Bits.{back}
use Rattle.paper.specs.Listing.{decimal, signed_decimal, blank_numbers, number_line, place_numbers, place_line}
use Rattle.paper.proofs.Decimal.{blank_append}
use Rattle.paper.specs.declared.HeldPlace.{HeldPlace}
use Rattle.bits.proofs.SignedBits.{bits_are}
use Rattle.places.specs.Held.{vertex_as, masks_as, facet_as}

-- ---- a blank and a number

pub blank_number : (z : ℤ) → 32 ∷ signed_decimal z ≡ blank_numbers (z ∷ [])
unfolding blank_numbers
blank_number z = ap (λ (l : List ℕ). 32 ∷ l) (sym (append-nil (signed_decimal z)))

pub blank_mask : (m : ℕ) → 32 ∷ decimal m ≡ blank_numbers (pos m ∷ [])
unfolding signed_decimal
blank_mask m = blank_number (pos m)

-- ---- one more of a list

pub one_more : (v : List ℤ) (i : ℕ) → SFits w64 (get_or v i 0ℤ) → i < length v
    → blank_numbers (take i v) ++ blank_numbers (back (get_or v i 0ℤ) ∷ []) ≡ blank_numbers (take (i + 1) v)
one_more v i f h =
    ap (λ (z : ℤ). blank_numbers (take i v) ++ blank_numbers (z ∷ [])) (bits_are f)
    ∙ sym (blank_append (take i v) (get_or v i 0ℤ ∷ []))
    ∙ ap blank_numbers (sym (take_more v i 0ℤ h))

pub one_mask_more : (l : List ℕ) (i : ℕ) → i < length l
    → blank_numbers (map pos (take i l)) ++ blank_numbers (pos (get_or l i 0) ∷ []) ≡ blank_numbers (map pos (take (i + 1) l))
one_mask_more l i h =
    sym (blank_append (map pos (take i l)) (pos (get_or l i 0) ∷ []))
    ∙ ap blank_numbers (sym (map-append pos (take i l) (get_or l i 0 ∷ [])) ∙ ap (map pos) (sym (take_more l i 0 h)))

-- ---- a place's line

-- the first number and those behind it
first_taken : (n : ℕ) (v : List ℤ) → 1 ≤ n → 0 < length v → get_or v 0 0ℤ ∷ take (n - 1) (drop 1 v) ≡ take n v
first_taken zero v h l = absurd (omega arith)
first_taken (suc m) [] h l = absurd (omega arith)
first_taken (suc m) (x ∷ v) h l = ap (λ k. x ∷ take k v) (omega arith)

-- numbers in four parts
pub line_parts : (x : ℤ) (v m q : List ℤ)
    → signed_decimal x ++ (blank_numbers v ++ (blank_numbers m ++ (blank_numbers q ++ (10 ∷ [])))) ≡ number_line (x ∷ (v ++ (m ++ q)))
unfolding number_line
line_parts x v m q =
    ap (λ (t : List ℕ). signed_decimal x ++ t)
    (sym
    (ap (λ (t : List ℕ). t ++ (10 ∷ []))
    (blank_append v (m ++ q) ∙ ap (λ (t : List ℕ). blank_numbers v ++ t) (blank_append m q))
    ∙ simp append_assoc))

-- the first number as the code hands it over
pub place_text : (n : ℕ) (p : HeldPlace) (point : List ℤ) → 1 ≤ n → 0 < length p.low.coordinates → SFits w64 (get_or p.low.coordinates 0 0ℤ)
    → signed_decimal (back (get_or p.low.coordinates 0 0ℤ))
    ++ (blank_numbers (take (n - 1) (drop 1 p.low.coordinates)) ++ (blank_numbers (map pos (take (n - 1) p.masks)) ++ (blank_numbers point ++ (10 ∷ []))))
    ≡ place_line (facet_as n p) point
unfolding place_line place_numbers facet_as vertex_as masks_as
place_text n p point l h f =
    let later : List ℤ = take (n - 1) (drop 1 p.low.coordinates) in
    let masks : List ℤ = map pos (take (n - 1) p.masks) in
    ap (λ (z : ℤ). signed_decimal z ++ (blank_numbers later ++ (blank_numbers masks ++ (blank_numbers point ++ (10 ∷ []))))) (bits_are f)
    ∙ line_parts (get_or p.low.coordinates 0 0ℤ) later masks point
    ∙ ap (λ (v : List ℤ). number_line (v ++ (masks ++ point))) (first_taken n p.low.coordinates l h)
