-- The entries of the contents: what one turn of the loop over them says of all, and where the part that one names begins and what it holds.
use mathlib.Core.Path.{◌≡◌, sym, ap, ◌∙◌}
use mathlib.Core.Bool.{Bool, true, false}
use mathlib.Core.List.{List}
use Prim.Native.Nat.{ℕ, ◌+◌, ◌-◌, ◌≤◌, ◌<◌}
use native.Mathlib.Omega.{arith}
use lib.Dec.{eqb}
use lib.ListN.{length, take, drop}
use denote.Ref.{Bor}
use borrow.Author.Tests.{eq-eqb, ne_eqb}
use Rattle.paper.specs.Job.{entry_offset, entry_length, length_ok, entries_ok, contents_ok, contents_end, body}
use Rattle.paper.proofs.Bodies.{contents_long, contents_inside}
use Rattle.entries.specs.Parts.{PartInside, BeginsAt}
use Rattle.paper.proofs.RangeSteps.{left_one}

module _ (n : ℕ) (s : List ℕ) (k at e : ℕ) {full : Bool} (inv : full ≡ entries_ok n s (e - k) k at) where
  -- the entry is right: the rest is left
  pub entries_next : {l : ℕ} → k < e → entry_offset s k ≡ at → l ≡ entry_length s k → length_ok n k l ≡ true
      → full ≡ entries_ok n s (e - (k + 1)) (k + 1) (at + l)
  unfolding entries_ok
  entries_next u h w t = inv ∙ rw (left_one k e u, eq-eqb _ _ h, ← w, t)

  pub entries_misplaced : k < e → (entry_offset s k ≡ at → ⊥) → false ≡ full
  unfolding entries_ok
  entries_misplaced l h = sym (inv ∙ rw (left_one k e l, ne_eqb _ _ h))

  pub entries_wrong_length : {l : ℕ} → k < e → entry_offset s k ≡ at → l ≡ entry_length s k → length_ok n k l ≡ false → false ≡ full
  unfolding entries_ok
  entries_wrong_length u h w t = sym (inv ∙ rw (left_one k e u, eq-eqb _ _ h, ← w, t))

  -- no entry is left: the bodies end the job
  pub entries_end : e ≤ k → eqb at (length s) ≡ full
  unfolding entries_ok
  entries_end l = let none : e - k ≡ 0 = omega arith in sym (inv ∙ rw none)

-- contents that are right place each body inside the job
pub contents_part : (n : ℕ) (s : List ℕ) (k : ℕ) → contents_ok n s ≡ true → k ≤ n → PartInside s k
unfolding contents_end
contents_part n s k h l = record { entry = omega (arith, contents_long n s h); end = contents_inside n s k h l }

-- the bytes between a body's ends
pub part_is : (s : List ℕ) (k : ℕ) {at l : ℕ} → at ≡ entry_offset s k → l ≡ entry_length s k → take (at + l - at) (drop at s) ≡ body s k
unfolding body
part_is s k e f =
    let same : entry_offset s k + entry_length s k - entry_offset s k ≡ entry_length s k = omega arith in
    rw (e, f, same)

-- a part that begins at a number begins at whatever that number is
pub part_begins : (whole part : Bor (List ℕ)) {at offset : ℕ} → part.ref_ptr ≡ (whole.ref_ptr.0, at + whole.ref_ptr.1) → at ≡ offset
    → BeginsAt whole offset part
unfolding BeginsAt
part_begins whole part p e = p ∙ ap (λ (k : ℕ). (whole.ref_ptr.0, k + whole.ref_ptr.1)) e
