-- The reader reads exactly the texts of the grammar: a text has one reading, the texts with none are those outside the language, and a text with one
-- is refused by a limit exactly if it nests deeper.
use Prim.Native.Nat.{ℕ, ◌+◌, ◌<◌}
use mathlib.Core.Path.{◌≡◌, refl, sym, ap, ◌∙◌}
use mathlib.Core.Logic.{◌↔◌}
use mathlib.Core.Bool.{Bool, true, false, true≢false, false≢true}
use mathlib.Core.List.{List}
use native.Mathlib.Omega.{arith}
use lib.Dec.{leb}
use lib.ListN.{length}
use borrow.Author.Tests.{leb-true, leb-false}
use Rattle.formula.specs.Grammar.{Formula, nesting, sum, Text}
use Rattle.formula.specs.Reader.{Reading, outside, reads, reading_of}
use Rattle.formula.specs.Read.{is_read, in_language}
use Rattle.formula.proofs.Nesting.{nesting_short}
use Rattle.formula.proofs.Complete.{formula_read}
use Rattle.formula.proofs.Sound.{reads_one, outside_reads_none, read_formula, read_nesting}

-- a text has one reading
pub one_reading : {n : ℕ} {f g : Formula} {s : List ℕ} → Text n sum f s → Text n sum g s → f ≡ g
one_reading {f = f} {g} x y =
    let limit = nesting f + nesting g in
    reads_one (sym (formula_read limit x (omega arith)) ∙ formula_read limit y (omega arith))

-- ---- inside the language and outside it, at any depth

-- a text of the language: its reading
pub record Inside (n : ℕ) (s : List ℕ) : Type 0 where
  pub formula : Formula
  pub text : Text n sum formula s

text_inside : {n : ℕ} {f : Formula} {s : List ℕ} → Text n sum f s → in_language n s ≡ true
unfolding in_language is_read
text_inside {s = s} x = ap is_read (formula_read (length s) x (nesting_short x))

inside_text : (n : ℕ) (s : List ℕ) → in_language n s ≡ true → Inside n s
unfolding in_language is_read
inside_text n s h = go (reading_of (length s) n s) refl
  where
    go : (r : Reading) → reading_of (length s) n s ≡ r → Inside n s
    go outside e = absurd (false≢true (sym (ap is_read e) ∙ h))
    go (reads f) e = record { formula = f; text = read_formula (length s) n s e }

pub inside_exactly : (n : ℕ) (s : List ℕ) → (in_language n s ≡ true) ↔ Inside n s
inside_exactly n s = (inside_text n s, λ i. text_inside i.text)

pub outside_exactly : (n : ℕ) (s : List ℕ) → (in_language n s ≡ false) ↔ ((f : Formula) → Text n sum f s → ⊥)
outside_exactly n s = (λ h f x. true≢false (sym (text_inside x) ∙ h), λ h. go h (in_language n s) refl)
  where
    go : ((f : Formula) → Text n sum f s → ⊥) → (b : Bool) → in_language n s ≡ b → in_language n s ≡ false
    go h false e = e
    go h true e = let i = inside_text n s e in absurd (h i.formula i.text)

-- ---- too deep

pub too_deep_exactly :
    {n : ℕ} {f : Formula} {s : List ℕ} (limit : ℕ) → Text n sum f s → (reading_of limit n s ≡ outside) ↔ (limit < nesting f)
too_deep_exactly {n} {f} {s} limit x = (deep, λ h. go h (reading_of limit n s) refl)
  where
    deep : reading_of limit n s ≡ outside → limit < nesting f
    deep h = within (leb (nesting f) limit) refl
      where
        within : (b : Bool) → leb (nesting f) limit ≡ b → limit < nesting f
        within false e = leb-false (nesting f) limit e
        within true e = absurd (outside_reads_none (sym h ∙ formula_read limit x (leb-true (nesting f) limit e)))

    go : limit < nesting f → (r : Reading) → reading_of limit n s ≡ r → reading_of limit n s ≡ outside
    go h outside e = e
    go h (reads g) e =
        let same = ap nesting (one_reading (read_formula limit n s e) x) in
        let shallow = read_nesting limit n s e in
        absurd (omega arith)
