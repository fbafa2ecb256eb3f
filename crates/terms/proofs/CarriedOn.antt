-- What the pass carries on: nothing from a term that is turned down, and from any other the least weight of the next term.
use Rattle.std.proofs.Common.{◌≡◌, refl, sym, subst, ◌∙◌, Bool, true, false, ◌&&◌, List, ℕ, suc, zero, ◌+◌, ◌-◌, ◌≤◌, ◌<◌, arith, Some, None}
use lib.Dec.{leb}
use borrow.Author.Tests.{le-leb, lt-leb, ne_eqb}
use Rattle.exact.proofs.AndTests.{and_left}
use Rattle.paper.specs.Job.{term_ok, rises}
use Rattle.terms.specs.Carried.{short_weight, least_weight, CarriedTo, carried_on}
use Rattle.terms.proofs.SameTests.{leb_same}
use Rattle.terms.proofs.ShortWeight.{order_same}

-- a term within the limits rises over the one before it exactly if it reaches the least weight that was carried to it
rises_least : (n : ℕ) (b : List ℕ) (i : ℕ) {least : ℕ} → CarriedTo n b i least → term_ok n b i ≡ true → rises b i ≡ leb least (short_weight b i)
unfolding rises least_weight
rises_least n b zero {least} c h = sym (le-leb least (short_weight b 0) (omega (arith, c.is)))
rises_least n b (suc i) {least} c h =
    let last : suc i - 1 ≡ i = omega arith in
    rw (ne_eqb (suc i) 0 (λ z. omega arith), last)
    (order_same n b i (suc i) (subst (λ (k : ℕ). term_ok n b k ≡ true) last (c.before (omega arith))) h
    ∙ leb_same (suc (short_weight b i)) (short_weight b (suc i)) least (short_weight b (suc i)) (λ k. omega (arith, c.is)) (λ k. omega (arith, c.is)))

module _ (n : ℕ) (b : List ℕ) (i : ℕ) where
  -- ---- at the end of a term's tests

  -- a test of its limits fails
  pub carried_none : term_ok n b i ≡ false → None ≡ carried_on n b i
  unfolding carried_on
  carried_none h = rw h

  -- the last test, of the order
  module _ {least weight : ℕ} (c : CarriedTo n b i least) (h : term_ok n b i ≡ true) (f : weight ≡ short_weight b i) where
    order : (term_ok n b i && rises b i) ≡ leb least weight
    order = rw (h, rises_least n b i c h, f) refl

    pub carried_rises : least ≤ weight → Some (weight + 1) ≡ carried_on n b i
    unfolding carried_on least_weight
    carried_rises l = rw (order ∙ le-leb _ _ l, f)

    pub carried_falls : weight < least → None ≡ carried_on n b i
    unfolding carried_on
    carried_falls l = rw (order ∙ lt-leb _ _ l)

  -- ---- in the loop

  -- nothing is carried on: the term is turned down
  pub carried_stops : None ≡ carried_on n b i → (term_ok n b i && rises b i) ≡ false
  unfolding carried_on
  carried_stops h = go (term_ok n b i && rises b i) refl
    where
      go : (p : Bool) → (term_ok n b i && rises b i) ≡ p → (term_ok n b i && rises b i) ≡ false
      go true e = let k = rw e at h in cc
      go false e = e

  -- something is: the term passes, and it is the next one's least weight
  pub carried_passes : {next : ℕ} → Some next ≡ carried_on n b i → (term_ok n b i && rises b i) ≡ true
  unfolding carried_on
  carried_passes h = go (term_ok n b i && rises b i) refl
    where
      go : (p : Bool) → (term_ok n b i && rises b i) ≡ p → (term_ok n b i && rises b i) ≡ true
      go true e = e
      go false e = let k = rw e at h in cc

  pub carried_next : {next : ℕ} → Some next ≡ carried_on n b i → CarriedTo n b (i + 1) next
  unfolding carried_on
  carried_next {next} h =
      let passes = carried_passes h in
      let same : suc i ≡ i + 1 = omega arith in
      let last : i ≡ i + 1 - 1 = omega arith in
      let is : Some next ≡ Some (least_weight b (suc i)) = rw passes at h in
      record {
        is = rw (← same) (cc);
        before = λ p. subst (λ (k : ℕ). term_ok n b k ≡ true) last (and_left (term_ok n b i) (rises b i) passes);
      }

-- nothing is carried to the first term
pub carried_first : (n : ℕ) (b : List ℕ) → CarriedTo n b 0 0
unfolding least_weight
carried_first n b = record { is = refl; before = λ p. absurd (omega arith) }
