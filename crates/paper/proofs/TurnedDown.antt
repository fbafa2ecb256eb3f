-- The term check: a polynomial's body is turned down exactly if some term of its list breaks a limit or does not rise over the one before it, and Open
-- answers 7 exactly if its tests 1 to 6 refuse nothing and a polynomial has such a term.
use mathlib.Core.Path.{◌≡◌, refl, sym, ap, subst, ◌∙◌}
use mathlib.Core.Logic.{◌≢◌, ◌↔◌}
use mathlib.Core.Bool.{Bool, true, false, not, ◌&&◌, true≢false}
use mathlib.Core.List.{List}
use mathlib.Core.Option.{none, some, some-injective, none-ne-some}
use Prim.Native.Nat.{ℕ, suc, zero, ◌+◌, ◌-◌, ◌≤◌, ◌<◌}
use native.Mathlib.Omega.{arith}
use lib.Dec.{leb, ltb, eqb, lit<}
use lib.IntN.{nat_abs}
use lib.ListN.{length, get_elem?}
use borrow.Author.Tests.{ltb-true, ltb-false, leb-false, eqb-true, eqb-false, not-false, le-ltb, eq-eqb}
use Rattle.exact.proofs.AndTests.{and_left}
use Rattle.exact.proofs.CountFrom.{get_d_map_count_from, get_d_past_count_from, get_elem_map_count_from, get_elem_past_count_from}
use Rattle.exact.proofs.SizeLaws.{nat_abs_zero}
use Rattle.paper.specs.Bytes.{byte}
use Rattle.paper.specs.Limits.{coefficient_limit, degree_limit}
use Rattle.paper.specs.Job.{dimension, body, all_from, term_count, coefficient_of, exponent_of, exponents_zero, degree, term_ok, exponent_weight, rises, polynomial_ok, refuse_if, open_refusal}
use Rattle.paper.specs.RunningSum.{Term, term_of, terms_of}
use Rattle.paper.specs.BadTerm.{exponent_at, BreaksLimit, zero_coefficient, large_coefficient, upper_exponent, large_sum, RisesOver, BadTerm, breaks, not_rising, JobWithBadTerm}
use Rattle.paper.proofs.Tests.{Failing, all_failing, all_fails_at}
use Rattle.paper.proofs.Refusals.{refuse_here, refuse_later, answered_later}
use Rattle.paper.proofs.Terms.{TermRange, term_range, polynomial_term, exponent_limit, terms_rise}
use Rattle.paper.proofs.SumFromTop.{exponents_sum}

-- ---- the exponents of a body's term

module _ (b : List ℕ) (i : ℕ) where
  exponent_at_lem : (a : ℕ) → a < 4 → exponent_at (term_of b i) a ≡ exponent_of b i a
  unfolding exponent_at term_of
  exponent_at_lem a h = let same : 0 + a ≡ a = omega arith in get_d_map_count_from (exponent_of b i) 0 0 4 a h ∙ ap (exponent_of b i) same

  exponent_past : (a : ℕ) → 4 ≤ a → exponent_at (term_of b i) a ≡ 0
  unfolding exponent_at term_of
  exponent_past a h = get_d_past_count_from (exponent_of b i) 0 0 4 a h

-- ---- limits

module _ (n : ℕ) (b : List ℕ) (i : ℕ) where
  -- a term that passes the test breaks no limit
  within_limits : TermRange n b i → BreaksLimit n (term_of b i) → ⊥
  within_limits r (zero_coefficient h) = unfold term_of in r.nonzero (ap nat_abs h)
  within_limits r (large_coefficient h) = unfold term_of in omega (arith, r.size)
  within_limits r (upper_exponent a l h) = h (go (ltb a 4) refl)
    where
      go : (t : Bool) → ltb a 4 ≡ t → exponent_at (term_of b i) a ≡ 0
      go true e = exponent_at_lem b i a (ltb-true a 4 e) ∙ r.above a l (ltb-true a 4 e)
      go false e = exponent_past b i a (ltb-false a 4 e)
  within_limits r (large_sum h) = omega (arith, exponents_sum b i, r.sum)

  -- and one that does not pass it breaks one
  breaks_limit : term_ok n b i ≡ false → BreaksLimit n (term_of b i)
  unfolding term_ok exponents_zero term_of
  breaks_limit h = go (eqb (nat_abs (coefficient_of b i)) 0) (leb (nat_abs (coefficient_of b i)) coefficient_limit) (exponents_zero b i n (4 - n)) refl refl refl
    where
      go : (z l u : Bool) → eqb (nat_abs (coefficient_of b i)) 0 ≡ z → leb (nat_abs (coefficient_of b i)) coefficient_limit ≡ l
          → exponents_zero b i n (4 - n) ≡ u → BreaksLimit n (term_of b i)
      go true l u e f g = zero_coefficient (nat_abs_zero (coefficient_of b i) (eqb-true _ _ e))
      go false false u e f g = large_coefficient (leb-false _ _ f)
      go false true false e f g =
          let x = all_failing (λ k. eqb (exponent_of b i k) 0) n (4 - n) g in
          upper_exponent x.at x.from (λ z. eqb-false _ _ x.fails (sym (exponent_at_lem b i x.at (omega (arith, x.under, x.from))) ∙ z))
      go false true true e f g =
          let d : leb (degree b i) degree_limit ≡ false = rw (e, f, g) at h in
          large_sum (omega (arith, exponents_sum b i, leb-false (degree b i) degree_limit d))

-- ---- order

-- two terms whose exponents are bytes: their weights rise exactly if the terms do
module _ (b : List ℕ) (i j : ℕ) (low : (a : ℕ) → a < 4 → exponent_of b i a < 256) (high : (a : ℕ) → a < 4 → exponent_of b j a < 256) where
  weight_rises : RisesOver (term_of b i) (term_of b j) → exponent_weight b i < exponent_weight b j
  weight_rises r = go r.axis r.same r.larger
    where
      same : {k : ℕ} → ((a : ℕ) → a < k → exponent_at (term_of b i) a ≡ exponent_at (term_of b j) a) → (a : ℕ) → a < 4 → a < k
          → exponent_of b i a ≡ exponent_of b j a
      same s a l u = sym (exponent_at_lem b i a l) ∙ s a u ∙ exponent_at_lem b j a l

      larger : (k : ℕ) → k < 4 → exponent_at (term_of b i) k < exponent_at (term_of b j) k → exponent_of b i k < exponent_of b j k
      larger k l h = omega (arith, exponent_at_lem b i k l, exponent_at_lem b j k l)

      go : (k : ℕ) → ((a : ℕ) → a < k → exponent_at (term_of b i) a ≡ exponent_at (term_of b j) a)
          → exponent_at (term_of b i) k < exponent_at (term_of b j) k → exponent_weight b i < exponent_weight b j
      go zero s h = unfold exponent_weight in
          omega (arith, larger 0 (lit< tt) h, low 1 (lit< tt), low 2 (lit< tt), low 3 (lit< tt))
      go (suc zero) s h = unfold exponent_weight in
          omega (arith, same s 0 (lit< tt) (lit< tt), larger 1 (lit< tt) h, low 2 (lit< tt), low 3 (lit< tt))
      go (suc (suc zero)) s h = unfold exponent_weight in
          omega (arith, same s 0 (lit< tt) (lit< tt), same s 1 (lit< tt) (lit< tt), larger 2 (lit< tt) h, low 3 (lit< tt))
      go (suc (suc (suc zero))) s h = unfold exponent_weight in
          omega (arith, same s 0 (lit< tt) (lit< tt), same s 1 (lit< tt) (lit< tt), same s 2 (lit< tt) (lit< tt), larger 3 (lit< tt) h)
      go (suc (suc (suc (suc k)))) s h =
          absurd (omega (arith, exponent_past b i (suc (suc (suc (suc k)))) (omega arith), exponent_past b j (suc (suc (suc (suc k)))) (omega arith)))

  -- the first axis on which the exponents differ is the one that decides
  rises_by_weight : exponent_weight b i < exponent_weight b j → RisesOver (term_of b i) (term_of b j)
  rises_by_weight h =
      go (eqb (exponent_of b i 0) (exponent_of b j 0)) (eqb (exponent_of b i 1) (exponent_of b j 1)) (eqb (exponent_of b i 2) (exponent_of b j 2)) refl refl refl
    where
      rises_on : (k : ℕ) → k < 4 → ((a : ℕ) → a < k → exponent_of b i a ≡ exponent_of b j a) → exponent_of b i k < exponent_of b j k
          → RisesOver (term_of b i) (term_of b j)
      rises_on k l s g =
          record {
            axis = k;
            same = λ a u. exponent_at_lem b i a (omega arith) ∙ s a u ∙ sym (exponent_at_lem b j a (omega arith));
            larger = omega (arith, exponent_at_lem b i k l, exponent_at_lem b j k l);
          }

      equal : (a : ℕ) → eqb (exponent_of b i a) (exponent_of b j a) ≡ true → exponent_of b i a ≡ exponent_of b j a
      equal a = eqb-true (exponent_of b i a) (exponent_of b j a)

      differ : (a : ℕ) → eqb (exponent_of b i a) (exponent_of b j a) ≡ false → exponent_of b i a ≢ exponent_of b j a
      differ a = eqb-false (exponent_of b i a) (exponent_of b j a)

      none : (a : ℕ) → a < 0 → exponent_of b i a ≡ exponent_of b j a
      none a u = absurd (omega arith)

      -- equal on the axes under k and on axis k
      more : (k : ℕ) → ((a : ℕ) → a < k → exponent_of b i a ≡ exponent_of b j a) → exponent_of b i k ≡ exponent_of b j k → (a : ℕ) → a < suc k
          → exponent_of b i a ≡ exponent_of b j a
      more k s e a u = last (eqb k a) refl
        where
          last : (t : Bool) → eqb k a ≡ t → exponent_of b i a ≡ exponent_of b j a
          last true f = subst (λ (x : ℕ). exponent_of b i x ≡ exponent_of b j x) (eqb-true k a f) e
          last false f = s a (omega (arith, eqb-false k a f))

      go : (p q r : Bool) → eqb (exponent_of b i 0) (exponent_of b j 0) ≡ p → eqb (exponent_of b i 1) (exponent_of b j 1) ≡ q
          → eqb (exponent_of b i 2) (exponent_of b j 2) ≡ r → RisesOver (term_of b i) (term_of b j)
      go false q r x y z = unfold exponent_weight in
          rises_on 0 (lit< tt) none (omega (arith, h, differ 0 x, high 1 (lit< tt), high 2 (lit< tt), high 3 (lit< tt)))
      go true false r x y z = unfold exponent_weight in
          rises_on 1 (lit< tt) (more 0 none (equal 0 x)) (omega (arith, h, equal 0 x, differ 1 y, high 2 (lit< tt), high 3 (lit< tt)))
      go true true false x y z = unfold exponent_weight in
          rises_on 2 (lit< tt) (more 1 (more 0 none (equal 0 x)) (equal 1 y)) (omega (arith, h, equal 0 x, equal 1 y, differ 2 z, high 3 (lit< tt)))
      go true true true x y z = unfold exponent_weight in
          rises_on 3 (lit< tt) (more 2 (more 1 (more 0 none (equal 0 x)) (equal 1 y)) (equal 2 z)) (omega (arith, h, equal 0 x, equal 1 y, equal 2 z))

-- ---- the list of a body's terms

module _ (b : List ℕ) (i : ℕ) where
  term_there : i < term_count b → get_elem? (terms_of b) i ≡ some (term_of b i)
  unfolding terms_of
  term_there h = let same : 0 + i ≡ i = omega arith in get_elem_map_count_from (term_of b) 0 (term_count b) i h ∙ ap (λ (x : ℕ). some (term_of b x)) same

  -- what stands at place i of the list is term i of the body
  term_known : (t : Term) → get_elem? (terms_of b) i ≡ some t → (i < term_count b) × (term_of b i ≡ t)
  term_known t h = go (ltb i (term_count b)) refl
    where
      go : (u : Bool) → ltb i (term_count b) ≡ u → (i < term_count b) × (term_of b i ≡ t)
      go true e = let l = ltb-true i (term_count b) e in (l, some-injective (term_of b i) t (sym (term_there l) ∙ h))
      go false e = unfold terms_of in
          absurd (none-ne-some t (sym (get_elem_past_count_from (term_of b) 0 (term_count b) i (ltb-false i (term_count b) e)) ∙ h))

-- ---- the theorem

module _ (n : ℕ) (b : List ℕ) where
  -- an exponent of a term within the limits is a byte
  exponent_byte : {i : ℕ} → TermRange n b i → (a : ℕ) → a < 4 → exponent_of b i a < 256
  unfolding degree_limit
  exponent_byte r a l = omega (arith, exponent_limit r a l)

  -- the first term that does not pass is a bad one
  first_is_bad : polynomial_ok n b ≡ false → (i : ℕ) × BadTerm n (terms_of b) i
  unfolding polynomial_ok
  first_is_bad h = (first.at, go (term_ok n b first.at) (eqb first.at 0) refl refl)
    where
      first : Failing (λ k. term_ok n b k && rises b k) 0 (term_count b)
      first = all_failing (λ k. term_ok n b k && rises b k) 0 (term_count b) h

      there : first.at < term_count b
      there = omega (arith, first.under)

      -- if it passes its own test, it does not rise
      not_rises : term_ok n b first.at ≡ true → rises b first.at ≡ false
      not_rises e = rw e at first.fails

      go : (p q : Bool) → term_ok n b first.at ≡ p → eqb first.at 0 ≡ q → BadTerm n (terms_of b) first.at
      go false q e f = breaks (term_of b first.at) (term_there b first.at there) (breaks_limit n b first.at e)
      go true true e f = unfold rises in absurd (true≢false (rw f at (not_rises e)))
      go true false e f = unfold rises in
          let i : ℕ = first.at in
          let more : 0 < i = omega (arith, eqb-false i 0 f) in
          let before = term_range n b (i - 1) (and_left (term_ok n b (i - 1)) (rises b (i - 1)) (first.earlier (i - 1) (omega arith) (omega arith))) in
          let weights : exponent_weight b i ≤ exponent_weight b (i - 1) = ltb-false _ _ (rw f at (not_rises e)) in
          not_rising (term_of b (i - 1)) (term_of b i) (omega (arith, more)) (term_there b (i - 1) (omega (arith, there))) (term_there b i there)
          (λ r. omega (arith, weights, weight_rises b (i - 1) i (exponent_byte before) (exponent_byte (term_range n b i e)) r))

  no_bad_term : polynomial_ok n b ≡ true → (i : ℕ) → BadTerm n (terms_of b) i → ⊥
  no_bad_term h i (breaks t e x) =
      let k = term_known b i t e in
      within_limits n b i (polynomial_term n b h i k.0) (subst (BreaksLimit n) (sym k.1) x)
  no_bad_term h i (not_rising s t p d e x) =
      let before = term_known b (i - 1) s d in
      let here = term_known b i t e in
      x (subst (λ y. RisesOver y t) before.1 (subst (RisesOver (term_of b (i - 1))) here.1
      (rises_by_weight b (i - 1) i (exponent_byte (polynomial_term n b h (i - 1) before.0)) (exponent_byte (polynomial_term n b h i here.0))
      (terms_rise n b h i (omega (arith, p)) here.0))))

  -- a body is turned down exactly if some term breaks a limit or does not rise over the one before it
  pub turned_down : (polynomial_ok n b ≡ false) ↔ ((i : ℕ) × BadTerm n (terms_of b) i)
  turned_down = (first_is_bad, λ x. go (polynomial_ok n b) refl x)
    where
      go : (p : Bool) → polynomial_ok n b ≡ p → (i : ℕ) × BadTerm n (terms_of b) i → polynomial_ok n b ≡ false
      go true e x = absurd (no_bad_term e x.0 x.1)
      go false e x = e

-- ---- Open

-- the test of the terms answers it, and no later one
terms_fail : (t later : Bool) → refuse_if (not t) 7 (refuse_if later 8 0) ≡ 7 → t ≡ false
unfolding refuse_if
terms_fail false later h = refl
terms_fail true false h = absurd (omega arith)
terms_fail true true h = absurd (omega arith)

-- 7 is the answer exactly if the tests before it refuse nothing and some polynomial has a bad term
pub refusal_7 : (s : List ℕ) → (open_refusal s ≡ 7) ↔ JobWithBadTerm s
refusal_7 s = (answered_7, answer_7)
  where
    answered_7 : open_refusal s ≡ 7 → JobWithBadTerm s
    answered_7 h = unfold open_refusal in
        let r1 = answered_later _ 1 _ (λ z. omega arith) h in
        let r2 = answered_later _ 2 _ (λ z. omega arith) r1.next in
        let r3 = answered_later _ 3 _ (λ z. omega arith) r2.next in
        let r4 = answered_later _ 4 _ (λ z. omega arith) r3.next in
        let r5 = answered_later _ 5 _ (λ z. omega arith) r4.next in
        let r6 = answered_later _ 6 _ (λ z. omega arith) r5.next in
        let fails = terms_fail (all_from (λ k. polynomial_ok (dimension s) (body s k)) 1 (dimension s - 1)) _ r6.next in
        let x = all_failing (λ k. polynomial_ok (dimension s) (body s k)) 1 (dimension s - 1) fails in
        let bad = (turned_down (dimension s) (body s x.at)).0 x.fails in
        record {
          long = ltb-false _ _ r1.test;
          mark = eqb-true _ _ (not-false _ r2.test);
          dimensions = not-false _ r3.test;
          entries = eqb-true _ _ (not-false _ r4.test);
          contents = not-false _ r5.test;
          box = not-false _ r6.test;
          polynomial = x.at;
          first = omega (arith, x.from);
          last = omega (arith, x.from, x.under);
          term = bad.0;
          bad = bad.1;
        }

    answer_7 : JobWithBadTerm s → open_refusal s ≡ 7
    answer_7 j = unfold open_refusal in
        let fails = (turned_down (dimension s) (body s j.polynomial)).1 (j.term, j.bad) in
        refuse_later 1 _ (le-ltb (length s) 4 j.long)
        ∙ (refuse_later 2 _ (ap not (eq-eqb (byte s 0) 1 j.mark))
        ∙ (refuse_later 3 _ (ap not j.dimensions)
        ∙ (refuse_later 4 _ (ap not (eq-eqb (byte s 2) (dimension s + 1) j.entries))
        ∙ (refuse_later 5 _ (ap not j.contents)
        ∙ (refuse_later 6 _ (ap not j.box)
        ∙ refuse_here 7 _ (ap not (all_fails_at (λ k. polynomial_ok (dimension s) (body s k)) 1 (dimension s - 1) j.polynomial (omega (arith, j.first)) (omega (arith, j.last)) fails)))))))
