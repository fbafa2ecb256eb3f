-- From formula to Open: a job that is written from answers as its polynomials is not refused for them.
use Prim.Native.Nat.{ℕ, ◌+◌, ◌*◌, ◌-◌, ◌≤◌, ◌<◌}
use native.Mathlib.Omega.{arith}
use mathlib.Core.Path.{◌≡◌, refl, sym, ap, ◌∙◌}
use mathlib.Core.Bool.{Bool, true, false, not}
use mathlib.Core.List.{List}
use lib.ListN.{length}
use lib.Dec.{eqb}
use borrow.Author.Tests.{eqb-true, eqb-false, eq-eqb, ne_eqb}
use Rattle.curves.specs.Grid.{place_ok}
use Rattle.paper.specs.Limits.{dimension_ok}
use Rattle.paper.specs.Job.{polynomial_ok, length_ok, box_ok, all_from, decode_place, open_refusal}
use Rattle.paper.proofs.Tests.{all_from_lem, dimension_range}
use Rattle.paper.proofs.Refusals.{answered_later, refuse_later}
use Rattle.assembly.specs.Assembled.{Loose, body_of, assembled}
use Rattle.assembly.specs.LooseRefusal.{lengths_ok, form_refusal, loose_refusal}
use Rattle.assembly.proofs.OpensTo.{opens_to}
use Rattle.formula.specs.FormulaDemand.{FormulaDemand, FromFormula}
use Rattle.formula.proofs.FormulaDemand.{formula_demand}

-- ---- bodies f 0 to f n, of which those between are answers

module _ (n : ℕ) (f : ℕ → List ℕ) (d : dimension_ok n ≡ true) (typed : (k : ℕ) → 0 < k → k < n → FromFormula n (f k)) where
  body_demand : (k : ℕ) (l : 0 < k) (u : k < n) → FormulaDemand n (typed k l u).source (f k)
  body_demand k l u = formula_demand n (typed k l u).source (f k) (typed k l u).answer

  polynomials_ok : all_from (λ k. polynomial_ok n (f k)) 1 (n - 1) ≡ true
  polynomials_ok = all_from_lem (λ k. polynomial_ok n (f k)) 1 (n - 1) (λ k l u. (body_demand k (omega arith) (omega arith)).body_terms)

  loose_not_7 : loose_refusal n f ≡ 7 → ⊥
  unfolding loose_refusal form_refusal
  loose_not_7 h =
      let r3 = answered_later _ 3 _ (λ z. omega arith) h in
      let r5 = answered_later _ 5 _ (λ z. omega arith) r3.next in
      let r6 = answered_later _ 6 _ (λ z. omega arith) r5.next in
      let r8 = answered_later _ 8 0 (λ z. omega arith) (sym (refuse_later 7 _ (ap not polynomials_ok)) ∙ r6.next) in
      omega (arith, r8.next)

  module _ (box : length (f 0) ≡ 4 * n) (start : length (f n) ≡ 3 * n) where
    length_ok_lem : (k : ℕ) → k ≤ n → length_ok n k (length (f k)) ≡ true
    unfolding length_ok
    length_ok_lem k u = go (eqb k 0) (eqb k n) refl refl
      where
        go : (x y : Bool) → eqb k 0 ≡ x → eqb k n ≡ y → length_ok n k (length (f k)) ≡ true
        go true y p q = rw p (eq-eqb (length (f k)) (4 * n) (ap (λ j. length (f j)) (eqb-true k 0 p) ∙ box))
        go false true p q = rw (p, q) (eq-eqb (length (f k)) (3 * n) (ap (λ j. length (f j)) (eqb-true k n q) ∙ start))
        go false false p q = rw (p, q) (body_demand k (omega (arith, eqb-false k 0 p)) (omega (arith, eqb-false k n q))).body_length

    lengths_ok_lem : lengths_ok n f ≡ true
    unfolding lengths_ok
    lengths_ok_lem = all_from_lem (λ k. length_ok n k (length (f k))) 0 (n + 1) (λ k l u. length_ok_lem k (omega arith))

    loose_not_5 : loose_refusal n f ≡ 5 → ⊥
    unfolding loose_refusal form_refusal
    loose_not_5 h =
        let r3 = answered_later _ 3 _ (λ z. omega arith) h in
        let r6 = answered_later _ 6 _ (λ z. omega arith) (sym (refuse_later 5 _ (ap not lengths_ok_lem)) ∙ r3.next) in
        let r7 = answered_later _ 7 _ (λ z. omega arith) r6.next in
        let r8 = answered_later _ 8 0 (λ z. omega arith) r7.next in
        omega (arith, r8.next)

    loose_opens : box_ok n (f 0) ≡ true → place_ok n (decode_place n (f n)) ≡ true → loose_refusal n f ≡ 0
    unfolding loose_refusal form_refusal
    loose_opens b p =
        refuse_later 3 _ (ap not d)
        ∙ (refuse_later 5 _ (ap not lengths_ok_lem)
        ∙ (refuse_later 6 _ (ap not b) ∙ (refuse_later 7 _ (ap not polynomials_ok) ∙ refuse_later 8 0 (ap not p))))

-- ---- loose bodies of which the polynomials are answers

module _ (d : Loose) (dimensions : dimension_ok d.n ≡ true) (typed : (k : ℕ) → 0 < k → k < d.n → FromFormula d.n (body_of d k)) where
  open_is : open_refusal (assembled d) ≡ loose_refusal d.n (body_of d)
  unfolding assembled
  open_is = opens_to d.n d.bias (body_of d)

  box_is : body_of d 0 ≡ d.box
  unfolding body_of
  box_is = refl

  start_is : body_of d d.n ≡ d.start
  unfolding body_of
  start_is =
      rw (ne_eqb d.n 0 (λ z. omega (arith, z, (dimension_range d.n dimensions).low)), eq-eqb d.n d.n refl)

  -- whatever box and start: never for a term or the order of terms
  pub formula_not_7 : open_refusal (assembled d) ≡ 7 → ⊥
  formula_not_7 h = loose_not_7 d.n (body_of d) dimensions typed (sym open_is ∙ h)

  module _ (box : length d.box ≡ 4 * d.n) (start : length d.start ≡ 3 * d.n) where
    -- never for a polynomial's length
    pub formula_not_5 : open_refusal (assembled d) ≡ 5 → ⊥
    formula_not_5 h =
        loose_not_5 d.n (body_of d) dimensions typed (ap length box_is ∙ box) (ap length start_is ∙ start) (sym open_is ∙ h)

    -- with a right box and a right start the job opens
    pub formula_opens : box_ok d.n d.box ≡ true → place_ok d.n (decode_place d.n d.start) ≡ true → open_refusal (assembled d) ≡ 0
    formula_opens b p =
        open_is
        ∙ loose_opens d.n (body_of d) dimensions typed (ap length box_is ∙ box) (ap length start_is ∙ start)
        (ap (box_ok d.n) box_is ∙ b) (ap (λ (x : List ℕ). place_ok d.n (decode_place d.n x)) start_is ∙ p)
