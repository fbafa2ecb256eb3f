-- Each well-formed place is the place of a simplex without one vertex, and `incidence` finds the two: `place_incidence`, `incidence_ok`.
use Prim.Native.Nat.{ℕ, suc, zero, ◌+◌, ◌-◌, ◌^◌, ◌≤◌, ◌<◌}
use mathlib.Core.Path.{◌≡◌, refl, sym, ap, ap₂, ◌∙◌, subst}
use mathlib.Core.Bool.{Bool, true, cond, ◌&&◌}
use mathlib.Core.List.{List, [], ◌∷◌, ◌++◌}
use native.Mathlib.Omega.{arith}
use lib.ListN.{length, length-append}
use lib.Dec.{eqb, ltb}
use lib.Count.{ones, ones-le}
use lib.Pow.{pow_pos}
use borrow.Author.Tests.{eqb-true, ltb-true, lt-ltb, le-ltb}
use Rattle.exact.proofs.AndTests.{and_left, and_right}
use Rattle.exact.specs.Crossed.{remove}
use Rattle.exact.proofs.Position.{length_remove}
use Rattle.curves.specs.Grid.{Vertex, Place, Incidence, down, chain, masks_from, last_mask, place_at, place_of, incidence, is_order, facet_ok, place_ok}
use Rattle.curves.proofs.Vertices.{up_down, length_down}
use Rattle.curves.proofs.MaskBits.{bit, ones_zero}
use Rattle.curves.proofs.MaskAxes.{Power, one_axis, ones_complement, filled_bit}
use Rattle.curves.proofs.MaskOrder.{Fresh, weight, fresh_order, fresh_first, fresh_last, fresh_exchange}
use Rattle.curves.proofs.MaskChain.{Single, Double, last_bound, chain_ones, chain_single, chain_double}
use Rattle.curves.proofs.MaskSteps.{last_masks, remove_end, side_end, side_between}
use Rattle.curves.proofs.IncidencePlace.{place, place_behind, incidence_place}
use Rattle.curves.proofs.IncidenceOk.{length_masks, place_ok_lem}

-- ---- what the form of a place says

pub record Formed (n : ℕ) (p : Place) : Type 0 where
  pub low_length : length p.facet.low ≡ n
  pub masks_length : suc (length p.facet.masks) ≡ n
  pub masks_chain : chain n 0 p.facet.masks ≡ true
  pub side_under : p.side < 2

pub place_formed : (n : ℕ) (p : Place) → place_ok n p ≡ true → Formed n p
unfolding place_ok facet_ok
place_formed n p h =
    let f : facet_ok n p.facet ≡ true = and_left (facet_ok n p.facet) (ltb p.side 2) h in
    let c : Bool = eqb (suc (length p.facet.masks)) n && chain n 0 p.facet.masks in
    let g : c ≡ true = and_right (eqb (length p.facet.low) n) c f in
    record {
      low_length = eqb-true (length p.facet.low) n (and_left (eqb (length p.facet.low) n) c f);
      masks_length =
          eqb-true (suc (length p.facet.masks)) n
          (and_left (eqb (suc (length p.facet.masks)) n) (chain n 0 p.facet.masks) g);
      masks_chain = and_right (eqb (suc (length p.facet.masks)) n) (chain n 0 p.facet.masks) g;
      side_under = ltb-true p.side 2 (and_right (facet_ok n p.facet) (ltb p.side 2) h);
    }

-- ---- the simplex

-- a simplex with a vertex whose place is p
pub record Simplex (n : ℕ) (p : Place) : Type 0 where
  pub corner : Vertex
  pub order : List ℕ
  pub out : ℕ
  pub order_is : is_order n order ≡ true
  pub corner_length : length corner ≡ n
  pub out_bound : out ≤ n
  pub is_place : place_at corner order out ≡ p

-- flat: the axes of the steps, and the missed axis behind or before them
flat_simplex : (n : ℕ) (c : Vertex) (ms : List ℕ) (s a : ℕ) → length c ≡ n → suc (length ms) ≡ n → s < 2 → (σ : Single n 0 ms)
    → a < n → bit a (0 + weight σ.order) ≡ 0 → Simplex n (place c ms s)
unfolding place_at
flat_simplex n c ms s a e k u σ l z = go s u
  where
    size : suc (length σ.order) ≡ n
    size = ap suc (sym (length_masks 0 σ.order) ∙ ap length σ.masks) ∙ k

    long : length (σ.order ++ a ∷ []) ≡ n
    long = omega (arith, length-append σ.order (a ∷ []), size)

    go : (t : ℕ) → t < 2 → Simplex n (place c ms t)
    go zero v =
        record {
          corner = c;
          order = σ.order ++ a ∷ [];
          out = suc (length σ.order);
          order_is = fresh_order n (σ.order ++ a ∷ []) (fresh_last σ.order a σ.fresh l z) long;
          corner_length = e;
          out_bound = omega (arith, size);
          is_place =
              place_behind c (σ.order ++ a ∷ []) (length σ.order)
              ∙ ap₂ (place c) (remove_end 0 σ.order a ∙ σ.masks) (side_end σ.order a);
        }
    go (suc zero) v =
        record {
          corner = down a c;
          order = a ∷ σ.order;
          out = 0;
          order_is = fresh_order n (a ∷ σ.order) (fresh_first a σ.order σ.fresh l z) size;
          corner_length = length_down a c ∙ e;
          out_bound = omega arith;
          is_place = ap₂ (λ (v : Vertex) (x : List ℕ). place v x 1) (up_down a c) σ.masks;
        }
    go (suc (suc t)) v = absurd (omega arith)

-- the missed axis
missed_axis : (n m : ℕ) → m < 2 ^ n → suc (ones m) ≡ n → (a : ℕ) × (a < n) × (bit a m ≡ 0)
missed_axis n m u e =
    let p : Power n (2 ^ n - 1 - m) = one_axis n (2 ^ n - 1 - m) (omega arith) (omega (arith, ones_complement n m u)) in
    (p.axis, p.inside, filled_bit n p.axis m p.inside (omega (arith, p.value)))

-- bent: the axes of the steps, the two of one step in the order of the side
between_simplex : (n : ℕ) (c : Vertex) (ms : List ℕ) (s : ℕ) (o : List ℕ) (a b : ℕ) (p : List ℕ) → length c ≡ n → suc (length ms) ≡ n
    → Fresh n 0 (o ++ a ∷ b ∷ p) → remove (length o) (masks_from 0 (o ++ a ∷ b ∷ p)) ≡ ms → cond (ltb a b) 0 1 ≡ s
    → Simplex n (place c ms s)
between_simplex n c ms s o a b p e k f q t =
    let long : length (o ++ a ∷ b ∷ p) ≡ length o + suc (suc (length p)) = length-append o (a ∷ b ∷ p) in
    let size : length (o ++ a ∷ b ∷ p) ≡ n
    = sym (length_masks 0 (o ++ a ∷ b ∷ p))
    ∙ sym (length_remove (length o) (masks_from 0 (o ++ a ∷ b ∷ p)) (omega (arith, length_masks 0 (o ++ a ∷ b ∷ p))))
    ∙ ap (λ (l : List ℕ). suc (length l)) q ∙ k in
    record {
      corner = c;
      order = o ++ a ∷ b ∷ p;
      out = suc (length o);
      order_is = fresh_order n (o ++ a ∷ b ∷ p) f size;
      corner_length = e;
      out_bound = omega arith;
      is_place =
          place_behind c (o ++ a ∷ b ∷ p) (length o) ∙ ap₂ (place c) q (side_between o a b p ∙ t);
    }

-- the two neighbours exchanged leave out the same mask
remove_exchange : (m : ℕ) (o : List ℕ) (a b : ℕ) (p : List ℕ)
    → remove (length o) (masks_from m (o ++ a ∷ b ∷ p)) ≡ remove (length o) (masks_from m (o ++ b ∷ a ∷ p))
unfolding remove masks_from
remove_exchange m [] a b p = ap (λ (x : ℕ). x ∷ masks_from x p) (omega arith)
remove_exchange m (x ∷ o) a b p = ap (λ (l : List ℕ). (m + 2 ^ x) ∷ l) (remove_exchange (m + 2 ^ x) o a b p)

bent_simplex : (n : ℕ) (c : Vertex) (ms : List ℕ) (s : ℕ) → length c ≡ n → suc (length ms) ≡ n → s < 2 → Double n 0 ms
    → Simplex n (place c ms s)
bent_simplex n c ms s e k u δ = go s u
  where
    go : (t : ℕ) → t < 2 → Simplex n (place c ms t)
    go zero v =
        between_simplex n c ms 0 δ.front δ.lower δ.upper δ.back e k δ.fresh δ.masks
        (ap (λ (b : Bool). cond b 0 1) (lt-ltb δ.lower δ.upper δ.ordered))
    go (suc zero) v =
        between_simplex n c ms 1 δ.front δ.upper δ.lower δ.back e k
        (fresh_exchange δ.front δ.lower δ.upper δ.back δ.fresh)
        (sym (remove_exchange 0 δ.front δ.lower δ.upper δ.back) ∙ δ.masks)
        (ap (λ (b : Bool). cond b 0 1) (le-ltb δ.upper δ.lower (omega (arith, δ.ordered))))
    go (suc (suc t)) v = absurd (omega arith)

-- which of the two: by the ones of the last mask
formed_simplex : (n : ℕ) (p : Place) → Formed n p → Simplex n p
formed_simplex n p f = go (suc (ones (last_mask 0 ms)) - n) refl
  where
    ms : List ℕ
    ms = p.facet.masks

    bound : last_mask 0 ms < 2 ^ n
    bound = last_bound n 0 ms (pow_pos n) f.masks_chain

    at_least : length ms ≤ ones (last_mask 0 ms)
    at_least = omega (arith, ones_zero, chain_ones n 0 ms (pow_pos n) f.masks_chain)

    go : (r : ℕ) → suc (ones (last_mask 0 ms)) - n ≡ r → Simplex n p
    go zero e =
        let σ : Single n 0 ms
        = chain_single n 0 ms (pow_pos n) f.masks_chain (omega (arith, ones_zero, at_least, f.masks_length)) in
        let (a, l, z) = missed_axis n (last_mask 0 ms) bound (omega (arith, at_least, f.masks_length)) in
        let last : last_mask 0 ms ≡ 0 + weight σ.order = ap (last_mask 0) (sym σ.masks) ∙ last_masks 0 σ.order in
        flat_simplex n p.facet.low ms p.side a f.low_length f.masks_length f.side_under σ l
        (ap (bit a) (sym last) ∙ z)
    go (suc r) e =
        bent_simplex n p.facet.low ms p.side f.low_length f.masks_length f.side_under
        (chain_double n 0 ms (pow_pos n) f.masks_chain
        (omega (arith, ones_zero, ones-le n (last_mask 0 ms) bound, f.masks_length)))

pub place_simplex : (n : ℕ) (p : Place) → place_ok n p ≡ true → Simplex n p
place_simplex n p h = formed_simplex n p (place_formed n p h)

-- ---- the theorems

-- a well-formed place is of dimension 1 at least
pub place_dimension : (n : ℕ) (p : Place) → place_ok n p ≡ true → 0 < n
place_dimension n p h = omega (arith, (place_formed n p h).masks_length)

pub incidence_simplex : (n : ℕ) (p : Place) (h : place_ok n p ≡ true) → (σ : Simplex n p)
    → incidence n p ≡ record { corner = σ.corner; order = σ.order; out = σ.out }
incidence_simplex n p h σ =
    ap (incidence n) (sym σ.is_place)
    ∙ incidence_place n σ.corner σ.order σ.out (place_dimension n p h) σ.order_is σ.out_bound

pub place_incidence : (n : ℕ) (p : Place) → place_ok n p ≡ true → place_of (incidence n p) ≡ p
unfolding place_of
place_incidence n p h =
    let σ : Simplex n p = place_simplex n p h in
    ap place_of (incidence_simplex n p h σ) ∙ σ.is_place

-- a simplex of dimension n and the index of one of its vertices
pub record Valid (n : ℕ) (t : Incidence) : Type 0 where
  pub order_is : is_order n t.order ≡ true
  pub corner_length : length t.corner ≡ n
  pub out_bound : t.out ≤ n

pub incidence_ok : (n : ℕ) (p : Place) → place_ok n p ≡ true → Valid n (incidence n p)
incidence_ok n p h =
    let σ : Simplex n p = place_simplex n p h in
    subst (Valid n) (sym (incidence_simplex n p h σ))
    (record { order_is = σ.order_is; corner_length = σ.corner_length; out_bound = σ.out_bound })

-- ---- the theorems on simplices, over a whole incidence

pub incidence_of_place : (n : ℕ) (t : Incidence) → 0 < n → Valid n t → incidence n (place_of t) ≡ t
unfolding place_of
incidence_of_place n t p v = incidence_place n t.corner t.order t.out p v.order_is v.out_bound

pub place_of_ok : (n : ℕ) (t : Incidence) → 0 < n → Valid n t → place_ok n (place_of t) ≡ true
unfolding place_of
place_of_ok n t p v = place_ok_lem n t.corner t.order t.out p v.order_is v.corner_length v.out_bound
