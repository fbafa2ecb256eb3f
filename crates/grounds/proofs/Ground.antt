-- What a ground says, over n and any columns: the one that is found holds and names the first vertex against D, no other does both, and
-- whoever reads a ground that holds reaches the yes or no of `crossed`.
use Prim.Native.Nat.{ℕ, suc, zero, ◌+◌, ◌≤◌, ◌<◌}
use native.Mathlib.Omega.{arith}
use native.Mathlib.Decide.{ℕ_discrete}
use mathlib.Core.Path.{◌≡◌, refl, sym, ap, ◌∙◌}
use mathlib.Core.Logic.{◌≢◌}
use mathlib.Core.Bool.{Bool, true, false, cond, not, ◌&&◌}
use mathlib.Core.List.{List, map}
use lib.IntN.{ℤ}
use lib.ListN.{length, get_or}
use lib.Seq.{ext_get_or}
use Rattle.exact.specs.Int.{0ℤ}
use Rattle.exact.specs.Sign.{Sign, nought, sign, lex_sign, same_sign}
use Rattle.exact.specs.Det.{Column, determinant}
use Rattle.exact.specs.Crossed.{count_from, coefficient, coefficients, all_have_sign, crossed}
use Rattle.exact.proofs.CountFrom.{length_map_count_from, get_d_map_count_from}
use Rattle.exact.proofs.SignLaws.{sign_nought}
use Rattle.exact.proofs.LexSign.{same_sign_refl, same_sign_sound, signs_differ, same_nought, nonzero_sign, sign_discrete}
use Rattle.exact.proofs.CrossedTest.{crossed→signs, signs→crossed}
use Rattle.grounds.specs.Ground.{Ground, zero_determinant, vertex_against, all_with, deciding_power, ground_from, ground, crossed_by, Decides, With, Against, EachWith, HoldsOf, NamesFirstOf, Holds, NamesFirst, Names}
use Rattle.grounds.proofs.Deciding.{one_power, decides_only, decides_sign, power_to_name}

-- ---- of any numbers D and a i j, as a reader is handed them

against_with : {n : ℕ} {D : ℤ} {a : ℕ → ℕ → ℤ} {i j : ℕ} {js : List ℕ} → Against n D a i j → EachWith n D a js → ⊥
against_with {n} {D} {a} {i} {j} {js} w v =
    let with : With n D (a i) (get_or js i 0) = v.each i w.vertex in
    w.differs (ap (λ k. sign (a i k)) (one_power w.decides with.decides) ∙ with.agrees)

-- whatever the numbers, grounds that hold of them say the same
pub readers_agree : (n : ℕ) (D : ℤ) (a : ℕ → ℕ → ℤ) (g h : Ground) → HoldsOf n D a g → HoldsOf n D a h → crossed_by g ≡ crossed_by h
unfolding HoldsOf crossed_by
readers_agree n D a zero_determinant zero_determinant v w = refl
readers_agree n D a zero_determinant (vertex_against i j) v w = refl
readers_agree n D a zero_determinant (all_with js) v w = absurd (w.determined v)
readers_agree n D a (vertex_against i j) zero_determinant v w = refl
readers_agree n D a (vertex_against i j) (vertex_against k l) v w = refl
readers_agree n D a (vertex_against i j) (all_with js) v w = absurd (against_with v w)
readers_agree n D a (all_with js) zero_determinant v w = absurd (v.determined w)
readers_agree n D a (all_with js) (vertex_against i j) v w = absurd (against_with w v)
readers_agree n D a (all_with js) (all_with ks) v w = refl

-- a power is named only if it decides: all lower coefficients are 0
pub named_decides : (n : ℕ) (D : ℤ) (a : ℕ → ℕ → ℤ) (g : Ground) → HoldsOf n D a g → (i j : ℕ) → Names g i j → Decides n (a i) j
unfolding HoldsOf Names
named_decides n D a zero_determinant h i j w = absurd w
named_decides n D a (vertex_against v p) h i j w = rw (w.0, w.1) h.decides
named_decides n D a (all_with js) h i j w =
    let count : length js ≡ n = h.count in
    let inside : i < length js = w.0 in
    rw w.1 (h.each i (omega arith)).decides

-- ---- of columns

module _ (n : ℕ) (cs : List Column) where
  abbrev D : Sign
  D = sign (determinant n cs)

  -- ---- a ground that holds settles the answer

  against_uncrossed : (i j : ℕ) → Against n (determinant n cs) (coefficient n cs) i j → crossed n cs ≡ false
  against_uncrossed i j w = go (crossed n cs) refl
    where
      go : (b : Bool) → crossed n cs ≡ b → b ≡ false
      go true e = absurd (w.differs (sym (decides_sign n cs i w.decides) ∙ (crossed→signs n cs e).agree i w.vertex))
      go false e = refl

  pub settles : (g : Ground) → Holds n cs g → crossed n cs ≡ crossed_by g
  unfolding Holds HoldsOf crossed_by crossed
  settles zero_determinant h = ap (λ b. not b && all_have_sign n cs D (count_from 0 n)) (same_nought (determinant n cs) h)
  settles (vertex_against i j) h = against_uncrossed i j h
  settles (all_with js) h =
      signs→crossed n cs
      (record {
        determined = nonzero_sign (determinant n cs) h.determined;
        agree = λ i l. decides_sign n cs i (h.each i l).decides ∙ (h.each i l).agrees;
      })

  -- ---- the ground that is found

  -- the power of vertex i in the list of all
  pub power_at : (i : ℕ) → i < n → get_or (map (deciding_power n cs) (count_from 0 n)) i 0 ≡ deciding_power n cs i
  power_at i l = get_d_map_count_from (deciding_power n cs) 0 0 n i l ∙ ap (deciding_power n cs) (omega arith)

  -- every vertex before k has the sign of D
  abbrev pub AllBefore : ℕ → Type 0
  AllBefore k = (i : ℕ) → i < k → With n (determinant n cs) (coefficient n cs i) (deciding_power n cs i)

  pub before_next : (k : ℕ) → AllBefore k → With n (determinant n cs) (coefficient n cs k) (deciding_power n cs k) → AllBefore (suc k)
  before_next k all w i l = go (ℕ_discrete k i)
    where
      go : Dec (k ≡ i) → With n (determinant n cs) (coefficient n cs i) (deciding_power n cs i)
      go (yes e) = rw (sym e) w
      go (no h) = all i (omega arith)

  module _ (d : determinant n cs ≢ 0ℤ) where
    -- the sign of a vertex, of which each has one
    vertex_with : (i : ℕ) → i < n → lex_sign (coefficients n cs i) ≡ D → With n (determinant n cs) (coefficient n cs i) (deciding_power n cs i)
    vertex_with i l e =
        let w : Decides n (coefficient n cs i) (deciding_power n cs i) = power_to_name n cs i d l in
        record { decides = w; agrees = sym (decides_sign n cs i w) ∙ e }

    vertex_against_lem : (i : ℕ) → i < n → lex_sign (coefficients n cs i) ≢ D → Against n (determinant n cs) (coefficient n cs) i (deciding_power n cs i)
    vertex_against_lem i l h =
        let w : Decides n (coefficient n cs i) (deciding_power n cs i) = power_to_name n cs i d l in
        record { determined = d; vertex = l; decides = w; differs = λ e. h (decides_sign n cs i w ∙ e) }

    with_power :
        (i : ℕ) {j : ℕ} → j ≡ deciding_power n cs i → With n (determinant n cs) (coefficient n cs i) (deciding_power n cs i)
        → With n (determinant n cs) (coefficient n cs i) j
    with_power i e w = rw e w

    -- it holds and names the first vertex
    abbrev Stands : Ground → Type 0
    Stands g = Holds n cs g × NamesFirst n cs g

    from_stands : (k m : ℕ) → k + m ≡ n → AllBefore k → Stands (ground_from n cs D (count_from k m))
    unfolding ground_from count_from Holds HoldsOf NamesFirst NamesFirstOf
    from_stands k zero e all =
        (record { determined = d; count = length_map_count_from (deciding_power n cs) _ n; each = λ i l. with_power i (power_at i l) (all i (omega arith)) }, tt)
    from_stands k (suc m) e all = go (sign_discrete (lex_sign (coefficients n cs k)) D) (from_stands (suc k) m (omega arith))
      where
        go :
            Dec (lex_sign (coefficients n cs k) ≡ D) → (AllBefore (suc k) → Stands (ground_from n cs D (count_from (suc k) m)))
            → Stands (cond (same_sign (lex_sign (coefficients n cs k)) D) (ground_from n cs D (count_from (suc k) m)) (vertex_against k (deciding_power n cs k)))
        go (yes h) later =
            rw (ap (λ s. same_sign s D) h ∙ same_sign_refl D) (later (before_next k all (vertex_with k (omega arith) h)))
        go (no h) later =
            rw (signs_differ (lex_sign (coefficients n cs k)) D h)
            (vertex_against_lem k (omega arith) h, λ i l. (deciding_power n cs i, all i l))

    ground_from_lem : ground n cs ≡ ground_from n cs D (count_from 0 n)
    unfolding ground
    ground_from_lem = ap (λ b. cond b zero_determinant (ground_from n cs D (count_from 0 n))) (signs_differ D nought (nonzero_sign (determinant n cs) d))

    -- ---- no other ground stands

    -- a vertex with the sign of D is passed
    passed : (k m l : ℕ) → With n (determinant n cs) (coefficient n cs k) l → ground_from n cs D (count_from k (suc m)) ≡ ground_from n cs D (count_from (suc k) m)
    unfolding ground_from count_from
    passed k m l w =
        ap (λ b. cond b (ground_from n cs D (count_from (suc k) m)) (vertex_against k (deciding_power n cs k)))
        (ap (λ s. same_sign s D) (decides_sign n cs k w.decides ∙ w.agrees) ∙ same_sign_refl D)

    named : (k m j : ℕ) → Against n (determinant n cs) (coefficient n cs) k j → ground_from n cs D (count_from k (suc m)) ≡ vertex_against k j
    unfolding ground_from count_from
    named k m j w =
        ap (λ b. cond b (ground_from n cs D (count_from (suc k) m)) (vertex_against k (deciding_power n cs k)))
        (signs_differ (lex_sign (coefficients n cs k)) D (λ e. w.differs (sym (decides_sign n cs k w.decides) ∙ e)))
        ∙ ap (vertex_against k) (decides_only n cs k w.decides)

    only_against :
        (i j k m : ℕ) → k + m ≡ n → k ≤ i → Against n (determinant n cs) (coefficient n cs) i j → ((k : ℕ) → k < i → (l : ℕ) × With n (determinant n cs) (coefficient n cs k) l)
        → ground_from n cs D (count_from k m) ≡ vertex_against i j
    only_against i j k zero e l w before = let inside : i < n = w.vertex in absurd (omega arith)
    only_against i j k (suc m) e l w before = go (ℕ_discrete k i) (λ u. only_against i j (suc k) m (omega arith) u w before)
      where
        go :
            Dec (k ≡ i) → (suc k ≤ i → ground_from n cs D (count_from (suc k) m) ≡ vertex_against i j)
            → ground_from n cs D (count_from k (suc m)) ≡ vertex_against i j
        go (yes q) later = rw q (named i m j w)
        go (no h) later = let first = before k (omega arith) in passed k m first.0 first.1 ∙ later (omega arith)

    only_with :
        (js : List ℕ) (k m : ℕ) → k + m ≡ n → ((i : ℕ) → i < n → With n (determinant n cs) (coefficient n cs i) (get_or js i 0))
        → ground_from n cs D (count_from k m) ≡ all_with (map (deciding_power n cs) (count_from 0 n))
    unfolding ground_from count_from
    only_with js k zero e all = refl
    only_with js k (suc m) e all = passed k m (get_or js k 0) (all k (omega arith)) ∙ only_with js (suc k) m (omega arith) all

    powers_are :
        (js : List ℕ) → length js ≡ n → ((i : ℕ) → i < n → With n (determinant n cs) (coefficient n cs i) (get_or js i 0)) → js ≡ map (deciding_power n cs) (count_from 0 n)
    powers_are js count all =
        ext_get_or 0 js (map (deciding_power n cs) (count_from 0 n)) (count ∙ sym (length_map_count_from (deciding_power n cs) 0 n))
        (λ i l. sym (power_at i (omega arith) ∙ decides_only n cs i (all i (omega arith)).decides))

  -- ---- the theorems

  stands : Dec (determinant n cs ≡ 0ℤ) → Holds n cs (ground n cs) × NamesFirst n cs (ground n cs)
  unfolding Holds HoldsOf NamesFirst NamesFirstOf ground
  stands (yes z) = rw (same_nought (determinant n cs) z) (z, tt)
  stands (no d) = rw (ground_from_lem d) (from_stands d 0 n (omega arith) (λ i l. absurd (omega arith)))

  determined? : Dec (determinant n cs ≡ 0ℤ)
  determined? = go (sign_discrete D nought)
    where
      go : Dec (D ≡ nought) → Dec (determinant n cs ≡ 0ℤ)
      go (yes e) = yes (sign_nought (determinant n cs) e)
      go (no h) = no (λ z. h (same_sign_sound D nought (same_nought (determinant n cs) z)))

  -- the ground that is found holds
  pub ground_holds : Holds n cs (ground n cs)
  ground_holds = (stands determined?).0

  -- and the vertex that it names is the first
  pub ground_first : NamesFirst n cs (ground n cs)
  ground_first = (stands determined?).1

  -- it is the only one
  pub ground_only : (g : Ground) → Holds n cs g → NamesFirst n cs g → ground n cs ≡ g
  unfolding Holds HoldsOf NamesFirst NamesFirstOf ground
  ground_only zero_determinant h w = ap (λ b. cond b zero_determinant (ground_from n cs D (count_from 0 n))) (same_nought (determinant n cs) h)
  ground_only (vertex_against i j) h w =
      ground_from_lem h.determined ∙ only_against h.determined i j 0 n (omega arith) (omega arith) h w
  ground_only (all_with js) h w =
      ground_from_lem h.determined ∙ only_with h.determined js 0 n (omega arith) h.each
      ∙ ap all_with (sym (powers_are h.determined js h.count h.each))

  -- the yes or no of the ground is that of the plain test
  pub ground_agrees : crossed_by (ground n cs) ≡ crossed n cs
  ground_agrees = sym (settles (ground n cs) ground_holds)
