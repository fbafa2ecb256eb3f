-- "If one facet of a simplex is crossed, exactly one other is", for every dimension n from 1 on and any columns with top entry 1;
-- and so `exit` finds it and undoes itself, and the number of crossed facets of a simplex is 0 or 2.
-- The facet without vertex p of the simplex with the n + 1 columns us is `remove p us`.
use Prim.Native.Nat.{ℕ, suc, zero, ◌≤◌, ◌<◌}
use native.Mathlib.Omega.{arith}
use native.Mathlib.Decide.{ℕ_discrete, dec_lt}
use mathlib.Core.Path.{◌≡◌, refl, sym, ap, ◌∙◌}
use mathlib.Core.Bool.{Bool, true, false}
use mathlib.Core.Logic.{◌⊎◌, inl, inr, ⊎_swap}
use mathlib.Core.List.{List, [], ◌∷◌, map}
use lib.ListN.{length, get_or, length-map}
use Rattle.exact.specs.Int.{0ℤ, 1ℤ}
use Rattle.exact.specs.Det.{Column}
use Rattle.exact.specs.Crossed.{crossed, remove, exit}
use Rattle.exact.specs.Simplex.{IsSimplex, FacetCrossed, OnlyOther, NoneOrTwo, none, two}
use Rattle.exact.proofs.OnlyOtherSign.{only_other_sign, below_suc}
use Rattle.exact.proofs.Exit.{exit_only}
use Rattle.exact.proofs.FacetSigns.{crossed→crossed_signs, crossed_signs→crossed, simplex_signs}

-- the columns f v of n + 1 vertices v, where each f v begins with 1
pub simplex_map :
    {A : Type 0} (f : A → Column) (n : ℕ) (vs : List A) → 0 < n → length vs ≡ suc n → ((v : A) → get_or (f v) 0 0ℤ ≡ 1ℤ)
    → IsSimplex n (map f vs)
simplex_map f n vs large size top =
    record { large = large; size = length-map vs f ∙ size; ones = λ p p≤. ones vs p (omega arith) }
  where
    ones : (vs : List _) (p : ℕ) → p < length vs → get_or (get_or (map f vs) p []) 0 0ℤ ≡ 1ℤ
    ones [] p l = absurd (omega arith)
    ones (v ∷ vs) zero l = top v
    ones (v ∷ vs) (suc p) l = ones vs p (omega arith)

-- its facet without p has the columns of the vertices other than p
pub remove_map : {A B : Type 0} (f : A → B) (p : ℕ) (vs : List A) → remove p (map f vs) ≡ map f (remove p vs)
unfolding remove
remove_map f p [] = refl
remove_map f zero (v ∷ vs) = refl
remove_map f (suc p) (v ∷ vs) = ap (λ r. f v ∷ r) (remove_map f p vs)

-- ---- the other crossed facet

pub only_other :
    (n : ℕ) (us : List Column) → IsSimplex n us → (p : ℕ) → p ≤ n → FacetCrossed n us p
    → (q : ℕ) × OnlyOther n (FacetCrossed n us) p q
only_other n us s p p≤ h =
    let (q, o) = only_other_sign (simplex_signs n us s.size s.large s.ones) p p≤ (crossed→crossed_signs n us p p≤ h) in (
      q,
      record {
        low = o.low;
        other = o.other;
        crosses = crossed_signs→crossed n us q o.low o.crosses;
        only = λ r r≤ pr c. o.only r r≤ pr (crossed→crossed_signs n us r r≤ c);
      },
    )

-- `exit` finds it
pub exit_only_other :
    (n : ℕ) (us : List Column) → IsSimplex n us → (p : ℕ) → p ≤ n → FacetCrossed n us p
    → OnlyOther n (FacetCrossed n us) p (exit n us p)
exit_only_other n us s p p≤ h =
    let (q, o) = only_other n us s p p≤ h in
    rw (exit_only n us p q o) o

-- and leads back: p is the only other one of the facet that `exit` finds
pub exit_exit : (n : ℕ) (us : List Column) → IsSimplex n us → (p : ℕ) → p ≤ n → FacetCrossed n us p → exit n us (exit n us p) ≡ p
exit_exit n us s p p≤ h = sym (back.only p p≤ (λ e. there.other (sym e)) h)
  where
    there : OnlyOther n (FacetCrossed n us) p (exit n us p)
    there = exit_only_other n us s p p≤ h

    back : OnlyOther n (FacetCrossed n us) (exit n us p) (exit n us (exit n us p))
    back = exit_only_other n us s (exit n us p) there.low there.crosses

-- ---- none or two

-- a test holds nowhere below m, or somewhere
none_or_some : (test : ℕ → Bool) (m : ℕ) → ((j : ℕ) → j < m → test j ≡ false) ⊎ ((p : ℕ) × (p < m) × (test p ≡ true))
none_or_some test zero = inl (λ j h. absurd (omega arith))
none_or_some test (suc m) = go (none_or_some test m) (test m) refl
  where
    go :
        ((j : ℕ) → j < m → test j ≡ false) ⊎ ((p : ℕ) × (p < m) × (test p ≡ true)) → (b : Bool) → test m ≡ b
        → ((j : ℕ) → j < suc m → test j ≡ false) ⊎ ((p : ℕ) × (p < suc m) × (test p ≡ true))
    go (inl f) true e = inr (m, omega arith, e)
    go (inl f) false e = inl (below_suc _ m f e)
    go (inr w) b e = let (p, l, h) = w in inr (p, omega arith, h)

pub none_or_two : (n : ℕ) (us : List Column) → IsSimplex n us → NoneOrTwo n us
none_or_two n us s = go (none_or_some (λ p. crossed n (remove p us)) (suc n))
  where
    either : (p q : ℕ) → OnlyOther n (FacetCrossed n us) p q → (r : ℕ) → r ≤ n → FacetCrossed n us r → (r ≡ p) ⊎ (r ≡ q)
    either p q o r r≤ c = at (ℕ_discrete p r)
      where
        at : Dec (p ≡ r) → (r ≡ p) ⊎ (r ≡ q)
        at (yes e) = inl (sym e)
        at (no d) = inr (o.only r r≤ d c)

    pair : (p q : ℕ) → p ≤ n → FacetCrossed n us p → OnlyOther n (FacetCrossed n us) p q → Dec (p < q) → NoneOrTwo n us
    pair p q p≤ h o (yes l) = two p q l o.low h o.crosses (either p q o)
    pair p q p≤ h o (no l) = two q p (omega (arith, o.other)) p≤ o.crosses h (λ r r≤ c. ⊎_swap (either p q o r r≤ c))

    go : ((j : ℕ) → j < suc n → crossed n (remove j us) ≡ false) ⊎ ((p : ℕ) × (p < suc n) × FacetCrossed n us p) → NoneOrTwo n us
    go (inl f) = none (λ p l. f p (omega arith))
    go (inr w) =
        let (p, l, h) = w in
        let p≤ : p ≤ n = omega arith in
        let (q, o) = only_other n us s p p≤ h in
        pair p q p≤ h o (dec_lt p q)
