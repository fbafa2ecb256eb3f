-- Lists in which no element stands twice: such a list is no longer than a list that holds all its elements,
-- and two of them with no element in common make one.
use Prim.Native.Nat.{suc, ◌≤◌, zero-le}
use native.Mathlib.Omega.{arith}
use mathlib.Core.Path.{◌≡◌, refl, sym, ◌∙◌, ap}
use mathlib.Core.Logic.{◌⊎◌, inl, inr, ⊎_elim}
use mathlib.Core.List.Memᴰ
use mathlib.Core.List.{List, ◌∷◌, ◌++◌}
use lib.ListN.{length}
use Rattle.curves.specs.Curve.{◌∈◌, NoDup, none, more}

module _ {A : Type 0} where
  -- A list without one of its elements: what else stood in it is still there.
  remove : {x : A} {m : List A} → x ∈ m → (r : List A) × (length m ≡ suc (length r)) × ((y : A) → y ∈ m → (y ≡ x) ⊎ (y ∈ r))
  remove (Memᴰ.head {xs = r} e) =
      (r, refl, λ y i. ⊎_elim (λ f. inl (f ∙ sym e)) (λ j. inr j) (Memᴰ.cases_cons i))
  remove {x} (Memᴰ.tail {x = z} {xs = m} i) = behind (remove i)
    where
      behind :
          ((r : List A) × (length m ≡ suc (length r)) × ((y : A) → y ∈ m → (y ≡ x) ⊎ (y ∈ r))) →
          (r : List A) × (length (z ∷ m) ≡ suc (length r)) × ((y : A) → y ∈ (z ∷ m) → (y ≡ x) ⊎ (y ∈ r))
      behind t = (
        z ∷ t.0,
        ap suc t.1,
        λ y j.
            ⊎_elim
            (λ f. inr (Memᴰ.head f))
            (λ k. ⊎_elim (λ f. inl f) (λ h. inr (Memᴰ.tail h)) (t.2 y k))
            (Memᴰ.cases_cons j),
      )

  -- The pigeonhole principle.
  pub no_dup_length : {l m : List A} → NoDup l → ((x : A) → x ∈ l → x ∈ m) → length l ≤ length m
  no_dup_length none inside = zero-le
  no_dup_length {m = m} (more {x = x} {l = l} out rest) inside =
      let t = remove (inside x (Memᴰ.head refl)) in
      let shorter : length l ≤ length t.0 =
      no_dup_length
      rest
      (λ y i. ⊎_elim (λ e. absurd (out (Memᴰ.cast (sym e) i))) (λ j. j) (t.2 y (inside y (Memᴰ.tail i))))
      in
      omega (arith, t.1)

  pub no_dup_append : {l m : List A} → NoDup l → NoDup m → ((x : A) → x ∈ l → x ∈ m → ⊥) → NoDup (l ++ m)
  no_dup_append none d apart = d
  no_dup_append (more {x = x} {l = l} out rest) d apart =
      more
      (λ i. ⊎_elim out (apart x (Memᴰ.head refl)) (Memᴰ.append_cases l i))
      (no_dup_append rest d (λ y i j. apart y (Memᴰ.tail i) j))

  pub head_out : {x : A} {l : List A} → NoDup (x ∷ l) → x ∈ l → ⊥
  head_out (more out rest) = out

  pub tail_no_dup : {x : A} {l : List A} → NoDup (x ∷ l) → NoDup l
  tail_no_dup (more out rest) = rest
