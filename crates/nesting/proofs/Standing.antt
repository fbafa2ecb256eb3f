-- What the answer about an order says, over any things and any test: it stands exactly if none has a later one inside it, and else it names the
-- first position that has.
use Prim.Native.Nat.{ℕ, suc, ◌+◌}
use native.Mathlib.Omega.{arith}
use mathlib.Core.Path.{◌≡◌, refl, sym, ap, ◌∙◌, subst}
use mathlib.Core.Bool.{Bool, true, false, cond, ◌||◌, true≢false, false≢true}
use mathlib.Core.Logic.{⊎_elim}
use mathlib.Core.List.Memᴰ
use mathlib.Core.List.{List, [], ◌∷◌, ◌++◌}
use lib.ListN.{length}
use Rattle.curves.specs.Curve.{◌∈◌}
use Rattle.nesting.specs.Standing.{stands, broken_at, some, standing_from, standing}
use Rattle.nesting.specs.Loops.{Apart}
use Rattle.nesting.specs.Loops.Apart.{none, more}

-- ---- a test of some member

module _ {A : Type 0} (t : A → Bool) where
  -- a test that holds for some member holds for one of them
  pub some_member : (l : List A) → some t l ≡ true → (x : A) × (x ∈ l) × (t x ≡ true)
  unfolding some
  some_member [] e = absurd (false≢true e)
  some_member (y ∷ l) e = go (t y) refl e (some_member l)
    where
      go : (b : Bool) → t y ≡ b → (b || some t l) ≡ true → (some t l ≡ true → (x : A) × (x ∈ l) × (t x ≡ true))
          → (x : A) × (x ∈ (y ∷ l)) × (t x ≡ true)
      go true h k rest = (y, Memᴰ.head refl, h)
      go false h k rest = let w = rest k in (w.0, Memᴰ.tail w.1, w.2)

  -- and the other way round
  pub member_some : (l : List A) {x : A} → x ∈ l → t x ≡ true → some t l ≡ true
  unfolding some
  member_some [] i e = absurd (Memᴰ.not-nil i)
  member_some (y ∷ l) {x} i e = go (t y) refl (member_some l)
    where
      go : (b : Bool) → t y ≡ b → (x ∈ l → t x ≡ true → some t l ≡ true) → (b || some t l) ≡ true
      go true h rest = refl
      go false h rest = ⊎_elim (λ q. absurd (false≢true (sym h ∙ ap t (sym q) ∙ e))) (λ k. rest k e) (Memᴰ.cases_cons i)

  -- a test that holds for no member
  pub none_member : (l : List A) → some t l ≡ false → (x : A) → x ∈ l → t x ≡ false
  unfolding some
  none_member [] e x i = absurd (Memᴰ.not-nil i)
  none_member (y ∷ l) e x i = go (t y) refl e (none_member l)
    where
      go : (b : Bool) → t y ≡ b → (b || some t l) ≡ false → (some t l ≡ false → (x : A) → x ∈ l → t x ≡ false) → t x ≡ false
      go true h k rest = absurd (true≢false k)
      go false h k rest = ⊎_elim (λ q. ap t q ∙ h) (rest k x) (Memᴰ.cases_cons i)

  -- and the other way round
  pub none_some : (l : List A) → ((x : A) → x ∈ l → t x ≡ false) → some t l ≡ false
  unfolding some
  none_some [] h = refl
  none_some (y ∷ l) h = rw (h y (Memᴰ.head refl)) (none_some l (λ x i. h x (Memᴰ.tail i)))

-- ---- the answer of a list

module _ {A : Type 0} (inner : A → A → Bool) where
  -- the first is not inside the second, of an element and a later one
  abbrev pub NotInside : A → A → Type 0
  NotInside q p = inner p q ≡ false

  -- where the first has position k
  stands_from : (k : ℕ) (l : List A) → standing_from inner k l ≡ stands → Apart NotInside l
  unfolding standing_from
  stands_from k [] e = none
  stands_from k (q ∷ later) e = go (some (λ p. inner p q) later) refl e (stands_from (suc k) later)
    where
      go : (b : Bool) → some (λ p. inner p q) later ≡ b → cond b (broken_at k) (standing_from inner (suc k) later) ≡ stands
          → (standing_from inner (suc k) later ≡ stands → Apart NotInside later) → Apart NotInside (q ∷ later)
      go true h c rest = absurd (let z : ◌≡◌ {A = ℕ} 0 1 = cc in let bad : ⊥ = omega arith in bad)
      go false h c rest = more (none_member (λ p. inner p q) later h) (rest c)

  -- and back
  from_apart : (k : ℕ) (l : List A) → Apart NotInside l → standing_from inner k l ≡ stands
  unfolding standing_from
  from_apart k [] none = refl
  from_apart k (q ∷ later) (more h a) = rw (none_some (λ p. inner p q) later h) (from_apart (suc k) later a)

  -- it stands exactly if no element has a later one inside it
  pub stands_apart : (l : List A) → standing inner l ≡ stands → Apart NotInside l
  unfolding standing
  stands_apart l e = stands_from 0 l e

  -- and the other way round
  pub apart_stands : (l : List A) → Apart NotInside l → standing inner l ≡ stands
  unfolding standing
  apart_stands l a = from_apart 0 l a

  -- position k is the first with a later element inside the one there
  pub record FirstBroken (l : List A) (k : ℕ) : Type 0 where
    pub before : List A
    pub at : A
    pub behind : List A
    pub parts : l ≡ before ++ (at ∷ behind)
    pub position : length before ≡ k
    pub inside : (p : A) × (p ∈ behind) × (inner p at ≡ true)
    pub earlier : (front : List A) (q : A) (middle : List A) → before ≡ front ++ (q ∷ middle)
        → (p : A) → p ∈ (middle ++ (at ∷ behind)) → inner p q ≡ false

  -- an element in front of a list that is broken further on
  one_more : (q : A) (l : List A) {k : ℕ} → some (λ p. inner p q) l ≡ false → FirstBroken l k → FirstBroken (q ∷ l) (suc k)
  one_more q l h w = record {
    before = q ∷ w.before;
    at = w.at;
    behind = w.behind;
    parts = ap (λ m. q ∷ m) w.parts;
    position = ap suc w.position;
    inside = w.inside;
    earlier = first;
  }
    where
      first : (front : List A) (r : A) (middle : List A) → q ∷ w.before ≡ front ++ (r ∷ middle)
          → (p : A) → p ∈ (middle ++ (w.at ∷ w.behind)) → inner p r ≡ false
      first [] r middle e p i =
          let same : w.before ≡ middle = cc in
          let is : q ≡ r = cc in
          let listed : p ∈ l = subst (λ m. p ∈ m) (ap (λ m. m ++ (w.at ∷ w.behind)) (sym same) ∙ sym w.parts) i in
          ap (inner p) (sym is) ∙ none_member (λ p. inner p q) l h p listed
      first (x ∷ front) r middle e p i = let rest : w.before ≡ front ++ (r ∷ middle) = cc in w.earlier front r middle rest p i

  -- where the first has position j: i positions further on
  broken_from : (j : ℕ) (l : List A) (k : ℕ) → standing_from inner j l ≡ broken_at k → (i : ℕ) × (j + i ≡ k) × FirstBroken l i
  unfolding standing_from
  broken_from j [] k e = absurd (let z : ◌≡◌ {A = ℕ} 0 1 = cc in let bad : ⊥ = omega arith in bad)
  broken_from j (q ∷ later) k e = go (some (λ p. inner p q) later) refl e (broken_from (suc j) later k)
    where
      go : (b : Bool) → some (λ p. inner p q) later ≡ b → cond b (broken_at j) (standing_from inner (suc j) later) ≡ broken_at k
          → (standing_from inner (suc j) later ≡ broken_at k → (i : ℕ) × (suc j + i ≡ k) × FirstBroken later i)
          → (i : ℕ) × (j + i ≡ k) × FirstBroken (q ∷ later) i
      go true h c rest =
          let same : j ≡ k = cc in (
            0,
            omega (arith, same),
            record {
              before = [];
              at = q;
              behind = later;
              parts = refl;
              position = refl;
              inside = some_member (λ p. inner p q) later h;
              earlier = λ front r middle x p i. absurd (nothing_before front r middle x);
            },
          )
        where
          nothing_before : (front : List A) (r : A) (middle : List A) → [] ≡ front ++ (r ∷ middle) → ⊥
          nothing_before [] r middle x = let z : length (r ∷ middle) ≡ 0 = ap length (sym x) in omega arith
          nothing_before (y ∷ front) r middle x = let z : length (y ∷ (front ++ (r ∷ middle))) ≡ 0 = ap length (sym x) in omega arith
      go false h c rest = let w = rest c in (suc w.0, omega (arith, w.1), one_more q later h w.2)

  -- the answer names the first such position
  pub broken_means : (l : List A) (k : ℕ) → standing inner l ≡ broken_at k → FirstBroken l k
  unfolding standing
  broken_means l k e =
      let w = broken_from 0 l k e in
      let same : w.0 ≡ k = omega (arith, w.1) in
      subst (FirstBroken l) same w.2

  -- and back, where the first has position j
  means_from : (j : ℕ) (before : List A) (at : A) (behind : List A) → (p : A) × (p ∈ behind) × (inner p at ≡ true)
      → ((front : List A) (q : A) (middle : List A) → before ≡ front ++ (q ∷ middle) → (p : A) → p ∈ (middle ++ (at ∷ behind)) → inner p q ≡ false)
      → standing_from inner j (before ++ (at ∷ behind)) ≡ broken_at (j + length before)
  unfolding standing_from
  means_from j [] at behind w first =
      let same : j ≡ j + 0 = omega arith in
      rw (member_some (λ p. inner p at) behind w.1 w.2) (ap broken_at same)
  means_from j (q ∷ before) at behind w first =
      let same : suc j + length before ≡ j + suc (length before) = omega arith in
      rw (none_some (λ p. inner p q) (before ++ (at ∷ behind)) (first [] q before refl))
      (means_from (suc j) before at behind w (λ front r middle e. first (q ∷ front) r middle (ap (λ m. q ∷ m) e)) ∙ ap broken_at same)

  -- and no other answer does
  pub means_broken : (l : List A) (k : ℕ) → FirstBroken l k → standing inner l ≡ broken_at k
  unfolding standing
  means_broken l k w =
      let same : 0 + length w.before ≡ k = omega (arith, w.position) in
      ap (standing_from inner 0) w.parts ∙ means_from 0 w.before w.at w.behind w.inside w.earlier ∙ ap broken_at same
