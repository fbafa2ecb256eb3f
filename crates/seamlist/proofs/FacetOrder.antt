-- The order of facets: none is before itself, it is transitive, and of two facets of one dimension that differ one is before the other.
use Prim.Native.Nat.{ℕ}
use native.Mathlib.Omega.{arith}
use mathlib.Core.Path.{◌≡◌, refl, sym, ap₂, ◌∙◌}
use mathlib.Core.Bool.{Bool, true, false, cond, false≢true}
use mathlib.Core.Logic.{◌⊎◌, inl, inr, ⊎_elim}
use mathlib.Core.List.{List, [], ◌∷◌, ◌++◌, map}
use lib.IntN.{ℤ, pos, negsuc}
use lib.ListN.{length}
use lib.Dec.{lt→ltb, ltb→lt}
use lib.Signed.{le_z, ◌<ℤ◌}
use borrow.Author.Tests.{leb-false, le-leb, lt-leb}
use Rattle.exact.proofs.Linear.{split, linear}
use Rattle.curves.specs.Grid.{Facet}
use Rattle.curves.proofs.SameFacet.{le_z_refl, le_z_antisym, facet_path}
use Rattle.seamlist.specs.Seams.{lex_before, facet_key, facet_before}

-- ---- whole numbers

pub less_le : (x y : ℤ) → x <ℤ y → le_z x y ≡ true
less_le (pos a) (pos b) h = le-leb a b (omega (arith, ltb→lt a b h.lt))
less_le (pos a) (negsuc b) h = absurd h.lt
less_le (negsuc a) (pos b) h = refl
less_le (negsuc a) (negsuc b) h = le-leb b a (omega (arith, ltb→lt b a h.lt))

pub less_not_le : (x y : ℤ) → x <ℤ y → le_z y x ≡ false
less_not_le (pos a) (pos b) h = lt-leb b a (omega (arith, ltb→lt a b h.lt))
less_not_le (pos a) (negsuc b) h = absurd h.lt
less_not_le (negsuc a) (pos b) h = refl
less_not_le (negsuc a) (negsuc b) h = lt-leb a b (omega (arith, ltb→lt b a h.lt))

pub not_le_less : (x y : ℤ) → le_z y x ≡ false → x <ℤ y
not_le_less (pos a) (pos b) h = record { lt = lt→ltb a b (omega (arith, leb-false b a h)) }
not_le_less (pos a) (negsuc b) h = absurd (false≢true (sym h))
not_le_less (negsuc a) (pos b) h = record { lt = tt }
not_le_less (negsuc a) (negsuc b) h = record { lt = lt→ltb b a (omega (arith, leb-false a b h)) }

less_trans : (x y z : ℤ) → x <ℤ y → y <ℤ z → x <ℤ z
less_trans x y z = rw (split x, split y, split z) (simp linear (omega arith))

-- ---- lists of whole numbers

pub lex_less : (x y : ℤ) (v w : List ℤ) → x <ℤ y → lex_before (x ∷ v) (y ∷ w) ≡ true
unfolding lex_before
lex_less x y v w h = rw (less_le x y h, less_not_le x y h)

pub lex_same : (x : ℤ) (v w : List ℤ) → lex_before (x ∷ v) (x ∷ w) ≡ lex_before v w
unfolding lex_before
lex_same x v w = rw (le_z_refl x)

pub lex_cons : (x y : ℤ) (v w : List ℤ) → lex_before (x ∷ v) (y ∷ w) ≡ true → (x <ℤ y) ⊎ ((x ≡ y) × (lex_before v w ≡ true))
unfolding lex_before
lex_cons x y v w e = go (le_z x y) (le_z y x) refl refl e
  where
    go : (a b : Bool) → le_z x y ≡ a → le_z y x ≡ b → cond a (cond b (lex_before v w) true) false ≡ true → (x <ℤ y) ⊎ ((x ≡ y) × (lex_before v w ≡ true))
    go true true p q h = inr (le_z_antisym x y p q, h)
    go true false p q h = inl (not_le_less x y q)
    go false b p q h = absurd (false≢true h)

pub lex_irreflexive : (v : List ℤ) → lex_before v v ≡ false
unfolding lex_before
lex_irreflexive [] = refl
lex_irreflexive (x ∷ v) = lex_same x v v ∙ lex_irreflexive v

pub lex_transitive : (u v w : List ℤ) → lex_before u v ≡ true → lex_before v w ≡ true → lex_before u w ≡ true
unfolding lex_before
lex_transitive [] [] w h k = absurd (false≢true h)
lex_transitive [] (y ∷ v) [] h k = absurd (false≢true k)
lex_transitive [] (y ∷ v) (z ∷ w) h k = refl
lex_transitive (x ∷ u) [] w h k = absurd (false≢true h)
lex_transitive (x ∷ u) (y ∷ v) [] h k = absurd (false≢true k)
lex_transitive (x ∷ u) (y ∷ v) (z ∷ w) h k = ⊎_elim less (same (lex_transitive u v w)) (lex_cons x y u v h)
  where
    less : x <ℤ y → lex_before (x ∷ u) (z ∷ w) ≡ true
    less p = ⊎_elim (λ q. lex_less x z u w (less_trans x y z p q)) (λ q. rw (← q.0) (lex_less x y u w p)) (lex_cons y z v w k)

    same : (lex_before u v ≡ true → lex_before v w ≡ true → lex_before u w ≡ true) → (x ≡ y) × (lex_before u v ≡ true) → lex_before (x ∷ u) (z ∷ w) ≡ true
    same rest p =
        ⊎_elim
        (λ q. rw p.0 (lex_less y z u w q))
        (λ q. rw (p.0, q.0) (lex_same z u w ∙ rest p.1 q.1))
        (lex_cons y z v w k)

-- lists of which neither is before the other are equal
pub lex_total : (v w : List ℤ) → lex_before v w ≡ false → lex_before w v ≡ false → v ≡ w
unfolding lex_before
lex_total [] [] h k = refl
lex_total [] (y ∷ w) h k = absurd (false≢true (sym h))
lex_total (x ∷ v) [] h k = absurd (false≢true (sym k))
lex_total (x ∷ v) (y ∷ w) h k = go (le_z x y) (le_z y x) refl refl h k (lex_total v w)
  where
    go : (a b : Bool) → le_z x y ≡ a → le_z y x ≡ b → cond a (cond b (lex_before v w) true) false ≡ false
        → cond b (cond a (lex_before w v) true) false ≡ false → (lex_before v w ≡ false → lex_before w v ≡ false → v ≡ w) → x ∷ v ≡ y ∷ w
    go true true p q r s rest = ap₂ (λ a l. a ∷ l) (le_z_antisym x y p q) (rest r s)
    go true false p q r s rest = absurd (false≢true (sym r))
    go false true p q r s rest = absurd (false≢true (sym s))
    go false false p q r s rest = absurd (false≢true (sym p ∙ less_le x y (not_le_less x y q)))

-- ---- keys

-- lists of one length: the first difference decides of what stands behind them
pub lex_append_less : (v w a b : List ℤ) → length v ≡ length w → lex_before v w ≡ true → lex_before (v ++ a) (w ++ b) ≡ true
unfolding lex_before
lex_append_less [] [] a b l h = absurd (false≢true h)
lex_append_less [] (y ∷ w) a b l h = absurd (omega arith)
lex_append_less (x ∷ v) [] a b l h = absurd (omega arith)
lex_append_less (x ∷ v) (y ∷ w) a b l h =
    ⊎_elim (λ p. lex_less x y (v ++ a) (w ++ b) p) (λ p. rw (← p.0) (lex_same x (v ++ a) (w ++ b) ∙ lex_append_less v w a b (omega arith) p.1))
    (lex_cons x y v w h)

pub lex_append_same : (v a b : List ℤ) → lex_before (v ++ a) (v ++ b) ≡ lex_before a b
lex_append_same [] a b = refl
lex_append_same (x ∷ v) a b = lex_same x (v ++ a) (v ++ b) ∙ lex_append_same v a b

-- ---- facets

pub before_irreflexive : (f : Facet) → facet_before f f ≡ false
unfolding facet_before
before_irreflexive f = lex_irreflexive (facet_key f)

pub before_transitive : (f g h : Facet) → facet_before f g ≡ true → facet_before g h ≡ true → facet_before f h ≡ true
unfolding facet_before
before_transitive f g h = lex_transitive (facet_key f) (facet_key g) (facet_key h)

-- equal lists in two parts, the first of one length: the parts are equal
parts_equal : (v w a b : List ℤ) → length v ≡ length w → v ++ a ≡ w ++ b → (v ≡ w) × (a ≡ b)
parts_equal [] [] a b l e = (refl, e)
parts_equal [] (y ∷ w) a b l e = absurd (omega arith)
parts_equal (x ∷ v) [] a b l e = absurd (omega arith)
parts_equal (x ∷ v) (y ∷ w) a b l e =
    let heads : x ≡ y = cc in
    let tails : v ++ a ≡ w ++ b = cc in
    let rest = parts_equal v w a b (omega arith) tails in
    (ap₂ (λ z u. z ∷ u) heads rest.0, rest.1)

positions_equal : (l m : List ℕ) → map pos l ≡ map pos m → l ≡ m
positions_equal [] [] e = refl
positions_equal [] (y ∷ m) e = absurd (let z : ◌≡◌ {A = ℕ} 0 1 = cc in let bad : ⊥ = omega arith in bad)
positions_equal (x ∷ l) [] e = absurd (let z : ◌≡◌ {A = ℕ} 0 1 = cc in let bad : ⊥ = omega arith in bad)
positions_equal (x ∷ l) (y ∷ m) e =
    let heads : x ≡ y = cc in
    let tails : map pos l ≡ map pos m = cc in
    ap₂ (λ z u. z ∷ u) heads (positions_equal l m tails)

-- facets of one dimension of which neither is before the other are equal
pub before_total : (f g : Facet) → length f.low ≡ length g.low → facet_before f g ≡ false → facet_before g f ≡ false → f ≡ g
unfolding facet_before facet_key
before_total f g l h k =
    let p = parts_equal f.low g.low (map pos f.masks) (map pos g.masks) l (lex_total (facet_key f) (facet_key g) h k) in
    facet_path f g p.0 (positions_equal f.masks g.masks p.1)
