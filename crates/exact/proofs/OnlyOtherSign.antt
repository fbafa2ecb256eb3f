-- One other crossed facet, over signs alone: in a simplex of the vertices 0, .., n, if the facet without vertex p is crossed,
-- then exactly one other facet is. `δ p` stands for the sign of the determinant of the facet without p, `σ p q` for the
-- lexicographic sign of the coefficients of vertex q in that facet; both with the sign (−1)^p, which changes nothing below.
use Prim.Native.Nat.{ℕ, suc, zero, ◌≤◌, ◌<◌}
use native.Mathlib.Omega.{arith}
use native.Mathlib.Decide.{ℕ_discrete}
use mathlib.Core.Path.{◌≡◌, refl, sym, ap, ap₂, subst₂, ◌∙◌}
use mathlib.Core.Logic.{◌≢◌}
use Rattle.exact.specs.Sign.{Sign, negative, nought, positive}
use Rattle.exact.specs.Simplex.{OnlyOther}
use Rattle.exact.proofs.SignLaws.{opposite, sign_times, CanCancel, plus_minus_any, plus_any_minus, any_plus_minus, any_minus_plus}
use Rattle.exact.proofs.LexSign.{opposite_opposite, opposite_fixed, sign_times_nought, sign_discrete}

-- what is known of the signs of a simplex
pub record SimplexSigns (n : ℕ) (δ : ℕ → Sign) (σ : ℕ → ℕ → Sign) : Type 0 where
  -- σ is antisymmetric
  pub antisymmetric : (p q : ℕ) → p ≤ n → q ≤ n → p ≢ q → σ q p ≡ opposite (σ p q)
  -- a sign among the δ comes with its opposite: their sum is 0
  pub balance : (p : ℕ) → p ≤ n → δ p ≢ nought → (q : ℕ) × (q ≤ n) × (δ q ≡ opposite (δ p))
  -- the three-term relation
  pub three :
      (p q r : ℕ) → p ≤ n → q ≤ n → r ≤ n → p ≢ q → q ≢ r → r ≢ p
      → CanCancel (sign_times (σ p q) (δ r)) (sign_times (σ q r) (δ p)) (sign_times (σ r p) (δ q))
  -- where the determinant is not 0, some coefficient of every vertex is not
  pub nonzero : (p q : ℕ) → p ≤ n → q ≤ n → δ p ≢ nought → p ≢ q → σ p q ≢ nought

-- the facet without p is crossed
pub record CrossedSigns (n : ℕ) (δ : ℕ → Sign) (σ : ℕ → ℕ → Sign) (p : ℕ) : Type 0 where
  pub determined : δ p ≢ nought
  pub agree : (q : ℕ) → q ≤ n → p ≢ q → σ p q ≡ δ p

-- ---- three signs of which two are known

positive_any_positive : {a x b : Sign} → a ≡ positive → b ≡ positive → CanCancel a x b → x ≡ negative
positive_any_positive {x} ea eb h = known (subst₂ (λ a b. CanCancel a x b) ea eb h)
  where
    known : {x : Sign} → CanCancel positive x positive → x ≡ negative
    known (plus_minus_any s) = refl
    known (any_minus_plus s) = refl

nought_any_positive : {a x b : Sign} → a ≡ nought → b ≡ positive → CanCancel a x b → x ≡ negative
nought_any_positive {x} ea eb h = known (subst₂ (λ a b. CanCancel a x b) ea eb h)
  where
    known : {x : Sign} → CanCancel nought x positive → x ≡ negative
    known (any_minus_plus s) = refl

positive_positive_any : {a b x : Sign} → a ≡ positive → b ≡ positive → CanCancel a b x → x ≡ negative
positive_positive_any {x} ea eb h = known (subst₂ (λ a b. CanCancel a b x) ea eb h)
  where
    known : {x : Sign} → CanCancel positive positive x → x ≡ negative
    known (plus_any_minus s) = refl
    known (any_plus_minus s) = refl

-- two equal signs that are not nought have a positive product
square : {a b : Sign} (s : Sign) → s ≢ nought → a ≡ s → b ≡ s → sign_times a b ≡ positive
unfolding sign_times opposite
square s h ea eb = ap₂ sign_times ea eb ∙ of s h
  where
    of : (s : Sign) → s ≢ nought → sign_times s s ≡ positive
    of negative h = refl
    of nought h = absurd (h refl)
    of positive h = refl

-- a product is negative only if one factor is the opposite of the other
negative_product : (t s : Sign) → sign_times t s ≡ negative → t ≡ opposite s
unfolding sign_times opposite
negative_product negative negative h = cc
negative_product negative nought h = cc
negative_product negative positive h = refl
negative_product nought negative h = cc
negative_product nought nought h = refl
negative_product nought positive h = cc
negative_product positive negative h = refl
negative_product positive nought h = cc
negative_product positive positive h = cc

opposite_nonzero : (s : Sign) → s ≢ nought → opposite s ≢ nought
unfolding opposite
opposite_nonzero s h e = h (sym (opposite_opposite s) ∙ ap opposite e)

-- where s is not nought, a sign is nought, or s, or the opposite of s
data OneOf (s t : Sign) : Type 0 where
  is_nought : t ≡ nought → OneOf s t
  is_same : t ≡ s → OneOf s t
  is_opposite : t ≡ opposite s → OneOf s t

one_of : (s t : Sign) → s ≢ nought → OneOf s t
unfolding opposite
one_of negative negative h = is_same refl
one_of negative nought h = is_nought refl
one_of negative positive h = is_opposite refl
one_of nought t h = absurd (h refl)
one_of positive negative h = is_opposite refl
one_of positive nought h = is_nought refl
one_of positive positive h = is_same refl

-- ---- the least of the vertices of one sign

-- q is the first below m, in the order "q before r if σ q r is s", of those whose δ is s
record Least (δ : ℕ → Sign) (σ : ℕ → ℕ → Sign) (s : Sign) (m q : ℕ) : Type 0 where
  low : q < m
  is : δ q ≡ s
  before : (r : ℕ) → r < m → δ r ≡ s → q ≢ r → σ q r ≡ s

-- what the search below m for the least gives
data Search (δ : ℕ → Sign) (σ : ℕ → ℕ → Sign) (s : Sign) (m : ℕ) : Type 0 where
  none : ((r : ℕ) → r < m → δ r ≢ s) → Search δ σ s m
  found : (q : ℕ) → Least δ σ s m q → Search δ σ s m

-- what holds of each number below m, and of m, holds of each below m + 1
pub below_suc : (P : ℕ → Type 0) (m : ℕ) → ((r : ℕ) → r < m → P r) → P m → (r : ℕ) → r < suc m → P r
below_suc P m h k r l = go (ℕ_discrete r m)
  where
    go : Dec (r ≡ m) → P r
    go (yes e) = rw e k
    go (no d) = h r (omega arith)

module _ {n : ℕ} {δ : ℕ → Sign} {σ : ℕ → ℕ → Sign} (facts : SimplexSigns n δ σ) (s : Sign) (s≢nought : s ≢ nought) where
  -- the order is transitive
  before_trans :
      (q r w : ℕ) → q ≤ n → r ≤ n → w ≤ n → q ≢ r → r ≢ w → w ≢ q → δ q ≡ s → δ r ≡ s → δ w ≡ s → σ q r ≡ s
      → σ r w ≡ s → σ q w ≡ s
  before_trans q r w q≤ r≤ w≤ qr rw' wq dq dr dw h k =
      facts.antisymmetric w q w≤ q≤ wq ∙ ap opposite back ∙ opposite_opposite s
    where
      product : sign_times (σ w q) (δ r) ≡ negative
      product = positive_positive_any (square s s≢nought h dw) (square s s≢nought k dq) (facts.three q r w q≤ r≤ w≤ qr rw' wq)

      back : σ w q ≡ opposite s
      back = negative_product (σ w q) (δ r) product ∙ ap opposite dr

  -- of the vertices below m + 1, where the m-th has the sign s too and q is the least of the others
  least_of_more : (m q : ℕ) → m ≤ n → δ m ≡ s → Least δ σ s m q → Search δ σ s (suc m)
  least_of_more m q m≤ dm l = go (one_of s (σ q m) s≢nought)
    where
      q≤ : q ≤ n
      q≤ = omega (arith, l.low)

      q≢m : q ≢ m
      q≢m e = omega (arith, l.low)

      go : OneOf s (σ q m) → Search δ σ s (suc m)
      go (is_nought e) = absurd (facts.nonzero q m q≤ m≤ (λ z. s≢nought (sym l.is ∙ z)) q≢m e)
      go (is_same e) = found q (record { low = omega (arith, l.low); is = l.is; before = below_suc _ m l.before (λ h k. e) })
      go (is_opposite e) = found m (record { low = omega arith; is = dm; before = below_suc _ m after (λ h k. absurd (k refl)) })
        where
          first : σ m q ≡ s
          first = facts.antisymmetric q m q≤ m≤ q≢m ∙ ap opposite e ∙ opposite_opposite s

          after : (r : ℕ) → r < m → δ r ≡ s → m ≢ r → σ m r ≡ s
          after r h dr m≢r = among (ℕ_discrete q r)
            where
              among : Dec (q ≡ r) → σ m r ≡ s
              among (yes e) = rw (← e) first
              among (no d) = before_trans m q r m≤ q≤ (omega arith) (λ z. q≢m (sym z)) d (λ z. m≢r (sym z)) dm l.is dr first (l.before r h dr d)

  -- of the vertices below m: none has the sign s, or one of those that have is the least
  least : (m : ℕ) → m ≤ suc n → Search δ σ s m
  least zero le = none (λ r h. absurd (omega arith))
  least (suc m) le = go (least m (omega arith)) (sign_discrete (δ m) s)
    where
      go : Search δ σ s m → Dec (δ m ≡ s) → Search δ σ s (suc m)
      go (none f) (yes e) = found m (record { low = omega arith; is = e; before = below_suc _ m (λ r h dr k. absurd (f r h dr)) (λ h k. absurd (k refl)) })
      go (found q l) (yes e) = least_of_more m q (omega arith) e l
      go (none f) (no d) = none (below_suc _ m f d)
      go (found q l) (no d) = found q (record { low = omega (arith, l.low); is = l.is; before = below_suc _ m l.before (λ h k. absurd (d h)) })

-- ---- the theorem

-- No other facet of p's sign is crossed, since σ p r and σ r p are opposite. Of the vertices of the opposite sign the least one's
-- facet is crossed: within that sign because it is the least, and on all others by the three-term relation with p.

module _ {n : ℕ} {δ : ℕ → Sign} {σ : ℕ → ℕ → Sign} (facts : SimplexSigns n δ σ) (p : ℕ) (p≤ : p ≤ n) (c : CrossedSigns n δ σ p) where
  -- seen from another vertex q, p has the opposite sign
  back : (q : ℕ) → q ≤ n → p ≢ q → σ q p ≡ opposite (δ p)
  back q q≤ d = facts.antisymmetric p q p≤ q≤ d ∙ ap opposite (c.agree q q≤ d)

  -- another crossed facet has the opposite sign
  pub other_opposite : (r : ℕ) → r ≤ n → p ≢ r → CrossedSigns n δ σ r → δ r ≡ opposite (δ p)
  other_opposite r r≤ d cr = sym (cr.agree p p≤ (λ z. d (sym z))) ∙ back r r≤ d

  -- where δ q is the opposite sign, σ q agrees with it on every vertex whose δ is not that
  agree_across : (q r : ℕ) → q ≤ n → r ≤ n → q ≢ r → δ q ≡ opposite (δ p) → δ r ≢ opposite (δ p) → σ q r ≡ opposite (δ p)
  agree_across q r q≤ r≤ qr dq dr = go (ℕ_discrete p r) (one_of (δ p) (δ r) c.determined)
    where
      pq : p ≢ q
      pq e = c.determined (opposite_fixed (δ p) (ap δ e ∙ dq))

      -- the third product of the three-term relation is positive
      third : p ≢ r → sign_times (σ r p) (δ q) ≡ positive
      third pr = square (opposite (δ p)) (opposite_nonzero (δ p) c.determined) (back r r≤ pr) dq

      relation : p ≢ r → CanCancel (sign_times (σ p q) (δ r)) (sign_times (σ q r) (δ p)) (sign_times (σ r p) (δ q))
      relation pr = facts.three p q r p≤ q≤ r≤ pq qr (λ z. pr (sym z))

      go : Dec (p ≡ r) → OneOf (δ p) (δ r) → σ q r ≡ opposite (δ p)
      go (yes e) w = rw (← e) (back q q≤ pq)
      go (no pr) (is_nought e) =
          negative_product (σ q r) (δ p)
          (nought_any_positive (ap (sign_times (σ p q)) e ∙ sign_times_nought (σ p q)) (third pr) (relation pr))
      go (no pr) (is_same e) =
          negative_product (σ q r) (δ p)
          (positive_any_positive (square (δ p) c.determined (c.agree q q≤ pq) e) (third pr) (relation pr))
      go (no pr) (is_opposite e) = absurd (dr e)

  -- exactly one other facet is crossed
  pub only_other_sign : (q : ℕ) × OnlyOther n (CrossedSigns n δ σ) p q
  only_other_sign = go (least facts (opposite (δ p)) (opposite_nonzero (δ p) c.determined) (suc n) (omega arith))
    where
      go : Search δ σ (opposite (δ p)) (suc n) → (q : ℕ) × OnlyOther n (CrossedSigns n δ σ) p q
      go (none f) = let (q, q≤, e) = facts.balance p p≤ c.determined in absurd (f q (omega arith) e)
      go (found q l) = (q, record { low = q≤; other = other; crosses = crosses; only = only })
        where
          q≤ : q ≤ n
          q≤ = omega (arith, l.low)

          other : p ≢ q
          other e = c.determined (opposite_fixed (δ p) (ap δ e ∙ l.is))

          agree : (r : ℕ) → r ≤ n → q ≢ r → σ q r ≡ δ q
          agree r r≤ d = of (sign_discrete (δ r) (opposite (δ p))) ∙ sym l.is
            where
              of : Dec (δ r ≡ opposite (δ p)) → σ q r ≡ opposite (δ p)
              of (yes e) = l.before r (omega arith) e d
              of (no k) = agree_across q r q≤ r≤ d l.is k

          crosses : CrossedSigns n δ σ q
          crosses = record { determined = λ z. opposite_nonzero (δ p) c.determined (sym l.is ∙ z); agree = agree }

          -- two crossed facets of one sign would each come before the other
          only : (r : ℕ) → r ≤ n → p ≢ r → CrossedSigns n δ σ r → r ≡ q
          only r r≤ pr cr = same (ℕ_discrete r q)
            where
              same : Dec (r ≡ q) → r ≡ q
              same (yes e) = e
              same (no d) = absurd (cr.determined (opposite_fixed (δ r) swapped))
                where
                  d' : q ≢ r
                  d' e = d (sym e)

                  swapped : δ r ≡ opposite (δ r)
                  swapped =
                      sym (cr.agree q q≤ d)
                      ∙ facts.antisymmetric q r q≤ r≤ d'
                      ∙ ap opposite (agree r r≤ d' ∙ l.is ∙ sym (other_opposite r r≤ pr cr))
