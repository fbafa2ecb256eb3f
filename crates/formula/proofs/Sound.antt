-- What is read is a text of the grammar with that reading, and nests no deeper than the limit.
use Prim.Native.Nat.{ℕ, suc, ◌+◌, ◌*◌, ◌≤◌, ◌<◌}
use mathlib.Core.Path.{◌≡◌, refl, sym, ap, subst, ◌∙◌}
use mathlib.Core.Bool.{Bool, true, false, cond, false≢true}
use mathlib.Core.List.{List, [], ◌∷◌, ◌++◌, append_assoc, append-nil}
use native.Mathlib.Omega.{arith}
use lib.Dec.{leb, ltb}
use lib.ListN.{length}
use borrow.Author.Tests.{ltb-true, leb-true}
use Rattle.formula.specs.Grammar.{Formula, number, parens, raised, times, plus, minus, negative, nesting, Digits, one_digit, more_digits, Kind, sum, product, power, atom, Text, of_number, of_letter, of_parens, of_atom, of_raised, of_power, of_times, of_product, of_negative, of_plus, of_minus}
use Rattle.formula.specs.Reader.{Token, Left, none, negated, added, taken, sum_with, Factor, one, by, product_with, Level, State, expect, in_number, after_atom, after_caret, in_product, in_sum, failed, closed, step_sum, step_product, step_atom, step_number, step_caret, step_expect, step, Reading, outside, reads, ends, finish, run, reading_of, token}
use Rattle.formula.specs.Read.{is_read}
use Rattle.formula.proofs.Tokens.{Means, a_digit, a_letter, an_opening, a_closing, a_star, a_plus, a_minus, a_caret, a_foreign, means}
use Rattle.formula.proofs.Nesting.{larger_within}

-- ---- readings told apart

-- the formula of a reading, or g
formula_or : Formula → Reading → Formula
formula_or g outside = g
formula_or g (reads f) = f

pub reads_one : {f g : Formula} → reads f ≡ reads g → f ≡ g
unfolding formula_or
reads_one {f} e = ap (formula_or f) e

pub outside_reads_none : {f : Formula} → outside ≡ reads f → ⊥
unfolding is_read
outside_reads_none e = false≢true (ap is_read e)

-- a byte between two texts
between : (w u y : List ℕ) (c : ℕ) → w ++ (u ++ (c ∷ y)) ≡ w ++ u ++ (c ∷ []) ++ y
between w u y c = sym (append_assoc w u (c ∷ y)) ∙ sym (append_assoc (w ++ u) (c ∷ []) y)

module _ (limit n : ℕ) where
  -- a text inside d open parentheses
  record Part (d : ℕ) (k : Kind) (f : Formula) (u : List ℕ) : Type 0 where
    text : Text n k f u
    within : nesting f + d ≤ limit

  -- the text before an atom: it begins, or it ends in (, the optional minus, + or -, or *
  data Before : Left → Factor → List Level → List ℕ → Type 0 where
    at_begin : Before none one [] []
    opened :
        {x : Level} {ls : List Level} {w : List ℕ} → Before x.left x.factor ls w → length ls < limit
        → Before none one (x ∷ ls) (w ++ (40 ∷ []))
    by_negation : {ls : List Level} {w : List ℕ} → Before none one ls w → Before negated one ls (w ++ (45 ∷ []))
    by_plus :
        {f : Formula} {ls : List Level} {w u : List ℕ} → Before none one ls w → Part (length ls) sum f u
        → Before (added f) one ls (w ++ u ++ (43 ∷ []))
    by_minus :
        {f : Formula} {ls : List Level} {w u : List ℕ} → Before none one ls w → Part (length ls) sum f u
        → Before (taken f) one ls (w ++ u ++ (45 ∷ []))
    by_star :
        {l : Left} {f : Formula} {ls : List Level} {w u : List ℕ} → Before l one ls w → Part (length ls) product f u
        → Before l (by f) ls (w ++ u ++ (42 ∷ []))

  depth_within : {l : Left} {b : Factor} {ls : List Level} {s : List ℕ} → Before l b ls s → length ls ≤ limit
  depth_within at_begin = omega arith
  depth_within (opened x h) = h
  depth_within (by_negation x) = depth_within x
  depth_within (by_plus x p) = depth_within x
  depth_within (by_minus x p) = depth_within x
  depth_within (by_star x p) = depth_within x

  -- the text behind an atom, a power, a product or a sum
  data Behind : Left → Factor → List Level → Kind → Formula → List ℕ → Type 0 where
    behind :
        {l : Left} {b : Factor} {ls : List Level} {k : Kind} {f : Formula} {w u : List ℕ} → Before l b ls w → Part (length ls) k f u
        → Behind l b ls k f (w ++ u)

  -- the text that brings the reader to a state
  data Holds : State → List ℕ → Type 0 where
    before_sum : {ls : List Level} {s : List ℕ} → Before none one ls s → Holds (expect true none one ls) s
    before_atom : {l : Left} {b : Factor} {ls : List Level} {s : List ℕ} → Before l b ls s → Holds (expect false l b ls) s
    in_number_lem :
        {k v : ℕ} {l : Left} {b : Factor} {ls : List Level} {w u : List ℕ} → Before l b ls w → Digits k v u → k ≤ 7
        → Holds (in_number k v l b ls) (w ++ u)
    behind_atom :
        {f : Formula} {l : Left} {b : Factor} {ls : List Level} {s : List ℕ} → Behind l b ls atom f s → Holds (after_atom f l b ls) s
    behind_caret :
        {f : Formula} {l : Left} {b : Factor} {ls : List Level} {s : List ℕ} → Behind l b ls atom f s
        → Holds (after_caret f l b ls) (s ++ (94 ∷ []))
    behind_power : {f : Formula} {l : Left} {ls : List Level} {s : List ℕ} → Behind l one ls product f s → Holds (in_product f l ls) s
    behind_sum : {f : Formula} {ls : List Level} {s : List ℕ} → Behind none one ls sum f s → Holds (in_sum f ls) s
    nowhere : {s : List ℕ} → Holds failed s

  -- ---- operands are joined

  power_of_lem : {l : Left} {b : Factor} {ls : List Level} {f : Formula} {s : List ℕ} → Behind l b ls atom f s → Behind l b ls power f s
  power_of_lem (behind x p) = behind x (record { text = of_atom p.text; within = p.within })

  factor_joined :
      {l : Left} (b : Factor) {ls : List Level} {f : Formula} {w u : List ℕ} → Before l b ls w → Part (length ls) power f u
      → Behind l one ls product (product_with b f) (w ++ u)
  unfolding product_with nesting
  factor_joined one x p = behind x (record { text = of_power p.text; within = p.within })
  factor_joined {l} (by g) {ls} {f} {u = y} (by_star {w = w} {u} x q) p =
      let within = larger_within (nesting g) (nesting f) (length ls) q.within p.within in
      subst (Behind l one ls product (times g f)) (between w u y 42)
      (behind x (record { text = of_times q.text p.text; within = within }))

  product_of_lem :
      {l : Left} {b : Factor} {ls : List Level} {f : Formula} {s : List ℕ} → Behind l b ls power f s
      → Behind l one ls product (product_with b f) s
  product_of_lem {b = b} (behind x p) = factor_joined b x p

  left_joined :
      (l : Left) {ls : List Level} {f : Formula} {w u : List ℕ} → Before l one ls w → Part (length ls) product f u
      → Behind none one ls sum (sum_with l f) (w ++ u)
  unfolding sum_with nesting
  left_joined none x p = behind x (record { text = of_product p.text; within = p.within })
  left_joined negated {ls} {f} {u = y} (by_negation {w = w} x) p =
      subst (Behind none one ls sum (negative f)) (sym (append_assoc w (45 ∷ []) y))
      (behind x (record { text = of_negative p.text; within = p.within }))
  left_joined (added g) {ls} {f} {u = y} (by_plus {w = w} {u} x q) p =
      let within = larger_within (nesting g) (nesting f) (length ls) q.within p.within in
      subst (Behind none one ls sum (plus g f)) (between w u y 43)
      (behind x (record { text = of_plus q.text p.text; within = within }))
  left_joined (taken g) {ls} {f} {u = y} (by_minus {w = w} {u} x q) p =
      let within = larger_within (nesting g) (nesting f) (length ls) q.within p.within in
      subst (Behind none one ls sum (minus g f)) (between w u y 45)
      (behind x (record { text = of_minus q.text p.text; within = within }))

  sum_of : {l : Left} {ls : List Level} {f : Formula} {s : List ℕ} → Behind l one ls product f s → Behind none one ls sum (sum_with l f) s
  sum_of {l} (behind x p) = left_joined l x p

  parens_of :
      {ls : List Level} {f : Formula} {w u : List ℕ} → Before none one ls w → Part (length ls) sum f u → Holds (closed f ls) (w ++ u ++ (41 ∷ []))
  unfolding closed nesting
  parens_of at_begin p = nowhere
  parens_of {f = f} {u = u} (opened {x = l} {ls} {w} x h) p =
      behind_atom (subst (Behind l.left l.factor ls atom (parens f)) same
      (behind x (record { text = of_parens p.text; within = omega (arith, p.within) })))
    where
      same : w ++ (40 ∷ (u ++ (41 ∷ []))) ≡ w ++ (40 ∷ []) ++ u ++ (41 ∷ [])
      same = sym (append_assoc w (40 ∷ []) (u ++ (41 ∷ []))) ∙ sym (append_assoc (w ++ (40 ∷ [])) u (41 ∷ []))

  -- ---- each step keeps it

  if_passed : {q : State} {s : List ℕ} (x : Bool) → (x ≡ true → Holds q s) → Holds (cond x q failed) s
  if_passed true h = h refl
  if_passed false h = nowhere

  sum_step :
      {f : Formula} {ls : List Level} {s : List ℕ} {c : ℕ} {t : Token} → Behind none one ls sum f s → Means n c t
      → Holds (step_sum f ls t) (s ++ (c ∷ []))
  unfolding step_sum
  sum_step (behind x p) (a_digit d h) = nowhere
  sum_step (behind x p) (a_letter b h) = nowhere
  sum_step (behind x p) an_opening = nowhere
  sum_step (behind x p) a_closing = parens_of x p
  sum_step (behind x p) a_star = nowhere
  sum_step (behind x p) a_plus = before_atom (by_plus x p)
  sum_step (behind x p) a_minus = before_atom (by_minus x p)
  sum_step (behind x p) a_caret = nowhere
  sum_step (behind x p) a_foreign = nowhere

  product_step :
      {f : Formula} {l : Left} {ls : List Level} {s : List ℕ} {c : ℕ} {t : Token} → Behind l one ls product f s → Means n c t
      → Holds (step_product f l ls t) (s ++ (c ∷ []))
  unfolding step_product
  product_step (behind x p) a_star = before_atom (by_star x p)
  product_step (behind x p) (a_digit d h) = sum_step (sum_of (behind x p)) (a_digit d h)
  product_step (behind x p) (a_letter b h) = sum_step (sum_of (behind x p)) (a_letter b h)
  product_step (behind x p) an_opening = sum_step (sum_of (behind x p)) an_opening
  product_step (behind x p) a_closing = sum_step (sum_of (behind x p)) a_closing
  product_step (behind x p) a_plus = sum_step (sum_of (behind x p)) a_plus
  product_step (behind x p) a_minus = sum_step (sum_of (behind x p)) a_minus
  product_step (behind x p) a_caret = sum_step (sum_of (behind x p)) a_caret
  product_step (behind x p) a_foreign = sum_step (sum_of (behind x p)) a_foreign

  atom_step :
      {f : Formula} {l : Left} {b : Factor} {ls : List Level} {s : List ℕ} {c : ℕ} {t : Token} → Behind l b ls atom f s → Means n c t
      → Holds (step_atom f l b ls t) (s ++ (c ∷ []))
  unfolding step_atom
  atom_step x a_caret = behind_caret x
  atom_step x (a_digit d h) = product_step (product_of_lem (power_of_lem x)) (a_digit d h)
  atom_step x (a_letter b h) = product_step (product_of_lem (power_of_lem x)) (a_letter b h)
  atom_step x an_opening = product_step (product_of_lem (power_of_lem x)) an_opening
  atom_step x a_closing = product_step (product_of_lem (power_of_lem x)) a_closing
  atom_step x a_star = product_step (product_of_lem (power_of_lem x)) a_star
  atom_step x a_plus = product_step (product_of_lem (power_of_lem x)) a_plus
  atom_step x a_minus = product_step (product_of_lem (power_of_lem x)) a_minus
  atom_step x a_foreign = product_step (product_of_lem (power_of_lem x)) a_foreign

  number_of :
      {k v : ℕ} {l : Left} {b : Factor} {ls : List Level} {w u : List ℕ} → Before l b ls w → Digits k v u → k ≤ 7
      → Behind l b ls atom (number v) (w ++ u)
  unfolding nesting
  number_of x y h = behind x (record { text = of_number y h; within = omega (arith, depth_within x) })

  number_step :
      {k v : ℕ} {l : Left} {b : Factor} {ls : List Level} {w u : List ℕ} {c : ℕ} {t : Token} → Before l b ls w → Digits k v u → k ≤ 7
      → Means n c t → Holds (step_number k v l b ls t) (w ++ u ++ (c ∷ []))
  unfolding step_number
  number_step {k} {v} {l} {b} {ls} {w} {u} x y h (a_digit d e) =
      subst (Holds (cond (ltb k 7) (in_number (suc k) (10 * v + d) l b ls) failed)) (sym (append_assoc w u ((48 + d) ∷ [])))
      (if_passed (ltb k 7) (λ g. in_number_lem x (more_digits y d e) (ltb-true k 7 g)))
  number_step x y h (a_letter b e) = atom_step (number_of x y h) (a_letter b e)
  number_step x y h an_opening = atom_step (number_of x y h) an_opening
  number_step x y h a_closing = atom_step (number_of x y h) a_closing
  number_step x y h a_star = atom_step (number_of x y h) a_star
  number_step x y h a_plus = atom_step (number_of x y h) a_plus
  number_step x y h a_minus = atom_step (number_of x y h) a_minus
  number_step x y h a_caret = atom_step (number_of x y h) a_caret
  number_step x y h a_foreign = atom_step (number_of x y h) a_foreign

  raised_of :
      {f : Formula} {l : Left} {b : Factor} {ls : List Level} {s : List ℕ} → Behind l b ls atom f s → (d : ℕ) → d ≤ 4
      → Behind l b ls power (raised f d) (s ++ (94 ∷ []) ++ ((48 + d) ∷ []))
  unfolding nesting
  raised_of {f} {l} {b} {ls} (behind {w = w} {u} x p) d h =
      subst (Behind l b ls power (raised f d)) (between w u ((48 + d) ∷ []) 94)
      (behind x (record { text = of_raised p.text d h; within = p.within }))

  caret_step :
      {f : Formula} {l : Left} {b : Factor} {ls : List Level} {s : List ℕ} {c : ℕ} {t : Token} → Behind l b ls atom f s → Means n c t
      → Holds (step_caret f l b ls t) (s ++ (94 ∷ []) ++ (c ∷ []))
  unfolding step_caret
  caret_step x (a_digit d h) = if_passed (leb d 4) (λ g. behind_power (product_of_lem (raised_of x d (leb-true d 4 g))))
  caret_step x (a_letter b h) = nowhere
  caret_step x an_opening = nowhere
  caret_step x a_closing = nowhere
  caret_step x a_star = nowhere
  caret_step x a_plus = nowhere
  caret_step x a_minus = nowhere
  caret_step x a_caret = nowhere
  caret_step x a_foreign = nowhere

  -- before an atom; what a minus does there is handed in
  before_step :
      {l : Left} {b : Factor} {ls : List Level} {s : List ℕ} {c : ℕ} {t : Token} (m : Bool) → Before l b ls s
      → Holds (cond m (expect false negated b ls) failed) (s ++ (45 ∷ [])) → Means n c t
      → Holds (step_expect limit m l b ls t) (s ++ (c ∷ []))
  unfolding step_expect nesting
  before_step m x y (a_digit d h) = in_number_lem x (one_digit d h) (omega arith)
  before_step m x y (a_letter b h) = behind_atom (behind x (record { text = of_letter b h; within = omega (arith, depth_within x) }))
  before_step {ls = ls} m x y an_opening = if_passed (ltb (length ls) limit) (λ g. before_sum (opened x (ltb-true (length ls) limit g)))
  before_step m x y a_minus = y
  before_step m x y a_closing = nowhere
  before_step m x y a_star = nowhere
  before_step m x y a_plus = nowhere
  before_step m x y a_caret = nowhere
  before_step m x y a_foreign = nowhere

  each_step : {q : State} {s : List ℕ} {c : ℕ} {t : Token} → Holds q s → Means n c t → Holds (step limit q t) (s ++ (c ∷ []))
  unfolding step
  each_step (before_sum x) m = before_step true x (before_atom (by_negation x)) m
  each_step (before_atom x) m = before_step false x nowhere m
  each_step (in_number_lem x y h) m = number_step x y h m
  each_step (behind_atom x) m = atom_step x m
  each_step (behind_caret x) m = caret_step x m
  each_step (behind_power x) m = product_step x m
  each_step (behind_sum x) m = sum_step x m
  each_step nowhere m = nowhere

  -- ---- to the end

  at_end : {g : Formula} {ls : List Level} {s : List ℕ} {f : Formula} → Behind none one ls sum g s → ends g ls ≡ reads f → Part 0 sum f s
  unfolding ends
  at_end {s = s} (behind at_begin p) e = subst (λ h. Part 0 sum h s) (reads_one e) p
  at_end (behind (opened x h) p) e = absurd (outside_reads_none e)

  finished : {q : State} {s : List ℕ} {f : Formula} → Holds q s → finish q ≡ reads f → Part 0 sum f s
  unfolding finish
  finished (before_sum x) e = absurd (outside_reads_none e)
  finished (before_atom x) e = absurd (outside_reads_none e)
  finished (in_number_lem x y h) e = at_end (sum_of (product_of_lem (power_of_lem (number_of x y h)))) e
  finished (behind_atom x) e = at_end (sum_of (product_of_lem (power_of_lem x))) e
  finished (behind_caret x) e = absurd (outside_reads_none e)
  finished (behind_power x) e = at_end (sum_of x) e
  finished (behind_sum x) e = at_end x e
  finished nowhere e = absurd (outside_reads_none e)

  run_sound : {q : State} {s : List ℕ} {f : Formula} (t : List ℕ) → Holds q s → run limit n q t ≡ reads f → Part 0 sum f (s ++ t)
  unfolding run
  run_sound {s = s} {f} [] x e = subst (Part 0 sum f) (sym (append-nil s)) (finished x e)
  run_sound {q = q} {s = s} {f} (c ∷ t) x e =
      subst (Part 0 sum f) (append_assoc s (c ∷ []) t) (run_sound {q = step limit q (token n c)} t (each_step x (means n c)) e)

pub read_formula : (limit n : ℕ) (s : List ℕ) {f : Formula} → reading_of limit n s ≡ reads f → Text n sum f s
unfolding reading_of
read_formula limit n s e = (run_sound limit n s (before_sum at_begin) e).text

pub read_nesting : (limit n : ℕ) (s : List ℕ) {f : Formula} → reading_of limit n s ≡ reads f → nesting f ≤ limit
unfolding reading_of
read_nesting limit n s e = let h = (run_sound limit n s (before_sum at_begin) e).within in omega arith
