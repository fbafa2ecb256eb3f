-- Every text of the grammar is read, with its reading, if it nests no deeper than the limit.
use Prim.Native.Nat.{ℕ, suc, ◌+◌, ◌*◌, ◌≤◌, ◌<◌}
use mathlib.Core.Path.{◌≡◌, refl, sym, ap, ◌∙◌}
use mathlib.Core.Bool.{Bool, true, false, cond}
use mathlib.Core.List.{List, [], ◌∷◌, ◌++◌, append_assoc, append-nil}
use native.Mathlib.Omega.{arith}
use lib.ListN.{length}
use borrow.Author.Tests.{lt-ltb, le-leb}
use Rattle.formula.specs.Grammar.{Formula, number, raised, nesting, is_letter, Digits, one_digit, more_digits, Kind, sum, product, power, atom, Text, of_number, of_letter, of_parens, of_atom, of_raised, of_power, of_times, of_product, of_negative, of_plus, of_minus}
use Rattle.formula.specs.Reader.{Token, token, Left, none, negated, added, taken, sum_with, Factor, one, by, product_with, Level, State, expect, in_number, after_atom, after_caret, in_product, in_sum, failed, closed, step_sum, step_product, step_atom, step_number, step_caret, step_expect, step, reads, ends, finish, run, reading_of}
use Rattle.formula.proofs.Tokens.{token_digit, token_letter}
use Rattle.formula.proofs.Nesting.{larger_left, larger_right}

module _ (limit n : ℕ) where
  -- ---- what follows ends a number, an atom, a product: the reader is where it would be behind the whole of it

  abbrev NumberEnds : List ℕ → Type 0
  NumberEnds t =
      (k v : ℕ) (l : Left) (b : Factor) (ls : List Level)
      → run limit n (in_number k v l b ls) t ≡ run limit n (after_atom (number v) l b ls) t

  abbrev AtomEnds : List ℕ → Type 0
  AtomEnds t =
      (f : Formula) (l : Left) (b : Factor) (ls : List Level)
      → run limit n (after_atom f l b ls) t ≡ run limit n (in_product (product_with b f) l ls) t

  abbrev ProductEnds : List ℕ → Type 0
  ProductEnds t =
      (p : Formula) (l : Left) (ls : List Level) → run limit n (in_product p l ls) t ≡ run limit n (in_sum (sum_with l p) ls) t

  -- and a power, or a sum, with all that it may end in
  record PowerEnds (t : List ℕ) : Type 0 where
    number : NumberEnds t
    atom : AtomEnds t

  record SumEnds (t : List ℕ) : Type 0 where
    number : NumberEnds t
    atom : AtomEnds t
    product : ProductEnds t

  power_ends : {t : List ℕ} → SumEnds t → PowerEnds t
  power_ends e = record { number = e.number; atom = e.atom }

  -- ---- a text of each kind is read where it may stand: the reader comes to be behind it, at what follows

  abbrev Complete : Kind → Formula → List ℕ → Type 0
  Complete atom f u =
      (t : List ℕ) → NumberEnds t → (m : Bool) (l : Left) (b : Factor) (ls : List Level) → nesting f + length ls ≤ limit
      → run limit n (expect m l b ls) (u ++ t) ≡ run limit n (after_atom f l b ls) t
  Complete power f u =
      (t : List ℕ) → PowerEnds t → (m : Bool) (l : Left) (b : Factor) (ls : List Level) → nesting f + length ls ≤ limit
      → run limit n (expect m l b ls) (u ++ t) ≡ run limit n (in_product (product_with b f) l ls) t
  Complete product f u =
      (t : List ℕ) → PowerEnds t → (m : Bool) (l : Left) (ls : List Level) → nesting f + length ls ≤ limit
      → run limit n (expect m l one ls) (u ++ t) ≡ run limit n (in_product f l ls) t
  Complete sum f u =
      (t : List ℕ) → SumEnds t → (ls : List Level) → nesting f + length ls ≤ limit
      → run limit n (expect true none one ls) (u ++ t) ≡ run limit n (in_sum f ls) t

  -- ---- bytes that end what stands before them

  caret_ends : (t : List ℕ) → NumberEnds (94 ∷ t)
  unfolding step step_number run token is_letter
  caret_ends t = λ k v l b ls. refl

  star_ends : (t : List ℕ) → PowerEnds (42 ∷ t)
  unfolding step step_atom step_number run token is_letter
  star_ends t = record { number = λ k v l b ls. refl; atom = λ f l b ls. refl }

  plus_ends : (t : List ℕ) → SumEnds (43 ∷ t)
  unfolding step step_product step_atom step_number run token is_letter
  plus_ends t = record { number = λ k v l b ls. refl; atom = λ f l b ls. refl; product = λ p l ls. refl }

  minus_ends : (t : List ℕ) → SumEnds (45 ∷ t)
  unfolding step step_product step_atom step_number run token is_letter
  minus_ends t = record { number = λ k v l b ls. refl; atom = λ f l b ls. refl; product = λ p l ls. refl }

  closing_ends : (t : List ℕ) → SumEnds (41 ∷ t)
  unfolding step step_product step_atom step_number run token is_letter
  closing_ends t = record { number = λ k v l b ls. refl; atom = λ f l b ls. refl; product = λ p l ls. refl }

  text_ends : SumEnds []
  unfolding finish run
  text_ends = record { number = λ k v l b ls. refl; atom = λ f l b ls. refl; product = λ p l ls. refl }

  -- ---- steps

  regrouped : (q : State) (u w t : List ℕ) → run limit n q (u ++ w ++ t) ≡ run limit n q (u ++ (w ++ t))
  regrouped q u w t = ap (run limit n q) (append_assoc u w t)

  stepped : (q : State) (c : ℕ) (t : List ℕ) {x : Token} → token n c ≡ x → run limit n q (c ∷ t) ≡ run limit n (step limit q x) t
  unfolding run
  stepped q c t e = ap (λ x. run limit n (step limit q x) t) e

  passed : {x : Bool} (q : State) (t : List ℕ) → x ≡ true → run limit n (cond x q failed) t ≡ run limit n q t
  passed q t e = rw e

  digits_read_lem :
      {k v : ℕ} {u : List ℕ} → Digits k v u → k ≤ 7 → (t : List ℕ) (m : Bool) (l : Left) (b : Factor) (ls : List Level)
      → run limit n (expect m l b ls) (u ++ t) ≡ run limit n (in_number k v l b ls) t
  unfolding step step_expect step_number
  digits_read_lem (one_digit d h) r t m l b ls = stepped (expect m l b ls) (48 + d) t (token_digit n d h)
  digits_read_lem (more_digits {k} {v} {u} x d h) r t m l b ls =
      regrouped (expect m l b ls) u ((48 + d) ∷ []) t
      ∙ digits_read_lem x (omega arith) ((48 + d) ∷ t) m l b ls
      ∙ stepped (in_number k v l b ls) (48 + d) t (token_digit n d h)
      ∙ passed (in_number (suc k) (10 * v + d) l b ls) t (lt-ltb k 7 r)

  exponent_read :
      (f : Formula) (l : Left) (b : Factor) (ls : List Level) (d : ℕ) (t : List ℕ) → d ≤ 4
      → run limit n (after_atom f l b ls) (94 ∷ (48 + d) ∷ t) ≡ run limit n (in_product (product_with b (raised f d)) l ls) t
  unfolding step step_atom step_caret run token is_letter
  exponent_read f l b ls d t h =
      stepped (after_caret f l b ls) (48 + d) t (token_digit n d (omega arith))
      ∙ passed (in_product (product_with b (raised f d)) l ls) t (le-leb d 4 h)

  opening_read :
      (m : Bool) (l : Left) (b : Factor) (ls : List Level) (t : List ℕ) → length ls < limit
      → run limit n (expect m l b ls) (40 ∷ t) ≡ run limit n (expect true none one (record { left = l; factor = b } ∷ ls)) t
  unfolding step step_expect run token is_letter
  opening_read m l b ls t h = passed (expect true none one (record { left = l; factor = b } ∷ ls)) t (lt-ltb (length ls) limit h)

  complete : {k : Kind} {f : Formula} {u : List ℕ} → Text n k f u → Complete k f u
  unfolding nesting step step_expect step_product step_sum closed run token is_letter product_with sum_with
  complete (of_number {k} {v} x h) = λ t e m l b ls r. digits_read_lem x h t m l b ls ∙ e k v l b ls
  complete (of_letter c h) = λ t e m l b ls r. stepped (expect m l b ls) c t (token_letter n c h)
  complete (of_parens {u = u} x) = λ t e m l b ls r.
      opening_read m l b ls (u ++ (41 ∷ []) ++ t) (omega arith)
      ∙ regrouped (expect true none one (record { left = l; factor = b } ∷ ls)) u (41 ∷ []) t
      ∙ complete x (41 ∷ t) (closing_ends t) (record { left = l; factor = b } ∷ ls) (omega arith)
  complete (of_atom {f} x) = λ t e m l b ls r. complete x t e.number m l b ls r ∙ e.atom f l b ls
  complete (of_raised {f} {u} x d h) = λ t e m l b ls r.
      regrouped (expect m l b ls) u (94 ∷ (48 + d) ∷ []) t
      ∙ complete x (94 ∷ (48 + d) ∷ t) (caret_ends ((48 + d) ∷ t)) m l b ls r
      ∙ exponent_read f l b ls d t h
  complete (of_power x) = λ t e m l ls r. complete x t e m l one ls r
  complete (of_times {f} {g} {u} {w} x y) = λ t e m l ls r.
      regrouped (expect m l one ls) u (42 ∷ w) t
      ∙ complete x (42 ∷ (w ++ t)) (star_ends (w ++ t)) m l ls (larger_left (nesting f) (nesting g) (length ls) r)
      ∙ complete y t e false l (by f) ls (larger_right (nesting f) (nesting g) (length ls) r)
  complete (of_product {f} x) = λ t e ls r. complete x t (power_ends e) true none ls r ∙ e.product f none ls
  complete (of_negative {f} x) = λ t e ls r. complete x t (power_ends e) false negated ls r ∙ e.product f negated ls
  complete (of_plus {f} {g} {u} {w} x y) = λ t e ls r.
      regrouped (expect true none one ls) u (43 ∷ w) t
      ∙ complete x (43 ∷ (w ++ t)) (plus_ends (w ++ t)) ls (larger_left (nesting f) (nesting g) (length ls) r)
      ∙ complete y t (power_ends e) false (added f) ls (larger_right (nesting f) (nesting g) (length ls) r)
      ∙ e.product g (added f) ls
  complete (of_minus {f} {g} {u} {w} x y) = λ t e ls r.
      regrouped (expect true none one ls) u (45 ∷ w) t
      ∙ complete x (45 ∷ (w ++ t)) (minus_ends (w ++ t)) ls (larger_left (nesting f) (nesting g) (length ls) r)
      ∙ complete y t (power_ends e) false (taken f) ls (larger_right (nesting f) (nesting g) (length ls) r)
      ∙ e.product g (taken f) ls

pub formula_read : {n : ℕ} {f : Formula} {s : List ℕ} (limit : ℕ) → Text n sum f s → nesting f ≤ limit → reading_of limit n s ≡ reads f
unfolding reading_of ends finish run
formula_read {n} {f} {s} limit x h =
    ap (run limit n (expect true none one [])) (sym (append-nil s)) ∙ complete limit n x [] (text_ends limit n) [] (omega arith)
