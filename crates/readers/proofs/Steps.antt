-- What each reader does, in the words of its contract: one law for each place where it goes on or returns.
use Prim.Native.Nat.{ℕ, suc, ◌+◌, ◌*◌, ◌-◌, ◌^◌, ◌≤◌, ◌<◌}
use mathlib.Core.Path.{◌≡◌, refl, sym, ap, subst, ◌∙◌}
use mathlib.Core.Bool.{Bool, true, false, cond, ◌&&◌, ◌||◌, true≢false}
use mathlib.Core.List.{List, [], ◌∷◌}
use mathlib.Core.Option.{Option}
use native.Mathlib.Omega.{arith}
use native.Mathlib.Numerals.{unary_clauses}
use native.Mathlib.Nat.{pow-le-pow_right, le_trans}
use lib.Dec.{lit<}
use lib.Dec.{leb, ltb}
use lib.ListN.{length, get_or}
use mir.Val.{bool_byte}
use borrow.Author.Tests.{leb-true, ltb-true, ltb-false, le-leb}
use Rattle.exact.proofs.AndTests.{and_left, and_right, and-true}
use Rattle.formula.specs.Grammar.{Formula, number, letter, parens, raised, times, is_letter, axis_of}
use Rattle.formula.specs.Polynomial.{Polynomial, constant, variable_polynomial, sum_of, difference_of, product_of}
use Rattle.formula.specs.Meaning.{on_result, on_results, power_of, evaluate}
use Rattle.formula.specs.Reader.{Token, digit, variable, opening, closing, star, plus_sign, minus_sign, caret, foreign, token, Left, none, negated, added, taken, Factor, one, by, Level, State, expect, in_number, after_atom, after_caret, in_product, in_sum, failed, Reading, sum_with, product_with, closed, step_sum, step_product, step_atom, step_number, step_caret, step_expect, step, ends, finish, reading_of, reads}
use Rattle.formula.specs.Read.{nesting_limit, is_read}
use Rattle.readers.specs.Ahead.{read_from, byte_is, is_digit, signed_by, AtomAhead, ProductAhead, SumAhead, AtomRead, PowerRead, ProductSoFar, ProductRead, SumSoFar, SumRead, NumberSoFar, NumberRead}
use Rattle.formula.proofs.Tokens.{Means, a_digit, a_letter, an_opening, a_closing, a_star, a_plus, a_minus, a_caret, a_foreign, means, token_letter}
use Rattle.readers.proofs.Tokens.{code_of, not_byte}
use Rattle.readers.proofs.Machine.{byte_inside, byte_is_lem, byte_is_inside, read_byte, read_end, same_from, alive_inside, not_failed}

-- ---- one byte

-- a known byte is read
read_known :
    (n : ℕ) (q : State) (s : List ℕ) (i k : ℕ) → byte_is s i (suc k) ≡ true
    → read_from n q s i ≡ read_from n (step nesting_limit q (token n (suc k))) s (i + 1)
read_known n q s i k h =
    read_byte n q s i (byte_is_inside s i k h)
    ∙ ap (λ (b : ℕ). read_from n (step nesting_limit q (token n b)) s (i + 1)) (byte_is_lem s i k h)

-- what is alive at one state is alive at an equal reading
alive_on : {x y : Reading} → x ≡ y → is_read x ≡ true → is_read y ≡ true
alive_on e a = sym (ap is_read e) ∙ a

not_here : (n : ℕ) (s : List ℕ) (i k : ℕ) → byte_is s i (suc k) ≡ false → code_of (token n (get_or s i 0)) ≡ suc k → ⊥
unfolding byte_is
not_here n s i k h = not_byte n (get_or s i 0) k h

-- ---- tokens that end a part

no_caret :
    (f : Formula) (l : Left) (b : Factor) (ls : List Level) (t : Token) → (code_of t ≡ 94 → ⊥)
    → step_atom f l b ls t ≡ step_product (product_with b f) l ls t
unfolding code_of step_atom
no_caret f l b ls (digit d) h = refl
no_caret f l b ls (variable a) h = refl
no_caret f l b ls opening h = refl
no_caret f l b ls closing h = refl
no_caret f l b ls star h = refl
no_caret f l b ls plus_sign h = refl
no_caret f l b ls minus_sign h = refl
no_caret f l b ls caret h = absurd (h refl)
no_caret f l b ls foreign h = refl

no_star : (p : Formula) (l : Left) (ls : List Level) (t : Token) → (code_of t ≡ 42 → ⊥) → step_product p l ls t ≡ step_sum (sum_with l p) ls t
unfolding code_of step_product
no_star p l ls (digit d) h = refl
no_star p l ls (variable a) h = refl
no_star p l ls opening h = refl
no_star p l ls closing h = refl
no_star p l ls star h = absurd (h refl)
no_star p l ls plus_sign h = refl
no_star p l ls minus_sign h = refl
no_star p l ls caret h = refl
no_star p l ls foreign h = refl

no_minus : (limit : ℕ) (l : Left) (b : Factor) (ls : List Level) (t : Token) → (code_of t ≡ 45 → ⊥) → step_expect limit true l b ls t ≡ step_expect limit false l b ls t
unfolding code_of step_expect
no_minus limit l b ls (digit d) h = refl
no_minus limit l b ls (variable a) h = refl
no_minus limit l b ls opening h = refl
no_minus limit l b ls closing h = refl
no_minus limit l b ls star h = refl
no_minus limit l b ls plus_sign h = refl
no_minus limit l b ls minus_sign h = absurd (h refl)
no_minus limit l b ls caret h = refl
no_minus limit l b ls foreign h = refl

-- behind a sum, without a sign: a parenthesis closes, or nothing is read
only_closing :
    (n : ℕ) (s : List ℕ) (i : ℕ) (f : Formula) (ls : List Level) (t : Token) → (code_of t ≡ 43 → ⊥) → (code_of t ≡ 45 → ⊥)
    → is_read (read_from n (step_sum f ls t) s i) ≡ true → t ≡ closing
unfolding code_of step_sum
only_closing n s i f ls (digit d) h g a = absurd (not_failed n s i a)
only_closing n s i f ls (variable x) h g a = absurd (not_failed n s i a)
only_closing n s i f ls opening h g a = absurd (not_failed n s i a)
only_closing n s i f ls closing h g a = refl
only_closing n s i f ls star h g a = absurd (not_failed n s i a)
only_closing n s i f ls plus_sign h g a = absurd (h refl)
only_closing n s i f ls minus_sign h g a = absurd (g refl)
only_closing n s i f ls caret h g a = absurd (not_failed n s i a)
only_closing n s i f ls foreign h g a = absurd (not_failed n s i a)

-- ---- atom

pub atom_inside : (n : ℕ) (s : List ℕ) (at depth : ℕ) → AtomAhead n s at depth → at < length s
unfolding finish is_read
atom_inside n s at depth a = alive_inside n (expect false a.left a.factor a.levels) s at refl a.alive

-- a parenthesis opens
abbrev opens : (l : Left) (b : Factor) (ls : List Level) → State
opens l b ls = expect true none one (record { left = l; factor = b } ∷ ls)

opened_state : (n : ℕ) (m : Bool) (l : Left) (b : Factor) (ls : List Level) → step nesting_limit (expect m l b ls) (token n 40) ≡ cond (ltb (length ls) nesting_limit) (opens l b ls) failed
unfolding step step_expect token is_letter
opened_state n m l b ls = refl

cond_alive : (n : ℕ) (s : List ℕ) (i : ℕ) (c : Bool) (q : State) → is_read (read_from n (cond c q failed) s i) ≡ true → c ≡ true
cond_alive n s i true q a = refl
cond_alive n s i false q a = absurd (not_failed n s i a)

-- at a depth under the limit
open_shallow : (n : ℕ) (s : List ℕ) (at depth : ℕ) → AtomAhead n s at depth → byte_is s at 40 ≡ true → ltb depth nesting_limit ≡ true
open_shallow n s at depth a h =
    let q = expect false a.left a.factor a.levels in
    let e = read_known n q s at 39 h ∙ ap (λ (x : State). read_from n x s (at + 1)) (opened_state n false a.left a.factor a.levels) in
    subst (λ (k : ℕ). ltb k nesting_limit ≡ true) a.deep (cond_alive n s (at + 1) (ltb (length a.levels) nesting_limit) (opens a.left a.factor a.levels) (alive_on e a.alive))

pub open_under : (n : ℕ) (s : List ℕ) (at depth : ℕ) → AtomAhead n s at depth → byte_is s at 40 ≡ true → depth < 16
unfolding nesting_limit
open_under n s at depth a h = ltb-true depth 16 (open_shallow n s at depth a h)

read_open :
    (n : ℕ) (s : List ℕ) (at depth : ℕ) (l : Left) (b : Factor) (ls : List Level)
    → ltb depth nesting_limit ≡ true → length ls ≡ depth → byte_is s at 40 ≡ true
    → read_from n (expect false l b ls) s at ≡ read_from n (opens l b ls) s (at + 1)
read_open n s at depth l b ls u d h =
    read_known n (expect false l b ls) s at 39 h
    ∙ ap (λ (x : State). read_from n x s (at + 1)) (opened_state n false l b ls ∙ ap (λ (c : Bool). cond c (opens l b ls) failed) (ap (λ (k : ℕ). ltb k nesting_limit) d ∙ u))

pub sum_opens : (n : ℕ) (s : List ℕ) (at depth : ℕ) → AtomAhead n s at depth → byte_is s at 40 ≡ true → SumAhead n s (at + 1) (depth + 1)
sum_opens n s at depth a h = record {
  levels = record { left = a.left; factor = a.factor } ∷ a.levels;
  deep = omega (arith, a.deep);
  alive = alive_on (read_open n s at depth a.left a.factor a.levels (open_shallow n s at depth a h) a.deep h) a.alive;
}

-- behind the sum in parentheses stands one that closes
closing_next :
    (n : ℕ) (s : List ℕ) (next : ℕ) (f : Formula) (l : Level) (ls : List Level)
    → is_read (read_from n (in_sum f (l ∷ ls)) s next) ≡ true → byte_is s next 43 ≡ false → byte_is s next 45 ≡ false
    → (next < length s) × (token n (get_or s next 0) ≡ closing)
unfolding finish is_read ends step
closing_next n s next f l ls a p m =
    let inside = alive_inside n (in_sum f (l ∷ ls)) s next refl a in
    (inside, only_closing n s (next + 1) f (l ∷ ls) (token n (get_or s next 0)) (not_here n s next 42 p) (not_here n s next 44 m) (alive_on (read_byte n (in_sum f (l ∷ ls)) s next inside) a))

parens_alive :
    (n : ℕ) (s : List ℕ) (at depth next : ℕ) (p : Option Polynomial) → (a : AtomAhead n s at depth) → byte_is s at 40 ≡ true → (r : SumRead n s (at + 1) (depth + 1) next p)
    → is_read (read_from n (in_sum r.so_far.formula (record { left = a.left; factor = a.factor } ∷ a.levels)) s next) ≡ true
parens_alive n s at depth next p a h r =
    alive_on
    (read_open n s at depth a.left a.factor a.levels (open_shallow n s at depth a h) a.deep h
    ∙ r.so_far.reads_on (record { left = a.left; factor = a.factor } ∷ a.levels) (omega (arith, a.deep)))
    a.alive

parens_next :
    (n : ℕ) (s : List ℕ) (at depth next : ℕ) (p : Option Polynomial) → (a : AtomAhead n s at depth) → byte_is s at 40 ≡ true → (r : SumRead n s (at + 1) (depth + 1) next p)
    → (next < length s) × (token n (get_or s next 0) ≡ closing)
parens_next n s at depth next p a h r =
    closing_next n s next r.so_far.formula (record { left = a.left; factor = a.factor }) a.levels (parens_alive n s at depth next p a h r) r.no_plus r.no_minus

pub parens_inside :
    (n : ℕ) (s : List ℕ) (at depth next : ℕ) (p : Option Polynomial) → AtomAhead n s at depth → byte_is s at 40 ≡ true → SumRead n s (at + 1) (depth + 1) next p
    → next < length s
parens_inside n s at depth next p a h r = (parens_next n s at depth next p a h r).0

pub parens_read :
    (n : ℕ) (s : List ℕ) (at depth next : ℕ) (p : Option Polynomial) → AtomAhead n s at depth → byte_is s at 40 ≡ true → SumRead n s (at + 1) (depth + 1) next p
    → AtomRead n s at depth (next + 1) p
unfolding evaluate step step_sum closed
parens_read n s at depth next p a h r =
    let z = parens_next n s at depth next p a h r in
    record {
      formula = parens r.so_far.formula;
      is = r.so_far.is;
      forward = omega (arith, r.so_far.forward);
      inside = omega (arith, z.0);
      reads_on = λ l b ls d.
          read_open n s at depth l b ls (open_shallow n s at depth a h) d h
          ∙ (r.so_far.reads_on (record { left = l; factor = b } ∷ ls) (omega (arith, d))
          ∙ (read_byte n (in_sum r.so_far.formula (record { left = l; factor = b } ∷ ls)) s next z.0
          ∙ ap (λ (t : Token). read_from n (step nesting_limit (in_sum r.so_far.formula (record { left = l; factor = b } ∷ ls)) t) s (next + 1)) z.1));
    }

-- a digit's byte
digit_byte : (d : ℕ) → d < 10 → (leb 48 (48 + d) && leb (48 + d) 57) ≡ true
digit_byte d h = and-true (le-leb 48 (48 + d) (omega arith)) (le-leb (48 + d) 57 (omega (arith, h)))

-- a letter: what is no digit and no parenthesis
letter_at :
    {n b : ℕ} {t : Token} (s : List ℕ) (i : ℕ) (l : Left) (f : Factor) (ls : List Level) → Means n b t → (code_of t ≡ 40 → ⊥) → (leb 48 b && leb b 57) ≡ false
    → is_read (read_from n (step_expect nesting_limit false l f ls t) s i) ≡ true → is_letter n b ≡ true
unfolding code_of step_expect
letter_at s i l f ls (a_digit d h) o e a = absurd (true≢false (sym (digit_byte d h) ∙ e))
letter_at s i l f ls (a_letter b h) o e a = h
letter_at s i l f ls an_opening o e a = absurd (o refl)
letter_at s i l f ls a_closing o e a = absurd (not_failed _ s i a)
letter_at s i l f ls a_star o e a = absurd (not_failed _ s i a)
letter_at s i l f ls a_plus o e a = absurd (not_failed _ s i a)
letter_at s i l f ls a_minus o e a = absurd (not_failed _ s i a)
letter_at s i l f ls a_caret o e a = absurd (not_failed _ s i a)
letter_at s i l f ls a_foreign o e a = absurd (not_failed _ s i a)

letter_here : (n : ℕ) (s : List ℕ) (at depth : ℕ) → AtomAhead n s at depth → byte_is s at 40 ≡ false → is_digit s at ≡ false → is_letter n (get_or s at 0) ≡ true
unfolding is_digit step
letter_here n s at depth a h d =
    letter_at s (at + 1) a.left a.factor a.levels (means n (get_or s at 0)) (not_here n s at 39 h) d
    (alive_on (read_byte n (expect false a.left a.factor a.levels) s at (atom_inside n s at depth a)) a.alive)

pub letter_read :
    (n : ℕ) (s : List ℕ) (at depth : ℕ) (p : Option Polynomial) → AtomAhead n s at depth → byte_is s at 40 ≡ false → is_digit s at ≡ false
    → p ≡ variable_polynomial (axis_of (get_or s at 0)) → AtomRead n s at depth (at + 1) p
unfolding evaluate step step_expect
letter_read n s at depth p a h d e = record {
  formula = letter (axis_of (get_or s at 0));
  is = e;
  forward = omega arith;
  inside = omega (arith, atom_inside n s at depth a);
  reads_on = λ l b ls k.
      read_byte n (expect false l b ls) s at (atom_inside n s at depth a)
      ∙ ap (λ (t : Token). read_from n (step nesting_limit (expect false l b ls) t) s (at + 1)) (token_letter n (get_or s at 0) (letter_here n s at depth a h d));
}

pub number_atom : (n : ℕ) (s : List ℕ) (at depth next v : ℕ) (p : Option Polynomial) → NumberRead n s at depth next v → p ≡ constant v → AtomRead n s at depth next p
unfolding evaluate
number_atom n s at depth next v p r e = record { formula = number v; is = e; forward = r.forward; inside = r.inside; reads_on = r.reads_on }

-- ---- power

pub power_plain : (n : ℕ) (s : List ℕ) (at depth next : ℕ) (p : Option Polynomial) → AtomRead n s at depth next p → byte_is s next 94 ≡ false → PowerRead n s at depth next p
unfolding step finish
power_plain n s at depth next p r h = record {
  formula = r.formula;
  is = r.is;
  forward = r.forward;
  inside = r.inside;
  reads_on = λ l b ls d.
      r.reads_on l b ls d
      ∙ same_from n (after_atom r.formula l b ls) (in_product (product_with b r.formula) l ls) s next refl (no_caret r.formula l b ls (token n (get_or s next 0)) (not_here n s next 93 h));
}

-- behind ^ stands a digit up to 4
pub record Exponent (s : List ℕ) (i : ℕ) : Type 0 where
  pub here : i < length s
  pub low : 48 ≤ get_or s i 0
  pub high : get_or s i 0 ≤ 52

digit_token : (n b : ℕ) → (leb 48 b && leb b 57) ≡ true → token n b ≡ digit (b - 48)
unfolding token
digit_token n b d = rw d

exponent_digit :
    {n x : ℕ} {t : Token} (s : List ℕ) (i : ℕ) (f : Formula) (l : Left) (b : Factor) (ls : List Level) → Means n x t
    → is_read (read_from n (step_caret f l b ls t) s i) ≡ true → (leb 48 x && leb x 57) ≡ true
unfolding step_caret
exponent_digit s i f l b ls (a_digit d h) a = digit_byte d h
exponent_digit s i f l b ls (a_letter x h) a = absurd (not_failed _ s i a)
exponent_digit s i f l b ls an_opening a = absurd (not_failed _ s i a)
exponent_digit s i f l b ls a_closing a = absurd (not_failed _ s i a)
exponent_digit s i f l b ls a_star a = absurd (not_failed _ s i a)
exponent_digit s i f l b ls a_plus a = absurd (not_failed _ s i a)
exponent_digit s i f l b ls a_minus a = absurd (not_failed _ s i a)
exponent_digit s i f l b ls a_caret a = absurd (not_failed _ s i a)
exponent_digit s i f l b ls a_foreign a = absurd (not_failed _ s i a)

exponent_small :
    (n : ℕ) (s : List ℕ) (i : ℕ) (f : Formula) (l : Left) (b : Factor) (ls : List Level) (d : ℕ)
    → is_read (read_from n (step_caret f l b ls (digit d)) s i) ≡ true → leb d 4 ≡ true
unfolding step_caret
exponent_small n s i f l b ls d a = cond_alive n s i (leb d 4) (in_product (product_with b (raised f d)) l ls) a

caret_state : (n : ℕ) (f : Formula) (l : Left) (b : Factor) (ls : List Level) → step nesting_limit (after_atom f l b ls) (token n 94) ≡ after_caret f l b ls
unfolding step step_atom token is_letter
caret_state n f l b ls = refl

read_caret :
    (n : ℕ) (s : List ℕ) (i : ℕ) (f : Formula) (l : Left) (b : Factor) (ls : List Level) → byte_is s i 94 ≡ true
    → read_from n (after_atom f l b ls) s i ≡ read_from n (after_caret f l b ls) s (i + 1)
read_caret n s i f l b ls h = read_known n (after_atom f l b ls) s i 93 h ∙ ap (λ (x : State). read_from n x s (i + 1)) (caret_state n f l b ls)

pub exponent_here : (n : ℕ) (s : List ℕ) (at depth next : ℕ) (p : Option Polynomial) → AtomAhead n s at depth → AtomRead n s at depth next p → byte_is s next 94 ≡ true → Exponent s (next + 1)
unfolding finish is_read step
exponent_here n s at depth next p a r h =
    let f = r.formula in
    let alive = alive_on (r.reads_on a.left a.factor a.levels a.deep ∙ read_caret n s next f a.left a.factor a.levels h) a.alive in
    let inside = alive_inside n (after_caret f a.left a.factor a.levels) s (next + 1) refl alive in
    let after = alive_on (read_byte n (after_caret f a.left a.factor a.levels) s (next + 1) inside) alive in
    let digits = exponent_digit s (next + 1 + 1) f a.left a.factor a.levels (means n (get_or s (next + 1) 0)) after in
    let low = leb-true 48 (get_or s (next + 1) 0) (and_left (leb 48 (get_or s (next + 1) 0)) (leb (get_or s (next + 1) 0) 57) digits) in
    let small = exponent_small n s (next + 1 + 1) f a.left a.factor a.levels (get_or s (next + 1) 0 - 48) (subst (λ (t : Token). is_read (read_from n (step_caret f a.left a.factor a.levels t) s (next + 1 + 1)) ≡ true) (digit_token n (get_or s (next + 1) 0) digits) after) in
    record { here = inside; low = low; high = omega (arith, low, leb-true (get_or s (next + 1) 0 - 48) 4 small) }

raised_state : (f : Formula) (l : Left) (b : Factor) (ls : List Level) (d : ℕ) → d ≤ 4 → step nesting_limit (after_caret f l b ls) (digit d) ≡ in_product (product_with b (raised f d)) l ls
unfolding step step_caret
raised_state f l b ls d h = rw (le-leb d 4 h)

pub power_raised :
    (n : ℕ) (s : List ℕ) (at depth next : ℕ) (p r : Option Polynomial) → AtomRead n s at depth next p → byte_is s next 94 ≡ true → Exponent s (next + 1)
    → r ≡ on_result (λ x. power_of x (get_or s (next + 1) 0 - 48)) p → PowerRead n s at depth (next + 2) r
unfolding evaluate
power_raised n s at depth next p r q h e is =
    let k = get_or s (next + 1) 0 - 48 in
    let digits = and-true (le-leb 48 (get_or s (next + 1) 0) e.low) (le-leb (get_or s (next + 1) 0) 57 (omega (arith, e.high))) in
    record {
      formula = raised q.formula k;
      is = is ∙ ap (on_result (λ x. power_of x k)) q.is;
      forward = omega (arith, q.forward);
      inside = omega (arith, e.here);
      reads_on = λ l b ls d.
          q.reads_on l b ls d
          ∙ (read_caret n s next q.formula l b ls h
          ∙ (read_byte n (after_caret q.formula l b ls) s (next + 1) e.here
          ∙ (ap (λ (t : Token). read_from n (step nesting_limit (after_caret q.formula l b ls) t) s (next + 1 + 1)) (digit_token n (get_or s (next + 1) 0) digits)
          ∙ (ap (λ (x : State). read_from n x s (next + 1 + 1)) (raised_state q.formula l b ls k (omega (arith, e.high)))
          ∙ ap (λ (i : ℕ). read_from n (in_product (product_with b (raised q.formula k)) l ls) s i) (two next)))));
    }
  where
    two : (i : ℕ) → i + 1 + 1 ≡ i + 2
    two i = omega arith

-- ---- product

pub product_begins : (n : ℕ) (s : List ℕ) (at depth : ℕ) → ProductAhead n s at depth → AtomAhead n s at depth
product_begins n s at depth a = record { left = a.left; factor = one; levels = a.levels; deep = a.deep; alive = a.alive }

pub product_first : (n : ℕ) (s : List ℕ) (at depth next : ℕ) (p : Option Polynomial) → PowerRead n s at depth next p → ProductSoFar n s at depth next p
unfolding product_with
product_first n s at depth next p r =
    record { formula = r.formula; is = r.is; forward = r.forward; inside = r.inside; reads_on = λ l ls d. r.reads_on l one ls d }

star_state : (n : ℕ) (p : Formula) (l : Left) (ls : List Level) → step nesting_limit (in_product p l ls) (token n 42) ≡ expect false l (by p) ls
unfolding step step_product token is_letter
star_state n p l ls = refl

read_star :
    (n : ℕ) (s : List ℕ) (i : ℕ) (p : Formula) (l : Left) (ls : List Level) → byte_is s i 42 ≡ true
    → read_from n (in_product p l ls) s i ≡ read_from n (expect false l (by p) ls) s (i + 1)
read_star n s i p l ls h = read_known n (in_product p l ls) s i 41 h ∙ ap (λ (x : State). read_from n x s (i + 1)) (star_state n p l ls)

pub product_next :
    (n : ℕ) (s : List ℕ) (at depth next : ℕ) (p : Option Polynomial) → ProductAhead n s at depth → ProductSoFar n s at depth next p → byte_is s next 42 ≡ true
    → AtomAhead n s (next + 1) depth
product_next n s at depth next p a r h = record {
  left = a.left;
  factor = by r.formula;
  levels = a.levels;
  deep = a.deep;
  alive = alive_on (r.reads_on a.left a.levels a.deep ∙ read_star n s next r.formula a.left a.levels h) a.alive;
}

pub product_longer :
    (n : ℕ) (s : List ℕ) (at depth next after : ℕ) (p q r : Option Polynomial) → ProductSoFar n s at depth next p → byte_is s next 42 ≡ true → PowerRead n s (next + 1) depth after q
    → r ≡ on_results product_of p q → ProductSoFar n s at depth after r
unfolding evaluate product_with
product_longer n s at depth next after p q r x h y e = record {
  formula = times x.formula y.formula;
  is = e ∙ (ap (λ (z : Option Polynomial). on_results product_of z q) x.is ∙ ap (on_results product_of (evaluate x.formula)) y.is);
  forward = omega (arith, x.forward, y.forward);
  inside = y.inside;
  reads_on = λ l ls d.
      x.reads_on l ls d ∙ (read_star n s next x.formula l ls h ∙ y.reads_on l (by x.formula) ls d);
}

pub product_ends : (n : ℕ) (s : List ℕ) (at depth next : ℕ) (p : Option Polynomial) → ProductSoFar n s at depth next p → byte_is s next 42 ≡ false → ProductRead n s at depth next p
unfolding step finish
product_ends n s at depth next p r h = record {
  formula = r.formula;
  is = r.is;
  forward = r.forward;
  inside = r.inside;
  reads_on = λ l ls d.
      r.reads_on l ls d
      ∙ same_from n (in_product r.formula l ls) (in_sum (sum_with l r.formula) ls) s next refl (no_star r.formula l ls (token n (get_or s next 0)) (not_here n s next 41 h));
}

-- ---- sum

pub sum_inside : (n : ℕ) (s : List ℕ) (at depth : ℕ) → SumAhead n s at depth → at < length s
unfolding finish is_read
sum_inside n s at depth a = alive_inside n (expect true none one a.levels) s at refl a.alive

negative_state : (n : ℕ) (ls : List Level) → step nesting_limit (expect true none one ls) (token n 45) ≡ expect false negated one ls
unfolding step step_expect token is_letter
negative_state n ls = refl

-- what the optional minus leaves
unfoldable pub sign_of : Bool → Left
sign_of m = cond m negated none

read_sign :
    (n : ℕ) (s : List ℕ) (at : ℕ) (ls : List Level) (m : Bool) → byte_is s at 45 ≡ m
    → read_from n (expect true none one ls) s at ≡ read_from n (expect false (sign_of m) one ls) s (cond m (at + 1) at)
unfolding sign_of step finish
read_sign n s at ls true h = read_known n (expect true none one ls) s at 44 h ∙ ap (λ (x : State). read_from n x s (at + 1)) (negative_state n ls)
read_sign n s at ls false h =
    same_from n (expect true none one ls) (expect false none one ls) s at refl (no_minus nesting_limit none one ls (token n (get_or s at 0)) (not_here n s at 44 h))

pub behind_sign : (m : Bool) (at b : ℕ) → b ≡ bool_byte m → at + b ≡ cond m (at + 1) at
behind_sign true at b e = ap (λ (i : ℕ). at + i) e
behind_sign false at b e = omega (arith, e)

pub from_small : (m : Bool) (b : ℕ) → b ≡ bool_byte m → b ≤ 1
from_small true b e = omega (arith, e)
from_small false b e = omega (arith, e)

pub sign_behind : (m : Bool) (at from : ℕ) → from ≡ cond m (at + 1) at → at ≤ from
sign_behind true at from e = omega (arith, e)
sign_behind false at from e = omega (arith, e)

pub sum_begins :
    (n : ℕ) (s : List ℕ) (at depth from : ℕ) (m : Bool) → SumAhead n s at depth → m ≡ byte_is s at 45 → from ≡ cond m (at + 1) at → ProductAhead n s from depth
sum_begins n s at depth from m a h e = record {
  left = sign_of m;
  levels = a.levels;
  deep = a.deep;
  alive = subst (λ (i : ℕ). is_read (read_from n (expect false (sign_of m) one a.levels) s i) ≡ true) (sym e) (alive_on (read_sign n s at a.levels m (sym h)) a.alive);
}

signed_is : (m : Bool) (f : Formula) → signed_by m (evaluate f) ≡ evaluate (sum_with (sign_of m) f)
unfolding signed_by sign_of sum_with evaluate
signed_is true f = refl
signed_is false f = refl

pub sum_first :
    (n : ℕ) (s : List ℕ) (at depth from next : ℕ) (m : Bool) (p r : Option Polynomial) → m ≡ byte_is s at 45 → from ≡ cond m (at + 1) at
    → ProductRead n s from depth next p → r ≡ signed_by m p → SumSoFar n s at depth next r
sum_first n s at depth from next m p r h f x e = record {
  formula = sum_with (sign_of m) x.formula;
  is = e ∙ (ap (signed_by m) x.is ∙ signed_is m x.formula);
  forward = omega (arith, sign_behind m at from f, x.forward);
  inside = x.inside;
  reads_on = λ ls d.
      read_sign n s at ls m (sym h)
      ∙ (ap (λ (i : ℕ). read_from n (expect false (sign_of m) one ls) s i) (sym f) ∙ x.reads_on (sign_of m) ls d);
}

-- what a sign behind a sum leaves
unfoldable pub joined_by : Bool → Formula → Left
joined_by m f = cond m (taken f) (added f)

plus_state : (n : ℕ) (f : Formula) (ls : List Level) → step nesting_limit (in_sum f ls) (token n 43) ≡ expect false (added f) one ls
unfolding step step_sum token is_letter
plus_state n f ls = refl

minus_state : (n : ℕ) (f : Formula) (ls : List Level) → step nesting_limit (in_sum f ls) (token n 45) ≡ expect false (taken f) one ls
unfolding step step_sum token is_letter
minus_state n f ls = refl

read_join :
    (n : ℕ) (s : List ℕ) (i : ℕ) (f : Formula) (ls : List Level) (m : Bool) → (byte_is s i 43 || byte_is s i 45) ≡ true → byte_is s i 45 ≡ m
    → read_from n (in_sum f ls) s i ≡ read_from n (expect false (joined_by m f) one ls) s (i + 1)
unfolding joined_by
read_join n s i f ls true g h = read_known n (in_sum f ls) s i 44 h ∙ ap (λ (x : State). read_from n x s (i + 1)) (minus_state n f ls)
read_join n s i f ls false g h =
    read_known n (in_sum f ls) s i 42 (left_of (byte_is s i 43) (byte_is s i 45) g h) ∙ ap (λ (x : State). read_from n x s (i + 1)) (plus_state n f ls)
  where
    left_of : (x y : Bool) → (x || y) ≡ true → y ≡ false → x ≡ true
    left_of true y g h = refl
    left_of false y g h = absurd (true≢false (sym g ∙ h))

pub sign_inside : (s : List ℕ) (i : ℕ) → (byte_is s i 43 || byte_is s i 45) ≡ true → i < length s
sign_inside s i = go (byte_is s i 43) refl
  where
    go : (b : Bool) → byte_is s i 43 ≡ b → (b || byte_is s i 45) ≡ true → i < length s
    go true e h = byte_is_inside s i 42 e
    go false e h = byte_is_inside s i 44 h

pub sum_next_lem :
    (n : ℕ) (s : List ℕ) (at depth next : ℕ) (p : Option Polynomial) → SumAhead n s at depth → SumSoFar n s at depth next p → (byte_is s next 43 || byte_is s next 45) ≡ true
    → ProductAhead n s (next + 1) depth
sum_next_lem n s at depth next p a r g = record {
  left = joined_by (byte_is s next 45) r.formula;
  levels = a.levels;
  deep = a.deep;
  alive = alive_on (r.reads_on a.levels a.deep ∙ read_join n s next r.formula a.levels (byte_is s next 45) g refl) a.alive;
}

joined_is :
    (m : Bool) (f g : Formula) → on_results (cond m difference_of sum_of) (evaluate f) (evaluate g) ≡ evaluate (sum_with (joined_by m f) g)
unfolding joined_by sum_with evaluate
joined_is true f g = refl
joined_is false f g = refl

pub sum_longer :
    (n : ℕ) (s : List ℕ) (at depth next after : ℕ) (m : Bool) (p q r : Option Polynomial) → SumSoFar n s at depth next p → (byte_is s next 43 || byte_is s next 45) ≡ true → m ≡ byte_is s next 45
    → ProductRead n s (next + 1) depth after q → r ≡ on_results (cond m difference_of sum_of) p q → SumSoFar n s at depth after r
sum_longer n s at depth next after m p q r x g h y e = record {
  formula = sum_with (joined_by m x.formula) y.formula;
  is =
      e
      ∙ (ap (λ (z : Option Polynomial). on_results (cond m difference_of sum_of) z q) x.is
      ∙ (ap (on_results (cond m difference_of sum_of) (evaluate x.formula)) y.is ∙ joined_is m x.formula y.formula));
  forward = omega (arith, x.forward, y.forward);
  inside = y.inside;
  reads_on = λ ls d. x.reads_on ls d ∙ (read_join n s next x.formula ls m g (sym h) ∙ y.reads_on (joined_by m x.formula) ls d);
}

pub sum_ends : (n : ℕ) (s : List ℕ) (at depth next : ℕ) (p : Option Polynomial) → SumSoFar n s at depth next p → (byte_is s next 43 || byte_is s next 45) ≡ false → SumRead n s at depth next p
sum_ends n s at depth next p r h =
    let z = neither (byte_is s next 43) (byte_is s next 45) h in
    record { so_far = r; no_plus = z.0; no_minus = z.1 }
  where
    neither : (x y : Bool) → (x || y) ≡ false → (x ≡ false) × (y ≡ false)
    neither true y h = absurd (true≢false h)
    neither false y h = (refl, h)

-- ---- number

no_digit :
    {n x : ℕ} {t : Token} (k v : ℕ) (l : Left) (b : Factor) (ls : List Level) → Means n x t → (leb 48 x && leb x 57) ≡ false
    → step_number k v l b ls t ≡ step_atom (number v) l b ls t
unfolding step_number
no_digit k v l b ls (a_digit d h) e = absurd (true≢false (sym (digit_byte d h) ∙ e))
no_digit k v l b ls (a_letter x h) e = refl
no_digit k v l b ls an_opening e = refl
no_digit k v l b ls a_closing e = refl
no_digit k v l b ls a_star e = refl
no_digit k v l b ls a_plus e = refl
no_digit k v l b ls a_minus e = refl
no_digit k v l b ls a_caret e = refl
no_digit k v l b ls a_foreign e = refl

-- the value of a digit
pub record DigitHere (s : List ℕ) (i : ℕ) : Type 0 where
  pub here : i < length s
  pub low : 48 ≤ get_or s i 0
  pub high : get_or s i 0 ≤ 57

pub digit_here : (s : List ℕ) (i : ℕ) → is_digit s i ≡ true → DigitHere s i
unfolding is_digit
digit_here s i h =
    let low = leb-true 48 (get_or s i 0) (and_left (leb 48 (get_or s i 0)) (leb (get_or s i 0) 57) h) in
    record { here = byte_inside s i (omega (arith, low)); low = low; high = leb-true (get_or s i 0) 57 (and_right (leb 48 (get_or s i 0)) (leb (get_or s i 0) 57) h) }

read_digit :
    (n : ℕ) (q : State) (s : List ℕ) (i : ℕ) → is_digit s i ≡ true
    → read_from n q s i ≡ read_from n (step nesting_limit q (digit (get_or s i 0 - 48))) s (i + 1)
unfolding is_digit
read_digit n q s i h =
    read_byte n q s i (digit_here s i h).here
    ∙ ap (λ (t : Token). read_from n (step nesting_limit q t) s (i + 1)) (digit_token n (get_or s i 0) h)

first_state : (l : Left) (b : Factor) (ls : List Level) (d : ℕ) → step nesting_limit (expect false l b ls) (digit d) ≡ in_number 1 d l b ls
unfolding step step_expect
first_state l b ls d = refl

one_more : (i : ℕ) → i + 1 - i ≡ 1
one_more i = omega arith

pub number_first : (n : ℕ) (s : List ℕ) (at depth : ℕ) → is_digit s at ≡ true → NumberSoFar n s at depth (at + 1) (get_or s at 0 - 48)
number_first n s at depth h = record {
  forward = omega arith;
  inside = omega (arith, (digit_here s at h).here);
  few = omega arith;
  small = rw (one_more at) (omega (arith, (digit_here s at h).high));
  reads_on = λ l b ls d.
      read_digit n (expect false l b ls) s at h
      ∙ (ap (λ (x : State). read_from n x s (at + 1)) (first_state l b ls (get_or s at 0 - 48))
      ∙ ap (λ (k : ℕ). read_from n (in_number k (get_or s at 0 - 48) l b ls) s (at + 1)) (sym (one_more at)));
}

next_state : (k v : ℕ) (l : Left) (b : Factor) (ls : List Level) (d : ℕ) → step nesting_limit (in_number k v l b ls) (digit d) ≡ cond (ltb k 7) (in_number (suc k) (10 * v + d) l b ls) failed
unfolding step step_number
next_state k v l b ls d = refl

number_few : (n : ℕ) (s : List ℕ) (at depth next v : ℕ) → AtomAhead n s at depth → NumberSoFar n s at depth next v → is_digit s next ≡ true → ltb (next - at) 7 ≡ true
number_few n s at depth next v a r h =
    cond_alive n s (next + 1) (ltb (next - at) 7) (in_number (suc (next - at)) (10 * v + (get_or s next 0 - 48)) a.left a.factor a.levels)
    (alive_on
    (r.reads_on a.left a.factor a.levels a.deep
    ∙ (read_digit n (in_number (next - at) v a.left a.factor a.levels) s next h
    ∙ ap (λ (x : State). read_from n x s (next + 1)) (next_state (next - at) v a.left a.factor a.levels (get_or s next 0 - 48))))
    a.alive)

pub number_longer :
    (n : ℕ) (s : List ℕ) (at depth next v : ℕ) → AtomAhead n s at depth → NumberSoFar n s at depth next v → is_digit s next ≡ true
    → NumberSoFar n s at depth (next + 1) (10 * v + (get_or s next 0 - 48))
number_longer n s at depth next v a r h =
    let few = number_few n s at depth next v a r h in
    let d = get_or s next 0 - 48 in
    let longer : next + 1 - at ≡ suc (next - at) = omega (arith, r.forward) in
    record {
      forward = omega (arith, r.forward);
      inside = omega (arith, (digit_here s next h).here);
      few = omega (arith, ltb-true (next - at) 7 few, r.forward);
      small = rw longer (ten_times (next - at) v d r.small (omega (arith, (digit_here s next h).high)));
      reads_on = λ l b ls k.
          r.reads_on l b ls k
          ∙ (read_digit n (in_number (next - at) v l b ls) s next h
          ∙ (ap (λ (x : State). read_from n x s (next + 1)) (next_state (next - at) v l b ls d ∙ ap (λ (c : Bool). cond c (in_number (suc (next - at)) (10 * v + d) l b ls) failed) few)
          ∙ ap (λ (j : ℕ). read_from n (in_number j (10 * v + d) l b ls) s (next + 1)) (sym longer)));
    }
  where
    ten_times : (k v d : ℕ) → v < 10 ^ k → d < 10 → 10 * v + d < 10 ^ suc k
    ten_times k v d h g = simp unary_clauses (omega (arith, h, g))

seven_digits : (k v : ℕ) → k ≤ 7 → v < 10 ^ k → v < 10000000
seven_digits k v h g = le_trans g (pow-le-pow_right (lit< tt) h)

pub number_small : (n : ℕ) (s : List ℕ) (at depth next v : ℕ) → NumberSoFar n s at depth next v → v < 10000000
number_small n s at depth next v r = seven_digits (next - at) v r.few r.small

pub number_ends : (n : ℕ) (s : List ℕ) (at depth next v : ℕ) → NumberSoFar n s at depth next v → is_digit s next ≡ false → NumberRead n s at depth next v
unfolding is_digit step finish
number_ends n s at depth next v r h = record {
  forward = r.forward;
  inside = r.inside;
  small = number_small n s at depth next v r;
  reads_on = λ l b ls d.
      r.reads_on l b ls d
      ∙ same_from n (in_number (next - at) v l b ls) (after_atom (number v) l b ls) s next refl (no_digit (next - at) v l b ls (means n (get_or s next 0)) h);
}

-- ---- the whole text

pub sum_whole : (n : ℕ) (s : List ℕ) → is_read (reading_of nesting_limit n s) ≡ true → SumAhead n s 0 0
unfolding reading_of read_from
sum_whole n s h = record { levels = []; deep = refl; alive = h }

-- the reading of a text that is read whole
pub record Whole (n : ℕ) (s : List ℕ) (p : Option Polynomial) : Type 0 where
  pub formula : Formula
  pub is : p ≡ evaluate formula
  pub reading : reading_of nesting_limit n s ≡ reads formula

-- where a sum with no open parenthesis ends, the text does
no_closing : (n : ℕ) (s : List ℕ) (i : ℕ) (f : Formula) (t : Token) → t ≡ closing → is_read (read_from n (step_sum f [] t) s i) ≡ true → ⊥
unfolding step_sum closed
no_closing n s i f t e a = not_failed n s i (subst (λ (x : Token). is_read (read_from n (step_sum f [] x) s i) ≡ true) e a)

text_ends :
    (n : ℕ) (s : List ℕ) (i : ℕ) (f : Formula) → byte_is s i 43 ≡ false → byte_is s i 45 ≡ false
    → is_read (read_from n (in_sum f []) s i) ≡ true → read_from n (in_sum f []) s i ≡ reads f
unfolding finish ends step
text_ends n s i f p m a = go (ltb i (length s)) refl
  where
    go : (b : Bool) → ltb i (length s) ≡ b → read_from n (in_sum f []) s i ≡ reads f
    go true h =
        let t = token n (get_or s i 0) in
        let after = alive_on (read_byte n (in_sum f []) s i (ltb-true i (length s) h)) a in
        absurd (no_closing n s (i + 1) f t (only_closing n s (i + 1) f [] t (not_here n s i 42 p) (not_here n s i 44 m) after) after)
    go false h = read_end n (in_sum f []) s i (ltb-false i (length s) h)

pub read_whole : (n : ℕ) (s : List ℕ) (next : ℕ) (p : Option Polynomial) → is_read (reading_of nesting_limit n s) ≡ true → SumRead n s 0 0 next p → Whole n s p
unfolding reading_of read_from
read_whole n s next p h r =
    let e = r.so_far.reads_on [] refl in
    record {
      formula = r.so_far.formula;
      is = r.so_far.is;
      reading = e ∙ text_ends n s next r.so_far.formula r.no_plus r.no_minus (alive_on e h);
    }
