-- The pass answers as the reader does: what the reader holds decides nothing but where it stands and how many parentheses are open.
use Prim.Native.Nat.{ℕ, suc, ◌+◌, ◌-◌, ◌≤◌, ◌<◌}
use mathlib.Core.Path.{◌≡◌, refl, sym, ◌∙◌}
use mathlib.Core.Bool.{Bool, true, false, cond, ◌&&◌}
use mathlib.Core.List.{List, [], ◌∷◌}
use native.Mathlib.Omega.{arith}
use lib.Dec.{leb, ltb, eqb, lit≤}
use lib.ListN.{length, get_or, drop, drop_of_length-le}
use lib.Seq.{drop-cons}
use borrow.Author.Tests.{ltb-true, ltb-false, le-leb, lt-leb, lt-ltb, le-ltb, ne_eqb}
use Rattle.formula.specs.Grammar.{Formula}
use Rattle.formula.specs.Reader.{Token, digit, variable, opening, closing, star, plus_sign, minus_sign, caret, foreign, token}
use Rattle.formula.specs.Reader.{Left, none, Factor, one, Level, State, expect, in_number, after_atom, after_caret, in_product, failed}
use Rattle.formula.specs.Reader.{closed, step_sum, step_product, step_atom, step_number, step_caret, step_expect, step, ends, finish, run, reading_of}
use Rattle.formula.specs.Read.{is_read}
use Rattle.language.specs.Pass.{outside_mode, exponent_next, atom_next, sum_next, power_read, atom_read, digits_read}
use Rattle.language.specs.Pass.{only, expects_atom, after_digit, next_mode, next_depth, pass_from, formula_within}

-- a state of the reader, the mode of the pass and its depth
data Stands : State → ℕ → ℕ → Type 0 where
  sum_next_lem : {l : Left} {f : Factor} {ls : List Level} → Stands (expect true l f ls) sum_next (length ls)
  atom_next_lem : {l : Left} {f : Factor} {ls : List Level} → Stands (expect false l f ls) atom_next (length ls)
  digits_read_lem : {k v : ℕ} {l : Left} {f : Factor} {ls : List Level} → Stands (in_number k v l f ls) (digits_read k) (length ls)
  atom_read_lem : {a : Formula} {l : Left} {f : Factor} {ls : List Level} → Stands (after_atom a l f ls) atom_read (length ls)
  exponent_next_lem : {a : Formula} {l : Left} {f : Factor} {ls : List Level} → Stands (after_caret a l f ls) exponent_next (length ls)
  power_read_lem : {p : Formula} {l : Left} {ls : List Level} → Stands (in_product p l ls) power_read (length ls)
  outside : {depth : ℕ} → Stands failed outside_mode depth

-- ---- the steps that go by a test

steps_opening : (l : Level) (ls : List Level) (deeper : Bool)
    → Stands (cond deeper (expect true none one (l ∷ ls)) failed) (only deeper sum_next) (cond deeper (suc (length ls)) (length ls))
unfolding only
steps_opening l ls true = sum_next_lem
steps_opening l ls false = outside

steps_closing : (f : Formula) (ls : List Level) → Stands (closed f ls) (only (ltb 0 (length ls)) atom_read) (length ls - 1)
unfolding only closed
steps_closing f [] = outside
steps_closing f (l ∷ ls) =
    let lower : suc (length ls) - 1 ≡ length ls = omega arith in
    rw (lt-ltb 0 (suc (length ls)) (omega arith), lower) atom_read_lem

steps_exponent : (p : Formula) (l : Left) (ls : List Level) (small : Bool)
    → Stands (cond small (in_product p l ls) failed) (only small power_read) (length ls)
unfolding only
steps_exponent p l ls true = power_read_lem
steps_exponent p l ls false = outside

-- a number may be followed by what an atom may, and by a digit
pub digits_above : {m : ℕ} → m ≤ 6 → (k : ℕ) → leb m (digits_read k) ≡ true
unfolding digits_read
digits_above {m} h k = le-leb m (6 + k) (omega arith)

pub digits_no_atom : (k : ℕ) → expects_atom (digits_read k) ≡ false
unfolding expects_atom digits_read atom_next sum_next
digits_no_atom k = rw (le-leb 2 (6 + k) (omega arith), lt-leb (6 + k) 3 (omega arith))

steps_digit : (k v : ℕ) (l : Left) (f : Factor) (ls : List Level) (d : ℕ) (more : Bool) → ltb k 7 ≡ more
    → Stands (cond more (in_number (suc k) v l f ls) failed) (after_digit (digits_read k) d) (length ls)
unfolding after_digit only exponent_next digits_read
steps_digit k v l f ls d true e =
    let longer : suc (6 + k) ≡ 6 + suc k = omega arith in
    rw (ne_eqb (6 + k) 1 (λ z. omega arith), digits_no_atom k, digits_above (lit≤ tt) k, lt-ltb (6 + k) 13 (omega (arith, ltb-true k 7 e)), longer)
    digits_read_lem
steps_digit k v l f ls d false e =
    rw (ne_eqb (6 + k) 1 (λ z. omega arith), digits_no_atom k, digits_above (lit≤ tt) k, le-ltb (6 + k) 13 (omega (arith, ltb-false k 7 e))) outside

-- ---- each step

steps : (limit : ℕ) {q : State} {m depth : ℕ} → Stands q m depth → (t : Token)
    → Stands (step limit q t) (next_mode limit depth m t) (next_depth limit depth t)
unfolding step step_expect step_number step_atom step_caret step_product step_sum next_mode next_depth after_digit only expects_atom
    outside_mode exponent_next atom_next sum_next power_read atom_read digits_read
steps limit sum_next_lem (digit d) = digits_read_lem
steps limit sum_next_lem (variable a) = atom_read_lem
steps limit (sum_next_lem {l} {f} {ls}) opening = steps_opening (record { left = l; factor = f }) ls (ltb (length ls) limit)
steps limit sum_next_lem closing = outside
steps limit sum_next_lem star = outside
steps limit sum_next_lem plus_sign = outside
steps limit sum_next_lem minus_sign = atom_next_lem
steps limit sum_next_lem caret = outside
steps limit sum_next_lem foreign = outside
steps limit atom_next_lem (digit d) = digits_read_lem
steps limit atom_next_lem (variable a) = atom_read_lem
steps limit (atom_next_lem {l} {f} {ls}) opening = steps_opening (record { left = l; factor = f }) ls (ltb (length ls) limit)
steps limit atom_next_lem closing = outside
steps limit atom_next_lem star = outside
steps limit atom_next_lem plus_sign = outside
steps limit atom_next_lem minus_sign = outside
steps limit atom_next_lem caret = outside
steps limit atom_next_lem foreign = outside
steps limit (digits_read_lem {k}) (digit d) = steps_digit _ _ _ _ _ d (ltb k 7) refl
steps limit (digits_read_lem {k}) (variable a) = rw (digits_no_atom k) outside
steps limit (digits_read_lem {k}) opening = rw (digits_no_atom k) outside
steps limit (digits_read_lem {k}) closing = rw (digits_above (lit≤ tt) k) (steps_closing _ _)
steps limit (digits_read_lem {k}) star = rw (digits_above (lit≤ tt) k) atom_next_lem
steps limit (digits_read_lem {k}) plus_sign = rw (digits_above (lit≤ tt) k) atom_next_lem
steps limit (digits_read_lem {k}) minus_sign = rw (digits_above (lit≤ tt) k) atom_next_lem
steps limit (digits_read_lem {k}) caret = rw (digits_above (lit≤ tt) k) exponent_next_lem
steps limit digits_read_lem foreign = outside
steps limit atom_read_lem (digit d) = outside
steps limit atom_read_lem (variable a) = outside
steps limit atom_read_lem opening = outside
steps limit atom_read_lem closing = steps_closing _ _
steps limit atom_read_lem star = atom_next_lem
steps limit atom_read_lem plus_sign = atom_next_lem
steps limit atom_read_lem minus_sign = atom_next_lem
steps limit atom_read_lem caret = exponent_next_lem
steps limit atom_read_lem foreign = outside
steps limit exponent_next_lem (digit d) = steps_exponent _ _ _ (leb d 4)
steps limit exponent_next_lem (variable a) = outside
steps limit exponent_next_lem opening = outside
steps limit exponent_next_lem closing = outside
steps limit exponent_next_lem star = outside
steps limit exponent_next_lem plus_sign = outside
steps limit exponent_next_lem minus_sign = outside
steps limit exponent_next_lem caret = outside
steps limit exponent_next_lem foreign = outside
steps limit power_read_lem (digit d) = outside
steps limit power_read_lem (variable a) = outside
steps limit power_read_lem opening = outside
steps limit power_read_lem closing = steps_closing _ _
steps limit power_read_lem star = atom_next_lem
steps limit power_read_lem plus_sign = atom_next_lem
steps limit power_read_lem minus_sign = atom_next_lem
steps limit power_read_lem caret = outside
steps limit power_read_lem foreign = outside
steps limit outside (digit d) = outside
steps limit outside (variable a) = outside
steps limit outside opening = outside
steps limit outside closing = outside
steps limit outside star = outside
steps limit outside plus_sign = outside
steps limit outside minus_sign = outside
steps limit outside caret = outside
steps limit outside foreign = outside

-- ---- the text

-- at its end no parenthesis may be open
ends_empty : (f : Formula) (ls : List Level) → eqb (length ls) 0 ≡ is_read (ends f ls)
unfolding ends is_read
ends_empty f [] = refl
ends_empty f (l ∷ ls) = ne_eqb (suc (length ls)) 0 (λ z. omega arith)

ends_as : {q : State} {m depth : ℕ} → Stands q m depth → (leb power_read m && eqb depth 0) ≡ is_read (finish q)
unfolding finish is_read ends exponent_next atom_next sum_next power_read atom_read outside_mode
ends_as sum_next_lem = refl
ends_as atom_next_lem = refl
ends_as (digits_read_lem {k} {ls}) = rw (digits_above (lit≤ tt) k) (ends_empty _ ls)
ends_as (atom_read_lem {ls}) = ends_empty _ ls
ends_as exponent_next_lem = refl
ends_as (power_read_lem {ls}) = ends_empty _ ls
ends_as outside = refl

runs_as : (limit n : ℕ) (s : List ℕ) {q : State} {m depth : ℕ} → Stands q m depth → pass_from limit n m depth s ≡ is_read (run limit n q s)
unfolding pass_from run
runs_as limit n [] h = ends_as h
runs_as limit n (b ∷ s) h = runs_as limit n s (steps limit h (token n b))

pub pass_reads : (limit n : ℕ) (s : List ℕ) → formula_within limit n s ≡ is_read (reading_of limit n s)
unfolding formula_within reading_of
pass_reads limit n s = runs_as limit n s sum_next_lem

-- ---- outside the language the pass stays outside

still_outside : (limit depth : ℕ) (t : Token) → next_mode limit depth outside_mode t ≡ outside_mode
unfolding next_mode after_digit only expects_atom outside_mode exponent_next atom_next sum_next power_read atom_read digits_read
still_outside limit depth (digit d) = refl
still_outside limit depth (variable a) = refl
still_outside limit depth opening = refl
still_outside limit depth closing = refl
still_outside limit depth star = refl
still_outside limit depth plus_sign = refl
still_outside limit depth minus_sign = refl
still_outside limit depth caret = refl
still_outside limit depth foreign = refl

outside_fails : (limit n depth : ℕ) (s : List ℕ) → pass_from limit n outside_mode depth s ≡ false
unfolding pass_from power_read outside_mode
outside_fails limit n depth [] = refl
outside_fails limit n depth (b ∷ s) =
    rw (still_outside limit depth (token n b)) (outside_fails limit n (next_depth limit depth (token n b)) s)

-- ---- the pass over the bytes from i on

-- it answers as the reader does on the whole text
pub record PassedTo (limit n : ℕ) (text : List ℕ) (mode depth i : ℕ) : Type 0 where
  pub rest : pass_from limit n mode depth (drop i text) ≡ is_read (reading_of limit n text)

pub pass_starts : (limit n : ℕ) (text : List ℕ) → PassedTo limit n text sum_next 0 0
unfolding formula_within
pass_starts limit n text = record { rest = pass_reads limit n text }

module _ {limit n : ℕ} {text : List ℕ} {mode depth i : ℕ} (h : PassedTo limit n text mode depth i) where
  pub pass_next :
      {m d : ℕ} → i < length text → m ≡ next_mode limit depth mode (token n (get_or text i 0)) → d ≡ next_depth limit depth (token n (get_or text i 0))
      → PassedTo limit n text m d (i + 1)
  unfolding pass_from
  pass_next l e f = let next : i + 1 ≡ suc i = omega arith in record { rest = rw (e, f, next) (rw (drop-cons text i 0 l) at h.rest) }

  pub pass_outside : i < length text → outside_mode ≡ next_mode limit depth mode (token n (get_or text i 0)) → false ≡ is_read (reading_of limit n text)
  pass_outside l e =
      sym (outside_fails limit n (next_depth limit depth (token n (get_or text i 0))) (drop (i + 1) text)) ∙ (pass_next l e refl).rest

  module _ {r : Bool} (is : r ≡ leb power_read mode) (last : length text ≤ i) where
    pass_ends : (r && eqb depth 0) ≡ is_read (reading_of limit n text)
    unfolding pass_from
    pass_ends = rw is (rw (drop_of_length-le text last) at h.rest)

    pub pass_ends_power : r ≡ true → eqb depth 0 ≡ is_read (reading_of limit n text)
    pass_ends_power e = rw e at pass_ends

    pub pass_ends_short : r ≡ false → r ≡ is_read (reading_of limit n text)
    pass_ends_short e = e ∙ (rw e at pass_ends)
