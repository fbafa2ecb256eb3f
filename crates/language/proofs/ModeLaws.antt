-- The tests of the code's modes, and the mode behind a token.
use Prim.Native.Nat.{ℕ, ◌+◌, ◌≤◌, ◌<◌}
use mathlib.Core.Path.{◌≡◌, refl, sym, ap, ◌∙◌}
use mathlib.Core.Bool.{Bool, true, false, ◌&&◌, true≢false}
use native.Mathlib.Omega.{arith}
use lib.Dec.{leb, lit≤}
use borrow.Author.Tests.{leb-true, le-leb, lt-ltb, le-ltb, ne_eqb}
use Rattle.std.specs.Prelude.{Option}
use Rattle.std.specs.Bool.{then_some}
use Rattle.language.specs.declared.Mode.{Mode}
use Rattle.language.specs.declared.Mode.TheVariants.{ExponentNext, AtomNext, SumNext, PowerRead, AtomRead, DigitsRead}
use Rattle.language.specs.Pass.{outside_mode, exponent_next, atom_next, sum_next, power_read, atom_read, digits_read}
use Rattle.language.specs.Pass.{only, expects_atom, after_digit}
use Rattle.language.specs.Modes.{mode_number, mode_as}
use Rattle.language.proofs.PassLaws.{digits_above, digits_no_atom}

-- ---- the tests

pub no_atom : (m : Mode) → (m ≡ AtomNext → ⊥) → (m ≡ SumNext → ⊥) → false ≡ expects_atom (mode_number m)
unfolding expects_atom atom_next sum_next exponent_next power_read atom_read
no_atom ExponentNext h k = refl
no_atom AtomNext h k = absurd (h refl)
no_atom SumNext h k = absurd (k refl)
no_atom PowerRead h k = refl
no_atom AtomRead h k = refl
no_atom (DigitsRead j) h k = sym (digits_no_atom j)

pub digits_end : (k : ℕ) → true ≡ leb atom_read (digits_read k)
unfolding atom_read
digits_end k = sym (digits_above (lit≤ tt) k)

pub no_end : (m : Mode) → (m ≡ AtomRead → ⊥) → ((k : ℕ) → m ≡ DigitsRead k → ⊥) → false ≡ leb atom_read (mode_number m)
unfolding exponent_next atom_next sum_next power_read atom_read
no_end ExponentNext h k = refl
no_end AtomNext h k = refl
no_end SumNext h k = refl
no_end PowerRead h k = refl
no_end AtomRead h k = absurd (h refl)
no_end (DigitsRead j) h k = absurd (k j refl)

-- what passes a test passes a weaker one
pub weaker : {r : Bool} (i j m : ℕ) → i ≤ j → r ≡ leb j m → r ≡ true → r ≡ leb i m
weaker i j m l e h = h ∙ sym (le-leb i m (omega (arith, leb-true j m (sym e ∙ h))))

pub no_power : {r : Bool} (m : Mode) → (m ≡ PowerRead → ⊥) → r ≡ leb atom_read (mode_number m) → r ≡ false → false ≡ leb power_read (mode_number m)
unfolding exponent_next atom_next sum_next power_read atom_read
no_power ExponentNext h e k = refl
no_power AtomNext h e k = refl
no_power SumNext h e k = refl
no_power PowerRead h e k = absurd (h refl)
no_power AtomRead h e k = absurd (true≢false (sym e ∙ k))
no_power (DigitsRead j) h e k = absurd (true≢false (digits_end j ∙ sym e ∙ k))

pub no_minus : {r : Bool} (m : Mode) → (m ≡ SumNext → ⊥) → r ≡ leb power_read (mode_number m) → r ≡ false → false ≡ leb sum_next (mode_number m)
unfolding exponent_next atom_next sum_next power_read atom_read
no_minus ExponentNext h e k = refl
no_minus AtomNext h e k = refl
no_minus SumNext h e k = absurd (h refl)
no_minus PowerRead h e k = absurd (true≢false (sym e ∙ k))
no_minus AtomRead h e k = absurd (true≢false (sym e ∙ k))
no_minus (DigitsRead j) h e k = absurd (true≢false (sym (digits_above (lit≤ tt) j) ∙ sym e ∙ k))

-- ---- two tests one behind the other

module _ (a b : Bool) {v : Bool} where
  pub both_tested : a ≡ true → v ≡ b → v ≡ (a && b)
  both_tested e f = rw e f

  pub first_fails : a ≡ false → v ≡ false → v ≡ (a && b)
  first_fails e f = rw e f

-- ---- the mode that a test allows

pub allowed : {r : Option Mode} {t : Bool} (u : Bool) (m : Mode) → r ≡ then_some t m → t ≡ u → mode_as r ≡ only u (mode_number m)
unfolding only
allowed {t} u m e f = ap mode_as e ∙ ap (λ x. mode_as (then_some x m)) f ∙ go u
  where
    go : (b : Bool) → mode_as (then_some b m) ≡ only b (mode_number m)
    go true = refl
    go false = refl

-- ---- a digit

module _ (k d : ℕ) where
  pub digits_go_on : k < 7 → digits_read (k + 1) ≡ after_digit (digits_read k) d
  unfolding after_digit exponent_next digits_read only
  digits_go_on l =
      rw (ne_eqb (6 + k) 1 (λ z. omega arith), digits_no_atom k, le-leb 6 (6 + k) (omega arith), lt-ltb (6 + k) 13 (omega arith)) (omega arith)

  pub digits_full : 7 ≤ k → outside_mode ≡ after_digit (digits_read k) d
  unfolding after_digit exponent_next digits_read only outside_mode
  digits_full l = rw (ne_eqb (6 + k) 1 (λ z. omega arith), digits_no_atom k, le-leb 6 (6 + k) (omega arith), le-ltb (6 + k) 13 (omega arith)) refl
