-- The reading from a byte on: at the text's end and at its next byte.
use Prim.Native.Nat.{ℕ, suc, zero, ◌+◌, ◌≤◌, ◌<◌}
use mathlib.Core.Path.{◌≡◌, refl, sym, ap, ◌∙◌}
use mathlib.Core.Bool.{Bool, true, false, true≢false}
use mathlib.Core.List.{List, [], ◌∷◌}
use native.Mathlib.Omega.{arith}
use lib.Dec.{ltb}
use lib.ListN.{length, get_or, drop, drop_of_length-le}
use lib.Seq.{drop-cons}
use borrow.Author.Tests.{eqb-true, ltb-true, ltb-false}
use Rattle.formula.specs.Reader.{State, failed, token, step, finish, run, outside}
use Rattle.formula.specs.Read.{nesting_limit, is_read}
use Rattle.readers.specs.Ahead.{read_from, byte_is}

pub byte_past : (s : List ℕ) (i : ℕ) → length s ≤ i → get_or s i 0 ≡ 0
byte_past [] i h = refl
byte_past (x ∷ s) zero h = absurd (omega (arith, h))
byte_past (x ∷ s) (suc i) h = byte_past s i (omega (arith, h))

-- a byte that is not 0 stands inside
pub byte_inside : (s : List ℕ) (i : ℕ) → 0 < get_or s i 0 → i < length s
byte_inside s i h = go (ltb i (length s)) refl
  where
    go : (b : Bool) → ltb i (length s) ≡ b → i < length s
    go true e = ltb-true i (length s) e
    go false e = absurd (omega (arith, h, byte_past s i (omega (arith, ltb-false i (length s) e))))

pub byte_is_lem : (s : List ℕ) (i k : ℕ) → byte_is s i (suc k) ≡ true → get_or s i 0 ≡ suc k
unfolding byte_is
byte_is_lem s i k h = eqb-true (get_or s i 0) (suc k) h

pub byte_is_inside : (s : List ℕ) (i k : ℕ) → byte_is s i (suc k) ≡ true → i < length s
byte_is_inside s i k h = byte_inside s i (omega (arith, byte_is_lem s i k h))

-- one byte read
pub read_byte : (n : ℕ) (q : State) (s : List ℕ) (i : ℕ) → i < length s → read_from n q s i ≡ read_from n (step nesting_limit q (token n (get_or s i 0))) s (i + 1)
unfolding read_from
read_byte n q s i h =
    let next : suc i ≡ i + 1 = omega arith in
    rw (drop-cons s i 0 h, sym next) (unfold run in refl)

-- the text ends
pub read_end : (n : ℕ) (q : State) (s : List ℕ) (i : ℕ) → length s ≤ i → read_from n q s i ≡ finish q
unfolding read_from
read_end n q s i h = rw (drop_of_length-le s h) (unfold run in refl)

-- two states that the next byte, or the end, does not tell apart
pub same_from :
    (n : ℕ) (q q' : State) (s : List ℕ) (i : ℕ)
    → finish q ≡ finish q'
    → step nesting_limit q (token n (get_or s i 0)) ≡ step nesting_limit q' (token n (get_or s i 0))
    → read_from n q s i ≡ read_from n q' s i
same_from n q q' s i e f = go (ltb i (length s)) refl
  where
    go : (b : Bool) → ltb i (length s) ≡ b → read_from n q s i ≡ read_from n q' s i
    go true h =
        read_byte n q s i (ltb-true i (length s) h)
        ∙ (ap (λ (x : State). read_from n x s (i + 1)) f ∙ sym (read_byte n q' s i (ltb-true i (length s) h)))
    go false h =
        let past : length s ≤ i = omega (arith, ltb-false i (length s) h) in
        read_end n q s i past ∙ (e ∙ sym (read_end n q' s i past))

-- ---- a text that is read to its end

-- it does not end where the state does not
pub alive_inside : (n : ℕ) (q : State) (s : List ℕ) (i : ℕ) → is_read (finish q) ≡ false → is_read (read_from n q s i) ≡ true → i < length s
alive_inside n q s i e a = go (ltb i (length s)) refl
  where
    go : (b : Bool) → ltb i (length s) ≡ b → i < length s
    go true h = ltb-true i (length s) h
    go false h =
        absurd (true≢false (sym a ∙ (ap is_read (read_end n q s i (omega (arith, ltb-false i (length s) h))) ∙ e)))

run_failed : (limit n : ℕ) (s : List ℕ) → run limit n failed s ≡ outside
unfolding run step finish
run_failed limit n [] = refl
run_failed limit n (b ∷ s) = run_failed limit n s

pub not_failed : (n : ℕ) (s : List ℕ) (i : ℕ) → is_read (read_from n failed s i) ≡ true → ⊥
unfolding read_from
not_failed n s i h = true≢false (sym h ∙ ap is_read (run_failed nesting_limit n (drop i s)) ∙ unfold is_read in refl)
