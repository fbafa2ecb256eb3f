-- Laws of the lexicographic sign: of a list scaled by a number, of the opposite list, of a list of zeros, and of three lists
-- whose numbers add up to 0 place by place. The lists are given as `map f js`, so that lists of one length need no hypothesis.
-- Also the laws of signs that these rest on, and of the Boolean test of equality of signs.
use Prim.Native.Nat.{ℕ, suc, zero, ◌+◌, ◌≤◌, ◌<◌}
use native.Mathlib.Omega.{arith}
use native.Mathlib.Decide.{ℕ_discrete}
use mathlib.Core.Path.{◌≡◌, refl, sym, ap, ◌∙◌}
use mathlib.Core.Bool.{Bool, true, false, false≢true}
use mathlib.Core.Logic.{◌≢◌}
use mathlib.Core.List.{List, [], ◌∷◌, map}
use lib.IntN.{ℤ}
use Rattle.exact.specs.Int.{◌⊕◌, ◌⊗◌, neg, 0ℤ}
use Rattle.exact.specs.Sign.{Sign, negative, nought, positive, sign, or_else, lex_sign, same_sign}
use Rattle.exact.specs.Crossed.{count_from}
use Rattle.exact.proofs.SignLaws.{opposite, sign_times, sign_neg, sign_mul, sign_zero, sign_nought, sign_three, CanCancel, noughts, plus_minus_any, plus_any_minus, any_plus_minus, minus_plus_any, minus_any_plus, any_minus_plus}

-- ---- signs

pub same_sign_refl : (s : Sign) → same_sign s s ≡ true
unfolding same_sign
same_sign_refl negative = refl
same_sign_refl nought = refl
same_sign_refl positive = refl

pub same_sign_sound : (s t : Sign) → same_sign s t ≡ true → s ≡ t
unfolding same_sign
same_sign_sound negative negative h = refl
same_sign_sound negative nought h = absurd (false≢true h)
same_sign_sound negative positive h = absurd (false≢true h)
same_sign_sound nought negative h = absurd (false≢true h)
same_sign_sound nought nought h = refl
same_sign_sound nought positive h = absurd (false≢true h)
same_sign_sound positive negative h = absurd (false≢true h)
same_sign_sound positive nought h = absurd (false≢true h)
same_sign_sound positive positive h = refl

pub signs_differ : (s t : Sign) → s ≢ t → same_sign s t ≡ false
signs_differ s t h = go (same_sign s t) refl
  where
    go : (b : Bool) → same_sign s t ≡ b → b ≡ false
    go true e = absurd (h (same_sign_sound s t e))
    go false e = refl

pub same_nought : (x : ℤ) → x ≡ 0ℤ → same_sign (sign x) nought ≡ true
same_nought x h = ap (λ y. same_sign (sign y) nought) h ∙ ap (λ s. same_sign s nought) sign_zero ∙ same_sign_refl nought

pub nonzero_sign : (x : ℤ) → x ≢ 0ℤ → sign x ≢ nought
nonzero_sign x h e = h (sign_nought x e)

pub sign_discrete : (s t : Sign) → Dec (s ≡ t)
sign_discrete s t = go (same_sign s t) refl
  where
    go : (b : Bool) → same_sign s t ≡ b → Dec (s ≡ t)
    go true e = yes (same_sign_sound s t e)
    go false e = no (λ h. false≢true (sym e ∙ ap (same_sign s) (sym h) ∙ same_sign_refl s))

pub opposite_opposite : (s : Sign) → opposite (opposite s) ≡ s
unfolding opposite
opposite_opposite negative = refl
opposite_opposite nought = refl
opposite_opposite positive = refl

-- a sign that is its own opposite is nought
pub opposite_fixed : (s : Sign) → s ≡ opposite s → s ≡ nought
unfolding opposite
opposite_fixed negative h = cc
opposite_fixed nought h = refl
opposite_fixed positive h = cc

pub sign_times_nought : (s : Sign) → sign_times s nought ≡ nought
unfolding sign_times opposite
sign_times_nought negative = refl
sign_times_nought nought = refl
sign_times_nought positive = refl

pub sign_times_comm : (s t : Sign) → sign_times s t ≡ sign_times t s
unfolding sign_times opposite
sign_times_comm negative negative = refl
sign_times_comm negative nought = refl
sign_times_comm negative positive = refl
sign_times_comm nought t = sym (sign_times_nought t)
sign_times_comm positive negative = refl
sign_times_comm positive nought = refl
sign_times_comm positive positive = refl

-- ---- lexicographic signs

-- the product with a sign goes into `or_else`
sign_times_or_else : (s t u : Sign) → sign_times s (or_else t u) ≡ or_else (sign_times s t) (sign_times s u)
unfolding sign_times or_else opposite
sign_times_or_else negative negative u = refl
sign_times_or_else negative nought u = refl
sign_times_or_else negative positive u = refl
sign_times_or_else nought negative u = refl
sign_times_or_else nought nought u = refl
sign_times_or_else nought positive u = refl
sign_times_or_else positive negative u = refl
sign_times_or_else positive nought u = refl
sign_times_or_else positive positive u = refl

-- every number times a: the product of the signs
pub lex_sign_scale :
    {A : Type 0} (a : ℤ) (f : A → ℤ) (js : List A)
    → lex_sign (map (λ j. a ⊗ f j) js) ≡ sign_times (sign a) (lex_sign (map f js))
unfolding lex_sign
lex_sign_scale a f [] = sym (sign_times_nought (sign a))
lex_sign_scale a f (j ∷ js) = rw (sign_mul, lex_sign_scale a f js, sign_times_or_else)

or_else_opposite : (t u : Sign) → or_else (opposite t) (opposite u) ≡ opposite (or_else t u)
unfolding or_else opposite
or_else_opposite negative u = refl
or_else_opposite nought u = refl
or_else_opposite positive u = refl

pub lex_sign_neg : {A : Type 0} (f : A → ℤ) (js : List A) → lex_sign (map (λ j. neg (f j)) js) ≡ opposite (lex_sign (map f js))
unfolding lex_sign opposite
lex_sign_neg f [] = refl
lex_sign_neg f (j ∷ js) = rw (sign_neg, lex_sign_neg f js, or_else_opposite)

or_else_nought : (t u : Sign) → or_else t u ≡ nought → (t ≡ nought) × (u ≡ nought)
unfolding or_else
or_else_nought negative u h = (h, cc)
or_else_nought nought u h = (refl, h)
or_else_nought positive u h = (h, cc)

-- the lexicographic sign is nought exactly if every number is 0: the numbers f k, .., f (k + m − 1)
pub lex_sign_nought : (f : ℕ → ℤ) (k m : ℕ) → lex_sign (map f (count_from k m)) ≡ nought → (j : ℕ) → k ≤ j → j < k + m → f j ≡ 0ℤ
unfolding lex_sign count_from
lex_sign_nought f k zero h j l u = absurd (omega arith)
lex_sign_nought f k (suc m) h j l u = go (ℕ_discrete k j) (lex_sign_nought f (suc k) m parts.1 j)
  where
    parts : (sign (f k) ≡ nought) × (lex_sign (map f (count_from (suc k) m)) ≡ nought)
    parts = or_else_nought (sign (f k)) (lex_sign (map f (count_from (suc k) m))) h

    go : Dec (k ≡ j) → (suc k ≤ j → j < suc k + m → f j ≡ 0ℤ) → f j ≡ 0ℤ
    go (yes e) later = ap f (sym e) ∙ sign_nought (f k) parts.0
    go (no d) later = later (omega arith) (omega arith)

pub lex_sign_zeros : (f : ℕ → ℤ) (k m : ℕ) → ((j : ℕ) → k ≤ j → j < k + m → f j ≡ 0ℤ) → lex_sign (map f (count_from k m)) ≡ nought
unfolding lex_sign count_from sign or_else
lex_sign_zeros f k zero h = refl
lex_sign_zeros f k (suc m) h = rw (h k (omega arith) (omega arith), lex_sign_zeros f (suc k) m (λ j l u. h j (omega arith) (omega arith)))

-- ---- three numbers whose sum is 0

-- CanCancel passes to the first signs that are not nought
can_cancel_or_else : {a b c : Sign} (l m n : Sign) → CanCancel a b c → CanCancel l m n → CanCancel (or_else a l) (or_else b m) (or_else c n)
unfolding or_else
can_cancel_or_else l m n noughts h = h
can_cancel_or_else l m n (plus_minus_any s) h = plus_minus_any (or_else s n)
can_cancel_or_else l m n (plus_any_minus s) h = plus_any_minus (or_else s m)
can_cancel_or_else l m n (any_plus_minus s) h = any_plus_minus (or_else s l)
can_cancel_or_else l m n (minus_plus_any s) h = minus_plus_any (or_else s n)
can_cancel_or_else l m n (minus_any_plus s) h = minus_any_plus (or_else s m)
can_cancel_or_else l m n (any_minus_plus s) h = any_minus_plus (or_else s l)

-- three lists whose numbers have sum 0 place by place
pub lex_sign_three :
    {A : Type 0} (f g h : A → ℤ) (js : List A)
    → ((j : A) → f j ⊕ g j ⊕ h j ≡ 0ℤ)
    → CanCancel (lex_sign (map f js)) (lex_sign (map g js)) (lex_sign (map h js))
unfolding lex_sign
lex_sign_three f g h [] e = noughts
lex_sign_three f g h (j ∷ js) e =
    can_cancel_or_else _ _ _ (sign_three (f j) (g j) (h j) (e j)) (lex_sign_three f g h js e)
