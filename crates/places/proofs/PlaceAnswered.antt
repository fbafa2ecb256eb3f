-- The place as an answer has it: the numbers that count, and 0 behind them.
use Rattle.std.proofs.Common.{ℕ, suc, zero, ◌≤◌, ◌≡◌, refl, sym, ap, ◌∙◌, arith, List, [], ◌∷◌, ◌++◌, length, take, drop, replicate}
use Rattle.std.proofs.lemmas.List.{length-take-le, length-replicate}
use Rattle.paper.specs.Answers.{padded}

pub padded_behind : {A : Type 0} (d : A) (k : ℕ) (l : List A) → length l ≤ k → padded d k l ≡ l ++ drop (length l) (replicate k d)
unfolding padded
padded_behind d zero [] h = refl
padded_behind d zero (x ∷ l) h = absurd (omega arith)
padded_behind d (suc k) [] h = ap (λ t. d ∷ t) (padded_behind d k [] (omega arith))
padded_behind d (suc k) (x ∷ l) h = ap (λ t. x ∷ t) (padded_behind d k l (omega arith))

-- the first n numbers of an array, put over the first n of as many d
pub padded_taken : {A : Type 0} (d : A) (k n : ℕ) (l : List A) {t : List A} → t ≡ take n l → length t ≡ length (take n (replicate k d)) → n ≤ k
    → t ++ drop n (replicate k d) ≡ padded d k (take n l)
padded_taken d k n l {t} e c h =
    let count : length t ≡ n = c ∙ length-take-le n (replicate k d) (omega (arith, length-replicate k d)) in
    ap (λ m. t ++ drop m (replicate k d)) (sym count) ∙ sym (padded_behind d k t (omega arith)) ∙ ap (padded d k) e
