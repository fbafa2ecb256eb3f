-- The search of `exit` from a vertex on, in the code's numbers.
use Prim.Native.Nat.{ℕ, suc, ◌+◌, ◌-◌, ◌≤◌}
use mathlib.Core.Path.{◌≡◌, sym, ap, ◌∙◌}
use mathlib.Core.Bool.{Bool, true, false}
use mathlib.Core.List.{List, ◌∷◌}
use native.Mathlib.Omega.{arith}
use Rattle.exact.specs.Det.{Column}
use Rattle.exact.specs.Crossed.{count_from, other_crossed, exit}
use Rattle.exact.proofs.CountFrom.{count_from_next, count_from_none}
use Rattle.exact.proofs.Exit.{is_other, other_crossed_here, other_crossed_later}

module _ (n : ℕ) (us : List Column) (out : ℕ) where
  -- what is left of the search at q
  unfoldable pub search_from : ℕ → ℕ
  search_from q = other_crossed n us out (suc n) (count_from q (suc n - q))

  pub exit_start : exit n us out ≡ search_from 0
  unfolding exit search_from
  exit_start = let whole : suc n ≡ suc n - 0 = omega arith in ap (λ m. other_crossed n us out (suc n) (count_from 0 m)) whole

-- what the search gives at q, where `other` is the test of vertex q
module _ (n : ℕ) (us : List Column) (out q : ℕ) (inv : exit n us out ≡ search_from n us out q) where
  module _ (l : q ≤ n) {other : Bool} (is-other : other ≡ is_other n us out q) where
    next : search_from n us out q ≡ other_crossed n us out (suc n) (q ∷ count_from (q + 1) (suc n - (q + 1)))
    unfolding search_from
    next = ap (other_crossed n us out (suc n)) (count_from_next q (suc n) (omega arith))

    pub exit_here : other ≡ true → q ≡ exit n us out
    exit_here t = sym (inv ∙ next ∙ other_crossed_here n us out (suc n) q (count_from (q + 1) (suc n - (q + 1))) (sym is-other ∙ t))

    pub exit_later : other ≡ false → exit n us out ≡ search_from n us out (q + 1)
    unfolding search_from
    exit_later t = inv ∙ next ∙ other_crossed_later n us out (suc n) q (count_from (q + 1) (suc n - (q + 1))) (sym is-other ∙ t)

  pub exit_end : q ≡ suc n → q ≡ exit n us out
  unfolding search_from other_crossed
  exit_end e = sym (inv ∙ ap (other_crossed n us out (suc n)) (count_from_none q (suc n) (omega arith)) ∙ sym e)
