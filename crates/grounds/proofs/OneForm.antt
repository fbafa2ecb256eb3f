-- The code's answer has one form for each ground: no field of it is free, whatever the dimension.
use Prim.Native.Nat.{ℕ, ◌≤◌, ◌<◌}
use native.Mathlib.Omega.{arith}
use mathlib.Core.Path.{◌≡◌, refl, sym, ap, ap₂, subst, ◌∙◌}
use mathlib.Core.Bool.{◌&&◌}
use mathlib.Core.Logic.{◌⊎◌, inl, inr}
use mathlib.Core.List.{List}
use mathlib.Core.HLevel.{is_prop→PathP}
use lib.Dec.{eqb}
use lib.ListN.{length, get_or, take}
use lib.Pointwise.{pointwise}
use borrow.Author.Tests.{eqb-true, eq-eqb}
use Rattle.std.proofs.Common.{IsTrue, ◌↔◌}
use Rattle.std.proofs.Props.{props}
use Rattle.std.specs.Cmp.Lexicographic.{bytes_decides}
use Rattle.std.proofs.lemmas.Bool.{cases_lt}
use Rattle.std.proofs.lemmas.List.{ext_get_or, length-take-le, get_or-take}
use Rattle.exact.proofs.AndTests.{and_left, and_right, and-true}
use Rattle.grounds.specs.declared.Powers.{Powers}
use Rattle.grounds.specs.declared.NamedGround.{NamedGround}
use Rattle.grounds.specs.declared.NamedGround.TheVariants.{ZeroDeterminant, Against, Crossed}
use Rattle.grounds.specs.Whole.{WholePowers}
use Rattle.grounds.specs.Judged.{named_as}

module _ {n : ℕ} {ps : List ℕ} (w : WholePowers n ps) where
  -- as many as count are in the list that the powers stand for
  counted : length (take n ps) ≡ n
  counted = let c : length ps ≡ 4 = w.count in let f : n ≤ 4 = w.few in length-take-le n ps (omega arith)

module _ {n m : ℕ} {ps qs : List ℕ} (w : WholePowers n ps) (v : WholePowers m qs) (same : take n ps ≡ take m qs) where
  same_count : n ≡ m
  same_count = sym (counted w) ∙ ap length same ∙ counted v

  same_powers : ps ≡ qs
  same_powers = ext_get_or 0 ps qs (w.count ∙ sym v.count) (λ k l. cell k (cases_lt k n))
    where
      cell : (k : ℕ) → (k < n) ⊎ (n ≤ k) → get_or ps k 0 ≡ get_or qs k 0
      cell k (inl l) = sym (get_or-take n ps k 0 l) ∙ ap (λ l. get_or l k 0) same ∙ get_or-take m qs k 0 (let e : n ≡ m = same_count in omega arith)
      cell k (inr l) = w.rest k l ∙ sym (v.rest k (let e : n ≡ m = same_count in omega arith))

whole_once : (n : ℕ) (ps : List ℕ) → IsProp (WholePowers n ps)
whole_once n ps = hlevel props

-- powers that stand for the same list are the same
powers_only : (p q : Powers) → take p.n p.powers ≡ take q.n q.powers → p ≡ q
powers_only p q e = λ i. record {
  n = same_count p.whole q.whole e i;
  powers = same_powers p.whole q.whole e i;
  whole = is_prop→PathP (λ j. WholePowers (same_count p.whole q.whole e j) (same_powers p.whole q.whole e j))
      (λ j. whole_once (same_count p.whole q.whole e j) (same_powers p.whole q.whole e j)) p.whole q.whole i;
}

-- so `==`, which compares the fields, tells them apart exactly where they differ
pub powers_decide : (p q : Powers) → IsTrue (eqb p.n q.n && pointwise eqb p.powers q.powers) ↔ (p ≡ q)
powers_decide p q = (
  λ t. powers_only p q (ap₂ take (eqb-true p.n q.n (and_left (eqb p.n q.n) (pointwise eqb p.powers q.powers) t)) (listed.0 (and_right (eqb p.n q.n) (pointwise eqb p.powers q.powers) t))),
  λ e. subst (λ (q : Powers). IsTrue (eqb p.n q.n && pointwise eqb p.powers q.powers)) e (and-true (eq-eqb p.n p.n refl) ((bytes_decides p.powers p.powers).1 refl)),
)
  where
    listed : IsTrue (pointwise eqb p.powers q.powers) ↔ (p.powers ≡ q.powers)
    listed = bytes_decides p.powers q.powers

-- and answers that name the same ground are the same
pub one_answer : (a b : NamedGround) → named_as a ≡ named_as b → a ≡ b
unfolding named_as
one_answer ZeroDeterminant ZeroDeterminant e = refl
one_answer ZeroDeterminant (Against i j) e = absurd cc
one_answer ZeroDeterminant (Crossed p) e = absurd cc
one_answer (Against i j) ZeroDeterminant e = absurd cc
one_answer (Against i j) (Against k l) e = cc
one_answer (Against i j) (Crossed p) e = absurd cc
one_answer (Crossed p) ZeroDeterminant e = absurd cc
one_answer (Crossed p) (Against i j) e = absurd cc
one_answer (Crossed p) (Crossed q) e = ap Crossed (powers_only p q cc)
