-- A place's loop compared with those of earlier positions, from the last on: none of those seen is the same, and the first of them around it is
-- known.
use Prim.Native.Nat.{ℕ, suc, ◌+◌, ◌*◌, ◌-◌, ◌≤◌, ◌<◌}
use native.Mathlib.Omega.{arith}
use mathlib.Core.Path.{◌≡◌, refl, sym, ap, ap₂, ◌∙◌}
use mathlib.Core.Bool.{Bool, true, false, not, cond, ◌&&◌}
use mathlib.Core.List.Memᴰ
use mathlib.Core.List.{List, [], ◌∷◌, map}
use lib.ListN.{take, drop}
use Rattle.std.proofs.Common.{Option, Some, None}
use Rattle.exact.specs.Crossed.{count_from}
use Rattle.exact.proofs.CountFrom.{count_from_next, count_from_none}
use Rattle.curves.specs.Grid.{Place}
use Rattle.curves.proofs.Listed.{count_from_listed}
use Rattle.paper.specs.Job.{decode_place}
use Rattle.paper.proofs.Refusals.{refuse_here, refuse_later}
use Rattle.paper.proofs.PlaceLists.{part_is}
use Rattle.job.specs.OpenJob.{JobOf}
use Rattle.nesting.specs.Inside.{inside}
use Rattle.nesting.specs.Standing.{some}
use Rattle.nesting.specs.CutOrder.{loop_of, same_loop, row_end, loop_inside, listed_at, first_listed}
use Rattle.nesting.proofs.Standing.{member_some}
use Rattle.loops.specs.declared.Past as Past
use Rattle.loops.specs.Past.{beside, told, told_of}
use Rattle.positions.specs.Positions.{first_from, outer_of, compared_refusal}
use Rattle.positions.proofs.ListedPlaces.{listed_is}

-- ---- what one walk tells

unfoldable pub is_same : Past.Past → Bool
is_same Past.TheVariants.Same = true
is_same Past.TheVariants.Inside = false
is_same Past.TheVariants.Outside = false

unfoldable pub is_inside : Past.Past → Bool
is_inside Past.TheVariants.Same = false
is_inside Past.TheVariants.Inside = true
is_inside Past.TheVariants.Outside = false

told_same : (same within : Bool) → is_same (told same within) ≡ same
unfolding told beside is_same
told_same true true = refl
told_same true false = refl
told_same false true = refl
told_same false false = refl

told_inside : (same within : Bool) → is_inside (told same within) ≡ (not same && within)
unfolding told beside is_inside
told_inside true true = refl
told_inside true false = refl
told_inside false true = refl
told_inside false false = refl

-- the walk says whether the loops are the same and whether one is inside the other
pub record Tells (s : List ℕ) (p q : Place) (same within : Bool) : Type 0 where
  pub is_same : same_loop s p q ≡ same
  pub is_inside_lem : loop_inside s p q ≡ within

pub tells : {s : List ℕ} {p q : Place} {r t : Past.Past} → r ≡ told_of s p q → t ≡ r → Tells s p q (is_same t) (is_inside t)
unfolding told_of loop_inside
tells {s} {p} {q} e f =
    let same = same_loop s p q in
    let within = inside (row_end s) (loop_of s q) p.facet.low in
    record {
      is_same = sym (ap is_same (f ∙ e) ∙ told_same same within);
      is_inside_lem = sym (ap is_inside (f ∙ e) ∙ told_inside same within);
    }

-- the places are those at two positions of the list
pub walk_tells : {s : List ℕ} (ps : List ℕ) (job : JobOf 2 s) (k j : ℕ) {inner outer : List ℕ} {r t : Past.Past}
    → inner ≡ take (6 * k + 6 - 6 * k) (drop (6 * k) ps) → outer ≡ take (6 * j + 6 - 6 * j) (drop (6 * j) ps)
    → r ≡ told_of s (decode_place 2 inner) (decode_place 2 outer) → r ≡ t
    → Tells s (listed_at s ps k) (listed_at s ps j) (is_same t) (is_inside t)
walk_tells {s} ps job k j d e f g =
    tells (f ∙ ap₂ (told_of s) (listed_is s ps job k (part_is s ps job.dimension k d)) (listed_is s ps job j (part_is s ps job.dimension j e))) (sym g)

-- ---- position by position

module _ (s ps : List ℕ) (k : ℕ) where
  abbrev p : Place
  p = listed_at s ps k

  -- the places from position i on, up to k
  unfoldable pub listed_from : ℕ → List Place
  listed_from i = map (listed_at s ps) (count_from i (k - i))

  pub record Comparing (outer : Option ℕ) (i : ℕ) : Type 0 where
    pub below : i ≤ k
    pub apart : some (same_loop s p) (listed_from i) ≡ false
    pub around : outer ≡ first_from (loop_inside s p) i (listed_from i)

  pub comparing_begins : Comparing None k
  unfolding listed_from some first_from
  comparing_begins =
      let none : count_from k (k - k) ≡ [] = count_from_none k k (omega arith) in
      record {
        below = omega arith;
        apart = rw none refl;
        around = rw none refl;
      }

  module _ {outer : Option ℕ} {i : ℕ} (c : Comparing outer i) (h : 0 < i) where
    listed_next : listed_from (i - 1) ≡ listed_at s ps (i - 1) ∷ listed_from i
    unfolding listed_from
    listed_next =
        ap (map (listed_at s ps)) (count_from_next (i - 1) k (omega (arith, c.below)))
        ∙ ap (λ m. listed_at s ps (i - 1) ∷ map (listed_at s ps) (count_from m (k - m))) (omega arith)

    -- another loop: it is around this one or not
    pub comparing_on : {within : Bool} → Tells s p (listed_at s ps (i - 1)) false within → Comparing (cond within (Some (i - 1)) outer) (i - 1)
    unfolding some first_from
    comparing_on {within} t =
        let next : suc (i - 1) ≡ i = omega arith in
        record {
          below = omega (arith, c.below);
          apart = ap (some (same_loop s p)) listed_next ∙ rw t.is_same c.apart;
          around =
              ap (cond within (Some (i - 1))) (c.around ∙ ap (λ m. first_from (loop_inside s p) m (listed_from i)) (sym next))
              ∙ ap (λ b. cond b (Some (i - 1)) (first_from (loop_inside s p) (suc (i - 1)) (listed_from i))) (sym t.is_inside_lem)
              ∙ sym (ap (first_from (loop_inside s p) (i - 1)) listed_next);
        }

    -- the same loop already came
    pub compared_same : {within : Bool} → Tells s p (listed_at s ps (i - 1)) true within → 18 ≡ compared_refusal s ps k
    unfolding compared_refusal first_listed
    compared_same t =
        let came : some (same_loop s p) (first_listed s ps k) ≡ true =
        member_some (same_loop s p) (first_listed s ps k)
        (Memᴰ.map (listed_at s ps) (count_from_listed 0 k (i - 1) (omega arith) (omega (arith, c.below)))) t.is_same in
        sym (refuse_here 18 0 came)

  -- all are seen
  pub compared_all : {outer : Option ℕ} {i : ℕ} → Comparing outer i → i ≤ 0 → (compared_refusal s ps k ≡ 0) × (outer ≡ outer_of s ps k)
  unfolding compared_refusal outer_of first_listed listed_from
  compared_all {outer} {i} c h =
      let none : i ≡ 0 = omega (arith, h) in
      let all : k - i ≡ k = omega arith in
      let apart : some (same_loop s p) (map (listed_at s ps) (count_from 0 k)) ≡ false =
      (λ n. some (same_loop s p) (map (listed_at s ps) (count_from (sym none n) (sym all n)))) ∙ c.apart in
      let around : outer ≡ first_from (loop_inside s p) 0 (map (listed_at s ps) (count_from 0 k)) =
      c.around ∙ (λ n. first_from (loop_inside s p) (none n) (map (listed_at s ps) (count_from (none n) (all n)))) in
      (refuse_later 18 0 apart, around)
