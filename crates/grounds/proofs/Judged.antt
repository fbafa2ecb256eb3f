-- The ground that Judge names, from a job's bytes and a place's. Both forms of Judge agree everywhere (`both_agree`); the ground that is named
-- holds of the facet's columns, names the first vertex against D, and is the only one that does; and whoever reads any ground that holds
-- reaches Judge's answer.
use Prim.Native.Nat.{ℕ, suc, zero, ◌<◌}
use mathlib.Core.Path.{◌≡◌, refl, sym, ap, ◌∙◌}
use mathlib.Core.Logic.{◌≢◌}
use mathlib.Core.List.{List}
use Rattle.exact.specs.Int.{0ℤ}
use Rattle.exact.specs.Det.{determinant}
use Rattle.exact.specs.Crossed.{coefficient}
use Rattle.curves.specs.Step.{crossed_facet}
use Rattle.paper.specs.Job.{dimension}
use Rattle.paper.specs.Operations.{answered, unless, crossed_in, facet_of, judge_refusal, judged}
use Rattle.paper.proofs.Refusals.{answered_inv, unless_answered}
use Rattle.grounds.specs.Ground.{Ground, deciding_power, ground, crossed_by, Decides, Holds, NamesFirst, Names}
use Rattle.grounds.specs.Judged.{place_columns, judged_by, plainly}
use Rattle.grounds.proofs.Deciding.{power_to_name}
use Rattle.grounds.proofs.Ground.{settles, named_decides, ground_holds, ground_first, ground_only, ground_agrees}

plainly_unless : (k : ℕ) (g : Ground) → plainly (unless k g) ≡ unless k (crossed_by g)
unfolding plainly unless
plainly_unless zero g = refl
plainly_unless (suc k) g = refl

module _ (s p : List ℕ) where
  -- Judge's test is that of the columns
  crossed_columns : crossed_by (ground (dimension s) (place_columns s p)) ≡ crossed_in s (facet_of s p)
  unfolding crossed_in crossed_facet place_columns
  crossed_columns = ground_agrees (dimension s) (place_columns s p)

  -- the plain Judge and this one agree everywhere
  pub both_agree : plainly (judged_by s p) ≡ judged s p
  unfolding judged_by judged
  both_agree = plainly_unless (judge_refusal s p) (ground (dimension s) (place_columns s p)) ∙ ap (unless (judge_refusal s p)) crossed_columns

  -- whoever reads a ground that holds reaches Judge's answer
  pub reading_settles : (g : Ground) → judge_refusal s p ≡ 0 → Holds (dimension s) (place_columns s p) g → judged s p ≡ answered (crossed_by g)
  unfolding judged
  reading_settles g z h =
      unless_answered (crossed_in s (facet_of s p)) z
      ∙ ap answered (sym crossed_columns ∙ ground_agrees (dimension s) (place_columns s p) ∙ settles (dimension s) (place_columns s p) g h)

  module _ (g : Ground) (named : judged_by s p ≡ answered g) where
    is_ground : ground (dimension s) (place_columns s p) ≡ g
    unfolding judged_by
    is_ground = (answered_inv (judge_refusal s p) (ground (dimension s) (place_columns s p)) g named).is

    -- the ground that is named holds
    pub named_holds : Holds (dimension s) (place_columns s p) g
    named_holds = rw (sym is_ground) (ground_holds (dimension s) (place_columns s p))

    -- and the vertex that it names is the first against D
    pub named_first : NamesFirst (dimension s) (place_columns s p) g
    named_first = rw (sym is_ground) (ground_first (dimension s) (place_columns s p))

    -- a power is named only if all lower coefficients are 0
    pub named_lowest : (i j : ℕ) → Names g i j → (k : ℕ) → k < j → coefficient (dimension s) (place_columns s p) i k ≡ 0ℤ
    unfolding Holds
    named_lowest i j w =
        (named_decides (dimension s) (determinant (dimension s) (place_columns s p)) (coefficient (dimension s) (place_columns s p)) g named_holds i j w).lower

  -- no other ground would do
  pub named_only :
      (g : Ground) → judge_refusal s p ≡ 0 → Holds (dimension s) (place_columns s p) g → NamesFirst (dimension s) (place_columns s p) g
      → judged_by s p ≡ answered g
  unfolding judged_by
  named_only g z h w =
      unless_answered (ground (dimension s) (place_columns s p)) z ∙ ap answered (ground_only (dimension s) (place_columns s p) g h w)

  -- with D not 0 each vertex has a power to name
  pub each_has_a_power :
      determinant (dimension s) (place_columns s p) ≢ 0ℤ → (i : ℕ) → i < dimension s
      → Decides (dimension s) (coefficient (dimension s) (place_columns s p) i) (deciding_power (dimension s) (place_columns s p) i)
  each_has_a_power d i l = power_to_name (dimension s) (place_columns s p) i d l
