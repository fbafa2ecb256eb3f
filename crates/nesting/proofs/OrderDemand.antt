-- What every answer of the operation means.
use Prim.Native.Nat.{ℕ, ◌<◌}
use mathlib.Core.Path.{◌≡◌, refl, sym, ap, ◌∙◌}
use mathlib.Core.Bool.{Bool, true, false, not, ◌&&◌}
use mathlib.Core.List.{List}
use Rattle.curves.specs.Grid.{Vertex, Facet, facet_vertices}
use Rattle.curves.specs.Curve.{◌∈◌}
use Rattle.curves.specs.Joined.{Joined}
use Rattle.paper.specs.Job.{dimension}
use Rattle.paper.specs.Values.{field_of}
use Rattle.paper.specs.Operations.{answered}
use Rattle.paper.specs.Pen.{place_count}
use Rattle.nesting.specs.Inside.{inside}
use Rattle.nesting.specs.Standing.{Standing, stands}
use Rattle.nesting.specs.CutOrder.{loop_of, same_loop, row_end, loop_inside, listed_at, first_listed, ordered}
use Rattle.nesting.specs.OrderDemand.{LoopsListed, facet_at, OrderDemand}
use Rattle.nesting.proofs.JobLoops.{on_loop_closes, same_loop_joined}
use Rattle.nesting.proofs.JobInside.{job_inside_steady, job_not_mutual}
use Rattle.nesting.proofs.OrderLoops.{order_loops, order_standing, listed_apart}
use Rattle.nesting.proofs.JobOrder.{order_exists}
use Rattle.nesting.proofs.OrderAnswers.{order_stands, stands_order, order_broken}

module _ {s ps : List ℕ} (a : LoopsListed s ps) where
  -- a place on another loop: its loop is inside exactly if its lowest vertex is
  other_loop : (j k : ℕ) → j < place_count s ps → ¬ Joined (dimension s) (field_of s) (facet_at s ps j) (facet_at s ps k)
      → inside (row_end s) (loop_of s (listed_at s ps j)) (facet_at s ps k).low ≡ loop_inside s (listed_at s ps k) (listed_at s ps j)
  unfolding loop_inside
  other_loop j k h n = go (same_loop s (listed_at s ps k) (listed_at s ps j)) refl
    where
      within : Bool
      within = inside (row_end s) (loop_of s (listed_at s ps j)) (facet_at s ps k).low

      go : (b : Bool) → same_loop s (listed_at s ps k) (listed_at s ps j) ≡ b → within ≡ (not (same_loop s (listed_at s ps k) (listed_at s ps j)) && within)
      go false e = sym (ap (λ b. not b && within) e)
      go true e = absurd (n ((same_loop_joined a.opened (listed_at s ps j) (a.traceable j h) (a.looped j h) (listed_at s ps k)).0 e))

  whole : (j k : ℕ) → j < place_count s ps → k < place_count s ps → ¬ Joined (dimension s) (field_of s) (facet_at s ps j) (facet_at s ps k)
      → (g : Facet) → Joined (dimension s) (field_of s) (facet_at s ps k) g → (v : Vertex) → v ∈ facet_vertices g
      → inside (row_end s) (loop_of s (listed_at s ps j)) v ≡ loop_inside s (listed_at s ps k) (listed_at s ps j)
  whole j k h l n g c v i =
      job_inside_steady a.opened (listed_at s ps j) (a.traceable j h) (a.looped j h) a.two (listed_at s ps k) (a.traceable k l) n g c v i
      ∙ other_loop j k h n

pub ordered_demand : (s ps : List ℕ) (r : Standing) → ordered s ps ≡ answered r → OrderDemand s ps r
ordered_demand s ps r e =
    let a : LoopsListed s ps = order_loops s ps r e in
    let w = order_exists s ps r e in
    record {
      listed = a;
      closes = λ k h. (on_loop_closes a.opened (listed_at s ps k) (a.traceable k h)).0 (a.looped k h);
      different = listed_apart a;
      whole = whole a;
      one_way = λ j k h l.
          job_not_mutual a.opened a.two (listed_at s ps k) (a.traceable k l) (a.looped k l) (listed_at s ps j) (a.traceable j h) (a.looped j h);
      if_stands = λ q. order_stands s ps (e ∙ ap answered q);
      stands_if = λ h. sym (order_standing s ps r e) ∙ order_standing s ps stands (stands_order s ps a h);
      if_broken = λ k q. order_broken s ps k (e ∙ ap answered q);
      some_order = (w.0, w.2, w.3);
    }
