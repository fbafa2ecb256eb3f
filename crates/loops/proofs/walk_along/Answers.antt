-- `loops::walk_along` meets its contract: both places are read, and the walk begins at the outer one.
use Rattle.std.proofs.Common.{◌*◌, sym, ap, subst, ◌∙◌}
use Rattle.paper.proofs.PointTakes.{point_length}
use Rattle.places.specs.Held.{place_as}
use Rattle.job.specs.OpenJob.{JobOf}
use Rattle.job.proofs.Opened.{job_axes, job_dimension}
use Rattle.columns.proofs.FacetColumns.{zero_cells}
use Rattle.step.proofs.HeldPlaces.{held_form}
use Rattle.step.proofs.CrossingHeld.{found_place, found_held}
use Rattle.lengths.proofs.LengthAnswers.{place_carries}
use Rattle.loops.proofs.GivenPlaces.{not_refused, plane_found, plane_cells, told_of_given}
use Rattle.loops.proofs.walk_along.Goals as goal

pub crossing_in-requires : goal.crossing_in-requires
crossing_in-requires c = zero_cells (job_axes c.args.job.opened)

pub unwrap-here-requires : goal.unwrap-here-requires
unwrap-here-requires c = not_refused _ _ c.crossing_in.ensures.found c.requires.outer_value.0

pub read_place-past-requires : goal.read_place-past-requires
read_place-past-requires c =
    let job = subst (λ n. JobOf n c.args.job.bytes.now) c.requires.dimension c.args.job.opened in
    (job_axes job, point_length _ _ c.requires.outer_value.1 ∙ ap (λ d. 3 * d) (sym job.dimension))

pub enter-start-requires : goal.enter-start-requires
enter-start-requires c =
    let job = subst (λ n. JobOf n c.args.job.bytes.now) c.requires.dimension c.args.job.opened in
    let k = c.crossing_in.ensures in
    let f = plane_found c.requires.dimension k c.unwrap-here.ensures in
    record {
      n_value = (job_dimension job, held_form (found_held job f.0 c.requires.outer_value.0));
      cells = (plane_cells c.requires.dimension k, f.1);
    }

pub walk_past-requires-clause-carries : goal.walk_past-requires-clause-carries
walk_past-requires-clause-carries c =
    let job = subst (λ n. JobOf n c.args.job.bytes.now) c.requires.dimension c.args.job.opened in
    let f = plane_found c.requires.dimension c.crossing_in.ensures c.unwrap-here.ensures in
    place_carries job c.requires.outer_value.0 f.0 c.enter-start.ensures

pub returns : goal.returns
returns c =
    let job = subst (λ n. JobOf n c.args.job.bytes.now) c.requires.dimension c.args.job.opened in
    let f = plane_found c.requires.dimension c.crossing_in.ensures c.unwrap-here.ensures in
    told_of_given _ _ job c.read_place-past.ensures.is (ap (place_as 2) c.enter-start.ensures.place ∙ found_place job f.0) c.walk_past.ensures
