-- `located::place_in` meets its contract: 13 at each of the two tests of the place's form, then what its facet's values say.
use Rattle.std.proofs.Common.{sym, ◌∙◌, lit≤}
use Rattle.paper.specs.Refusals.{refusal_number}
use Rattle.lattice.specs.Moves.{move_limit}
use Rattle.lattice.proofs.Moves.{vertex_wider}
use Rattle.located.proofs.PlaceForm.{wrong_length, wrong_form}
use Rattle.located.proofs.PlaceFound.{place_refused}
use Rattle.located.proofs.place_in.Goals as goal
use Rattle.located.proofs.place_in.Goals.{then-p-job-via-then-p-job, then-p-job-via-else-p-job+then-not-place_ok}

pub returns-then-p-job : goal.returns-then-p-job
unfolding refusal_number
returns-then-p-job c =
    record {
      within = c.requires;
      found =
          place_refused c.args.job.opened c.args.p.now
          (elim c.then-p-job.branch [
            | then-p-job-via-then-p-job w ↦ wrong_length _ _ w.if-p-job.true
            | then-p-job-via-else-p-job+then-not-place_ok w ↦ wrong_form _ _ w.if-p-job.false (sym w.place_ok.ensures ∙ w.if-not-place_ok.true)
          ]);
    }

pub facet_values-requires : goal.facet_values-requires
unfolding move_limit
facet_values-requires c = (vertex_wider c.read_place-place.ensures.size (lit≤ tt), c.requires)
