-- `places::same_facet` meets its contract: the coordinates that count, axis 1 first, and then the masks.
use Rattle.std.proofs.Common.{◌∙◌, sym, ap}
use borrow.Author.Tests.{eqb-true}
use mir.Syntax.{w64}
use mir.Val.{of_z}
use Rattle.places.specs.Held.{vertex_as, masks_as}
use Rattle.places.proofs.SameNumbers.{first_differs, vertices_differ, masks_decide}
use Rattle.places.proofs.same_facet.Goals as goal
use Rattle.places.proofs.same_facet.Goals.{then-p-q, else-p-q}

pub returns-then-eq : goal.returns-then-eq
unfolding vertex_as masks_as
returns-then-eq c =
    elim c.if-p-q.branch [
      | then-p-q w ↦ c.eq-then-eq.ensures ∙ masks_decide c.args.n c.args.p c.args.q (sym w.eq.ensures ∙ sym w.value-is ∙ c.if-eq.true)
      | else-p-q w ↦ absurd (w.if-p-q.false (eqb-true _ _ (sym w.value-is ∙ c.if-eq.true)))
    ]

pub returns-else-eq : goal.returns-else-eq
unfolding vertex_as masks_as
returns-else-eq c =
    elim c.if-p-q.branch [
      | then-p-q w ↦ c.if-eq.false ∙ vertices_differ c.args.n c.args.p c.args.q (sym w.eq.ensures ∙ sym w.value-is ∙ c.if-eq.false)
      | else-p-q w ↦ c.if-eq.false
          ∙ vertices_differ c.args.n c.args.p c.args.q
          (first_differs c.args.n c.args.p c.args.q c.requires (λ e. w.if-p-q.false (ap (of_z w64) e)))
    ]
