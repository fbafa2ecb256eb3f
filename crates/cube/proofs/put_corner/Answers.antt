-- `cube::put_corner` meets its contract: outside the box, not readable, or its values are copied.
use mathlib.Core.Path.{sym, ◌∙◌}
use Rattle.cube.proofs.Corners.{corner_outside, corner_unread, corner_put}
use Rattle.cube.proofs.put_corner.Goals as goal
use Rattle.cube.proofs.put_corner.Goals.{else-vertex_inside-via-then-vertex_inside+else-put_values_with, else-vertex_inside-via-else-vertex_inside}

pub returns-then-put_values_with : goal.returns-then-put_values_with
returns-then-put_values_with c =
    corner_put _ _ _ _ (c.shifted-u.ensures.is _) c.requires.m_bound.1.0 (sym c.vertex_inside.ensures ∙ c.if-vertex_inside.true)
    c.put_values_with.ensures c.if-put_values_with.true c.copy_values.ensures

pub returns-else-vertex_inside : goal.returns-else-vertex_inside
returns-else-vertex_inside c =
    elim c.else-vertex_inside.branch [
      | else-vertex_inside-via-then-vertex_inside+else-put_values_with w ↦
          rw w.one-is (
          corner_unread _ _ _ _ (c.shifted-u.ensures.is _) c.requires.m_bound.1.0 w.put_values_with.ensures w.if-put_values_with.false)
      | else-vertex_inside-via-else-vertex_inside w ↦
          rw w.one-is (
          corner_outside _ _ _ _ (c.shifted-u.ensures.is _) c.requires.m_bound.1.0 c.requires.sizes.1
          (sym c.vertex_inside.ensures ∙ w.if-vertex_inside.false))
    ]
