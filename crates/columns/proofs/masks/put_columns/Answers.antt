-- `columns::masks::put_columns` meets its contract.
use native.Mathlib.Omega.{arith}
use mathlib.Core.Path.{ap, ◌∙◌}
use Rattle.paper.specs.Values.{field_of}
use Rattle.columns.proofs.PutColumns.{vertices_are, vertices_count, filling_next, filling_fails, filling_all, put_vertex, each_vertex}
use Rattle.columns.proofs.masks.put_columns.Goals as goal

pub put_values-requires-clause-inside : goal.put_values-requires-clause-inside
put_values-requires-clause-inside c =
    ap (field_of c.args.job.bytes.now).in_box (c.shifted.ensures.is _)
    ∙ each_vertex (field_of c.args.job.bytes.now).in_box _ _ _ c.requires.in_box.1 _ c.loop-k-test.true

pub returns-then-not-put_values : goal.returns-then-not-put_values
returns-then-not-put_values c =
    filling_fails _ _ c.loop-k.invariant _ (vertices_are _ _ _) (omega (arith, vertices_count c.args.job.n c.args.base c.args.masks.now))
    (put_vertex (c.shifted.ensures.is _) c.put_values.ensures)
    c.if-not-put_values.true

pub loop-k-preserved : goal.loop-k-preserved
loop-k-preserved c =
    filling_next _ _ c.loop-k.invariant (put_vertex (c.shifted.ensures.is _) c.put_values.ensures) c.if-not-put_values.false

pub returns : goal.returns
returns c = filling_all _ _ c.loop-k.invariant _ (vertices_are _ _ _) (omega (arith, vertices_count c.args.job.n c.args.base c.args.masks.now))
