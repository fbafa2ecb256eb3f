-- `stored::put_vertex` meets its contract: one coordinate more at each turn, as far as they count.
use Rattle.std.proofs.Common.{◌∙◌, ◌+◌, ◌*◌, sym, ap, refl, arith, get_or, take, ℤ}
use Rattle.std.proofs.lemmas.List.{get_or-take, length-take-le, take_all}
use lib.Seq.{sets}
use Rattle.exact.specs.Int.{0ℤ}
use Rattle.paper.specs.Bytes.{word_bytes}
use Rattle.paper.specs.Job.{vertex_bytes}
use Rattle.places.specs.Held.{vertex_as}
use Rattle.places.proofs.WordBytes.{short_back, back_short}
use Rattle.places.proofs.PlaceStored.{coordinate_short, word_more}
use Rattle.stored.proofs.put_vertex.Goals as goal
use Rattle.stored.proofs.put_vertex.Goals.{then-a-n, else-a-n}

pub loop-a-init : goal.loop-a-init
unfolding vertex_bytes
loop-a-init c = refl

pub put_word-requires : goal.put_word-requires
put_word-requires c =
    let short = coordinate_short c.args.n c.args.v c.requires.1.0 c.loop-a.a c.if-a-n.true in
    (back_short (get_or c.args.v.coordinates c.loop-a.a 0ℤ) short, omega (arith, c.requires.1.1))

pub loop-a-preserved : goal.loop-a-preserved
unfolding vertex_as
loop-a-preserved c =
    let n = c.args.n in
    let a = c.loop-a.a in
    let v = c.args.v.coordinates in
    let count = length-take-le n v (omega (arith, c.requires.0.high)) in
    elim c.if-a-n.branch [
      | then-a-n w ↦
          let short = coordinate_short n c.args.v c.requires.1.0 a w.if-a-n.true in
          word_more c.args.buffer.now c.args.at (take n v) a (omega (arith, count, w.if-a-n.true)) c.loop-a.invariant
          (w.buffer-is ∙ w.put_word.ensures
          ∙ ap (λ (x : ℤ). sets c.loop-a.buffer (c.args.at + 2 * a) (word_bytes x))
          (short_back (get_or v a 0ℤ) short ∙ sym (get_or-take n v a 0ℤ w.if-a-n.true)))
      | else-a-n w ↦
          w.buffer-is ∙ c.loop-a.invariant
          ∙ ap (λ u. sets c.args.buffer.now c.args.at (vertex_bytes u))
          (take_all a (take n v) (omega (arith, count, w.if-a-n.false))
          ∙ sym (take_all (a + 1) (take n v) (omega (arith, count, w.if-a-n.false))))
    ]

pub returns : goal.returns
unfolding vertex_as
returns c =
    let v = take c.args.n c.args.v.coordinates in
    c.loop-a.invariant
    ∙ ap (λ u. sets c.args.buffer.now c.args.at (vertex_bytes u))
    (take_all c.loop-a.a v (omega (arith, length-take-le c.args.n c.args.v.coordinates (omega (arith, c.requires.0.high)), c.requires.0.high)))
