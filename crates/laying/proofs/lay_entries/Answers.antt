-- `laying::lay_entries` meets its contract: after k turns the first k entries are laid, and the offset is where body k begins.
use Prim.Native.Nat.{ℕ, ◌+◌, ◌*◌, ◌≤◌, ◌<◌}
use native.Mathlib.Omega.{arith}
use mathlib.Core.Path.{◌≡◌, ap}
use mathlib.Core.List.{List}
use lib.IntN.{pos}
use lib.ListN.{length}
use Rattle.paper.specs.Bytes.{word_bytes}
use Rattle.paper.specs.Job.{contents_end}
use Rattle.assembly.specs.Assembled.{bodies_of, entries_of}
use Rattle.assembly.proofs.Lengths.{entries_length}
use Rattle.laying.specs.Laid.{body_at, Laid}
use Rattle.laying.proofs.Behind.{laid_none, laid_as, laid_long, entry_more, offset_more, body_room}
use Rattle.laying.proofs.BodyRead.{body_read}
use Rattle.laying.proofs.lay_entries.Invariants.{EntriesLaid}
use Rattle.laying.proofs.lay_entries.Goals as goal

entry-room : {b c : List ℕ} {at n next offset k : ℕ} {f : ℕ → List ℕ} → EntriesLaid b at n f c next offset k → k < n + 1 → at + (4 * n + 4) ≤ length b
    → next + 4 ≤ length c
entry-room {b} {c} {at} {n} {next} {offset} {k} {f} p l room =
    omega (arith, p.laid.position, entries_length f 0 k (contents_end n), laid_long p.laid)

entries-more : {b c d e : List ℕ} {at n next o r offset k l : ℕ} {f : ℕ → List ℕ} → EntriesLaid b at n f c next offset k → l ≡ length (f k)
    → Laid c next (word_bytes (pos offset)) d o → Laid d o (word_bytes (pos l)) e r → k + 1 ≤ n + 1 → EntriesLaid b at n f e r (offset + l) (k + 1)
entries-more {offset = offset} {k = k} {f = f} p g q t w = record {
  within = w;
  begins = offset_more f k _ offset p.begins g;
  laid = entry_more f k _ offset p.begins g p.laid q t;
}

pub loop-k-init : goal.loop-k-init
unfolding contents_end bodies_of entries_of
loop-k-init c = record { within = omega arith; begins = omega arith; laid = laid_none _ _ }

pub lay_word-middle-requires : goal.lay_word-middle-requires
lay_word-middle-requires c =
    let room = entry-room c.loop-k.invariant c.loop-k-test.true c.requires.1 in
    omega (arith, room)

pub lay_word-next-requires : goal.lay_word-next-requires
unfolding word_bytes
lay_word-next-requires c =
    let room = entry-room c.loop-k.invariant c.loop-k-test.true c.requires.1 in
    let word = c.lay_word-middle.ensures in
    omega (arith, room, word.position, laid_long word)

pub overflow_add-offset-in-loop-k : goal.overflow_add-offset-in-loop-k
overflow_add-offset-in-loop-k c =
    let bodies = c.args.bodies in
    let k = c.loop-k.k in
    let inv = c.loop-k.invariant in
    let room = body_room (body_at bodies) k (c.args.n + 1) c.loop-k-test.true in
    record { fits = omega (arith, room, inv.begins, ap length (body_read bodies k), c.requires.2, c.well_formed.0.0) }

pub loop-k-preserved : goal.loop-k-preserved
loop-k-preserved c =
    let bodies = c.args.bodies in
    let k = c.loop-k.k in
    entries-more c.loop-k.invariant (ap length (body_read bodies k)) c.lay_word-middle.ensures c.lay_word-next.ensures
    (omega (arith, c.loop-k-test.true))

pub shape_of-buffer : goal.shape_of-buffer
shape_of-buffer c = laid_long c.loop-k.invariant.laid

pub returns : goal.returns
returns c =
    let n = c.args.n in
    let all : c.loop-k.k ≡ n + 1 = omega (arith, c.loop-k.invariant.within, c.loop-k-test.false) in
    laid_as (ap (λ x. entries_of (body_at c.args.bodies) 0 x (contents_end n)) all) c.loop-k.invariant.laid
