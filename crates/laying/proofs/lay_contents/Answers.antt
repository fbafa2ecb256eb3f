-- `laying::lay_contents` meets its contract: four bytes, then the entries.
use Rattle.std.proofs.Common.{refl, ◌∙◌, ◌-◌, ℕ, List, [], ◌∷◌, ◌+◌, ◌*◌, ◌≤◌, length, arith}
use borrow.Rule.Slice.PartMut.{put_mid}
use Rattle.paper.specs.Job.{contents_end}
use Rattle.assembly.specs.Assembled.{bodies_of, contents_of, job_from}
use Rattle.assembly.proofs.Lengths.{job_length}
use Rattle.laying.specs.Laid.{Laid}
use Rattle.laying.proofs.Behind.{laid_behind, laid_long, part_laid}
use Rattle.laying.proofs.lay_contents.Goals as goal
use Rattle.laying.proofs.lay_contents.Goals.{After-copy_from_slice}

-- there is room for the contents and the bodies
job_room : (n bias at : ℕ) (f : ℕ → List ℕ) (b : List ℕ) → at + length (job_from n bias f) ≤ length b
    → at + (4 * n + 8 + length (bodies_of f 0 (n + 1))) ≤ length b
unfolding contents_end
job_room n bias at f b l = omega (arith, job_length n bias f)

-- the first four bytes
head : (c : After-copy_from_slice)
    → Laid c.args.buffer.now c.args.at (1 ∷ c.args.n ∷ (c.args.n + 1) ∷ c.args.bias ∷ [])
    (put_mid c.args.at (c.args.at + 4 - c.args.at) c.args.buffer.now c.copy_from_slice.new.self) (c.args.at + 4)
head c = part_laid c.args.buffer.now c.args.at c.copy_from_slice.ensures.after (omega arith) refl (omega (arith, job_room _ _ _ _ _ c.requires.1))

pub slice_bounds-copy_from_slice-end : goal.slice_bounds-copy_from_slice-end
slice_bounds-copy_from_slice-end c = omega (arith, job_room _ _ _ _ _ c.requires.1)

pub lay_entries-requires : goal.lay_entries-requires
unfolding contents_end
lay_entries-requires c =
    let room = job_room _ _ _ _ _ c.requires.1 in
    let long = laid_long (head (goal.at.lay_entries-requires c).After-copy_from_slice) in
    (c.requires.0, omega (arith, room, long), omega (arith, room, long))

pub shape_of-buffer : goal.shape_of-buffer
shape_of-buffer c = laid_long c.lay_entries.ensures ∙ laid_long (head (goal.at.shape_of-buffer c).After-copy_from_slice)

pub returns : goal.returns
unfolding contents_of
returns c = laid_behind (head (goal.at.returns c).After-copy_from_slice) c.lay_entries.ensures
