-- `entries::entries_ok` meets its contract. The invariant: the test of all entries is the test of those that are left, begun at `at`.
use Rattle.std.proofs.Common.{sym, ap, ◌∙◌, ℕ, ◌+◌, ◌*◌, arith}
use Rattle.paper.specs.Job.{entries_ok, contents_end}
use Rattle.entries.proofs.EntrySteps.{entries_next, entries_misplaced, entries_wrong_length, entries_end}
use Rattle.entries.proofs.entries_ok.Goals as goal
use Rattle.entries.proofs.entries_ok.Goals.{then-offset-at-via-then-offset-at, then-offset-at-via-else-offset-at+then-not-length_ok}

pub loop-k-init : goal.loop-k-init
unfolding contents_end
loop-k-init c = (
  omega arith,
  ap (λ (m : ℕ). entries_ok c.args.n c.args.s.now m 0 (4 * c.args.n + 8)) (omega arith),
)

pub entry-offset-requires : goal.entry-offset-requires
unfolding contents_end
entry-offset-requires c = omega arith

pub returns-then-offset-at : goal.returns-then-offset-at
returns-then-offset-at c =
    elim c.then-offset-at.branch [
      | then-offset-at-via-then-offset-at w ↦
          entries_misplaced _ _ _ _ _ c.loop-k.invariant.1 c.loop-k-test.true (λ h. w.if-offset-at.true (c.entry-offset.ensures.offset.is ∙ h))
      | then-offset-at-via-else-offset-at+then-not-length_ok w ↦
          entries_wrong_length _ _ _ _ _ c.loop-k.invariant.1 c.loop-k-test.true (sym c.entry-offset.ensures.offset.is ∙ w.if-offset-at.false)
          c.entry-offset.ensures.length.is (sym w.length_ok.ensures ∙ w.if-not-length_ok.true)
    ]

pub loop-k-preserved : goal.loop-k-preserved
loop-k-preserved c = (
  omega arith,
  entries_next _ _ _ _ _ c.loop-k.invariant.1 c.loop-k-test.true (sym c.entry-offset.ensures.offset.is ∙ c.if-offset-at.false)
      c.entry-offset.ensures.length.is (sym c.length_ok.ensures ∙ c.if-not-length_ok.false),
)

pub returns : goal.returns
returns c = entries_end _ _ _ _ _ c.loop-k.invariant.1 c.loop-k-test.false
