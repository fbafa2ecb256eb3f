-- `places::chain_ok` meets its contract: one mask more of those that are left.
use Rattle.std.proofs.Common.{◌<◌, ◌^◌, sym}
use Rattle.places.proofs.ChainSteps.{chain_next, chain_high, chain_not_held, chain_same, chain_ends, limit_is}
use Rattle.places.proofs.chain_ok.Goals as goal
use Rattle.places.proofs.chain_ok.Goals.{then-n-mask-via-then-n-mask, then-n-mask-via-else-n-mask+then-not-holds, then-n-mask-via-else-n-mask+else-not-holds+then-mask-before}

pub returns-then-n-mask : goal.returns-then-n-mask
returns-then-n-mask c =
    let inv = c.loop-byte.invariant in
    let limit = limit_is c.args.n c.requires in
    elim c.then-n-mask.branch [
      | then-n-mask-via-then-n-mask w ↦ chain_high _ _ _ _ inv.rest c.loop-byte-test.true c.from-mask.ensures (rw limit at w.if-n-mask.true)
      | then-n-mask-via-else-n-mask+then-not-holds w ↦
          chain_not_held _ _ _ _ inv.rest c.loop-byte-test.true c.from-mask.ensures (rw limit at w.if-n-mask.false) (sym (w.if-not-holds.ensures _ inv.low))
      | then-n-mask-via-else-n-mask+else-not-holds+then-mask-before w ↦
          chain_same _ _ _ _ inv.rest c.loop-byte-test.true c.from-mask.ensures (rw limit at w.if-n-mask.false) (sym (w.if-not-holds.ensures _ inv.low))
          w.if-mask-before.true
    ]

pub loop-byte-preserved : goal.loop-byte-preserved
loop-byte-preserved c =
    let inv = c.loop-byte.invariant in
    let low : c.from-mask.result < 2 ^ c.args.n = rw (limit_is c.args.n c.requires) at c.if-n-mask.false in
    record {
      low = low;
      rest = chain_next _ _ _ _ inv.rest c.loop-byte-test.true c.from-mask.ensures low (sym (c.if-not-holds.ensures _ inv.low)) c.if-mask-before.false;
    }

pub returns : goal.returns
returns c = chain_ends _ _ _ _ c.loop-byte.invariant.rest c.loop-byte-test.false
