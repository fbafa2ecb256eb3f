-- `places::read_masks` meets its contract.
use Rattle.std.proofs.Common.{ℕ, ◌<◌, ◌*◌, ◌-◌, ◌≡◌, refl, sym, ap, ◌∙◌, arith, map, take, length-set}
use Rattle.std.proofs.lemmas.List.{get_or-set_other}
use Rattle.exact.specs.Crossed.{count_from}
use Rattle.paper.specs.Bytes.{byte}
use Rattle.paper.specs.Job.{decode_place}
use Rattle.places.proofs.Reading.{reads_on, each_set, each_none}
use Rattle.places.proofs.read_masks.Goals as goal

pub loop-k-init : goal.loop-k-init
unfolding count_from
loop-k-init c = record { read = refl; small = each_none (λ (m : ℕ). m < 256) 3 0 (omega arith); count = refl; rest = λ k l. each_none (λ m. m ≡ 0) 3 0 refl k }

pub loop-k-preserved : goal.loop-k-preserved
loop-k-preserved c = record {
  read = reads_on (byte c.args.p.now) _ (2 * c.args.n) _ _ (omega (arith, c.requires.0.high)) c.byte.ensures.is c.loop-k.invariant.read;
  small = each_set (λ (m : ℕ). m < 256) _ _ _ 0 c.loop-k.invariant.small c.byte.ensures.small;
  count = simp length-set c.loop-k.invariant.count;
  rest = λ k l. get_or-set_other _ _ k _ 0 (λ e. omega arith) ∙ c.loop-k.invariant.rest k (omega arith);
}

pub returns : goal.returns
unfolding decode_place
returns c =
    let all : c.loop-k.k ≡ c.args.n - 1 = omega arith in
    record {
      is = ap (λ k. take k c.loop-k.masks) (sym all) ∙ c.loop-k.invariant.read ∙ ap (λ k. map (byte c.args.p.now) (count_from (2 * c.args.n) k)) all;
      count = c.loop-k.invariant.count;
      each = c.loop-k.invariant.small;
      rest = λ k l. c.loop-k.invariant.rest k (omega arith);
    }
