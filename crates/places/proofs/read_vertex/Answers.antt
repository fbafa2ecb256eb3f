-- `places::read_vertex` meets its contract.
use Rattle.std.proofs.Common.{ℕ, ◌*◌, ◌≡◌, map, take, length-set, refl, sym, ap, ◌∙◌, arith}
use lib.Dec.{lit≤}
use Rattle.std.proofs.lemmas.List.{get_or-set_other}
use Rattle.exact.specs.Int.{0ℤ}
use Rattle.exact.specs.Size.{Size}
use Rattle.exact.specs.Crossed.{count_from}
use Rattle.exact.proofs.Bits.{holds_call, is_size}
use Rattle.paper.specs.Bytes.{signed_word}
use Rattle.paper.specs.Job.{decode_place}
use Rattle.places.specs.Held.{vertex_as}
use Rattle.places.proofs.Reading.{reads_on, each_set, each_none}
use Rattle.places.proofs.read_vertex.Goals as goal

pub loop-a-init : goal.loop-a-init
unfolding count_from
loop-a-init c = record { read = refl; size = each_none (Size 32768) 4 0ℤ (record { size = omega arith }); count = refl; rest = λ a l. each_none (λ z. z ≡ 0ℤ) 4 0ℤ refl a }

pub loop-a-preserved : goal.loop-a-preserved
loop-a-preserved c =
    let read = holds_call c.signed_word.ensures (lit≤ tt) in
    record {
      read =
          reads_on (λ (a : ℕ). signed_word c.args.p.now (2 * a)) _ 0 _ _ (omega (arith, c.requires.0.high)) (read.is ∙ ap (λ (a : ℕ). signed_word c.args.p.now (2 * a)) (omega arith))
          c.loop-a.invariant.read;
      size = each_set (Size 32768) _ _ _ 0ℤ c.loop-a.invariant.size (is_size read);
      count = simp length-set c.loop-a.invariant.count;
      rest = λ a l. get_or-set_other _ _ a _ 0ℤ (λ e. omega arith) ∙ c.loop-a.invariant.rest a (omega arith);
    }

pub returns : goal.returns
unfolding decode_place vertex_as
returns c =
    let all : c.loop-a.a ≡ c.args.n = omega arith in
    record {
      is =
          ap (λ a. take a c.loop-a.coordinates) (sym all)
          ∙ c.loop-a.invariant.read
          ∙ ap (λ a. map (λ (a : ℕ). signed_word c.args.p.now (2 * a)) (count_from 0 a)) all;
      size = record { count = c.loop-a.invariant.count; each = c.loop-a.invariant.size };
      rest = λ a l. c.loop-a.invariant.rest a (omega arith);
    }
