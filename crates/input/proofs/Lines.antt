-- A line for each of the first `count` parts of w bytes, one behind another: what a loop over the parts has still to write.
use Rattle.std.proofs.Common.{◌≡◌, ℕ, suc, ◌+◌, ◌-◌, ◌*◌, ◌≤◌, ◌<◌, List, [], ◌++◌, length, take, drop, sym, ap, ◌∙◌, arith}
use Rattle.std.proofs.Math.Nat.{mul-suc, mul-zero, zero-mul}
use lib.Seq.{drop-drop}
use Rattle.decimals.specs.Written.{Writes}
use Rattle.decimals.proofs.WrittenParts.{writes_nothing, writes_then, writes_as}

module _ (w limit : ℕ) (line : List ℕ → List ℕ) (lines : ℕ → List ℕ → List ℕ) (none : (b : List ℕ) → lines 0 b ≡ [])
    (more : (k : ℕ) (b : List ℕ) → lines (suc k) b ≡ line (take w b) ++ lines k (drop w b)) (count : ℕ) (b : List ℕ) (at : ℕ) (before : List ℕ) where
  -- part i
  abbrev pub part : ℕ → List ℕ
  part i = take w (drop (i * w) b)

  -- the lines of the first i parts stand in `out` up to `end`: with the other lines behind them all are written
  pub record Going (i : ℕ) (out : List ℕ) (end : ℕ) : Type 0 where
    pub room : end + limit * (count - i) ≤ length out
    pub rest : (after : List ℕ) (r : ℕ) → Writes (limit * (count - i)) (lines (count - i) (drop (i * w) b)) end out after r
        → Writes (limit * count) (lines count b) at before after r

  pub going_begins : at + limit * count ≤ length before → Going 0 before at
  going_begins h =
      let start : 0 * w ≡ 0 = zero-mul w in
      let all : count - 0 ≡ count = omega arith in
      record { room = rw (all) h; rest = λ after r p. rw (all, start) at p }

  module _ {i : ℕ} {out : List ℕ} {end : ℕ} (g : Going i out end) where
    module _ (l : i < count) where
      one_less : count - i ≡ suc (count - (i + 1))
      one_less = omega arith

      one_line : limit * (count - i) ≡ limit * (count - (i + 1)) + limit
      one_line = ap (λ k. limit * k) one_less ∙ mul-suc limit (count - (i + 1))

      pub line_fits : end + limit ≤ length out
      line_fits = omega (arith, g.room, one_line)

      further : drop w (drop (i * w) b) ≡ drop ((i + 1) * w) b
      further = drop-drop w (i * w) b ∙ ap (λ m. drop m b) (omega arith)

      text : line (part i) ++ lines (count - (i + 1)) (drop ((i + 1) * w) b) ≡ lines (count - i) (drop (i * w) b)
      text = sym (ap (λ k. lines k (drop (i * w) b)) one_less ∙ more _ _ ∙ ap (λ d. line (part i) ++ lines (count - (i + 1)) d) further)

      pub going_on : {next : List ℕ} {behind : ℕ} → Writes limit (line (part i)) end out next behind → length next ≡ length out → Going (i + 1) next behind
      going_on p same = record {
        room = omega (arith, g.room, one_line, p.end, p.short, same);
        rest = λ after r q. g.rest after r (writes_as text (omega (arith, one_line)) (writes_then (omega (arith, g.room)) p (λ _. q)));
      }

    pub going_ends : count ≤ i → Writes (limit * count) (lines count b) at before out end
    going_ends l =
        let done : count - i ≡ 0 = omega arith in
        g.rest out end (rw (done, mul-zero, none) (writes_nothing out end))
