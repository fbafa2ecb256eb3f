-- Places one after another as bytes: the first one's line and the lines of the rest. The whole trace from a place is what its line shows.
use Prim.Native.Nat.{ℕ, suc, zero, ◌+◌, ◌*◌, ◌≤◌, ◌<◌}
use mathlib.Core.Path.{◌≡◌, refl, sym, ap, subst, ◌∙◌}
use mathlib.Core.Bool.{Bool, not}
use mathlib.Core.List.Memᴰ
use mathlib.Core.List.{List, [], ◌++◌}
use native.Mathlib.Omega.{arith}
use native.Mathlib.Nat.{mul-le-mul_left, zero-mul}
use lib.ListN.{length, take, drop, length-drop}
use lib.Seq.{length-take-le, drop-drop}
use borrow.Author.Tests.{eq-eqb}
use Rattle.exact.proofs.AndTests.{and_left, and_right}
use Rattle.curves.specs.Grid.{Place, facet_vertices}
use Rattle.curves.specs.Curve.{◌∈◌}
use Rattle.curves.specs.Walk.{Trace}
use Rattle.curves.specs.Walk as Walk
use Rattle.curves.specs.Step.{Stop, every, readable_all}
use Rattle.curves.specs.Joined.{Traceable}
use Rattle.curves.proofs.GridStep.{accepted}
use Rattle.paper.specs.Job.{dimension, decode_place}
use Rattle.paper.specs.Values.{field_of}
use Rattle.paper.specs.Operations.{Answer, answered, facet_of, place_bad, facet_refusal, crossed_in, judge_refusal, point_refusal, verdict_and_count}
use Rattle.paper.specs.Answers.{verdict_as, verdict_count, traced_as}
use Rattle.paper.specs.Demand3.{read_places}
use Rattle.paper.specs.Refusals.{answer_by}
use Rattle.paper.specs.declared.Refusal.{Refusal}
use Rattle.paper.specs.declared.Traced.{Traced}
use Rattle.std.proofs.Common.{Result, Ok, Err}
use Rattle.std.specs.Result.{IsOk}
use Rattle.paper.proofs.Refusals.{first_passes, refuse_later, unless_answered}
use Rattle.places.specs.Held.{place_as}
use Rattle.places.specs.PlaceBytes.{PlaceRead}
use Rattle.paper.specs.declared.HeldPlace.{HeldPlace}
use Rattle.job.specs.OpenJob.{JobOf}
use Rattle.seamlist.specs.WholeTrace.{whole_trace}
use Rattle.seamlist.specs.SeamText.{curve_line, seam_line, seam_lines}
use Rattle.lengths.specs.Length.{traced_from}
use Rattle.seams.specs.Shown.{HasLine, HaveLines}

-- ---- place by place

-- place i has a line, and it lies within the bytes
pub record LineAt (n : ℕ) (s b : List ℕ) (i : ℕ) : Type 0 where
  pub room : i * (3 * n) + 3 * n ≤ length b
  pub line : HasLine n s (take (3 * n) (drop (i * (3 * n)) b))

-- the place at each position is among those that are read
read_at : (n count i : ℕ) (b : List ℕ) → i < count → decode_place n (take (3 * n) (drop (i * (3 * n)) b)) ∈ read_places n count b
unfolding read_places
read_at n zero i b h = absurd (omega (arith, h))
read_at n (suc k) zero b h = Memᴰ.head (ap (λ d. decode_place n (take (3 * n) (drop d b))) (zero-mul (3 * n)))
read_at n (suc k) (suc i) b h =
    Memᴰ.tail
    (subst (λ d. decode_place n (take (3 * n) d) ∈ read_places n k (drop (3 * n) b))
    (drop-drop (i * (3 * n)) (3 * n) b ∙ ap (λ m. drop m b) (omega arith))
    (read_at n k i (drop (3 * n) b) (omega (arith, h))))

pub line_at : {n : ℕ} {s : List ℕ} (count : ℕ) {b : List ℕ} → HaveLines n s count b → (i : ℕ) → i < count → LineAt n s b i
line_at {n} {s} count {b} a i h =
    let w = 3 * n in
    let many : 3 * n * (i + 1) ≤ 3 * n * count = mul-le-mul_left (3 * n) (omega (arith, h)) in
    let next : 3 * n * (i + 1) ≡ i * (3 * n) + 3 * n = omega arith in
    let room : i * (3 * n) + 3 * n ≤ length b = omega (arith, many, next, a.room) in
    record {
      room = room;
      line = record {
        job = a.job;
        whole = length-take-le (3 * n) (drop (i * (3 * n)) b) (omega (arith, length-drop (i * (3 * n)) b, room));
        traceable = a.each _ (read_at n count i b h);
      };
    }

-- the lines of places in bytes, with the first one's in front
pub seam_line_by : (n : ℕ) (s : List ℕ) (k : ℕ) (b : List ℕ)
    → seam_lines s (read_places n (suc k) b) ≡ seam_line s (decode_place n (take (3 * n) b)) ++ seam_lines s (read_places n k (drop (3 * n) b))
unfolding seam_lines read_places
seam_line_by n s k b = refl

pub no_line : (n : ℕ) (s b : List ℕ) → seam_lines s (read_places n 0 b) ≡ []
unfolding seam_lines read_places
no_line n s b = refl

-- ---- one place

-- the bytes of a place that a trace can begin with are not refused
bytes_pass : {s : List ℕ} (b : List ℕ) → JobOf (dimension s) s → length b ≡ 3 * dimension s
    → Traceable (dimension s) (field_of s) (decode_place (dimension s) b) → point_refusal s b ≡ 0
unfolding point_refusal judge_refusal place_bad crossed_in facet_refusal facet_of readable_all
bytes_pass {s} b j l t =
    let parts = accepted (dimension s) (field_of s) (decode_place (dimension s) b) t in
    let vertices = facet_vertices (decode_place (dimension s) b).facet in
    let boxed : Bool = every (field_of s).in_box vertices in
    let read : Bool = every (field_of s).readable vertices in
    rw (eq-eqb _ _ l, parts.form)
    (first_passes _
    (first_passes _ j.opens
    ∙ (refuse_later 13 _ refl
    ∙ (refuse_later 9 _ (ap not (and_left boxed read parts.readable))
    ∙ refuse_later 10 0 (ap not (and_right boxed read parts.readable)))))
    ∙ refuse_later 11 0 (ap not parts.crosses))

-- the whole trace is answered
traced_whole : {n : ℕ} {s b : List ℕ} → HasLine n s b → traced_from s b ≡ answered (whole_trace s (decode_place n b))
unfolding traced_from
traced_whole {n} {s} {b} h =
    let e = h.job.dimension in
    let passes : point_refusal s b ≡ 0 =
    bytes_pass b (subst (λ m. JobOf m s) e h.job) (subst (λ m. length b ≡ 3 * m) e h.whole)
    (subst (λ m. Traceable m (field_of s) (decode_place m b)) e h.traceable) in
    unless_answered (whole_trace s (decode_place (dimension s) b)) passes ∙ ap (λ m. answered (whole_trace s (decode_place m b))) (sym e)

module _ {n : ℕ} {s b : List ℕ} (h : HasLine n s b) where
  abbrev whole : Trace Place Stop
  whole = whole_trace s (decode_place n b)

  module _ (found : Result Traced Refusal) (f : traced_as found ≡ verdict_and_count (traced_from s b)) where
    -- verdict and count are those of the whole trace
    whole_is : traced_as found ≡ verdict_and_count (answered whole)
    whole_is = f ∙ ap verdict_and_count (traced_whole h)

    pub trace_answered : IsOk found
    unfolding traced_as answer_by verdict_and_count
    trace_answered = go found whole_is
      where
        go : (r : Result Traced Refusal) → traced_as r ≡ verdict_and_count (answered whole) → IsOk r
        go (Ok t) e = refl
        go (Err k) e = cc

    -- the place read, and the trace's verdict and count, make the line
    pub line_shown : {r : HeldPlace} {t : Traced} → PlaceRead n b r → found ≡ Ok t
        → curve_line (place_as n r) (verdict_as t.verdict) t.count ≡ seam_line s (decode_place n b)
    unfolding traced_as answer_by verdict_count verdict_and_count seam_line
    line_shown {r} {t} at e =
        let same : ◌≡◌ {A = Answer (Walk.Verdict Stop × ℕ)} (answered (verdict_as t.verdict, t.count)) (answered (whole.verdict, length whole.places)) =
        sym (ap traced_as e) ∙ whole_is in
        let both : ◌≡◌ {A = Walk.Verdict Stop × ℕ} (verdict_as t.verdict, t.count) (whole.verdict, length whole.places) = cc in
        let verdict : verdict_as t.verdict ≡ whole.verdict = ap (λ (x : Walk.Verdict Stop × ℕ). x.0) both in
        let counted : t.count ≡ length whole.places = ap (λ (x : Walk.Verdict Stop × ℕ). x.1) both in
        λ i. curve_line (at.is i) (verdict i) (counted i)
