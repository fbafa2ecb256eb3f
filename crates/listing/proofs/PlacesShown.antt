-- Places one after another as bytes: the first one's line and the lines of the rest; each place of a trace is shown.
use Prim.Native.Nat.{ℕ, suc, zero, ◌+◌, ◌*◌, ◌≤◌, ◌<◌}
use mathlib.Core.Path.{◌≡◌, refl, ap, subst, ◌∙◌}
use mathlib.Core.Bool.{Bool, not}
use mathlib.Core.List.Memᴰ
use mathlib.Core.List.{List, [], ◌++◌}
use native.Mathlib.Omega.{arith}
use native.Mathlib.Nat.{mul-suc, zero-mul}
use lib.ListN.{length, take, drop, length-drop}
use lib.Seq.{length-take-le, drop-drop}
use borrow.Author.Tests.{eq-eqb}
use Rattle.exact.proofs.AndTests.{and_left, and_right}
use Rattle.curves.specs.Grid.{Place, facet_vertices}
use Rattle.curves.specs.Curve.{◌∈◌}
use Rattle.curves.specs.Step.{every, readable_all}
use Rattle.curves.specs.Joined.{Traceable}
use Rattle.curves.proofs.GridStep.{accepted}
use Rattle.paper.specs.Job.{dimension, decode_place}
use Rattle.paper.specs.Values.{field_of}
use Rattle.paper.specs.Operations.{facet_of, place_bad, facet_refusal, crossed_in, judge_refusal, point_refusal}
use Rattle.paper.specs.Listing.{place_lines}
use Rattle.paper.specs.Demand3.{read_places}
use Rattle.paper.proofs.Refusals.{first_passes, refuse_later}
use Rattle.paper.proofs.Opens.{Opens, opens}
use Rattle.paper.proofs.WithStart.{opens_back}
use Rattle.bits.specs.Axes.{Axes}
use Rattle.bits.proofs.EachDimension.{dimension_axes}
use Rattle.listing.specs.Shown.{line_of, HasLine, HaveLines}

-- ---- place by place

pub facet_at_lem : (s p : List ℕ) {n : ℕ} → n ≡ dimension s → (decode_place n p).facet ≡ facet_of s p
unfolding facet_of
facet_at_lem s p e = ap (λ (m : ℕ). (decode_place m p).facet) e

pub line_axes : {n : ℕ} {s p : List ℕ} → HasLine n s p → Axes n
line_axes {n} {s} h = dimension_axes n (rw h.job.dimension (opens s h.job.opens).dimensions)

-- place i has a line, and it lies within the bytes
pub record LineAt (n : ℕ) (s b : List ℕ) (i : ℕ) : Type 0 where
  pub room : i * (3 * n) + 3 * n ≤ length b
  pub line : HasLine n s (take (3 * n) (drop (i * (3 * n)) b))

pub line_at : {n : ℕ} {s : List ℕ} (count : ℕ) {b : List ℕ} → HaveLines n s count b → (i : ℕ) → i < count → LineAt n s b i
unfolding HaveLines
line_at zero a i h = absurd (omega (arith, h))
line_at {n} {s} (suc k) {b} a zero h = record { room = omega (arith, a.0); line = rw (zero-mul (3 * n)) a.1.0 }
line_at {n} {s} (suc k) {b} a (suc i) h =
    let next = line_at k a.1.1 i (omega (arith, h)) in
    record {
      room = omega (arith, next.room, length-drop (3 * n) b, a.0);
      line =
          subst (λ d. HasLine n s (take (3 * n) d))
          (drop-drop (i * (3 * n)) (3 * n) b ∙ ap (λ m. drop m b) (omega arith)) next.line;
    }

-- the lines of places in bytes, with the first one's in front
pub place_line_by : {n : ℕ} (s : List ℕ) → n ≡ dimension s → (k : ℕ) (b : List ℕ)
    → place_lines s (read_places n (suc k) b) ≡ line_of s (take (3 * n) b) ++ place_lines s (read_places n k (drop (3 * n) b))
unfolding place_lines read_places
place_line_by {n} s e k b = rw (facet_at_lem s (take (3 * n) b) e) refl

pub no_line : (n : ℕ) (s b : List ℕ) → place_lines s (read_places n 0 b) ≡ []
unfolding place_lines read_places
no_line n s b = refl

-- ---- the places of a trace

pub read_places_length : (n k : ℕ) (b : List ℕ) → length (read_places n k b) ≡ k
unfolding read_places
read_places_length n zero b = refl
read_places_length n (suc k) b = ap suc (read_places_length n k (drop (3 * n) b))

-- the bytes of a traceable place are not refused
bytes_pass : {s : List ℕ} → Opens s → (b : List ℕ) → length b ≡ 3 * dimension s → Traceable (dimension s) (field_of s) (decode_place (dimension s) b)
    → point_refusal s b ≡ 0
unfolding point_refusal judge_refusal place_bad crossed_in facet_refusal facet_of readable_all
bytes_pass {s} o b l t =
    let parts = accepted (dimension s) (field_of s) (decode_place (dimension s) b) t in
    let vertices = facet_vertices (decode_place (dimension s) b).facet in
    let boxed : Bool = every (field_of s).in_box vertices in
    let read : Bool = every (field_of s).readable vertices in
    rw (eq-eqb _ _ l, parts.form)
    (first_passes _
    (first_passes _ (opens_back s o)
    ∙ (refuse_later 13 _ refl
    ∙ (refuse_later 9 _ (ap not (and_left boxed read parts.readable))
    ∙ refuse_later 10 0 (ap not (and_right boxed read parts.readable)))))
    ∙ refuse_later 11 0 (ap not parts.crosses))

pub have_lines : {s : List ℕ} → Opens s → (k : ℕ) (b : List ℕ) → 3 * dimension s * k ≤ length b
    → ((p : Place) → p ∈ read_places (dimension s) k b → Traceable (dimension s) (field_of s) p) → HaveLines (dimension s) s k b
unfolding HaveLines read_places
have_lines {s} o zero b l t = tt
have_lines {s} o (suc k) b l t =
    let n = dimension s in
    let more : 3 * n * suc k ≡ 3 * n * k + 3 * n = mul-suc (3 * n) k in
    let room : 3 * n ≤ length b = omega arith in
    let left : 3 * n * k ≤ length (drop (3 * n) b) = rw length-drop (omega arith) in
    let first : length (take (3 * n) b) ≡ 3 * n = length-take-le (3 * n) b room in (
      room,
      (
        record {
          job = record { opens = opens_back s o; dimension = refl };
          whole = first;
          passes = bytes_pass o (take (3 * n) b) first (t (decode_place n (take (3 * n) b)) (Memᴰ.head refl));
        },
        have_lines o k (drop (3 * n) b) left (λ p i. t p (Memᴰ.tail i)),
      ),
    )
