-- What Trace does not refuse is a start that is traceable; a traceable place is short, so it can be the start of the same job,
-- and Trace and Step then answer by the job's own step.
use Prim.Native.Nat.{ℕ, suc, ◌+◌, ◌≤◌}
use native.Mathlib.Omega.{arith}
use mathlib.Core.Path.{◌≡◌, refl, ap, ◌∙◌}
use mathlib.Core.Bool.{Bool, true, not, ◌&&◌}
use mathlib.Core.List.{List, [], ◌∷◌}
use lib.IntN.{ℤ, pos, negsuc, nat_abs}
use lib.ListN.{length}
use lib.Signed.{le_z}
use borrow.Author.Tests.{leb-true, le-leb, lt-ltb, eq-eqb, not-false}
use Rattle.exact.proofs.AndTests.{and_left, and_right, and-true}
use Rattle.curves.specs.Grid.{Vertex, Place, facet_vertices}
use Rattle.curves.specs.Walk.{trace}
use Rattle.curves.specs.Step.{every, readable_all, step}
use Rattle.curves.specs.Joined.{Traceable}
use Rattle.curves.proofs.IncidenceOf.{place_formed}
use Rattle.curves.proofs.GridStep.{Accepted, accepted, accepted_traceable}
use Rattle.curves.proofs.Demand.{traceable_low}
use Rattle.paper.specs.Limits.{coordinate_limit}
use Rattle.paper.specs.Job.{dimension, body, box_ok, low_end, high_end, decode_place, encode_place, with_start}
use Rattle.paper.specs.Values.{inside_from, field_from, field_of}
use Rattle.paper.specs.Operations.{answered, facet_refusal, crossed_in, place_bad, facet_of, judge_refusal, point_refusal, step_in, stepped, start_of, trace_refusal, on_same_facet, traced}
use Rattle.paper.proofs.ShortPlaces.{short, limited, short_place}
use Rattle.paper.proofs.Refusals.{not_refused, refuse_later, neither_refused, first_passes, unless_answered}
use Rattle.paper.proofs.Opens.{Opens, opens}
use Rattle.paper.proofs.Terms.{box_axis, between_size}
use Rattle.paper.proofs.Encode.{encode_length, decode_encode}
use Rattle.paper.proofs.WithStart.{opens_back, with_start_dimension, with_start_start, with_start_opens, with_start_field}

-- ---- the start of a job that Trace does not refuse

pub trace_opens : (s : List ℕ) → trace_refusal s ≡ 0 → Opens s
unfolding trace_refusal
trace_opens s h = opens s (neither_refused _ _ h).first

pub start_traceable : (s : List ℕ) → trace_refusal s ≡ 0 → Traceable (dimension s) (field_of s) (start_of s)
unfolding trace_refusal facet_refusal crossed_in start_of readable_all
start_traceable s h =
    let o = opens s (neither_refused _ _ h).first in
    let r = neither_refused _ _ (neither_refused _ _ h).next in
    let r9 = not_refused _ 9 _ (omega arith) r.first in
    let r10 = not_refused _ 10 _ (omega arith) r9.next in
    let r11 = not_refused _ 11 _ (omega arith) r.next in
    let boxed : every (field_of s).in_box (facet_vertices (start_of s).facet) ≡ true = not-false _ r9.test in
    let read : every (field_of s).readable (facet_vertices (start_of s).facet) ≡ true = not-false _ r10.test in
    accepted_traceable (dimension s) (field_of s) (start_of s)
    record {
      form = o.start;
      readable = and-true boxed read;
      crosses = not-false _ r11.test;
    }

-- ---- the coordinates of a traceable place

-- a vertex in the box has coordinates within the limit
inside_limited : (n : ℕ) (b : List ℕ) → box_ok n b ≡ true → (a : ℕ) (v : Vertex) → a + length v ≤ n → inside_from b a v ≡ true → every limited v ≡ true
unfolding inside_from every limited
inside_limited n b h a [] l e = refl
inside_limited n b h a (x ∷ v) l e =
    let rest : Bool = inside_from b (suc a) v in
    let r = box_axis n b a h (omega arith) in
    let e1 = and_left (le_z (low_end b a) x) (le_z x (high_end b a) && rest) e in
    let e2 = and_right (le_z (low_end b a) x) (le_z x (high_end b a) && rest) e in
    and-true
    (le-leb (nat_abs x) coordinate_limit
    (between_size coordinate_limit (low_end b a) (high_end b a) x r.low e1 (and_left (le_z x (high_end b a)) rest e2) r.high))
    (inside_limited n b h (suc a) v (omega arith) (and_right (le_z x (high_end b a)) rest e2))

limited_short : (x : ℤ) → limited x ≡ true → short x ≡ true
unfolding limited short coordinate_limit
limited_short (pos a) h = lt-ltb a 32768 (omega (arith, leb-true a 256 h))
limited_short (negsuc a) h = lt-ltb a 32768 (omega (arith, leb-true (suc a) 256 h))

every_short : (v : Vertex) → every limited v ≡ true → every short v ≡ true
unfolding every
every_short [] h = refl
every_short (x ∷ v) h =
    and-true (limited_short x (and_left (limited x) (every limited v) h)) (every_short v (and_right (limited x) (every limited v) h))

module _ {s : List ℕ} (o : Opens s) (p : Place) (t : Traceable (dimension s) (field_of s) p) where
  parts : Accepted (dimension s) (field_of s) p
  parts = accepted (dimension s) (field_of s) p t

  pub traceable_inside : inside_from (body s 0) 0 p.facet.low ≡ true
  unfolding field_from field_of
  traceable_inside = traceable_low (dimension s) (field_of s) p t

  pub traceable_limited : every limited p.facet.low ≡ true
  traceable_limited =
      inside_limited (dimension s) (body s 0) o.box 0 p.facet.low
      (omega (arith, (place_formed (dimension s) p parts.form).low_length)) traceable_inside

  pub traceable_short : short_place p ≡ true
  unfolding short_place
  traceable_short = every_short p.facet.low traceable_limited

  -- ---- the same job with the place as its start

  facet_passes : facet_refusal s p.facet ≡ 0
  unfolding facet_refusal readable_all
  facet_passes =
      let boxed : Bool = every (field_of s).in_box (facet_vertices p.facet) in
      let read : Bool = every (field_of s).readable (facet_vertices p.facet) in
      refuse_later 9 _ (ap not (and_left boxed read parts.readable))
      ∙ refuse_later 10 0 (ap not (and_right boxed read parts.readable))

  pub traceable_trace : trace_refusal (with_start s p) ≡ 0
  unfolding trace_refusal crossed_in facet_refusal
  traceable_trace =
      rw (with_start_start o p parts.form traceable_short, with_start_field o p, with_start_dimension o p)
      (first_passes _ (opens_back (with_start s p) (with_start_opens o p parts.form traceable_short))
      ∙ (first_passes _ facet_passes ∙ refuse_later 11 0 (ap not parts.crosses)))

  pub with_start_traced : (space : ℕ) → traced (with_start s p) space ≡ answered (trace (step_in s) on_same_facet p space)
  unfolding traced step_in
  with_start_traced space =
      let own-dimension = with_start_dimension o p in
      let own-field = with_start_field o p in
      let own-start = with_start_start o p parts.form traceable_short in
      unless_answered _ traceable_trace
      ∙ (λ i. answered (trace (λ x. step (own-dimension i) (own-field i) x) on_same_facet (own-start i) space))

  read_facet : facet_of s (encode_place p) ≡ p.facet
  unfolding facet_of
  read_facet = ap (λ q. q.facet) (decode_encode (dimension s) p parts.form traceable_short)

  -- Step, handed the place's bytes, answers by the job's step
  pub traceable_stepped : stepped s (encode_place p) ≡ answered (step_in s p)
  unfolding stepped point_refusal judge_refusal place_bad crossed_in
  traceable_stepped =
      let read : decode_place (dimension s) (encode_place p) ≡ p = decode_encode (dimension s) p parts.form traceable_short in
      rw (read_facet, read, eq-eqb _ _ (encode_length (dimension s) p parts.form), parts.form)
      (unless_answered (step_in s p)
      (first_passes _ (first_passes _ (opens_back s o) ∙ (refuse_later 13 _ refl ∙ facet_passes))
      ∙ refuse_later 11 0 (ap not parts.crosses)))

-- the job's own trace
pub start_traced : (s : List ℕ) → trace_refusal s ≡ 0 → (space : ℕ) → traced s space ≡ answered (trace (step_in s) on_same_facet (start_of s) space)
unfolding traced
start_traced s h space = unless_answered _ h
