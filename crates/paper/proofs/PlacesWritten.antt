-- The places that Trace lists, as bytes in the buffer: 3n bytes each, each of them a byte, and read back they are the places.
-- The buffer keeps its length, and what stands behind the last place written keeps its values.
use Prim.Native.Nat.{ℕ, suc, ◌+◌, ◌*◌, ◌/◌, ◌^◌, ◌≤◌}
use native.Mathlib.Omega.{arith}
use native.Mathlib.Nat.{pow-le-pow_right, mul-zero, mul-suc, mul-le-mul_left, mul-div-le, le_trans}
use mathlib.Core.Path.{◌≡◌, refl, sym, ap, subst}
use mathlib.Core.Bool.{true}
use mathlib.Core.Logic.{⊎_elim}
use mathlib.Core.List.Memᴰ
use mathlib.Core.List.{List, [], ◌∷◌, ◌++◌, append_assoc}
use lib.ListN.{length, drop, length-append, length-drop}
use lib.Seq.{take_at, drop_at}
use Rattle.curves.specs.Grid.{Place, place_ok, under}
use Rattle.curves.specs.Curve.{◌∈◌}
use Rattle.curves.specs.Walk.{Trace, trace}
use Rattle.curves.specs.Step.{Stop, every}
use Rattle.curves.specs.Joined.{Traceable}
use Rattle.curves.specs.GridDemand.{WalksOn}
use Rattle.curves.proofs.WalkRun.{run_ok}
use Rattle.curves.proofs.WalkTrace.{trace_length}
use Rattle.curves.proofs.WalkJoined.{nothing_or_traced}
use Rattle.curves.proofs.GridStep.{accepted}
use Rattle.curves.proofs.GridWalk.{grid_walk}
use Rattle.paper.specs.Job.{dimension, decode_place, encode_place}
use Rattle.paper.specs.Values.{field_of}
use Rattle.paper.specs.Operations.{Answer, refused, answered, step_in, start_of, trace_refusal, on_same_facet, traced, space_of, encode_places, places_over, buffer_after}
use Rattle.paper.proofs.ShortPlaces.{limited}
use Rattle.paper.specs.Demand3.{read_places}
use Rattle.paper.proofs.Opens.{Opens, opens_range}
use Rattle.paper.proofs.Encode.{encode_length, encode_bytes, decode_encode}
use Rattle.paper.proofs.StartTraceable.{traceable_limited, traceable_short, trace_opens, start_traceable}
use Rattle.paper.proofs.Refusals.{answered_inv, unless_refused}

-- what a place that Trace writes is as bytes
pub record Writable (n : ℕ) (p : Place) : Type 0 where
  pub form : place_ok n p ≡ true
  pub coordinates : every limited p.facet.low ≡ true
  pub count : length (encode_place p) ≡ 3 * n
  pub bytes : under 256 (encode_place p) ≡ true
  pub read : decode_place n (encode_place p) ≡ p

pub traceable_writable : {s : List ℕ} → Opens s → (p : Place) → Traceable (dimension s) (field_of s) p → Writable (dimension s) p
traceable_writable {s} o p t =
    let n : ℕ = dimension s in
    let form : place_ok n p ≡ true = (accepted n (field_of s) p t).form in
    let small : 2 ^ n ≤ 2 ^ 8 = pow-le-pow_right (omega arith) {i = n} {j = 8} (omega (arith, (opens_range o).high)) in
    record {
      form = form;
      coordinates = traceable_limited o p t;
      count = encode_length n p form;
      bytes = encode_bytes n p small form;
      read = decode_encode n p form (traceable_short o p t);
    }

module _ (n : ℕ) where
  pub encode_places_length : (ps : List Place) → ((p : Place) → p ∈ ps → Writable n p) → length (encode_places ps) ≡ 3 * n * length ps
  unfolding encode_places
  encode_places_length [] w = sym (mul-zero (3 * n))
  encode_places_length (p ∷ ps) w =
      let later : length (encode_places ps) ≡ 3 * n * length ps = encode_places_length ps (λ q i. w q (Memᴰ.tail i)) in
      let here : length (encode_place p) ≡ 3 * n = (w p (Memᴰ.head refl)).count in
      let more : 3 * n * suc (length ps) ≡ 3 * n * length ps + 3 * n = mul-suc (3 * n) (length ps) in
      omega (arith, length-append (encode_place p) (encode_places ps))

  -- the places are read back, whatever stands behind them
  pub places_read : (ps : List Place) (rest : List ℕ) → ((p : Place) → p ∈ ps → Writable n p) → read_places n (length ps) (encode_places ps ++ rest) ≡ ps
  unfolding encode_places read_places
  places_read [] rest w = refl
  places_read (p ∷ ps) rest w =
      let here = w p (Memᴰ.head refl) in
      rw (
        append_assoc (encode_place p) (encode_places ps) rest,
        take_at (encode_place p) (encode_places ps ++ rest) (3 * n) here.count,
        drop_at (encode_place p) (encode_places ps ++ rest) (3 * n) here.count,
        here.read,
        places_read ps rest (λ q i. w q (Memᴰ.tail i)),
      )

-- ---- the places of a trace

module _ {s : List ℕ} (o : Opens s) (p : Place) (t : Traceable (dimension s) (field_of s) p) (space : ℕ) where
  -- the walks over the job's grid
  pub job_walk : WalksOn (dimension s) (field_of s)
  job_walk = grid_walk (dimension s) (field_of s) (omega (arith, (opens_range o).low))

  -- each place listed is traceable
  pub listed_traceable : (q : Place) → q ∈ (trace (step_in s) on_same_facet p space).places → Traceable (dimension s) (field_of s) q
  unfolding step_in on_same_facet
  listed_traceable q i =
      ⊎_elim
      (λ e. absurd (Memᴰ.not-nil (subst (λ l. q ∈ l) e i)))
      (λ m. run_ok job_walk t m.run i)
      (nothing_or_traced job_walk t space)

  pub listed_writable : (q : Place) → q ∈ (trace (step_in s) on_same_facet p space).places → Writable (dimension s) q
  listed_writable q i = traceable_writable o q (listed_traceable q i)

  -- read from the buffer at exit they are the places listed
  pub listed_read : (buffer : List ℕ) → read_places (dimension s) (length (trace (step_in s) on_same_facet p space).places) (buffer_after (answered (trace (step_in s) on_same_facet p space)) buffer)
      ≡ (trace (step_in s) on_same_facet p space).places
  unfolding buffer_after places_over
  listed_read buffer = places_read (dimension s) (trace (step_in s) on_same_facet p space).places _ listed_writable

-- ---- the buffer

-- each place that Trace answers is as bytes what the code writes
pub traced_writable : (s : List ℕ) (space : ℕ) (t : Trace Place Stop) → traced s space ≡ answered t → (q : Place) → q ∈ t.places → Writable (dimension s) q
unfolding traced
traced_writable s space t e q i =
    let u = answered_inv (trace_refusal s) (trace (step_in s) on_same_facet (start_of s) space) t e in
    listed_writable (trace_opens s u.none) (start_of s) (start_traceable s u.none) space q (subst (λ r. q ∈ r.places) (sym u.is) i)

-- and their bytes fit the buffer that the space was counted from
pub traced_fits : (s buffer : List ℕ) (t : Trace Place Stop) → traced s (space_of s buffer) ≡ answered t → length (encode_places t.places) ≤ length buffer
unfolding traced space_of
traced_fits s buffer t e =
    let space : ℕ = length buffer / (3 * dimension s) in
    let u = answered_inv (trace_refusal s) (trace (step_in s) on_same_facet (start_of s) space) t e in
    let few : length t.places ≤ space = subst (λ r. length r.places ≤ space) u.is (trace_length (step_in s) on_same_facet (start_of s) space) in
    let size : length (encode_places t.places) ≡ 3 * dimension s * length t.places =
    encode_places_length (dimension s) t.places (traced_writable s space t e) in
    subst (λ k. k ≤ length buffer) (sym size) (le_trans (mul-le-mul_left (3 * dimension s) few) (mul-div-le (length buffer) (3 * dimension s)))

-- Trace leaves the buffer's length
pub buffer_length : (s buffer : List ℕ) → length (buffer_after (traced s (space_of s buffer)) buffer) ≡ length buffer
unfolding buffer_after places_over
buffer_length s buffer = go (traced s (space_of s buffer)) refl
  where
    go : (r : Answer (Trace Place Stop)) → traced s (space_of s buffer) ≡ r → length (buffer_after r buffer) ≡ length buffer
    go (refused k) e = refl
    go (answered t) e =
        let fits : length (encode_places t.places) ≤ length buffer = traced_fits s buffer t e in
        simp (length-append, length-drop) (omega arith)

-- a job that is refused leaves every byte of the buffer as it was
pub refusal_keeps : (s buffer : List ℕ) → (trace_refusal s ≡ 0 → ⊥) → buffer_after (traced s (space_of s buffer)) buffer ≡ buffer
unfolding traced buffer_after places_over
refusal_keeps s buffer h =
    ap (λ a. buffer_after a buffer) (unless_refused (trace_refusal s) (trace (step_in s) on_same_facet (start_of s) (space_of s buffer)) h)

-- bytes past the last place written keep their values
pub rest_keeps : (t : Trace Place Stop) (buffer : List ℕ)
    → drop (length (encode_places t.places)) (buffer_after (answered t) buffer) ≡ drop (length (encode_places t.places)) buffer
unfolding buffer_after places_over
rest_keeps t buffer = drop_at (encode_places t.places) (drop (length (encode_places t.places)) buffer) _ refl
