-- The facets with a lowest vertex, chain by chain of the table.
use Prim.Native.Nat.{ℕ, zero, suc, ◌+◌, ◌-◌, ◌/◌, ◌%◌, ◌^◌, ◌≤◌, ◌<◌}
use native.Mathlib.Omega.{arith}
use mathlib.Core.Path.{◌≡◌, refl, sym, ap, ap₂, subst, ◌∙◌}
use mathlib.Core.Bool.{Bool, true, cond}
use mathlib.Core.List.{List, [], ◌∷◌, map}
use lib.IntN.{ℤ}
use lib.ListN.{length, get_or, take, drop, length-take, length-drop}
use Rattle.std.proofs.lemmas.List.{get_or-take, get_or-drop}
use lib.Seq.{length-take-le}
use lib.Dec.{lit≤}
use borrow.Author.Tests.{eq-eqb}
use Rattle.exact.proofs.AndTests.{and-true}
use Rattle.exact.specs.Crossed.{count_from}
use Rattle.curves.specs.Grid.{Facet, facet_ok}
use Rattle.curves.specs.Grid as Grid
use Rattle.curves.specs.Box.{keep, chains}
use Rattle.field.proofs.Counted.{map_map}
use Rattle.bits.specs.Axes.{Axes}
use Rattle.bits.proofs.EachDimension.{each_axes}
use Rattle.places.specs.Held.{vertex_as, masks_as, facet_as, VertexSize}
use Rattle.paper.specs.declared.Vertex.{Vertex}
use Rattle.paper.specs.declared.HeldPlace.{HeldPlace}
use Rattle.job.specs.OpenJob.{JobOf}
use Rattle.job.proofs.Opened.{job_axes}
use Rattle.lattice.proofs.Moves.{vertex_wider}
use Rattle.step.specs.Held.{held_limit}
use Rattle.cube.specs.Cube.{Cube, OneSided}
use Rattle.least.specs.Search.{least_in}
use Rattle.chains.specs.Chains.{chain_array, first_chain, chain_word, digits, chain_of, facet_on, PlaceOn}
use Rattle.scan.specs.Scanned.{OnCube, CubeAt}
use Rattle.chains.proofs.ChainTable.{chain_count, chains_counted, chains_tabled, digits_under_lem, chain_formed}
use Rattle.scan.proofs.Gathered.{gathered, gathered_none, keep_gathered}
use Rattle.scan.proofs.SeamTest.{one_sided_seam}

-- facet j with a lowest vertex
unfoldable pub facet_at : ℕ → Grid.Vertex → ℕ → Facet
facet_at n v j = facet_on v (chain_of n (chain_word n j))

-- what is met at facet j
unfoldable pub met_at : (Facet → Bool) → ℕ → Grid.Vertex → ℕ → List Facet
met_at t n v j = keep t (facet_at n v j ∷ [])

-- all that is met at a vertex
pub met_all : (t : Facet → Bool) (n : ℕ) (v : Grid.Vertex) → Axes n → gathered (met_at t n v) (chain_count n) ≡ keep t (map (facet_on v) (chains n))
unfolding met_at facet_at
met_all t n v a =
    sym (keep_gathered t (facet_at n v) (chain_count n))
    ∙ ap (keep t) (sym (map_map (facet_on v) (λ j. chain_of n (chain_word n j)) (count_from 0 (chain_count n))) ∙ ap (map (facet_on v)) (sym (chains_tabled n a)))

-- those of n axes lie within it
pub chains_end : (n : ℕ) → Axes n → first_chain n + chain_count n ≤ 75
unfolding first_chain chain_count
chains_end n a = each_axes (λ n. first_chain n + chain_count n ≤ 75) (lit≤ tt) (lit≤ tt) (lit≤ tt) n a

-- its digits
three_digits : (w : ℕ) → length (digits w) ≡ 3
unfolding digits
three_digits w = refl

digits_small : (w n : ℕ) → (w / 256 < 2 ^ n) × ((w / 16 % 16 < 2 ^ n) × (w % 16 < 2 ^ n)) → (k : ℕ) → get_or (digits w) k 0 < 2 ^ n
unfolding digits
digits_small w n u zero = u.0
digits_small w n u (suc zero) = u.1.0
digits_small w n u (suc (suc zero)) = u.1.1
digits_small w n u (suc (suc (suc k))) = omega (arith, u.0)

array_long : length chain_array ≡ 75
unfolding chain_array
array_long = refl

-- the part of the table with the chains of n axes: its length, an entry's number, and the entry
module _ {n : ℕ} (f count : ℕ) (t : List ℕ) (a : Axes n) (tabled : t ≡ chain_array) (begins : f ≡ first_chain n) (counted : count ≡ length (chains n)) where
  pub part_long : length (take (f + count - f) (drop f t)) ≡ chain_count n
  part_long =
      let whole : length t ≡ 75 = ap length tabled ∙ array_long in
      simp (length-take {A = ℕ}, length-drop {A = ℕ}) (omega (arith, whole, begins, counted, chains_counted n a, chains_end n a))

  module _ {j : ℕ} (h : j < length (take (f + count - f) (drop f t))) where
    pub entry_inside : j < chain_count n
    entry_inside = omega (arith, h, part_long)

    pub entry_is : get_or (take (f + count - f) (drop f t)) j 0 ≡ chain_word n j
    unfolding chain_word
    entry_is =
        let within : j < f + count - f = omega (arith, entry_inside, counted, chains_counted n a) in
        get_or-take (f + count - f) (drop f t) j 0 within
        ∙ get_or-drop f t j 0
        ∙ ap₂ (λ l k. get_or l (k + j) 0) tabled begins

vertex_length : (n : ℕ) (v : Vertex) → Axes n → length v.coordinates ≡ 4 → length (vertex_as n v) ≡ n
unfolding vertex_as
vertex_length n v a four = length-take-le n v.coordinates (omega (arith, a.high))

module _ {s : List ℕ} {n : ℕ} {v : Vertex} {values : List ℤ} {known : List Bool} (c : CubeAt s n v values known) {j : ℕ} (l : j < chain_count n)
    {w : ℕ} (is : w ≡ chain_word n j) {p : HeldPlace} (o : PlaceOn v w p) where
  pub facet_is : facet_as n p ≡ facet_at n (vertex_as n v) j
  unfolding facet_at
  facet_is = o.facet n ∙ ap (λ w. facet_on (vertex_as n v) (chain_of n w)) is

  form : facet_ok n (facet_at n (vertex_as n v) j) ≡ true
  unfolding facet_ok facet_at facet_on
  form = and-true (eq-eqb (length (vertex_as n v)) n (vertex_length n v (job_axes c.job) c.size.count)) (chain_formed n (job_axes c.job) j l)

  pub on_cube : OnCube s n p values known
  on_cube =
      let u = digits_under_lem n (job_axes c.job) j l in
      record {
        job = c.job;
        form = ap (facet_ok n) facet_is ∙ form;
        masks = record {
          count = rw (o.masks) (three_digits w);
          each = λ k. rw (o.masks, is) (digits_small (chain_word n j) n u k);
        };
        side = o.side;
        size = subst (VertexSize held_limit) (sym o.low) c.size;
        one = c.one;
        cube = subst (λ u. Cube s n (vertex_as n u) values known c.one) (sym o.low) c.cube;
      }

  -- what is met there
  pub met_here : (t : Facet → Bool) → keep t (facet_as n p ∷ []) ≡ met_at t n (vertex_as n v) j
  unfolding met_at
  met_here t = ap (λ f. keep t (f ∷ [])) facet_is

-- ---- a cube in which a polynomial has one side only

-- the place of chain j, as the code makes it
place_for : ℕ → Vertex → ℕ → HeldPlace
place_for n v j = record { low = v; masks = digits (chain_word n j); side = 0 }

place_for_lem : (n : ℕ) (v : Vertex) (j : ℕ) → PlaceOn v (chain_word n j) (place_for n v j)
unfolding place_for facet_as masks_as facet_on chain_of
place_for_lem n v j = record { facet = λ n. refl; low = refl; masks = refl; side = refl }

pub nothing_met : {s : List ℕ} {n : ℕ} {v : Vertex} {values : List ℤ} {known : List Bool} → CubeAt s n v values known → OneSided n values known
    → keep (least_in s) (map (facet_on (vertex_as n v)) (chains n)) ≡ []
unfolding met_at keep
nothing_met {s} {n} {v} c o =
    let a : Axes n = job_axes c.job in
    sym (met_all (least_in s) n (vertex_as n v) a)
    ∙ gathered_none (met_at (least_in s) n (vertex_as n v)) (chain_count n)
    (λ j l.
    let p = place_for_lem n v j in
    ap (λ b. cond b (facet_at n (vertex_as n v) j ∷ []) [])
    (ap (least_in s) (sym (facet_is c l refl p)) ∙ one_sided_seam (on_cube c l refl p) o))

-- a vertex of a box, with its cube
pub cube_at : {s : List ℕ} {n : ℕ} {v : Vertex} {values : List ℤ} {known : List Bool} {one : List ℤ} → JobOf n s → VertexSize 1024 v
    → Cube s n (vertex_as n v) values known one → CubeAt s n v values known
unfolding held_limit
cube_at j l c = record { job = j; size = vertex_wider l (lit≤ tt); one = _; cube = c }
