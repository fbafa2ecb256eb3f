-- No facet of a cube is crossed where some polynomial has one side only at the corners that are known.
use mathlib.Core.Path.{◌≡◌, sym, ap, ◌∙◌}
use mathlib.Core.Bool.{Bool, true, false}
use mathlib.Core.Logic.{⊎_elim}
use mathlib.Core.List.{List, [], map}
use Prim.Native.Nat.{ℕ, suc, ◌+◌, ◌*◌, ◌-◌, ◌<◌}
use native.Mathlib.Omega.{arith}
use lib.IntN.{ℤ}
use lib.ListN.{get_or}
use lib.Signed.{le_z}
use Rattle.exact.specs.Int.{0ℤ}
use Rattle.exact.specs.Det.{Column}
use Rattle.exact.specs.Crossed.{count_from}
use Rattle.exact.proofs.CountFrom.{get_d_map_count_from}
use Rattle.exact.proofs.OneSided.{one_sided_low, one_sided_high}
use Rattle.curves.specs.Grid.{facet_vertices}
use Rattle.curves.specs.Step.{column, columns, readable_all, crossed_facet}
use Rattle.paper.specs.Values.{field_of}
use Rattle.bits.specs.Axes.{Axes}
use Rattle.paper.specs.declared.HeldPlace.{HeldPlace}
use Rattle.places.specs.Held.{vertex_as, facet_as}
use Rattle.determinants.specs.Cells.{column_at}
use Rattle.field.proofs.Counted.{every_at, map_map}
use Rattle.cube.specs.Cube.{known_at, Cube, MasksUnder, value_at, OneSided}
use Rattle.cube.proofs.TakenFacets.{mask_of, mask_under, vertex, known_is, of_facet, all_known}

-- value k in the column of corner m
column_value : (n : ℕ) (values : List ℤ) (m k : ℕ) → suc k < n → get_or (column_at n values m) (suc k) 0ℤ ≡ value_at values k m
unfolding column_at value_at
column_value n values m k l =
    let at : 0 + k ≡ k = omega arith in
    get_d_map_count_from (λ q. get_or values (3 * m + q) 0ℤ) 0ℤ 0 (n - 1) k (omega arith) ∙ ap (λ q. get_or values (3 * m + q) 0ℤ) at

module _ {s : List ℕ} {n : ℕ} {p : HeldPlace} {values : List ℤ} {known : List Bool} {one : List ℤ} (a : Axes n) (u : MasksUnder n p)
    (c : Cube s n (vertex_as n p.low) values known one) (o : OneSided n values known)
    (r : readable_all (field_of s) (facet_vertices (facet_as n p)) ≡ true) where
  -- the facet's columns
  abbrev cs : List Column
  cs = columns (field_of s) (facet_vertices (facet_as n p))

  columns_are : cs ≡ map (λ q. column (field_of s) (vertex a u c q)) (count_from 0 n)
  unfolding columns
  columns_are = ap (columns (field_of s)) (sym (of_facet a u c)) ∙ map_map (column (field_of s)) (vertex a u c) (count_from 0 n)

  is_known : (i : ℕ) → i < n → get_or known (mask_of p i) false ≡ true
  is_known i l = known_is a u c i ∙ every_at (known_at s) (vertex a u c) n i (all_known a u c ∙ r) l

  entry : (i : ℕ) → i < n → get_or (get_or cs i []) (suc o.polynomial) 0ℤ ≡ value_at values o.polynomial (mask_of p i)
  entry i l =
      let at : 0 + i ≡ i = omega arith in
      ap (λ l. get_or (get_or l i []) (suc o.polynomial) 0ℤ) columns_are
      ∙ ap (λ x. get_or x (suc o.polynomial) 0ℤ) (get_d_map_count_from (λ q. column (field_of s) (vertex a u c q)) [] 0 n i l ∙ ap (λ q. column (field_of s) (vertex a u c q)) at)
      ∙ ap (λ x. get_or x (suc o.polynomial) 0ℤ) (sym ((c.corner (mask_of p i) (mask_under a u i)).column (is_known i l)))
      ∙ column_value n values (mask_of p i) o.polynomial o.is_one

  pub one_sided_facet : crossed_facet n (field_of s) (facet_as n p) ≡ false
  unfolding crossed_facet
  one_sided_facet =
      ⊎_elim
      (λ low.
      one_sided_low n cs (suc o.polynomial) o.is_one
      (λ i l. ap (λ x. le_z x 0ℤ) (entry i l) ∙ low (mask_of p i) (mask_under a u i) (is_known i l)))
      (λ high.
      one_sided_high n cs (suc o.polynomial) (omega arith) o.is_one
      (λ i l. ap (λ x. le_z x 0ℤ) (entry i l) ∙ high (mask_of p i) (mask_under a u i) (is_known i l)))
      o.side
