-- The minors of a facet, as determinants of entries of the cells, in each dimension; and the sizes of minors, coefficients and D, over n.
use Prim.Native.Nat.{ℕ, suc, zero, ◌+◌, ◌*◌, ◌^◌, ◌-◌, ◌≤◌, ◌<◌}
use mathlib.Core.Path.{◌≡◌, refl, sym, ap, ap₂, ◌∙◌, subst, fun_ext}
use mathlib.Core.List.{List, [], ◌∷◌, map}
use native.Mathlib.Omega.{arith}
use native.Mathlib.Decide.{ℕ_discrete}
use lib.IntN.{ℤ, pos, ◌+ℤ◌}
use lib.Dec.{lit≤}
use lib.ListN.{length, get_or}
use mir.Syntax.{w64}
use mir.Val.{SFits}
use Rattle.exact.specs.Int.{0ℤ, 1ℤ}
use Rattle.exact.specs.Size.{Size, Is}
use Rattle.exact.specs.Factorial.{factorial}
use Rattle.exact.specs.Det.{det, rows_from, determinant}
use Rattle.exact.specs.Crossed.{count_from, coefficient, remove}
use Rattle.exact.specs.Minors.{alternate, skip, sum_to}
use Rattle.exact.proofs.SizeLaws.{size_pos, size_weaken}
use Rattle.exact.proofs.Bits.{holds_call, back, fits_add, holds_add}
use Rattle.exact.proofs.Sums.{sum_to_last}
use Rattle.exact.proofs.Position.{skip_le}
use Rattle.exact.proofs.Rows.{row}
use Rattle.exact.proofs.Tagged.{on_part, det_map}
use Rattle.exact.proofs.DetSize.{Each, EntriesWithin}
use Rattle.exact.proofs.Weights.{weights_sum}
use Rattle.exact.proofs.CountFrom.{length_map_count_from, get_d_map_count_from, get_d_past_count_from, map_count_from_ext, remove_map_count_from}
use Rattle.exact.proofs.Cofactor.{coefficient_minor, alternate_add, rows_without}
use Rattle.exact.proofs.CoefficientSize.{each_remove}
use Rattle.exact.proofs.CoefficientSize as size
use Rattle.exact.proofs.SmallDeterminants.{det_one}
use Rattle.paper.specs.Limits.{readable_limit}
use Rattle.bits.specs.Axes.{Axes}
use Rattle.bits.proofs.EachDimension.{each_axes}
use Rattle.determinants.specs.Cells.{Cells, column_at, simplex_columns, facet_columns, entry_limit}
use Rattle.determinants.specs.Entries.{entry_at, coefficient_limit, determinant_limit}
use Rattle.determinants.proofs.Entries.{column_entry, limit_least}

map_map : {A B C : Type 0} (f : B → C) (g : A → B) (l : List A) → map f (map g l) ≡ map (λ x. f (g x)) l
map_map f g [] = refl
map_map f g (x ∷ l) = ap (λ t. f (g x) ∷ t) (map_map f g l)

-- ---- the columns of a facet
-- the vertices of the facet without `out`
pub facet_columns_lem :
    (n : ℕ) (cells : List ℤ) (out : ℕ) → out ≤ n → facet_columns n cells out ≡ map (λ k. column_at n cells (skip out k)) (count_from 0 n)
unfolding facet_columns simplex_columns
facet_columns_lem n cells out h = remove_map_count_from (column_at n cells) out n h

pub facet_length : (n : ℕ) (cells : List ℤ) (out : ℕ) → out ≤ n → length (facet_columns n cells out) ≡ n
facet_length n cells out h = ap length (facet_columns_lem n cells out h) ∙ length_map_count_from (λ k. column_at n cells (skip out k)) 0 n

pub facet_ones :
    (n : ℕ) (cells : List ℤ) (out : ℕ) → out ≤ n → (i : ℕ) → i < n → get_or (get_or (facet_columns n cells out) i []) 0 0ℤ ≡ 1ℤ
unfolding column_at
facet_ones n cells out h i l =
    ap (λ c. get_or c 0 0ℤ)
    (ap (λ cs. get_or cs i []) (facet_columns_lem n cells out h) ∙ get_d_map_count_from (λ k. column_at n cells (skip out k)) [] 0 n i l)

-- ---- the minor without column i and row j
abbrev pub facet_minor : ℕ → List ℤ → ℕ → ℕ → ℕ → ℤ
facet_minor n cells out i j = det (remove j (rows_from 0 n)) (remove i (facet_columns n cells out))

module _ (m : ℕ) (cells : List ℤ) (out i j : ℕ) (ho : out ≤ suc m) (hi : i ≤ m) (hj : j ≤ m) where
  columns_left : remove i (facet_columns (suc m) cells out) ≡ map (column_at (suc m) cells) (map (λ k. skip out (skip i k)) (count_from 0 m))
  columns_left =
      ap (remove i) (facet_columns_lem (suc m) cells out ho)
      ∙ remove_map_count_from (λ k. column_at (suc m) cells (skip out k)) i m hi
      ∙ sym (map_map (column_at (suc m) cells) (λ k. skip out (skip i k)) (count_from 0 m))

  rows_left : on_part (column_at (suc m) cells) (map (λ r. row (skip j r)) (count_from 0 m)) ≡ map (λ r. entry_at cells (skip j r)) (count_from 0 m)
  rows_left =
      map_map (λ h v. h (column_at (suc m) cells v)) (λ r. row (skip j r)) (count_from 0 m)
      ∙ map_count_from_ext (λ r v. row (skip j r) (column_at (suc m) cells v)) (λ r. entry_at cells (skip j r)) 0 m
      (λ r low high. fun_ext (λ v. column_entry m cells (skip j r) v (skip_le m j r hj (omega arith))))

  pub minor_entries :
      facet_minor (suc m) cells out i j
      ≡ det (map (λ r. entry_at cells (skip j r)) (count_from 0 m)) (map (λ k. skip out (skip i k)) (count_from 0 m))
  minor_entries =
      ap₂ (λ rs cs. det rs cs) (rows_without m j hj) columns_left
      ∙ sym (det_map (column_at (suc m) cells) (map (λ r. row (skip j r)) (count_from 0 m)) (map (λ k. skip out (skip i k)) (count_from 0 m)))
      ∙ ap (λ rs. det rs (map (λ k. skip out (skip i k)) (count_from 0 m))) rows_left

-- in each dimension
module _ (n : ℕ) (cells : List ℤ) (out i j : ℕ) (ho : out ≤ n) (hi : i < n) (hj : j < n) where
  pub minor_one : n ≡ 2 → facet_minor n cells out i j ≡ entry_at cells (skip j 0) (skip out (skip i 0))
  unfolding count_from
  minor_one e =
      subst (λ k. facet_minor k cells out i j ≡ entry_at cells (skip j 0) (skip out (skip i 0))) (sym e)
      (minor_entries 1 cells out i j (omega arith) (omega arith) (omega arith) ∙ det_one _ _)

  pub minor_two :
      n ≡ 3
      → facet_minor n cells out i j
      ≡ det (entry_at cells (skip j 0) ∷ entry_at cells (skip j 1) ∷ []) (skip out (skip i 0) ∷ skip out (skip i 1) ∷ [])
  unfolding count_from
  minor_two e =
      subst
      (λ k. facet_minor k cells out i j ≡ det (entry_at cells (skip j 0) ∷ entry_at cells (skip j 1) ∷ []) (skip out (skip i 0) ∷ skip out (skip i 1) ∷ []))
      (sym e) (minor_entries 2 cells out i j (omega arith) (omega arith) (omega arith))

  pub minor_three :
      n ≡ 4
      → facet_minor n cells out i j
      ≡ det (entry_at cells (skip j 0) ∷ entry_at cells (skip j 1) ∷ entry_at cells (skip j 2) ∷ [])
      (skip out (skip i 0) ∷ skip out (skip i 1) ∷ skip out (skip i 2) ∷ [])
  unfolding count_from
  minor_three e =
      subst
      (λ k.
      facet_minor k cells out i j
      ≡ det (entry_at cells (skip j 0) ∷ entry_at cells (skip j 1) ∷ entry_at cells (skip j 2) ∷ [])
      (skip out (skip i 0) ∷ skip out (skip i 1) ∷ skip out (skip i 2) ∷ []))
      (sym e) (minor_entries 3 cells out i j (omega arith) (omega arith) (omega arith))

-- ---- sizes
column_within : (n : ℕ) (cells : List ℤ) → Cells n cells → (v : ℕ) → EntriesWithin (entry_limit n) (column_at n cells v)
unfolding column_at
column_within n cells h v zero = size_weaken (size_pos 1) (limit_least n h.axes)
column_within n cells h v (suc k) = go (ℕ_discrete (suc k - (n - 1)) 0)
  where
    go : Dec (suc k - (n - 1) ≡ 0) → Size (entry_limit n) (get_or (map (λ k. get_or cells (3 * v + k) 0ℤ) (count_from 0 (n - 1))) k 0ℤ)
    go (yes e) =
        subst (Size (entry_limit n)) (sym (get_d_map_count_from (λ k. get_or cells (3 * v + k) 0ℤ) 0ℤ 0 (n - 1) k (omega arith))) (h.entries (3 * v + (0 + k)))
    go (no d) =
        subst (Size (entry_limit n)) (sym (get_d_past_count_from (λ k. get_or cells (3 * v + k) 0ℤ) 0ℤ 0 (n - 1) k (omega arith)))
        (size_weaken (size_pos 0) (omega arith))

each_map : {C : Type 0} (Q : C → Type 0) (f : ℕ → C) → ((i : ℕ) → Q (f i)) → (l : List ℕ) → Each Q (map f l)
each_map Q f q [] = tt
each_map Q f q (x ∷ l) = (q x, each_map Q f q l)

facet_within : (n : ℕ) (cells : List ℤ) → Cells n cells → (out : ℕ) → Each (EntriesWithin (entry_limit n)) (facet_columns n cells out)
unfolding facet_columns simplex_columns
facet_within n cells h out =
    each_remove (EntriesWithin (entry_limit n)) out _
    (each_map (EntriesWithin (entry_limit n)) (column_at n cells) (column_within n cells h) (count_from 0 (suc n)))

limits_fit : (n : ℕ) → Axes n → factorial (n - 1) * entry_limit n ^ (n - 1) ≤ coefficient_limit
unfolding factorial entry_limit readable_limit
limits_fit = each_axes (λ n. factorial (n - 1) * entry_limit n ^ (n - 1) ≤ coefficient_limit) (lit≤ tt) (lit≤ tt) (lit≤ tt)

module _ (n : ℕ) (cells : List ℤ) (h : Cells n cells) (out i j : ℕ) (hi : i < n) (hj : j < n) where
  rest : suc (n - 1) ≡ n
  rest = omega arith

  pub minor_size : Size coefficient_limit (facet_minor n cells out i j)
  minor_size =
      size_weaken
      (subst (λ k. Size (factorial (n - 1) * entry_limit n ^ (n - 1)) (det (remove j (rows_from 0 k)) (remove i (facet_columns n cells out)))) rest
      (size.minor_size (n - 1) (entry_limit n) (facet_columns n cells out) (facet_within n cells h out) i j (omega arith)))
      (limits_fit n h.axes)

  pub coefficient_size : out ≤ n → Size coefficient_limit (coefficient n (facet_columns n cells out) i j)
  coefficient_size ho =
      size_weaken
      (subst (λ k. Size (factorial (n - 1) * entry_limit n ^ (n - 1)) (coefficient k (facet_columns n cells out) i j)) rest
      (size.coefficient_size (n - 1) (entry_limit n) (facet_columns n cells out) (facet_within n cells h out) i j (omega arith)
      (subst (λ (k : ℕ). i < k) (sym (facet_length n cells out ho)) hi)))
      (limits_fit n h.axes)

-- what `minor` gives in each dimension, from the indices that it has computed
module _ {n : ℕ} {cells : List ℤ} {out i j : ℕ} (pre : Cells n cells × ((out ≤ n) × ((i < n) × (j < n)))) where
  given : {v : ℤ} → v ≡ facet_minor n cells out i j → Is coefficient_limit (facet_minor n cells out i j) (back v)
  given e = holds_call (record { is = e; size = minor_size n cells pre.0 out i j pre.1.1.0 pre.1.1.1 }) (lit≤ tt)

  module _ {r x a : ℕ} (er : r ≡ skip j 0) (ex : x ≡ skip i 0) (ea : a ≡ skip out x) where
    pub given_one : {v : ℤ} → n ≡ 2 → v ≡ entry_at cells r a → Is coefficient_limit (facet_minor n cells out i j) (back v)
    given_one e v = given (v ∙ rw (er, ea, ex) (sym (minor_one n cells out i j pre.1.0 pre.1.1.0 pre.1.1.1 e)))

    module _ {s y b : ℕ} (es : s ≡ skip j 1) (ey : y ≡ skip i 1) (eb : b ≡ skip out y) where
      pub given_two :
          {v : ℤ} → n ≡ 3 → v ≡ det (entry_at cells r ∷ entry_at cells s ∷ []) (a ∷ b ∷ [])
          → Is coefficient_limit (facet_minor n cells out i j) (back v)
      given_two e v = given (v ∙ rw (er, ea, ex, es, eb, ey) (sym (minor_two n cells out i j pre.1.0 pre.1.1.0 pre.1.1.1 e)))

      pub given_three :
          {v : ℤ} {t z c : ℕ} → t ≡ skip j 2 → z ≡ skip i 2 → c ≡ skip out z → (n ≡ 2 → ⊥) → (n ≡ 3 → ⊥)
          → v ≡ det (entry_at cells r ∷ entry_at cells s ∷ entry_at cells t ∷ []) (a ∷ b ∷ c ∷ [])
          → Is coefficient_limit (facet_minor n cells out i j) (back v)
      given_three et ez ec not-two not_three v =
          let four : n ≡ 4 = omega (arith, pre.0.axes.low, pre.0.axes.high, not-two, not_three) in
          given (v ∙ rw (er, ea, ex, es, eb, ey, et, ec, ez) (sym (minor_three n cells out i j pre.1.0 pre.1.1.0 pre.1.1.1 four)))

-- ---- the coefficient and D
pub weights_none : (f : ℕ → ℤ) → Is (0 * coefficient_limit) (sum_to 0 f) (pos 0)
unfolding sum_to
weights_none f = record { is = refl; size = record { size = lit≤ tt } }

-- the coefficient is the cofactor
pub cofactor :
    {n : ℕ} {cells : List ℤ} {out i j : ℕ} → Cells n cells × ((out ≤ n) × ((i < n) × (j < n))) → {m z : ℤ}
    → Is coefficient_limit (facet_minor n cells out i j) m → Is coefficient_limit (alternate (i + j) m) z
    → Is coefficient_limit (coefficient n (facet_columns n cells out) i j) z
cofactor {n} {cells} {out} {i} {j} pre {m} {z} e a =
    let minor = facet_minor n cells out i j in
    let is : alternate (i + j) m ≡ coefficient n (facet_columns n cells out) i j =
    ap (alternate (i + j)) e.is ∙ sym (alternate_add i j minor)
    ∙ sym (coefficient_minor n (facet_columns n cells out) i j (subst (λ (k : ℕ). i < k) (sym (facet_length n cells out pre.1.0)) pre.1.1.0) pre.1.1.1) in
    subst (λ x. Is coefficient_limit x z) is a

module _ {n : ℕ} {cells : List ℤ} {out : ℕ} (pre : Cells n cells × (out ≤ n)) where
  -- the coefficient of power 0 at a vertex
  abbrev weight : ℕ → ℤ
  weight i = coefficient n (facet_columns n cells out) i 0

  -- the sum of the first k of them
  pub weights_next :
      {k : ℕ} {sum z : ℤ} → k < n → Is (k * coefficient_limit) (sum_to k weight) sum
      → Is coefficient_limit (coefficient n (facet_columns n cells out) k 0) z
      → SFits w64 (sum +ℤ back z) × Is ((k + 1) * coefficient_limit) (sum_to (k + 1) weight) (back (sum +ℤ back z))
  weights_next {k} {sum} {z} l s e =
      let next : suc k ≡ k + 1 = omega arith in
      let room : k * coefficient_limit + coefficient_limit ≤ 2 ^ 63 - 1 = omega (arith, pre.0.axes.high) in
      let w = holds_add s (holds_call e (lit≤ tt)) room in (
        fits_add s (holds_call e (lit≤ tt)) room,
        record {
          is = w.is ∙ sym (sum_to_last k weight) ∙ ap (λ m. sum_to m weight) next;
          size = subst (Size ((k + 1) * coefficient_limit)) (sym (sum_to_last k weight) ∙ ap (λ m. sum_to m weight) next) (size_weaken w.size (omega arith));
        },
      )

  pub weights_all :
      {k : ℕ} {sum : ℤ} → k ≡ n → Is (k * coefficient_limit) (sum_to k weight) sum
      → Is determinant_limit (determinant n (facet_columns n cells out)) sum
  weights_all {k} {sum} e s =
      let columns = facet_columns n cells out in
      let count = facet_length n cells out pre.1 in
      let rest : suc (n - 1) ≡ n = omega (arith, pre.0.axes.low) in
      let whole : sum_to k weight ≡ determinant n columns =
      ap (λ m. sum_to m weight) (e ∙ sym count)
      ∙ subst (λ m. sum_to (length columns) (λ i. coefficient m columns i 0) ≡ determinant m columns) rest
      (weights_sum (n - 1) columns (λ i l. facet_ones n cells out pre.1 i (subst (λ (m : ℕ). i < m) count l))) in
      record { is = s.is ∙ whole; size = subst (Size determinant_limit) whole (size_weaken s.size (omega (arith, pre.0.axes.high))) }
