-- The vertex with a number: the number divided axis by axis is the vertex of the definition, and no axis has many steps.
use Rattle.std.proofs.Common.{ℕ, zero, suc, ◌+◌, ◌/◌, ◌%◌, ◌^◌, ◌≤◌, ◌<◌, ◌≡◌, ◌≢◌, refl, sym, ap, ap₂, subst, ◌∙◌, arith, List, [], ◌∷◌, ◌++◌, ℤ, pos, ◌+ℤ◌, length, take, drop, set, get_or, length-set, append-nil, append_assoc}
use Rattle.std.proofs.lemmas.List.{drop_more, drop_all, take_all, take_more_set, drop-set-lt, get_or-set_other}
use Rattle.std.proofs.Math.Nat.{div-one, div-lt_iff_lt-mul, mod-lt, mul_comm, mul-le-mul_left, pow-suc}
use lib.Dec.{lit≤}
use mir.Syntax.{w64}
use mir.Val.{SFits, to_z}
use mir.ValLaws.{to_z_pos}
use Rattle.exact.specs.Int.{◌⊕◌, 0ℤ}
use Rattle.exact.specs.Size.{Size, Is}
use Rattle.exact.proofs.SizeLaws.{size_pos, size_weaken}
use Rattle.exact.proofs.Bits.{back, is_size, holds, fits_add, holds_add}
use Rattle.paper.specs.Limits.{coordinate_limit}
use Rattle.places.specs.Held.{vertex_as}
use Rattle.places.proofs.Reading.{each_set}
use Rattle.seamlist.specs.BoxIndex.{box_size, numbered}
use Rattle.seamlist.specs.JobSeams.{low_ends, high_ends}
use Rattle.numbered.specs.declared.Frame.{Frame}
use Rattle.numbered.specs.Frame.{axis_most, FewSteps, FrameFits, FrameIs, behind_each}
use Rattle.numbered.proofs.AxisSizes.{limit_whole}

-- ---- so many steps up on each axis as the number has of the vertices behind it

abbrev pub stepped : List ℤ → List ℕ → ℕ → List ℤ
stepped [] bs i = []
stepped (l ∷ ls) [] i = []
stepped (l ∷ ls) (b ∷ bs) i = (l ⊕ pos (i / b)) ∷ stepped ls bs (i % b)

take_stepped : (n : ℕ) (ls : List ℤ) (bs : List ℕ) (i : ℕ) → take n (stepped ls bs i) ≡ stepped (take n ls) (take n bs) i
take_stepped zero ls bs i = refl
take_stepped (suc n) [] bs i = refl
take_stepped (suc n) (l ∷ ls) [] i = refl
take_stepped (suc n) (l ∷ ls) (b ∷ bs) i = ap (λ t. (l ⊕ pos (i / b)) ∷ t) (take_stepped n ls bs (i % b))

stepped_numbered : (ls hs : List ℤ) (i : ℕ) → stepped ls (behind_each ls hs) i ≡ numbered ls hs i
unfolding behind_each numbered
stepped_numbered [] hs i = refl
stepped_numbered (l ∷ ls) [] i = refl
stepped_numbered (l ∷ ls) (h ∷ hs) i = ap (λ t. (l ⊕ pos (i / box_size ls hs)) ∷ t) (stepped_numbered ls hs (i % box_size ls hs))

-- ---- one axis

limit_room : coordinate_limit + 512 ≤ 1024
unfolding coordinate_limit
limit_room = lit≤ tt

-- a low end and so many steps
module _ {x : ℤ} {k : ℕ} (near : Size coordinate_limit x) (l : k < axis_most) where
  steps_are : Is 512 (pos k) (to_z w64 k)
  steps_are = record { is = to_z_pos w64 k (omega arith); size = size_weaken (size_pos k) (omega arith) }

  step_fits : SFits w64 (back x +ℤ to_z w64 k)
  step_fits = fits_add (holds near limit_whole) steps_are (omega (arith, limit_room))

  step_is : Is 1024 (x ⊕ pos k) (back (back x +ℤ to_z w64 k))
  step_is =
      let h = holds_add (holds near limit_whole) steps_are (omega (arith, limit_room)) in
      record { is = h.is; size = size_weaken h.size limit_room }

-- the first a coordinates are those of number i, and what is left of it counts among the vertices behind them
pub record NumberedTo (ls : List ℤ) (bs : List ℕ) (i a : ℕ) (cs : List ℤ) (rest : ℕ) : Type 0 where
  pub number : stepped ls bs i ≡ take a cs ++ stepped (drop a cs) (drop a bs) rest
  pub total : ℕ
  pub left : rest < total
  pub few : FewSteps total (drop a bs)
  pub near : (k : ℕ) → Size 1024 (get_or cs k 0ℤ)
  pub rest_near : (k : ℕ) → a ≤ k → Size coordinate_limit (get_or cs k 0ℤ)
  pub count : length cs ≡ 4

module _ {ls : List ℤ} {bs : List ℕ} {i a : ℕ} {cs : List ℤ} {rest : ℕ} (r : NumberedTo ls bs i a cs rest) (h : a < 4) (c : length bs ≡ 4) where
  few_here : FewSteps r.total (get_or bs a 0 ∷ drop (a + 1) bs)
  few_here = subst (FewSteps r.total) (drop_more bs a 0 (omega arith)) r.few

  pub behind_some : 0 < get_or bs a 0
  behind_some = few_here.0

  pub steps_few : rest / get_or bs a 0 < axis_most
  steps_few = (div-lt_iff_lt-mul behind_some).1 (omega (arith, few_here.1.0, r.left))

  pub coordinate_fits : SFits w64 (back (get_or cs a 0ℤ) +ℤ to_z w64 (rest / get_or bs a 0))
  coordinate_fits = step_fits (r.rest_near a (omega arith)) steps_few

  abbrev next : ℤ
  next = back (back (get_or cs a 0ℤ) +ℤ to_z w64 (rest / get_or bs a 0))

  next_is : Is 1024 (get_or cs a 0ℤ ⊕ pos (rest / get_or bs a 0)) next
  next_is = step_is (r.rest_near a (omega arith)) steps_few

  behind : List ℤ
  behind = stepped (drop (a + 1) cs) (drop (a + 1) bs) (rest % get_or bs a 0)

  pub axis_more : NumberedTo ls bs i (a + 1) (set cs a next) (rest % get_or bs a 0)
  unfolding behind
  axis_more = record {
    number =
        r.number
        ∙ ap₂ (λ u v. take a cs ++ stepped u v rest) (drop_more cs a 0ℤ (omega (arith, r.count))) (drop_more bs a 0 (omega arith))
        ∙ ap (λ z. take a cs ++ (z ∷ behind)) (sym next_is.is)
        ∙ sym (append_assoc (take a cs) (next ∷ []) behind)
        ∙ ap₂ (λ u v. u ++ stepped v (drop (a + 1) bs) (rest % get_or bs a 0)) (sym (take_more_set cs a next (omega (arith, r.count))))
        (sym (drop-set-lt (a + 1) cs a next (omega arith)));
    total = get_or bs a 0;
    left = mod-lt rest behind_some;
    few = few_here.1.1;
    near = each_set (Size 1024) cs a next 0ℤ r.near (is_size next_is);
    rest_near =
        λ k l. let other : k ≢ a = omega arith in subst (Size coordinate_limit) (sym (get_or-set_other cs a k next 0ℤ other)) (r.rest_near k (omega arith));
    count = simp length-set r.count;
  }

-- ---- all axes

pub none_stepped : {f : Frame} {i : ℕ} → FrameFits f → i < f.size → NumberedTo f.low.coordinates f.behind i 0 f.low.coordinates i
none_stepped {f} {i} h l = record {
  number = refl;
  total = f.size;
  left = l;
  few = h.few;
  near = λ k. size_weaken (h.near.each k) (omega (arith, limit_room));
  rest_near = λ k l. h.near.each k;
  count = h.near.count;
}

-- the last axis: behind it is one vertex, so what is left of the number is the steps
module _ {ls : List ℤ} {bs : List ℕ} {i a : ℕ} {cs : List ℤ} {rest : ℕ} (e : a ≡ 3) (q : NumberedTo ls bs i a cs rest) (c : length bs ≡ 4) where
  here : NumberedTo ls bs i 3 cs rest
  here = subst (λ k. NumberedTo ls bs i k cs rest) e q

  last_one : get_or bs 3 0 ≡ 1
  last_one =
      let few = few_here here (lit≤ tt) c in
      let none : drop 4 bs ≡ [] = drop_all 4 bs (omega arith) in
      let most : get_or bs 3 0 ≤ 1 = subst (FewSteps (get_or bs 3 0)) none few.1.1 in
      omega (arith, few.0, most)

  whole : rest / get_or bs 3 0 ≡ rest
  whole = ap (λ b. rest / b) last_one ∙ div-one rest

  pub last_few : rest < axis_most
  last_few = subst (λ k. k < axis_most) whole (steps_few here (lit≤ tt) c)

  pub last_fits : SFits w64 (back (get_or cs 3 0ℤ) +ℤ to_z w64 rest)
  last_fits = subst (λ k. SFits w64 (back (get_or cs 3 0ℤ) +ℤ to_z w64 k)) whole (coordinate_fits here (lit≤ tt) c)

  pub last_axis : NumberedTo ls bs i 4 (set cs 3 (back (back (get_or cs 3 0ℤ) +ℤ to_z w64 rest))) (rest % get_or bs 3 0)
  last_axis =
      subst (λ k. NumberedTo ls bs i 4 (set cs 3 (back (back (get_or cs 3 0ℤ) +ℤ to_z w64 k))) (rest % get_or bs 3 0)) whole (axis_more here (lit≤ tt) c)

pub all_stepped : {f : Frame} {i a : ℕ} {cs : List ℤ} {rest : ℕ} → a ≡ 4 → NumberedTo f.low.coordinates f.behind i a cs rest → (s : List ℕ) (n : ℕ) → FrameIs s n f
    → take n cs ≡ numbered (low_ends s) (high_ends s) i
unfolding vertex_as
all_stepped {f} {i} {a} {cs} {rest} e q s n g =
    let r : NumberedTo f.low.coordinates f.behind i 4 cs rest = subst (λ k. NumberedTo f.low.coordinates f.behind i k cs rest) e q in
    let whole : stepped f.low.coordinates f.behind i ≡ cs =
    r.number
    ∙ ap₂ (λ u v. u ++ stepped v (drop 4 f.behind) rest) (take_all 4 cs (omega (arith, r.count))) (drop_all 4 cs (omega (arith, r.count)))
    ∙ append-nil cs in
    ap (take n) (sym whole)
    ∙ take_stepped n f.low.coordinates f.behind i
    ∙ ap₂ (λ u v. stepped u v i) g.low g.behind
    ∙ stepped_numbered (low_ends s) (high_ends s) i

-- a box has under 2 to the 37 vertices
few_below : (m : ℕ) (bs : List ℕ) → FewSteps m bs → m ≤ axis_most ^ length bs
few_below m [] h = h
few_below m (b ∷ bs) h =
    rw (pow-suc axis_most (length bs), mul_comm (axis_most ^ length bs) axis_most) (omega (arith, h.1.0, mul-le-mul_left axis_most (few_below b bs h.1.1)))

pub frame_few : {f : Frame} → FrameFits f → f.size < 2 ^ 37
frame_few {f} h =
    let most : f.size ≤ axis_most ^ 4 = subst (λ k. f.size ≤ axis_most ^ k) h.count (few_below f.size f.behind h.few) in
    omega arith
