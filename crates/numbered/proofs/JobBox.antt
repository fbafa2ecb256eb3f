-- The box of a job from one axis on: its low ends, how many vertices it has, and how many behind each axis.
use Rattle.std.proofs.Common.{ℕ, zero, suc, ◌+◌, ◌*◌, ◌-◌, ◌^◌, ◌≤◌, ◌<◌, ◌≡◌, ◌≢◌, refl, sym, ap, ap₂, subst, ◌∙◌, arith, List, [], ◌∷◌, ℤ, map, length, take, drop, set, get_or, length-set}
use Rattle.std.proofs.lemmas.List.{drop-set, get_or-set_other}
use Rattle.std.proofs.Math.Nat.{mul_comm, mul-le-mul, mul-le-mul_right, pow-suc}
use lib.Dec.{lit≤}
use mir.Syntax.{w64}
use mir.Val.{Fits}
use Rattle.exact.specs.Int.{0ℤ}
use Rattle.exact.specs.Size.{Size}
use Rattle.exact.specs.Crossed.{count_from}
use Rattle.exact.proofs.CountFrom.{count_from_next}
use Rattle.curves.specs.Box.{span}
use Rattle.paper.specs.Limits.{coordinate_limit}
use Rattle.paper.specs.Job.{body, low_end, high_end}
use Rattle.paper.proofs.Bodies.{box_length}
use Rattle.bits.specs.Axes.{Axes}
use Rattle.bits.proofs.EachDimension.{each_axes}
use Rattle.places.specs.Held.{vertex_as}
use Rattle.places.proofs.Reading.{each_set, each_none}
use Rattle.job.specs.OpenJob.{JobOf}
use Rattle.job.proofs.Opened.{job_opens}
use Rattle.seamlist.specs.BoxIndex.{box_size}
use Rattle.seamlist.specs.JobSeams.{low_ends, high_ends}
use Rattle.numbered.specs.Frame.{axis_most, BoxOf, AxisSize, FewSteps, behind_each, lows, highs, BoxFrame, FrameIs}
use Rattle.numbered.specs.declared.Frame.{Frame}

pub job_box : {n : ℕ} {s b : List ℕ} → JobOf n s → b ≡ body s 0 → BoxOf n b
job_box j e = rw (e, j.dimension) (record { count = box_length (job_opens j); ok = (job_opens j).box })

-- the axes from a on are read: the coordinates, the vertices behind each axis, and how many there are
pub record ReadFrom (b : List ℕ) (n a : ℕ) (cs : List ℤ) (bs : List ℕ) (size : ℕ) : Type 0 where
  pub low : take (n - a) (drop a cs) ≡ lows b a n
  pub near : (k : ℕ) → Size coordinate_limit (get_or cs k 0ℤ)
  pub coordinate_count : length cs ≡ 4
  pub is : size ≡ box_size (lows b a n) (highs b a n)
  pub some : 0 < size
  pub most : size ≤ axis_most ^ (n - a)
  pub behind : take (n - a) (drop a bs) ≡ behind_each (lows b a n) (highs b a n)
  pub rest : (k : ℕ) → n ≤ k → get_or bs k 1 ≡ 1
  pub behind_count : length bs ≡ 4
  pub few : FewSteps size (drop a bs)

-- none of them
read_at : (b : List ℕ) (n : ℕ) → take (n - n) (drop n (0ℤ ∷ 0ℤ ∷ 0ℤ ∷ 0ℤ ∷ [])) ≡ lows b n n → 1 ≡ box_size (lows b n n) (highs b n n)
    → take (n - n) (drop n (1 ∷ 1 ∷ 1 ∷ 1 ∷ [])) ≡ behind_each (lows b n n) (highs b n n) → 1 ≤ axis_most ^ (n - n)
    → FewSteps 1 (drop n (1 ∷ 1 ∷ 1 ∷ 1 ∷ [])) → ReadFrom b n n (0ℤ ∷ 0ℤ ∷ 0ℤ ∷ 0ℤ ∷ []) (1 ∷ 1 ∷ 1 ∷ 1 ∷ []) 1
read_at b n low is behind most few = record {
  low = low;
  near = each_none (Size coordinate_limit) 4 0ℤ (record { size = omega arith });
  coordinate_count = refl;
  is = is;
  some = omega arith;
  most = most;
  behind = behind;
  rest = λ k l. each_none (λ m. m ≡ 1) 4 1 refl k;
  behind_count = refl;
  few = few;
}

pub read_none : (b : List ℕ) (n : ℕ) → Axes n → ReadFrom b n n (0ℤ ∷ 0ℤ ∷ 0ℤ ∷ 0ℤ ∷ []) (1 ∷ 1 ∷ 1 ∷ 1 ∷ []) 1
unfolding count_from box_size behind_each
read_none b =
    let one : 1 ≤ 1 = lit≤ tt in
    let step : 1 ≤ axis_most * 1 = lit≤ tt in
    each_axes (λ n. ReadFrom b n n (0ℤ ∷ 0ℤ ∷ 0ℤ ∷ 0ℤ ∷ []) (1 ∷ 1 ∷ 1 ∷ 1 ∷ []) 1)
    (read_at b 2 refl refl refl one (one, (step, (one, (step, one)))))
    (read_at b 3 refl refl refl one (one, (step, one)))
    (read_at b 4 refl refl refl one one)

-- at most three axes are behind one
few_left : (k : ℕ) {m : ℕ} → k ≤ 3 → m ≤ axis_most ^ k → m ≤ axis_most ^ 3
few_left zero l h = omega arith
few_left (suc zero) l h = omega arith
few_left (suc (suc zero)) l h = omega arith
few_left (suc (suc (suc zero))) l h = h
few_left (suc (suc (suc (suc k)))) l h = absurd (omega arith)

-- one axis more
module _ {b : List ℕ} {n a i : ℕ} {cs : List ℤ} {bs : List ℕ} {size : ℕ} (e : a ≡ i + 1) (l : i < n) (h : n ≤ 4) (r : ReadFrom b n a cs bs size) where
  next : ReadFrom b n (i + 1) cs bs size
  next = subst (λ k. ReadFrom b n k cs bs size) e r

  left : n - i ≡ suc (n - (i + 1))
  left = omega arith

  low_more : lows b i n ≡ low_end b i ∷ lows b (i + 1) n
  low_more = ap (map (low_end b)) (count_from_next i n l)

  high_more : highs b i n ≡ high_end b i ∷ highs b (i + 1) n
  high_more = ap (map (high_end b)) (count_from_next i n l)

  put_before : {A : Type 0} (xs : List A) (x : A) {ts : List A} → length xs ≡ 4 → take (n - (i + 1)) (drop (i + 1) xs) ≡ ts
      → take (n - i) (drop i (set xs i x)) ≡ x ∷ ts
  put_before xs x c t = ap (λ k. take k (drop i (set xs i x))) left ∙ ap (take (suc (n - (i + 1)))) (drop-set xs i x (omega arith)) ∙ ap (λ s. x ∷ s) t

  pub axis_more : {x : ℤ} {m : ℕ} → x ≡ low_end b i → Size coordinate_limit (low_end b i) → AxisSize (span (low_end b i) (high_end b i)) m
      → ReadFrom b n i (set cs i x) (set bs i size) (size * m)
  unfolding box_size behind_each
  axis_more {x} {m} f near s = record {
    low = put_before cs x next.coordinate_count next.low ∙ ap (λ z. z ∷ lows b (i + 1) n) f ∙ sym low_more;
    near = each_set (Size coordinate_limit) cs i x 0ℤ next.near (subst (Size coordinate_limit) (sym f) near);
    coordinate_count = simp length-set next.coordinate_count;
    is = mul_comm size m ∙ ap₂ (λ k j. k * j) s.is next.is ∙ sym (ap₂ box_size low_more high_more);
    some = let one : 1 ≤ size = omega (arith, next.some) in omega (arith, mul-le-mul one s.some);
    most = subst (λ k. size * m ≤ axis_most ^ k) (sym left) (rw (pow-suc axis_most (n - (i + 1))) (mul-le-mul next.most s.few));
    behind = put_before bs size next.behind_count next.behind ∙ ap (λ k. k ∷ behind_each (lows b (i + 1) n) (highs b (i + 1) n)) next.is ∙ sym (ap₂ behind_each low_more high_more);
    rest = λ k j. let other : k ≢ i = omega (arith, l, j) in get_or-set_other bs i k size 1 other ∙ next.rest k j;
    behind_count = simp length-set next.behind_count;
    few = subst (FewSteps (size * m)) (sym (drop-set bs i size (omega (arith, next.behind_count)))) (next.some, (rw (mul_comm size m) (mul-le-mul_right size s.few), next.few));
  }

  -- the product fits
  pub size_fits : {m : ℕ} → m ≤ axis_most → Fits w64 (size * m)
  size_fits {m} k = record { fits = omega (arith, mul-le-mul (few_left (n - (i + 1)) (omega (arith, h)) next.most) k) }

-- all are read
module _ {b : List ℕ} {n : ℕ} {cs : List ℤ} {bs : List ℕ} {size : ℕ} where
  pub all_read : {a : ℕ} → a ≡ 0 → ReadFrom b n a cs bs size → BoxFrame b n (record { low = record { coordinates = cs }; size = size; behind = bs })
  unfolding vertex_as
  all_read {a} e q =
      let r : ReadFrom b n 0 cs bs size = subst (λ k. ReadFrom b n k cs bs size) e q in
      let whole : n - 0 ≡ n = omega arith in
      record {
        low = ap (λ k. take k cs) (sym whole) ∙ r.low;
        size = r.is;
        behind = ap (λ k. take k bs) (sym whole) ∙ r.behind;
        rest = r.rest;
        fits = record { near = record { count = r.coordinate_count; each = r.near }; some = r.some; count = r.behind_count; few = r.few };
      }

pub frame_is : {s b : List ℕ} {n : ℕ} {f : Frame} → JobOf n s → b ≡ body s 0 → BoxFrame b n f → FrameIs s n f
unfolding low_ends high_ends
frame_is {s} {b} {n} {f} j e r =
    let whole : n - 0 ≡ n = omega arith in
    let lows_are : lows b 0 n ≡ low_ends s = rw (whole, e, j.dimension) in
    let highs_are : highs b 0 n ≡ high_ends s = rw (whole, e, j.dimension) in
    record {
      job = j;
      low = r.low ∙ lows_are;
      size = r.size ∙ ap₂ box_size lows_are highs_are;
      behind = r.behind ∙ ap₂ behind_each lows_are highs_are;
      rest = r.rest;
      fits = r.fits;
    }
