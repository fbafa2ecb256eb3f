-- Rising lists: those with the same members are equal, and keeping, mapping, joining and pairing leave them rising.
use mathlib.Core.Path.{◌≡◌, refl, sym, ap₂, ◌∙◌, subst}
use mathlib.Core.Bool.{Bool, true, false, cond, false≢true}
use mathlib.Core.Logic.{⊎_elim}
use mathlib.Core.List.Memᴰ
use mathlib.Core.List.{List, [], ◌∷◌, ◌++◌, map}
use Rattle.curves.specs.Curve as Curve
use Rattle.curves.specs.Curve.{◌∈◌, NoDup}
use Rattle.curves.specs.Box.{keep, pairs}
use Rattle.curves.proofs.Listed.{keep_member, pairs_member}
use Rattle.seamlist.specs.Seams.{Rising, none, more}

module _ {A : Type 0} {before : A → A → Bool} where
  pub rising_head : {x : A} {l : List A} → Rising before (x ∷ l) → (y : A) → y ∈ l → before x y ≡ true
  rising_head (more h r) = h

  pub rising_tail : {x : A} {l : List A} → Rising before (x ∷ l) → Rising before l
  rising_tail (more h r) = r

  pub one_rising : (x : A) → Rising before (x ∷ [])
  one_rising x = more (λ y i. absurd (Memᴰ.not-nil i)) none

  pub append_rising : {l m : List A} → Rising before l → Rising before m → ((x y : A) → x ∈ l → y ∈ m → before x y ≡ true) → Rising before (l ++ m)
  append_rising none s h = s
  append_rising {m = m} (more {x = x} {l = l} k r) s h =
      more {x = x} {l = l ++ m}
      (λ y i. ⊎_elim (k y) (h x y (Memᴰ.head refl)) (Memᴰ.append_cases l i))
      (append_rising r s (λ y z i j. h y z (Memᴰ.tail i) j))

  pub keep_rising : (t : A → Bool) {l : List A} → Rising before l → Rising before (keep t l)
  unfolding keep
  keep_rising t none = none
  keep_rising t (more {x = x} {l = l} k r) = go (t x) (keep_rising t r)
    where
      go : (b : Bool) → Rising before (keep t l) → Rising before (cond b (x ∷ keep t l) (keep t l))
      go true d = more (λ y i. k y (keep_member t l i).0) d
      go false d = d

  -- what stands in front of a part of the list comes before all of that part
  pub rising_parts : (l : List A) {m : List A} → Rising before (l ++ m) → (x y : A) → x ∈ l → y ∈ m → before x y ≡ true
  rising_parts [] r x y i j = absurd (Memᴰ.not-nil i)
  rising_parts (z ∷ l) r x y i j =
      ⊎_elim
      (λ e. subst (λ w. before w y ≡ true) (sym e) (rising_head r y (Memᴰ.append_right l j)))
      (λ k. rising_parts l (rising_tail r) x y k j)
      (Memᴰ.cases_cons i)

  -- ---- equal lists

  module _ (irreflexive : (x : A) → before x x ≡ false) (transitive : (x y z : A) → before x y ≡ true → before y z ≡ true → before x z ≡ true) where
    not_both : {x y : A} → before x y ≡ true → before y x ≡ true → ⊥
    not_both {x} {y} h k = false≢true (sym (irreflexive x) ∙ transitive x y x h k)

    not_itself : {x y : A} → before x y ≡ true → x ≡ y → ⊥
    not_itself {x} h e = false≢true (sym (irreflexive x) ∙ subst (λ y. before x y ≡ true) (sym e) h)

    heads : {x y : A} {l m : List A} → Rising before (x ∷ l) → Rising before (y ∷ m) → x ∈ (y ∷ m) → y ∈ (x ∷ l) → x ≡ y
    heads {x} {y} r s i j =
        ⊎_elim
        (λ e. e)
        (λ u. ⊎_elim (λ e. sym e) (λ v. absurd (not_both (rising_head r y v) (rising_head s x u))) (Memᴰ.cases_cons j))
        (Memᴰ.cases_cons i)

    -- a later member of the one list is a later one of the other
    later : {x y z : A} {l m : List A} → Rising before (x ∷ l) → x ≡ y → z ∈ l → z ∈ (y ∷ m) → z ∈ m
    later {x} {y} {z} r e i j = ⊎_elim (λ q. absurd (not_itself (rising_head r z i) (e ∙ sym q))) (λ u. u) (Memᴰ.cases_cons j)

    pub rising_differ : {l : List A} → Rising before l → NoDup l
    rising_differ none = Curve.none
    rising_differ (more {x = x} {l = l} h r) = Curve.more {x = x} {l = l} (λ i. not_itself (h x i) refl) (rising_differ r)

    -- rising lists with the same members are equal
    pub rising_unique : (l m : List A) → Rising before l → Rising before m → ((x : A) → x ∈ l → x ∈ m) → ((x : A) → x ∈ m → x ∈ l) → l ≡ m
    rising_unique [] [] r s f g = refl
    rising_unique [] (y ∷ m) r s f g = absurd (Memᴰ.not-nil (g y (Memᴰ.head refl)))
    rising_unique (x ∷ l) [] r s f g = absurd (Memᴰ.not-nil (f x (Memᴰ.head refl)))
    rising_unique (x ∷ l) (y ∷ m) r s f g =
        let e : x ≡ y = heads r s (f x (Memᴰ.head refl)) (g y (Memᴰ.head refl)) in
        ap₂ (λ a b. a ∷ b) e
        (rising_unique l m (rising_tail r) (rising_tail s)
        (λ z i. later r e i (f z (Memᴰ.tail i)))
        (λ z i. later s (sym e) i (g z (Memᴰ.tail i))))

-- ---- other lists

module _ {A B : Type 0} {before : A → A → Bool} {after : B → B → Bool} (f : A → B) where
  pub map_rising : {l : List A} → ((x y : A) → before x y ≡ true → after (f x) (f y) ≡ true) → Rising before l → Rising after (map f l)
  map_rising h none = none
  map_rising h (more {x = x} {l = l} k r) =
      more {x = f x} {l = map f l}
      (λ y i. let w = Memᴰ.of_map f l i in subst (λ z. after (f x) z ≡ true) w.2 (h x w.0 (k w.0 w.1)))
      (map_rising h r)

module _ {A B C : Type 0} {first : A → A → Bool} {second : B → B → Bool} {third : C → C → Bool} (f : A → B → C) where
  -- pairs rise if the first element decides, and the second where the first are the same
  pub pairs_rising : {xs : List A} {bs : List B}
      → ((x y : A) (b c : B) → x ∈ xs → y ∈ xs → first x y ≡ true → third (f x b) (f y c) ≡ true)
      → ((x : A) (b c : B) → second b c ≡ true → third (f x b) (f x c) ≡ true)
      → Rising first xs → Rising second bs → Rising third (pairs f xs bs)
  unfolding pairs
  pairs_rising h k none s = none
  pairs_rising {bs = bs} h k (more {x = x} {l = xs} p r) s =
      append_rising (map_rising {before = second} {after = third} (f x) (k x) s)
      (pairs_rising (λ a y b c i j. h a y b c (Memᴰ.tail i) (Memᴰ.tail j)) k r s)
      (λ c d i j.
      let u = Memᴰ.of_map (f x) bs i in
      let v = pairs_member f xs bs j in
      subst (λ z. third z d ≡ true) u.2
      (subst (λ z. third (f x u.0) z ≡ true) v.is
      (h x v.one u.0 v.other (Memᴰ.head refl) (Memᴰ.tail v.of_first) (p v.one v.of_first))))
