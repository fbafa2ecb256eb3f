-- The bodies by index, over the dimension: the box, the first n − 1 polynomials, the start, and anything behind it.
use Prim.Native.Nat.{ℕ, suc, zero, ◌-◌, ◌≤◌, ◌<◌}
use native.Mathlib.Omega.{arith}
use mathlib.Core.Path.{◌≡◌, refl, sym, ap, subst, ◌∙◌}
use mathlib.Core.Bool.{Bool, true, false, cond}
use mathlib.Core.List.{List, [], ◌∷◌, ◌++◌, map}
use lib.Dec.{eqb}
use lib.ListN.{length, take, get_or, length-map, get_or-append}
use lib.Seq.{get_or_at, get_or-take, length-take-le}
use denote.Ref.{Bor}
use borrow.Author.Tests.{eqb-true, eqb-false, ne_eqb}
use Rattle.assembly.specs.Assembled.{handed, body_of}
use Rattle.laying.specs.Laid.{body_at}
use Rattle.loose.specs.Arranged.{Arranged}

abbrev Ref : Type 0
Ref = Bor (List ℕ)

-- the bytes of the first m polynomials with the start behind them
bytes_of : (m : ℕ) (ps : List Ref) (s : Ref) (rest : List Ref) → m ≤ length ps
    → map (λ x. x.now) (take m ps ++ (s ∷ rest)) ≡ take m (map (λ x. x.now) ps) ++ (s.now ∷ map (λ x. x.now) rest)
bytes_of zero ps s rest l = refl
bytes_of (suc m) [] s rest l = absurd (omega arith)
bytes_of (suc m) (p ∷ ps) s rest l = ap (λ t. p.now ∷ t) (bytes_of m ps s rest (omega arith))

-- behind the box: the polynomial at an index under m, and the start behind m of them
behind_box : (m : ℕ) (ps : List (List ℕ)) (s : List ℕ) (rest : List (List ℕ)) (j : ℕ) → m ≤ length ps → j ≤ m
    → get_or (take m ps ++ (s ∷ rest)) j [] ≡ cond (eqb (suc j) (suc m)) s (get_or ps (suc j - 1) [])
behind_box m ps s rest j l u = go (eqb (suc j) (suc m)) refl
  where
    long : length (take m ps) ≡ m
    long = length-take-le m ps l

    same : suc j - 1 ≡ j
    same = omega arith

    go : (t : Bool) → eqb (suc j) (suc m) ≡ t → get_or (take m ps ++ (s ∷ rest)) j [] ≡ cond (eqb (suc j) (suc m)) s (get_or ps (suc j - 1) [])
    go true e =
        let last : j ≡ m = omega (arith, eqb-true (suc j) (suc m) e) in
        rw e (ap (λ i. get_or (take m ps ++ (s ∷ rest)) i []) last ∙ get_or_at (take m ps) s rest [] m long)
    go false e =
        let under : j < m = omega (arith, eqb-false (suc j) (suc m) e) in
        rw (e, same) (get_or-append (take m ps) (s ∷ rest) [] j (omega (arith, long)) ∙ get_or-take m ps j [] under)

-- in dimension m + 1, for any list of at least m polynomials
by_index : (m : ℕ) (b : Ref) (ps : List Ref) (s : Ref) (rest : List Ref) → m ≤ length ps
    → Arranged (record { n = suc m; bias = 0; box = b.now; polynomials = map (λ x. x.now) ps; start = s.now }) (body_at (b ∷ (take m ps ++ (s ∷ rest))))
unfolding Arranged body_of body_at
by_index m b ps s rest l zero u = refl
by_index m b ps s rest l (suc j) u =
    let away : eqb (suc j) 0 ≡ false = ne_eqb (suc j) 0 (λ e. omega arith) in
    rw away
    (ap (λ t. get_or t j []) (bytes_of m ps s rest l)
    ∙ behind_box m (map (λ x. x.now) ps) s.now (map (λ x. x.now) rest) j (omega (arith, length-map ps (λ x. x.now))) (omega arith))

-- of three polynomials
pub arranged_at : (b p q r s : Ref) (m n : ℕ) (rest : List Ref) → n ≡ suc m → m ≤ 3
    → Arranged (handed n 0 b.now p.now q.now r.now s.now) (body_at (b ∷ (take m (p ∷ q ∷ r ∷ []) ++ (s ∷ rest))))
arranged_at b p q r s m n rest e l =
    subst (λ i. Arranged (handed i 0 b.now p.now q.now r.now s.now) (body_at (b ∷ (take m (p ∷ q ∷ r ∷ []) ++ (s ∷ rest))))) (sym e)
    (by_index m b (p ∷ q ∷ r ∷ []) s rest l)
