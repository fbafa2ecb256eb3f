-- Texts written one behind the other are their joined text.
use Prim.Native.Nat.{ℕ, ◌+◌, ◌≤◌, ◌<◌}
use mathlib.Core.Path.{◌≡◌, refl, sym, ap, ◌∙◌}
use mathlib.Core.List.{List, [], ◌∷◌, ◌++◌, append_assoc}
use native.Mathlib.Omega.{arith}
use native.Mathlib.Nat.{add-zero}
use native.Mathlib.Numerals.{add-one}
use lib.ListN.{length, take, drop, set, length-append, take-append-drop}
use lib.Seq.{take_at, drop_at, drop-drop, length-take-le, set_split}
use Rattle.decimals.specs.Written.{Writes}

pub writes_nothing : (before : List ℕ) (at : ℕ) → Writes 0 [] at before before at
writes_nothing before at = record {
  whole = sym (rw (add-zero at) (take-append-drop at before));
  end = sym (add-zero at);
  short = omega arith;
}

-- a store writes one byte
pub writes_byte : (before : List ℕ) (at b : ℕ) → at < length before → Writes 1 (b ∷ []) at before (set before at b) (at + 1)
writes_byte before at b h = record {
  whole = set_split before at b h ∙ ap (λ (k : ℕ). take at before ++ (b ∷ drop k before)) (sym (add-one at));
  end = refl;
  short = omega arith;
}

-- what stands before and behind the first text
module _ {m at mid : ℕ} {t before between : List ℕ} (h : at ≤ length before) (p : Writes m t at before between mid) where
  head_length : length (take at before ++ t) ≡ mid
  head_length = length-append (take at before) t ∙ ap (λ (k : ℕ). k + length t) (length-take-le at before h) ∙ sym p.end

  as_head : between ≡ (take at before ++ t) ++ drop mid before
  as_head = p.whole ∙ rw (← p.end) (sym (append_assoc (take at before) t (drop mid before)))

  head_is : take mid between ≡ take at before ++ t
  head_is = ap (take mid) as_head ∙ take_at (take at before ++ t) (drop mid before) mid head_length

  tail_is : (k : ℕ) → drop (mid + k) between ≡ drop (mid + k) before
  tail_is k =
      sym (drop-drop k mid between)
      ∙ ap (drop k) (ap (drop mid) as_head ∙ drop_at (take at before ++ t) (drop mid before) mid head_length)
      ∙ drop-drop k mid before

  end_inside : mid ≤ length between
  end_inside =
      omega (arith, ap length as_head, length-append (take at before ++ t) (drop mid before), head_length)

  -- the second text, which may use that the first one ends inside the buffer
  pub writes_then : {k r : ℕ} {u after : List ℕ} → (mid ≤ length between → Writes k u mid between after r)
      → Writes (m + k) (t ++ u) at before after r
  writes_then {k} {r} {u} {after} second =
      let q = second end_inside in
      let more : length (t ++ u) ≡ length t + length u = length-append t u in
      let far : mid + length u ≡ at + length (t ++ u) = omega (arith, p.end) in
      record {
        whole =
            q.whole
            ∙ rw (head_is, tail_is (length u), far)
            (append_assoc (take at before) t (u ++ drop (at + length (t ++ u)) before)
            ∙ ap (λ (l : List ℕ). take at before ++ l) (sym (append_assoc t u (drop (at + length (t ++ u)) before))));
        end = omega (arith, q.end);
        short = omega (arith, p.short, q.short);
      }

-- the same text by another name, with another bound
pub writes_within : {m k at r : ℕ} {t u before after : List ℕ} → t ≡ u → length u ≤ k → Writes m t at before after r → Writes k u at before after r
writes_within {m} {k} {at} {r} {t} {u} {before} {after} e h p =
    let h' = rw (← e) at h in rw (← e) (record { whole = p.whole; end = p.end; short = h' })

pub writes_as : {m k at r : ℕ} {t u before after : List ℕ} → t ≡ u → m ≤ k → Writes m t at before after r → Writes k u at before after r
writes_as {m} {k} {at} {r} {t} {u} {before} {after} e h p =
    rw (← e) (record { whole = p.whole; end = p.end; short = omega (arith, p.short) })
