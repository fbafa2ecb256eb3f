-- Bytes stored one part behind another.
use Prim.Native.Nat.{ℕ, suc, ◌+◌, ◌≤◌}
use native.Mathlib.Omega.{arith}
use native.Mathlib.Nat.{add-zero}
use mathlib.Core.Path.{◌≡◌, sym, ap, ◌∙◌}
use mathlib.Core.List.{List, [], ◌∷◌, ◌++◌, append_assoc}
use lib.ListN.{length, set, take, drop}
use lib.Seq.{sets, sets-eq}
use borrow.Rule.Slice.PartMut.{put_mid}
use Rattle.std.proofs.lemmas.List.{drop-drop}

pub sets_append : (l : List ℕ) (i : ℕ) (us vs : List ℕ) → sets l i (us ++ vs) ≡ sets (sets l i us) (i + length us) vs
sets_append l i [] vs = ap (λ k. sets l k vs) (sym (add-zero i))
sets_append l i (u ∷ us) vs =
    sets_append (set l i u) (suc i) us vs ∙ ap (λ k. sets (sets (set l i u) (suc i) us) k vs) (omega arith)

-- a part of a buffer filled
pub filled : (bytes part : List ℕ) (at m : ℕ) → m ≡ length part → at + length part ≤ length bytes → put_mid at m bytes part ≡ sets bytes at part
filled bytes part at m e l =
    ap (λ z. take at bytes ++ (part ++ z)) (drop-drop m at bytes ∙ ap (λ k. drop k bytes) (omega (arith, e)))
    ∙ sym (append_assoc (take at bytes) part (drop (at + length part) bytes)) ∙ sym (sets-eq part bytes at l)
