-- Parts laid one behind another are laid as one.
use Prim.Native.Nat.{ℕ, suc, zero, ◌+◌, ◌-◌, ◌%◌, ◌/◌, ◌≤◌, ◌<◌}
use native.Mathlib.Omega.{arith}
use mathlib.Core.Path.{◌≡◌, refl, sym, ap, subst, ◌∙◌}
use mathlib.Core.List.{List, [], ◌∷◌, ◌++◌}
use lib.IntN.{pos}
use lib.ListN.{length, length-append, take, get_or, set}
use borrow.Rule.Slice.PartMut.{put_mid}
use lib.Seq.{sets, length-sets, take-suc, length-take-le}
use Rattle.paper.specs.Bytes.{word_of, word_bytes}
use Rattle.bits.proofs.Sets.{sets_append, filled}
use Rattle.assembly.specs.Assembled.{entries_of, bodies_of}
use Rattle.assembly.proofs.Lengths.{bodies_snoc, entries_snoc}
use Rattle.laying.specs.Laid.{Laid}

pub laid_none : (b : List ℕ) (at : ℕ) → Laid b at [] b at
laid_none b at = record { position = omega arith; buffer = refl }

pub laid_as : {b c us vs : List ℕ} {at m : ℕ} → us ≡ vs → Laid b at us c m → Laid b at vs c m
laid_as {b} {c} {us} {vs} {at} {m} e p = subst (λ l. Laid b at l c m) e p

pub laid_behind : {b c d us vs : List ℕ} {at m r : ℕ} → Laid b at us c m → Laid c m vs d r → Laid b at (us ++ vs) d r
laid_behind {b} {c} {d} {us} {vs} {at} {m} {r} p q = record {
  position = omega (arith, p.position, q.position, length-append us vs);
  buffer = q.buffer ∙ ap (λ l. sets l m vs) p.buffer ∙ ap (λ k. sets (sets b at us) k vs) p.position ∙ sym (sets_append b at us vs);
}

pub laid_long : {b c us : List ℕ} {at m : ℕ} → Laid b at us c m → length c ≡ length b
laid_long {b} {c} {us} {at} p = ap length p.buffer ∙ length-sets b at us

-- one byte more of a list
pub sets_next : (l : List ℕ) (at : ℕ) (s : List ℕ) (i : ℕ) → i < length s
    → set (sets l at (take i s)) (at + i) (get_or s i 0) ≡ sets l at (take (i + 1) s)
sets_next l at s i h =
    let long : length (take i s) ≡ i = length-take-le i s (omega arith) in
    let one : i + 1 ≡ suc i = omega arith in
    let more : take (i + 1) s ≡ take i s ++ (get_or s i 0 ∷ []) = ap (λ k. take k s) one ∙ take-suc s i 0 h in
    sym (ap (sets l at) more ∙ sets_append l at (take i s) (get_or s i 0 ∷ []) ∙ ap (λ k. set (sets l at (take i s)) (at + k) (get_or s i 0)) long)

-- a part of a buffer filled with bytes
pub part_laid : {us part : List ℕ} {m next : ℕ} (b : List ℕ) (at : ℕ) → part ≡ us → m ≡ length us → next ≡ at + length us → at + length us ≤ length b
    → Laid b at us (put_mid at m b part) next
part_laid {us} {part} {m} {next} b at e h g l =
    let same : length part ≡ length us = ap length e in
    record { position = g; buffer = filled b part at m (omega arith) (omega arith) ∙ ap (sets b at) e }

-- the two bytes of the low 16 bits of a number
pub word_digits : (a : ℕ) → a % 65536 % 256 ∷ a % 65536 / 256 % 256 ∷ [] ≡ word_bytes (pos a)
unfolding word_bytes word_of
word_digits a = let high : a % 65536 / 256 % 256 ≡ a % 65536 / 256 = omega arith in ap (λ y. a % 65536 % 256 ∷ y ∷ []) high

-- the first k + 1 bodies and entries
bodies_next : (f : ℕ → List ℕ) (k : ℕ) → bodies_of f 0 (k + 1) ≡ bodies_of f 0 k ++ f k
bodies_next f k =
    let one : k + 1 ≡ suc k = omega arith in
    let same : 0 + k ≡ k = omega arith in
    ap (bodies_of f 0) one ∙ bodies_snoc f 0 k ∙ ap (λ x. bodies_of f 0 k ++ f x) same

entries_next : (f : ℕ → List ℕ) (k from : ℕ)
    → entries_of f 0 (k + 1) from ≡ entries_of f 0 k from ++ (word_bytes (pos (from + length (bodies_of f 0 k))) ++ word_bytes (pos (length (f k))))
entries_next f k from =
    let one : k + 1 ≡ suc k = omega arith in
    let same : 0 + k ≡ k = omega arith in
    ap (λ x. entries_of f 0 x from) one ∙ entries_snoc f 0 k from
    ∙ ap (λ x. entries_of f 0 k from ++ (word_bytes (pos (from + length (bodies_of f 0 k))) ++ word_bytes (pos (length (f x))))) same

-- one body more
pub body_more : {b c d s : List ℕ} {at m r : ℕ} (f : ℕ → List ℕ) (k : ℕ) → s ≡ f k → Laid b at (bodies_of f 0 k) c m → Laid c m s d r
    → Laid b at (bodies_of f 0 (k + 1)) d r
body_more {b} {c} {d} {s} {at} {m} {r} f k e p q =
    subst (λ l. Laid b at l d r) (ap (λ x. bodies_of f 0 k ++ x) e ∙ sym (bodies_next f k)) (laid_behind p q)

-- no part of the bodies is longer than the whole
grows : (f : ℕ → List ℕ) (k j : ℕ) → length (bodies_of f 0 k) ≤ length (bodies_of f 0 (k + j))
grows f k zero = let same : k + 0 ≡ k = omega arith in subst (λ x. length (bodies_of f 0 k) ≤ length (bodies_of f 0 x)) (sym same) (omega arith)
grows f k (suc j) =
    let next : k + suc j ≡ k + j + 1 = omega arith in
    subst (λ x. length (bodies_of f 0 k) ≤ length (bodies_of f 0 x)) (sym next)
    (omega (arith, grows f k j, ap length (bodies_next f (k + j)), length-append (bodies_of f 0 (k + j)) (f (k + j))))

pub bodies_within : (f : ℕ → List ℕ) (k m : ℕ) → k ≤ m → length (bodies_of f 0 k) ≤ length (bodies_of f 0 m)
bodies_within f k m l =
    let rest : k + (m - k) ≡ m = omega arith in
    subst (λ x. length (bodies_of f 0 k) ≤ length (bodies_of f 0 x)) rest (grows f k (m - k))

-- what is laid of the bodies, and the next body, have room where all have
pub body_room : (f : ℕ → List ℕ) (k m : ℕ) → k < m → length (bodies_of f 0 k) + length (f k) ≤ length (bodies_of f 0 m)
body_room f k m l =
    omega (arith, bodies_within f (k + 1) m (omega arith), ap length (bodies_next f k), length-append (bodies_of f 0 k) (f k))

-- one entry more: offset and length of a body
pub entry_more : {b c d e : List ℕ} {at m o r l : ℕ} (f : ℕ → List ℕ) (k from offset : ℕ) → offset ≡ from + length (bodies_of f 0 k) → l ≡ length (f k)
    → Laid b at (entries_of f 0 k from) c m → Laid c m (word_bytes (pos offset)) d o → Laid d o (word_bytes (pos l)) e r
    → Laid b at (entries_of f 0 (k + 1) from) e r
entry_more {b} {c} {d} {e} {at} {m} {o} {r} {l} f k from offset h g p q t =
    let same : entries_of f 0 k from ++ (word_bytes (pos offset) ++ word_bytes (pos l)) ≡ entries_of f 0 (k + 1) from
    = ap (λ x. entries_of f 0 k from ++ (word_bytes (pos x) ++ word_bytes (pos l))) h
    ∙ ap (λ x. entries_of f 0 k from ++ (word_bytes (pos (from + length (bodies_of f 0 k))) ++ word_bytes (pos x))) g ∙ sym (entries_next f k from) in
    subst (λ s. Laid b at s e r) same (laid_behind p (laid_behind q t))

-- the offset behind a body
pub offset_more : {l : ℕ} (f : ℕ → List ℕ) (k from offset : ℕ) → offset ≡ from + length (bodies_of f 0 k) → l ≡ length (f k)
    → offset + l ≡ from + length (bodies_of f 0 (k + 1))
offset_more f k from offset h g = omega (arith, ap length (bodies_next f k), length-append (bodies_of f 0 k) (f k))
