-- The job from its bodies: how long its parts are, that it depends on no body past body n, the parts with one more body at their end, and a list
-- stored over a buffer from its front on.
use Prim.Native.Nat.{ℕ, zero, suc, ◌+◌, ◌*◌, ◌≤◌, ◌<◌}
use native.Mathlib.Omega.{arith}
use mathlib.Core.Path.{◌≡◌, refl, sym, ap, ap₂, ◌∙◌}
use mathlib.Core.List.{List, ◌++◌, append_assoc, append-nil}
use lib.IntN.{pos}
use lib.ListN.{length, take, drop, length-append, length-drop}
use lib.Seq.{take_at, drop_at, sets, sets-eq}
use Rattle.paper.specs.Bytes.{word_bytes}
use Rattle.paper.specs.Job.{contents_end}
use Rattle.assembly.specs.Assembled.{entries_of, bodies_of, contents_of, job_from}
use Rattle.assembly.specs.Written.{over}

-- ---- lengths

-- four bytes an entry
pub entries_length : (f : ℕ → List ℕ) (k m at : ℕ) → length (entries_of f k m at) ≡ 4 * m
unfolding entries_of word_bytes
entries_length f k zero at = refl
entries_length f k (suc m) at = omega (arith, entries_length f (k + 1) m (at + length (f k)))

pub contents_length : (n bias : ℕ) (f : ℕ → List ℕ) → length (contents_of n bias f) ≡ contents_end n
unfolding contents_of contents_end
contents_length n bias f = omega (arith, entries_length f 0 (n + 1) (4 * n + 8))

pub job_length : (n bias : ℕ) (f : ℕ → List ℕ) → length (job_from n bias f) ≡ contents_end n + length (bodies_of f 0 (n + 1))
unfolding job_from
job_length n bias f =
    length-append (contents_of n bias f) (bodies_of f 0 (n + 1)) ∙ ap (λ l. l + length (bodies_of f 0 (n + 1))) (contents_length n bias f)

-- ---- the bodies that count

-- the entries tell the bodies' lengths alone
pub entries_by_length : (f g : ℕ → List ℕ) (k m at : ℕ) → ((j : ℕ) → k ≤ j → j < k + m → length (f j) ≡ length (g j))
    → entries_of f k m at ≡ entries_of g k m at
unfolding entries_of
entries_by_length f g k zero at h = refl
entries_by_length f g k (suc m) at h =
    rw (h k (omega arith) (omega arith), entries_by_length f g (k + 1) m (at + length (g k)) (λ j l u. h j (omega arith) (omega arith)))

pub entries_same : (f g : ℕ → List ℕ) (k m at : ℕ) → ((j : ℕ) → k ≤ j → j < k + m → f j ≡ g j) → entries_of f k m at ≡ entries_of g k m at
entries_same f g k m at h = entries_by_length f g k m at (λ j l u. ap length (h j l u))

pub bodies_same : (f g : ℕ → List ℕ) (k m : ℕ) → ((j : ℕ) → k ≤ j → j < k + m → f j ≡ g j) → bodies_of f k m ≡ bodies_of g k m
unfolding bodies_of
bodies_same f g k zero h = refl
bodies_same f g k (suc m) h =
    ap₂ ◌++◌ (h k (omega arith) (omega arith)) (bodies_same f g (k + 1) m (λ j l u. h j (omega arith) (omega arith)))

-- bodies 0 to n alone
pub job_same : (n bias : ℕ) (f g : ℕ → List ℕ) → ((k : ℕ) → k ≤ n → f k ≡ g k) → job_from n bias f ≡ job_from n bias g
unfolding job_from contents_of
job_same n bias f g h =
    rw (
      entries_same f g 0 (n + 1) (contents_end n) (λ j l u. h j (omega arith)),
      bodies_same f g 0 (n + 1) (λ j l u. h j (omega arith)),
    )

-- ---- one more at the end

pub bodies_snoc : (f : ℕ → List ℕ) (k m : ℕ) → bodies_of f k (suc m) ≡ bodies_of f k m ++ f (k + m)
unfolding bodies_of
bodies_snoc f k zero = let same : k + 0 ≡ k = omega arith in append-nil (f k) ∙ ap f (sym same)
bodies_snoc f k (suc m) =
    let same : k + 1 + m ≡ k + suc m = omega arith in
    ap (λ b. f k ++ b) (bodies_snoc f (k + 1) m ∙ ap (λ j. bodies_of f (k + 1) m ++ f j) same)
    ∙ sym (append_assoc (f k) (bodies_of f (k + 1) m) (f (k + suc m)))

-- the entry for body k + m: that body begins where the m bodies before it end
pub entries_snoc : (f : ℕ → List ℕ) (k m at : ℕ)
    → entries_of f k (suc m) at ≡ entries_of f k m at ++ (word_bytes (pos (at + length (bodies_of f k m))) ++ word_bytes (pos (length (f (k + m)))))
unfolding entries_of bodies_of
entries_snoc f k zero at =
    let here : at + 0 ≡ at = omega arith in
    let same : k + 0 ≡ k = omega arith in
    rw (here, same) (ap (λ e. word_bytes (pos at) ++ e) (append-nil (word_bytes (pos (length (f k))))))
entries_snoc f k (suc m) at =
    let front : List ℕ = word_bytes (pos at) in
    let size : List ℕ = word_bytes (pos (length (f k))) in
    let rest : List ℕ = entries_of f (k + 1) m (at + length (f k)) in
    let here : at + length (f k) + length (bodies_of f (k + 1) m) ≡ at + length (f k ++ bodies_of f (k + 1) m) =
    omega (arith, length-append (f k) (bodies_of f (k + 1) m)) in
    let same : k + 1 + m ≡ k + suc m = omega arith in
    let last : List ℕ = word_bytes (pos (at + length (f k ++ bodies_of f (k + 1) m))) ++ word_bytes (pos (length (f (k + suc m)))) in
    ap (λ e. front ++ (size ++ e))
    (entries_snoc f (k + 1) m (at + length (f k)) ∙ ap₂ (λ a j. rest ++ (word_bytes (pos a) ++ word_bytes (pos (length (f j))))) here same)
    ∙ (ap (λ e. front ++ e) (sym (append_assoc size rest last)) ∙ sym (append_assoc front (size ++ rest) last))

-- ---- stored over a buffer

-- the elements stored one by one from index 0 on
pub sets_over : (s b : List ℕ) → length s ≤ length b → sets b 0 s ≡ over s b
unfolding over
sets_over s b h =
    let none : 0 + length s ≡ length s = omega arith in
    sets-eq s b 0 (omega arith) ∙ ap (λ k. s ++ drop k b) none

-- the list itself in front, what the buffer held behind it, and the buffer's length
module _ (s buffer : List ℕ) where
  pub over_front : take (length s) (over s buffer) ≡ s
  unfolding over
  over_front = take_at s (drop (length s) buffer) (length s) refl

  pub over_behind : drop (length s) (over s buffer) ≡ drop (length s) buffer
  unfolding over
  over_behind = drop_at s (drop (length s) buffer) (length s) refl

  pub over_length : length s ≤ length buffer → length (over s buffer) ≡ length buffer
  unfolding over
  over_length h = omega (arith, length-append s (drop (length s) buffer), length-drop (length s) buffer)
