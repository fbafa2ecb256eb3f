-- A job is its contents with its bodies behind them: there is room for the bodies once the contents are laid, and both are laid as one.
use Prim.Native.Nat.{ℕ, ◌+◌, ◌≤◌}
use native.Mathlib.Omega.{arith}
use mathlib.Core.Path.{◌≡◌, refl}
use mathlib.Core.List.{List}
use lib.ListN.{length, length-append}
use lib.Seq.{sets, length-sets}
use Rattle.assembly.specs.Assembled.{bodies_of, contents_of, job_from}
use Rattle.laying.specs.Laid.{Laid}
use Rattle.laying.proofs.Behind.{laid_behind}

pub bodies_room : (n bias : ℕ) (f : ℕ → List ℕ) (b : List ℕ) → length (job_from n bias f) ≤ length b
    → 0 + length (contents_of n bias f) + length (bodies_of f 0 (n + 1)) ≤ length (sets b 0 (contents_of n bias f))
unfolding job_from
bodies_room n bias f b room = omega (arith, room, length-append (contents_of n bias f) (bodies_of f 0 (n + 1)), length-sets b 0 (contents_of n bias f))

pub job_laid : (n bias : ℕ) (f : ℕ → List ℕ) (b c : List ℕ) (r : ℕ)
    → Laid (sets b 0 (contents_of n bias f)) (0 + length (contents_of n bias f)) (bodies_of f 0 (n + 1)) c r → Laid b 0 (job_from n bias f) c r
unfolding job_from
job_laid n bias f b c r behind =
    let first : Laid b 0 (contents_of n bias f) (sets b 0 (contents_of n bias f)) (0 + length (contents_of n bias f)) = record { position = refl; buffer = refl } in
    laid_behind first behind

-- a list by another name
pub laid_in : {b c d us : List ℕ} {at r : ℕ} → d ≡ c → Laid b at us c r → Laid b at us d r
laid_in {b} {c} {d} {us} {at} {r} e p = rw e p
