-- What `?` hands on of a call that refused.
use Rattle.std.proofs.Common.{◌≡◌, ℕ, Result, Ok, Err, ap, ◌∙◌}
use Rattle.std.specs.Result.{IsErrAnd}
use Rattle.paper.specs.Refusals.{refusal_number, RefusedOr}
use Rattle.paper.specs.declared.Refusal.{Refusal}

-- the same refusal, which is due here too
pub passed_on : {T : Type 0} {k : ℕ} (P : T → Type 0) (e : Refusal) (r : Result T Refusal) → IsErrAnd r (λ d. d ≡ e) → refusal_number e ≡ k → RefusedOr k P r
passed_on P e (Ok x) is h = absurd is
passed_on P e (Err d) is h = ap refusal_number is ∙ h
