-- The refusals: the paper's number of each, and what the code's answer, a `Result`, says as the paper's.
use Rattle.std.specs.Prelude.{ℕ, ◌≡◌, Result, Ok, Err}
use Rattle.paper.specs.Operations.{Answer, refused, answered}
use Rattle.paper.specs.declared.Refusal as Refusal

unfoldable pub refusal_number : Refusal.Refusal → ℕ
refusal_number Refusal.TheVariants.Short = 1
refusal_number Refusal.TheVariants.Version = 2
refusal_number Refusal.TheVariants.Dimension = 3
refusal_number Refusal.TheVariants.EntryCount = 4
refusal_number Refusal.TheVariants.Contents = 5
refusal_number Refusal.TheVariants.Bounds = 6
refusal_number Refusal.TheVariants.Terms = 7
refusal_number Refusal.TheVariants.Start = 8
refusal_number Refusal.TheVariants.Outside = 9
refusal_number Refusal.TheVariants.Unreadable = 10
refusal_number Refusal.TheVariants.NotCrossed = 11
refusal_number Refusal.TheVariants.Index = 12
refusal_number Refusal.TheVariants.Place = 13
refusal_number Refusal.TheVariants.Language = 14
refusal_number Refusal.TheVariants.Formula = 15
refusal_number Refusal.TheVariants.Room = 16
refusal_number Refusal.TheVariants.SmallCutter = 17
refusal_number Refusal.TheVariants.NoNewLoop = 18

-- the paper's answer: the refusal's number, or the value read as the paper has it
unfoldable pub answer_by : {T A : Type 0} → (T → A) → Result T Refusal.Refusal → Answer A
answer_by f (Ok x) = answered (f x)
answer_by f (Err e) = refused (refusal_number e)

-- what a function of the code says of a refusal k, 0 for none, of which it is the test: it refuses exactly if k is not 0, with that number, and
-- otherwise P holds of what it answers
abbrev pub RefusedOr : {T : Type 0} → ℕ → (T → Type 0) → Result T Refusal.Refusal → Type 0
RefusedOr k P (Ok x) = (k ≡ 0) × P x
RefusedOr k P (Err e) = refusal_number e ≡ k
