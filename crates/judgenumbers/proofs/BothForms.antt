-- The structs of both forms of Judge agree: whoever reads the refusal and the kind off the one has the other.
use mathlib.Core.Path.{◌≡◌, refl, sym, ap, ◌∙◌}
use mathlib.Core.List.{List}
use Prim.Native.Nat.{ℕ}
use Rattle.paper.specs.Operations.{Answer, refused, answered, judged}
use Rattle.grounds.specs.Ground.{Ground, zero_determinant, vertex_against, all_with, crossed_by}
use Rattle.grounds.specs.Judged.{judged_by, plainly}
use Rattle.grounds.proofs.Judged.{both_agree}
use Rattle.judgenumbers.specs.Numbers.{judge_numbers, without_powers, with_powers, ground_numbers, plain_numbers}

pub kind_tells : (a : Answer Ground) → judge_numbers (plainly a) ≡ plain_numbers (ground_numbers a)
unfolding judge_numbers without_powers with_powers ground_numbers plain_numbers plainly crossed_by
kind_tells (refused k) = refl
kind_tells (answered zero_determinant) = refl
kind_tells (answered (vertex_against i j)) = refl
kind_tells (answered (all_with js)) = refl

-- from the bytes of a job and a place
pub both_numbers_agree : (s p : List ℕ) → judge_numbers (judged s p) ≡ plain_numbers (ground_numbers (judged_by s p))
both_numbers_agree s p = ap judge_numbers (sym (both_agree s p)) ∙ kind_tells (judged_by s p)
