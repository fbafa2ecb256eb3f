-- `laying::lay_body` meets its contract: after k turns the first k bytes of the body are laid.
use Rattle.std.specs.Prelude.{◌≡◌, take}
use Rattle.std.proofs.lemmas.List.Edits.{sets}
use Rattle.laying.proofs.lay_body.Given as goal

abbrev pub invariant-loop-k : goal.invariant-loop-k
invariant-loop-k l = l.buffer ≡ sets l.initial.buffer l.at (take l.k l.body)
