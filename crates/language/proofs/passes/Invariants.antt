-- `language::passes` meets its contract. The invariant: from the mode and the depth that the code has, the pass over the bytes that are left answers
-- as the reader does on the whole text.
use Rattle.language.specs.Modes.{mode_number}
use Rattle.language.proofs.PassLaws.{PassedTo}
use Rattle.language.proofs.passes.Given as goal

abbrev pub invariant-loop-b : goal.invariant-loop-b
invariant-loop-b l = PassedTo l.limit l.n l.text (mode_number l.mode) l.depth l.b-index
