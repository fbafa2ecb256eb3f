-- `termbytes::put_terms` meets its contract: after k turns the terms of the first k monomials stand in the buffer.
use Rattle.termbytes.proofs.TermLists.{TermsPut}
use Rattle.termbytes.proofs.put_terms.Given as goal

abbrev pub invariant-loop-k : goal.invariant-loop-k
invariant-loop-k l = TermsPut l.initial.bytes l.p.cells l.bytes l.at l.k
