-- The answer of the code, as the request's numbers.
use Rattle.std.specs.Prelude.{Result, Ok, Err}
use Rattle.paper.specs.Refusals.{refusal_number}
use Rattle.paper.specs.declared.Refusal as Refusal
use Rattle.formula.specs.Read.{Handed, zero_bytes, byte_count}
use Rattle.formula.specs.declared.TermList as TermList

-- a refusal hands nothing back
unfoldable pub handed_as : Result TermList.TermList Refusal.Refusal → Handed
handed_as (Ok t) = record { refusal = 0; count = t.count; bytes = t.bytes }
handed_as (Err e) = record { refusal = refusal_number e; count = 0; bytes = zero_bytes byte_count }
