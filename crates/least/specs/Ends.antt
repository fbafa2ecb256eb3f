-- How a walk that the trace's verdict ends is over.
use Rattle.paper.specs.declared.Verdict as Verdict
use Rattle.least.specs.declared.search.End as End

abbrev pub end_of : Verdict.Verdict → End.End
end_of Verdict.TheVariants.Loop = End.TheVariants.Closed
end_of Verdict.TheVariants.Edge = End.TheVariants.Ended
end_of Verdict.TheVariants.Limit = End.TheVariants.Ended
end_of Verdict.TheVariants.Full = End.TheVariants.Ended
