-- Why a walk ends, as the code says it.
use Rattle.paper.specs.declared.Refusal as Refusal
use Rattle.paper.specs.declared.Stop as Stop
use Rattle.paper.specs.declared.Verdict as Verdict

-- what Judge, Point and Step call it where a facet is at fault
abbrev pub refusal_of : Stop.Stop → Refusal.Refusal
refusal_of Stop.TheVariants.Edge = Refusal.TheVariants.Outside
refusal_of Stop.TheVariants.Limit = Refusal.TheVariants.Unreadable

-- the verdict of a walk that a step ends
abbrev pub verdict_of : Stop.Stop → Verdict.Verdict
verdict_of Stop.TheVariants.Edge = Verdict.TheVariants.Edge
verdict_of Stop.TheVariants.Limit = Verdict.TheVariants.Limit
