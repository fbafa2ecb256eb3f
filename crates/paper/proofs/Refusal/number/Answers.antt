-- `paper::Refusal::number` meets its contract: the numbers follow one another from 1 on.
use Rattle.std.proofs.Common.{◌≡◌, ◌+◌, refl}
use denote.Enum.Declared.{tag_of}
use Rattle.paper.specs.contracts.Refusal.{the_type}
use Rattle.paper.specs.declared.Refusal.{Refusal}
use Rattle.paper.specs.declared.Refusal.TheVariants.{Short, Version, Dimension, EntryCount, Contents, Bounds, Terms, Start, Outside, Unreadable, NotCrossed, Index, Place, Language, Formula, Room, SmallCutter, NoNewLoop}
use Rattle.paper.specs.Refusals.{refusal_number}
use Rattle.paper.proofs.Refusal.number.Goals as goal

tag_number : (e : Refusal) → tag_of the_type e + 1 ≡ refusal_number e
unfolding refusal_number
tag_number Short = refl
tag_number Version = refl
tag_number Dimension = refl
tag_number EntryCount = refl
tag_number Contents = refl
tag_number Bounds = refl
tag_number Terms = refl
tag_number Start = refl
tag_number Outside = refl
tag_number Unreadable = refl
tag_number NotCrossed = refl
tag_number Index = refl
tag_number Place = refl
tag_number Language = refl
tag_number Formula = refl
tag_number Room = refl
tag_number SmallCutter = refl
tag_number NoNewLoop = refl

pub returns : goal.returns
returns c = tag_number c.args.self
