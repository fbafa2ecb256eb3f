-- `boxes::box_ok` meets its contract: the box with the paper's two limits.
use Rattle.boxes.proofs.BoxTests.{paper_box}
use Rattle.boxes.proofs.box_ok.Goals as goal

pub returns : goal.returns
returns c = paper_box c.args.n c.args.b.now c.box_between.ensures
