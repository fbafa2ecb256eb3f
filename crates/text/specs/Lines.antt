-- How long a line of the listing may be.
use Rattle.std.specs.Prelude.{ℕ}

-- a place's line in four axes: four coordinates, three masks and a point of four numbers, each with its blank or the line's end
abbrev pub line_limit : ℕ
line_limit = 239
