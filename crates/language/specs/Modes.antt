-- The modes and the tokens of the code as those of the definitions.
use Rattle.std.specs.Prelude.{ℕ, Option, Some, None}
use Rattle.formula.specs.Grammar.{axis_of}
use Rattle.formula.specs.Reader as Reader
use Rattle.language.specs.declared.Mode as Mode
use Rattle.language.specs.declared.Token as Code
use Rattle.language.specs.Pass.{outside_mode, exponent_next, atom_next, sum_next, power_read, atom_read, digits_read}

abbrev pub mode_number : Mode.Mode → ℕ
mode_number Mode.TheVariants.ExponentNext = exponent_next
mode_number Mode.TheVariants.AtomNext = atom_next
mode_number Mode.TheVariants.SumNext = sum_next
mode_number Mode.TheVariants.PowerRead = power_read
mode_number Mode.TheVariants.AtomRead = atom_read
mode_number (Mode.TheVariants.DigitsRead k) = digits_read k

-- none is outside the language
abbrev pub mode_as : Option Mode.Mode → ℕ
mode_as None = outside_mode
mode_as (Some m) = mode_number m

-- of the byte b, which names the axis of a letter
abbrev pub token_as : ℕ → Code.Token → Reader.Token
token_as b (Code.TheVariants.Digit d) = Reader.digit d
token_as b Code.TheVariants.Letter = Reader.variable (axis_of b)
token_as b Code.TheVariants.Opening = Reader.opening
token_as b Code.TheVariants.Closing = Reader.closing
token_as b Code.TheVariants.Star = Reader.star
token_as b Code.TheVariants.Plus = Reader.plus_sign
token_as b Code.TheVariants.Minus = Reader.minus_sign
token_as b Code.TheVariants.Caret = Reader.caret
token_as b Code.TheVariants.Foreign = Reader.foreign
