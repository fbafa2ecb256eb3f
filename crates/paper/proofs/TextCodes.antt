-- A text as the list of its ASCII codes, so that what the program prints can be written as text.
use Prim.Native.Nat.{ℕ}
use Prim.Native.Char.{code}
use Prim.Native.String.{String, [] as empty, ◌∷◌ as ◌followed◌}
use mathlib.Core.List.{List, [], ◌∷◌, ◌++◌}

unfoldable pub codes : String → List ℕ
codes empty = []
codes (c followed t) = code c ∷ codes t

-- lines of text, each with a newline at its end
unfoldable pub lines : List String → List ℕ
unfolding codes
lines [] = []
lines (l ∷ ls) = codes l ++ (10 ∷ lines ls)
