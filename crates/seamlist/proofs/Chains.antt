-- The chains of masks of two, three and four axes, in order: 3, 12 and 60.
use mathlib.Core.Path.{◌≡◌, refl}
use mathlib.Core.List.{[], ◌∷◌}
use lib.ListN.{length}
use Rattle.exact.specs.Crossed.{count_from}
use Rattle.curves.specs.Grid.{holds, chain}
use Rattle.curves.specs.Box.{keep, pairs, lists_under, chains}

pub chains_2 : chains 2 ≡
    (1 ∷ []) ∷ (2 ∷ []) ∷ (3 ∷ []) ∷ []
unfolding chains keep pairs lists_under count_from chain holds
chains_2 = refl

pub chains_3 : chains 3 ≡
    (1 ∷ 3 ∷ []) ∷ (1 ∷ 5 ∷ []) ∷ (1 ∷ 7 ∷ []) ∷ (2 ∷ 3 ∷ []) ∷ (2 ∷ 6 ∷ []) ∷ (2 ∷ 7 ∷ []) ∷ (3 ∷ 7 ∷ []) ∷ (4 ∷ 5 ∷ []) ∷ (4 ∷ 6 ∷ []) ∷
    (4 ∷ 7 ∷ []) ∷ (5 ∷ 7 ∷ []) ∷ (6 ∷ 7 ∷ []) ∷ []
unfolding chains keep pairs lists_under count_from chain holds
chains_3 = refl

pub chains_4_count : length (chains 4) ≡ 60
unfolding chains keep pairs lists_under count_from chain holds
chains_4_count = refl
