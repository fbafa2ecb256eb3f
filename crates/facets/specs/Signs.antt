-- A sign as the code holds it: how a number compares with 0.
use Rattle.std.specs.declared.cmp.Ordering.{Ordering}
use Rattle.std.specs.declared.cmp.Ordering.TheVariants.{Less, Equal, Greater}
use Rattle.exact.specs.Sign.{Sign, negative, nought, positive}

unfoldable pub sign_as : Ordering → Sign
sign_as Less = negative
sign_as Equal = nought
sign_as Greater = positive
