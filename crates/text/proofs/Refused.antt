-- The line of a refusal is short: `refused_short`.
use Prim.Native.Nat.{ℕ, ◌≤◌, ◌<◌}
use mathlib.Core.List.{◌++◌}
use native.Mathlib.Omega.{arith}
use lib.ListN.{length, length-append}
use Rattle.text.specs.Decimal.{decimal}
use Rattle.text.specs.Refused.{refused_word, newline, refused_line}
use Rattle.text.proofs.Decimal.{decimal_short}

pub refused_short : (m : ℕ) → m < 256 → length (refused_line m) ≤ 12
unfolding refused_line
refused_short m l = omega (arith, length-append (refused_word ++ decimal m) newline, length-append refused_word (decimal m), decimal_short 2 m (omega arith))
