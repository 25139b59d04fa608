-- The invariant `Summing`: v is the value of the digits passed. At a value that ten times as much may not hold the loop gives up, so no sum wraps.
use Rattle.number_numerals.proofs.ScanLaws.{Summing}
use Rattle.number_numerals.proofs.scans.short_digits.Given as goal

abbrev pub invariant-loop-i : goal.invariant-loop-i
invariant-loop-i l = Summing l.text l.at l.i l.v
