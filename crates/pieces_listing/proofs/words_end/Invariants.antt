-- Where the words still to be counted end, from where the code has come to, is where all end.
use mathlib.Core.Path.{◌≡◌}
use Prim.Native.Nat.{◌-◌, ◌*◌}
use lib.ListN.{drop}
use Rattle.records.specs.Limits.{entry_words}
use Rattle.pieces_listing.specs.Lines.{words_end}
use Rattle.pieces_listing.proofs.words_end.Given as goal

abbrev pub invariant-loop-i : goal.invariant-loop-i
invariant-loop-i l = words_end l.end (l.n - l.i) (drop (l.i * entry_words) l.directory) ≡ words_end 0 l.n l.directory
