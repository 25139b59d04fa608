-- Where both places are one, the words from there on are pasted where they were taken: that is the list itself.
use mathlib.Core.Path.{◌≡◌, sym}
use Prim.Native.Nat.{◌+◌}
use native.Mathlib.Omega.{arith}
use lib.ListN.{take-append-drop}
use Rattle.std.proofs.Common.{take-add}
use Rattle.piece_directory.proofs.arrays.move_words.Goals as goal

pub returns-else-from-to : goal.returns-else-from-to
returns-else-from-to c =
    let e : c.args.from ≡ c.args.to = omega arith in
    rw e (sym (rw (← take-add c.args.to c.args.n c.args.words.now) (take-append-drop (c.args.to + c.args.n) c.args.words.now)))
