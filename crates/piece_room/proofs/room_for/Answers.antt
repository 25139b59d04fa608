-- The three tests are those of the definition, in its order, without a sum that wraps.
use mathlib.Core.Path.{sym}
use native.Mathlib.Omega.{arith}
use Rattle.piece_room.proofs.Judge.{no_words, no_number, no_entry, fits}
use Rattle.piece_room.proofs.room_for.Goals as goal

pub returns-then-lent-word : goal.returns-then-lent-word
returns-then-lent-word c = sym (no_words _ _ _ _ _ (omega arith))

pub returns-then-lent-word-2 : goal.returns-then-lent-word-2
returns-then-lent-word-2 c = sym (no_words _ _ _ _ _ (omega arith))

pub returns-then-word-n-ge-HALF : goal.returns-then-word-n-ge-HALF
returns-then-word-n-ge-HALF c = sym (no_number _ _ _ _ _ (omega arith) (omega arith))

pub returns-then-lent-number : goal.returns-then-lent-number
returns-then-lent-number c = sym (no_entry _ _ _ _ _ (omega arith) (omega arith) (omega arith))

pub returns : goal.returns
returns c = sym (fits _ _ _ _ _ (omega arith) (omega arith) (omega arith))
