-- To store behind the end changes nothing, and a sum that could wrap is behind it.
use mathlib.Core.Path.{sym}
use native.Mathlib.Omega.{arith}
use lib.Seq.{set_out}
use Rattle.node_words.proofs.put_at.Goals as goal

pub returns-else-k-words : goal.returns-else-k-words
returns-else-k-words c = sym (set_out _ _ _ (omega arith))

pub returns-else-w-words : goal.returns-else-w-words
returns-else-w-words c = sym (set_out _ _ _ (omega arith))
