-- To store behind the end changes nothing.
use mathlib.Core.Path.{sym}
use lib.Seq.{set_out}
use Rattle.node_words.proofs.put.Goals as goal

pub returns : goal.returns
returns c = (c.bump-2.ensures, sym (set_out _ _ _ c.if-w-words.false))
