-- Each turn of the loop shows the search the rule that it wants, keeps what `Passes` says of a search, and makes its measure less; a search that wants
-- no rule tells the ruling.
use Rattle.channel_table.proofs.Passes.{Good, measure}
use Rattle.channel_table.proofs.judged.Given as goal

abbrev pub invariant-loop-s : goal.invariant-loop-s
invariant-loop-s l = Good l.rules l.asked l.fn.fired l.s

abbrev pub decreases-loop-s : goal.decreases-loop-s
decreases-loop-s l = measure l.s
