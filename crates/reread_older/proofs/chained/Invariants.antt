-- The invariant: question 22 of all entries is what it says of those from i on; each test is one of its five.
use Rattle.reread_older.proofs.Chain.{Asks}
use Rattle.reread_older.proofs.chained.Given as goal

abbrev pub invariant-loop-i : goal.invariant-loop-i
invariant-loop-i l = Asks l.text_len l.older.words l.entries l.directory l.i l.pos l.word
