-- The invariant: the first i pieces are kept, they end at pos, and no word that reaches past pos ends before w; so each test decides piece i.
use Rattle.reread_kept.proofs.Front.{Going}
use Rattle.reread_kept.proofs.front_count.Given as goal

abbrev pub invariant-loop-i : goal.invariant-loop-i
invariant-loop-i l = Going l.text l.entries l.directory l.i l.pos l.w
