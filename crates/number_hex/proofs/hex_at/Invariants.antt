-- The invariant `Folding`: scan and fold from i on, in the state so far, end as they do from the start.
use Rattle.grammar.specs.Numbers.{hex_step}
use Rattle.number_integers.specs.Hex.{hex_held, hex_folded}
use Rattle.lexer.proofs.Folding.{Folding}
use Rattle.number_hex.proofs.hex_at.Given as goal

abbrev pub invariant-loop-i : goal.invariant-loop-i
invariant-loop-i l = Folding hex_step hex_folded l.text l.fn.c.at (hex_held 0 0) l.i 0 l.h
