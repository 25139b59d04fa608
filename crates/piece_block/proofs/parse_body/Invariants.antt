-- The invariant: the definition with all its turns is the definition from `q` with those left, the last label and the instructions written so far;
-- instructions and turns left are together no more than the turns, so the count does not overflow.
use mathlib.Core.Path.{◌≡◌}
use mathlib.Core.List.{[]}
use Prim.Native.Nat.{◌+◌, ◌≤◌}
use lib.ListN.{length}
use Rattle.grammar.specs.Body.{parse_body}
use Rattle.lexer.specs.Reads.{Leads, reach}
use Rattle.inst_operands.specs.Rich.{richly}
use Rattle.piece_block.proofs.parse_body.Given as goal

abbrev pub invariant-loop-left : goal.invariant-loop-left
invariant-loop-left l =
    (l.n + l._left ≤ 16777217) × Leads (parse_body 16777217 l.counter 0 0 0 []) 0 [] (richly l.text (reach (parse_body l._left l.c l.label l.n l.over) l.text l.initial.q)) l.text l.initial.q l.initial.q l.initial.words l.q l.words × (length l.words ≡ length l.initial.words)
