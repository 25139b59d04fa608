-- The invariant: all the parameters lead to those with `left` turns to go, behind the n counted so far and with two words paid for.
use mathlib.Core.Path.{◌≡◌}
use mathlib.Core.List.{[]}
use lib.ListN.{length}
use Rattle.grammar.specs.Body.{parse_params}
use Rattle.lexer.specs.Reads.{Leads, reach}
use Rattle.piece_head.proofs.HeadLaws.{paying}
use Rattle.piece_head.proofs.parse_param_list.Given as goal

abbrev pub invariant-loop-left : goal.invariant-loop-left
invariant-loop-left l = Leads (parse_params 65536 0 1 []) 2 [] (paying 2 (reach (parse_params l._left l.c l.n) l.text l.initial.q)) l.text l.initial.q l.initial.q l.initial.words l.q l.words × (length l.words ≡ length l.initial.words)
