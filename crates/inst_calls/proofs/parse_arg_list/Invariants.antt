-- The invariant: the definition with all its turns is the definition from `q` with those left and the arguments written so far; an argument and
-- its comma are one turn.
use Rattle.inst_calls.proofs.CallLaws.{args_of}
use Rattle.lexer.specs.Reads.{Leads, reach}
use lib.ListN.{length}
use mathlib.Core.List.{[]}
use mathlib.Core.Path.{◌≡◌}
use Rattle.inst_calls.proofs.parse_arg_list.Given as goal

abbrev pub invariant-loop-left : goal.invariant-loop-left
invariant-loop-left l = Leads (args_of 65536 l.n []) 0 [] (reach (args_of l._left l.m) l.text l.initial.q) l.text l.initial.q l.initial.q l.initial.words l.q l.words × (length l.words ≡ length l.initial.words)
