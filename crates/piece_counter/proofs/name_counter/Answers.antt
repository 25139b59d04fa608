-- A part of the text that ends behind it is the part up to its end.
use mathlib.Core.Path.{sym}
use Rattle.piece_counter.proofs.CounterLaws.{named_as}
use Rattle.lexer_keywords.proofs.Ranks.{part_is, part_none}
use Rattle.piece_counter.proofs.name_counter.Goals as goal

pub returns-then-from-end : goal.returns-then-from-end
returns-then-from-end c =
    named_as _ _ (sym (part_is _ _ _ c.min-end.result c.min-end.ensures c.if-from-end.true)) (c.named_raw.ensures _)

pub returns : goal.returns
returns c =
    named_as _ _ (part_none _ _ _ c.min-end.result c.min-end.ensures c.if-from-end.false) (c.named_raw-2.ensures _)
