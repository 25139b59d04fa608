-- A part of the text that ends behind it is the part up to its end.
use mathlib.Core.Path.{refl, ap, ◌∙◌}
use Rattle.lexer_keywords.proofs.Ranks.{part_got}
use Rattle.lexer_keywords.proofs.part.Goals as goal

pub returns : goal.returns
returns c =
    ap (λ x. x.now) c.unwrap_or.ensures ∙ part_got c.args.text.now c.args.from c.args.to c.min-end.result c.get.result _ refl c.min-end.ensures c.get.ensures.lookup
