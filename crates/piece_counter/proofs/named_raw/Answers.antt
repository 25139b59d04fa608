-- A name in quotes begins with a quote, which is no digit.
use mathlib.Core.Path.{sym, ap, ◌∙◌}
use Rattle.std.specs.Prelude.{is_some}
use Rattle.piece_counter.proofs.CounterLaws.{named_number, named_other, takes_near}
use Rattle.piece_counter.proofs.named_raw.Goals as goal

pub returns-in-Some : goal.returns-in-Some
returns-in-Some c =
    λ text. named_number _ _ _ (sym c.number_in.ensures.all ∙ ap is_some c.in-Some.is)
    (takes_near _ _ (c.number_in.ensures.worth _ c.in-Some.is) (c.take.ensures text))

pub returns-in-None : goal.returns-in-None
returns-in-None c = λ text. named_other _ _ _ (sym c.number_in.ensures.all ∙ ap is_some c.in-None.is)
