-- Inside the text there is a byte to ask of; past its end there is none.
use mathlib.Core.Path.{refl, ap, ◌∙◌}
use lib.ListN.{drop_of_length-le}
use Rattle.program.specs.Lists.{drop_next}
use Rattle.grammar.specs.Lexer.{cstring_step}
use Rattle.lexer_names.specs.Names.{step_at}
use Rattle.lexer_names.proofs.skips.step_at.Goals as goal

pub returns-in-Some : goal.returns-in-Some
unfolding step_at
returns-in-Some c =
    let h = c.in-Some.ensures.lookup.3 in
    c.cstring_step.ensures ∙ rw (drop_next c.args.text.now c.args.at h.0) (ap (cstring_step c.args.q) (h.1 0))

pub returns-in-None : goal.returns-in-None
unfolding step_at
returns-in-None c = rw (drop_of_length-le c.args.text.now c.in-None.ensures.lookup.3) refl
