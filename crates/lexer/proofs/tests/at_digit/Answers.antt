-- The class of the byte there; at the text's end there is none.
use mathlib.Core.Path.{sym, ap, ◌∙◌}
use Rattle.program.specs.Class.{class_of}
use Rattle.lexer.proofs.TestLaws.{digit_in, digit_out}
use Rattle.lexer.proofs.tests.at_digit.Goals as goal

pub returns-in-Some : goal.returns-in-Some
returns-in-Some c =
    let h = c.in-Some.ensures.lookup.3 in
    sym (digit_in _ _ _ h.0 (c.class.ensures ∙ ap class_of (h.1 0)))

pub returns-in-None : goal.returns-in-None
returns-in-None c = sym (digit_out _ _ c.in-None.ensures.lookup.3)
