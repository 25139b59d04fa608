-- Inside the text there is a byte to compare; past its end there is none.
use mathlib.Core.Path.{sym, ◌∙◌, ap}
use native.Mathlib.Omega.{arith}
use lib.Dec.{eqb}
use Rattle.lexer.proofs.Scan.{byte_in, byte_out}
use Rattle.lexer.proofs.at_byte.Goals as goal

pub returns-in-Some : goal.returns-in-Some
returns-in-Some c =
    let h = c.in-Some.ensures.lookup.3 in
    sym (byte_in c.args.text.now c.args.at c.args.b (omega arith) h.0 ∙ ap (λ x. eqb x c.args.b) (sym (h.1 0)))

pub returns-in-None : goal.returns-in-None
returns-in-None c = sym (byte_out c.args.text.now c.args.at c.args.b (omega arith) c.in-None.ensures.lookup.3)
