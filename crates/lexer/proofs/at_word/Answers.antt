-- The keyword is the word at `at` if that begins with it and no byte of a word follows.
use mathlib.Core.Path.{sym, ap, ◌∙◌}
use native.Mathlib.Omega.{arith}
use lib.ListN.{length, drop, length-drop}
use Rattle.std.proofs.lemmas.List.{get_or-drop}
use Rattle.program.specs.Class.{class_of}
use Rattle.lexer.proofs.Scan.{not_begun, begun_in, begun_out}
use Rattle.lexer.proofs.TestLaws.{some_start}
use Rattle.lexer.proofs.at_word.Goals as goal

pub returns-then-not-starts_at : goal.returns-then-not-starts_at
returns-then-not-starts_at c = sym (not_begun _ _ (sym c.starts_at.ensures ∙ c.if-not-starts_at.true))

pub overflow_add-at : goal.overflow_add-at
overflow_add-at c =
    omega (
      arith,
      some_start c.args.kw.now (drop c.args.at c.args.text.now) (sym c.starts_at.ensures ∙ c.if-not-starts_at.false),
      length-drop c.args.at c.args.text.now,
    )

pub returns-in-Some : goal.returns-in-Some
returns-in-Some c =
    let h = c.in-Some.ensures.lookup.3 in
    let e = get_or-drop c.args.at c.args.text.now (length c.args.kw.now) 0 in
    sym
    (begun_in c.args.kw.now (drop c.args.at c.args.text.now) _ (sym c.starts_at.ensures ∙ c.if-not-starts_at.false) (omega (arith, h.0, length-drop c.args.at c.args.text.now)) (c.class.ensures ∙ ap class_of (h.1 0 ∙ sym e)))

pub returns-in-None : goal.returns-in-None
returns-in-None c =
    sym
    (begun_out c.args.kw.now (drop c.args.at c.args.text.now) (sym c.starts_at.ensures ∙ c.if-not-starts_at.false) (omega (arith, c.in-None.ensures.lookup.3, length-drop c.args.at c.args.text.now)))
