use mathlib.Core.Path.{◌≡◌, sym, ap, ◌∙◌}
use Prim.Native.Nat.{ℕ, ◌+◌}
use native.Mathlib.Omega.{arith}
use lib.ListN.{drop}
use Rattle.program.specs.Prog.{lead_word}
use Rattle.grammar.specs.Lexer.{starts_with}
use Rattle.lexer.proofs.TestLaws.{start_short, start_other, start_ends, start_more, start_end, start_out}
use Rattle.lexer.proofs.tests.starts_at.Goals as goal

pub returns-then-text-at : goal.returns-then-text-at
returns-then-text-at c = c.is_empty.ensures ∙ sym (start_out c.args.kw.now c.args.text.now c.args.at (omega (arith, c.if-text-at.true)))

pub returns-then-text-at-2 : goal.returns-then-text-at-2
returns-then-text-at-2 c =
    sym
    (c.loop-j.invariant ∙ start_short c.args.kw.now c.args.text.now c.loop-j.j (c.args.at + c.loop-j.j) c.loop-j-test.true (omega (arith, c.if-text-at-2.true, c.if-text-at.false)))

pub returns-then-b-kw : goal.returns-then-b-kw
returns-then-b-kw c =
    sym
    (c.loop-j.invariant ∙ start_other c.args.kw.now c.args.text.now c.loop-j.j (c.args.at + c.loop-j.j) c.loop-j-test.true (omega (arith, c.if-text-at-2.false, c.if-text-at.false)) c.if-b-kw.true)

pub returns-then-class-gt-WORD : goal.returns-then-class-gt-WORD
returns-then-class-gt-WORD c =
    sym
    (c.loop-j.invariant ∙ start_ends c.args.kw.now c.args.text.now c.loop-j.j (c.args.at + c.loop-j.j) c.loop-j-test.true (omega (arith, c.if-text-at-2.false, c.if-text-at.false)) _ c.class.ensures c.if-class-gt-WORD.true)

pub loop-j-preserved : goal.loop-j-preserved
loop-j-preserved c =
    let next : c.args.at + c.loop-j.j + 1 ≡ c.args.at + (c.loop-j.j + 1) = omega arith in
    c.loop-j.invariant ∙ start_more c.args.kw.now c.args.text.now c.loop-j.j (c.args.at + c.loop-j.j) c.loop-j-test.true (omega (arith, c.if-text-at-2.false, c.if-text-at.false)) _ c.class.ensures c.if-class-gt-WORD.false c.if-b-kw.false
    ∙ ap (λ (i : ℕ). starts_with (drop (c.loop-j.j + 1) c.args.kw.now) (lead_word (drop i c.args.text.now))) next

pub returns : goal.returns
returns c = sym (c.loop-j.invariant ∙ start_end _ _ _ c.loop-j-test.false)
