-- The tests of `cstring_step` in their order, each by the class of the byte.
use borrow.Author.Tests.{eq-eqb, ne_eqb, lt-ltb, le-ltb}
use Rattle.program.specs.Class.{is_hex}
use Rattle.grammar.specs.Lexer.{cstring_step}
use Rattle.lexer_names.proofs.skips.cstring_step.Goals as goal

pub returns-then-b-eq34 : goal.returns-then-b-eq34
unfolding cstring_step
returns-then-b-eq34 c = rw (eq-eqb _ _ c.if-q-eq0.true, eq-eqb _ _ c.if-b-eq34.true)

pub returns-then-b-eq92 : goal.returns-then-b-eq92
unfolding cstring_step
returns-then-b-eq92 c =
    rw
    (eq-eqb _ _ c.if-q-eq0.true, ne_eqb _ _ c.if-b-eq34.false, eq-eqb _ _ c.if-b-eq92.true)

pub returns-then-q-eq0 : goal.returns-then-q-eq0
unfolding cstring_step
returns-then-q-eq0 c =
    rw
    (eq-eqb _ _ c.if-q-eq0.true, ne_eqb _ _ c.if-b-eq34.false, ne_eqb _ _ c.if-b-eq92.false)

pub returns-then-class-lt-HEX : goal.returns-then-class-lt-HEX
unfolding cstring_step is_hex
returns-then-class-lt-HEX c =
    rw
    (ne_eqb _ _ c.if-q-eq0.false, eq-eqb _ _ c.if-q-eq1.true, ← c.class.ensures, lt-ltb _ _ c.if-class-lt-HEX.true)

pub returns-then-q-eq1 : goal.returns-then-q-eq1
unfolding cstring_step is_hex
returns-then-q-eq1 c =
    rw
    (ne_eqb _ _ c.if-q-eq0.false, eq-eqb _ _ c.if-q-eq1.true, ← c.class.ensures, le-ltb _ _ c.if-class-lt-HEX.false)

pub returns-then-class-lt-HEX-2 : goal.returns-then-class-lt-HEX-2
unfolding cstring_step is_hex
returns-then-class-lt-HEX-2 c =
    rw
    (ne_eqb _ _ c.if-q-eq0.false, ne_eqb _ _ c.if-q-eq1.false, ← c.class-2.ensures, lt-ltb _ _ c.if-class-lt-HEX-2.true)

pub returns : goal.returns
unfolding cstring_step is_hex
returns c =
    rw
    (ne_eqb _ _ c.if-q-eq0.false, ne_eqb _ _ c.if-q-eq1.false, ← c.class-2.ensures, le-ltb _ _ c.if-class-lt-HEX-2.false)
