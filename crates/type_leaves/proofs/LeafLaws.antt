-- The laws of what holds no other: a word begins with its first byte, and no two words stand at one place.
-- Assumes nothing.
use mathlib.Core.Path.{◌≡◌, refl, sym, ap, ◌∙◌, subst}
use mathlib.Core.List.{List, [], ◌∷◌}
use mathlib.Core.Bool.{Bool, true, false, ◌&&◌}
use Prim.Native.Nat.{ℕ}
use lib.ListN.{drop}
use lib.Dec.{ltb, eqb}
use borrow.Author.Tests.{eqb-true}
use Rattle.program.specs.Bytes.{bytes}
use Rattle.program.specs.Class.{is_word}
use Rattle.program.specs.Prog.{Prog, ret, byte_at, lead_word}
use Rattle.records.specs.Words.{header, node}
use Rattle.grammar.specs.Lexer.{is_byte, same_word, skip_parens}
use Rattle.grammar.specs.Types.{opt_addrspace}
use Rattle.lexer.specs.Step.{looks_p, word_p}
use Rattle.lexer.specs.Reads.{Leads, made, same, Gives}
use Rattle.lexer.specs.Parsed.{Parsed, Ok, Err}
use Rattle.lexer.proofs.Laws.{true_false, same_word_lem, g_done, g_word_no, done}

-- ---- where no `a` stands, no `addrspace` does
no_a : (s : List ℕ) → is_byte 97 (byte_at s) ≡ false → same_word (lead_word s) (bytes "addrspace") ≡ false
unfolding is_byte byte_at lead_word same_word
no_a [] e = refl
no_a (x ∷ s) e = go (is_word x) refl
  where
    go : (b : Bool) → is_word x ≡ b → same_word (lead_word (x ∷ s)) (bytes "addrspace") ≡ false
    go true h = rw (lead_word, h, e)
    go false h = rw (lead_word, h)

not_word : (text : List ℕ) (p : Parsed) → looks_p text p 97 ≡ false → word_p text p (bytes "addrspace") ≡ false
not_word text (Ok c) e = no_a (drop c.at text) e
not_word text (Err r) e = refl

pub not_addrspace : {text : List ℕ} {p : Parsed} {r : Bool} → r ≡ looks_p text p 97 → r ≡ false → Gives opt_addrspace tt text p p
unfolding opt_addrspace
not_addrspace {text} {p} e y = g_word_no (bytes "addrspace") skip_parens refl (not_word text p (sym e ∙ y)) g_done

-- the same answer, made anew
pub anew_is : {A : Type 0} {f : Prog A} {a : A} {text : List ℕ} {p q r : Parsed} → r ≡ q → Gives f a text p q → Gives f a text p r
anew_is {A} {f} {a} {text} {p} e h = subst (λ (z : Parsed). Gives f a text p z) (sym e) h

-- the words that are given stand there
pub done_as : {c : ℕ} {mid ws text : List ℕ} {p0 p : Parsed} {w : List ℕ} → ws ≡ mid → Leads (ret ws) c mid (made same text p0) text p0 p w p w
done_as {c} {mid} {ws} {text} {p0} {p} {w} e = subst (λ (z : List ℕ). Leads (ret z) c mid (made same text p0) text p0 p w p w) (sym e) done

pub headed : (h kind x : ℕ) → h ≡ header kind 0 0 2 → node kind 0 0 (x ∷ []) ≡ h ∷ x ∷ []
unfolding node
headed h kind x e = ap (λ (y : ℕ). y ∷ x ∷ []) (sym e)

-- ---- which words cannot stand
-- two words do not stand at one place
pub word_alone : (text kw other : List ℕ) (p : Parsed) {r : Bool} → r ≡ word_p text p kw → r ≡ true → same_word kw other ≡ false → word_p text p other ≡ false
word_alone text kw other (Ok c) {r} l y n = let h : lead_word (drop c.at text) ≡ kw = same_word_lem (lead_word (drop c.at text)) kw (sym l ∙ y) in rw h n
word_alone text kw other (Err r) l y n = refl

-- a word begins with its first byte
first_other : (b k : ℕ) (ks s : List ℕ) → is_byte b (byte_at s) ≡ true → eqb b k ≡ false → same_word (lead_word s) (k ∷ ks) ≡ false
unfolding same_word lead_word byte_at is_byte
first_other b k ks [] h n = refl
first_other b k ks (x ∷ s) h n = go (is_word x) refl
  where
    same : x ≡ b
    same = eqb-true x b (and_second (ltb b 256) h)
      where
        and_second : (z : Bool) → (z && eqb x b) ≡ true → eqb x b ≡ true
        and_second true e = e
        and_second false e = true_false e

    go : (z : Bool) → is_word x ≡ z → same_word (lead_word (x ∷ s)) (k ∷ ks) ≡ false
    go true e = rw (lead_word, e) (rw (same, n))
    go false e = rw (lead_word, e)

pub word_other : (text : List ℕ) (b k : ℕ) (ks : List ℕ) (p : Parsed) {r : Bool} → r ≡ looks_p text p b → r ≡ true → eqb b k ≡ false → word_p text p (k ∷ ks) ≡ false
word_other text b k ks (Ok c) l y n = first_other b k ks (drop c.at text) (sym l ∙ y) n
word_other text b k ks (Err r) l y n = refl
