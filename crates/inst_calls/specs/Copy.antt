-- Words that stand a second time.
-- Assumes nothing.
use Rattle.std.specs.Prelude.{◌≡◌, List, ℕ, zero, suc, ◌+◌, ◌≤◌, ◌<◌, length, get_or, set}
use Rattle.lexer.specs.declared.Cursor.{Cursor}
use Rattle.lexer.specs.Parsed.{Parsed, Ok}

-- the n words from `from` on stand from `to` on too, one after the other, as far as the array reaches
unfoldable pub copied : ℕ → ℕ → ℕ → List ℕ → List ℕ
copied zero from to words = words
copied (suc n) from to words = set (copied n from to words) (to + n) (get_or (copied n from to words) (from + n) 0)

-- Since a, up to b, the words of t were written, and c is not before them: they stand as far as the array reaches.
pub record Written (t : List ℕ) (a b : Parsed) (c : Cursor) (words : List ℕ) : Type 0 where
  pub first : Cursor
  pub last : Cursor
  pub from : a ≡ Ok first
  pub to : b ≡ Ok last
  pub count : last.w ≡ first.w + length t
  pub behind : last.w ≤ c.w
  pub stands : (i : ℕ) → i < length t → first.w + i < length words → get_or words (first.w + i) 0 ≡ get_or t i 0

-- So it is where the reader has come to p.
pub record Held (t : List ℕ) (a b p : Parsed) (words : List ℕ) : Type 0 where
  pub there : (c : Cursor) → p ≡ Ok c → Written t a b c words
