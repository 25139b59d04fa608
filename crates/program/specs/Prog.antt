-- Readers as programs over a few ways to look at the text. What a reader has looked at follows from the program once and for all.
use Rattle.std.specs.Prelude.{Bool, true, false, ◌&&◌, not, List, [], ◌∷◌, ℕ, suc, ◌+◌, eqb, take, drop}
use Rattle.std.proofs.Math.Option.{Option, none, some}
use Rattle.program.specs.Class.{is_word}

pub data Prog (A : Type 0) : Type 0 where
  ret : A → Prog A
  fail : ℕ → ℕ → Prog A  -- number, place from the piece's start
  look : (ℕ → Prog A) → Prog A  -- the byte at the cursor, 256 at the text's end
  eat : Prog A → Prog A  -- one byte on
  here : (ℕ → Prog A) → Prog A  -- the cursor, from the piece's start
  lead : (List ℕ → Prog A) → Prog A  -- the letters, digits and `_` from the cursor on; it stays
  scan : (ℕ → ℕ → Option ℕ) → ℕ → (List ℕ → Prog A) → Prog A  -- on while an automaton goes on; the bytes passed
  last : ℕ → List ℕ → Prog A → Prog A  -- if that byte is at the cursor, through it, and the piece ends with these words

pub data Res (A : Type 0) : Type 0 where
  ok : A → ℕ → Res A  -- value, cursor
  closed : List ℕ → ℕ → Res A  -- words, cursor: the piece is at its end
  no_at : ℕ → ℕ → Res A

unfoldable pub byte_at : List ℕ → ℕ
byte_at [] = 256
byte_at (x ∷ xs) = x

unfoldable pub lead_word : List ℕ → List ℕ
lead_word [] = []
lead_word (x ∷ xs) = elim (is_word x) [ true ↦ x ∷ lead_word xs | false ↦ [] ]

unfoldable pub scan_len : (ℕ → ℕ → Option ℕ) → ℕ → List ℕ → ℕ
scan_len f q [] = 0
scan_len f q (x ∷ xs) = elim (f q x) [ some q2 ↦ suc (scan_len f q2 xs) | none ↦ 0 ]

unfoldable pub run : {A : Type 0} → Prog A → ℕ → List ℕ → Res A
run (ret a) i s = ok a i
run (fail q p) i s = no_at q p
run (look k) i s = run (k (byte_at s)) i s
run (eat p) i [] = no_at 0 i
run (eat p) i (x ∷ s) = run p (suc i) s
run (here k) i s = run (k i) i s
run (lead k) i s = run (k (lead_word s)) i s
run (scan f q k) i s = run (k (take (scan_len f q s) s)) (i + scan_len f q s) (drop (scan_len f q s) s)
run (last b ws p) i [] = run p i []
-- The closing byte is `{` or `}`, so the second half of the test always holds: it is there so that `closed_local` holds for every program.
run (last b ws p) i (x ∷ s) = elim (eqb x b && not (is_word x)) [ true ↦ closed ws (suc i) | false ↦ run p i (x ∷ s) ]

infixl 20 ◌>>=◌
unfoldable pub ◌>>=◌ : {A B : Type 0} → Prog A → (A → Prog B) → Prog B
◌>>=◌ (ret a) h = h a
◌>>=◌ (fail q p) h = fail q p
◌>>=◌ (look k) h = look (λ b. k b >>= h)
◌>>=◌ (eat p) h = eat (p >>= h)
◌>>=◌ (here k) h = here (λ i. k i >>= h)
◌>>=◌ (lead k) h = lead (λ w. k w >>= h)
◌>>=◌ (scan f q k) h = scan f q (λ w. k w >>= h)
◌>>=◌ (last b ws p) h = last b ws (p >>= h)

-- `s` has a byte behind the letters, digits and `_` in its front.
unfoldable pub ends : List ℕ → Bool
ends [] = false
ends (x ∷ xs) = elim (is_word x) [ true ↦ ends xs | false ↦ true ]
