-- A directory, entry by entry.
-- Assumes nothing.
use Rattle.std.specs.Prelude.{◌≡◌, List, ◌∷◌, ℕ, ◌+◌, ◌*◌, ◌/◌, ◌≤◌, ◌<◌, length, get_or, drop}
use Rattle.std.proofs.Common.{ap, ◌∙◌, arith, length-drop}
use Rattle.program.specs.Lists.{drop_next}
use Rattle.records.specs.Limits.{entry_words}

-- The directory from a piece's entry on is its three words and the rest.
pub three : (dir : List ℕ) (i : ℕ) → i * entry_words + 2 < length dir → drop (i * entry_words) dir ≡ get_or dir (i * entry_words) 0 ∷ get_or dir (i * entry_words + 1) 0 ∷ get_or dir (i * entry_words + 2) 0 ∷ drop ((i + 1) * entry_words) dir
three dir i h =
    let a : i * entry_words + 1 + 1 ≡ i * entry_words + 2 = omega arith in
    let e : i * entry_words + 2 + 1 ≡ (i + 1) * entry_words = omega arith in
    drop_next dir (i * entry_words) (omega arith)
    ∙ ap {B = List ℕ} (λ r. get_or dir (i * entry_words) 0 ∷ r) (drop_next dir (i * entry_words + 1) (omega arith)
    ∙ ap {B = List ℕ} (λ r. get_or dir (i * entry_words + 1) 0 ∷ r) (ap (λ (k : ℕ). drop k dir) a ∙ drop_next dir (i * entry_words + 2) h ∙ ap (λ (k : ℕ). get_or dir (i * entry_words + 2) 0 ∷ drop k dir) e))

-- no entry stands there
pub short : (dir : List ℕ) (i : ℕ) → length dir / entry_words ≤ i → length (drop (i * entry_words) dir) ≤ 2
short dir i h = omega (arith, length-drop (i * entry_words) dir)
