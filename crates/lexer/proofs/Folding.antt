-- A scan and its fold, byte by byte: both go one byte on together, so where the scan stops the fold is that of all bytes passed.
-- Assumes nothing.
use mathlib.Core.Path.{◌≡◌, refl, sym, ap, ◌∙◌}
use mathlib.Core.List.{List, [], ◌∷◌}
use mathlib.Core.Option.{Option, none, some}
use Prim.Native.Nat.{ℕ, ◌+◌, ◌≤◌, ◌<◌}
use native.Mathlib.Omega.{arith}
use lib.ListN.{length, get_or, drop, drop_of_length-le}
use Rattle.program.specs.Lists.{drop_next}
use Rattle.program.specs.Prog.{scan_len}
use Rattle.lexer.specs.Step.{taken}
use Rattle.lexer.proofs.Scan.{scan_some}

-- what an automaton passes from `at` on ends at i, and g folds it from s0 to s
pub record FoldsTo {S : Type 0} (f : ℕ → ℕ → Option ℕ) (g : S → List ℕ → S) (text : List ℕ) (at : ℕ) (s0 : S) (i : ℕ) (s : S) : Type 0 where
  pub place : i ≡ at + scan_len f 0 (drop at text)
  pub state : s ≡ g s0 (taken f 0 (drop at text))

-- the scan from `at` goes on from i in state q, and its fold from s
pub record Folding {S : Type 0} (f : ℕ → ℕ → Option ℕ) (g : S → List ℕ → S) (text : List ℕ) (at : ℕ) (s0 : S) (i q : ℕ) (s : S) : Type 0 where
  pub place : at + scan_len f 0 (drop at text) ≡ i + scan_len f q (drop i text)
  pub state : g s0 (taken f 0 (drop at text)) ≡ g s (taken f q (drop i text))

module _ {S : Type 0} (f : ℕ → ℕ → Option ℕ) (g : S → List ℕ → S) (text : List ℕ) (at : ℕ) (s0 : S) where
  pub folding_start : Folding f g text at s0 at 0 s0
  folding_start = record { place = refl; state = refl }

  module _ (i q : ℕ) (s : S) (a : Folding f g text at s0 i q s) where
    taken_none : scan_len f q (drop i text) ≡ 0 → taken f q (drop i text) ≡ []
    taken_none e = rw e

    ended : g s [] ≡ s → scan_len f q (drop i text) ≡ 0 → FoldsTo f g text at s0 i s
    ended n e = record { place = omega (arith, a.place); state = sym (a.state ∙ ap (g s) (taken_none e) ∙ n) }

    -- the text ends, or the automaton stops
    pub folding_out : g s [] ≡ s → length text ≤ i → FoldsTo f g text at s0 i s
    unfolding scan_len
    folding_out n h = ended n (rw (drop_of_length-le text h))

    pub folding_stop : g s [] ≡ s → i < length text → f q (get_or text i 0) ≡ none → FoldsTo f g text at s0 i s
    unfolding scan_len
    folding_stop n h e = ended n (rw (drop_next text i h, scan_len, e))

    -- a byte more
    pub folding_more : (r : ℕ) (t : S) → ((l : List ℕ) → g s (get_or text i 0 ∷ l) ≡ g t l) → i < length text → f q (get_or text i 0) ≡ some r → Folding f g text at s0 (i + 1) r t
    unfolding scan_len
    folding_more r t n h e = record {
      place = a.place ∙ scan_some f text i q r h e;
      state = a.state ∙ ap (g s) (rw (drop_next text i h, scan_len, e)) ∙ n (taken f r (drop (i + 1) text));
    }
