-- A loop that stores comes to its end where nothing is left to store, or past all that a text may have, where nothing is stored any more.
-- Assumes nothing.
use mathlib.Core.Path.{◌≡◌, sym, ap, ◌∙◌}
use mathlib.Core.List.{List, []}
use Prim.Native.Nat.{ℕ, suc}
use Rattle.records.specs.Limits.{text_limit}
use Rattle.buffer.specs.Stored.{stored, placed, Stores}
use Rattle.buffer.specs.Laws.{placed_past, stored_past}

-- what is left to store, from where the loop has come to, gives what all gives from the start
pub done : {k at : ℕ} {left all out out₀ : List ℕ} → left ≡ [] → placed k left ≡ placed at all → stored k left out ≡ stored at all out₀ → Stores all at out₀ k out
unfolding placed stored
done e p s = record { place = rw e at p; buffer = rw e at s }

pub past : {k at : ℕ} {all out out₀ : List ℕ} (left : List ℕ) → k ≡ suc text_limit → placed k left ≡ placed at all → stored k left out ≡ stored at all out₀ → Stores all at out₀ k out
past {k} {at} {all} {out} {out₀} left e p s = record {
  place = e ∙ sym (placed_past left) ∙ ap (λ (x : ℕ). placed x left) (sym e) ∙ p;
  buffer = sym (stored_past left out) ∙ ap (λ (x : ℕ). stored x left out) (sym e) ∙ s;
}
