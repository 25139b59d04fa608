-- Bytes stored one behind the other are all of them stored: by induction on the first. Past all that a text may have nothing is stored, and what fits
-- stands in the buffer as it is.
-- Assumes nothing.
use Rattle.std.specs.Prelude.{◌≡◌, refl, Bool, true, false, List, [], ◌∷◌, ◌++◌, ℕ, suc, ◌+◌, ◌≤◌, ◌<◌, ltb, length, drop, set}
use Rattle.std.proofs.Common.{sym, ap, ◌∙◌, append_assoc, arith, length-append, ltb-true, ltb-false, lt-ltb, le-ltb}
use Rattle.records.specs.Limits.{text_limit}
use Rattle.buffer.specs.Stored.{onward, with_byte, stored, placed, Stores}

pub placed_append : (at : ℕ) (a b : List ℕ) → placed at (a ++ b) ≡ placed (placed at a) b
unfolding placed
placed_append at [] b = refl
placed_append at (x ∷ a) b = placed_append (onward at) a b

pub stored_append : (at : ℕ) (a b out : List ℕ) → stored at (a ++ b) out ≡ stored (placed at a) b (stored at a out)
unfolding placed stored
stored_append at [] b out = refl
stored_append at (x ∷ a) b out = stored_append (onward at) a b (with_byte at x out)

-- some bytes, and then the rest
pub and_then : {at k r : ℕ} {a b out mid end : List ℕ} → Stores a at out k mid → Stores b k mid r end → Stores (a ++ b) at out r end
and_then {at} {k} {r} {a} {b} {out} {mid} {end} p q = record {
  place = q.place ∙ ap (λ (x : ℕ). placed x b) p.place ∙ sym (placed_append at a b);
  buffer = q.buffer ∙ ap (λ (x : ℕ). stored x b mid) p.place ∙ ap (stored (placed at a) b) p.buffer ∙ sym (stored_append at a b out);
}

-- A loop goes on behind bytes that are stored, with the rest to store.
pub went_on : {k k' : ℕ} {line out out' : List ℕ} (rest : List ℕ) {p : ℕ} {b : List ℕ} → Stores line k out k' out' → placed k (line ++ rest) ≡ p → stored k (line ++ rest) out ≡ b → (placed k' rest ≡ p) × (stored k' rest out' ≡ b)
went_on {k} {k'} {line} {out} {out'} rest s e f = (
  ap (λ (x : ℕ). placed x rest) s.place ∙ sym (placed_append k line rest) ∙ e,
  ap (λ (x : ℕ). stored x rest out') s.place ∙ ap (stored (placed k line) rest) s.buffer ∙ sym (stored_append k line rest out) ∙ f,
)

-- A byte, where a text may have more; and where not.
pub below : (at : ℕ) → at < text_limit → onward at ≡ suc at
unfolding onward
below at l = rw (onward, lt-ltb at text_limit l)

pub over : (at : ℕ) → text_limit ≤ at → onward at ≡ suc text_limit
unfolding onward
over at l = rw (onward, le-ltb at text_limit l)

pub with_below : (at b : ℕ) (out : List ℕ) → at < text_limit → with_byte at b out ≡ set out at b
unfolding with_byte
with_below at b out l = rw (with_byte, lt-ltb at text_limit l)

pub with_over : (at b : ℕ) (out : List ℕ) → text_limit ≤ at → with_byte at b out ≡ out
unfolding with_byte
with_over at b out l = rw (with_byte, le-ltb at text_limit l)

-- Past all that a text may have: the place and the buffer stay.
pub placed_past : (xs : List ℕ) → placed (suc text_limit) xs ≡ suc text_limit
unfolding placed
placed_past [] = refl
placed_past (x ∷ xs) = ap (λ (k : ℕ). placed k xs) (over (suc text_limit) (omega arith)) ∙ placed_past xs

pub stored_past : (xs out : List ℕ) → stored (suc text_limit) xs out ≡ out
unfolding stored
stored_past [] out = refl
stored_past (x ∷ xs) out =
    ap (λ (k : ℕ). stored k xs (with_byte (suc text_limit) x out)) (over (suc text_limit) (omega arith))
    ∙ ap (stored (suc text_limit) xs) (with_over (suc text_limit) x out (omega arith)) ∙ stored_past xs out

-- Where the bytes end, if a text may have so many; and if not.
pub placed_whole : (at : ℕ) (xs : List ℕ) → at + length xs ≤ text_limit → placed at xs ≡ at + length xs
unfolding placed
placed_whole at [] l = omega arith
placed_whole at (x ∷ xs) l =
    let z : suc at + length xs ≡ at + suc (length xs) = omega arith in
    ap (λ (k : ℕ). placed k xs) (below at (omega arith)) ∙ placed_whole (suc at) xs (omega arith) ∙ z

pub placed_over : (at : ℕ) (xs : List ℕ) → at ≤ suc text_limit → text_limit < at + length xs → placed at xs ≡ suc text_limit
unfolding placed
placed_over at [] m l = omega arith
placed_over at (x ∷ xs) m l = go (ltb at text_limit) refl (λ b. placed_over (suc at) xs b (omega arith))
  where
    go : (b : Bool) → ltb at text_limit ≡ b → (suc at ≤ suc text_limit → placed (suc at) xs ≡ suc text_limit) → placed (onward at) xs ≡ suc text_limit
    go true e ih = let a : at < text_limit = ltb-true at text_limit e in ap (λ (k : ℕ). placed k xs) (below at a) ∙ ih (omega arith)
    go false e ih = ap (λ (k : ℕ). placed k xs) (over at (ltb-false at text_limit e)) ∙ placed_past xs

set_behind : (pre : List ℕ) (y x : ℕ) (out : List ℕ) → set (pre ++ (y ∷ out)) (length pre) x ≡ (pre ++ (x ∷ [])) ++ out
set_behind [] y x out = refl
set_behind (p ∷ pre) y x out = ap {B = List ℕ} (λ l. p ∷ l) (set_behind pre y x out)

-- What fits stands in the buffer, behind what stood in front of it.
pub stored_whole : (pre xs out : List ℕ) → length pre + length xs ≤ text_limit → length xs ≤ length out → stored (length pre) xs (pre ++ out) ≡ pre ++ (xs ++ drop (length xs) out)
unfolding stored
stored_whole pre [] out l m = refl
stored_whole pre (x ∷ xs) [] l m = absurd (omega arith)
stored_whole pre (x ∷ xs) (y ∷ out) l m =
    let q : List ℕ = pre ++ (x ∷ []) in
    let n : suc (length pre) ≡ length q = omega (arith, length-append pre (x ∷ [])) in
    ap (λ (k : ℕ). stored k xs (with_byte (length pre) x (pre ++ (y ∷ out)))) (below (length pre) (omega arith) ∙ n)
    ∙ ap (stored (length q) xs) (with_below (length pre) x (pre ++ (y ∷ out)) (omega arith) ∙ set_behind pre y x out)
    ∙ stored_whole q xs out (omega (arith, length-append pre (x ∷ []))) (omega arith)
    ∙ append_assoc pre (x ∷ []) (xs ++ drop (length xs) out)
