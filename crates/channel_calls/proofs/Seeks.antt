-- What is sought among some calls is sought in the first node or block, and, where it has fewer, in those behind it.
-- Assumes nothing.
use mathlib.Core.Path.{◌≡◌, refl, sym, ap, ◌∙◌}
use mathlib.Core.Bool.{true, false}
use mathlib.Core.List.{List, [], ◌∷◌, ◌++◌}
use mathlib.Core.Option.{Option, none, some}
use Prim.Native.Nat.{ℕ, zero, suc, ◌+◌, ◌-◌, ◌*◌, ◌/◌, ◌≤◌, ◌<◌}
use native.Mathlib.Omega.{arith}
use lib.ListN.{length, get_or, drop}
use borrow.Author.Tests.{eq-eqb, ne_eqb}
use Rattle.records.specs.Limits.{entry_words}
use Rattle.records.specs.Kinds.{kind, Call}
use Rattle.records.specs.Entries.{three, short}
use Rattle.trees.specs.Steps.{kind_in, detail_in, children_in, word_at, child_of, next_of}
use Rattle.map_spec.specs.Blocks.{piece_text, first_node, behind_node}
use Rattle.channel_spec.specs.declared.Fired.TheVariants.{Nothing}
use Rattle.channel_spec.specs.Fires.{callee_place, child_at, calls_fire_at, constant_at, fire_in, fire_here, fires_from, fires_in, blocks_in, nth}
use Rattle.std.specs.declared.ops.ControlFlow.TheVariants.{Break, Continue}
use Rattle.channel_calls.specs.Seek.{Search, seek, seek_on, nth_on, seek_append, nth_append}

-- one node, whose header is h
pub not_call : (k : ℕ) (piece node : List ℕ) (h : ℕ) → h ≡ word_at node 0 → (kind_in h ≡ kind Call → ⊥) → Continue k ≡ seek k (fire_here piece node)
unfolding seek fire_here
not_call k piece node h e n = rw (fire_here, ← e, ne_eqb (kind_in h) (kind Call) n)

module _ (k : ℕ) (piece node : List ℕ) (h : ℕ) (e : h ≡ word_at node 0) (i : kind_in h ≡ kind Call) where
  pub not_fire : calls_fire_at piece node (child_at (callee_place (detail_in h)) node) ≡ false → Continue k ≡ seek k (fire_here piece node)
  unfolding seek fire_here fire_in
  not_fire f = rw (fire_here, ← e, eq-eqb (kind_in h) (kind Call) i, ← e, fire_in, f)

  here : calls_fire_at piece node (child_at (callee_place (detail_in h)) node) ≡ true → fire_here piece node ≡ constant_at node (child_at (callee_place (detail_in h) + 2) node) ∷ []
  unfolding fire_here fire_in
  here f = rw (fire_here, ← e, eq-eqb (kind_in h) (kind Call) i, ← e, fire_in, f, ← e)

  pub fire_passed : calls_fire_at piece node (child_at (callee_place (detail_in h)) node) ≡ true → 0 < k → Continue (k - 1) ≡ seek k (fire_here piece node)
  unfolding seek
  fire_passed f l = let z : k ≡ suc (k - 1) = omega arith in rw (here f, z) (ap Continue (omega arith))

  pub fire_found : calls_fire_at piece node (child_at (callee_place (detail_in h)) node) ≡ true → k ≤ 0 → Break (constant_at node (child_at (callee_place (detail_in h) + 2) node)) ≡ seek k (fire_here piece node)
  unfolding seek
  fire_found f l = let z : k ≡ 0 = omega arith in rw (here f, z)

-- m nodes: the first one, and those behind it
pub from_turn : (k m : ℕ) (piece ws node : List ℕ) (at : ℕ) (s : Search) → 0 < m → node ≡ first_node (drop at ws) → seek k (fire_here piece node) ≡ s → seek k (fires_from m piece ws (some at)) ≡ seek_on s (fires_from (m - 1) piece ws (next_of ws at (length ws)))
unfolding fires_from
from_turn k zero piece ws node at s l h e = absurd (omega arith)
from_turn k (suc m) piece ws node at s l h e =
    let z : suc m - 1 ≡ m = omega arith in
    rw (z, ← e, h) (seek_append k (fire_here piece (first_node (drop at ws))) (fires_from m piece ws (next_of ws at (length ws))))

pub from_none : (k m : ℕ) (piece ws : List ℕ) → seek k (fires_from m piece ws none) ≡ Continue k
unfolding fires_from seek
from_none k zero piece ws = refl
from_none k (suc m) piece ws = refl

pub from_done : (k m : ℕ) (piece ws : List ℕ) (o : Option ℕ) → m ≤ 0 → seek k (fires_from m piece ws o) ≡ Continue k
unfolding fires_from seek
from_done k zero piece ws o h = refl
from_done k (suc m) piece ws o h = absurd (omega arith)

-- a block's nodes
pub in_there : (k : ℕ) (piece ws : List ℕ) (first n : ℕ) → child_of ws 0 ≡ some first → n ≡ children_in (word_at ws 0) → seek k (fires_from n piece ws (some first)) ≡ seek k (fires_in piece ws)
unfolding fires_in
in_there k piece ws first n e f = rw (fires_in, e, f)

pub in_none : (k : ℕ) (piece ws : List ℕ) → child_of ws 0 ≡ none → Continue k ≡ seek k (fires_in piece ws)
unfolding fires_in
in_none k piece ws e = sym (rw (fires_in, e) (from_none k (children_in (word_at ws 0)) piece ws))

-- m blocks: the first one, and those behind it
pub blocks_turn : (k m : ℕ) (text ws dir : List ℕ) (i : ℕ) (piece own : List ℕ) (s : Search) → 0 < m → i * entry_words + 2 < length dir → piece ≡ piece_text text (get_or dir (i * entry_words) 0) → own ≡ first_node ws → seek k (fires_in piece own) ≡ s → nth k (blocks_in m text ws (drop (i * entry_words) dir)) ≡ nth_on s (blocks_in (m - 1) text (behind_node ws) (drop ((i + 1) * entry_words) dir))
unfolding blocks_in
blocks_turn k m text ws dir i piece own s l h p o e =
    let z : m ≡ suc (m - 1) = omega arith in
    let x = get_or dir (i * entry_words) 0 in
    let rest = blocks_in (m - 1) text (behind_node ws) (drop ((i + 1) * entry_words) dir) in
    let a : blocks_in m text ws (drop (i * entry_words) dir) ≡ fires_in (piece_text text x) (first_node ws) ++ rest = ap (λ (n : ℕ). blocks_in n text ws (drop (i * entry_words) dir)) z ∙ rw (three dir i h) in
    ap (nth k) a ∙ nth_append k (fires_in (piece_text text x) (first_node ws)) rest ∙ rw (← p, ← o, e)

no_block : (m : ℕ) (text ws xs : List ℕ) → length xs ≤ 2 → blocks_in m text ws xs ≡ []
unfolding blocks_in
no_block zero text ws xs h = refl
no_block (suc m) text ws [] h = refl
no_block (suc m) text ws (x ∷ []) h = refl
no_block (suc m) text ws (x ∷ y ∷ []) h = refl
no_block (suc m) text ws (x ∷ y ∷ c ∷ xs) h = absurd (omega arith)

-- no entry is left, or no block
pub blocks_over : (k m : ℕ) (text ws dir : List ℕ) (i : ℕ) → length dir / entry_words ≤ i → nth k (blocks_in m text ws (drop (i * entry_words) dir)) ≡ Nothing
unfolding nth
blocks_over k m text ws dir i h = rw (no_block m text ws (drop (i * entry_words) dir) (short dir i h))

pub blocks_done : (k m : ℕ) (text ws dir : List ℕ) → m ≤ 0 → nth k (blocks_in m text ws dir) ≡ Nothing
unfolding nth blocks_in
blocks_done k m text ws dir h = let z : m ≡ 0 = omega arith in rw z
