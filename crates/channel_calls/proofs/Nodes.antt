-- A child is reached by one step more than the one before it; a global stands inside the words.
-- Assumes nothing.
use mathlib.Core.Path.{◌≡◌, sym, ◌∙◌}
use mathlib.Core.Bool.{false}
use mathlib.Core.List.{List}
use mathlib.Core.Option.{none, some}
use Prim.Native.Nat.{ℕ, zero, suc, ◌+◌, ◌-◌, ◌≤◌}
use native.Mathlib.Omega.{arith}
use lib.ListN.{length}
use lib.Seq.{take_all}
use borrow.Author.Tests.{eq-eqb, ne_eqb}
use Rattle.program.specs.Bytes.{bytes}
use Rattle.records.specs.Kinds.{kind, Global, IntConst}
use Rattle.grammar.specs.Lexer.{spelled, same_word}
use Rattle.trees.specs.Steps.{kind_in, word_at, next_of}
use Rattle.record_steps.specs.Views.{text_of}
use Rattle.lexer_names.specs.Names.{part, raw_word}
use Rattle.map_spec.specs.Blocks.{name_in}
use Rattle.record_blocks.proofs.Inside.{no_kind}
use Rattle.channel_spec.specs.declared.Fired.TheVariants.{Undecided}
use Rattle.channel_spec.specs.Fires.{constant, is_fire, callee_place, child_at, calls_fire_at, constant_at}

pub callee_small : (d : ℕ) → callee_place d ≤ 2
unfolding callee_place
callee_small d = omega arith

-- the child behind another
pub child_next : (i : ℕ) (node : List ℕ) (at : ℕ) → child_at i node ≡ some at → child_at (i + 1) node ≡ next_of node at (length node)
unfolding child_at
child_next i node at e = let z : i + 1 ≡ suc i = omega arith in rw (z, child_at, e)

none_on : (m j : ℕ) (node : List ℕ) → child_at j node ≡ none → child_at (m + j) node ≡ none
unfolding child_at
none_on zero j node e = let z : zero + j ≡ j = omega arith in rw z e
none_on (suc m) j node e = let z : suc m + j ≡ suc (m + j) = omega arith in rw (z, child_at, none_on m j node e)

pub child_none : (i n : ℕ) (node : List ℕ) → i ≤ n → child_at i node ≡ none → child_at n node ≡ none
child_none i n node h e = let z : n - i + i ≡ n = omega arith in rw z at (none_on (n - i) i node e)

-- a whole name is that from its start to its end
pub fire_there : (piece raw : List ℕ) (k w : ℕ) → k ≡ kind Global → raw ≡ text_of piece w → same_word (spelled (raw_word (part raw 0 (length raw)))) (bytes "fire") ≡ is_fire piece k w
unfolding is_fire name_in
fire_there piece raw k w e f =
    let z : length raw - 0 ≡ length raw = omega arith in
    rw (z, take_all (length raw) raw (omega arith), f, eq-eqb k (kind Global) e)

pub fire_not : (piece : List ℕ) (k w : ℕ) → (k ≡ kind Global → ⊥) → false ≡ is_fire piece k w
unfolding is_fire
fire_not piece k w h = rw (ne_eqb k (kind Global) h)

-- past the words
pub past_fire : (piece node : List ℕ) (at : ℕ) → length node ≤ at → false ≡ calls_fire_at piece node (some at)
unfolding calls_fire_at
past_fire piece node at h = fire_not piece (kind_in (word_at node at)) (word_at node (at + 1)) (λ e. omega (arith, no_kind node at h, e))

-- the node at a place, whose kind is k
pub constant_there : (node : List ℕ) (at k : ℕ) → k ≡ kind_in (word_at node at) → k ≡ kind IntConst → constant (word_at node (at + 1)) (word_at node (at + 2)) ≡ constant_at node (some at)
unfolding constant_at
constant_there node at k e f = rw (constant_at, eq-eqb _ _ (sym e ∙ f))

pub constant_not : (node : List ℕ) (at k : ℕ) → k ≡ kind_in (word_at node at) → (k ≡ kind IntConst → ⊥) → Undecided ≡ constant_at node (some at)
unfolding constant_at
constant_not node at k e f = rw (constant_at, ne_eqb _ _ (λ z. f (e ∙ z)))
