-- M-109: the map of an accepted function is that of its trees, and it shows each block one time.
-- The words are the trees' words with zeros behind, so the steps show what the trees show; and there is an entry for each.
-- Assumes nothing.
use Rattle.std.proofs.Math.Path.{◌≡◌, ap}
use Rattle.std.specs.Prelude.{refl, drop, replicate}
use Rattle.std.proofs.Common.{◌∙◌, arith}
use mathlib.Core.List.{List, [], ◌∷◌, ◌++◌, append_assoc}
use Prim.Native.Nat.{ℕ, zero, suc, ◌+◌, ◌-◌, ◌*◌, ◌/◌, ◌%◌, ◌≤◌, ◌<◌}
use Rattle.std.proofs.Math.Arith.{digits_div, digits_mod}
use Rattle.std.proofs.Math.ListN.{length, get_or, length-append, length-drop}
use Rattle.std.proofs.Math.Seq.{length-take-le}
use Rattle.records.specs.Limits.{text_limit, half_limit, entry_words}
use Rattle.records.specs.Words.{pack, hi, lo, node}
use Rattle.records.specs.Kinds.{kind}
use Rattle.records.specs.Pieces.{Run, done, stop, item, pad, entries, count_run, reading, left, count}
use Rattle.grammar.specs.Function.{head_at, block_at, reading_of}
use Rattle.trees.specs.Tree.{Trees, empty, tree, how_many, tree_words, behind_first}
use Rattle.trees.specs.Forms.{Sort, head, block, sort_of, sorts, repeat, Formed}
use Rattle.trees.specs.Function.{piece_length, tree_at, Function}
use Rattle.theorem_refusals.specs.Trees.{many_sorts, repeat_length}
use Rattle.theorem_edits.specs.Same.{Accepts, accepted, sizes, sizes_reading, text_short}
use Rattle.theorem_edits.specs.Again.{laws}
use Rattle.theorem_trees.specs.Function.{accepted_function}
use Rattle.map_spec.specs.Drawing.{drawing}
use Rattle.map_spec.specs.Blocks.{piece_text, blocks_of, map_of, behind_node, blocks_in, map_in}
use Rattle.theorem_map.specs.Words.{behind_node_lem, blocks_from_lem}

-- Over the words of a head and of blocks, with zeros behind.
over_trees : (n : ℕ) (text ws ds r : List ℕ) (t : Trees) (m : ℕ) → Formed text_limit t → sorts t ≡ head ∷ repeat m (block ∷ []) → n ≡ m + 2 → length (tree_words t) < half_limit → ws ≡ tree_words t ++ r
    → blocks_in n text ws ds ≡ blocks_of text (behind_first t) (drop entry_words ds)
unfolding blocks_in behind_first tree_words node sorts
over_trees n text ws ds r empty m f o c s e = let z : ◌≡◌ {A = ℕ} 0 1 = cc in absurd (omega arith)
over_trees n text ws ds r (tree k d p cs ts) m f o c s e =
    let N : List ℕ = node (kind k) d (how_many cs) (p ++ tree_words cs) in
    let small : suc (length (p ++ tree_words cs)) < half_limit = omega (arith, length-append N (tree_words ts)) in
    let behind : behind_node ws ≡ tree_words ts ++ r = behind_node_lem ws k d p cs (tree_words ts ++ r) f.0 small (e ∙ append_assoc N (tree_words ts) r) in
    let q : sorts ts ≡ repeat m (block ∷ []) = rest (sort_of k) (sorts ts) (repeat m (block ∷ [])) o in
    let many : how_many ts ≡ m = many_sorts ts ∙ ap length q ∙ repeat_length m block in
    let u : n - 2 ≡ how_many ts = omega arith in
    rw (blocks_in, behind, u) (blocks_from_lem text_limit text (tree_words ts ++ r) ts r (drop entry_words ds) f.1.1 (rw many q) (omega (arith, length-append N (tree_words ts))) refl)
  where
    rest : (a : Sort) (xs ys : List Sort) → a ∷ xs ≡ head ∷ ys → xs ≡ ys
    rest a xs ys g = cc

pub shows_trees : (n : ℕ) (text ws ds : List ℕ) (F : Function n ws ds) → blocks_in n text ws ds ≡ blocks_of text (behind_first F.trees) (drop entry_words ds)
unfolding pad
shows_trees n text ws ds F = over_trees n text ws ds (replicate (length ws - length (tree_words F.trees)) 0) F.trees F.blocks F.formed F.pieces F.entries F.small F.all

-- The map that the call makes from the records is the map of the trees.
pub map_of_trees : (n : ℕ) (text ws ds : List ℕ) (F : Function n ws ds) → map_in n text ws ds ≡ map_of text F.trees ds
unfolding map_in map_of
map_of_trees n text ws ds F = ap drawing (shows_trees n text ws ds F)

-- "one node line per block in order": so many as there are entries for.
shown_each : (text : List ℕ) (t : Trees) (dir : List ℕ) → how_many t * entry_words ≤ length dir → length (blocks_of text t dir) ≡ how_many t
unfolding blocks_of how_many
shown_each text empty dir l = refl
shown_each text (tree k d p cs ts) [] l = absurd (omega arith)
shown_each text (tree k d p cs ts) (x ∷ []) l = absurd (omega arith)
shown_each text (tree k d p cs ts) (x ∷ y ∷ []) l = absurd (omega arith)
shown_each text (tree k d p cs ts) (x ∷ y ∷ c ∷ dir) l = ap suc (shown_each text ts dir (omega arith))

entries_length : (pos at : ℕ) (r : Run (List ℕ)) → length (entries pos at r) ≡ count_run r * entry_words
unfolding entries count_run
entries_length pos at done = refl
entries_length pos at (stop q p) = refl
entries_length pos at (item e c ws r) = omega (arith, entries_length (pos + e) (at + length ws) r)

-- Each piece of a run lies in the text.
entry_in : (T pos at : ℕ) (ys : List ℕ) (r : Run (List ℕ)) → pos + sizes r ≤ T → T < half_limit → (i : ℕ) → i < count_run r
    → hi (get_or (entries pos at r ++ ys) (i * entry_words) 0) + lo (get_or (entries pos at r ++ ys) (i * entry_words) 0) ≤ T
unfolding entries sizes count_run pack
entry_in T pos at ys done l b i c = absurd (omega arith)
entry_in T pos at ys (stop q p) l b i c = absurd (omega arith)
entry_in T pos at ys (item e d ws r) l b zero c =
    let s : e < half_limit = omega arith in
    let m : (pos * half_limit + e) % half_limit ≡ e = digits_mod pos s in
    let h : (pos * half_limit + e) / half_limit ≡ pos = digits_div pos s in
    rw (m, h) (omega arith)
entry_in T pos at ys (item e d ws r) l b (suc i) c =
    let z : suc i * entry_words ≡ suc (suc (suc (i * entry_words))) = omega arith in
    rw z (entry_in T (pos + e) (at + length ws) ys r (omega arith) b i (omega arith))

-- What is known of an accepted reading of a text.
module _ (W D n : ℕ) (ws ds text : List ℕ) (h : reading_of W D text ≡ left (count n) ws ds) where
  R : Run (List ℕ)
  R = reading head_at block_at text

  A : Accepts head_at block_at laws W D n ws ds text
  unfolding reading_of
  A = accepted head_at block_at laws W D n ws ds text h

  F : Function n ws ds
  F = accepted_function W D n ws ds text h

  -- the directory has all entries
  pub directory_long : n * entry_words ≤ length ds
  unfolding R pad
  directory_long =
      omega (arith, ap length A.dir, length-append (entries 0 0 R) (replicate (D - length (entries 0 0 R)) 0), entries_length 0 0 R, A.number)

  many : (t : Trees) (m : ℕ) → sorts t ≡ head ∷ repeat m (block ∷ []) → how_many (behind_first t) ≡ m
  unfolding behind_first sorts
  many empty m o = let z : ◌≡◌ {A = ℕ} 0 1 = cc in absurd (omega arith)
  many (tree k d p cs ts) m o = many_sorts ts ∙ ap length (rest (sort_of k) (sorts ts) (repeat m (block ∷ [])) o) ∙ repeat_length m block
    where
      rest : (a : Sort) (xs ys : List Sort) → a ∷ xs ≡ head ∷ ys → xs ≡ ys
      rest a xs ys g = cc

  -- The map of its records is the map of its trees, and it shows each block one time.
  pub accepted_map : (T : Function n ws ds) × ((map_in n text ws ds ≡ map_of text T.trees ds) × (length (blocks_in n text ws ds) ≡ T.blocks))
  accepted_map =
      let m : how_many (behind_first F.trees) ≡ F.blocks = many F.trees F.blocks F.pieces in
      (F, (map_of_trees n text ws ds F, ap length (shows_trees n text ws ds F) ∙ shown_each text (behind_first F.trees) (drop entry_words ds) (omega (arith, m, directory_long, length-drop entry_words ds, F.entries)) ∙ m))

  -- A piece's text, from which the map takes names, is as long as its entry says, and so every name of its tree lies in it.
  piece_whole : (i : ℕ) → i < n → length (piece_text text (get_or ds (i * entry_words) 0)) ≡ piece_length ds i
  unfolding R pad piece_text piece_length
  piece_whole i l =
      let x : ℕ = get_or ds (i * entry_words) 0 in
      let T : length text ≤ text_limit = text_short text A.asked in
      let S : sizes R ≤ length text = sizes_reading head_at block_at laws text in
      let b : hi x + lo x ≤ length text = rw A.dir (entry_in (length text) 0 0 (replicate (D - length (entries 0 0 R)) 0) R (omega arith) (omega arith) i (omega (arith, A.number))) in
      length-take-le (lo x) (drop (hi x) text) (omega (arith, length-drop (hi x) text))

  pub names_in_text : (i : ℕ) → i < n → Formed (length (piece_text text (get_or ds (i * entry_words) 0))) (tree_at (accepted_function W D n ws ds text h).trees i)
  unfolding F
  names_in_text i l = rw (piece_whole i l) (F.inside i l)
