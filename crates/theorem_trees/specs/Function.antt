-- What an accepted reading leaves are the words of trees: of a head and of blocks, each where its directory entry says. The programs give such words
-- (`head_words`, `block_words`), questions 20 and 21 leave room for them, and the pieces stand one behind the other.
-- Assumes nothing.
use Rattle.std.specs.Prelude.{◌≡◌, refl, List, [], ◌∷◌, ◌++◌, ℕ, zero, suc, ◌+◌, ◌-◌, ◌*◌, ◌/◌, ◌%◌, ◌≤◌, ◌<◌, length, get_or, take, drop, replicate}
use Rattle.std.proofs.Common.{subst, sym, ap, ◌∙◌, append_assoc, append-nil, inl, inr, arith, length-append, length-drop, take_at, drop_at}
use Rattle.std.proofs.Math.Arith.{digits_div, digits_mod}
use Rattle.records.specs.Limits.{text_limit, half_limit, entry_words}
use Rattle.records.specs.Kinds.{kind}
use Rattle.records.specs.Words.{pack, hi, lo, node}
use Rattle.records.specs.Pieces.{HeadRead, head, bad_head, BlockRead, block, tail, bad_block, Run, done, stop, item, map_run, fine, refused, judge, pad, all_words, entries, count_run, blocks, reading, left, count, left_of}
use Rattle.grammar.specs.Function.{head_at, block_at, reading_of, rereading_of}
use Rattle.trees.specs.Tree.{Trees, empty, tree, how_many, tree_words}
use Rattle.trees.specs.Forms.{name_in, Sort, sort_of, sorts, Field, named, optional, number, any, Is, Are, repeat, payload_of, form_of, Fits, fits, Formed, Laid, laid}
use Rattle.trees.specs.Function.{piece_words, piece_length, tree_at, sort_of_piece, Function, OneTree}
use Rattle.theorem_refusals.specs.Trees.{many_sorts, repeat_length}
use Rattle.theorem_refusals.specs.Places.{head_words, block_words}
use Rattle.theorem_edits.specs.Law.{blocks_block, blocks_tail, blocks_bad}
use Rattle.theorem_edits.specs.Same.{Accepted, accepts, Accepts, accepted, length_pad, sizes, sizes_reading, text_short}
use Rattle.theorem_edits.specs.Again.{laws, again_same}
use Rattle.theorem_edits.specs.Afternoon.{alike}
use Rattle.theorem_trees.specs.Unique.{one_tree}

-- The pieces of a run have the words of these trees, one each, whose names lie in the piece; and the last piece has none.
Planted : Run (List ℕ) → Trees → Type 0
Planted done t = ⊥
Planted (stop q p) t = ⊥
Planted (item e c ws r) empty = (ws ≡ []) × (r ≡ done)
Planted (item e c ws r) (tree k d p cs ts) = (tree_words (tree k d p cs empty) ≡ ws) × (Formed e (tree k d p cs empty) × Planted r ts)

-- Blocks, so many, and the tail.
data Grove (r : Run (List ℕ)) : Type 0 where
  grove : (t : Trees) (m : ℕ) → sorts t ≡ repeat m (Sort.block ∷ []) → Planted r t → Grove r

-- words of one tree in front of a run
front : (s : Sort) (e c : ℕ) (ws : List ℕ) (r : Run (List ℕ)) (t : Trees) → Planted r t → Laid e (s ∷ []) ws → (u : Trees) × ((sorts u ≡ s ∷ sorts t) × Planted (item e c ws r) u)
unfolding sorts Planted
front s e c ws r t h (laid empty g o w) = let z : ◌≡◌ {A = ℕ} 0 1 = cc in absurd (omega arith)
front s e c ws r t h (laid (tree k d p cs empty) g o w) = let i : sort_of k ≡ s = cc in (tree k d p cs t, (rw i, (w, (g, h))))
front s e c ws r t h (laid (tree k d p cs (tree l b q ds us)) g o w) = let z : ◌≡◌ {A = ℕ} 0 1 = cc in absurd (omega arith)

-- a block more
more : {e c : ℕ} {ws : List ℕ} {r : Run (List ℕ)} → Laid e (Sort.block ∷ []) ws → Grove r → Grove (item e c ws r)
unfolding repeat
more {e} {c} {ws} {r} h (grove t m o q) =
    let x = front Sort.block e c ws r t q h in
    grove x.0 (suc m) (x.1.0 ∙ ap (λ l. Sort.block ∷ l) o) x.1.1

-- Blocks up to the tail: each takes a byte, so the text is at its end before k turns are over.
blocks_grow : (k W D i pos at c : ℕ) (s : List ℕ) → length s < k → judge W D i pos at (map_run length (blocks head_at block_at c s)) ≡ fine → Grove (blocks head_at block_at c s)
unfolding map_run judge Planted sorts repeat
blocks_grow zero W D i pos at c s l h = absurd (omega arith)
blocks_grow (suc k) W D i pos at c s l h = go (block_at c s) refl (λ e d n. blocks_grow k W D (suc i) (pos + e) (at + n) d (drop e s))
  where
    go : (b : BlockRead) → block_at c s ≡ b → ((e d n : ℕ) → length (drop e s) < k → judge W D (suc i) (pos + e) (at + n) (map_run length (blocks head_at block_at d (drop e s))) ≡ fine → Grove (blocks head_at block_at d (drop e s)))
        → Grove (blocks head_at block_at c s)
    go (block e d ws) p ih =
        let R : Run (List ℕ) = blocks head_at block_at d (drop e s) in
        let j : judge W D i pos at (item e c (length ws) (map_run length R)) ≡ fine = rw (blocks_block head_at block_at laws c s e d ws p) at h in
        let a : Accepted W D i pos at e c (length ws) (map_run length R) = accepts W D i pos at e c (length ws) (map_run length R) j in
        let m : length (drop e s) < k = omega (arith, length-drop e s, laws.block_moves c s e d ws p, laws.block_fits c s e d ws p) in
        rw (blocks_block head_at block_at laws c s e d ws p) (more (block_words c s e d ws p) (ih e d (length ws) m a.others))
    go (tail e) p ih = rw (blocks_tail head_at block_at laws c s e p) (grove empty 0 refl (refl, refl))
    go (bad_block q x) p ih =
        let w : refused q (pos + x) ≡ fine = rw (blocks_bad head_at block_at laws c s q x p) at h in
        let z : ◌≡◌ {A = ℕ} 0 1 = cc in absurd (omega arith)

-- The head, and blocks.
data Whole (r : Run (List ℕ)) : Type 0 where
  whole : (t : Trees) (m : ℕ) → sorts t ≡ Sort.head ∷ repeat m (Sort.block ∷ []) → Planted r t → Whole r

reading_grows : (W D : ℕ) (s : List ℕ) → judge W D 0 0 0 (map_run length (reading head_at block_at s)) ≡ fine → Whole (reading head_at block_at s)
unfolding reading map_run judge
reading_grows W D s h = go (head_at s) refl
  where
    behind : (e c : ℕ) (ws : List ℕ) (r : Run (List ℕ)) → Laid e (Sort.head ∷ []) ws → Grove r → Whole (item e c ws r)
    behind e c ws r i (grove t m o q) =
        let x = front Sort.head e c ws r t q i in
        whole x.0 m (x.1.0 ∙ ap (λ l. Sort.head ∷ l) o) x.1.1

    go : (b : HeadRead) → head_at s ≡ b → Whole (reading head_at block_at s)
    go (head e d ws) p =
        let R : Run (List ℕ) = blocks head_at block_at d (drop e s) in
        let j : judge W D 0 0 0 (item e 0 (length ws) (map_run length R)) ≡ fine = rw (p, reading) at h in
        let a : Accepted W D 0 0 0 e 0 (length ws) (map_run length R) = accepts W D 0 0 0 e 0 (length ws) (map_run length R) j in
        rw (p, reading) (behind e 0 ws R (head_words s e d ws p) (blocks_grow (suc (length (drop e s))) W D 1 (0 + e) (0 + length ws) d (drop e s) (omega arith) a.others))
    go (bad_head q x) p = let w : refused q (0 + x) ≡ fine = rw (p, reading) at h in let z : ◌≡◌ {A = ℕ} 0 1 = cc in absurd (omega arith)

-- What such a run leaves.
planted_words : (r : Run (List ℕ)) (t : Trees) → Planted r t → all_words r ≡ tree_words t
unfolding Planted all_words tree_words
planted_words done t h = absurd h
planted_words (stop q p) t h = absurd h
planted_words (item e c ws r) empty h = let a : ws ≡ [] = h.0 in let b : r ≡ done = h.1 in rw (a, b)
planted_words (item e c ws r) (tree k d p cs ts) h =
    let a : tree_words (tree k d p cs empty) ≡ ws = h.0 in
    rw (← a, append-nil, planted_words r ts h.1.1)

planted_count : (r : Run (List ℕ)) (t : Trees) → Planted r t → count_run r ≡ suc (how_many t)
unfolding Planted count_run how_many
planted_count done t h = absurd h
planted_count (stop q p) t h = absurd h
planted_count (item e c ws r) empty h = let b : r ≡ done = h.1 in rw b
planted_count (item e c ws r) (tree k d p cs ts) h = ap suc (planted_count r ts h.1.1)

-- All words end below 2^32, and in the array.
words_fit : (W D i pos at : ℕ) (r : Run (List ℕ)) (t : Trees) → Planted r t → judge W D i pos at (map_run length r) ≡ fine → (at + length (all_words r) ≤ W) × (at + length (all_words r) < half_limit)
unfolding Planted map_run all_words
words_fit W D i pos at done t h j = absurd h
words_fit W D i pos at (stop q p) t h j = absurd h
words_fit W D i pos at (item e c ws r) empty h j =
    let a : Accepted W D i pos at e c (length ws) (map_run length r) = accepts W D i pos at e c (length ws) (map_run length r) j in
    let x : ws ≡ [] = h.0 in
    let y : r ≡ done = h.1 in
    let f : at + length ws ≤ W = a.fits.words in
    let g : at + length ws < half_limit = a.fits.small in
    rw (x, y) (rw x at f, rw x at g)
words_fit W D i pos at (item e c ws r) (tree k d p cs ts) h j =
    let a : Accepted W D i pos at e c (length ws) (map_run length r) = accepts W D i pos at e c (length ws) (map_run length r) j in
    let ih : (at + length ws + length (all_words r) ≤ W) × (at + length ws + length (all_words r) < half_limit) = words_fit W D (suc i) (pos + e) (at + length ws) r ts h.1.1 a.others in
    (omega (arith, ih.0, length-append ws (all_words r)), omega (arith, ih.1, length-append ws (all_words r)))

next_entry : (words dir : List ℕ) (x y z i : ℕ) → piece_words words (x ∷ y ∷ z ∷ dir) (suc i) ≡ piece_words words dir i
unfolding piece_words
next_entry words dir x y z i =
    let e : suc i * entry_words + 1 ≡ suc (suc (suc (i * entry_words + 1))) = omega arith in
    ap (λ (n : ℕ). take (lo (get_or (x ∷ y ∷ z ∷ dir) n 0)) (drop (hi (get_or (x ∷ y ∷ z ∷ dir) n 0)) words)) e

-- the first entry names the words behind those of the pieces before it
first_entry : (pos e at c : ℕ) (pre ws rest dir : List ℕ) → length pre ≡ at → length ws < half_limit → piece_words (pre ++ (ws ++ rest)) (pack pos e ∷ pack at (length ws) ∷ c ∷ dir) 0 ≡ ws
unfolding piece_words pack
first_entry pos e at c pre ws rest dir l s =
    let h : (at * half_limit + length ws) / half_limit ≡ at = digits_div at s in
    let m : (at * half_limit + length ws) % half_limit ≡ length ws = digits_mod at s in
    rw (h, m, drop_at pre (ws ++ rest) at l) (take_at ws rest (length ws) refl)

each_piece : (W D n pos at : ℕ) (pre zs ys : List ℕ) (r : Run (List ℕ)) (t : Trees) → Planted r t → judge W D n pos at (map_run length r) ≡ fine → length pre ≡ at → (i : ℕ) → i < count_run r
    → piece_words (pre ++ (all_words r ++ zs)) (entries pos at r ++ ys) i ≡ tree_words (tree_at t i)
unfolding Planted map_run all_words entries count_run tree_at tree_words
each_piece W D n pos at pre zs ys done t h j l i b = absurd h
each_piece W D n pos at pre zs ys (stop q p) t h j l i b = absurd h
each_piece W D n pos at pre zs ys (item e c ws r) empty h j l zero b =
    let a : Accepted W D n pos at e c (length ws) (map_run length r) = accepts W D n pos at e c (length ws) (map_run length r) j in
    rw (append_assoc ws (all_words r) zs) (first_entry pos e at c pre ws (all_words r ++ zs) _ l (omega (arith, a.fits.small)) ∙ h.0)
each_piece W D n pos at pre zs ys (item e c ws r) empty h j l (suc i) b = let y : r ≡ done = h.1 in absurd (omega (arith, ap count_run y))
each_piece W D n pos at pre zs ys (item e c ws r) (tree k d p cs ts) h j l zero b =
    let a : Accepted W D n pos at e c (length ws) (map_run length r) = accepts W D n pos at e c (length ws) (map_run length r) j in
    rw (append_assoc ws (all_words r) zs) (first_entry pos e at c pre ws (all_words r ++ zs) _ l (omega (arith, a.fits.small)) ∙ sym h.0)
each_piece W D n pos at pre zs ys (item e c ws r) (tree k d p cs ts) h j l (suc i) b =
    let a : Accepted W D n pos at e c (length ws) (map_run length r) = accepts W D n pos at e c (length ws) (map_run length r) j in
    let g : pre ++ ((ws ++ all_words r) ++ zs) ≡ (pre ++ ws) ++ (all_words r ++ zs) = simp append_assoc in
    next_entry (pre ++ ((ws ++ all_words r) ++ zs)) (entries (pos + e) (at + length ws) r ++ ys) (pack pos e) (pack at (length ws)) c i
    ∙ rw g (each_piece W D (suc n) (pos + e) (at + length ws) (pre ++ ws) zs ys r ts h.1.1 a.others (length-append pre ws ∙ ap (λ (m : ℕ). m + length ws) l) i (omega arith))

-- A text's pieces are as long as their entries say, and their names lie in them.
next_length : (dir : List ℕ) (x y z i : ℕ) → piece_length (x ∷ y ∷ z ∷ dir) (suc i) ≡ piece_length dir i
unfolding piece_length
next_length dir x y z i =
    let e : suc i * entry_words ≡ suc (suc (suc (i * entry_words))) = omega arith in
    ap (λ (n : ℕ). lo (get_or (x ∷ y ∷ z ∷ dir) n 0)) e

each_inside : (T pos at : ℕ) (ys : List ℕ) (r : Run (List ℕ)) (t : Trees) → Planted r t → pos + sizes r ≤ T → T < half_limit → (i : ℕ) → Formed (piece_length (entries pos at r ++ ys) i) (tree_at t i)
unfolding Planted entries sizes tree_at piece_length pack
each_inside T pos at ys done t h l b i = absurd h
each_inside T pos at ys (stop q p) t h l b i = absurd h
each_inside T pos at ys (item e c ws r) empty h l b i = tt
each_inside T pos at ys (item e c ws r) (tree k d p cs ts) h l b zero =
    let s : e < half_limit = omega arith in
    let m : piece_length (entries pos at (item e c ws r) ++ ys) 0 ≡ e = digits_mod pos s in
    subst (λ (x : ℕ). Formed x (tree k d p cs empty)) (sym m) h.1.0
each_inside T pos at ys (item e c ws r) (tree k d p cs ts) h l b (suc i) =
    let n : piece_length (pack pos e ∷ pack at (length ws) ∷ c ∷ (entries (pos + e) (at + length ws) r ++ ys)) (suc i) ≡ piece_length (entries (pos + e) (at + length ws) r ++ ys) i =
    next_length (entries (pos + e) (at + length ws) r ++ ys) (pack pos e) (pack at (length ws)) c i in
    rw n (each_inside T (pos + e) (at + length ws) ys r ts h.1.1 (omega arith) b i)

-- In more bytes they lie too.
is_more : (n m : ℕ) (f : Field) (x : ℕ) → n ≤ m → Is n f x → Is m f x
is_more n m named x l (name_in i k e a b) = name_in i k e a (omega arith)
is_more n m optional x l (inl e) = inl e
is_more n m optional x l (inr (name_in i k e a b)) = inr (name_in i k e a (omega arith))
is_more n m (number u v) x l h = h
is_more n m any x l h = h

are_more : (n m : ℕ) (fs : List Field) (xs : List ℕ) → n ≤ m → Are n fs xs → Are m fs xs
are_more n m [] [] l h = h
are_more n m [] (x ∷ xs) l h = absurd h
are_more n m (f ∷ fs) [] l h = absurd h
are_more n m (f ∷ fs) (x ∷ xs) l h = (is_more n m f x l h.0, are_more n m fs xs l h.1)

formed_more : (n m : ℕ) (t : Trees) → n ≤ m → Formed n t → Formed m t
formed_more n m empty l h = tt
formed_more n m (tree k d p cs ts) l h = (go h.0, (formed_more n m cs l h.1.0, formed_more n m ts l h.1.1))
  where
    go : Fits n k d p cs → Fits m k d p cs
    go (fits c t a s y b q) = fits c t (are_more n m (payload_of (form_of k d c)) p l a) s y b q

planted_formed : (T pos : ℕ) (r : Run (List ℕ)) (t : Trees) → Planted r t → pos + sizes r ≤ T → Formed T t
unfolding Planted sizes
planted_formed T pos done t h l = absurd h
planted_formed T pos (stop q p) t h l = absurd h
planted_formed T pos (item e c ws r) empty h l = tt
planted_formed T pos (item e c ws r) (tree k d p cs ts) h l =
    let f : Formed T (tree k d p cs empty) = formed_more e T (tree k d p cs empty) (omega arith) h.1.0 in
    (f.0, (f.1.0, planted_formed T (pos + e) r ts h.1.1 (omega arith)))

-- M-111: what an accepted reading leaves are the trees of a function.
pub accepted_function : (W D n : ℕ) (ws ds text : List ℕ) → reading_of W D text ≡ left (count n) ws ds → Function n ws ds
unfolding reading_of pad
accepted_function W D n ws ds text h =
    let A : Accepts head_at block_at laws W D n ws ds text = accepted head_at block_at laws W D n ws ds text h in
    go A (reading_grows W D text A.judged)
  where
    R : Run (List ℕ)
    R = reading head_at block_at text

    go : Accepts head_at block_at laws W D n ws ds text → Whole R → Function n ws ds
    go A (whole t m o q) =
        let w : all_words R ≡ tree_words t = planted_words R t q in
        let fit : (0 + length (all_words R) ≤ W) × (0 + length (all_words R) < half_limit) = words_fit W D 0 0 0 R t q A.judged in
        let l : length ws ≡ W = ap length A.words ∙ length_pad W (all_words R) (omega (arith, fit.0)) in
        let long : length text ≤ text_limit = text_short text A.asked in
        let in_text : sizes R ≤ length text = sizes_reading head_at block_at laws text in
        let many : how_many t ≡ suc m = many_sorts t ∙ ap length o ∙ ap suc (repeat_length m Sort.block) in
        record {
          trees = t;
          blocks = m;
          formed = planted_formed text_limit 0 R t q (omega arith);
          pieces = o;
          entries = omega (arith, A.number, planted_count R t q);
          small = rw (← w) (omega (arith, fit.1));
          all = rw (l, ← w) A.words;
          each = λ i b. rw (A.words, A.dir) (each_piece W D 0 0 0 [] (replicate (W - length (all_words R)) 0) (replicate (D - length (entries 0 0 R)) 0) R t q A.judged refl i (omega (arith, A.number)));
          inside = λ i b. rw A.dir (each_inside text_limit 0 0 (replicate (D - length (entries 0 0 R)) 0) R t q (omega arith) (omega arith) i);
        }

-- "what an accepted reading leaves" is also what an accepted re-reading leaves, from the records of an accepted text: demand 3.
pub accepted_again : (W D n m : ℕ) (ws ds us es older newer : List ℕ) → reading_of W D older ≡ left (count n) ws ds → left_of (rereading_of ws ds n older newer) ≡ left (count m) us es → Function m us es
accepted_again W D n m ws ds us es older newer h k = accepted_function W D m us es newer (alike ws ds (reading_of W D newer) m us es (sym (again_same W D n ws ds older newer h) ∙ k))

-- One of several trees alone.
alone : (t : Trees) (i : ℕ) (ss : List Sort) (s : Sort) → sorts t ≡ ss → i < length ss → get_or ss i s ≡ s → sorts (tree_at t i) ≡ s ∷ []
unfolding sorts tree_at
alone empty i [] s o l e = absurd (omega arith)
alone empty i (x ∷ ss) s o l e = let z : ◌≡◌ {A = ℕ} 0 1 = cc in absurd (omega arith)
alone (tree k d p cs ts) i [] s o l e = absurd (omega arith)
alone (tree k d p cs ts) zero (x ∷ ss) s o l e = let q : sort_of k ≡ s = cc in rw q
alone (tree k d p cs ts) (suc i) (x ∷ ss) s o l e = alone ts i ss s (cc) (omega arith) e

shorter : (t : Trees) (i : ℕ) → length (tree_words (tree_at t i)) ≤ length (tree_words t)
unfolding tree_words tree_at
shorter empty i = omega arith
shorter (tree k d p cs ts) zero =
    let x : List ℕ = node (kind k) d (how_many cs) (p ++ tree_words cs) in
    omega (arith, length-append x [], length-append x (tree_words ts))
shorter (tree k d p cs ts) (suc i) =
    let x : List ℕ = node (kind k) d (how_many cs) (p ++ tree_words cs) in
    omega (arith, shorter ts i, length-append x (tree_words ts))

block_sort : (m i : ℕ) → get_or (repeat m (Sort.block ∷ [])) i Sort.block ≡ Sort.block
unfolding repeat
block_sort zero i = refl
block_sort (suc m) zero = refl
block_sort (suc m) (suc i) = block_sort m i

piece_sort : (m i : ℕ) → get_or (Sort.head ∷ repeat m (Sort.block ∷ [])) i (sort_of_piece i) ≡ sort_of_piece i
unfolding sort_of_piece
piece_sort m zero = refl
piece_sort m (suc i) = block_sort m i

-- "the words of each piece but the tail are the words of exactly one tree, whose root is a head or a block"
pub piece_tree : (n : ℕ) (ws ds : List ℕ) → Function n ws ds → (i : ℕ) → i + 1 < n → OneTree (piece_length ds i) (sort_of_piece i) (piece_words ws ds i)
piece_tree n ws ds F i l =
    let t : Trees = tree_at F.trees i in
    let many : length (Sort.head ∷ repeat F.blocks (Sort.block ∷ [])) ≡ suc F.blocks = ap suc (repeat_length F.blocks Sort.block) in
    let o : sorts t ≡ sort_of_piece i ∷ [] = alone F.trees i _ (sort_of_piece i) F.pieces (omega (arith, F.entries)) (piece_sort F.blocks i) in
    let f : Formed (piece_length ds i) t = F.inside i (omega arith) in
    let w : piece_words ws ds i ≡ tree_words t = F.each i (omega arith) in
    let one : how_many t ≡ 1 = many_sorts t ∙ ap length o in
    record {
      the = t;
      formed = f;
      sort = o;
      its = sym w;
      only = λ m u g p e. sym (one_tree (piece_length ds i) m t u f g one p (omega (arith, F.small, shorter F.trees i)) (sym w ∙ sym e));
    }

behind_all : (t : Trees) (i : ℕ) → how_many t ≤ i → tree_words (tree_at t i) ≡ []
unfolding how_many tree_at tree_words
behind_all empty i l = refl
behind_all (tree k d p cs ts) zero l = absurd (omega arith)
behind_all (tree k d p cs ts) (suc i) l = behind_all ts i (omega arith)

-- the tail has none
pub tail_words_lem : (n : ℕ) (ws ds : List ℕ) → Function n ws ds → (i : ℕ) → i + 1 ≡ n → piece_words ws ds i ≡ []
tail_words_lem n ws ds F i e =
    let many : how_many F.trees ≡ suc F.blocks = many_sorts F.trees ∙ ap length F.pieces ∙ ap suc (repeat_length F.blocks Sort.block) in
    F.each i (omega arith) ∙ behind_all F.trees i (omega (arith, F.entries))
