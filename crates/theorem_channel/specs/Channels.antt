-- M-102: the calls of an accepted function are those of its trees, and so is the answer for each.
-- The words are the trees' words with zeros behind, so the steps find what the trees have.
-- Assumes nothing.
use Rattle.std.specs.Prelude.{◌≡◌, refl, Bool, true, false, ◌&&◌, List, [], ◌∷◌, ◌++◌, map, ◌↔◌, ℕ, zero, suc, ◌+◌, ◌-◌, ◌≤◌, ◌<◌, ltb, leb, eqb, length, get_or, drop, replicate}
use Rattle.std.proofs.Common.{sym, ap, ◌∙◌, subst, append_assoc, arith, length-append, leb-true}
use Rattle.std.proofs.lemmas.List.{map-append, length-map}
use Rattle.std.proofs.Math.Option.{Option, none, some}
use Rattle.program.specs.Choice.{pick}
use Rattle.records.specs.Limits.{text_limit, half_limit, entry_words, class_limit, channel_limit}
use Rattle.records.specs.Words.{node}
use Rattle.records.specs.Kinds.{kind, IntConst, Call}
use Rattle.records.specs.Pieces.{pad, left, count}
use Rattle.grammar.specs.Function.{reading_of}
use Rattle.trees.specs.Tree.{Trees, empty, tree, how_many, tree_words, behind_first}
use Rattle.trees.specs.Forms.{Sort, head, block, sort_of, sorts, repeat, Formed}
use Rattle.trees.specs.Steps.{kind_in, detail_in, children_in, word_at, child_of, next_of}
use Rattle.trees.specs.Function.{Function}
use Rattle.theorem_refusals.specs.Trees.{many_sorts, repeat_length}
use Rattle.theorem_trees.specs.Function.{accepted_function}
use Rattle.map_spec.specs.Blocks.{piece_text, first_node, behind_node}
use Rattle.theorem_map.specs.Words.{behind_node_lem}
use Rattle.channel_spec.specs.declared.Rule.{Rule}
use Rattle.channel_spec.specs.Told.{Answer}
use Rattle.channel_spec.specs.declared.Fired.{Fired}
use Rattle.channel_spec.specs.declared.Fired.TheVariants.{Channel, Undecided, Nothing}
use Rattle.channel_spec.specs.Fires.{constant, callee_place, from, calls_fire, constant_of, fire_of, fires_of, block_fires, function_fires, child_at, calls_fire_at, constant_at, fire_in, fire_here, fires_from, fires_in, blocks_in, word_fires, nth}
use Rattle.channel_spec.specs.Answers.{answer_no, answer_yes, answer_undecided, answer_none, answer_of, ruling, channel_rule}
use Rattle.theorem_channel.specs.Table.{Stands, OneRule, KeepsClass, IsChannel, stands, undecided_exactly, none_exactly, answer_of_rule, answers_apart}
use Rattle.theorem_channel.specs.Calls.{SaysChannel, blocks_from_lem, channel_exactly, constant_undecided}

-- A call says a channel or is undecided.
abbrev Says : Fired → Type 0
Says (Channel x) = x ≤ channel_limit
Says Undecided = Unit {0}
Says Nothing = ⊥

abbrev SayAll : List Fired → Type 0
SayAll [] = Unit {0}
SayAll (f ∷ fs) = Says f × SayAll fs

-- The first arguments of the calls to `@fire`, in record order, over the trees: each is the trees from it on, so none where it is absent.
unfoldable pub argument_of : (piece : List ℕ) → Trees → List Trees
argument_of piece ts = elim (calls_fire piece ts) [ true ↦ from 2 ts ∷ [] | false ↦ [] ]

unfoldable pub arguments_of : (piece : List ℕ) → Trees → List Trees
arguments_of piece empty = []
arguments_of piece (tree k d p cs ts) = elim (eqb (kind k) (kind Call)) [ true ↦ argument_of piece (from (callee_place d) cs) ++ arguments_of piece ts | false ↦ arguments_of piece ts ]

unfoldable pub block_arguments : (text : List ℕ) → Trees → (dir : List ℕ) → List Trees
block_arguments text empty dir = []
block_arguments text (tree k d p cs ts) [] = []
block_arguments text (tree k d p cs ts) (x ∷ []) = []
block_arguments text (tree k d p cs ts) (x ∷ y ∷ []) = []
block_arguments text (tree k d p cs ts) (x ∷ y ∷ c ∷ dir) = arguments_of (piece_text text x) cs ++ block_arguments text ts dir

unfoldable pub first_arguments : (text : List ℕ) → Trees → (dir : List ℕ) → List Trees
first_arguments text trees dir = block_arguments text (behind_first trees) (drop entry_words dir)

-- M-102, for an accepted function, a class and a table that is not refused: the answer is "none past the last" call and there alone; "undecided is
-- exactly for a first argument that is absent or not an integer constant from 0 to 65,535"; and for any other the answer is "that of the one rule of the
-- class covering the channel".
abbrev pub Answers : (asked m n : ℕ) (rs : List Rule) (text ws ds : List ℕ) → List Trees → Type 0
Answers asked m n rs text ws ds args =
    ((channel_rule asked m n rs text ws ds ≡ Answer answer_none) ↔ (length args ≤ m))
    × ((m < length args → (channel_rule asked m n rs text ws ds ≡ Answer answer_undecided) ↔ ((x : ℕ) → SaysChannel x (get_or args m empty) → ⊥))
    × ((x : ℕ) → m < length args → SaysChannel x (get_or args m empty)
    → OneRule asked x rs (λ r. channel_rule asked m n rs text ws ds ≡ Answer (pick (ltb 0 r.allowed) answer_yes answer_no))))

-- Over the words of a head and of blocks, with others behind.
over_trees : (n : ℕ) (text ws ds r : List ℕ) (t : Trees) (m : ℕ) → Formed text_limit t → sorts t ≡ head ∷ repeat m (block ∷ []) → n ≡ m + 2 → length (tree_words t) < half_limit → ws ≡ tree_words t ++ r
    → word_fires n text ws ds ≡ function_fires text t ds
unfolding word_fires function_fires behind_first tree_words node sorts
over_trees n text ws ds r empty m f o c s e = let z : ◌≡◌ {A = ℕ} 0 1 = cc in absurd (omega arith)
over_trees n text ws ds r (tree k d p cs ts) m f o c s e =
    let N : List ℕ = node (kind k) d (how_many cs) (p ++ tree_words cs) in
    let small : suc (length (p ++ tree_words cs)) < half_limit = omega (arith, length-append N (tree_words ts)) in
    let behind : behind_node ws ≡ tree_words ts ++ r = behind_node_lem ws k d p cs (tree_words ts ++ r) f.0 small (e ∙ append_assoc N (tree_words ts) r) in
    let many : how_many ts ≡ m = many_sorts ts ∙ ap length (rest (sort_of k) (sorts ts) (repeat m (block ∷ [])) o) ∙ repeat_length m block in
    let u : n - 2 ≡ how_many ts = omega arith in
    rw (word_fires, behind, u) (blocks_from_lem text_limit text (tree_words ts ++ r) ts r (drop entry_words ds) f.1.1 (omega (arith, length-append N (tree_words ts))) refl)
  where
    rest : (a : Sort) (xs ys : List Sort) → a ∷ xs ≡ head ∷ ys → xs ≡ ys
    rest a xs ys g = cc

-- "call to `@fire` in an accepted function, from 0 in record order": the steps over the words find the calls that the trees have, in their order.
pub fires_of_trees : (n : ℕ) (text ws ds : List ℕ) (F : Function n ws ds) → word_fires n text ws ds ≡ function_fires text F.trees ds
unfolding pad
fires_of_trees n text ws ds F = over_trees n text ws ds (replicate (length ws - length (tree_words F.trees)) 0) F.trees F.blocks F.formed F.pieces F.entries F.small F.all

-- "For one class and the n-th call to `@fire` in an accepted function": the answer is for call number m of the trees of the function.
pub accepted_fires : (W D n : ℕ) (ws ds text : List ℕ) → reading_of W D text ≡ left (count n) ws ds
    → (T : Function n ws ds) × ((word_fires n text ws ds ≡ function_fires text T.trees ds)
    × ((asked m : ℕ) (rs : List Rule) → channel_rule asked m n rs text ws ds ≡ ruling asked rs (nth m (function_fires text T.trees ds))))
unfolding channel_rule
accepted_fires W D n ws ds text h =
    let F : Function n ws ds = accepted_function W D n ws ds text h in
    let e : word_fires n text ws ds ≡ function_fires text F.trees ds = fires_of_trees n text ws ds F in
    (F, (e, λ asked m rs. ap (λ (fs : List Fired). ruling asked rs (nth m fs)) e))

-- So do all that are found, whatever the words.
all_behind : (fs gs : List Fired) → SayAll fs → SayAll gs → SayAll (fs ++ gs)
all_behind [] gs h k = k
all_behind (f ∷ fs) gs h k = (h.0, all_behind fs gs h.1 k)

constant_says : (u l : ℕ) → Says (constant u l)
unfolding constant
constant_says u l = go (eqb u 0) (leb l channel_limit) refl
  where
    go : (a b : Bool) → leb l channel_limit ≡ b → Says (elim (a && b) [ true ↦ Channel l | false ↦ Undecided ])
    go true true q = leb-true l channel_limit q
    go true false q = tt
    go false b q = tt

says_at : (ws : List ℕ) (o : Option ℕ) → Says (constant_at ws o)
unfolding constant_at
says_at ws none = tt
says_at ws (some at) = go (eqb (kind_in (word_at ws at)) (kind IntConst))
  where
    go : (b : Bool) → Says (elim b [ true ↦ constant (word_at ws (at + 1)) (word_at ws (at + 2)) | false ↦ Undecided ])
    go true = constant_says (word_at ws (at + 1)) (word_at ws (at + 2))
    go false = tt

say_here : (piece ws : List ℕ) → SayAll (fire_here piece ws)
unfolding fire_here fire_in
say_here piece ws = go (eqb (kind_in (word_at ws 0)) (kind Call))
  where
    j : ℕ
    j = callee_place (detail_in (word_at ws 0))

    one : (b : Bool) (f : Fired) → Says f → SayAll (elim b [ true ↦ f ∷ [] | false ↦ [] ])
    one true f h = (h, tt)
    one false f h = tt

    go : (b : Bool) → SayAll (elim b [ true ↦ fire_in piece ws j | false ↦ [] ])
    go true = one (calls_fire_at piece ws (child_at j ws)) (constant_at ws (child_at (j + 2) ws)) (says_at ws (child_at (j + 2) ws))
    go false = tt

say_from : (m : ℕ) (piece ws : List ℕ) (o : Option ℕ) → SayAll (fires_from m piece ws o)
unfolding fires_from
say_from zero piece ws o = tt
say_from (suc m) piece ws none = tt
say_from (suc m) piece ws (some at) =
    all_behind (fire_here piece (first_node (drop at ws))) (fires_from m piece ws (next_of ws at (length ws))) (say_here piece (first_node (drop at ws))) (say_from m piece ws (next_of ws at (length ws)))

say_blocks : (n : ℕ) (text ws dir : List ℕ) → SayAll (blocks_in n text ws dir)
unfolding blocks_in fires_in
say_blocks zero text ws dir = tt
say_blocks (suc n) text ws [] = tt
say_blocks (suc n) text ws (x ∷ []) = tt
say_blocks (suc n) text ws (x ∷ y ∷ []) = tt
say_blocks (suc n) text ws (x ∷ y ∷ c ∷ dir) =
    let own : List ℕ = first_node ws in
    all_behind (fires_in (piece_text text x) own) (blocks_in n text (behind_node ws) dir) (say_from (children_in (word_at own 0)) (piece_text text x) own (child_of own 0)) (say_blocks n text (behind_node ws) dir)

say_all : (n : ℕ) (text ws ds : List ℕ) → SayAll (word_fires n text ws ds)
unfolding word_fires
say_all n text ws ds = say_blocks (n - 2) text (behind_node ws) (drop entry_words ds)

-- There is no such call past the last, and there alone.
nothing_past : (m : ℕ) (fs : List Fired) → SayAll fs → (nth m fs ≡ Nothing) ↔ (length fs ≤ m)
unfolding nth
nothing_past m [] h = (λ e. omega arith, λ l. refl)
nothing_past zero (f ∷ fs) h = ((λ e. absurd (subst Says e h.0)), λ l. absurd (omega arith))
nothing_past (suc m) (f ∷ fs) h = let n : (nth m fs ≡ Nothing) ↔ (length fs ≤ m) = nothing_past m fs h.1 in ((λ e. omega (arith, n.0 e)), λ l. n.1 (omega arith))

nth_channel : (m : ℕ) (fs : List Fired) → SayAll fs → IsChannel (nth m fs)
unfolding nth
nth_channel m [] h = tt
nth_channel zero (f ∷ fs) h = go f h.0
  where
    go : (f : Fired) → Says f → IsChannel f
    go (Channel x) h = h
    go Undecided h = tt
    go Nothing h = absurd h
nth_channel (suc m) (f ∷ fs) h = nth_channel m fs h.1

-- no two answers are told alike
told : (a b : ℕ) → Answer a ≡ Answer b → a ≡ b
told a b h = cc

-- Of a table that stands, for any words: what is told is the answer, and it is "none past the last" exactly.
pub answered : (asked m n : ℕ) (rs : List Rule) (text ws ds : List ℕ) → asked ≤ class_limit → Stands rs → channel_rule asked m n rs text ws ds ≡ Answer (answer_of asked rs (nth m (word_fires n text ws ds)))
unfolding channel_rule ruling
answered asked m n rs text ws ds l s = stands asked rs (Answer (answer_of asked rs (nth m (word_fires n text ws ds)))) l s

pub none_past_last : (asked m n : ℕ) (rs : List Rule) (text ws ds : List ℕ) → asked ≤ class_limit → Stands rs
    → (channel_rule asked m n rs text ws ds ≡ Answer answer_none) ↔ (length (word_fires n text ws ds) ≤ m)
none_past_last asked m n rs text ws ds l s =
    let f : Fired = nth m (word_fires n text ws ds) in
    let e : channel_rule asked m n rs text ws ds ≡ Answer (answer_of asked rs f) = answered asked m n rs text ws ds l s in
    let p : (f ≡ Nothing) ↔ (length (word_fires n text ws ds) ≤ m) = nothing_past m (word_fires n text ws ds) (say_all n text ws ds) in
    let q : (answer_of asked rs f ≡ answer_none) ↔ (f ≡ Nothing) = none_exactly asked rs f in
    ((λ h. p.0 (q.0 (told (answer_of asked rs f) answer_none (sym e ∙ h)))), λ h. e ∙ ap Answer (q.1 (p.1 h)))

-- "between two tables not refused, rules of one class never alter answers for another": whatever the words, two tables that answer for a class and
-- have its rules in common answer alike, whatever the rules of the other classes.
pub rules_apart : (rs rs' : List Rule) (c m n : ℕ) (text ws ds : List ℕ) (a b : ℕ) → KeepsClass c rs rs' → channel_rule c m n rs text ws ds ≡ Answer a → channel_rule c m n rs' text ws ds ≡ Answer b → a ≡ b
unfolding channel_rule
rules_apart rs rs' c m n text ws ds a b k g h =
    answers_apart rs rs' c (nth m (word_fires n text ws ds)) a b (nth_channel m (word_fires n text ws ds) (say_all n text ws ds)) k g h

-- What the first arguments say is what the calls say.
says_both : (xs ys : List Trees) (fs gs : List Fired) → map constant_of xs ≡ fs → map constant_of ys ≡ gs → map constant_of (xs ++ ys) ≡ fs ++ gs
says_both xs ys fs gs e q = map-append constant_of xs ys ∙ ap (λ (l : List Fired). l ++ map constant_of ys) e ∙ ap (λ (l : List Fired). fs ++ l) q

says_one : (piece : List ℕ) (ts : Trees) → map constant_of (argument_of piece ts) ≡ fire_of piece ts
unfolding argument_of fire_of
says_one piece ts = go (calls_fire piece ts) refl
  where
    go : (b : Bool) → calls_fire piece ts ≡ b → map constant_of (argument_of piece ts) ≡ fire_of piece ts
    go true q = rw (argument_of, fire_of, q)
    go false q = rw (argument_of, fire_of, q)

says_among : (piece : List ℕ) (t : Trees) → map constant_of (arguments_of piece t) ≡ fires_of piece t
unfolding arguments_of fires_of
says_among piece empty = refl
says_among piece (tree k d p cs ts) = go (eqb (kind k) (kind Call)) (says_among piece ts)
  where
    call : Trees
    call = from (callee_place d) cs

    go : (b : Bool) → map constant_of (arguments_of piece ts) ≡ fires_of piece ts
        → map constant_of (elim b as (λ x. List Trees) [ true ↦ argument_of piece call ++ arguments_of piece ts | false ↦ arguments_of piece ts ]) ≡ elim b [ true ↦ fire_of piece call ++ fires_of piece ts | false ↦ fires_of piece ts ]
    go true e = says_both (argument_of piece call) (arguments_of piece ts) (fire_of piece call) (fires_of piece ts) (says_one piece call) e
    go false e = e

says_blocks : (text : List ℕ) (t : Trees) (dir : List ℕ) → map constant_of (block_arguments text t dir) ≡ block_fires text t dir
unfolding block_arguments block_fires
says_blocks text empty dir = refl
says_blocks text (tree k d p cs ts) [] = refl
says_blocks text (tree k d p cs ts) (x ∷ []) = refl
says_blocks text (tree k d p cs ts) (x ∷ y ∷ []) = refl
says_blocks text (tree k d p cs ts) (x ∷ y ∷ c ∷ dir) =
    says_both (arguments_of (piece_text text x) cs) (block_arguments text ts dir) (fires_of (piece_text text x) cs) (block_fires text ts dir) (says_among (piece_text text x) cs) (says_blocks text ts dir)

pub arguments_say : (text : List ℕ) (t : Trees) (dir : List ℕ) → map constant_of (first_arguments text t dir) ≡ function_fires text t dir
unfolding first_arguments function_fires
arguments_say text t dir = says_blocks text (behind_first t) (drop entry_words dir)

nth_says : (m : ℕ) (ts : List Trees) → m < length ts → nth m (map constant_of ts) ≡ constant_of (get_or ts m empty)
unfolding nth
nth_says m [] l = absurd (omega arith)
nth_says zero (t ∷ ts) l = refl
nth_says (suc m) (t ∷ ts) l = nth_says m ts (omega arith)

answers_of_trees : (n : ℕ) (text ws ds : List ℕ) (F : Function n ws ds) (asked m : ℕ) (rs : List Rule) → asked ≤ class_limit → Stands rs → Answers asked m n rs text ws ds (first_arguments text F.trees ds)
unfolding channel_rule
answers_of_trees n text ws ds F asked m rs l s =
    let ts : List Trees = first_arguments text F.trees ds in
    let f : Fired = nth m (word_fires n text ws ds) in
    let e : word_fires n text ws ds ≡ map constant_of ts = fires_of_trees n text ws ds F ∙ sym (arguments_say text F.trees ds) in
    let long : length (word_fires n text ws ds) ≡ length ts = ap length e ∙ length-map ts constant_of in
    let a : channel_rule asked m n rs text ws ds ≡ Answer (answer_of asked rs f) = answered asked m n rs text ws ds l s in
    let one : m < length ts → f ≡ constant_of (get_or ts m empty) = λ u. ap (nth m) e ∙ nth_says m ts u in
    let past : (channel_rule asked m n rs text ws ds ≡ Answer answer_none) ↔ (length (word_fires n text ws ds) ≤ m) = none_past_last asked m n rs text ws ds l s in
    let unsaid : (answer_of asked rs f ≡ answer_undecided) ↔ (f ≡ Undecided) = undecided_exactly asked rs f in
    let other : (constant_of (get_or ts m empty) ≡ Undecided) ↔ ((x : ℕ) → SaysChannel x (get_or ts m empty) → ⊥) = constant_undecided (get_or ts m empty) in (
      ((λ q. omega (arith, past.0 q)), λ u. past.1 (omega arith)),
      (
        (λ u. ((λ q. other.0 (sym (one u) ∙ unsaid.0 (told (answer_of asked rs f) answer_undecided (sym a ∙ q)))), λ q. a ∙ ap Answer (unsaid.1 (one u ∙ other.1 q)))),
        λ x u c.
            let r : OneRule asked x rs (λ v. ruling asked rs (Channel x) ≡ Answer (pick (ltb 0 v.allowed) answer_yes answer_no)) =
            answer_of_rule rs s asked x l (below (get_or ts m empty) x c) in
            (r.0, (r.1.0, (r.1.1.0, (r.1.1.1.0, ap (ruling asked rs) (one u ∙ (channel_exactly (get_or ts m empty) x).1 c) ∙ r.1.1.1.1)))),
      ),
    )
  where
    below : (t : Trees) (x : ℕ) → SaysChannel x t → x ≤ channel_limit
    below empty x c = absurd c
    below (tree k d p cs ts) x c = c.1.1

-- M-102 for an accepted function: the answers are for the calls in its trees.
pub accepted_answers : (W D n : ℕ) (ws ds text : List ℕ) → reading_of W D text ≡ left (count n) ws ds
    → (T : Function n ws ds) × ((asked m : ℕ) (rs : List Rule) → asked ≤ class_limit → Stands rs → Answers asked m n rs text ws ds (first_arguments text T.trees ds))
accepted_answers W D n ws ds text h = let F : Function n ws ds = accepted_function W D n ws ds text h in (F, answers_of_trees n text ws ds F)
