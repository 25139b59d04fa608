-- Two edits inside two different blocks end in the same records in either order (02: M-113).
-- The blocks stand one behind the other, so both orders end in one text; and the records are those of its full reading, by the afternoon.
-- Assumes nothing.
use Rattle.std.specs.Prelude.{◌≡◌, refl, Bool, true, false, List, [], ◌∷◌, ◌++◌, ℕ, zero, suc, ◌+◌, ◌-◌, ◌*◌, ◌≤◌, ◌<◌, leb, length, take, drop, get_or}
use Rattle.std.proofs.Common.{sym, ap, ◌∙◌, append_assoc, arith, length-append, length-drop, take-append-drop, length-take-le, take-take, drop-drop, take_at, drop_at}
use Rattle.std.proofs.Math.Option.{none, some}
use Rattle.std.proofs.lemmas.List.{drop-append-le, take-append-le}
use Rattle.records.specs.Limits.{entry_words}
use Rattle.records.specs.Words.{hi, lo}
use Rattle.records.specs.Pieces.{Old, chain, olds, left, count, left_of}
use Rattle.grammar.specs.Function.{reading_of, rereading_of}
use Rattle.theorem_edits.specs.Chain.{Step, step}
use Rattle.theorem_edits.specs.Again.{reading_chained}
use Rattle.theorem_edits.specs.Afternoon.{State, Recorded, accepted_recorded}

-- An edit: from a place on so many bytes are replaced by others.
pub record Edit : Type 0 where
  pub at : ℕ
  pub many : ℕ
  pub bytes : List ℕ

unfoldable pub edited : Edit → List ℕ → List ℕ
edited e text = take e.at text ++ (e.bytes ++ drop (e.at + e.many) text)

-- The same edit in a text in which `first` was made before it, further in front: moved by what that put in and took out.
unfoldable pub behind : (first e : Edit) → Edit
behind first e = record { at = e.at - first.many + length first.bytes; many = e.many; bytes = e.bytes }

-- Where piece k starts in the text, and where it ends, by its entry in the directory.
unfoldable pub start_of : List ℕ → ℕ → ℕ
start_of dir k = hi (get_or dir (k * entry_words) 0)

unfoldable pub end_of : List ℕ → ℕ → ℕ
end_of dir k = hi (get_or dir (k * entry_words) 0) + lo (get_or dir (k * entry_words) 0)

-- "Inside" block k, which is neither head nor tail: the bytes that are replaced are bytes of that piece, its space and comments behind included. What
-- comes in their place is free: the block may become two, or one with the next.
pub record InBlock (s : State) (k : ℕ) (e : Edit) : Type 0 where
  pub no_head : 1 ≤ k
  pub no_tail : suc k < s.entries
  pub from : start_of s.dir k ≤ e.at
  pub to : e.at + e.many ≤ end_of s.dir k

-- An edit is made: the re-reading of the edited text, lent what stood there before, is accepted and leaves t.
pub record Makes (s : State) (e : Edit) (t : State) : Type 0 where
  pub text : t.text ≡ edited e s.text
  pub accepted : left_of (rereading_of s.words s.dir s.entries s.text t.text) ≡ left (count t.entries) t.words t.dir

-- The same records: words, directory and entry count.
pub record SameRecords (s t : State) : Type 0 where
  pub entries : s.entries ≡ t.entries
  pub words : s.words ≡ t.words
  pub dir : s.dir ≡ t.dir

-- Where one edit ends before the other begins, both orders end in one text.
one_text : (a b : Edit) (text : List ℕ) → a.at + a.many ≤ b.at → b.at ≤ length text → edited (behind a b) (edited a text) ≡ edited a (edited b text)
unfolding edited behind
one_text a b text h l =
    let T : List ℕ = take b.at text in
    let R : List ℕ = drop b.at text in
    let Q : List ℕ = drop (a.at + a.many) T in
    let S : List ℕ = drop (b.at + b.many) text in
    let F : List ℕ = take a.at text ++ (a.bytes ++ Q) in
    let to : ℕ = b.at - a.many + length a.bytes in
    let lt : length T ≡ b.at = length-take-le b.at text l in
    let lp : length (take a.at text) ≡ a.at = length-take-le a.at text (omega arith) in
    let rest : drop (a.at + a.many) text ≡ Q ++ R =
    ap (drop (a.at + a.many)) (sym (take-append-drop b.at text)) ∙ drop-append-le (a.at + a.many) T R (omega (arith, lt)) in
    let lf : length F ≡ to =
    omega (arith, length-append (take a.at text) (a.bytes ++ Q), length-append a.bytes Q, lp, lt, length-drop (a.at + a.many) T) in
    let front : take a.at text ++ (a.bytes ++ drop (a.at + a.many) text) ≡ F ++ R = rw rest (simp append_assoc) in
    let second : drop (to + b.many) (F ++ R) ≡ S = sym (drop-drop b.many to (F ++ R)) ∙ ap (drop b.many) (drop_at F R to lf) ∙ drop-drop b.many b.at text in
    let one : take to (F ++ R) ++ (b.bytes ++ drop (to + b.many) (F ++ R)) ≡ F ++ (b.bytes ++ S) = rw (take_at F R to lf, second) in
    let before : take a.at (T ++ (b.bytes ++ S)) ≡ take a.at text = take-append-le a.at T (b.bytes ++ S) (omega (arith, lt)) ∙ take-take a.at b.at text (omega arith) in
    let past : drop (a.at + a.many) (T ++ (b.bytes ++ S)) ≡ Q ++ (b.bytes ++ S) = drop-append-le (a.at + a.many) T (b.bytes ++ S) (omega (arith, lt)) in
    let two : F ++ (b.bytes ++ S) ≡ take a.at (T ++ (b.bytes ++ S)) ++ (a.bytes ++ drop (a.at + a.many) (T ++ (b.bytes ++ S))) = rw (before, past) (simp append_assoc) in
    rw front one ∙ two

-- The entry of a piece, behind that of the one before it.
next_entry : (x y z : ℕ) (dir : List ℕ) (k : ℕ) → get_or (x ∷ y ∷ z ∷ dir) (suc k * entry_words) 0 ≡ get_or dir (k * entry_words) 0
next_entry x y z dir k = let e : suc k * entry_words ≡ suc (suc (suc (k * entry_words))) = omega arith in ap (λ (i : ℕ). get_or (x ∷ y ∷ z ∷ dir) i 0) e

-- Pieces stand one behind the other: each starts behind those before it, and ends inside the text.
in_text : (T W n pos at : ℕ) (dir : List ℕ) (os : List Old) → chain T W n pos at dir ≡ some os → (k : ℕ) → k < n → (pos ≤ start_of dir k) × (end_of dir k ≤ T)
unfolding chain start_of end_of
in_text T W zero pos at dir os h k l = absurd (omega arith)
in_text T W (suc n) pos at [] os h k l = let z : ◌≡◌ {A = ℕ} 0 1 = cc in absurd (omega arith)
in_text T W (suc n) pos at (x ∷ []) os h k l = let z : ◌≡◌ {A = ℕ} 0 1 = cc in absurd (omega arith)
in_text T W (suc n) pos at (x ∷ y ∷ []) os h k l = let z : ◌≡◌ {A = ℕ} 0 1 = cc in absurd (omega arith)
in_text T W (suc n) pos at (x ∷ y ∷ z ∷ dir) os h zero l =
    let c : Step T W n pos at x y z dir os = step T W n pos at x y z dir os h in
    (omega (arith, c.start), omega (arith, c.start, c.in_text))
in_text T W (suc n) pos at (x ∷ y ∷ z ∷ dir) os h (suc k) l =
    let c : Step T W n pos at x y z dir os = step T W n pos at x y z dir os h in
    let i : (pos + lo x ≤ start_of dir k) × (end_of dir k ≤ T) = in_text T W n (pos + lo x) (at + lo y) dir c.others c.rest_is k (omega arith) in
    rw (next_entry x y z dir k) (omega (arith, i.0), i.1)

in_order : (T W n pos at : ℕ) (dir : List ℕ) (os : List Old) → chain T W n pos at dir ≡ some os → (i j : ℕ) → i < j → j < n → end_of dir i ≤ start_of dir j
unfolding chain start_of end_of
in_order T W zero pos at dir os h i j l m = absurd (omega arith)
in_order T W (suc n) pos at [] os h i j l m = let z : ◌≡◌ {A = ℕ} 0 1 = cc in absurd (omega arith)
in_order T W (suc n) pos at (x ∷ []) os h i j l m = let z : ◌≡◌ {A = ℕ} 0 1 = cc in absurd (omega arith)
in_order T W (suc n) pos at (x ∷ y ∷ []) os h i j l m = let z : ◌≡◌ {A = ℕ} 0 1 = cc in absurd (omega arith)
in_order T W (suc n) pos at (x ∷ y ∷ z ∷ dir) os h i zero l m = absurd (omega arith)
in_order T W (suc n) pos at (x ∷ y ∷ z ∷ dir) os h zero (suc j) l m =
    let c : Step T W n pos at x y z dir os = step T W n pos at x y z dir os h in
    rw (next_entry x y z dir j) (omega (arith, c.start, (in_text T W n (pos + lo x) (at + lo y) dir c.others c.rest_is j (omega arith)).0))
in_order T W (suc n) pos at (x ∷ y ∷ z ∷ dir) os h (suc i) (suc j) l m =
    let c : Step T W n pos at x y z dir os = step T W n pos at x y z dir os h in
    rw (next_entry x y z dir i, next_entry x y z dir j) (in_order T W n (pos + lo x) (at + lo y) dir c.others c.rest_is i j (omega arith) (omega arith))

olds_chain : (T W n : ℕ) (dir : List ℕ) (os : List Old) → olds T W n dir ≡ some os → chain T W n 0 0 dir ≡ some os
unfolding olds
olds_chain T W n dir os h = go (leb 2 n) refl
  where
    go : (b : Bool) → leb 2 n ≡ b → chain T W n 0 0 dir ≡ some os
    go true t = rw (t, olds) at h
    go false t = let w : none ≡ some os = rw (t, olds) at h in let z : ◌≡◌ {A = ℕ} 0 1 = cc in absurd (omega arith)

-- Two edits of which one ends before the other begins, in either order, where each call on the way is accepted.
pub apart_in_either_order : (W D : ℕ) (s : State) → Recorded W D s → (a b : Edit) → a.at + a.many ≤ b.at → b.at ≤ length s.text
    → (sa sab sb sba : State) → Makes s a sa → Makes sa (behind a b) sab → Makes s b sb → Makes sb a sba → SameRecords sab sba
unfolding Recorded
apart_in_either_order W D s h a b l m sa sab sb sba ma mab mb mba =
    let text : sab.text ≡ sba.text =
    mab.text ∙ ap (edited (behind a b)) ma.text ∙ one_text a b s.text l m ∙ ap (edited a) (sym mb.text) ∙ sym mba.text in
    let x : reading_of W D sab.text ≡ left (count sab.entries) sab.words sab.dir = accepted_recorded W D sa sab (accepted_recorded W D s sa h ma.accepted) mab.accepted in
    let y : reading_of W D sba.text ≡ left (count sba.entries) sba.words sba.dir = accepted_recorded W D sb sba (accepted_recorded W D s sb h mb.accepted) mba.accepted in
    let z : left (count sab.entries) sab.words sab.dir ≡ left (count sba.entries) sba.words sba.dir = sym x ∙ ap (reading_of W D) text ∙ y in
    record { entries = cc; words = cc; dir = cc }

-- "Two edits inside two different blocks end in the same records in either order": a in the block that comes first, b in a later one. Made behind a,
-- b is the same replacement, moved by what a put in and took out.
pub either_order : (W D : ℕ) (s : State) → Recorded W D s → (i j : ℕ) → i < j → (a b : Edit) → InBlock s i a → InBlock s j b
    → (sa sab sb sba : State) → Makes s a sa → Makes sa (behind a b) sab → Makes s b sb → Makes sb a sba → SameRecords sab sba
unfolding Recorded
either_order W D s h i j l a b ia ib =
    let f : (os : List Old) × (olds (length s.text) (length s.words) s.entries s.dir ≡ some os) = reading_chained W D s.entries s.words s.dir s.text h in
    let c : chain (length s.text) (length s.words) s.entries 0 0 s.dir ≡ some f.0 = olds_chain (length s.text) (length s.words) s.entries s.dir f.0 f.1 in
    let between : end_of s.dir i ≤ start_of s.dir j = in_order (length s.text) (length s.words) s.entries 0 0 s.dir f.0 c i j l (omega (arith, ib.no_tail)) in
    let inside : end_of s.dir j ≤ length s.text = (in_text (length s.text) (length s.words) s.entries 0 0 s.dir f.0 c j (omega (arith, ib.no_tail))).1 in
    apart_in_either_order W D s h a b (omega (arith, ia.to, ib.from, between)) (omega (arith, ib.to, inside))
