-- What a program has looked at: it never goes back, ends inside the text, and does not see what is behind the word at its end.
-- Assumes nothing.
use Rattle.std.specs.Prelude.{◌≡◌, refl, Bool, true, false, ◌&&◌, not, List, [], ◌∷◌, ◌++◌, ℕ, zero, suc, ◌+◌, ◌-◌, ◌≤◌, ◌<◌, eqb, length, take, drop}
use Rattle.std.proofs.Common.{ap, ◌∙◌, zero-add, arith, length-drop, drop-drop}
use Rattle.std.proofs.Math.Option.{Option, none, some}
use Rattle.std.proofs.lemmas.List.{drop-append-le, take-append-le}
use Rattle.program.specs.Class.{is_word}
use Rattle.program.specs.Prog.{Prog, ret, fail, look, eat, here, lead, scan, last, Res, ok, closed, no_at, byte_at, lead_word, scan_len, run, ◌>>=◌, ends}

-- The run ends well, with the cursor at m, or behind the closing byte at m.
abbrev pub EndsAt : {A : Type 0} → Res A → ℕ → Type 0
EndsAt (ok a j) m = j ≡ m
EndsAt (closed ws j) m = j ≡ suc m
EndsAt (no_at q p) m = ⊥

pub scan_len_le : (f : ℕ → ℕ → Option ℕ) (q : ℕ) (s : List ℕ) → scan_len f q s ≤ length s
unfolding scan_len
scan_len_le f q [] = omega arith
scan_len_le f q (x ∷ s) = go (f q x) refl (λ r. scan_len_le f r s)
  where
    go : (o : Option ℕ) → f q x ≡ o → ((r : ℕ) → scan_len f r s ≤ length s) → scan_len f q (x ∷ s) ≤ suc (length s)
    go none t ih = rw (scan_len, t) (omega arith)
    go (some r) t ih = rw (scan_len, t) (omega (arith, ih r))

pub mono : {A : Type 0} (p : Prog A) (i m : ℕ) (s : List ℕ) → EndsAt (run p i s) m → (i ≤ m) × (m ≤ i + length s)
unfolding run
mono (ret a) i m s h = (omega arith, omega arith)
mono (fail q p) i m s h = absurd h
mono (look k) i m s h = mono (k (byte_at s)) i m s h
mono (eat p) i m [] h = absurd h
mono (eat p) i m (x ∷ s) h = let r : (suc i ≤ m) × (m ≤ suc i + length s) = mono p (suc i) m s h in (omega arith, omega arith)
mono (here k) i m s h = mono (k i) i m s h
mono (lead k) i m s h = mono (k (lead_word s)) i m s h
mono (scan f q k) i m s h =
    let r : (i + scan_len f q s ≤ m) × (m ≤ i + scan_len f q s + length (drop (scan_len f q s) s)) = mono (k (take (scan_len f q s) s)) (i + scan_len f q s) m (drop (scan_len f q s) s) h in
    (omega arith, omega (arith, length-drop (scan_len f q s) s, scan_len_le f q s))
mono (last b ws p) i m [] h = mono p i m [] h
mono (last b ws p) i m (x ∷ s) h = go (eqb x b && not (is_word x)) refl (mono p i m (x ∷ s))
  where
    go : (t : Bool) → (eqb x b && not (is_word x)) ≡ t → (EndsAt (run p i (x ∷ s)) m → (i ≤ m) × (m ≤ i + suc (length s))) → (i ≤ m) × (m ≤ i + suc (length s))
    go true t ih = let w : suc i ≡ suc m = rw (t, run) at h in (omega arith, omega arith)
    go false t ih = ih (rw (t, run) at h)

-- Where a stretch settles its leading word at a later place, it does so at its start.
ends_nil : (m : ℕ) → ends (drop m []) ≡ true → ⊥
unfolding ends
ends_nil zero h = let z : ◌≡◌ {A = ℕ} 0 1 = cc in omega arith
ends_nil (suc m) h = let z : ◌≡◌ {A = ℕ} 0 1 = cc in omega arith

ends_earlier : (m : ℕ) (xs : List ℕ) → ends (drop m xs) ≡ true → ends xs ≡ true
unfolding ends
ends_earlier zero xs h = h
ends_earlier (suc m) [] h = h
ends_earlier (suc m) (x ∷ xs) h = go (is_word x) refl (ends_earlier m xs h)
  where
    go : (b : Bool) → is_word x ≡ b → ends xs ≡ true → ends (x ∷ xs) ≡ true
    go true t ih = rw (ends, t) ih
    go false t ih = rw (ends, t)

ends_lt : (m : ℕ) (xs : List ℕ) → ends (drop m xs) ≡ true → m < length xs
ends_lt m [] h = absurd (ends_nil m h)
ends_lt zero (x ∷ xs) h = omega arith
ends_lt (suc m) (x ∷ xs) h = omega (arith, ends_lt m xs h)

lead_local : (xs ys zs : List ℕ) → ends xs ≡ true → lead_word (xs ++ zs) ≡ lead_word (xs ++ ys)
unfolding lead_word ends
lead_local [] ys zs h = let z : ◌≡◌ {A = ℕ} 0 1 = cc in absurd (omega arith)
lead_local (x ∷ xs) ys zs h = go (is_word x) refl (lead_local xs ys zs)
  where
    go : (b : Bool) → is_word x ≡ b → (ends xs ≡ true → lead_word (xs ++ zs) ≡ lead_word (xs ++ ys)) → lead_word (x ∷ xs ++ zs) ≡ lead_word (x ∷ xs ++ ys)
    go true t ih = let w : ends xs ≡ true = rw (ends, t) at h in rw (lead_word, t) (ap {B = List ℕ} (λ l. x ∷ l) (ih w))
    go false t ih = rw (lead_word, t)

scan_local : (f : ℕ → ℕ → Option ℕ) (q : ℕ) (xs ys zs : List ℕ) → scan_len f q (xs ++ ys) < length xs → scan_len f q (xs ++ zs) ≡ scan_len f q (xs ++ ys)
unfolding scan_len
scan_local f q [] ys zs h = absurd (omega arith)
scan_local f q (x ∷ xs) ys zs h = go (f q x) refl (λ r. scan_local f r xs ys zs)
  where
    go : (o : Option ℕ) → f q x ≡ o → ((r : ℕ) → scan_len f r (xs ++ ys) < length xs → scan_len f r (xs ++ zs) ≡ scan_len f r (xs ++ ys)) → scan_len f q (x ∷ xs ++ zs) ≡ scan_len f q (x ∷ xs ++ ys)
    go none t ih = rw (scan_len, t)
    go (some r) t ih = let w : suc (scan_len f r (xs ++ ys)) < suc (length xs) = rw (scan_len, t) at h in rw (scan_len, t) (ap suc (ih r (omega arith)))

pub local : {A : Type 0} (p : Prog A) (i m : ℕ) (xs ys zs : List ℕ) → EndsAt (run p i (xs ++ ys)) (i + m) → ends (drop m xs) ≡ true → run p i (xs ++ zs) ≡ run p i (xs ++ ys)
unfolding run byte_at
local (ret a) i m xs ys zs h c = refl
local (fail q p) i m xs ys zs h c = refl
local (look k) i m [] ys zs h c = absurd (ends_nil m c)
local (look k) i m (x ∷ xs) ys zs h c = local (k x) i m (x ∷ xs) ys zs h c
local (eat p) i m [] ys zs h c = absurd (ends_nil m c)
local (eat p) i zero (x ∷ xs) ys zs h c = let r : (suc i ≤ i + 0) × (i + 0 ≤ suc i + length (xs ++ ys)) = mono p (suc i) (i + 0) (xs ++ ys) h in absurd (omega arith)
local (eat p) i (suc m) (x ∷ xs) ys zs h c = local p (suc i) m xs ys zs (let e : i + suc m ≡ suc i + m = omega arith in rw e at h) c
local (here k) i m xs ys zs h c = local (k i) i m xs ys zs h c
local (lead k) i m xs ys zs h c = rw (lead_local xs ys zs (ends_earlier m xs c)) (local (k (lead_word (xs ++ ys))) i m xs ys zs h c)
local (scan f q k) i m xs ys zs h c =
    let n : ℕ = scan_len f q (xs ++ ys) in
    let r : (i + n ≤ i + m) × (i + m ≤ i + n + length (drop n (xs ++ ys))) = mono (k (take n (xs ++ ys))) (i + n) (i + m) (drop n (xs ++ ys)) h in
    let lm : m < length xs = ends_lt m xs c in
    let ln : n ≤ length xs = omega arith in
    let same : scan_len f q (xs ++ zs) ≡ n = scan_local f q xs ys zs (omega arith) in
    let d : n + (m - n) ≡ m = omega arith in
    let e : i + m ≡ i + n + (m - n) = omega arith in
    let ty : take n (xs ++ ys) ≡ take n xs = take-append-le n xs ys ln in
    let tz : take n (xs ++ zs) ≡ take n xs = take-append-le n xs zs ln in
    let dy : drop n (xs ++ ys) ≡ drop n xs ++ ys = drop-append-le n xs ys ln in
    let dz : drop n (xs ++ zs) ≡ drop n xs ++ zs = drop-append-le n xs zs ln in
    let h2 : EndsAt (run (k (take n xs)) (i + n) (drop n xs ++ ys)) (i + n + (m - n)) = rw (ty, dy, e) at h in
    let c2 : ends (drop (m - n) (drop n xs)) ≡ true = rw (drop-drop (m - n) n xs, d) c in
    rw (same, tz, ty, dy, dz) (local (k (take n xs)) (i + n) (m - n) (drop n xs) ys zs h2 c2)
local (last b ws p) i m [] ys zs h c = absurd (ends_nil m c)
local (last b ws p) i m (x ∷ xs) ys zs h c = go (eqb x b && not (is_word x)) refl (local p i m (x ∷ xs) ys zs)
  where
    go : (t : Bool) → (eqb x b && not (is_word x)) ≡ t → (EndsAt (run p i (x ∷ xs ++ ys)) (i + m) → ends (drop m (x ∷ xs)) ≡ true → run p i (x ∷ xs ++ zs) ≡ run p i (x ∷ xs ++ ys))
        → run (last b ws p) i (x ∷ xs ++ zs) ≡ run (last b ws p) i (x ∷ xs ++ ys)
    go true t ih = rw (run, t)
    go false t ih = rw (run, t) (ih (rw (t, run) at h) c)

and_right : (a b : Bool) → (a && b) ≡ true → b ≡ true
and_right true b h = h
and_right false b h = let z : ◌≡◌ {A = ℕ} 0 1 = cc in absurd (omega arith)

not_true : (a : Bool) → not a ≡ true → a ≡ false
not_true true h = let z : ◌≡◌ {A = ℕ} 0 1 = cc in absurd (omega arith)
not_true false h = refl

-- The closing byte is no letter, digit or `_`.
closing : {A : Type 0} (p : Prog A) (i m : ℕ) (s ws : List ℕ) → run p i s ≡ closed ws (suc (i + m)) → is_word (byte_at (drop m s)) ≡ false
unfolding run byte_at
closing (ret a) i m s ws h = let z : ◌≡◌ {A = ℕ} 0 1 = cc in absurd (omega arith)
closing (fail q p) i m s ws h = let z : ◌≡◌ {A = ℕ} 0 1 = cc in absurd (omega arith)
closing (look k) i m s ws h = closing (k (byte_at s)) i m s ws h
closing (eat p) i m [] ws h = let z : ◌≡◌ {A = ℕ} 0 1 = cc in absurd (omega arith)
closing (eat p) i zero (x ∷ s) ws h =
    let r : (suc i ≤ i + 0) × (i + 0 ≤ suc i + length s) = mono p (suc i) (i + 0) s (rw h refl) in absurd (omega arith)
closing (eat p) i (suc m) (x ∷ s) ws h = let e : i + suc m ≡ suc i + m = omega arith in closing p (suc i) m s ws (rw e at h)
closing (here k) i m s ws h = closing (k i) i m s ws h
closing (lead k) i m s ws h = closing (k (lead_word s)) i m s ws h
closing (scan f q k) i m s ws h =
    let n : ℕ = scan_len f q s in
    let r : (i + n ≤ i + m) × (i + m ≤ i + n + length (drop n s)) = mono (k (take n s)) (i + n) (i + m) (drop n s) (rw h refl) in
    let d : n + (m - n) ≡ m = omega arith in
    let e : i + m ≡ i + n + (m - n) = omega arith in
    let w : is_word (byte_at (drop (m - n) (drop n s))) ≡ false = closing (k (take n s)) (i + n) (m - n) (drop n s) ws (rw e at h) in
    rw (drop-drop (m - n) n s, d) at w
closing (last b v p) i m [] ws h = closing p i m [] ws h
closing (last b v p) i m (x ∷ s) ws h = go (eqb x b && not (is_word x)) refl (closing p i m (x ∷ s) ws)
  where
    go : (t : Bool) → (eqb x b && not (is_word x)) ≡ t → (run p i (x ∷ s) ≡ closed ws (suc (i + m)) → is_word (byte_at (drop m (x ∷ s))) ≡ false) → is_word (byte_at (drop m (x ∷ s))) ≡ false
    go true t ih =
        let w : closed v (suc i) ≡ closed ws (suc (i + m)) = rw (run, t) at h in
        let j : suc i ≡ suc (i + m) = cc in
        let z : m ≡ 0 = omega arith in
        rw z (not_true (is_word x) (and_right (eqb x b) (not (is_word x)) t))
    go false t ih = ih (rw (run, t) at h)

settles : (m : ℕ) (xs ys : List ℕ) → m < length xs → is_word (byte_at (drop m (xs ++ ys))) ≡ false → ends (drop m xs) ≡ true
unfolding ends byte_at
settles m [] ys l h = absurd (omega arith)
settles zero (x ∷ xs) ys l h = rw (ends, h)
settles (suc m) (x ∷ xs) ys l h = settles m xs ys (omega arith) h

-- A closed run has passed its closing byte, which is in the text.
pub closed_range : {A : Type 0} (p : Prog A) (i j : ℕ) (s ws : List ℕ) → run p i s ≡ closed ws j → (suc i ≤ j) × (j ≤ i + length s)
unfolding run
closed_range (ret a) i j s ws h = let z : ◌≡◌ {A = ℕ} 0 1 = cc in absurd (omega arith)
closed_range (fail q p) i j s ws h = let z : ◌≡◌ {A = ℕ} 0 1 = cc in absurd (omega arith)
closed_range (look k) i j s ws h = closed_range (k (byte_at s)) i j s ws h
closed_range (eat p) i j [] ws h = let z : ◌≡◌ {A = ℕ} 0 1 = cc in absurd (omega arith)
closed_range (eat p) i j (x ∷ s) ws h = let r : (suc (suc i) ≤ j) × (j ≤ suc i + length s) = closed_range p (suc i) j s ws h in (omega arith, omega arith)
closed_range (here k) i j s ws h = closed_range (k i) i j s ws h
closed_range (lead k) i j s ws h = closed_range (k (lead_word s)) i j s ws h
closed_range (scan f q k) i j s ws h =
    let r : (suc (i + scan_len f q s) ≤ j) × (j ≤ i + scan_len f q s + length (drop (scan_len f q s) s)) = closed_range (k (take (scan_len f q s) s)) (i + scan_len f q s) j (drop (scan_len f q s) s) ws h in
    (omega arith, omega (arith, length-drop (scan_len f q s) s, scan_len_le f q s))
closed_range (last b v p) i j [] ws h = closed_range p i j [] ws h
closed_range (last b v p) i j (x ∷ s) ws h = go (eqb x b && not (is_word x)) refl (closed_range p i j (x ∷ s) ws)
  where
    go : (t : Bool) → (eqb x b && not (is_word x)) ≡ t → (run p i (x ∷ s) ≡ closed ws j → (suc i ≤ j) × (j ≤ i + suc (length s))) → (suc i ≤ j) × (j ≤ i + suc (length s))
    go true t ih = let w : closed v (suc i) ≡ closed ws j = rw (t, run) at h in let e : suc i ≡ j = cc in (omega arith, omega arith)
    go false t ih = ih (rw (t, run) at h)

pub and_left : (a b : Bool) → (a && b) ≡ true → a ≡ true
and_left true b h = refl
and_left false b h = let z : ◌≡◌ {A = ℕ} 0 1 = cc in absurd (omega arith)

-- A closed run that lies in a stretch does not see what is behind the stretch.
pub closed_local : {A : Type 0} (p : Prog A) (xs ys zs : List ℕ) (e : ℕ) (ws : List ℕ) → run p 0 (xs ++ ys) ≡ closed ws e → e ≤ length xs → run p 0 (xs ++ zs) ≡ run p 0 (xs ++ ys)
closed_local p xs ys zs zero ws h l = let r : (1 ≤ 0) × (0 ≤ 0 + length (xs ++ ys)) = closed_range p 0 0 (xs ++ ys) ws h in absurd (omega arith)
closed_local p xs ys zs (suc m) ws h l =
    let z : 0 + m ≡ m = zero-add m in
    let b : is_word (byte_at (drop m (xs ++ ys))) ≡ false = closing p 0 m (xs ++ ys) ws (rw z h) in
    local p 0 m xs ys zs (rw (h, z)) (settles m xs ys l b)

pub ends_drop : (m : ℕ) (xs : List ℕ) → ends (drop m xs) ≡ true → ends xs ≡ true
unfolding ends
ends_drop zero xs h = h
ends_drop (suc m) [] h = h
ends_drop (suc m) (x ∷ xs) h = go (is_word x) refl (ends_drop m xs h)
  where
    go : (t : Bool) → is_word x ≡ t → ends xs ≡ true → ends (x ∷ xs) ≡ true
    go true t e = rw (ends, t) e
    go false t e = rw (ends, t)

-- Its closing byte is no letter, digit or `_`, so the stretch settles where a word in front of it ends.
pub closed_ends : {A : Type 0} (p : Prog A) (xs ys : List ℕ) (e : ℕ) (ws : List ℕ) → run p 0 (xs ++ ys) ≡ closed ws e → e ≤ length xs → ends xs ≡ true
closed_ends p xs ys zero ws h l = let r : (1 ≤ 0) × (0 ≤ 0 + length (xs ++ ys)) = closed_range p 0 0 (xs ++ ys) ws h in absurd (omega arith)
closed_ends p xs ys (suc m) ws h l =
    let z : 0 + m ≡ m = zero-add m in
    ends_drop m xs (settles m xs ys l (closing p 0 m (xs ++ ys) ws (rw z h)))

-- One program after another, for a proof about code: the second runs where the first ended.
unfoldable pub next : {A B : Type 0} → (A → Prog B) → ℕ → List ℕ → Res A → Res B
next h i s (ok a j) = run (h a) j (drop (j - i) s)
next h i s (closed ws j) = closed ws j
next h i s (no_at q p) = no_at q p

-- The same from a cursor further on.
next_drop : {A B : Type 0} (p : Prog A) (h : A → Prog B) (i n : ℕ) (s : List ℕ) → next h (i + n) (drop n s) (run p (i + n) (drop n s)) ≡ next h i s (run p (i + n) (drop n s))
unfolding next
next_drop {A} {B} p h i n s = go (run p (i + n) (drop n s)) refl
  where
    go : (r : Res A) → run p (i + n) (drop n s) ≡ r → next h (i + n) (drop n s) r ≡ next h i s r
    go (closed ws j) e = refl
    go (no_at q x) e = refl
    go (ok a j) e =
        let m : (i + n ≤ j) × (j ≤ i + n + length (drop n s)) = mono p (i + n) j (drop n s) (rw e refl) in
        let d : n + (j - (i + n)) ≡ j - i = omega arith in
        ap (run (h a) j) (drop-drop (j - (i + n)) n s ∙ ap (λ (k : ℕ). drop k s) d)

pub run_bind : {A B : Type 0} (p : Prog A) (h : A → Prog B) (i : ℕ) (s : List ℕ) → run (p >>= h) i s ≡ next h i s (run p i s)
unfolding run ◌>>=◌ next
run_bind (ret a) h i s = let z : i - i ≡ 0 = omega arith in rw z
run_bind (fail q p) h i s = refl
run_bind (look k) h i s = run_bind (k (byte_at s)) h i s
run_bind (eat p) h i [] = refl
run_bind (eat p) h i (x ∷ s) = run_bind p h (suc i) s ∙ (let e : suc i ≡ i + 1 = omega arith in rw e (next_drop p h i 1 (x ∷ s)))
run_bind (here k) h i s = run_bind (k i) h i s
run_bind (lead k) h i s = run_bind (k (lead_word s)) h i s
run_bind (scan f q k) h i s =
    run_bind (k (take (scan_len f q s) s)) h (i + scan_len f q s) (drop (scan_len f q s) s) ∙ next_drop (k (take (scan_len f q s) s)) h i (scan_len f q s) s
run_bind (last b ws p) h i [] = run_bind p h i []
run_bind (last b ws p) h i (x ∷ s) = go (eqb x b && not (is_word x)) refl (run_bind p h i (x ∷ s))
  where
    go : (t : Bool) → (eqb x b && not (is_word x)) ≡ t → run (p >>= h) i (x ∷ s) ≡ next h i (x ∷ s) (run p i (x ∷ s)) → run (last b ws p >>= h) i (x ∷ s) ≡ next h i (x ∷ s) (run (last b ws p) i (x ∷ s))
    go true t ih = rw (run, t)
    go false t ih = rw (run, t) ih
