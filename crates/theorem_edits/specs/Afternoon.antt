-- A whole afternoon of edits (02: M-113): any list of re-readings, one behind the other in the same arrays, accepted and refused.
-- A refused one changes nothing, and an accepted one leaves what a full reading of its text leaves, by demand 3: so do all of them together.
-- Assumes nothing.
use Rattle.std.specs.Prelude.{◌≡◌, refl, List, [], ◌∷◌, ℕ}
use Rattle.std.proofs.Common.{sym, ap, ◌∙◌, arith}
use Rattle.std.proofs.Math.Option.{Option, none, some}
use Rattle.records.specs.Pieces.{HeadRead, BlockRead, Run, done, Source, Old, Verdict, fine, refused, refused_at, count, Left, left, leave, again_left, leave_again, left_of, reread_of, reread}
use Rattle.grammar.specs.Function.{head_at, block_at, reading_of, rereading_of}
use Rattle.theorem_edits.specs.Same.{or_as_lent}
use Rattle.theorem_edits.specs.Again.{again_same}

-- Where an afternoon stands: the last accepted text and its entry count, and both arrays.
pub record State : Type 0 where
  pub text : List ℕ
  pub entries : ℕ
  pub words : List ℕ
  pub dir : List ℕ

-- One call: the older text and the entry count that are lent beside the arrays, and the newer text.
pub data Call : Type 0 where
  call : (older : List ℕ) (entries : ℕ) (newer : List ℕ) → Call

-- What the re-reading leaves of the arrays as they stand.
unfoldable pub leaves : State → Call → Left
leaves s (call older n newer) = left_of (rereading_of s.words s.dir n older newer)

-- Where the afternoon stands then: an accepted text is the last one, and the arrays are as the call left them.
unfoldable pub settle : State → Call → Left → State
settle s (call older m newer) (left (count n) ws ds) = record { text = newer; entries = n; words = ws; dir = ds }
settle s c (left (refused_at q p) ws ds) = record { text = s.text; entries = s.entries; words = ws; dir = ds }

unfoldable pub after : State → Call → State
after s c = settle s c (leaves s c)

unfoldable pub afternoon : State → List Call → State
afternoon s [] = s
afternoon s (c ∷ cs) = afternoon (after s c) cs

-- "each accepted one lent the last accepted text, its entry count and the records as they then stood": a refused one may be lent any text and count.
unfoldable pub LentLast : State → Call → Type 0
LentLast s (call older m newer) = (n : ℕ) (ws ds : List ℕ) → leaves s (call older m newer) ≡ left (count n) ws ds → (older ≡ s.text) × (m ≡ s.entries)

unfoldable pub AllLentLast : State → List Call → Type 0
AllLentLast s [] = Unit {0}
AllLentLast s (c ∷ cs) = LentLast s c × AllLentLast (after s c) cs

-- The records are those of a full reading of the last accepted text in arrays of these lengths.
unfoldable pub Recorded : (W D : ℕ) → State → Type 0
Recorded W D s = reading_of W D s.text ≡ left (count s.entries) s.words s.dir

-- A refused re-reading leaves both arrays as they were lent, whatever was lent, and both reports are 0.
again_unchanged : (words dir : List ℕ) (v : Verdict) (k : ℕ) (r all : Run Source) (q p : ℕ) (ws ds : List ℕ) → left_of (leave_again words dir v k r all) ≡ left (refused_at q p) ws ds
    → leave_again words dir v k r all ≡ again_left (left (refused_at q p) words dir) 0 0
unfolding left_of leave_again leave
again_unchanged words dir fine k r all q p ws ds e = let z : ◌≡◌ {A = ℕ} 0 1 = cc in absurd (omega arith)
again_unchanged words dir (refused a b) k r all q p ws ds e = cc

olds_unchanged : (head_at : List ℕ → HeadRead) (block_at : ℕ → List ℕ → BlockRead) (words dir older newer : List ℕ) (o : Option (List Old)) (q p : ℕ) (ws ds : List ℕ)
    → left_of (reread_of head_at block_at words dir older newer o) ≡ left (refused_at q p) ws ds → reread_of head_at block_at words dir older newer o ≡ again_left (left (refused_at q p) words dir) 0 0
unfolding reread_of
olds_unchanged head_at block_at words dir older newer none q p ws ds e = again_unchanged words dir _ 0 done done q p ws ds e
olds_unchanged head_at block_at words dir older newer (some os) q p ws ds e = again_unchanged words dir _ _ _ _ q p ws ds e

pub refused_unchanged : (words dir : List ℕ) (n : ℕ) (older newer : List ℕ) (q p : ℕ) (ws ds : List ℕ) → left_of (rereading_of words dir n older newer) ≡ left (refused_at q p) ws ds
    → rereading_of words dir n older newer ≡ again_left (left (refused_at q p) words dir) 0 0
unfolding rereading_of reread
refused_unchanged words dir n older newer q p ws ds e = olds_unchanged head_at block_at words dir older newer _ q p ws ds e

pub alike : (words dir : List ℕ) (l : Left) (n : ℕ) (ws ds : List ℕ) → or_as_lent words dir l ≡ left (count n) ws ds → l ≡ left (count n) ws ds
unfolding or_as_lent
alike words dir (left (count m) us vs) n ws ds e = e
alike words dir (left (refused_at q p) us vs) n ws ds e = let z : ◌≡◌ {A = ℕ} 0 1 = cc in absurd (omega arith)

-- One accepted call that was lent the last accepted text and its entry count; and one refused call, lent anything.
pub accepted_recorded : (W D : ℕ) (s t : State) → Recorded W D s → left_of (rereading_of s.words s.dir s.entries s.text t.text) ≡ left (count t.entries) t.words t.dir → Recorded W D t
unfolding Recorded
accepted_recorded W D s t h e =
    alike s.words s.dir (reading_of W D t.text) t.entries t.words t.dir (sym (again_same W D s.entries s.words s.dir s.text t.text h) ∙ e)

pub refused_recorded : (W D : ℕ) (s : State) (m : ℕ) (older newer : List ℕ) (q p : ℕ) (ws ds : List ℕ) → Recorded W D s
    → left_of (rereading_of s.words s.dir m older newer) ≡ left (refused_at q p) ws ds → Recorded W D (record { text = s.text; entries = s.entries; words = ws; dir = ds })
unfolding Recorded left_of
refused_recorded W D s m older newer q p ws ds h e =
    let k : left (refused_at q p) ws ds ≡ left (refused_at q p) s.words s.dir = sym e ∙ ap left_of (refused_unchanged s.words s.dir m older newer q p ws ds e) in
    let kw : ws ≡ s.words = cc in
    let kd : ds ≡ s.dir = cc in
    rw (kw, kd) h

after_recorded : (W D : ℕ) (s : State) (c : Call) → Recorded W D s → LentLast s c → Recorded W D (after s c)
unfolding after leaves settle LentLast
after_recorded W D s (call older m newer) h k = go (left_of (rereading_of s.words s.dir m older newer)) refl
  where
    go : (l : Left) → left_of (rereading_of s.words s.dir m older newer) ≡ l → Recorded W D (settle s (call older m newer) l)
    go (left (count n) ws ds) e =
        let same : (older ≡ s.text) × (m ≡ s.entries) = k n ws ds e in
        accepted_recorded W D s (record { text = newer; entries = n; words = ws; dir = ds }) h (rw (← same.0, ← same.1) e)
    go (left (refused_at q p) ws ds) e = refused_recorded W D s m older newer q p ws ds h e

-- The afternoon: from the records of an accepted text, any list of calls ends with those of a full reading of the last accepted text.
pub afternoon_recorded : (W D : ℕ) (s : State) (cs : List Call) → Recorded W D s → AllLentLast s cs → Recorded W D (afternoon s cs)
unfolding afternoon AllLentLast
afternoon_recorded W D s [] h k = h
afternoon_recorded W D s (c ∷ cs) h k = afternoon_recorded W D (after s c) cs (after_recorded W D s c h k.0) k.1
