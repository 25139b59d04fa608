-- A whole afternoon of edits, said of the calls from C (02: M-113): of each call nothing is known but its contract.
-- A call that returns 0 is an accepted re-reading of the definitions, any other a refused one; so the theorems on the definitions are about the program.
-- Assumes nothing.
use Rattle.std.specs.Prelude.{◌≡◌, refl, List, ℕ, suc, ◌<◌}
use Rattle.std.proofs.Common.{subst, sym, arith}
use Rattle.records.specs.Pieces.{refused_at, count, Left, left, Again, again_left, left_of}
use Rattle.grammar.specs.Function.{reading_of, rereading_of}
use Rattle.theorem_edits.specs.Afternoon.{State, Recorded, refused_unchanged, accepted_recorded, refused_recorded}
use Rattle.theorem_edits.specs.Order.{Edit, edited, behind, InBlock, Makes, SameRecords, either_order}
use Rattle.zimlokur.specs.Report.{Reports, reports, ReportsAgain, reports_again}
use Rattle.zimlokur.specs.Zero.{zero_accepts, zero_accepts_again}

-- Calls of zimlokur_reparse_define, one behind the other in the same arrays; `ReportsAgain` is that call's contract. One that returns 0 was lent the last
-- accepted text and its entry count, and its newer text is the last accepted one from then on. One that returns anything else was lent any text and count.
pub data Calls : State → State → Type 0 where
  no_call : {s : State} → Calls s s
  accepted : {s t : State} (newer : List ℕ) (place n first many : ℕ) (words dir : List ℕ)
      → ReportsAgain (rereading_of s.words s.dir s.entries s.text newer) 0 place n first many words dir
      → Calls (record { text = newer; entries = n; words = words; dir = dir }) t → Calls s t
  refused : {s t : State} (older newer : List ℕ) (lent q place n first many : ℕ) (words dir : List ℕ)
      → ReportsAgain (rereading_of s.words s.dir lent older newer) (suc q) place n first many words dir
      → Calls (record { text = s.text; entries = s.entries; words = words; dir = dir }) t → Calls s t

number_refuses : (l : Again) (q : ℕ) {r place n first many : ℕ} {words dir : List ℕ} → ReportsAgain l r place n first many words dir → r ≡ suc q → left_of l ≡ left (refused_at r place) words dir
unfolding left_of
number_refuses _ q (reports_again {a = count m}) e = absurd (omega (arith, e))
number_refuses _ q (reports_again {a = refused_at a p}) e = refl

-- A call that returns anything but 0 leaves both arrays as they were lent, and counts nothing.
pub record Unchanged (ws ds words dir : List ℕ) (n first many : ℕ) : Type 0 where
  pub words_as_lent : words ≡ ws
  pub dir_as_lent : dir ≡ ds
  pub no_entries : n ≡ 0
  pub no_first : first ≡ 0
  pub none_read : many ≡ 0

unchanged_of : (l : Again) {r place n first many : ℕ} {words dir : List ℕ} (q p : ℕ) (ws ds : List ℕ) → ReportsAgain l r place n first many words dir → l ≡ again_left (left (refused_at q p) ws ds) 0 0 → Unchanged ws ds words dir n first many
unchanged_of _ q p ws ds (reports_again {a = count m}) e = let z : ◌≡◌ {A = ℕ} 0 1 = cc in absurd (omega arith)
unchanged_of _ q p ws ds (reports_again {a = refused_at a b}) e = record { words_as_lent = cc; dir_as_lent = cc; no_entries = refl; no_first = cc; none_read = cc }

pub refusal_changes_nothing : (ws ds : List ℕ) (lent : ℕ) (older newer : List ℕ) (q place n first many : ℕ) (words dir : List ℕ)
    → ReportsAgain (rereading_of ws ds lent older newer) (suc q) place n first many words dir → Unchanged ws ds words dir n first many
refusal_changes_nothing ws ds lent older newer q place n first many words dir h =
    unchanged_of (rereading_of ws ds lent older newer) (suc q) place ws ds h
    (refused_unchanged ws ds lent older newer (suc q) place words dir (number_refuses (rereading_of ws ds lent older newer) q h refl))

calls_recorded : (W D : ℕ) (s t : State) → Recorded W D s → Calls s t → Recorded W D t
calls_recorded W D s t h no_call = h
calls_recorded W D s t h (accepted newer place n first many words dir c cs) =
    calls_recorded W D (record { text = newer; entries = n; words = words; dir = dir }) t
    (accepted_recorded W D s (record { text = newer; entries = n; words = words; dir = dir }) h (zero_accepts_again s.words s.dir s.entries s.text newer place n first many words dir c)) cs
calls_recorded W D s t h (refused older newer lent q place n first many words dir c cs) =
    calls_recorded W D (record { text = s.text; entries = s.entries; words = words; dir = dir }) t
    (refused_recorded W D s lent older newer (suc q) place words dir h (number_refuses (rereading_of s.words s.dir lent older newer) q c refl)) cs

-- The afternoon: zimlokur_parse_define returned 0, then came any calls. A full reading of the last accepted text, in arrays of these lengths, returns 0
-- with the entry count that the last accepted call gave, and leaves what now stands in the arrays.
pub afternoon_of_calls : (W D place : ℕ) (s t : State) → Reports (reading_of W D s.text) 0 place s.entries s.words s.dir → Calls s t
    → Reports (reading_of W D t.text) 0 0 t.entries t.words t.dir
unfolding Recorded
afternoon_of_calls W D place s t h cs =
    let e : reading_of W D t.text ≡ left (count t.entries) t.words t.dir =
    calls_recorded W D s t (zero_accepts W D s.text place s.entries s.words s.dir h) cs in
    subst (λ (l : Left). Reports l 0 0 t.entries t.words t.dir) (sym e) (reports {a = count t.entries})

-- An edit is made by a call that returns 0.
pub record MakesByCall (s : State) (e : Edit) (t : State) : Type 0 where
  pub text : t.text ≡ edited e s.text
  pub place : ℕ
  pub first : ℕ
  pub many : ℕ
  pub returns : ReportsAgain (rereading_of s.words s.dir s.entries s.text t.text) 0 place t.entries first many t.words t.dir

makes : (s : State) (e : Edit) (t : State) → MakesByCall s e t → Makes s e t
makes s e t m =
    record {
      text = m.text;
      accepted = zero_accepts_again s.words s.dir s.entries s.text t.text m.place t.entries m.first m.many t.words t.dir m.returns;
    }

-- Two edits inside two different blocks, made by calls in either order: four calls that return 0.
pub either_order_of_calls : (W D place : ℕ) (s : State) → Reports (reading_of W D s.text) 0 place s.entries s.words s.dir
    → (i j : ℕ) → i < j → (a b : Edit) → InBlock s i a → InBlock s j b
    → (sa sab sb sba : State) → MakesByCall s a sa → MakesByCall sa (behind a b) sab → MakesByCall s b sb → MakesByCall sb a sba → SameRecords sab sba
unfolding Recorded
either_order_of_calls W D place s h i j l a b ia ib sa sab sb sba ma mab mb mba =
    either_order W D s (zero_accepts W D s.text place s.entries s.words s.dir h) i j l a b ia ib sa sab sb sba
    (makes s a sa ma) (makes sa (behind a b) sab mab) (makes s b sb mb) (makes sb a sba mba)
