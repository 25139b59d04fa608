-- What the code holds of a program's run: the relations of code to programs. Their laws are in proofs/Laws.antt.
-- Assumes nothing.
use Rattle.std.specs.Prelude.{◌≡◌, List, [], ◌++◌, ℕ, ◌+◌, ◌*◌, ◌≤◌, ◌<◌, length, get_or, drop}
use Rattle.std.proofs.Common.{arith}
use Rattle.program.specs.Prog.{Prog, Res, ok, no_at, run}
use Rattle.lexer.specs.declared.Cursor.{Cursor}
use Rattle.lexer.specs.Parsed.{Parsed, Ok, Refused}

-- The list stands in front of the words, as far as these reach.
pub record Stands (l words : List ℕ) : Type 0 where
  pub same : (i : ℕ) → i < length l → i < length words → get_or words i 0 ≡ get_or l i 0

-- How many words may stand behind a place: `base`, and `rate` for each byte before it. So the count of words never wraps (2^32), and the
-- law of each reader is one on what its bytes pay for. A reader is one for every budget; which one a reading has is chosen at its top.
pub record Budget : Type 0 where
  pub base : ℕ
  pub rate : ℕ
  pub enough : 3 ≤ rate

-- The cursor is behind the words low and mid, with c words more paid for; p0 was where the words of low ended.
pub record At (b : Budget) (text : List ℕ) (p0 : Parsed) (c : ℕ) (low mid : List ℕ) (cur : Cursor) (words : List ℕ) : Type 0 where
  pub from : Cursor
  pub was : p0 ≡ Ok from
  pub base : from.w ≡ length low
  pub small : length text ≤ 16777216
  pub lid : b.base + b.rate * length text < 4294967296
  pub inside : cur.at ≤ length text
  pub count : cur.w ≡ length (low ++ mid)
  pub paid : length (low ++ mid) + c ≤ b.base + b.rate * cur.at
  pub stands : Stands (low ++ mid) words

-- The run's end and the code's answer.
pub data Ends {A : Type 0} (b : Budget) (text : List ℕ) (p0 : Parsed) (c : ℕ) (low : List ℕ) (mk : List ℕ → A) : Res A → Parsed → List ℕ → Type 0 where
  at : {ws : List ℕ} {cur : Cursor} {words : List ℕ} → At b text p0 c low ws cur words → Ends b text p0 c low mk (ok (mk ws) cur.at) (Ok cur) words
  out : {e q : ℕ} {words : List ℕ} → Ends b text p0 c low mk (no_at e q) (Refused e q) words

-- What may be said of a run's end and the code's answer: the budget, how many words are paid for, which stand in front, the run's result,
-- the answer, the words.
pub record Goal (A : Type 0) : Type 1 where
  pub ends : Budget → ℕ → List ℕ → Res A → Parsed → List ℕ → Type 0
  pub outs : (b : Budget) (k : ℕ) (low : List ℕ) (e q : ℕ) (words : List ℕ) → ends b k low (no_at e q) (Refused e q) words

-- the result is mk of what stands behind low
abbrev pub made : {A : Type 0} → (List ℕ → A) → List ℕ → Parsed → Goal A
made mk text p0 = record { ends = λ b k low r p words. Ends b text p0 k low mk r p words; outs = λ b k low e q words. out }

-- From p and words, where mid has been written since p0 and c words are paid for, the program f leads to p' and words', and goal g says what
-- holds there. A refusal is handed on.
pub record Leads {A : Type 0} (f : Prog A) (c : ℕ) (mid : List ℕ) (g : Goal A) (text : List ℕ) (p0 p : Parsed) (words : List ℕ) (p' : Parsed) (words' : List ℕ) : Type 0 where
  pub runs : (b : Budget) (low : List ℕ) (k : ℕ) (cur : Cursor) → p ≡ Ok cur → At b text p0 (c + k) low mid cur words → g.ends b k low (run f cur.at (drop cur.at text)) p' words'
  pub hands : (e q : ℕ) → p ≡ Refused e q → p' ≡ Refused e q

abbrev pub same : List ℕ → List ℕ
same ws = ws

-- a reader that writes what the program gives
abbrev pub Reads : Prog (List ℕ) → List ℕ → Parsed → List ℕ → Parsed → List ℕ → Type 0
Reads f text p words p' words' = Leads f 0 [] (made same text p) text p p words p' words'

-- The program goes on there as f of what stands behind low: the invariant of loops that write.
pub data Reached {A : Type 0} (b : Budget) (f : List ℕ → Prog A) (text : List ℕ) (p0 : Parsed) (k : ℕ) (low : List ℕ) : Res A → Parsed → List ℕ → Type 0 where
  there : {mid : List ℕ} {cur : Cursor} {words : List ℕ} → At b text p0 k low mid cur words → Reached b f text p0 k low (run (f mid) cur.at (drop cur.at text)) (Ok cur) words
  gone : {e q : ℕ} {words : List ℕ} → Reached b f text p0 k low (no_at e q) (Refused e q) words

abbrev pub reach : {A : Type 0} → (List ℕ → Prog A) → List ℕ → Parsed → Goal A
reach f text p0 = record { ends = λ b k low r p words. Reached b f text p0 k low r p words; outs = λ b k low e q words. gone }

-- Readers that write nothing: where they may begin.
pub record Inside (text : List ℕ) (cur : Cursor) : Type 0 where
  pub inside : cur.at ≤ length text
  pub small : length text ≤ 16777216

-- What may be said of the end of such a run from the place i, with w words: the run's result, the answer. It holds from an earlier place too.
pub record Aim (A : Type 0) : Type 1 where
  pub ends : ℕ → ℕ → Res A → Parsed → Type 0
  pub outs : (i w e q : ℕ) → ends i w (no_at e q) (Refused e q)
  pub sooner : (i j w : ℕ) (r : Res A) (p : Parsed) → i ≤ j → ends j w r p → ends i w r p

-- The program f leads from p to p', where g holds.
pub record Finds {A : Type 0} (f : Prog A) (g : Aim A) (text : List ℕ) (p p' : Parsed) : Type 0 where
  pub runs : (cur : Cursor) → p ≡ Ok cur → Inside text cur → g.ends cur.at cur.w (run f cur.at (drop cur.at text)) p'
  pub hands : (e q : ℕ) → p ≡ Refused e q → p' ≡ Refused e q

-- the result is a, and the words are as many as they were
pub data Gave {A : Type 0} (text : List ℕ) (a : A) (i w : ℕ) : Res A → Parsed → Type 0 where
  got : {cur : Cursor} → i ≤ cur.at → cur.at ≤ length text → cur.w ≡ w → Gave text a i w (ok a cur.at) (Ok cur)
  not : {e q : ℕ} → Gave text a i w (no_at e q) (Refused e q)

pub gave_sooner : {A : Type 0} {text : List ℕ} {a : A} (i j : ℕ) {w : ℕ} {r : Res A} {p : Parsed} → i ≤ j → Gave text a j w r p → Gave text a i w r p
gave_sooner i j l (got {cur = cur} h x y) = got {cur = cur} (omega arith) x y
gave_sooner i j l not = not

abbrev pub gave : {A : Type 0} → List ℕ → A → Aim A
gave text a = record { ends = λ i w r p. Gave text a i w r p; outs = λ i w e q. not; sooner = λ i j w r p l g. gave_sooner i j l g }

-- a reader that writes nothing and gives a
abbrev pub Gives : {A : Type 0} → Prog A → A → List ℕ → Parsed → Parsed → Type 0
Gives f a text p p' = Finds f (gave text a) text p p'

-- The program goes on there as g: the invariant of loops that write nothing.
pub data Came {A : Type 0} (text : List ℕ) (g : Prog A) (i w : ℕ) : Res A → Parsed → Type 0 where
  on : {cur : Cursor} → i ≤ cur.at → cur.at ≤ length text → cur.w ≡ w → Came text g i w (run g cur.at (drop cur.at text)) (Ok cur)
  off : {e q : ℕ} → Came text g i w (no_at e q) (Refused e q)

pub came_sooner : {A : Type 0} {text : List ℕ} {g : Prog A} (i j : ℕ) {w : ℕ} {r : Res A} {p : Parsed} → i ≤ j → Came text g j w r p → Came text g i w r p
came_sooner i j l (on {cur = cur} h x y) = on {cur = cur} (omega arith) x y
came_sooner i j l off = off

abbrev pub came : {A : Type 0} → List ℕ → Prog A → Aim A
came text g = record { ends = λ i w r p. Came text g i w r p; outs = λ i w e q. off; sooner = λ i j w r p l h. came_sooner i j l h }

abbrev pub Comes : {A : Type 0} → Prog A → Prog A → List ℕ → Parsed → Parsed → Type 0
Comes f g text p p' = Finds f (came text g) text p p'

-- Where the reader has come to p, the count m is k.
abbrev pub Counts : Parsed → ℕ → ℕ → Type 0
Counts p m k = (cur : Cursor) → p ≡ Ok cur → m ≡ k
