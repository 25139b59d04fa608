-- What the code holds of a piece that was read: the answer, and the words that it left, as far as these reach.
-- Assumes nothing.
use Rattle.std.specs.Prelude.{◌≡◌, List, ℕ, ◌<◌, length, get_or, Result, Ok, Err}
use Rattle.records.specs.Pieces.{HeadRead, head, bad_head, BlockRead, block, tail, bad_block}
use Rattle.records.specs.declared.Refusal.{Refusal}
use Rattle.piece_directory.specs.declared.pieces.Piece.{Piece}
use Rattle.piece_directory.specs.declared.pieces.Piece.TheVariants.{Read, Tail}
use Rattle.piece_directory.specs.declared.pieces.Size.{Size}

-- The words of a piece stand in front of an array, as far as it reaches.
pub record Holds (ws words : List ℕ) : Type 0 where
  pub same : (i : ℕ) → i < length ws → i < length words → get_or words i 0 ≡ get_or ws i 0

pub data HeadIs : HeadRead → Result Piece Refusal → List ℕ → Type 0 where
  is_head : {z : Size} {d : ℕ} {ws words : List ℕ} → z.words ≡ length ws → Holds ws words → HeadIs (head z.bytes d ws) (Ok (Read z d)) words
  no_head : {r : Refusal} {words : List ℕ} → HeadIs (bad_head r.question r.place) (Err r) words

pub data BlockIs : BlockRead → Result Piece Refusal → List ℕ → Type 0 where
  is_block : {z : Size} {d : ℕ} {ws words : List ℕ} → z.words ≡ length ws → Holds ws words → BlockIs (block z.bytes d ws) (Ok (Read z d)) words
  is_tail_lem : {e : ℕ} {words : List ℕ} → BlockIs (tail e) (Ok (Tail e)) words
  no_block : {r : Refusal} {words : List ℕ} → BlockIs (bad_block r.question r.place) (Err r) words
