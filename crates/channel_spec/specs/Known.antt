-- Tables and calls, computed: what tables are refused for, and what the calls of accepted readings say, as 02's words give it.
-- Assumes nothing.
use Rattle.std.specs.Prelude.{◌≡◌, refl, true, false, List, [], ◌∷◌, ℕ}
use Rattle.std.proofs.Math.Option.{none, some}
use Rattle.program.specs.Bytes.{bytes}
use Rattle.records.specs.Words.{pack}
use Rattle.records.specs.Pieces.{Left, left, count, refused_at}
use Rattle.grammar.specs.Lexer.{unescape, spelled, same_word}
use Rattle.grammar.specs.Function.{reading_of}
use Rattle.grammar.specs.Readings.{answer}
use Rattle.trees.specs.Forms.{repeat, where_set, form_of, payload_length}
use Rattle.trees.specs.Steps.{kind_among, kind_of, step_to, behind_payload, child_of, next_of, part_of}
use Rattle.lexer_names.specs.Names.{is_quoted, raw_word}
use Rattle.record_steps.specs.Views.{text_of}
use Rattle.map_spec.specs.Blocks.{piece_text, name_in, first_node, behind_node}
use Rattle.channel_spec.specs.declared.Rule.{Rule}
use Rattle.channel_spec.specs.Told.{Told, Answer, Refused}
use Rattle.channel_spec.specs.declared.Fired.{Fired}
use Rattle.channel_spec.specs.declared.Fired.TheVariants.{Channel, Undecided, Nothing}
use Rattle.channel_spec.specs.Table.{is_bad, first_that, overlap, first_overlap, covers, covered, gap_from, first_gap, or_else, asked_place, judged, permits}
use Rattle.channel_spec.specs.Fires.{constant, is_fire, callee_place, child_at, calls_fire_at, constant_at, fire_in, fire_here, fires_from, fires_in, blocks_in, word_fires, nth}

-- class, first and last channel, and whether it may fire
abbrev rule : (c x y a : ℕ) → Rule
rule c x y a = record { account_class = c; allowed = a; first = x; last = y }

-- all channels of a class
abbrev all : ℕ → Rule
all c = rule c 0 65535 1

-- what is told of a table for a class, where 7 stands for the answer
abbrev told : ℕ → List Rule → Told
told c rs = judged c rs (Answer 7)

-- Rules 1 to 4 of class 2, with a gap at 12 and another at 20; rule 0 is of class 1.
abbrev gaps : List Rule
gaps = all 1 ∷ rule 2 0 9 0 ∷ rule 2 13 19 5 ∷ rule 2 10 11 1 ∷ rule 2 21 21 0 ∷ []

-- the calls of what a reading leaves
abbrev fires_left : List ℕ → Left → List Fired
fires_left text (left (count n) ws ds) = word_fires n text ws ds
fires_left text (left (refused_at q p) ws ds) = []

-- of a text, read in arrays that are long enough
abbrev fires : List ℕ → List Fired
fires text = fires_left text (reading_of 60 15 text)

pub known_rulings :
    -- The refusals. The class asked for, before any rule
    (told 4 (rule 4 9 8 0 ∷ []) ≡ Refused 23 0)
    -- a class above 3, and a first channel above the last, before any overlap
    × (told 3 (all 0 ∷ rule 4 1 2 0 ∷ all 0 ∷ []) ≡ Refused 23 1)
    × (told 0 (all 0 ∷ all 0 ∷ rule 3 8 9 1 ∷ rule 2 9 8 0 ∷ rule 5 0 0 0 ∷ []) ≡ Refused 23 3)
    -- the pair lowest by earlier, then later: 0 and 5, not 1 and 4; and of rule 0's pairs that with 2, not that with 3
    × (told 2 (all 0 ∷ all 1 ∷ all 2 ∷ all 3 ∷ rule 1 5 6 0 ∷ rule 0 7 9 0 ∷ []) ≡ Refused 24 5)
    × (told 1 (rule 1 5 9 0 ∷ rule 0 5 9 0 ∷ rule 1 9 12 0 ∷ rule 1 4 5 1 ∷ []) ≡ Refused 24 2)
    -- one channel shared, the first of one and the last of the other; the only channel of both
    × (told 1 (rule 2 3 4 0 ∷ rule 1 10 20 0 ∷ rule 1 5 10 0 ∷ []) ≡ Refused 24 2)
    × (told 1 (rule 3 7 7 0 ∷ rule 3 7 7 1 ∷ []) ≡ Refused 24 1)
    -- no rules at all; the lowest channel that is not covered, at the front and between two rules that stand in another order
    × (told 0 [] ≡ Refused 25 0)
    × (told 3 (rule 0 1 65535 1 ∷ []) ≡ Refused 25 0)
    × (told 0 (rule 0 5 9 1 ∷ rule 1 0 65535 0 ∷ rule 0 0 3 1 ∷ []) ≡ Refused 25 4)
    -- in class 2: 2 × 65,536 + 12; from 13 on + 20; and none below that
    × (gap_from 30 2 0 gaps ≡ some 131084)
    × (gap_from 9 2 13 gaps ≡ some 131092)
    × (gap_from 7 2 13 gaps ≡ none)
    -- What a table says. The rule of the class, its first and its last channel too; `allowed` 0 is no, all else yes
    × (permits 1 12 gaps ≡ true)
    × (permits 2 13 gaps ≡ true)
    × (permits 2 19 gaps ≡ true)
    × (permits 2 9 gaps ≡ false)
    × (permits 2 11 gaps ≡ true)
    -- The calls. The name with quotes and escapes undone
    × (fires (bytes "void @f(){call void @fire(i16 7)ret void}") ≡ Channel 7 ∷ [])
    × (fires (bytes "void @f(){call void @\"fire\"(i16 8)ret void}") ≡ Channel 8 ∷ [])
    × (fires (bytes "void @f(){call void @\"\\66ire\"(i16 9)ret void}") ≡ Channel 9 ∷ [])
    -- "absent or not an integer constant from 0 to 65,535": as it is written, whatever its type
    × (fires (bytes "void @f(){call void @fire()ret void}") ≡ Undecided ∷ [])
    × (fires (bytes "void @f(){call void @fire(i8 300)ret void}") ≡ Channel 300 ∷ [])
    × (fires (bytes "void @f(){call void @fire(i16 -1)ret void}") ≡ Undecided ∷ [])
    × (fires (bytes "void @f(){call void @fire(i32 65535)call void @fire(i32 65536)ret void}") ≡ Channel 65535 ∷ Undecided ∷ [])
    × (fires (bytes "void @f(){call void @fire(i1 true)call void @fire(i128 18446744073709551617)call void @fire(i8 undef)ret void}") ≡ Channel 1 ∷ Undecided ∷ Undecided ∷ [])
    × (fires (bytes "void @f(i16 %a){call void @fire(i16 %a,i16 3)ret void}") ≡ Undecided ∷ [])
    -- other callees, and `@fire` as an argument
    × (fires (bytes "void @f(){call void @fires(i16 7)call void @fir(i16 7)call void %fire(i16 7)call void @g(ptr @fire,i16 7)ret void}") ≡ [])
    -- behind a function type; in order, over blocks; the first argument, not the second
    × (fires (bytes "void @f(){%x=call i8(i16,...)@fire(i16 1,i16 2)br label %b b:tail call void @fire(i16 3)ret void}") ≡ Channel 1 ∷ Channel 3 ∷ [])
    × (nth 1 (Channel 1 ∷ Undecided ∷ []) ≡ Undecided)
    × (nth 2 (Channel 1 ∷ Undecided ∷ []) ≡ Nothing)
unfolding answer reading_of pack unescape spelled same_word repeat where_set form_of payload_length kind_among kind_of step_to behind_payload child_of next_of part_of is_quoted raw_word text_of piece_text name_in first_node behind_node is_bad first_that overlap first_overlap covers covered gap_from first_gap or_else asked_place judged permits constant is_fire callee_place child_at calls_fire_at constant_at fire_in fire_here fires_from fires_in blocks_in word_fires nth
known_rulings =
    (refl, refl, refl, refl, refl, refl, refl, refl, refl, refl, refl, refl, refl, refl, refl, refl, refl, refl, refl, refl, refl, refl, refl, refl, refl, refl, refl, refl, refl, refl, refl)
