-- Maps of accepted readings, one table, computed: the text of a function, from behind `define`, and its map, as 02's words give it.
-- Assumes nothing.
use Rattle.std.specs.Prelude.{◌≡◌, refl, List, [], ℕ}
use Rattle.program.specs.Bytes.{bytes}
use Rattle.records.specs.Words.{pack}
use Rattle.records.specs.Pieces.{Left, left, count, refused_at}
use Rattle.grammar.specs.Lexer.{unescape, spelled}
use Rattle.grammar.specs.Function.{reading_of}
use Rattle.grammar.specs.Readings.{answer}
use Rattle.grammar.specs.Numbered.{block_number}
use Rattle.trees.specs.Forms.{repeat, where_set, form_of, payload_length}
use Rattle.trees.specs.Steps.{kind_among, kind_of, step_to, behind_payload, child_of, next_of, part_of}
use Rattle.lexer_names.specs.Names.{is_quoted, raw_word}
use Rattle.record_steps.specs.Views.{text_of}
use Rattle.buffer.specs.Decimal.{digits_in, decimal}
use Rattle.map_spec.specs.Drawing.{hex_digit, is_plain, escape, letter, letters, in_quotes, node_line, edge_line, node_of, edges_to, edges_of, lines_of, drawing}
use Rattle.map_spec.specs.Blocks.{piece_text, name_in, block_name, branches, name_here, names_from, last_from, targets_at, targets_in, first_node, behind_node, blocks_from, blocks_in, map_in}

-- the map of what a reading leaves
abbrev map_left : List ℕ → Left → List ℕ
map_left text (left (count n) ws ds) = map_in n text ws ds
map_left text (left (refused_at q p) ws ds) = []

-- of a text, read in arrays that are long enough
abbrev mapped : List ℕ → List ℕ
mapped text = map_left text (reading_of 40 15 text)

pub known_maps :
    -- no block
    (mapped (bytes "void @f(){}") ≡ bytes "digraph {\n}\n")
    -- a number and a name that are the same bytes; a target
    × (mapped (bytes "void @f(){ret void \"0\":br label %0}") ≡ bytes "digraph {\n\"0\"\n\"0\"\n\"0\" -> \"0\"\n}\n")
    -- true before false, repeats kept, a target without a block; a number behind a parameter's
    × (mapped (bytes "void @f(i1){br i1 %0,label %b,label %b a:ret void}") ≡ bytes "digraph {\n\"1\"\n\"a\"\n\"1\" -> \"b\"\n\"1\" -> \"b\"\n}\n")
    -- default before cases
    × (mapped (bytes "void @f(){x:switch i8 1,label %y[i8 2,label %x i8 3,label %x]}") ≡ bytes "digraph {\n\"x\"\n\"x\" -> \"y\"\n\"x\" -> \"x\"\n\"x\" -> \"x\"\n}\n")
    -- escapes undone, and a quote, a backslash, a byte 0, a byte 31 and a byte 255 escaped; others as they are
    × (mapped (bytes "void @f(){\"\\22\\\\\\00\\1f\\FF~ \\41\":unreachable}") ≡ bytes "digraph {\n\"\\\\22\\\\5C\\\\00\\\\1F\\\\FF~ A\"\n}\n")
    -- labels of `phi` are no targets; the tail is no block; a label keeps its bytes
    × (mapped (bytes "void @f(){007:%p=phi i8[1,%q]ret void z:}") ≡ bytes "digraph {\n\"007\"\n}\n")
unfolding answer reading_of pack unescape spelled block_number repeat where_set form_of payload_length kind_among kind_of step_to behind_payload child_of next_of part_of is_quoted raw_word text_of digits_in decimal hex_digit is_plain escape letter letters in_quotes node_line edge_line node_of edges_to edges_of lines_of drawing piece_text name_in block_name branches name_here names_from last_from targets_at targets_in first_node behind_node blocks_from blocks_in map_in
known_maps = (refl, refl, refl, refl, refl, refl)
