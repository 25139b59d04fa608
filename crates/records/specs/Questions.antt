-- 01, "The questions, first no decides": the number of each. A refusal names the question that says no.
-- Assumes nothing.
use Rattle.std.specs.Prelude.{ℕ}

-- Of the whole text, in re-reading the newer:
abbrev pub q_length : ℕ  -- At most 16,777,216 bytes? (place: that number)
q_length = 1

abbrev pub q_ascii : ℕ  -- Every byte at most 127? (its place)
q_ascii = 2

-- In reading order, at the lexer's cursor:
abbrev pub q_token : ℕ  -- Is the required token, keyword, sigil or name there?
q_token = 3

abbrev pub q_digit : ℕ  -- Is a digit there?
q_digit = 4

abbrev pub q_type : ℕ  -- A type?
q_type = 5

abbrev pub q_value : ℕ  -- A known value form?
q_value = 6

abbrev pub q_literal : ℕ  -- Is the numeral, `0x` or `f0x` literal valid, an integer within signed 128 bits?
q_literal = 7

abbrev pub q_statement : ℕ  -- Does the statement start with a word?
q_statement = 8

abbrev pub q_opcode : ℕ  -- Is its opcode known?
q_opcode = 9

abbrev pub q_predicate : ℕ  -- Is the predicate known?
q_predicate = 10

abbrev pub q_trailing : ℕ  -- Is the trailing operand `align` or `!`?
q_trailing = 11

abbrev pub q_case : ℕ  -- Is the switch case an integer?
q_case = 12

abbrev pub q_closed : ℕ  -- Are quotes, parentheses, braces closed? (a quoted name also stops at byte 0)
q_closed = 13

abbrev pub q_escape : ℕ  -- Is the escape valid?
q_escape = 14

-- (15: at the first digit, as M-105 has it; those behind `#` are skipped unjudged)
abbrev pub q_number : ℕ  -- Integer width 1 to 8,388,608, index below 2^32, other numbers below 2^64?
q_number = 15

abbrev pub q_depth : ℕ  -- Is the depth at most `depth_limit`? (asked before 5 and 6, at the first character)
q_depth = 16

abbrev pub q_decimal : ℕ  -- Is a valid decimal supported?
q_decimal = 17

abbrev pub q_left_out : ℕ  -- No quoted attribute? (M-100: "18 now means a quoted attribute alone")
q_left_out = 18

-- (19: behind the next; a dropped type list counts with its return type, the tail has no node)
abbrev pub q_children : ℕ  -- At most 65,535 direct children?
q_children = 19

-- (26, in reading order with 3 to 19: M-106, "number below the counter, not below 2^32, or label behind an instruction"; behind the name, behind a
-- parameter or call that takes the next number, or before the block's first statement)
abbrev pub q_counter : ℕ  -- Is the number not below the counter and below 2^32, and no label behind an instruction?
q_counter = 26

-- At the end of a piece read or kept behind:
abbrev pub q_words : ℕ  -- Do its words end inside the array and below 2^32?
q_words = 20

abbrev pub q_entries : ℕ  -- Then: its entry?
q_entries = 21

-- Re-reading only, place 0, asked behind 1 and 2: Does the older directory, whose entry count is lent, have at least 2 entries within its array,
-- the first starting at 0 in text and words, each starting where the last ended, ending inside older text and words? M-106: is each counter at most
-- 2^32?
abbrev pub q_older : ℕ
q_older = 22

-- Writing a text into a lent buffer, place 0 (M-109; "27: the text is longer than the lent buffer or 16,777,216 bytes"):
abbrev pub q_output : ℕ  -- Has the text at most as many bytes as the buffer, and at most 16,777,216?
q_output = 27

-- Of a table of rules, in this order, before any function (M-102):
abbrev pub q_rule : ℕ  -- Is the class asked for at most 3 (place 0), and each rule's too, with its first channel not above its last (its number)?
q_rule = 23

abbrev pub q_overlap : ℕ  -- Do no two rules of a class share a channel? (the later's number, "of the pair lowest by earlier, then later")
q_overlap = 24

abbrev pub q_gap : ℕ  -- Does each class cover all channels? ("the lowest class × 65,536 + channel")
q_gap = 25
