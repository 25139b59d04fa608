-- The limits of 01's questions.
-- Assumes nothing.
use Rattle.std.specs.Prelude.{ℕ, ◌+◌, ◌-◌}

-- questions 1 and 27: the most bytes of a text, be it read or written
abbrev pub text_limit : ℕ
text_limit = 16777216

-- question 2: the largest byte
abbrev pub byte_limit : ℕ
byte_limit = 127

-- turns of a loop, more than a text has bytes: each takes a byte, so none runs out
abbrev pub turns : ℕ
turns = text_limit + 1

-- question 15: the largest integer width
abbrev pub width_limit : ℕ
width_limit = 8388608

-- question 15: the largest index
abbrev pub index_limit : ℕ
index_limit = 4294967295

-- question 15: the largest other number
abbrev pub number_limit : ℕ
number_limit = 18446744073709551615

-- question 16: the deepest level of types and values (M-108)
abbrev pub depth_limit : ℕ
depth_limit = 19

-- levels below an outermost type
abbrev pub list_depth : ℕ
list_depth = depth_limit - 1

-- question 19: the most direct children of a node
abbrev pub child_limit : ℕ
child_limit = 65535

-- turns of a list, each of which has a child: question 19 refuses before they run out
abbrev pub list_turns : ℕ
list_turns = child_limit + 1

-- question 20: words end below it; half a word is below it
abbrev pub half_limit : ℕ
half_limit = 4294967296

-- question 26: the most that the counter can be (M-106); numbers are below it
abbrev pub counter_limit : ℕ
counter_limit = 4294967296

-- question 21: the words of a directory entry (M-106: "Directory entries gain a third word")
abbrev pub entry_words : ℕ
entry_words = 3

-- questions 23 to 25: the highest class, and the highest channel (M-102: "class 0 to 3", "channels 0 to 65,535")
abbrev pub class_limit : ℕ
class_limit = 3

abbrev pub channel_limit : ℕ
channel_limit = 65535
