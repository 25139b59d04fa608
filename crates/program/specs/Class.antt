-- 01: "One table of 256 entries gives each byte its classes: white space, digit value, name character, word character."
-- The class is one number, so that every question about a byte is a comparison: below HEX a hexadecimal digit and its value, WORD any other
-- letter or `_`, NAME one of `.` `-` `$`, SPACE white space, OTHER any other.
-- Assumes nothing.
use Rattle.std.specs.Prelude.{Bool, ◌||◌, ◌&&◌, ℕ, ◌-◌, leb, eqb, ltb}
use Rattle.program.specs.Bytes.{byte}
use Rattle.program.specs.Choice.{pick}

abbrev pub inside : ℕ → ℕ → ℕ → Bool
inside lo hi b = leb lo b && leb b hi

-- the classes below are the digits of base ten, and those of base sixteen
abbrev pub DIGIT : ℕ
DIGIT = 10

abbrev pub HEX : ℕ
HEX = 16

-- the classes up to here are the letters, digits and `_`, and those with `.` `-` `$` too
abbrev pub WORD : ℕ
WORD = 16

abbrev pub NAME : ℕ
NAME = 17

abbrev pub SPACE : ℕ
SPACE = 18

abbrev pub OTHER : ℕ
OTHER = 19

unfoldable pub class_of : ℕ → ℕ
class_of b =
    pick (inside (byte "0") (byte "9") b) (b - byte "0")
    (pick (inside (byte "a") (byte "f") b) (b - (byte "a" - 10))
    (pick (inside (byte "A") (byte "F") b) (b - (byte "A" - 10))
    (pick (inside (byte "a") (byte "z") b || (inside (byte "A") (byte "Z") b || eqb b (byte "_"))) WORD
    (pick (eqb b (byte ".") || (eqb b (byte "-") || eqb b (byte "$"))) NAME
    (pick (eqb b (byte " ") || (eqb b (byte "\t") || (eqb b (byte "\n") || (eqb b (byte "\u{c}") || eqb b (byte "\r"))))) SPACE
    OTHER)))))

-- 01: "White space is space, tab, line feed, form feed, carriage return" (`char::is_ascii_whitespace`)
unfoldable pub is_space : ℕ → Bool
is_space b = eqb (class_of b) SPACE

unfoldable pub is_digit : ℕ → Bool
is_digit b = ltb (class_of b) DIGIT

unfoldable pub is_hex : ℕ → Bool
is_hex b = ltb (class_of b) HEX

-- 01: "a letter, digit or `_`" (`is_ident_ch`)
unfoldable pub is_word : ℕ → Bool
is_word b = leb (class_of b) WORD

-- the bytes of an unquoted name (`read_word`)
unfoldable pub is_name : ℕ → Bool
is_name b = leb (class_of b) NAME
