-- 01, "Record words": how fields are packed into words of 64 bits.
-- Assumes nothing.
use Rattle.std.specs.Prelude.{List, ◌∷◌, ℕ, suc, ◌+◌, ◌*◌, ◌/◌, ◌%◌, ◌^◌, length}
use Rattle.records.specs.Limits.{half_limit}

-- a word of two halves, the first above: a name (start, length) and each word of a directory entry
unfoldable pub pack : ℕ → ℕ → ℕ
pack above below = above * half_limit + below

abbrev pub hi : ℕ → ℕ
hi x = x / half_limit

abbrev pub lo : ℕ → ℕ
lo x = x % half_limit

-- "Header: kind 8 bits, detail 8, number of direct children 16, words in the whole node 32."
abbrev pub header : ℕ → ℕ → ℕ → ℕ → ℕ
header kind d n size = kind * 2 ^ 56 + d * 2 ^ 48 + n * 2 ^ 32 + size

-- "A node is a header, its payload words, its children": kind, detail, number of direct children, all behind the header
unfoldable pub node : ℕ → ℕ → ℕ → List ℕ → List ℕ
node kind d n body = header kind d n (suc (length body)) ∷ body
