-- 01, "Detail": "one bit per bool or optional field, the first lowest", and the head's.
-- Assumes nothing.
use Rattle.std.specs.Prelude.{ℕ}

-- "the `Linkage` rank (10 when unwritten)"
abbrev pub no_linkage : ℕ
no_linkage = 10

-- "plus 128 for varargs"
abbrev pub d_varargs : ℕ
d_varargs = 128

-- nothing that may be there is there
abbrev pub d_none : ℕ
d_none = 0

-- a packed struct; a vector, which is a packed array
abbrev pub d_packed : ℕ
d_packed = 1

-- a function type that ends in `...`
abbrev pub d_dots : ℕ
d_dots = 1

-- a getelementptr with `inbounds`
abbrev pub d_inbounds : ℕ
d_inbounds = 1

-- a load or store with an alignment
abbrev pub d_align : ℕ
d_align = 1

-- an alloca with a count
abbrev pub d_count : ℕ
d_count = 1

-- an alloca with an alignment
abbrev pub d_alloca_align : ℕ
d_alloca_align = 2

-- a call with a function type
abbrev pub d_function_type : ℕ
d_function_type = 1

-- a branch with a condition and two targets
abbrev pub d_condition : ℕ
d_condition = 3

-- a parameter with a name
abbrev pub d_named : ℕ
d_named = 1

-- a `ret` with a value
abbrev pub d_value : ℕ
d_value = 1
