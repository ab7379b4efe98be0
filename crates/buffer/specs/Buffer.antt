-- The lent work buffer as its lender sees it: its length, and what an answer leaves of it (document 01, "Turned back, by number").
-- Assumes nothing.
use Rattle.std.specs.Prelude.{List, ◌++◌, ℕ, drop, replicate}

-- the bytes that a call may use
abbrev pub work_size : ℕ
work_size = 65536

-- n zeros and the rest of a list
unfoldable pub filled : ℕ → List ℕ → List ℕ
filled n l = replicate n 0 ++ drop n l

-- the buffer after an answer: "its first 65,536 bytes are zero and the rest unchanged"
unfoldable pub cleared : List ℕ → List ℕ
unfolding filled
cleared l = filled work_size l
